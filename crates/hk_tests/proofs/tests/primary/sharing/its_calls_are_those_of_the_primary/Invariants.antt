use Rattle.hk_tests.proofs.tests.primary.sharing.its_calls_are_those_of_the_primary.Given as goal

abbrev pub ghosts-told-K-Naming : goal.ghosts-told-K-Naming
ghosts-told-K-Naming g a = record { config = a.config; after = a.after }

abbrev pub ghosts-told-K-Ledger : goal.ghosts-told-K-Ledger
ghosts-told-K-Ledger g a = record { name = a.blank.name; parts = a.blank.parts }
