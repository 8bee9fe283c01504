use Rattle.hk_tests.proofs.tests.primary.sharing.two_threads_commit.Given as goal

abbrev pub ghosts-both_commit-K-Naming : goal.ghosts-both_commit-K-Naming
ghosts-both_commit-K-Naming g a = record { config = a.config; after = 0 }

abbrev pub ghosts-both_commit-K-Ledger : goal.ghosts-both_commit-K-Ledger
ghosts-both_commit-K-Ledger g a = record { name = a.blank.name; parts = a.blank.parts }
