use Rattle.hk_tests.proofs.tests.node.threads.readers_beside_a_writer.Given as goal

abbrev pub ghosts-beside : goal.ghosts-beside
ghosts-beside g a = record { book = a.list.0; kind = a.list.1 }
