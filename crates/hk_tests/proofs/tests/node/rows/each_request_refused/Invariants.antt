use Rattle.hk_tests.proofs.tests.node.rows.each_request_refused.Given as goal

abbrev pub ghosts-steps : goal.ghosts-steps
ghosts-steps g a = record { book = a.list.0; kind = a.list.1 }
