use Rattle.hk_cli.proofs.serve.run_serve.Given as goal

abbrev pub ghosts-serve_list : goal.ghosts-serve_list
ghosts-serve_list g a = record { book = a.list.0; kind = a.list.1 }
