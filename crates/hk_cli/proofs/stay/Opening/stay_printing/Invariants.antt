use Rattle.hk_cli.proofs.stay.Opening.stay_printing.Given as goal

abbrev pub ghosts-stay_list : goal.ghosts-stay_list
ghosts-stay_list g a = record { book = a.list.0; kind = a.list.1 }
