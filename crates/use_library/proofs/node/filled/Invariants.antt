use Rattle.use_library.proofs.node.filled.Given as goal

abbrev pub ghosts-told : goal.ghosts-told
ghosts-told g a = record { book = a.list.0; kind = a.list.1 }
