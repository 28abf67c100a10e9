use Rattle.wf_board.proofs.board.Board.searched.Given as goal

abbrev pub ghosts-add_refuted : goal.ghosts-add_refuted
ghosts-add_refuted a = record { branch = a.branch }
