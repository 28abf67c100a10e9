use Rattle.wf_board.proofs.board.Board.cut.Given as goal

abbrev pub ghosts-add_cut : goal.ghosts-add_cut
ghosts-add_cut a = record { branch = a.branch }
