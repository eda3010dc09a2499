use Rattle.ftp_hub_tests.proofs.cutting.handed_late.Given as goal

-- the server's options are those handed in
abbrev pub ghosts-hand_late-L-Serving : goal.ghosts-hand_late-L-Serving
ghosts-hand_late-L-Serving g a = record { options = a.options }
