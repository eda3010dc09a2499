use Rattle.ftp_hub_tests.proofs.cutting.tail_over.Given as goal

-- the server's options are those handed in
abbrev pub ghosts-connect_over-L-Serving : goal.ghosts-connect_over-L-Serving
ghosts-connect_over-L-Serving g a = record { options = a.options }
