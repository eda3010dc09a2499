use Rattle.ftp_listen.proofs.single.serve_one.Given as goal

-- the server's options are those in legacy mode
abbrev pub ghosts-serve_inside-L-Serving : goal.ghosts-serve_inside-L-Serving
ghosts-serve_inside-L-Serving g a = record { options = a.options }

-- its ledger is that of the blank
abbrev pub ghosts-serve_inside-L-Ledger : goal.ghosts-serve_inside-L-Ledger
ghosts-serve_inside-L-Ledger g a = record { name = a.blank.name; parts = a.blank.parts }
