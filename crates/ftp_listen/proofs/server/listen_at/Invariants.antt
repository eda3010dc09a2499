use Rattle.ftp_listen.proofs.server.listen_at.Given as goal

-- the server's options are those handed in
abbrev pub ghosts-run_server-L-Serving : goal.ghosts-run_server-L-Serving
ghosts-run_server-L-Serving g a = record { options = a.options }

-- its ledger is that of the blank
abbrev pub ghosts-run_server-L-Ledger : goal.ghosts-run_server-L-Ledger
ghosts-run_server-L-Ledger g a = record { name = a.blank.name; parts = a.blank.parts }
