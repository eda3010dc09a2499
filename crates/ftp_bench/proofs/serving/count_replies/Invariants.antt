use Rattle.ftp_bench.proofs.serving.count_replies.Given as goal

-- the server's options are those handed in
abbrev pub ghosts-serve-L-Serving : goal.ghosts-serve-L-Serving
ghosts-serve-L-Serving a = record { options = a.options }

-- its ledger is that of the blank
abbrev pub ghosts-serve-L-Ledger : goal.ghosts-serve-L-Ledger
ghosts-serve-L-Ledger a = record { name = a.blank.name; parts = a.blank.parts }
