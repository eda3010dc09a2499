use Rattle.ftp_bench.proofs.shared.share_all.Given as goal

-- the server's options are those handed in
abbrev pub ghosts-share_branded-L-Serving : goal.ghosts-share_branded-L-Serving
ghosts-share_branded-L-Serving g a = record { options = a.options }

-- its ledger is that of the blank
abbrev pub ghosts-share_branded-L-Ledger : goal.ghosts-share_branded-L-Ledger
ghosts-share_branded-L-Ledger g a = record { name = a.blank.name; parts = a.blank.parts }
