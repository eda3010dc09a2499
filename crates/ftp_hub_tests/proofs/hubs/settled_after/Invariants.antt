use Rattle.ftp_hub_tests.proofs.hubs.settled_after.Given as goal

-- the server's options are those handed in
abbrev pub ghosts-settled_on-L-Serving : goal.ghosts-settled_on-L-Serving
ghosts-settled_on-L-Serving g a = record { options = a.options }

-- its ledger is that of the blank
abbrev pub ghosts-settled_on-L-Ledger : goal.ghosts-settled_on-L-Ledger
ghosts-settled_on-L-Ledger g a = record { name = a.blank.name; parts = a.blank.parts }
