use Rattle.ftp_hub_tests.proofs.talk.talk.Given as goal

-- the server's options are those handed in
abbrev pub ghosts-talk_at-L-Serving : goal.ghosts-talk_at-L-Serving
ghosts-talk_at-L-Serving g a = record { options = a.options }

-- its ledger is that of the blank
abbrev pub ghosts-talk_at-L-Ledger : goal.ghosts-talk_at-L-Ledger
ghosts-talk_at-L-Ledger g a = record { name = a.blank.name; parts = a.blank.parts }
