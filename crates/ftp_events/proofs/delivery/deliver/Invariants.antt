use Rattle.std.proofs.Common.{take, filter_map}
use Rattle.ftp_events.specs.Delivery.{HearsAll, data_told, presence_told}
use Rattle.ftp_events.proofs.delivery.deliver.Given as goal

-- what the actions so far told was heard
abbrev pub invariant-loop-action : goal.invariant-loop-action
invariant-loop-action g l =
    HearsAll (g.D.DataListener.heard l.initial.d) (g.D.DataListener.heard l.d) (filter_map data_told (take l.action-index l.action-items))
    × HearsAll (g.P.PresenceListener.heard l.initial.p) (g.P.PresenceListener.heard l.p) (filter_map presence_told (take l.action-index l.action-items))
