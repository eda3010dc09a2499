use Rattle.std.proofs.Common.{◌≡◌, sym, ap, subst, ◌∙◌, ◌∷◌, List, true}
use Rattle.ftp_hub.proofs.Common.{Entry, HubEvent, IsRight, Options, is_linked, options_of, past_of}
use Rattle.ftp_events.specs.Covers.{is_covered}
use Rattle.ftp_events.specs.Leads.{HasLinks}
use Rattle.ftp_hub.proofs.Links.{has_link_of-due, links-more}
use Rattle.ftp_hub.proofs.Runs.{goes-on-one, leads-one}
use Rattle.ftp_hub.proofs.run.run_next.Goals as goal

-- the log has one entry more, of the copied event
pub returns-clause-event : goal.returns-clause-event
returns-clause-event g c =
    goes-on-one c.args.log.now.entries c.keep.new.log.entries c.in_ok-entry.entry c.args.event.now
    (c.keep.ensures ∙ ap (λ log. c.in_ok-entry.entry ∷ log) c.make_room.ensures.same)
    (c.in_ok-entry.ensures.event ∙ c.in-Ok.ensures)

-- the entry did to storage and links what it says
pub returns-clause-leads : goal.returns-clause-leads
returns-clause-leads g c st has =
    let o = options_of c.args.hub.now in
    let log = c.args.log.now.entries in
    leads-one _ o log c.keep.new.log.entries c.in_ok-entry.entry _ _
    (c.keep.ensures ∙ ap (λ log. c.in_ok-entry.entry ∷ log) c.make_room.ensures.same)
    (c.in_ok-entry.ensures.leads log st (has_link_of-due o (past_of log) _ c.args.links.now has))

-- each session and each job still has its link
pub returns-clause-has_links : goal.returns-clause-has_links
returns-clause-has_links g c st has =
    let o = options_of c.args.hub.now in
    let log = c.args.log.now.entries in
    let e = c.in_ok-entry.entry in
    let pushed : c.keep.new.log.entries ≡ e ∷ log =
    c.keep.ensures ∙ ap (λ log. e ∷ log) c.make_room.ensures.same
    in
    let same : e.event ≡ c.args.event.now = c.in_ok-entry.ensures.event ∙ c.in-Ok.ensures in
    let covered : is_covered (is_linked c.args.links.now) e.event.kind ≡ true =
    ap (λ (e : HubEvent). is_covered (is_linked c.args.links.now) e.kind) same ∙ c.requires.covered
    in
    let right : IsRight o (e ∷ log) =
    subst (λ (o : Options). IsRight o (e ∷ log)) c.run_event.ensures.options (c.in_ok-entry.ensures.stands log st).right
    in
    subst (λ (log : List Entry). HasLinks o (past_of log) c.run_event.new.links) (sym pushed)
    (links-more o e log c.args.links.now c.run_event.new.links right has covered c.in_ok-entry.ensures.linked)
