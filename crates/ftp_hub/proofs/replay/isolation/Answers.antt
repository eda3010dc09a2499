use Rattle.std.proofs.Common.{◌≡◌, ◌<◌, ◌≤◌, ◌+◌, ◌∷◌, ◌∙◌, sym, ap, subst, arith, ℕ, List, length, get_or, take, reverse}
use Rattle.std.proofs.lemmas.Grind.{common_steps}
use Rattle.ftp_base.specs.declared.net.IpAddr.{IpAddr}
use Rattle.ftp_base.specs.declared.net.IpAddr.TheVariants.{V4}
use Rattle.ftp_options.specs.declared.options.Options.{Options}
use Rattle.ftp_events.specs.declared.entry.Entry.{Entry}
use Rattle.ftp_events.specs.declared.event.Answer.{Answer}
use Rattle.ftp_events.specs.declared.event.HubEvent.{HubEvent}
use Rattle.ftp_events.specs.Isolation.{client_log}
use Rattle.ftp_events.specs.Right.{events_of, log_of}
use Rattle.ftp_laws.specs.Alone.{SameServed}
use Rattle.ftp_laws.proofs.AloneLemmas.{client-alone, client-served}
use Rattle.ftp_laws.proofs.LogLemmas.{log_of-events_of}
use Rattle.ftp_hub.specs.declared.hub.Hub.{Hub}
use Rattle.ftp_hub.specs.Stands.{Stands, options_of}
use Rattle.ftp_hub.specs.OwnSessions.{Knows}
use Rattle.ftp_hub.proofs.replay.isolation.Goals as goal

-- a hub that stands for a log of given events stands for their right and acted log
stands-log_of :
    (hub : Hub) (o : Options) (log part : List Entry) →
    Stands hub log → options_of hub ≡ o →
    events_of log ≡ events_of part →
    log_of o (events_of part) ≡ log
stands-log_of hub o log part st same events =
    ap (λ told. log_of o told) (sym events)
    ∙ subst (λ (o : Options). log_of o (events_of log) ≡ log) same (log_of-events_of (options_of hub) log st.right st.acted)

-- the entries that come before a place, and the one at that place
next-entry :
    (items : List Entry) (i : ℕ) (e : Entry) →
    i < length items → e ≡ get_or items i e →
    reverse (take (i + 1) items) ≡ e ∷ reverse (take i items)
next-entry items i e within here = grind (arith, common_steps)

-- one more entry
pub loop-e-preserved : goal.loop-e-preserved
loop-e-preserved c =
    let so_far = c.loop-e.invariant in
    let own = c.loop-e.own in
    let items = c.as_slice-e-items.result.now in
    let i = c.loop-e.e-index in
    let before : List Entry = reverse (take i items) in
    let new = c.follow.new.alone.entries in
    let next : reverse (take (i + 1) items) ≡ c.e-item.result ∷ before = next-entry items i c.e-item.result c.loop-e-test.true c.e-item.is in
    let told : events_of new ≡ events_of (client_log (c.e-item.result ∷ before) own.client) =
    c.in_ok-follow.ensures.same_events before so_far.knows
    (so_far.same_events ∙ ap (λ a. events_of (client_log before a)) (sym so_far.client))
    in
    record {
      client = c.note.ensures.client ∙ so_far.client;
      knows = subst (λ (log : List Entry). Knows c.note.new.self log) (sym next) (c.in_ok-note.ensures.knows before so_far.knows);
      same_events =
          told
          ∙ ap (λ a. events_of (client_log (c.e-item.result ∷ before) a)) so_far.client
          ∙ ap (λ (log : List Entry). events_of (client_log log (V4 c.args.source))) (sym next);
      stands = c.in_ok-follow.ensures.stands so_far.stands;
      options = c.follow.ensures.options ∙ so_far.options;
      count = omega (arith, c.in_ok-follow.ensures.count, so_far.count);
    }

-- the log of all entries that were lent
whole :
    (log items : List Entry) (i : ℕ) (a : IpAddr) (told : List (HubEvent × Answer)) →
    items ≡ reverse log → length items ≤ i →
    told ≡ events_of (client_log (reverse (take i items)) a) →
    told ≡ events_of (client_log log a)
whole log items i a told same all h =
    let lent : reverse (take i items) ≡ log = grind (arith, common_steps) in
    h ∙ ap (λ (log : List Entry). events_of (client_log log a)) lent

-- the client is served as it was with the others there
pub returns-clause-served : goal.returns-clause-served
returns-clause-served c = λ u.
    let o = c.args.options in
    let log = c.args.log.now.entries in
    let a = V4 c.args.source in
    let so_far = c.loop-e.invariant in
    subst (λ (alone : List Entry). SameServed alone (client_log log a))
    (stands-log_of c.loop-e.hub o c.loop-e.alone.entries (client_log log a) so_far.stands so_far.options
    (whole log _ _ a _ c.as_slice-e-items.ensures c.loop-e-test.false so_far.same_events))
    (client-served o log a u.shared u.by_address u.apart u.right u.acted)

-- and without a stop all is the same
pub returns-clause-alone : goal.returns-clause-alone
returns-clause-alone c = λ u goes_on.
    let o = c.args.options in
    let log = c.args.log.now.entries in
    let a = V4 c.args.source in
    let so_far = c.loop-e.invariant in
    sym (stands-log_of c.loop-e.hub o c.loop-e.alone.entries (client_log log a) so_far.stands so_far.options
    (whole log _ _ a _ c.as_slice-e-items.ensures c.loop-e-test.false so_far.same_events))
    ∙ client-alone o log a u.shared u.by_address u.apart u.right u.acted goes_on
