-- Where sessions share the ports, every client has an address of version 4; who holds a port waits for it.
use Rattle.std.proofs.Common.{◌≡◌, refl, sym, ap, ◌∙◌, subst, ℕ, Bool, true, false, not, cond, ◌&&◌, ◌||◌, List, [], ◌∷◌, Some, None, Ok}
use Rattle.std.proofs.lemmas.Bool.{or_parts}
use Rattle.std.proofs.lemmas.Option.{same_Some}
use Rattle.std.specs.Prelude.{unwrap_or}
use Rattle.std.specs.Bool.{then_some}
use Rattle.ftp_hub.proofs.Common.{Answer, Decision, Entry, EventKind, Hub, IpAddr, IsRight, Options, Session, Stands, V4, decide, holder, is_legacy, is_refusal, is_used, past_of, session}
use Rattle.ftp_base.specs.declared.net.IpAddr.TheVariants.{V6}
use Rattle.ftp_base.specs.Net.{is_v6}
use Rattle.ftp_options.specs.declared.options.ListenerMode.{ListenerMode}
use Rattle.ftp_options.specs.declared.options.ListenerMode.TheVariants.{Legacy, Pooled, Proxy}
use Rattle.ftp_options.specs.Modes.{is_pooled, is_proxy, is_control_port}
use Rattle.ftp_events.specs.declared.decision.Decision.TheVariants as decision
use Rattle.ftp_events.specs.declared.event.Answer.TheVariants.{Header}
use Rattle.ftp_events.specs.declared.event.EventKind.TheVariants as kind
use Rattle.ftp_events.specs.declared.session.Opening.{Opening}
use Rattle.ftp_events.specs.Opening.{opening_by, opener}
use Rattle.ftp_events.specs.History.{opens}
use Rattle.ftp_events.specs.ConnectionRows.{arrival_row, header_row}
use Rattle.ftp_events.specs.Log.{is_stopped}
use Rattle.ftp_events.specs.Decide.{due}
use Rattle.ftp_laws.proofs.QuestionLemmas.{session-told}
use Rattle.ftp_laws.proofs.ClassLemmas.{opened-is}
use Rattle.ftp_laws.proofs.EntryLemmas.{past-more}
use Rattle.ftp_laws.proofs.Cases.{by_test}
use Rattle.ftp_laws.proofs.GrantLemmas.{holder-legacy}
use Rattle.ftp_laws.proofs.HoldLemmas.{WaitsFor, holder-waits}

-- a connection that is not refused is not misplaced, and its row is no refusal
pub row-counts :
    (strange used : Bool) (row : Decision) →
    is_refusal (cond strange decision.Misplaced (cond used decision.UsedNumber row)) ≡ false →
    (strange ≡ false) × (is_refusal row ≡ false)
row-counts true used row h = cc
row-counts false true row h = cc
row-counts false false row h = (refl, h)

-- where one opens a session, there was no stop
row-opened :
    (strange used stopped : Bool) (row : Decision) →
    cond strange decision.Misplaced (cond used decision.UsedNumber (cond stopped decision.Turned row)) ≡ decision.Opened →
    (strange ≡ false) × (row ≡ decision.Opened)
row-opened true used stopped row h = cc
row-opened false true stopped row h = cc
row-opened false false true row h = cc
row-opened false false false row h = (refl, h)

-- a header by which a connection is not refused has no address of version 6
pub header-counts :
    (strange control : Bool) (row : Decision) →
    is_refusal (cond strange decision.NotExpected (cond control decision.Opened row)) ≡ false →
    strange ≡ false
header-counts true control row h = cc
header-counts false control row h = refl

-- where sessions share the ports, control connections are misplaced beside a proxy, and those of version 6
pub misplaced-shared :
    (m : ListenerMode) (v6 : Bool) → is_legacy m ≡ false →
    (is_proxy m || (is_pooled m && v6)) ≡ (is_proxy m || v6)
misplaced-shared Legacy v6 shared = cc
misplaced-shared Pooled v6 shared = refl
misplaced-shared (Proxy port) v6 shared = refl

-- what an entry that opens a session tells of its client
told-v4 :
    (o : Options) (past : List Entry) (at : ℕ) (k : EventKind) (answer : Answer) (opening : Opening) →
    is_legacy o.mode ≡ false → due o past at k answer ≡ decision.Opened → opening_by k answer ≡ Some opening →
    is_v6 opening.client ≡ false
told-v4 o past at (kind.Connect s raw local trace) answer opening m d t =
    let v6 : Bool = is_v6 raw.ip || is_v6 local.ip in
    let placed = (row-opened (is_proxy o.mode || (is_pooled o.mode && v6)) (is_used past s) (is_stopped past) decision.Opened d).0 in
    let v4 = (or_parts (is_proxy o.mode) v6 (sym (misplaced-shared o.mode v6 m) ∙ placed)).1 in
    subst (λ (x : Opening). is_v6 x.client ≡ false) (same_Some _ _ t) (or_parts (is_v6 raw.ip) (is_v6 local.ip) v4).0
told-v4 o past at (kind.Proxied n raw trace) (Header (Ok line)) opening m d t =
    let row = (row-opened (not (is_proxy o.mode) || is_v6 raw.ip) (is_used past n) (is_stopped past) (header_row o past raw (Header (Ok line))) d).1 in
    let v6 : Bool = is_v6 line.source.ip || is_v6 line.destination.ip in
    let arrival = arrival_row o past raw line.source.ip line.destination.port in
    let v4 = header-counts v6 (is_control_port o.mode line.destination.port) arrival (ap is_refusal row) in
    subst (λ (x : Opening). is_v6 x.client ≡ false) (same_Some _ _ t) (or_parts (is_v6 line.source.ip) (is_v6 line.destination.ip) v4).0
told-v4 o past at k answer opening m d t = cc

-- every session's client has an address of version 4
opener-v4 : (o : Options) (log : List Entry) (s : ℕ) (opening : Opening) → is_legacy o.mode ≡ false → IsRight o log → opener (past_of log) s ≡ Some opening → is_v6 opening.client ≡ false
unfolding decide
opener-v4 o [] s opening m r h = cc
opener-v4 o (e ∷ log) s opening m r h =
    past-more (λ p. opener p s ≡ Some opening → is_v6 opening.client ≡ false) e log (λ x. opener-v4 o log s opening m r.0 x)
    (λ counts x. by_opening (opens e s) refl x (λ y. opener-v4 o log s opening m r.0 y))
    h
  where
    past : List Entry
    past = past_of log

    by_opening :
        (b : Bool) → opens e s ≡ b →
        unwrap_or (then_some b (opening_by e.event.kind e.answer)) (opener past s) ≡ Some opening →
        (opener past s ≡ Some opening → is_v6 opening.client ≡ false) →
        is_v6 opening.client ≡ false
    by_opening true n x ih = told-v4 o past e.event.at e.event.kind e.answer opening m (sym r.1 ∙ opened-is e.event.kind e.decision s n) x
    by_opening false n x ih = ih x

-- an address that is not of version 6 is one of version 4
v4-is : (a : IpAddr) → is_v6 a ≡ false → (n : ℕ) × (a ≡ V4 n)
v4-is (V4 a) h = (a, refl)
v4-is (V6 a) h = cc

-- a live session's client has an address of version 4
pub client-v4 : (o : Options) (log : List Entry) (s : ℕ) (v : Session) → is_legacy o.mode ≡ false → IsRight o log → session o (past_of log) s ≡ Some v → (n : ℕ) × (v.opening.client ≡ V4 n)
client-v4 o log s v m r known = v4-is v.opening.client (opener-v4 o log s v.opening m r (session-told o (past_of log) s v known).opening)

-- whoever holds a port is a live session of that client, whose slot waits for it
pub held-waits : (hub : Hub) (log : List Entry) (a p s : ℕ) → Stands hub log → holder hub.options (past_of log) (V4 a) p ≡ Some s → WaitsFor hub.options (past_of log) s (V4 a) p
held-waits hub log a p s st held =
    by_test (is_legacy hub.options.mode)
    (λ alone.
    let clash : None ≡ Some s = sym (holder-legacy hub.options (past_of log) (V4 a) p alone) ∙ held in
    cc)
    (λ shared. holder-waits hub.options log shared st.right (V4 a) p s held)
