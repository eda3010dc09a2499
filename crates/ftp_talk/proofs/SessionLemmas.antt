-- A message that is told leaves the session as it is.
use Rattle.std.proofs.Common.{◌≡◌, ℕ, ◌+◌, Bool, true, false, cond, List, [], ◌∷◌, Option, Some, None, refl, ap, ◌∙◌, arith}
use Rattle.std.specs.Prelude.{unwrap_or}
use Rattle.std.specs.Option.{option_map_or}
use Rattle.std.specs.Coded.{Coded-set, coded_bool}
use Rattle.std.proofs.Math.Logic.{∥∥₁_elim}
use Rattle.ftp_base.specs.declared.message.ControlChanMsg.{ControlChanMsg}
use Rattle.ftp_base.specs.declared.message.ControlChanMsg.TheVariants.{CommandChannelReply}
use Rattle.ftp_base.specs.declared.reply.Reply.{Reply}
use Rattle.ftp_base.specs.declared.reply.Reply.TheVariants as reply
use Rattle.ftp_options.specs.declared.options.Options.{Options}
use Rattle.ftp_events.specs.declared.decision.Decision.{Decision}
use Rattle.ftp_events.specs.declared.decision.Decision.TheVariants as decision
use Rattle.ftp_events.specs.declared.entry.Entry.{Entry}
use Rattle.ftp_events.specs.declared.event.Answer.{Answer}
use Rattle.ftp_events.specs.declared.event.EventKind.{EventKind}
use Rattle.ftp_events.specs.declared.event.EventKind.TheVariants as kind
use Rattle.ftp_events.specs.declared.event.HubEvent.{HubEvent}
use Rattle.ftp_events.specs.declared.session.Session.{Session}
use Rattle.ftp_events.specs.CommandRows.{internal_row}
use Rattle.ftp_events.specs.Message.{is_for_control}
use Rattle.ftp_events.specs.Decide.{decide, due as decided}
use Rattle.ftp_events.specs.Log.{past_of}
use Rattle.ftp_events.specs.Session.{session}
use Rattle.ftp_extras.specs.declared.extra.Extra.{Extra}
use Rattle.ftp_extras.specs.declared.extra.Extra.TheVariants as extra
use Rattle.ftp_shared.specs.Desk.{IsVouched}
use Rattle.ftp_events.specs.Login.{login_by, login_state, name_by, user_name, logged_user}
use Rattle.ftp_events.specs.Place.{cwd_after, cwd, offset_by, offset, is_queued, ticket_count}
use Rattle.ftp_events.specs.Slot.{Lane, queued_by, lane_after, kept_running, lane}
use Rattle.ftp_events.specs.declared.session.Login.{Login}
use Rattle.ftp_events.specs.declared.session.Pending.{Pending}
use Rattle.ftp_events.specs.declared.session.Running.{Running}
use Rattle.ftp_talk.specs.ExtendedLaws.{is_told, is_told_at, untold, TellTheSame, KeepsSession}
use Rattle.ftp_talk.specs.Ground.{Ground, history, Turn}
use Rattle.ftp_talk.specs.Parts.{HeardLine, TalkPart, turns_of, GivesMore, ComesWith, Parts}
use Rattle.ftp_talk.specs.Talk.{AreVouched}

-- a decision that tells nothing of a session
is_neutral : Decision → Bool
is_neutral decision.Told = true
is_neutral decision.NotExpected = true
is_neutral decision.UnknownNumber = true
is_neutral _ = false

neutral-if : (b : Bool) → is_neutral (cond b decision.Told decision.NotExpected) ≡ true
unfolding is_neutral
neutral-if true = refl
neutral-if false = refl

neutral-row : (v : Option Session) (m : ControlChanMsg) → is_neutral (option_map_or (λ (x : Session). internal_row m) v decision.UnknownNumber) ≡ true
unfolding is_neutral
neutral-row None m = refl
neutral-row (Some v) m = neutral-if (is_for_control m)

internal-decided : (o : Options) (log : List Entry) (ev : HubEvent) (a : Answer) (s : ℕ) (m : ControlChanMsg) → ev.kind ≡ kind.Internal s m → is_neutral (decide o log ev a) ≡ true
unfolding decide
internal-decided o log ev a s m is = ap (λ (k : EventKind). is_neutral (decided o (past_of log) ev.at k a)) is ∙ neutral-row (session o (past_of log) s) m

-- an internal event that the desk vouches for
internal-neutral : (o : Options) (earlier : List (ℕ × Reply)) (e : Entry) (s : ℕ) (m : ControlChanMsg) → IsVouched o earlier e → e.event.kind ≡ kind.Internal s m → is_neutral e.decision ≡ true
internal-neutral o earlier e s m vouched is =
    ∥∥₁_elim vouched (Coded-set coded_bool (is_neutral e.decision) true) (λ v. ap (λ (x : Entry). is_neutral x.decision) v.due ∙ internal-decided o v.past e.event e.answer s m is)

-- the session is as before behind a decision
record LeavesAll (d : Decision) : Type 0 where
  login : login_by d ≡ None
  name : (k : EventKind) → name_by d k ≡ None
  cwd : (k : EventKind) (dir : List ℕ) → cwd_after d k dir ≡ dir
  offset : (k : EventKind) (a : Answer) → offset_by d k a ≡ None
  queued : is_queued d ≡ false
  lane : (k : EventKind) (queued : Option Pending) (l : Lane) → lane_after k d queued l ≡ l
  running : (given : Answer) (job : Option Running) → kept_running d given job ≡ job

-- so it is behind one that tells nothing
neutral-leaves : (d : Decision) → is_neutral d ≡ true → LeavesAll d
unfolding is_neutral
neutral-leaves decision.Told h = record { login = refl; name = λ k. refl; cwd = λ k dir. refl; offset = λ k a. refl; queued = refl; lane = λ k queued l. refl; running = λ given job. refl }
neutral-leaves decision.NotExpected h = record { login = refl; name = λ k. refl; cwd = λ k dir. refl; offset = λ k a. refl; queued = refl; lane = λ k queued l. refl; running = λ given job. refl }
neutral-leaves decision.UnknownNumber h = record { login = refl; name = λ k. refl; cwd = λ k dir. refl; offset = λ k a. refl; queued = refl; lane = λ k queued l. refl; running = λ given job. refl }
neutral-leaves _ h = absurd (cc)

-- slot and transfer after an entry, and what becomes of the job that runs
abbrev job_kept : Entry → Lane → Lane
job_kept e l = record { slot = l.slot; pending = l.pending; running = kept_running e.decision e.answer l.running }

-- the same, by what the entries before it tell
abbrev lane_by : Entry → Login → Option (List ℕ) → List ℕ → ℕ → Lane → Lane
lane_by e login name dir n l = job_kept e (lane_after e.event.kind e.decision (queued_by e.decision e.event.kind (logged_user login name) dir n) l)

lane-both : (e : Entry) (a b : List Entry) → TellTheSame a b → lane (e ∷ a) ≡ lane (e ∷ b)
lane-both e a b s =
    ap (λ (x : Login). lane_by e x (user_name a) (cwd a) (offset a) (lane a)) s.login
    ∙ ap (λ (x : Option (List ℕ)). lane_by e (login_state b) x (cwd a) (offset a) (lane a)) s.name
    ∙ ap (λ (x : List ℕ). lane_by e (login_state b) (user_name b) x (offset a) (lane a)) s.cwd
    ∙ ap (λ (x : ℕ). lane_by e (login_state b) (user_name b) (cwd b) x (lane a)) s.offset
    ∙ ap (λ (x : Lane). lane_by e (login_state b) (user_name b) (cwd b) (offset b) x) s.slot

-- an entry leaves it that tells nothing
job-still : (e : Entry) (l : Lane) → is_neutral e.decision ≡ true → job_kept e l ≡ l
job-still e l neutral =
    let with_job : Option Running → Lane = λ x. record { slot = l.slot; pending = l.pending; running = x } in
    ap with_job ((neutral-leaves e.decision neutral).running e.answer l.running)

lane-one : (e : Entry) (a : List Entry) → is_neutral e.decision ≡ true → lane (e ∷ a) ≡ lane a
lane-one e a neutral = ap (job_kept e) ((neutral-leaves e.decision neutral).lane e.event.kind _ (lane a)) ∙ job-still e (lane a) neutral

same-latest : {B : Type 0} (tells tells1 : Option B) (x y : B) → tells ≡ tells1 → x ≡ y → unwrap_or tells x ≡ unwrap_or tells1 y
same-latest {B = B} tells tells1 x y e f = ap (λ (t : Option B). unwrap_or t x) e ∙ ap (λ (z : B). unwrap_or tells1 z) f

-- an entry that both have
same-both : (e : Entry) (a b : List Entry) → TellTheSame a b → TellTheSame (e ∷ a) (e ∷ b)
same-both e a b s =
    record {
      login = same-latest (login_by e.decision) _ _ _ refl s.login;
      name = same-latest (name_by e.decision e.event.kind) _ _ _ refl s.name;
      cwd = ap (cwd_after e.decision e.event.kind) s.cwd;
      offset = same-latest (offset_by e.decision e.event.kind e.answer) _ _ _ refl s.offset;
      slot = lane-both e a b s;
      transfers = ap (λ (n : ℕ). n + cond (is_queued e.decision) 1 0) s.transfers;
    }

none-queued : (n : ℕ) (queues : Bool) → queues ≡ false → n + cond queues 1 0 ≡ n
none-queued n queues is =
    let none : n + 0 ≡ n = omega arith in
    ap (λ (q : Bool). n + cond q 1 0) is ∙ none

-- one that tells nothing
same-one : (e : Entry) (a b : List Entry) → is_neutral e.decision ≡ true → TellTheSame a b → TellTheSame (e ∷ a) b
same-one e a b neutral s =
    let leaves = neutral-leaves e.decision neutral in
    record {
      login = same-latest (login_by e.decision) None _ _ leaves.login s.login;
      name = same-latest (name_by e.decision e.event.kind) None _ _ (leaves.name e.event.kind) s.name;
      cwd = leaves.cwd e.event.kind _ ∙ s.cwd;
      offset = same-latest (offset_by e.decision e.event.kind e.answer) None _ _ (leaves.offset e.event.kind e.answer) s.offset;
      slot = lane-one e a neutral ∙ s.slot;
      transfers = none-queued (ticket_count a) (is_queued e.decision) leaves.queued ∙ s.transfers;
    }

-- a message that is told, and bytes that are said, are an internal event
internal-told : (g : Ground) (h : List Entry) (c : _) (y : Extra) (k : EventKind) → is_told y ≡ true → GivesMore g h c y k → (m : ControlChanMsg) × (k ≡ kind.Internal g.session m)
internal-told g h c extra.Pass k told gives = absurd (cc)
internal-told g h c (extra.As other) k told gives = absurd (cc)
internal-told g h c extra.Epsv k told gives = absurd (cc)
internal-told g h c (extra.Tell m) k told gives = (m, gives)
internal-told g h c (extra.Say bytes) k told gives = (CommandChannelReply reply.None, gives)

internal-at : (g : Ground) (ts : List Turn) (h : Option HeardLine) (t : Turn) → ComesWith g ts h t → is_told_at h ≡ true → (m : ControlChanMsg) × (t.entry.event.kind ≡ kind.Internal g.session m)
internal-at g ts None t c told = absurd (cc)
internal-at g ts (Some x) t c told = internal-told g (history g ts) x.line x.extra t.entry.event.kind told c.gives

-- one part more
same-part : (g : Ground) (p : TalkPart) (ps : List TalkPart) → Parts g (p ∷ ps) → g.start.vouches ≡ true → AreVouched g (turns_of (p ∷ ps)) →
    TellTheSame (history g (turns_of ps)) (history g (turns_of (untold ps))) →
    (told : Bool) → is_told_at p.heard ≡ told →
    TellTheSame (p.turn.entry ∷ history g (turns_of ps)) (history g (turns_of (cond told (untold ps) (p ∷ untold ps))))
same-part g p ps ruled vouches vouched rest true told =
    let m = internal-at g (turns_of ps) p.heard p.turn ruled.1 told in
    same-one p.turn.entry _ _ (internal-neutral g.start.desk.options p.turn.earlier p.turn.entry g.session m.0 (vouched vouches).0 m.1) rest
same-part g p ps ruled vouches vouched rest false told = same-both p.turn.entry _ _ rest

-- the law
pub keeps-session : KeepsSession
keeps-session g [] ruled vouches vouched = record { login = refl; name = refl; cwd = refl; offset = refl; slot = refl; transfers = refl }
keeps-session g (p ∷ ps) ruled vouches vouched =
    same-part g p ps ruled vouches vouched (keeps-session g ps ruled.0 vouches (λ v. (vouched v).1)) (is_told_at p.heard) refl
