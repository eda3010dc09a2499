-- How the notifications of a session grow.
use Rattle.std.proofs.Common.{◌≡◌, refl, sym, ◌∙◌, ap, ap₂, subst, ℕ, zero, suc, ◌+◌, Bool, true, false, true≢false, cond, List, [], ◌∷◌, ◌++◌, map, length, Option, Some, None, arith, append-nil, length-append, inl, inr}
use Rattle.std.specs.Prelude.{◌⊎◌, count_by, filter_map, unwrap_or}
use Rattle.std.specs.List.{range_with_len}
use Rattle.std.specs.Option.{option_and_then, option_map}
use Rattle.std.proofs.lemmas.Option.{same_Some}
use Rattle.std.proofs.lemmas.List.{map-append}
use Rattle.std.proofs.lemmas.List.Folds.{list_any-append}
use Rattle.ftp_base.specs.declared.notice.Notice.{Notice}
use Rattle.ftp_base.specs.declared.notice.Notice.TheVariants.{Presence, Data}
use Rattle.ftp_base.specs.declared.message.ControlChanMsg.{ControlChanMsg}
use Rattle.ftp_base.specs.declared.notice.DataEvent.{DataEvent}
use Rattle.ftp_base.specs.declared.notice.PresenceEvent.TheVariants as presence
use Rattle.ftp_events.specs.declared.decision.Decision.TheVariants as decision
use Rattle.ftp_events.specs.declared.decision.Life.TheVariants.{Ends}
use Rattle.ftp_events.specs.Notices.{is_notice_to}
use Rattle.ftp_events.specs.Session.{session_by_history, told_of_life, live_sessions}
use Rattle.ftp_events.specs.Message.{notice_of}
use Rattle.ftp_events.specs.Reply.{message_for}
use Rattle.ftp_events.specs.Acts.{notice_for, presence_of}
use Rattle.ftp_events.specs.History.{Nobody}
use Rattle.ftp_laws.proofs.Common.{Life, life, Options, Running, Decision, Entry, EventKind, Answer, Opening, Session, past_of, is_refusal, is_used, opener, subject, concerns, opens, history, lives_on, session, running_job, due, acts_of, IsRight, IsActed}
use Rattle.ftp_laws.proofs.ClassLemmas.{opened-is}
use Rattle.ftp_laws.proofs.SubjectLemmas.{nobody-concerns}
use Rattle.ftp_laws.proofs.LiveLemmas.{live_sessions-ascending}
use Rattle.ftp_laws.specs.Census.{IsAscending}
use Rattle.ftp_laws.specs.Notices.{notice_to, notices, is_logged_out, NoneLoggedOut, LastLoggedOut, HasEnded}
use Rattle.ftp_laws.proofs.QuestionLemmas.{session-own, session-other, session_by, session-told, opener-other}
use Rattle.ftp_laws.proofs.HoldLemmas.{opener-used, opened-fresh}
use Rattle.ftp_laws.proofs.PortLemmas.{IsAfter, session-before, opened-nobody}
use Rattle.ftp_laws.proofs.NoticeLemmas.{length-notices, under, told_by, told_in, notices-entry}
use Rattle.ftp_laws.proofs.EntryLemmas.{acted-past}
use Rattle.ftp_laws.proofs.Cases.{by_option, by_part}

-- one number more
pub range_with_len-more : (a n : ℕ) → range_with_len a (suc n) ≡ range_with_len a n ++ (a + n) ∷ []
range_with_len-more a zero = ap (λ m. m ∷ []) (omega arith)
range_with_len-more a (suc n) =
    ap (λ ns. a ∷ ns) (range_with_len-more (a + 1) n ∙ ap (λ m. range_with_len (a + 1) n ++ m ∷ []) (omega arith))

-- the notifications are numbered 1, 2, 3 ..
abbrev pub IsNumbered : List (ℕ × Notice) → Type 0
IsNumbered told = map (λ n. n.0) told ≡ range_with_len 1 (length told)

-- the next number goes on
pub numbered-more :
    (told : List (ℕ × Notice)) (n : ℕ) (what : Notice) →
    n ≡ length told → IsNumbered told →
    IsNumbered (told ++ (n + 1, what) ∷ [])
numbered-more told n what e h =
    let longer : length (told ++ (n + 1, what) ∷ []) ≡ suc (length told) = length-append told ((n + 1, what) ∷ []) ∙ omega arith in
    let next : n + 1 ≡ 1 + length told = omega (arith, e) in
    map-append (λ (x : ℕ × Notice). x.0) told ((n + 1, what) ∷ []) ∙ (ap₂ (λ (ns : List ℕ) (m : ℕ). ns ++ m ∷ []) h next ∙ (sym (range_with_len-more 1 (length told)) ∙ ap (range_with_len 1) (sym longer)))

-- none but the earlier ones say that the session has logged out
pub none-more :
    (told more : List (ℕ × Notice)) → NoneLoggedOut told →
    NoneLoggedOut more → NoneLoggedOut (told ++ more)
none-more told more h j = list_any-append (λ (n : ℕ × Notice). is_logged_out n.1) told more ∙ rw (h, j) refl

-- what is told of session s, and what the past says of it
pub record IsToldOf (o : Options) (past : List Entry) (s : ℕ) (told : List (ℕ × Notice)) : Type 0 where
  pub numbered : IsNumbered told
  pub fresh : opener past s ≡ None → told ≡ []
  pub live :
      (v : Session) → session o past s ≡ Some v →
      (v.notices ≡ length told) × NoneLoggedOut told
  pub ended : HasEnded o past s → LastLoggedOut told

-- at first nothing is told
pub told-empty : (o : Options) (s : ℕ) → IsToldOf o [] s []
told-empty o s = record { numbered = refl; fresh = λ n. refl; live = λ v n. let c : None ≡ Some v = n in cc; ended = λ h. let c : None ≡ Some h.0 = h.1 in cc }

-- a number that is not used opened nothing
pub unused-opener : (past : List Entry) (s : ℕ) → is_used past s ≡ false → opener past s ≡ None
unused-opener past s unused = go (opener past s) refl
  where
    go : (x : Option Opening) → opener past s ≡ x → x ≡ None
    go None e = refl
    go (Some opening) e = absurd (true≢false (sym (opener-used past s opening e) ∙ unused))

-- after the opening of a session nothing is told of it
pub told-opened :
    (o : Options) (past : List Entry) (e : Entry) (s : ℕ) →
    e.decision ≡ decision.Opened → opens e s ≡ true →
    filter_map (notice_to s) e.actions ≡ [] →
    IsToldOf o (e ∷ past) s []
told-opened o past e s d n told =
    record {
      numbered = refl;
      fresh = λ x. refl;
      live = λ v x. (ap (λ (w : Session). w.notices) (sym (same v x)) ∙ silent, refl);
      ended = λ h. let c : Some (session_by_history s (e ∷ []) h.0) ≡ None = sym (alive h.0 h.1) ∙ h.2 in cc;
    }
  where
    start : history o (e ∷ past) s ≡ e ∷ []
    start = rw n refl

    silent : 0 + count_by (is_notice_to s) e.actions ≡ 0
    silent = ap (λ m. 0 + m) (sym (length-notices s e.actions) ∙ ap length told)

    same :
        (v : Session) → session o (e ∷ past) s ≡ Some v →
        session_by_history s (e ∷ []) v.opening ≡ v
    same v x = subst (λ (h : List Entry). session_by_history s h v.opening ≡ v) start (session-told o (e ∷ past) s v x).told

    alive :
        (opening : Opening) →
        opener (e ∷ past) s ≡ Some opening →
        session o (e ∷ past) s ≡ Some (session_by_history s (e ∷ []) opening)
    alive opening x = rw (start, x, d) refl

-- an entry that does not concern a session tells nothing of it
pub told-other :
    (o : Options) (past : List Entry) (e : Entry) (s : ℕ) (told : List (ℕ × Notice)) →
    opens e s ≡ false → concerns o past e s ≡ false →
    IsToldOf o past s told → IsToldOf o (e ∷ past) s told
told-other o past e s told n c h =
    record {
      numbered = h.numbered;
      fresh = λ x. h.fresh (sym (opener-other past e s n) ∙ x);
      live = λ v x. h.live v (sym (session-other o past e s n c) ∙ x);
      ended = λ x. h.ended (x.0, sym (opener-other past e s n) ∙ x.1, sym (session-other o past e s n c) ∙ x.2);
    }

-- nothing is told of a session that is not live
pub told-ended :
    (o : Options) (past : List Entry) (e : Entry) (s : ℕ) (told : List (ℕ × Notice)) →
    e.decision ≡ due o past e.event.at e.event.kind e.answer →
    opens e s ≡ false → concerns o past e s ≡ true →
    session o past s ≡ None → IsToldOf o past s told →
    IsToldOf o (e ∷ past) s told
told-ended o past e s told fit n c none h =
    record {
      numbered = h.numbered;
      fresh = λ x. h.fresh (sym (opener-other past e s n) ∙ x);
      live = λ v x. let b : IsAfter o past e s v = session-before o past e s v fit n c x in let z : None ≡ Some b.before = sym none ∙ b.known in cc;
      ended = λ x. h.ended (x.0, sym (opener-other past e s n) ∙ x.1, none);
    }

-- nothing is told, or one thing under the next number, which is no logout
abbrev pub TellsOn : ℕ → List (ℕ × Notice) → Type 0
TellsOn n told =
    (told ≡ []) ⊎ ((what : Notice) × (is_logged_out what ≡ false) × (told ≡ (n + 1, what) ∷ []))

-- what a message notifies by itself
pub told_by-message :
    (n : ℕ) (m : Option ControlChanMsg) →
    TellsOn n (under n (notice_for m None))
told_by-message n m = go (option_and_then notice_of m)
  where
    go : (x : Option DataEvent) → TellsOn n (under n (option_map Data x))
    go None = inl refl
    go (Some x) = inr (Data x, refl, refl)

-- what is told of a session that goes on living
pub told_by-lives :
    (k : EventKind) (a : Answer) (d : Decision) (job : Option Running) (v : Session) →
    lives_on d ≡ true →
    TellsOn v.notices (told_by k a d job (Some v))
told_by-lives k a d job v l = go (life d) k a d l
  where
    go :
        (x : Life) (k : EventKind) (a : Answer) (d : Decision) →
        unwrap_or (told_of_life x) true ≡ true →
        TellsOn v.notices (under v.notices (notice_for (message_for v job k a d) (presence_of x d)))
    go Ends k a d l = cc
    go x k a decision.LoggedIn l = inr (Presence presence.LoggedIn, refl, refl)
    go x k a d l = told_by-message v.notices (message_for v job k a d)

-- and of one that ends
pub told_by-ends :
    (k : EventKind) (a : Answer) (d : Decision) (job : Option Running) (v : Session) →
    lives_on d ≡ false →
    told_by k a d job (Some v) ≡ (v.notices + 1, Presence presence.LoggedOut) ∷ []
told_by-ends k a d job v l = go (life d) l
  where
    go :
        (x : Life) → unwrap_or (told_of_life x) true ≡ false →
        under v.notices (notice_for (message_for v job k a d) (presence_of x d)) ≡ (v.notices + 1, Presence presence.LoggedOut) ∷ []
    go Ends l = refl
    go x l = cc

-- so what is told goes on with the next number, and says nothing of a logout
pub told-lives :
    (told more : List (ℕ × Notice)) (n : ℕ) →
    TellsOn n more → n ≡ length told →
    IsNumbered told → NoneLoggedOut told →
    IsNumbered (told ++ more) × NoneLoggedOut (told ++ more)
told-lives told more n (inl x) count h j =
    subst (λ (ns : List (ℕ × Notice)). IsNumbered ns × NoneLoggedOut ns) (sym (append-nil told) ∙ ap (λ m. told ++ m) (sym x)) (h, j)
told-lives told more n (inr x) count h j =
    let what : Notice = x.0 in
    let none : NoneLoggedOut ((n + 1, what) ∷ []) = rw x.1 refl in
    subst (λ (m : List (ℕ × Notice)). IsNumbered (told ++ m) × NoneLoggedOut (told ++ m)) (sym x.2)
    (numbered-more told n what count h, none-more told ((n + 1, what) ∷ []) j none)

-- what is told of a live session by an entry that concerns it
pub told-own :
    (o : Options) (past : List Entry) (e : Entry) (s : ℕ) (v : Session) (told : List (ℕ × Notice)) →
    opens e s ≡ false → concerns o past e s ≡ true →
    session o past s ≡ Some v →
    filter_map (notice_to s) e.actions ≡ told_by e.event.kind e.answer e.decision (running_job o past s) (Some v) →
    IsToldOf o past s told →
    IsToldOf o (e ∷ past) s (told ++ filter_map (notice_to s) e.actions)
told-own o past e s v told n c known same h = by_life (lives_on e.decision) refl
  where
    after : session o (e ∷ past) s ≡ cond (lives_on e.decision) (Some (session_by s e (running_job o past s) v)) None
    after = session-own o past e s v known n c

    opened : opener (e ∷ past) s ≡ Some v.opening
    opened = opener-other past e s n ∙ (session-told o past s v known).opening

    by_life :
        (b : Bool) → lives_on e.decision ≡ b →
        IsToldOf o (e ∷ past) s (told ++ filter_map (notice_to s) e.actions)
    by_life true l =
        let tells : TellsOn v.notices (filter_map (notice_to s) e.actions) = subst (TellsOn v.notices) (sym same) (told_by-lives e.event.kind e.answer e.decision (running_job o past s) v l) in
        let more = told-lives told (filter_map (notice_to s) e.actions) v.notices tells (h.live v known).0 h.numbered (h.live v known).1 in
        let next : session o (e ∷ past) s ≡ Some (session_by s e (running_job o past s) v) = after ∙ rw l refl in
        let count : v.notices + count_by (is_notice_to s) e.actions ≡ length (told ++ filter_map (notice_to s) e.actions) = ap₂ (λ (i j : ℕ). i + j) (h.live v known).0 (sym (length-notices s e.actions)) ∙ sym (length-append told (filter_map (notice_to s) e.actions)) in
        record {
          numbered = more.0;
          fresh = λ x. let z : None ≡ Some v.opening = sym x ∙ opened in cc;
          live = λ w x. (ap (λ (u : Session). u.notices) (sym (same_Some _ _ (sym next ∙ x))) ∙ count, more.1);
          ended = λ x. let z : Some (session_by s e (running_job o past s) v) ≡ None = sym next ∙ x.2 in cc;
        }
    by_life false l =
        let next : session o (e ∷ past) s ≡ None = after ∙ rw l refl in
        let last : filter_map (notice_to s) e.actions ≡ (v.notices + 1, Presence presence.LoggedOut) ∷ [] = same ∙ told_by-ends e.event.kind e.answer e.decision (running_job o past s) v l in
        record {
          numbered = subst (λ (m : List (ℕ × Notice)). IsNumbered (told ++ m)) (sym last) (numbered-more told v.notices (Presence presence.LoggedOut) (h.live v known).0 h.numbered);
          fresh = λ x. let z : None ≡ Some v.opening = sym x ∙ opened in cc;
          live = λ w x. let z : None ≡ Some w = sym next ∙ x in cc;
          ended = λ x. (told, v.notices + 1, ap (λ m. told ++ m) last, (h.live v known).1);
        }

-- what is told stays in step with the past
pub told-step :
    (o : Options) (past : List Entry) (e : Entry) (s : ℕ) (told : List (ℕ × Notice)) →
    e.decision ≡ due o past e.event.at e.event.kind e.answer →
    is_refusal e.decision ≡ false →
    e.actions ≡ acts_of o past e → IsAscending (live_sessions o past) →
    IsToldOf o past s told →
    IsToldOf o (e ∷ past) s (told ++ filter_map (notice_to s) e.actions)
told-step o past e s told fit counts acted ascends h =
    by_part o past e s opened
    (λ n c.
    by_option (session o past s)
    (λ x. subst (IsToldOf o (e ∷ past) s) (nothing (entry ∙ rw (c, x) refl)) (told-ended o past e s told fit n c x h))
    (λ v x. told-own o past e s v told n c x (entry ∙ rw (c, x) refl) h))
    (λ n c. subst (IsToldOf o (e ∷ past) s) (nothing (entry ∙ rw c refl)) (told-other o past e s told n c h))
  where
    entry : filter_map (notice_to s) e.actions ≡ cond (concerns o past e s) (told_in o past e s) []
    entry = notices-entry o past e s counts acted ascends

    nothing :
        filter_map (notice_to s) e.actions ≡ [] →
        told ≡ told ++ filter_map (notice_to s) e.actions
    nothing x = sym (append-nil told) ∙ ap (λ m. told ++ m) (sym x)

    opened :
        opens e s ≡ true →
        IsToldOf o (e ∷ past) s (told ++ filter_map (notice_to s) e.actions)
    opened n =
        let d : e.decision ≡ decision.Opened = opened-is e.event.kind e.decision s n in
        let about : subject o past e ≡ Nobody = opened-nobody o past e s fit n in
        let silent : filter_map (notice_to s) e.actions ≡ [] = entry ∙ ap (λ b. cond b (told_in o past e s) []) (nobody-concerns o past e s about) in
        let before : told ≡ [] = h.fresh (unused-opener past s (opened-fresh o past e s fit n)) in
        subst (IsToldOf o (e ∷ past) s) (sym before ∙ nothing silent) (told-opened o past e s d n silent)

-- in every right and acted log what is told of a session is in step with the past
pub told-log :
    (o : Options) (log : List Entry) (s : ℕ) →
    IsRight o log → IsActed o log →
    IsToldOf o (past_of log) s (notices log s)
told-log o log s r a =
    acted-past o (λ log past. IsToldOf o past s (notices log s)) (told-empty o s)
    (λ log e none refused h. subst (IsToldOf o (past_of log) s) (sym (ap (λ xs. notices log s ++ filter_map (notice_to s) xs) none ∙ append-nil (notices log s))) h)
    (λ log e comes a acted h. told-step o (past_of log) e s (notices log s) comes.fit comes.counts acted (live_sessions-ascending o log comes.right) h) log r a
