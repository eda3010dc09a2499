-- Two logs of due entries in one text part where one of them stops.
use Rattle.std.proofs.Common.{◌≡◌, ℕ, suc, ◌≤◌, ◌⊎◌, inl, inr, List, [], ◌∷◌, ◌++◌, length, map, Option, Some, None, refl, sym, ap, subst, ◌∙◌, append_assoc, arith}
use Rattle.std.specs.List.{flat_map}
use Rattle.std.proofs.lemmas.List.{append_cancel_left, length-append}
use Rattle.ftp_options.specs.declared.options.Options.{Options}
use Rattle.ftp_events.specs.declared.decision.Decision.{Decision}
use Rattle.ftp_events.specs.declared.entry.Entry.{Entry}
use Rattle.ftp_events.specs.declared.event.Answer.{Answer}
use Rattle.ftp_events.specs.declared.event.HubEvent.{HubEvent}
use Rattle.ftp_text.specs.declared.setup.Item.{Item}
use Rattle.ftp_text.specs.declared.line.LogLine.{LogLine}
use Rattle.ftp_text.specs.declared.line.LogLine.TheVariants as says
use Rattle.ftp_text.specs.LogLines.{log_line}
use Rattle.ftp_text.specs.LogText.{answers, says_of, opening, text_of}
use Rattle.ftp_text.proofs.PrintedLemmas.{goes-on, text-cons}
use Rattle.ftp_check_log.specs.Verdicts.{AreLinesOf, head_of}
use Rattle.ftp_check_log.proofs.OnlyLemmas.{IsNext, AreNext, same-head, same-entry, entry-lines, some-front, SameOpening, decided, decided-append, decided-answers}

-- ---- one text, cut twice

split : (x y r s : List ℕ) → length x ≤ length y → x ++ r ≡ y ++ s → (t : List ℕ) × (y ≡ x ++ t) × (r ≡ t ++ s)
split [] y r s le e = (y, refl, e)
split (a ∷ x) [] r s le e = absurd (omega arith)
split (a ∷ x) (b ∷ y) r s le e =
    let head : b ≡ a = cc in
    let tail : x ++ r ≡ y ++ s = cc in
    let t = split x y r s (omega arith) tail in
    (t.0, (λ i. head i ∷ t.1 i), t.2)

-- the lines of the second cut are those of the first and more
pub record GoesOnAs (lines : List LogLine) (rest : List ℕ) (others : List LogLine) (behind : List ℕ) : Type 0 where
  pub more : List LogLine
  pub lines_are : others ≡ lines ++ more
  pub rest_is : rest ≡ text_of more ++ behind

pub goes-on-as : (lines others : List LogLine) (rest behind bytes : List ℕ) → AreLinesOf lines rest bytes → AreLinesOf others behind bytes → length (text_of lines) ≤ length (text_of others) → GoesOnAs lines rest others behind
goes-on-as lines others rest behind bytes p q le =
    let t = split (text_of lines) (text_of others) rest behind le (p.text ∙ sym q.text) in
    let on = goes-on lines others t.0 p.fits q.fits (sym t.1) in
    record { more = on.more; lines_are = on.lines_are; rest_is = t.2 ∙ ap (λ (u : List ℕ). u ++ behind) on.rest_is }

pub no-text : (more : List LogLine) (behind : List ℕ) → text_of more ++ behind ≡ [] → more ≡ []
no-text [] behind e = refl
no-text (x ∷ more) behind e =
    absurd (omega (arith, ap length e, length-append (text_of (x ∷ more)) behind, ap length (text-cons x more), length-append (log_line x) (10 ∷ text_of more)))

-- ---- where two logs part

-- no action comes first
abbrev pub NoAction : List LogLine → Type 0
NoAction (says.Action a ∷ lines) = ⊥
NoAction _ = Unit {0}

no-action : (log : List Entry) (half : List LogLine) → NoAction half → NoAction (flat_map says_of log ++ half)
no-action [] half none = none
no-action (a ∷ log) half none = tt

-- behind the lines of an entry come those of its due decision and of its due actions, and then no action
pub record IsWhole (a : Entry) (d : Decision) (u : List LogLine) : Type 0 where
  pub behind : List LogLine
  pub none : NoAction behind
  pub decision : d ≡ a.decision
  pub actions : u ≡ map says.Action a.actions ++ behind

-- an entry that is due is the due one of another log
in-log : (o : Options) (past log : List Entry) (a b : Entry) (d : Decision) (u half : List LogLine) →
    IsNext o past a →
    IsNext o past b →
    head_of a ++ says.Decision d ∷ u ≡ flat_map says_of (b ∷ log) ++ half →
    NoAction half →
    IsWhole a d u
in-log o past log a b d u half f g h none =
    let behind : List LogLine = flat_map says_of log ++ half in
    let s = same-head a b d b.decision u (map says.Action b.actions ++ behind) (h ∙ append_assoc (says_of b) (flat_map says_of log) half ∙ entry-lines b behind) in
    let same : a ≡ b = same-entry o past a b f g s.event s.answer in
    record {
      behind = behind;
      none = no-action log half none;
      decision = s.decision ∙ ap (λ (x : Entry). x.decision) (sym same);
      actions = s.rest ∙ ap (λ (x : Entry). map says.Action x.actions ++ behind) (sym same);
    }

-- two logs with the same lines stop at the same entry, or the one that stops first is right there
pub data Part (n m : ℕ) (a b : Entry) (d e : Decision) (u v : List LogLine) : Type 0 where
  together : n ≡ m → a ≡ b → d ≡ e → Part n m a b d e u v
  first_on : IsWhole a d u → Part n m a b d e u v
  second_on : IsWhole b e v → Part n m a b d e u v

further : (n m : ℕ) (a b : Entry) (d e : Decision) (u v : List LogLine) → Part n m a b d e u v → Part (suc n) (suc m) a b d e u v
further n m a b d e u v (together p q r) = together (ap suc p) q r
further n m a b d e u v (first_on w) = first_on w
further n m a b d e u v (second_on w) = second_on w

-- the same entry stands first, and behind it the same
behind-first : (o : Options) (past log all : List Entry) (x y : Entry) (p q : List LogLine) →
    IsNext o past x →
    IsNext o past y →
    flat_map says_of (x ∷ log) ++ p ≡ flat_map says_of (y ∷ all) ++ q →
    (x ≡ y) × (flat_map says_of log ++ p ≡ flat_map says_of all ++ q)
behind-first o past log all x y p q f g h =
    let front : List LogLine = flat_map says_of log ++ p in
    let other : List LogLine = flat_map says_of all ++ q in
    let whole : says_of x ++ front ≡ says_of y ++ other = sym (append_assoc (says_of x) (flat_map says_of log) p) ∙ h ∙ append_assoc (says_of y) (flat_map says_of all) q in
    let s = same-head x y x.decision y.decision (map says.Action x.actions ++ front) (map says.Action y.actions ++ other) (sym (entry-lines x front) ∙ whole ∙ entry-lines y other) in
    let same : x ≡ y = same-entry o past x y f g s.event s.answer in
    (same, append_cancel_left (says_of x) front other (whole ∙ ap (λ (t : Entry). says_of t ++ other) (sym same)))

pub part : (o : Options) (past log all : List Entry) (a b : Entry) (d e : Decision) (u v : List LogLine) →
    AreNext o past (log ++ a ∷ []) →
    AreNext o past (all ++ b ∷ []) →
    flat_map says_of log ++ (head_of a ++ says.Decision d ∷ u) ≡ flat_map says_of all ++ (head_of b ++ says.Decision e ∷ v) →
    Part (length log) (length all) a b d e u v
part o past [] [] a b d e u v f g h =
    let s = same-head a b d e u v h in
    together refl (same-entry o past a b f.0 g.0 s.event s.answer) s.decision
part o past [] (y ∷ all) a b d e u v f g h = first_on (in-log o past all a y d u (head_of b ++ says.Decision e ∷ v) f.0 g.0 h tt)
part o past (x ∷ log) [] a b d e u v f g h = second_on (in-log o past log b x e v (head_of a ++ says.Decision d ∷ u) g.0 f.0 (sym h) tt)
part o past (x ∷ log) (y ∷ all) a b d e u v f g h =
    let s = behind-first o past log all x y (head_of a ++ says.Decision d ∷ u) (head_of b ++ says.Decision e ∷ v) f.0 g.0 h in
    further (length log) (length all) a b d e u v
    (part o (x ∷ past) log all a b d e u v f.1 (subst (λ (t : Entry). AreNext o (t ∷ past) (all ++ b ∷ [])) (sym s.0) g.1) s.1)

-- ---- behind a whole log

-- nothing, or an event that is not decided yet, and its answer
abbrev pub IsHalf : List LogLine → Type 0
IsHalf half = (half ≡ []) ⊎ ((e : HubEvent) × (a : Answer) × (half ≡ says.Event e ∷ answers a))

half-decides : (half : List LogLine) → IsHalf half → decided half ≡ 0
half-decides half is = elim is [
  | inl none ↦ ap decided none
  | inr some ↦ omega (arith, ap decided some.2, decided-answers some.1)
]

half-acts : (half : List LogLine) → IsHalf half → NoAction half
half-acts half is = elim is [
  | inl none ↦ subst NoAction (sym none) tt
  | inr some ↦ subst NoAction (sym some.2) tt
]

-- no decision is in it
no-half : (a : Entry) (d : Decision) (u half : List LogLine) → IsHalf half → head_of a ++ says.Decision d ∷ u ≡ half → ⊥
no-half a d u half is h =
    absurd (omega (arith, ap decided h, decided-append (answers a.answer) (says.Decision d ∷ u), decided-answers a.answer, half-decides half is))

-- a log that stops in the lines of a whole log is right there
pub whole-part : (o : Options) (past log all : List Entry) (a : Entry) (d : Decision) (u half : List LogLine) →
    AreNext o past (log ++ a ∷ []) →
    AreNext o past all →
    IsHalf half →
    flat_map says_of log ++ (head_of a ++ says.Decision d ∷ u) ≡ flat_map says_of all ++ half →
    IsWhole a d u
whole-part o past [] [] a d u half f g is h = absurd (no-half a d u half is h)
whole-part o past [] (y ∷ all) a d u half f g is h = in-log o past all a y d u half f.0 g.0 h (half-acts half is)
whole-part o past (x ∷ log) [] a d u half f g is h =
    let p : List LogLine = head_of a ++ says.Decision d ∷ u in
    absurd (no-half x x.decision (map says.Action x.actions ++ (flat_map says_of log ++ p)) half is
    (sym (append_assoc (says_of x) (flat_map says_of log) p ∙ entry-lines x (flat_map says_of log ++ p)) ∙ h))
whole-part o past (x ∷ log) (y ∷ all) a d u half f g is h =
    let s = behind-first o past log all x y (head_of a ++ says.Decision d ∷ u) half f.0 g.0 h in
    whole-part o (x ∷ past) log all a d u half f.1 (subst (λ (t : Entry). AreNext o (t ∷ past) all) (sym s.0) g.1) is s.1

-- ---- the options line

pub same-start : (p q : Option Item) (log all : List Entry) (a b : Entry) (u v : List LogLine) → opening p ++ (flat_map says_of log ++ (head_of a ++ u)) ≡ opening q ++ (flat_map says_of all ++ (head_of b ++ v)) →
    SameOpening p q (flat_map says_of log ++ (head_of a ++ u)) (flat_map says_of all ++ (head_of b ++ v))
same-start None None log all a b u v e = record { line = refl; rest = e }
same-start None (Some j) log all a b u v e = absurd (some-front log a u j (flat_map says_of all ++ (head_of b ++ v)) e)
same-start (Some i) None log all a b u v e = absurd (some-front all b v i (flat_map says_of log ++ (head_of a ++ u)) (sym e))
same-start (Some i) (Some j) log all a b u v e = record { line = cc; rest = cc }

no-options-half : (i : Item) (more : List LogLine) (all : List Entry) (half : List LogLine) → IsHalf half → flat_map says_of all ++ half ≡ says.Options i ∷ more → ⊥
no-options-half i more (y ∷ all) half is e = cc
no-options-half i more [] half is e = elim is [
  | inl none ↦ nothing (sym none ∙ e)
  | inr some ↦ event some.0 (answers some.1) (sym some.2 ∙ e)
] where
  nothing : [] ≡ says.Options i ∷ more → ⊥
  nothing e = cc

  event : (d : HubEvent) (lines : List LogLine) → says.Event d ∷ lines ≡ says.Options i ∷ more → ⊥
  event d lines e = cc

pub same-start-half : (p q : Option Item) (log all : List Entry) (a : Entry) (u half : List LogLine) → IsHalf half → opening p ++ (flat_map says_of log ++ (head_of a ++ u)) ≡ opening q ++ (flat_map says_of all ++ half) →
    SameOpening p q (flat_map says_of log ++ (head_of a ++ u)) (flat_map says_of all ++ half)
same-start-half None None log all a u half is e = record { line = refl; rest = e }
same-start-half None (Some j) log all a u half is e = absurd (some-front log a u j (flat_map says_of all ++ half) e)
same-start-half (Some i) None log all a u half is e = absurd (no-options-half i (flat_map says_of log ++ (head_of a ++ u)) all half is (sym e))
same-start-half (Some i) (Some j) log all a u half is e = record { line = cc; rest = cc }
