-- A run, and more events.
use Rattle.std.specs.Prelude.{Result, Ok, Err, IfOk, codes}
use Rattle.std.specs.List.{flat_map, range_with_len}
use Rattle.std.proofs.Common.{◌≡◌, ℕ, zero, suc, ◌+◌, ◌-◌, ◌*◌, ◌≤◌, List, [], ◌∷◌, ◌++◌, length, map, reverse, refl, sym, ap, subst, ◌∙◌, append_assoc, length-append, arith}
use Rattle.std.proofs.lemmas.List.{append-nil, map-append, reverse-append}
use Rattle.std.proofs.lemmas.Grind.{flat_map-append}
use Rattle.ftp_base.specs.declared.login.AuthAnswer.TheVariants.{Good}
use Rattle.ftp_options.specs.declared.options.Options.{Options}
use Rattle.ftp_events.specs.declared.entry.Entry.{Entry}
use Rattle.ftp_events.specs.declared.event.Answer.TheVariants as answer
use Rattle.ftp_events.specs.declared.event.EventKind.{EventKind}
use Rattle.ftp_events.specs.declared.event.EventKind.TheVariants.{Connect, User, Pass, AuthDone}
use Rattle.ftp_events.specs.Right.{log_of, next_entry}
use Rattle.ftp_hub.specs.declared.hub.Hub.{Hub}
use Rattle.ftp_hub.specs.Stands.{SameAnswers, Stands, options_of, count_of}
use Rattle.ftp_hub.proofs.Refusals.{stands-same}
use Rattle.ftp_script_run.specs.declared.stress_run.Run.{Run}
use Rattle.ftp_script_run.specs.Draws.{stirred, stirred_by, given}
use Rattle.ftp_script_run.specs.Events.{client, called, login_of, chosen, drawn, unasked}
use Rattle.ftp_script_run.specs.Counts.{AreCounts}
use Rattle.ftp_script_run.specs.Stress.{stress_options, log_after}
use Rattle.ftp_script_run.specs.Keeping.{Keeps, HasPlace, Takes}

-- ---- the log

-- one event more
log_after-more : (ks : List EventKind) (k : EventKind) → log_after (ks ++ k ∷ []) ≡ next_entry stress_options (log_after ks) (record { at = 0; kind = k }) answer.None ∷ log_after ks
log_after-more ks k = ap (log_of stress_options) (ap reverse (map-append unasked ks (k ∷ [])) ∙ reverse-append (map unasked ks) (unasked k ∷ []))

-- ---- what is taken

pub takes-more : (old now new : Run) (a b : List EventKind) → Takes old a now → Takes now b new → Takes old (a ++ b) new
takes-more old now new a b first second = λ ks kept. subst (Keeps new) (append_assoc ks a b) (second (ks ++ a) (first ks kept))

-- how much place is left
pub place-after : (old new : Run) (more : List EventKind) (m n : ℕ) → HasPlace m old → Takes old more new → length more + n ≤ m → HasPlace n new
place-after old new more m n place took le = (place.0 ++ more, took place.0 place.1, omega (arith, place.2, le, length-append place.0 more))

-- an event was run and its decision counted
pub takes-one : (old new : Run) (mid : Hub) (k : EventKind) →
    SameAnswers old.hub mid →
    ((log : List Entry) → Stands mid log → Stands new.hub (next_entry (options_of mid) log (record { at = 0; kind = k }) answer.None ∷ log)) →
    ((log : List Entry) → Stands mid log → AreCounts old.counts.numbers log → AreCounts new.counts.numbers (next_entry (options_of mid) log (record { at = 0; kind = k }) answer.None ∷ log)) →
    options_of new.hub ≡ options_of mid →
    count_of new.hub ≡ count_of mid + 1 →
    Takes old (k ∷ []) new
takes-one old new mid k same stands counted options count = λ ks kept.
    let mid_stands : Stands mid (log_after ks) = stands-same old.hub mid (log_after ks) same kept.stands in
    let set : options_of mid ≡ stress_options = same.head.options ∙ kept.options in
    let next : next_entry (options_of mid) (log_after ks) (record { at = 0; kind = k }) answer.None ∷ log_after ks ≡ log_after (ks ++ k ∷ []) =
    ap (λ (o : Options). next_entry o (log_after ks) (record { at = 0; kind = k }) answer.None ∷ log_after ks) set ∙ sym (log_after-more ks k) in
    record {
      options = options ∙ set;
      stands = subst (Stands new.hub) next (stands (log_after ks) mid_stands);
      counts = subst (AreCounts new.counts.numbers) next (counted (log_after ks) mid_stands kept.counts);
      events = omega (arith, count, same.head.count, kept.events, length-append ks (k ∷ []));
    }

-- ---- the logins and the drawn events

-- one number more
range-more : (a n : ℕ) → range_with_len a (suc n) ≡ range_with_len a n ++ (a + n) ∷ []
range-more a zero = ap (λ x. x ∷ []) (omega arith)
range-more a (suc n) = ap (λ l. a ∷ l) (range-more (a + 1) n ∙ ap (λ x. range_with_len (a + 1) n ++ x ∷ []) (omega arith))

-- the numbers below this one, and it
pub range-next : (k : ℕ) → 1 ≤ k → range_with_len 1 ((k + 1) - 1) ≡ range_with_len 1 (k - 1) ++ k ∷ []
range-next k from =
    let next : (k + 1) - 1 ≡ suc (k - 1) = omega arith in
    let last : 1 + (k - 1) ≡ k = omega arith in
    ap (range_with_len 1) next ∙ range-more 1 (k - 1) ∙ ap (λ x. range_with_len 1 (k - 1) ++ x ∷ []) last

pub length-logins : (a n : ℕ) → length (flat_map login_of (range_with_len a n)) ≡ 4 * n
length-logins a zero = refl
length-logins a (suc n) = omega (arith, length-logins (a + 1) n)

-- ---- what follows from what is said of a result

pub if_ok-then : {T E : Type 0} {P Q : T → Type 0} (r : Result T E) → IfOk r P → ((x : T) → P x → Q x) → IfOk r Q
if_ok-then (Ok x) p f = f x p
if_ok-then (Err e) p f = tt

-- ---- the steps of the two loops

-- nothing was taken
pub takes-none : (run : Run) → Takes run [] run
takes-none run = λ ks kept. subst (Keeps run) (sym (append-nil ks)) kept

-- a session has logged in
pub logged-in : (old a b c new : Run) (s : ℕ) (k : EventKind) (name : List ℕ) →
    Takes old (k ∷ []) a →
    k ≡ Connect s (client s 4000) called s →
    Takes a (User s name ∷ []) b →
    name ≡ codes "ann" →
    Takes b (Pass s ∷ []) c →
    Takes c (AuthDone s Good ∷ []) new →
    Takes old (login_of s) new
logged-in old a b c new s k name first connected second named third fourth =
    takes-more old c new (Connect s (client s 4000) called s ∷ User s (codes "ann") ∷ Pass s ∷ []) (AuthDone s Good ∷ [])
    (takes-more old b c (Connect s (client s 4000) called s ∷ User s (codes "ann") ∷ []) (Pass s ∷ [])
    (takes-more old a b (Connect s (client s 4000) called s ∷ []) (User s (codes "ann") ∷ [])
    (subst (λ (x : EventKind). Takes old (x ∷ []) a) connected first)
    (subst (λ (n : List ℕ). Takes a (User s n ∷ []) b) named second))
    third)
    fourth

-- the sessions before this one have logged in, and this one
pub logins-next : (old now new : Run) (k : ℕ) →
    1 ≤ k →
    Takes old (flat_map login_of (range_with_len 1 (k - 1))) now →
    Takes now (login_of k) new →
    Takes old (flat_map login_of (range_with_len 1 ((k + 1) - 1))) new
logins-next old now new k from before this =
    subst (λ (ks : List EventKind). Takes old ks new) (sym all) (takes-more old now new (flat_map login_of (range_with_len 1 (k - 1))) (login_of k) before this) where
      all : flat_map login_of (range_with_len 1 ((k + 1) - 1)) ≡ flat_map login_of (range_with_len 1 (k - 1)) ++ login_of k
      all = ap (flat_map login_of) (range-next k from) ∙ flat_map-append login_of (range_with_len 1 (k - 1)) (k ∷ []) ∙ ap (λ ks. flat_map login_of (range_with_len 1 (k - 1)) ++ ks) (append-nil (login_of k))

-- the next event is drawn
pub drawn-is : (seed sessions k x y z w a b c : ℕ) →
    1 ≤ k →
    x ≡ stirred_by (3 * k - 3) seed →
    y ≡ stirred x →
    z ≡ stirred y →
    w ≡ stirred z →
    a ≡ given y →
    b ≡ given z →
    c ≡ given w →
    (chosen sessions (sessions + k) a b c ≡ drawn seed sessions k) × (w ≡ stirred_by (3 * (k + 1) - 3) seed)
drawn-is seed sessions k x y z w a b c from is_x is_y is_z is_w is_a is_b is_c =
    (λ i. chosen sessions (sessions + k) (first i) (second i) (third i), at_w ∙ place (suc (suc (suc (3 * k - 3)))) (3 * (k + 1) - 3) (omega arith)) where
      at_y : y ≡ stirred_by (suc (3 * k - 3)) seed
      at_y = is_y ∙ ap stirred is_x

      at_z : z ≡ stirred_by (suc (suc (3 * k - 3))) seed
      at_z = is_z ∙ ap stirred at_y

      at_w : w ≡ stirred_by (suc (suc (suc (3 * k - 3)))) seed
      at_w = is_w ∙ ap stirred at_z

      place : (m n : ℕ) → m ≡ n → stirred_by m seed ≡ stirred_by n seed
      place m n e = ap (λ j. stirred_by j seed) e

      first : a ≡ given (stirred_by (3 * k - 2) seed)
      first = is_a ∙ ap given (at_y ∙ place (suc (3 * k - 3)) (3 * k - 2) (omega arith))

      second : b ≡ given (stirred_by (3 * k - 1) seed)
      second = is_b ∙ ap given (at_z ∙ place (suc (suc (3 * k - 3))) (3 * k - 1) (omega arith))

      third : c ≡ given (stirred_by (3 * k) seed)
      third = is_c ∙ ap given (at_w ∙ place (suc (suc (suc (3 * k - 3)))) (3 * k) (omega arith))

-- the events before this one were drawn, and this one
pub draws-next : (seed sessions : ℕ) (old now new : Run) (k : ℕ) (kind : EventKind) →
    1 ≤ k →
    Takes old (map (drawn seed sessions) (range_with_len 1 (k - 1))) now →
    kind ≡ drawn seed sessions k →
    Takes now (kind ∷ []) new →
    Takes old (map (drawn seed sessions) (range_with_len 1 ((k + 1) - 1))) new
draws-next seed sessions old now new k kind from before is this =
    subst (λ (ks : List EventKind). Takes old ks new) (sym all)
    (takes-more old now new (map (drawn seed sessions) (range_with_len 1 (k - 1))) (drawn seed sessions k ∷ []) before
    (subst (λ (x : EventKind). Takes now (x ∷ []) new) is this)) where
      all : map (drawn seed sessions) (range_with_len 1 ((k + 1) - 1)) ≡ map (drawn seed sessions) (range_with_len 1 (k - 1)) ++ drawn seed sessions k ∷ []
      all = ap (map (drawn seed sessions)) (range-next k from) ∙ map-append (drawn seed sessions) (range_with_len 1 (k - 1)) (k ∷ [])

pub length-drawn : (f : ℕ → EventKind) (a n : ℕ) → length (map f (range_with_len a n)) ≡ n
length-drawn f a zero = refl
length-drawn f a (suc n) = omega (arith, length-drawn f (a + 1) n)
