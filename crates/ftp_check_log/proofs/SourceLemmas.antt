-- A check of what a source gives, line by line.
use Rattle.std.proofs.Common.{◌≡◌, ℕ, ◌+◌, ◌-◌, ◌<◌, ◌≤◌, inl, inr, List, [], ◌∷◌, ◌++◌, length, take, drop, Option, Some, None, refl, sym, ap, subst, ◌∙◌, append_assoc, arith}
use Rattle.std.specs.List.{position_or_len}
use Rattle.std.specs.Prelude.{IfNone, IfSome, IfOk, Result, Ok, Err}
use Rattle.std.proofs.lemmas.Bool.{cases_lt}
use Rattle.std.proofs.lemmas.Grind.{flat_map-append}
use Rattle.std.proofs.lemmas.List.{append-nil, append_cancel_left, drop_at, length-append, length-take, take-append-le}
use Rattle.ftp_control.specs.Lines.{is_line_feed, first_line, Rest}
use Rattle.ftp_control.proofs.ControlLineLemmas.{position_or_len-le}
use Rattle.ftp_control.proofs.LineLemmas.{pos_found, pos_none}
use Rattle.ftp_text.proofs.Exact.{some_is}
use Rattle.ftp_text.specs.Printing.{line}
use Rattle.ftp_text.specs.declared.line.LogLine.{LogLine}
use Rattle.ftp_text.specs.declared.place.Place.{Place}
use Rattle.ftp_text.specs.LogLines.{log_line, IsLogLine}
use Rattle.ftp_text.specs.LogText.{text_of, ComesNext, IsFirstBad}
use Rattle.ftp_text.specs.Place.{HasRead}
use Rattle.ftp_text.proofs.PlaceLemmas.{comes-fits, stage-between}
use Rattle.ftp_check_log.specs.declared.checker.Checker.{Checker}
use Rattle.ftp_check_log.specs.declared.verdict.Verdict.{Verdict}
use Rattle.ftp_check_log.specs.declared.verdict.Verdict.TheVariants as verdict
use Rattle.ftp_check_log.specs.Verdicts.{IsRightText, TellsOfText, IsOnlyVerdict}
use Rattle.ftp_check_log.specs.Checks.{Checks, Takes, TellsBy, KeepsRight}
use Rattle.ftp_check_log.specs.Pending.{HasFeed, ShowsLine}
use Rattle.ftp_check_log.specs.ReadsOn.{ReadsOn}
use Rattle.ftp_check_log.proofs.EndLemmas.{IsReadAs, bad-told, holds-place, next-checks, told-by, told-text, told-kept}
use Rattle.ftp_check_log.proofs.OneLemmas.{only-answered}
use Rattle.ftp_check_log.proofs.OnlyLemmas.{right-answered}

-- what is said of all bytes of a source by a verdict to which this checker came
abbrev pub SaidOf : Checker → Option (List ℕ) → Verdict → Type 0
SaidOf c all v = IfSome all (λ bytes. TellsBy v c bytes)

-- ---- another rest behind the same lines

checks-rest : (c : Checker) (lines : List LogLine) (all rest other bytes : List ℕ) → Checks c lines all rest → text_of lines ++ other ≡ bytes → Checks c lines bytes other
checks-rest c lines all rest other bytes checks whole = record {
  read = record { lines = checks.read.lines; taken = checks.read.taken; small = checks.read.small; reached = checks.read.reached; all_is = whole };
  holds = checks.holds;
}

pub reads-start : (all : Option (List ℕ)) (c : Checker) → Checks c [] [] [] → ReadsOn all c [] all
reads-start None c checks = record { lines = []; checks = checks; rest = tt }
reads-start (Some bytes) c checks = record { lines = []; checks = checks; rest = refl }

-- more is held
pub reads-filled : (all left later : Option (List ℕ)) (c : Checker) (held new : List ℕ) → IfSome left (λ l. Rest new later (held ++ l)) → ReadsOn all c held left → ReadsOn all c new later
reads-filled None left later c held new told r =
    record { lines = r.lines; checks = checks-rest c r.lines (text_of r.lines ++ held) held new (text_of r.lines ++ new) r.checks refl; rest = tt }
reads-filled (Some bytes) None later c held new told r = absurd r.rest
reads-filled (Some bytes) (Some l) None c held new told r = absurd told
reads-filled (Some bytes) (Some l) (Some m) c held new told r = record {
  lines = r.lines;
  checks = checks-rest c r.lines (text_of r.lines ++ held) held new (text_of r.lines ++ new) r.checks refl;
  rest =
      append_assoc (text_of r.lines) new m
      ∙ ap (λ (t : List ℕ). text_of r.lines ++ t) told
      ∙ sym (append_assoc (text_of r.lines) held l)
      ∙ r.rest;
}

-- ---- a line

-- how the next line was read, whatever stands before it
abbrev pub IsTaken : List ℕ → List ℕ → LogLine → Place → Place → Type 0
IsTaken held behind x old place = (before : List LogLine) (all : List ℕ) → HasRead before all held old → IsReadAs before all held behind x place

pub taken-as : (bytes held behind : List ℕ) (x : LogLine) (old place : Place) → bytes ≡ held → IsTaken bytes behind x old place → IsTaken held behind x old place
taken-as bytes held behind x old place same taken = subst (λ (b : List ℕ). IsTaken b behind x old place) same taken

-- what was taken fits its type
pub taken-fits : (all left : Option (List ℕ)) (old : Checker) (place : Place) (held behind : List ℕ) (x : LogLine) → ReadsOn all old held left → IsTaken held behind x old.place place → IsLogLine x
taken-fits all left old place held behind x r taken = comes-fits r.lines held x (taken r.lines (text_of r.lines ++ held) r.checks.read).0

-- a line was taken that is as it is due
reads-next : (all left : Option (List ℕ)) (old new : Checker) (place : Place) (held behind : List ℕ) (x : LogLine) (r : ReadsOn all old held left) →
    IsReadAs r.lines (text_of r.lines ++ held) held behind x place →
    Takes x None (record old { place = place }) new →
    new.place ≡ place →
    ReadsOn all new behind left
reads-next all left old new place held behind x r read takes same = record {
  lines = r.lines ++ x ∷ [];
  checks =
      checks-rest new (r.lines ++ x ∷ []) (text_of r.lines ++ held) behind behind (text_of (r.lines ++ x ∷ []) ++ behind)
      (next-checks old new place r.lines (text_of r.lines ++ held) held behind x r.checks read takes same) refl;
  rest = subst (λ (t : List ℕ). IfSome all (λ bytes. Rest t left bytes)) (sym read.1.all_is) r.rest;
}

-- what stands behind the line that was taken
behind-is : (lines : List LogLine) (x : LogLine) (held behind : List ℕ) → text_of (lines ++ x ∷ []) ++ behind ≡ text_of lines ++ held → drop (length held - length behind) held ≡ behind
behind-is lines x held behind e =
    let one = text_of (x ∷ []) in
    let split : text_of (lines ++ x ∷ []) ≡ text_of lines ++ one = flat_map-append (λ (y : LogLine). line (log_line y)) lines (x ∷ []) in
    let whole : one ++ behind ≡ held =
    append_cancel_left (text_of lines) (one ++ behind) held (sym (append_assoc (text_of lines) one behind) ∙ ap (λ (t : List ℕ). t ++ behind) (sym split) ∙ e) in
    let count : length one ≡ length held - length behind = omega (arith, ap length whole, length-append one behind) in
    ap (λ (t : List ℕ). drop (length held - length behind) t) (sym whole) ∙ drop_at one behind (length held - length behind) count

-- what is held where a line was taken, and nothing else
pub goes-on : (ended : Option Verdict) (old new : Checker) (place : Place) (held behind rest : List ℕ) (x : LogLine) →
    IsTaken held behind x old.place place →
    Takes x ended (record old { place = place }) new →
    new.place ≡ place →
    rest ≡ drop (length held - length behind) held →
    IfNone ended ((all left : Option (List ℕ)) → ReadsOn all old held left → ReadsOn all new rest left)
goes-on None old new place held behind rest x read takes same rest_is = λ all left r.
    let one = read r.lines (text_of r.lines ++ held) r.checks.read in
    subst (λ (h : List ℕ). ReadsOn all new h left) (sym (rest_is ∙ behind-is r.lines x held behind one.1.all_is))
    (reads-next all left old new place held behind x r one takes same)
goes-on (Some v) old new place held behind rest x read takes same rest_is = tt

-- a line was taken that is not as it is due
ended-reads : (all left : Option (List ℕ)) (old new : Checker) (place : Place) (held behind : List ℕ) (x : LogLine) (v : Verdict) (r : ReadsOn all old held left) →
    IsReadAs r.lines (text_of r.lines ++ held) held behind x place →
    Takes x (Some v) (record old { place = place }) new →
    SaidOf new all v
ended-reads None left old new place held behind x v r read takes = tt
ended-reads (Some bytes) None old new place held behind x v r read takes = absurd r.rest
ended-reads (Some bytes) (Some l) old new place held behind x v r read takes =
    let lines = r.lines in
    let whole : text_of (lines ++ x ∷ []) ++ (behind ++ l) ≡ bytes =
    sym (append_assoc (text_of (lines ++ x ∷ [])) behind l) ∙ ap (λ (t : List ℕ). t ++ l) read.1.all_is ∙ r.rest in
    told-by v new (lines ++ x ∷ []) bytes (behind ++ l) place
    (record { lines = read.1.lines; taken = read.1.taken; small = read.1.small; reached = read.1.reached; all_is = whole })
    (takes old.place.stage place.stage lines (behind ++ l) (comes-fits lines held x read.0) (stage-between old.place.stage place.stage lines x r.checks.read.reached read.1.reached)
    (holds-place old.place.stage old lines place r.checks.holds))

pub comes-to : (ended : Option Verdict) (old new : Checker) (place : Place) (held behind : List ℕ) (x : LogLine) →
    IsTaken held behind x old.place place →
    Takes x ended (record old { place = place }) new →
    IfSome ended (λ v. (all left : Option (List ℕ)) → ReadsOn all old held left → ShowsLine held left → SaidOf new all v)
comes-to None old new place held behind x read takes = tt
comes-to (Some v) old new place held behind x read takes = λ all left r shows.
    ended-reads all left old new place held behind x v r (read r.lines (text_of r.lines ++ held) r.checks.read) takes

-- the check is further on
pub further : (ended : Option Verdict) (old new : Checker) (place : Place) (held behind : List ℕ) (x : LogLine) →
    (all left : Option (List ℕ)) × ReadsOn all old held left →
    IsTaken held behind x old.place place →
    new.place ≡ place →
    IfNone ended (old.place.taken < new.place.taken)
further None old new place held behind x reads read same =
    let r = reads.2 in
    let one = read r.lines (text_of r.lines ++ held) r.checks.read in
    let len : length (text_of (r.lines ++ x ∷ [])) ≡ length (text_of r.lines) + length (text_of (x ∷ [])) =
    ap length (flat_map-append (λ (y : LogLine). line (log_line y)) r.lines (x ∷ [])) ∙ length-append (text_of r.lines) (text_of (x ∷ [])) in
    let some : 0 < length (text_of (x ∷ [])) = omega (arith, length-append (line (log_line x)) [], length-append (log_line x) (10 ∷ [])) in
    omega (arith, one.1.taken, r.checks.read.taken, len, some, ap (λ (p : Place). p.taken) same)
further (Some v) old new place held behind x reads read same = tt

-- where a check goes on, what holds
pub if_none : (ended : Option Verdict) (P : Type 0) → P → IfNone ended P
if_none None P p = p
if_none (Some v) P p = tt

-- ---- the end

pub end-reads : (c : Checker) (v : Verdict) → ((lines : List LogLine) (whole : List ℕ) → Checks c lines whole [] → TellsBy v c whole) →
    (held : List ℕ) → held ≡ [] → (all left : Option (List ℕ)) → ReadsOn all c held left → ShowsLine held left → SaidOf c all v
end-reads c v ended held nil None left r shows = tt
end-reads c v ended held nil (Some bytes) None r shows = absurd r.rest
end-reads c v ended held nil (Some bytes) (Some l) r (inl feed) =
    absurd (omega (arith, feed, ap length nil))
end-reads c v ended held nil (Some bytes) (Some l) r (inr (inl e)) =
    let whole : text_of r.lines ++ [] ≡ bytes =
    ap (λ (t : List ℕ). text_of r.lines ++ t) (sym nil)
    ∙ sym (append-nil (text_of r.lines ++ held)) ∙ ap (λ (t : List ℕ). (text_of r.lines ++ held) ++ t) (sym (some_is l [] e)) ∙ r.rest in
    ended r.lines bytes (checks-rest c r.lines (text_of r.lines ++ held) held [] bytes r.checks whole)
end-reads c v ended held nil (Some bytes) (Some l) r (inr (inr big)) = absurd (omega (arith, big, ap length nil))

-- ---- a bad line

-- what is held shows that a line comes next
shown-feed : (lines : List LogLine) (held l : List ℕ) (x : LogLine) → HasFeed held → ComesNext lines (held ++ l) x → ComesNext lines held x
shown-feed lines held l x feed next =
    let at : position_or_len is_line_feed (held ++ l) ≡ position_or_len is_line_feed held = pos_found held l (position_or_len is_line_feed held) refl feed in
    let first : first_line (held ++ l) ≡ first_line held = ap (λ (n : ℕ). take n (held ++ l)) at ∙ take-append-le (position_or_len is_line_feed held) held l (omega (arith, feed)) in
    record {
      ends = feed;
      spelled = next.spelled ∙ first;
      front = next.front;
      small = subst (λ (t : List ℕ). length (text_of lines) + (length t + 1) ≤ 67108864) first next.small;
    }

too-long : (lines : List LogLine) (held l : List ℕ) (x : LogLine) → 67108864 ≤ length held → position_or_len is_line_feed held ≡ length held → ComesNext lines (held ++ l) x → ⊥
too-long lines held l x big none next =
    omega (arith, big, next.small, next.ends, pos_none held l none, length-take (position_or_len is_line_feed (held ++ l)) (held ++ l))

shown : (lines : List LogLine) (held l : List ℕ) (x : LogLine) → ShowsLine held (Some l) → ComesNext lines (held ++ l) x → ComesNext lines held x
shown lines held l x (inl feed) next = shown-feed lines held l x feed next
shown lines held l x (inr (inl e)) next = subst (λ (t : List ℕ). ComesNext lines t x) (ap (λ (m : List ℕ). held ++ m) (some_is l [] e) ∙ append-nil held) next
shown lines held l x (inr (inr big)) next =
    elim (cases_lt (position_or_len is_line_feed held) (length held)) [
      | inl feed ↦ shown-feed lines held l x feed next
      | inr none ↦ absurd (too-long lines held l x big (omega (arith, none, position_or_len-le held)) next)
    ]

bad-shown : (k : ℕ) (lines : List LogLine) (held l : List ℕ) → ShowsLine held (Some l) → 0 < length held → IsFirstBad k lines held → IsFirstBad k lines (held ++ l)
bad-shown k lines held l shows some bad = record {
  front = bad.front;
  small = bad.small;
  bad =
      elim bad.bad [
        | inl there ↦ inl (omega (arith, there.0, length-append held l), (λ x next. there.1 x (shown lines held l x shows next)), there.2)
        | inr end ↦ absurd (omega (arith, some, ap length end.0))
      ];
}

pub bad-reads : (c : Checker) (held : List ℕ) (k : ℕ) →
    0 < length held →
    ((before : List LogLine) (all : List ℕ) → HasRead before all held c.place → IsFirstBad k before held) →
    (all left : Option (List ℕ)) → ReadsOn all c held left → ShowsLine held left → SaidOf c all (verdict.BadText k)
bad-reads c held k some bad None left r shows = tt
bad-reads c held k some bad (Some bytes) None r shows = absurd r.rest
bad-reads c held k some bad (Some bytes) (Some l) r shows =
    let whole : text_of r.lines ++ (held ++ l) ≡ bytes = sym (append_assoc (text_of r.lines) held l) ∙ r.rest in
    bad-told c r.lines bytes (held ++ l) k (checks-rest c r.lines (text_of r.lines ++ held) held (held ++ l) bytes r.checks whole)
    (bad-shown k r.lines held l shows some (bad r.lines (text_of r.lines ++ held) r.checks.read))

-- ---- what is read on

-- a source that tells its bytes tells what is left
pub shown-left : (all left later : Option (List ℕ)) (c last : Checker) (held new : List ℕ) (v : Verdict) →
    IfSome left (λ _. ShowsLine new later) →
    ReadsOn all c held left →
    ReadsOn all c new later →
    ((every rest : Option (List ℕ)) → ReadsOn every c new rest → ShowsLine new rest → SaidOf last every v) →
    SaidOf last all v
shown-left None left later c last held new v shows r now ended = tt
shown-left (Some bytes) None later c last held new v shows r now ended = absurd r.rest
shown-left (Some bytes) (Some l) later c last held new v shows r now ended = ended (Some bytes) later now shows

-- where a check comes to right, the log that it kept is right, whatever the source tells
pub kept-said : (all left : Option (List ℕ)) (c last : Checker) (held : List ℕ) (v : Verdict) →
    ReadsOn all c held left →
    ((every rest : Option (List ℕ)) → ReadsOn every c held rest → ShowsLine held rest → SaidOf last every v) →
    KeepsRight v last
kept-said all left c last held v r ended =
    let read : ReadsOn (Some (text_of r.lines ++ held)) c held (Some []) = record { lines = r.lines; checks = r.checks; rest = append-nil (text_of r.lines ++ held) } in
    told-kept v last (text_of r.lines ++ held) (ended (Some (text_of r.lines ++ held)) (Some []) read (inr (inl refl)))

-- where a check goes on
pub going-then : {E A B : Type 0} (r : Result (Option Verdict) E) → IfOk r (λ ended. IfNone ended A) → (A → B) → IfOk r (λ ended. IfNone ended B)
going-then (Ok None) a f = f a
going-then (Ok (Some v)) a f = tt
going-then (Err e) a f = tt

-- where it ends
pub ending-then : {E : Type 0} {P Q : Verdict → Type 0} (r : Result (Option Verdict) E) → IfOk r (λ ended. IfSome ended P) → ((v : Verdict) → P v → Q v) → IfOk r (λ ended. IfSome ended Q)
ending-then (Ok None) p f = tt
ending-then (Ok (Some v)) p f = f v p
ending-then (Err e) p f = tt

-- ---- the verdict

-- what a checker came to is so of the bytes
pub text-source : {E : Type 0} (r : Result Verdict E) (c : Checker) (all : Option (List ℕ)) → IfOk r (λ v. SaidOf c all v) → IfOk r (λ v. IfSome all (λ bytes. TellsOfText v bytes))
text-source (Ok v) c None told = tt
text-source (Ok v) c (Some bytes) told = told-text v c bytes told
text-source (Err e) c all told = tt

pub only-source : {E : Type 0} (r : Result Verdict E) (c : Checker) (all : Option (List ℕ)) → IfOk r (λ v. SaidOf c all v) → IfOk r (λ v. IfSome all (λ bytes. IsOnlyVerdict v bytes))
only-source (Ok v) c None told = tt
only-source {E} (Ok v) c (Some bytes) told = only-answered {E = E} (Ok v) bytes (told-text v c bytes told)
only-source (Err e) c all told = tt

pub right-source : {E : Type 0} (r : Result Verdict E) (c : Checker) (all : Option (List ℕ)) → IfOk r (λ v. SaidOf c all v) →
    IfSome all (λ bytes. (n : ℕ) → IsRightText n bytes → IfOk r (λ v. v ≡ verdict.Right n))
right-source r c None told = tt
right-source r c (Some bytes) told = λ n right. right-answered r bytes n (text-source r c (Some bytes) told) right
