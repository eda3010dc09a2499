-- What an audit has heard, and what a right and acted log has decided.
use Rattle.std.proofs.Common.{◌≡◌, refl, sym, ◌∙◌, ap, ap₂, ℕ, ◌+◌, ◌≤◌, ◌<◌, Bool, true, false, ◌&&◌, ◌||◌, cond, List, [], ◌∷◌, ◌++◌, length, Option, Some, None, arith, append-nil, take, get_or}
use Rattle.std.specs.Prelude.{nat_le, nat_lt, is_some}
use Rattle.std.specs.List.{list_any}
use Rattle.std.proofs.lemmas.Bool.{ltb-true, ltb-false}
use Rattle.std.proofs.lemmas.Bool.Decides.{nat_tests}
use Rattle.std.proofs.lemmas.List.{take_more}
use Rattle.std.proofs.lemmas.List.Elements.{filter-append, filter_map-append}
use Rattle.ftp_base.specs.declared.notice.Notice.{Notice}
use Rattle.ftp_events.specs.declared.action.Action.{Action}
use Rattle.ftp_options.specs.declared.options.Options.{Options}
use Rattle.ftp_events.specs.declared.entry.Entry.{Entry}
use Rattle.ftp_events.specs.Right.{IsRight, IsActed}
use Rattle.ftp_audit.specs.declared.account.Mark.{Mark}
use Rattle.ftp_audit.specs.declared.total.Total.{Total}
use Rattle.ftp_audit.specs.Totals.{nothing, plus, minus, told}
use Rattle.ftp_audit.specs.Marks.{newest, below, reached, next, total_of, UpTo}
use Rattle.ftp_audit.proofs.MarkLemmas.{newest-push}
use Rattle.ftp_audit.specs.Sums.{is_within, sums}
use Rattle.ftp_audit.specs.Users.{marks_of}
use Rattle.ftp_audit.specs.Listing.{IsListing}
use Rattle.ftp_audit.specs.Heard.{notice_on, notices_on, told_by_all, heard, is_named, with_all, Below, AuditState, HasHeard, Stands, total_in}
use Rattle.ftp_audit.proofs.PlusLemmas.{plus-nothing, plus-assoc, plus-swap, minus-plus}
use Rattle.ftp_audit.proofs.EntryLemmas.{entry-added}

-- over any stretch of a right and acted log what is heard is what was decided
pub heard-sums :
    (o : Options) (log : List Entry) (user : List ℕ) (from to : ℕ) → IsRight o log → IsActed o log →
    heard log user from to ≡ sums o log user from to
heard-sums o [] user from to r a = refl
heard-sums o (e ∷ log) user from to r a =
    ap₂ (λ (t m : Total). plus t (cond (is_within from to (length log)) m nothing)) (heard-sums o log user from to r.0 a.0) (entry-added o log e user r a)

-- ---- stretches

and-false : (b : Bool) → (b && false) ≡ false
and-false true = refl
and-false false = refl

-- what is heard below a place is what is heard below an earlier one, and from there on
pub heard-split :
    (log : List Entry) (user : List ℕ) (from to : ℕ) → from ≤ to →
    heard log user 0 to ≡ plus (heard log user 0 from) (heard log user from to)
heard-split [] user from to le = refl
heard-split (e ∷ log) user from to le =
    ap (λ (t : Total). plus t (counted 0 to)) (heard-split log user from to le) ∙ go (nat_lt p from) (nat_lt p to) refl refl
  where
    p : ℕ
    p = length log

    here : Total
    here = told_by_all (notices_on user e.actions)

    counted : ℕ → ℕ → Total
    counted low high = cond (is_within low high (length log)) (told_by_all (notices_on user e.actions)) nothing

    early : Total
    early = heard log user 0 from

    late : Total
    late = heard log user from to

    zero-le : nat_le 0 (length log) ≡ true
    zero-le = grind (arith, nat_tests)

    go :
        (a b : Bool) → nat_lt (length log) from ≡ a → nat_lt (length log) to ≡ b →
        plus (plus early late) (counted 0 to) ≡ plus (plus early (counted 0 from)) (plus late (counted from to))
    go true true x y =
        let above : nat_le from (length log) ≡ false = grind (arith, nat_tests, ltb-true (length log) from x) in
        rw (zero-le, x, y, above) (plus-swap early late here ∙ ap (plus (plus early here)) (sym (plus-nothing late)))
    go true false x y = absurd (omega (arith, ltb-true (length log) from x, ltb-false (length log) to y))
    go false true x y =
        let above : nat_le from (length log) ≡ true = grind (arith, nat_tests, ltb-false (length log) from x) in
        rw (zero-le, x, y, above) (plus-assoc early late here ∙ ap (λ (t : Total). plus t (plus late here)) (sym (plus-nothing early)))
    go false false x y = rw (zero-le, x, y, and-false (nat_le from (length log))) (plus-nothing (plus early late) ∙ ap₂ plus (sym (plus-nothing early)) (sym (plus-nothing late)))

-- what running sums have at a place above what they had at an earlier one is what was heard in between
pub heard-between :
    (log : List Entry) (user : List ℕ) (from to : ℕ) → from ≤ to →
    minus (heard log user 0 to) (heard log user 0 from) ≡ heard log user from to
heard-between log user from to le =
    ap (λ (t : Total). minus t (heard log user 0 from)) (heard-split log user from to le) ∙ minus-plus (heard log user 0 from) (heard log user from to)

-- ---- marks

-- what is below a place is not above it
pub upto-below : (place : ℕ) (marks : List Mark) → Below place marks → UpTo place marks
upto-below place [] h = tt
upto-below place (m ∷ marks) h = (omega (arith, h.0), upto-below place marks h.1)

-- what is at a place or before is below all later ones
pub below-upto : (at place : ℕ) (marks : List Mark) → UpTo at marks → at < place → Below place marks
below-upto at place [] h lt = tt
below-upto at place (m ∷ marks) h lt = (omega (arith, h.0), below-upto at place marks h.1 lt)

-- of marks below a place all are below it
pub below-all : (place : ℕ) (marks : List Mark) → Below place marks → below place marks ≡ marks
below-all place [] h = refl
below-all place (m ∷ marks) h =
    let lt : nat_lt m.place place ≡ true = grind (arith, nat_tests, h.0) in
    rw lt (ap (λ (ms : List Mark). m ∷ ms) (below-all place marks h.1))

-- what is left below a place is below it
pub below-below : (place : ℕ) (marks : List Mark) → Below place (below place marks)
below-below place [] = tt
below-below place (m ∷ marks) = go (nat_lt m.place place) refl (below-below place marks)
  where
    go : (b : Bool) → nat_lt m.place place ≡ b → Below place (below place marks) → Below place (cond b (m ∷ below place marks) (below place marks))
    go true e h = (ltb-true m.place place e, h)
    go false e h = h

-- one mark more at a place
pub upto-push : (at : ℕ) (marks : List Mark) (m : Mark) → UpTo at marks → m.place ≤ at → UpTo at (marks ++ m ∷ [])
upto-push at [] m h le = (le, tt)
upto-push at (x ∷ marks) m h le = (h.0, upto-push at marks m h.1 le)

-- marks for all that was told at a place are not above it
pub upto-with_all : (at : ℕ) (marks : List Mark) (notices : List Notice) → UpTo at marks → UpTo at (with_all at marks notices)
upto-with_all at marks [] h = h
upto-with_all at marks (what ∷ notices) h = upto-with_all at (marks ++ next marks at (told what) ∷ []) notices (upto-push at marks (next marks at (told what)) h (omega arith))

-- a mark at a place changes nothing below it
below-push : (place : ℕ) (marks : List Mark) (m : Mark) → nat_lt m.place place ≡ false → below place (marks ++ m ∷ []) ≡ below place marks
below-push place marks m e = filter-append (λ (x : Mark). nat_lt x.place place) marks (m ∷ []) ∙ rw e (append-nil (below place marks))

pub below-with_all : (at place : ℕ) (marks : List Mark) (notices : List Notice) → nat_lt at place ≡ false → below place (with_all at marks notices) ≡ below place marks
below-with_all at place marks [] e = refl
below-with_all at place marks (what ∷ notices) e =
    below-with_all at place (marks ++ next marks at (told what) ∷ []) notices e ∙ below-push place marks (next marks at (told what)) e

-- marks at a place are not below it
pub below-same : (at : ℕ) (marks : List Mark) (notices : List Notice) → below at (with_all at marks notices) ≡ below at marks
below-same at marks notices = below-with_all at at marks notices (grind (arith, nat_tests))

-- they have come to what was told, on top of what they had come to
newest-with_all : (at : ℕ) (marks : List Mark) (notices : List Notice) → newest nothing (with_all at marks notices) ≡ plus (newest nothing marks) (told_by_all notices)
newest-with_all at marks [] = sym (plus-nothing (newest nothing marks))
newest-with_all at marks (what ∷ notices) =
    newest-with_all at (marks ++ next marks at (told what) ∷ []) notices
    ∙ (ap (λ (t : Total). plus t (told_by_all notices)) (newest-push nothing marks (next marks at (told what)))
    ∙ plus-assoc (newest nothing marks) (told what) (told_by_all notices))

-- one notification more is one mark more
pub with_all-push : (at : ℕ) (marks : List Mark) (notices more : List Notice) → with_all at marks (notices ++ more) ≡ with_all at (with_all at marks notices) more
with_all-push at marks [] more = refl
with_all-push at marks (what ∷ notices) more = with_all-push at (marks ++ next marks at (told what) ∷ []) notices more

-- below each place they have come to what is heard there
pub reached-with_all :
    (at place : ℕ) (marks : List Mark) (notices : List Notice) → UpTo at marks →
    reached (with_all at marks notices) place ≡ plus (reached marks place) (cond (is_within 0 place at) (told_by_all notices) nothing)
reached-with_all at place marks notices up = go (nat_lt at place) refl
  where
    zero-le : nat_le 0 at ≡ true
    zero-le = grind (arith, nat_tests)

    go : (b : Bool) → nat_lt at place ≡ b → reached (with_all at marks notices) place ≡ plus (reached marks place) (cond (is_within 0 place at) (told_by_all notices) nothing)
    go true e =
        let lt : at < place = ltb-true at place e in
        let all : below place (with_all at marks notices) ≡ with_all at marks notices = below-all place (with_all at marks notices) (below-upto at place (with_all at marks notices) (upto-with_all at marks notices up) lt) in
        let some : marks ≡ below place marks = sym (below-all place marks (below-upto at place marks up lt)) in
        rw (zero-le, e) (ap (newest nothing) all ∙ (newest-with_all at marks notices ∙ ap (λ (ms : List Mark). plus (newest nothing ms) (told_by_all notices)) some))
    go false e = rw (zero-le, e) (ap (newest nothing) (below-with_all at place marks notices e) ∙ sym (plus-nothing (reached marks place)))

-- one action more
pub heard-action :
    (at : ℕ) (user : List ℕ) (marks : List Mark) (actions : List Action) (i : ℕ) (action : Action) → i < length actions → action ≡ get_or actions i action →
    with_all at marks (notices_on user (take (i + 1) actions)) ≡ with_all at (with_all at marks (notices_on user (take i actions))) (notices_on user (action ∷ []))
heard-action at user marks actions i action lt is =
    ap (λ (xs : List Action). with_all at marks (notices_on user xs)) (take_more actions i action lt ∙ ap (λ (x : Action). take i actions ++ x ∷ []) (sym is))
    ∙ (ap (with_all at marks) (filter_map-append (notice_on user) (take i actions) (action ∷ []))
    ∙ with_all-push at marks (notices_on user (take i actions)) (notices_on user (action ∷ [])))

-- ---- names

-- something was told where something is told
some-push : (marks : List Mark) (m : Mark) → is_some (total_of (marks ++ m ∷ [])) ≡ true
some-push [] m = refl
some-push (x ∷ marks) m = refl

some-with_all : (at : ℕ) (marks : List Mark) (notices : List Notice) → is_some (total_of marks) ≡ true → is_some (total_of (with_all at marks notices)) ≡ true
some-with_all at marks [] h = h
some-with_all at marks (what ∷ notices) h = some-with_all at (marks ++ next marks at (told what) ∷ []) notices (some-push marks (next marks at (told what)))

-- marks of a user tell something where they did, or where an action is a notification of it
pub named-with_all :
    (at : ℕ) (marks : List Mark) (user : List ℕ) (actions : List Action) →
    is_some (total_of (with_all at marks (notices_on user actions))) ≡ (list_any (λ action. is_some (notice_on user action)) actions || is_some (total_of marks))
named-with_all at marks user [] = refl
named-with_all at marks user (action ∷ actions) = go (notice_on user action) refl (named-with_all at marks user actions)
  where
    go :
        (x : Option Notice) → notice_on user action ≡ x →
        is_some (total_of (with_all at marks (notices_on user actions))) ≡ (list_any (λ a. is_some (notice_on user a)) actions || is_some (total_of marks)) →
        is_some (total_of (with_all at marks (notices_on user (action ∷ actions)))) ≡ ((is_some (notice_on user action) || list_any (λ a. is_some (notice_on user a)) actions) || is_some (total_of marks))
    go None e h = rw e h
    go (Some what) e h = rw e (some-with_all at (marks ++ next marks at (told what) ∷ []) (notices_on user actions) (some-push marks (next marks at (told what))))

-- ---- what an audit answers

-- between two places
pub between-heard :
    (audit : AuditState) (log : List Entry) (user : List ℕ) (from to : ℕ) → HasHeard audit log → from ≤ to →
    minus (reached (marks_of audit.users user) to) (reached (marks_of audit.users user) from) ≡ heard log user from to
between-heard audit log user from to h le = ap₂ minus (h.sums user to) (h.sums user from) ∙ heard-between log user from to le

total-some : (marks : List Mark) (b : Bool) (t : Total) → is_some (total_of marks) ≡ b → newest nothing marks ≡ t → total_of marks ≡ cond b (Some t) None
total-some [] true t x y = cc
total-some [] false t x y = refl
total-some (m ∷ marks) true t x y = ap Some y
total-some (m ∷ marks) false t x y = cc

-- of all entries
pub total-heard :
    (audit : AuditState) (log : List Entry) (user : List ℕ) → HasHeard audit log → Below audit.taken (marks_of audit.users user) →
    total_of (marks_of audit.users user) ≡ cond (is_named log user) (Some (heard log user 0 (length log))) None
total-heard audit log user h under =
    total-some (marks_of audit.users user) (is_named log user) (heard log user 0 (length log)) (h.named user)
    (ap (newest nothing) (sym (below-all audit.taken (marks_of audit.users user) under)) ∙ (h.sums user audit.taken ∙ ap (heard log user 0) h.taken))

-- of all entries of a right and acted log
pub total-sums :
    (o : Options) (audit : AuditState) (log : List Entry) (user : List ℕ) → Stands o audit log → Below audit.taken (marks_of audit.users user) →
    total_of (marks_of audit.users user) ≡ total_in o log user
total-sums o audit log user h under =
    total-heard audit log user h.heard under ∙ ap (λ (t : Total). cond (is_named log user) (Some t) None) (heard-sums o log user 0 (length log) h.right h.acted)

-- a listing of the users of an audit is one of those of its log
pub listing-sums :
    (o : Options) (audit : AuditState) (log : List Entry) (rows : List (List ℕ × Total)) → Stands o audit log → ((user : List ℕ) → Below audit.taken (marks_of audit.users user)) →
    IsListing (λ name. total_of (marks_of audit.users name)) rows → IsListing (total_in o log) rows
listing-sums o audit log rows h under listing =
    record { in_order = listing.in_order; each = λ name. listing.each name ∙ total-sums o audit log name h (under name) }

-- ---- what an audit takes

-- after the notifications of one more entry
pub heard-more :
    (old new : AuditState) (log : List Entry) (e : Entry) → HasHeard old log → ((user : List ℕ) → Below old.taken (marks_of old.users user)) →
    new.taken ≡ old.taken + 1 →
    ((user : List ℕ) → marks_of new.users user ≡ with_all old.taken (marks_of old.users user) (notices_on user e.actions)) →
    HasHeard new (e ∷ log)
heard-more old new log e h under count marks =
    record {
      taken = count ∙ omega (arith, h.taken);
      sums = λ user place.
          ap (λ (ms : List Mark). reached ms place) (marks user)
          ∙ (reached-with_all old.taken place (marks_of old.users user) (notices_on user e.actions) (upto-below old.taken (marks_of old.users user) (under user))
          ∙ ap₂ (λ (t : Total) (at : ℕ). plus t (cond (is_within 0 place at) (told_by_all (notices_on user e.actions)) nothing)) (h.sums user place) h.taken);
      named = λ user.
          ap (λ (ms : List Mark). is_some (total_of ms)) (marks user)
          ∙ (named-with_all old.taken (marks_of old.users user) user e.actions
          ∙ ap (λ (b : Bool). list_any (λ action. is_some (notice_on user action)) e.actions || b) (h.named user));
    }
