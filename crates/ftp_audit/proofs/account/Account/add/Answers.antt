use Rattle.std.proofs.Common.{◌≡◌, ◌∙◌, sym, ap, subst, ℕ, ◌+◌, ◌-◌, ◌≤◌, ◌^◌, List, [], ◌∷◌, ◌++◌, length, arith}
use Rattle.std.proofs.lemmas.List.{length-append}
use Rattle.ftp_audit.specs.declared.account.Mark.{Mark}
use Rattle.ftp_audit.specs.declared.total.Total.{Total}
use Rattle.ftp_audit.specs.Totals.{nothing, told, plus, add}
use Rattle.ftp_audit.specs.Marks.{newest, next, UpTo}
use Rattle.ftp_audit.specs.Bounds.{IsWithin, AreMarks}
use Rattle.ftp_audit.proofs.MarkLemmas.{within-all, within-plus, capped-within, marks-push}
use Rattle.ftp_audit.proofs.account.Account.add.Goals as goal

-- the sums that are kept are those that are due, since so many marks as a Vec can have do not reach the end of a count
exact :
    (old new : List Mark) (place : ℕ) (was more sums : Total) →
    AreMarks old → new ≡ old ++ record { place = place; sums = sums } ∷ [] → length new ≤ 2 ^ 64 - 1 →
    was ≡ newest nothing old → IsWithin 1 more → sums ≡ add was more →
    (sums ≡ plus (newest nothing old) more) × IsWithin (length old + 1) sums
exact old new place was more sums h grown short reads small is =
    let longer : length new ≡ length old + 1 = ap length grown ∙ length-append old (record { place = place; sums = sums } ∷ []) in
    let within = within-plus (length old) (newest nothing old) more (within-all old h) small in
    let same : sums ≡ plus (newest nothing old) more =
    is ∙ ap (λ (t : Total). add t more) reads ∙ capped-within (length old + 1) (plus (newest nothing old) more) (omega arith) within
    in
    (same, subst (IsWithin (length old + 1)) (sym same) within)

pub invariant_of-self-2 : goal.invariant_of-self-2
invariant_of-self-2 c =
    let short : length c.push.new.self.items ≤ 2 ^ 64 - 1 = omega (arith, c.push.new.self.ok.0, c.push.new.self.ok.1, c.push.new.self.small) in
    let up : UpTo c.args.place c.self.inside.marks.items = subst (UpTo c.args.place) (sym c.self.view_is) c.requires in
    let reads : c.newest.result ≡ newest nothing c.self.inside.marks.items = c.newest.ensures ∙ ap (newest nothing) c.as_slice.ensures.value in
    let due = exact c.self.inside.marks.items c.push.new.self.items c.args.place c.newest.result c.told.result c.and-sums.result c.self.invariant c.in_ok-push.ensures.items short reads c.told.ensures.within c.and-sums.ensures in
    subst AreMarks (sym c.in_ok-push.ensures.items) (marks-push c.self.inside.marks.items (record { place = c.args.place; sums = c.and-sums.result }) c.self.invariant up due.1)

pub returns-clause-added : goal.returns-clause-added
returns-clause-added c =
    let short : length c.push.new.self.items ≤ 2 ^ 64 - 1 = omega (arith, c.push.new.self.ok.0, c.push.new.self.ok.1, c.push.new.self.small) in
    let reads : c.newest.result ≡ newest nothing c.self.inside.marks.items = c.newest.ensures ∙ ap (newest nothing) c.as_slice.ensures.value in
    let due = exact c.self.inside.marks.items c.push.new.self.items c.args.place c.newest.result c.told.result c.and-sums.result c.self.invariant c.in_ok-push.ensures.items short reads c.told.ensures.within c.and-sums.ensures in
    c.in_ok-push.ensures.items
    ∙ ap (λ (t : Total). c.self.inside.marks.items ++ record { place = c.args.place; sums = t } ∷ []) (due.0 ∙ ap (plus (newest nothing c.self.inside.marks.items)) c.told.ensures.told)
    ∙ ap (λ (marks : List Mark). marks ++ next marks c.args.place (told c.args.what.now) ∷ []) c.self.view_is
