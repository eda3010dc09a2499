use Rattle.std.proofs.Common.{◌≡◌, ℕ, ◌+◌, List, [], ◌∷◌, ◌++◌, length, refl, sym, ap, subst, ◌∙◌, arith}
use Rattle.std.specs.Prelude.{Err, IsErrOf}
use Rattle.ftp_text.specs.declared.fault.LineFault.{LineFault}
use Rattle.ftp_text.specs.declared.fault.LineFault.TheVariants as fault
use Rattle.ftp_text.specs.declared.place.Place.{Place}
use Rattle.ftp_text.specs.Place.{HasRead}
use Rattle.ftp_text.proofs.PlaceLemmas.{bad_told, bad_unended, bad_long, bad_unread, bad_place, line_told}
use Rattle.ftp_text.proofs.place.Place.read.Goals as goal

pub returns-in_default-clause-bad : goal.returns-in_default-clause-bad
returns-in_default-clause-bad c = λ before all read is.
    bad_told before all c.args.text.now c.args.self.now (c.args.self.now.lines + 1) read c.requires.some (bad_unended before c.args.text.now c.in_default.ensures) refl

pub returns-then-line-self-clause-bad : goal.returns-then-line-self-clause-bad
returns-then-line-self-clause-bad c = λ before all read is.
    bad_told before all c.args.text.now c.args.self.now (c.args.self.now.lines + 1) read c.requires.some
    (bad_long before all c.args.text.now c.args.self.now read
    (omega (arith, c.if-line-self.true, c.requires.lawful, ap (λ (l : List ℕ). length l) c.in-Some.ensures.1)))
    refl

pub returns-in-Err-clause-bad : goal.returns-in-Err-clause-bad
returns-in-Err-clause-bad c = λ before all read is.
    let same : c.in-Err.fault ≡ fault.Bad = cc in
    let bad : IsErrOf c.read_log_line.result fault.Bad = c.in-Err.is ∙ ap (λ (f : LineFault). Err f) same in
    bad_told before all c.args.text.now c.args.self.now (c.args.self.now.lines + 1) read c.requires.some
    (bad_unread before c.args.text.now (λ x fits spelled. c.read_log_line.ensures.bad bad x fits (spelled ∙ sym c.in-Some.ensures.1))) refl

pub returns-in_default-after-clause-bad : goal.returns-in_default-after-clause-bad
returns-in_default-after-clause-bad c = λ before all read is.
    bad_told before all c.args.text.now c.args.self.now (c.args.self.now.lines + 1) read c.requires.some
    (bad_place before all c.args.text.now c.args.self.now c.in-Ok.says read (c.in-Ok.ensures.found.0 ∙ c.in-Some.ensures.1) c.in-Ok.ensures.found.1
    (sym c.after.ensures ∙ c.in_default-after.is))
    refl

pub returns-clause-line : goal.returns-clause-line
returns-clause-line c = λ before all read.
    let later : Place =
    record {
      stage = c.in-Some-after.stage;
      lines = c.args.self.now.lines + 1;
      taken = c.args.self.now.taken + (length c.in-Some.line.now + 1);
    } in
    let len = ap (λ (l : List ℕ). length l) c.in-Some.ensures.1 in
    let told =
    line_told before all c.args.text.now c.args.self.now later c.in-Ok.says read c.in-Some.ensures.0 (c.in-Ok.ensures.found.0 ∙ c.in-Some.ensures.1)
    c.in-Ok.ensures.found.1 (sym c.after.ensures ∙ c.in-Some-after.is) refl (omega (arith, len)) (omega (arith, c.if-line-self.false)) in
    (told.0, subst (λ (rest : List ℕ). HasRead (before ++ c.in-Ok.says ∷ []) all rest later) (sym c.in-Some.ensures.2) told.1)
