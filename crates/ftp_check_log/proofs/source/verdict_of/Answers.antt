use Rattle.std.proofs.Common.{◌≡◌, ℕ, ◌<◌, List, Option, Some, None, refl, ap, sym, subst, ◌∙◌, arith}
use Rattle.std.specs.Prelude.{Ok, IfSome}
use Rattle.ftp_text.specs.Place.{IsLawful}
use Rattle.ftp_check_log.specs.Checks.{TellsBy}
use Rattle.ftp_check_log.specs.Pending.{unread}
use Rattle.ftp_check_log.specs.ReadsOn.{ReadsOn}
use Rattle.ftp_check_log.proofs.EndLemmas.{at-value}
use Rattle.ftp_check_log.proofs.SourceLemmas.{reads-start}
use Rattle.ftp_check_log.proofs.source.verdict_of.Goals as goal

pub loop-verdict-init : goal.loop-verdict-init
loop-verdict-init g c =
    let left = g.S.Source.left c.args.source.now in
    record {
      lawful = c.requires.lawful;
      kept = c.new-pending.ensures.kept;
      reads =
          subst (λ (held : List ℕ). ReadsOn left c.args.checker.now held left) (sym c.new-pending.ensures.none)
          (reads-start left c.args.checker.now c.requires.start);
      keeps = refl;
      count = omega arith;
    }

pub advance-requires-clause-reads : goal.advance-requires-clause-reads
advance-requires-clause-reads g c = (g.S.Source.left c.args.source.now, c.loop-verdict.invariant.reads)

pub loop-verdict-preserved : goal.loop-verdict-preserved
loop-verdict-preserved g c =
    let is : c.advance.result ≡ Ok None = c.in-Ok-None.is ∙ ap Ok c.in-Ok-None.field-0-is in
    let goes : (all : Option (List ℕ)) → ReadsOn all c.loop-verdict.checker (unread c.loop-verdict.pending) (g.S.Source.left c.loop-verdict.source) →
    ReadsOn all c.advance.new.checker (unread c.advance.new.pending) (g.S.Source.left c.advance.new.source) =
    at-value c.advance.result None _ c.advance.ensures.goes_on is in
    record {
      lawful = at-value c.advance.result None _ c.advance.ensures.lawful is;
      kept = at-value c.advance.result None _ c.advance.ensures.kept is;
      reads = goes (g.S.Source.left c.args.source.now) c.loop-verdict.invariant.reads;
      keeps = c.advance.ensures.keeps ∙ c.loop-verdict.invariant.keeps;
      count = omega (arith, c.loop-verdict.invariant.count, c.advance.ensures.count);
    }

pub loop-verdict-smaller : goal.loop-verdict-smaller
loop-verdict-smaller g c =
    let is : c.advance.result ≡ Ok None = c.in-Ok-None.is ∙ ap Ok c.in-Ok-None.field-0-is in
    let moved : c.loop-verdict.checker.place.taken < c.advance.new.checker.place.taken = at-value c.advance.result None _ c.advance.ensures.moved is in
    let lawful : IsLawful c.advance.new.checker.place = at-value c.advance.result None _ c.advance.ensures.lawful is in
    omega (arith, moved, lawful.1)

pub returns-in-Ok-Some-clause-tells : goal.returns-in-Ok-Some-clause-tells
returns-in-Ok-Some-clause-tells g c =
    let is : c.advance.result ≡ Ok (Some c.in-Ok-Some.verdict) = c.in-Ok-Some.is ∙ ap Ok c.in-Ok-Some.field-0-is in
    let ends : (all : Option (List ℕ)) → ReadsOn all c.loop-verdict.checker (unread c.loop-verdict.pending) (g.S.Source.left c.loop-verdict.source) →
    IfSome all (λ bytes. TellsBy c.in-Ok-Some.verdict c.advance.new.checker bytes) =
    at-value c.advance.result (Some c.in-Ok-Some.verdict) _ c.advance.ensures.ended is in
    ends (g.S.Source.left c.args.source.now) c.loop-verdict.invariant.reads

pub returns-in-Ok-Some-clause-keeps : goal.returns-in-Ok-Some-clause-keeps
returns-in-Ok-Some-clause-keeps g c = c.advance.ensures.keeps ∙ c.loop-verdict.invariant.keeps

pub returns-in-Err-clause-keeps : goal.returns-in-Err-clause-keeps
returns-in-Err-clause-keeps g c = c.advance.ensures.keeps ∙ c.loop-verdict.invariant.keeps
