use Rattle.std.proofs.Common.{◌≡◌, ◌∙◌, refl, sym, ap, ℕ, ◌+◌, arith}
use Rattle.std.proofs.lemmas.Option.{same_Some}
use Rattle.ftp_shared.proofs.MomentLemmas.{takes-none}
use Rattle.ftp_shared.specs.Jobs.{behind}
use Rattle.ftp_transfer.specs.declared.job.Job.{Job}
use Rattle.ftp_shared.proofs.report.report.Goals as goal

-- nothing was told
pub returns-then-not-is_marked : goal.returns-then-not-is_marked
returns-then-not-is_marked g c = record {
  same = refl;
  more = omega arith;
  within = omega (arith, c.requires.more);
  moments = 0;
  taken = takes-none (g.E.Edge.view c.args.edge.now);
  kept = omega arith;
  enough = omega arith;
}

-- a piece was told, and is counted
pub returns-in-Some : goal.returns-in-Some
returns-in-Some g c =
    let is : c.in-Some.job ≡ behind c.args.job c.min-bytes.result =
    same_Some _ _ (c.in-Some.ensures ∙ c.in-Ok.ensures.back (sym c.is_moved.ensures ∙ c.if-not-is_moved.false)) in
    let total : c.in-Some.job.done ≡ c.args.job.done + c.min-bytes.result = ap (λ (j : Job). j.done) is in
    record {
      same = is ∙ ap (λ (n : ℕ). record c.args.job { done = n }) (sym total);
      more = omega (arith, total);
      within = omega (arith, total, c.min-bytes.ensures, c.done.ensures, c.requires.more);
      moments = 1;
      taken = c.now-at.ensures.taken;
      kept = c.in-Ok.ensures.kept_share;
      enough = c.in-Ok.ensures.once;
    }

-- nothing was told, and the job is given back
pub returns-in-Err : goal.returns-in-Err
returns-in-Err g c =
    let given = c.in-Err.ensures.given_back in
    let total : c.in-Err.field-0.job.done ≡ c.args.job.done = ap (λ (j : Job). j.done) given in
    record {
      same = given ∙ ap (λ (n : ℕ). record c.args.job { done = n }) (sym total);
      more = omega (arith, total);
      within = omega (arith, total, c.requires.more);
      moments = 1;
      taken = c.now-at.ensures.taken;
      kept = c.in-Err.ensures.kept_share;
      enough = c.in-Err.ensures.once;
    }
