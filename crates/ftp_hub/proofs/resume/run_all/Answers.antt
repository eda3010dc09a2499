use Rattle.std.proofs.Common.{◌≡◌, refl, sym, ap, ◌∙◌, subst, ℕ, ◌<◌, true, cond, List, [], ◌∷◌, ◌++◌, length, map, ◌+◌, Option, Some, None, arith}
use Rattle.std.specs.Prelude.{◌==◌, is_some, nat_eq}
use Rattle.std.specs.List.{AllByRecursion}
use Rattle.std.specs.Option.{option_map, option_or}
use Rattle.std.specs.HashMap as table
use Rattle.ftp_laws.specs.Census.{IsAscending}
use Rattle.ftp_hub.proofs.Common.{Running}
use Rattle.ftp_hub.specs.declared.state.JobLine.{JobLine}
use Rattle.ftp_hub.specs.State.{told_running, job_line}
use Rattle.ftp_hub.proofs.Lines.{ascending-last, before-fresh, before-step, length-last, map-last, put-step}
use Rattle.ftp_hub.proofs.resume.run_all.Goals as goal

-- with one line more what is there and what is left are all
pub loop-line-preserved : goal.loop-line-preserved
loop-line-preserved c =
    let left : List JobLine = c.pop.new.self.items in
    let line : JobLine = c.in-Some.line in
    let number : JobLine → ℕ = λ (l : JobLine). l.job.ticket.session in
    let now : ℕ → Option Running = table.get nat_eq c.loop-line.table in
    let inv = c.loop-line.invariant in
    let all : c.loop-line.lines.items ≡ left ++ line ∷ [] = c.in-Some.ensures.items in
    let numbers : map number c.loop-line.lines.items ≡ map number left ++ line.job.ticket.session ∷ [] = ap (map number) all ∙ map-last number left line in
    let up : IsAscending (map number left ++ line.job.ticket.session ∷ []) = subst IsAscending numbers inv.in_order in
    let put = c.in_ok-put_new.ensures.updates in
    let fresh : now (line.job.ticket.session) ≡ None = before-fresh (map number left) (line.job.ticket.session) (now (line.job.ticket.session)) (λ h. subst (AllByRecursion (λ n. n < line.job.ticket.session)) numbers (inv.before (line.job.ticket.session) h)) in
    let longer : length c.loop-line.lines.items ≡ length left + 1 = ap length all ∙ length-last left line in
    record {
      jobs = λ s.
          ap (option_or (option_map told_running (job_line left s))) (put s)
          ∙ put-step number told_running left line s (now s)
          ∙ ap (λ (ls : List JobLine). option_or (option_map told_running (job_line ls s)) (now s)) (sym all)
          ∙ inv.jobs s;
      len = omega (arith, c.in_ok-put_new.ensures.len fresh, longer, inv.len);
      in_order = (ascending-last (map number left) (line.job.ticket.session) up).0;
      before = λ s h.
          before-step (map number left) (line.job.ticket.session) s (now s) (told_running line) up (λ t. subst (AllByRecursion (λ n. n < s)) numbers (inv.before s t)) (sym (ap is_some (put s)) ∙ h);
    }
