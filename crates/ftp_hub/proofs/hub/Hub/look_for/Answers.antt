use Rattle.std.proofs.Common.{refl, sym, ap, ◌∙◌, ℕ, Option, inr}
use Rattle.std.specs.Prelude.{nat_eq}
use Rattle.std.specs.HashMap as map
use Rattle.ftp_laws.specs.Census.{has as is_listed}
use Rattle.ftp_hub.proofs.Common.{Running, Session}
use Rattle.ftp_hub.proofs.Refusing.{job-found, none-found, one-found}
use Rattle.ftp_hub.specs.Refused.{known_by}
use Rattle.ftp_hub.proofs.hub.Hub.look_for.Goals as goal

-- a session gives cause
pub returns-then-some_session_lacks-clause-refused : goal.returns-then-some_session_lacks-clause-refused
returns-then-some_session_lacks-clause-refused c =
    let live : ℕ → Option Session = map.get nat_eq c.args.self.now.sessions in
    let jobs : ℕ → Option Running = map.get nat_eq c.args.self.now.jobs in
    inr (refl, one-found (known_by c.args.self.now) live jobs c.args.refusal c.deref.result.now (sym c.some_session_lacks.ensures ∙ c.if-some_session_lacks.true))

-- a job gives cause
pub returns-then-some_job_lacks-clause-refused : goal.returns-then-some_job_lacks-clause-refused
returns-then-some_job_lacks-clause-refused c =
    let live : ℕ → Option Session = map.get nat_eq c.args.self.now.sessions in
    let jobs : ℕ → Option Running = map.get nat_eq c.args.self.now.jobs in
    inr (refl, job-found (known_by c.args.self.now) live jobs c.args.refusal c.deref-2.result.now (sym c.some_job_lacks.ensures ∙ c.if-some_job_lacks.true))

-- none of them does
pub returns-clause-passed : goal.returns-clause-passed
returns-clause-passed c =
    let live : ℕ → Option Session = map.get nat_eq c.args.self.now.sessions in
    let jobs : ℕ → Option Running = map.get nat_eq c.args.self.now.jobs in
    none-found (known_by c.args.self.now) live jobs c.args.refusal c.deref.result.now c.deref-2.result.now
    (λ s. ap (λ ns. is_listed ns s) c.deref.ensures.value ∙ c.in_ok-live.ensures.all s)
    (λ s. ap (λ ns. is_listed ns s) c.deref-2.ensures.value ∙ c.in_ok-running.ensures.all s)
    (sym c.some_session_lacks.ensures ∙ c.if-some_session_lacks.false)
    (sym c.some_job_lacks.ensures ∙ c.if-some_job_lacks.false)
