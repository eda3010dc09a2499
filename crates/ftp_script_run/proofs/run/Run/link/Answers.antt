use Rattle.std.proofs.Common.{refl, ap, ◌∙◌}
use Rattle.ftp_base.specs.Calls.{rises_above}
use Rattle.std.specs.FinMap as map
use Rattle.ftp_base.specs.Memory.{LinkState}
use Rattle.ftp_script_run.proofs.RunLemmas.{keeps-link}
use Rattle.ftp_script_run.proofs.SetUpLemmas.{new_link-is}
use Rattle.ftp_script_run.proofs.run.Run.link.Goals as goal
use Rattle.ftp_script_run.proofs.run.Run.link.Goals.{in-Ok, in-Err-Taken}

pub returns-clause-put : goal.returns-clause-put
returns-clause-put c =
    let made = c.new-link.ensures in
    let rising = ap (rises_above (λ call. call.0) 0) c.into_vec-2.ensures ∙ c.requires.0.3.1 in
    let same =
    new_link-is c.new-link.result c.args.chunk c.args.fails c.args.bytes (made.left ∙ c.into_vec.ensures) made.sent made.closed made.last_fault made.chunk made.no_call made.no_fault
    (made.kept rising ∙ c.into_vec-2.ensures) in
    elim c.match-insert.branch [
      | in-Ok w ↦ rw w.result-is
          (λ before items log kept may.
          keeps-link before c.args.self.now
          (record { alloc = c.args.self.now.alloc; hub = c.args.self.now.hub; storage = c.args.self.now.storage; links = c.insert.new.self; text = c.args.self.now.text })
          items log c.args.number c.args.chunk c.args.fails c.args.bytes refl
          (w.in-Ok.ensures.inserted ∙ ap (λ (l : LinkState). map.insert c.args.self.now.links c.args.number l) same)
          refl may.stands kept)
      | in-Err-Taken w ↦ rw w.result-is tt
    ]
