use Rattle.std.proofs.Common.{◌≡◌, ◌∙◌, ℕ, true, Option, Some, None, is_some, sym, ap, subst}
use Rattle.std.specs.Prelude.{Contains, IfSome}
use Rattle.ftp_base.specs.declared.fault.LinkFault.{LinkFault}
use Rattle.ftp_base.specs.Calls.{Calls, one_more, after_fault, LastFailed}
use Rattle.ftp_base.proofs.memory_link.MemoryLinkLink.close.Goals as goal

-- the call that was found is the last one
found-last : (found : Option (ℕ × LinkFault)) (c d : Calls (ℕ × LinkFault)) →
    is_some found ≡ true →
    IfSome found (λ call. call.0 ≡ one_more c.made) →
    IfSome found (λ call. Contains c.failing call) →
    d ≡ after_fault c →
    ((call : ℕ × LinkFault) → Contains c.failing call → LastFailed (λ (call : ℕ × LinkFault). call.0) c d call) →
    (f : LinkFault) × LastFailed (λ (call : ℕ × LinkFault). call.0) c d (d.made, f)
found-last None c d some number listed counted failed = absurd cc
found-last (Some (n, f)) c d some number listed counted failed =
    let same : n ≡ d.made = number ∙ sym (ap (λ (x : Calls (ℕ × LinkFault)). x.made) counted) in
    (f, subst (λ (k : ℕ). LastFailed (λ (call : ℕ × LinkFault). call.0) c d (k, f)) same (failed (n, f) listed))

pub returns-then-is_some-clause-as_listed : goal.returns-then-is_some-clause-as_listed
returns-then-is_some-clause-as_listed c =
    rw (← c.self.view_is)
    (found-last c.next_failing.result c.self.inside.calls c.count_fault.new.self
    (sym c.is_some.ensures ∙ c.if-is_some.true)
    c.next_failing.ensures.number
    c.next_failing.ensures.listed
    c.count_fault.ensures.counted
    (c.count_fault.ensures.as_listed (sym c.next_failing.ensures.fails ∙ sym c.is_some.ensures ∙ c.if-is_some.true)))

pub returns-clause-unlisted : goal.returns-clause-unlisted
returns-clause-unlisted c =
    rw (← c.self.view_is)
    (c.count_call.ensures.unlisted (sym c.next_failing.ensures.fails ∙ sym c.is_some.ensures ∙ c.if-is_some.false))
