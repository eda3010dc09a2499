use Rattle.std.proofs.Common.{ℕ, ◌<◌, List, length, get_or, Option, Some, None, ◌≡◌, ◌∙◌, ap, sym, subst, refl}
use Rattle.std.specs.Prelude.{slice_get, Result, Ok, IfOk, IfSome}
use Rattle.std.proofs.lemmas.Option.{slice_get_read, same_Some}
use Rattle.std.proofs.lemmas.Result.{IfOk-weaker}
use Rattle.ftp_options.specs.declared.options.Options.{Options}
use Rattle.ftp_events.specs.declared.decision.Decision.TheVariants as decision
use Rattle.ftp_events.specs.declared.entry.Entry.{Entry}
use Rattle.ftp_check_log.specs.declared.evidence.Evidence.{Evidence}
use Rattle.ftp_check_log.specs.declared.evidence.Evidence.TheVariants.{Plain}
use Rattle.ftp_check_log.specs.Evidence.{past_at, named_client, Matter, TellsOf, matter_of, IsEvidence}
use Rattle.ftp_check_log.specs.Grants.{AreHeld}
use Rattle.ftp_check_log.proofs.RightLemmas.{attached-matter, turned-matter, other-matter, full-held}
use Rattle.ftp_check_log.proofs.evidence.Asked.evidence.Goals as goal

-- what holds of each value that is there
if_some : {A : Type 0} (P : A → Type 0) (x : Option A) → ((y : A) → x ≡ Some y → P y) → IfSome x P
if_some P (Some y) f = f y refl
if_some P None f = tt

-- what tells of what the decision of the entry at a place rests on is evidence for it
as-evidence :
    {E : Type 0} (o : Options) (log : List Entry) (k : ℕ) (e : Entry) (r : Result Evidence E) (m : Matter) →
    k < length log → e ≡ get_or log k e →
    (slice_get log k ≡ Some e → matter_of o (past_at log k) e e.decision ≡ m) →
    (slice_get log k ≡ Some e → IfOk r (TellsOf o log k m)) → IfOk r (IsEvidence o log k)
as-evidence o log k e r m below is rests told =
    let at : slice_get log k ≡ Some e = slice_get_read log (length log) k e refl below is in
    IfOk-weaker r (TellsOf o log k m) (IsEvidence o log k) (λ x so. (e, at, subst (λ (n : Matter). TellsOf o log k n x) (sym (rests at)) so)) (told at)

pub of_full-requires : goal.of_full-requires
of_full-requires c = λ e at.
    let o = c.args.self.now.options.now in
    let log = c.args.self.now.entries.now in
    let f = c.index-self-self.result in
    let here : slice_get log c.args.self.now.k ≡ Some f = slice_get_read log (length log) c.args.self.now.k f refl c.args.self.now.below c.index-self-self.is in
    let full : e.decision ≡ decision.Full = ap (λ (g : Entry). g.decision) (same_Some e f (sym at ∙ here) ∙ c.index-self-self.is) ∙ c.in-Full.is in
    if_some (AreHeld o log c.args.self.now.k) (named_client (past_at log c.args.self.now.k) e.event.kind) (λ a client. full-held o log c.args.self.now.k e a c.requires at full client)

pub returns-in-Attached : goal.returns-in-Attached
returns-in-Attached c =
    as-evidence c.args.self.now.options.now c.args.self.now.entries.now c.args.self.now.k c.index-self-self.result c.of_connection.result _ c.args.self.now.below c.index-self-self.is
    (λ at. attached-matter c.args.self.now.options.now c.args.self.now.entries.now c.args.self.now.k c.index-self-self.result c.in-Attached.session c.requires at (ap (λ (g : Entry). g.decision) c.index-self-self.is ∙ c.in-Attached.is))
    (c.of_connection.ensures c.index-self-self.result)

pub returns-in-Turned : goal.returns-in-Turned
returns-in-Turned c =
    as-evidence c.args.self.now.options.now c.args.self.now.entries.now c.args.self.now.k c.index-self-self.result c.of_turned.result _ c.args.self.now.below c.index-self-self.is
    (λ at. turned-matter c.args.self.now.options.now c.args.self.now.entries.now c.args.self.now.k c.index-self-self.result c.requires at (ap (λ (g : Entry). g.decision) c.index-self-self.is ∙ c.in-Turned.is))
    (c.of_turned.ensures c.index-self-self.result)

pub returns-in-Full : goal.returns-in-Full
returns-in-Full c =
    as-evidence c.args.self.now.options.now c.args.self.now.entries.now c.args.self.now.k c.index-self-self.result c.of_full.result _ c.args.self.now.below c.index-self-self.is
    (λ at. ap (matter_of c.args.self.now.options.now (past_at c.args.self.now.entries.now c.args.self.now.k) c.index-self-self.result) (ap (λ (g : Entry). g.decision) c.index-self-self.is ∙ c.in-Full.is))
    (c.of_full.ensures c.index-self-self.result)

pub returns-in_default : goal.returns-in_default
returns-in_default c =
    as-evidence {E = Unit {0}} c.args.self.now.options.now c.args.self.now.entries.now c.args.self.now.k c.index-self-self.result (Ok Plain) _ c.args.self.now.below c.index-self-self.is
    (λ at. other-matter c.args.self.now.options.now (past_at c.args.self.now.entries.now c.args.self.now.k) c.index-self-self.result c.index-self-self.result.decision (λ s is. c.in_default.not-Attached s (sym (ap (λ (g : Entry). g.decision) c.index-self-self.is) ∙ is)) (λ is. c.in_default.not-Turned (sym (ap (λ (g : Entry). g.decision) c.index-self-self.is) ∙ is)) (λ is. c.in_default.not-Full (sym (ap (λ (g : Entry). g.decision) c.index-self-self.is) ∙ is)))
    (λ at. tt)
