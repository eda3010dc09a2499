use Rattle.std.proofs.Common.{◌≡◌, ◌+◌, ◌∙◌, inl, Some, None, ap, refl, sym}
use Rattle.std.specs.Prelude.{Ok, Err}
use Rattle.ftp_script_run.specs.declared.text_script.ScriptError.TheVariants as error
use Rattle.ftp_script_run.proofs.Written.{if_none-then, if_some-both}
use Rattle.ftp_script_run.proofs.OutcomeLemmas.{kept-set_up}
use Rattle.ftp_script_run.proofs.ResumeLemmas.{comes}
use Rattle.ftp_script_run.proofs.GoOnLemmas.{go-bad, go-cut, go-end, go-kept, go-more, no-more}
use Rattle.ftp_script_run.proofs.resuming.go_on.Goals as goal

pub taken-requires : goal.taken-requires
taken-requires g c =
    let found : c.next_item.result ≡ Ok (Some c.in-Ok-Some.item) = c.in-Ok-Some.is ∙ ap Ok c.in-Ok-Some.field-0-is in
    let s = c.requires.resuming.2 in
    let r = s.running in
    let set = kept-set_up r.kept c.storage.ensures in
    let placed = rw found at (c.next_item.ensures.let_in r.items r.known set) in
    let may = sym (c.admits.ensures.admitted s.options s.state r.items r.log r.kept s.awaits) ∙ c.if-admits.true in (
      rw found at c.next_item.ensures.item,
      (Some (s.options, s.state), r.items, r.log, r.kept, comes c.in-Ok-Some.item r.kept placed.0 may),
    )

pub returns-then-admits-clause-goes_on : goal.returns-then-admits-clause-goes_on
returns-then-admits-clause-goes_on g c =
    let found : c.next_item.result ≡ Ok (Some c.in-Ok-Some.item) = c.in-Ok-Some.is ∙ ap Ok c.in-Ok-Some.field-0-is in
    if_none-then c.taken.result c.taken.ensures.took (λ took all old s.
    let r = s.running in
    let set = kept-set_up r.kept c.storage.ensures in
    let placed = rw found at (c.next_item.ensures.let_in r.items r.known set) in
    let may = sym (c.admits.ensures.admitted s.options s.state r.items r.log r.kept s.awaits) ∙ c.if-admits.true in
    go-more c.in-Ok-Some.item s placed
    (λ bytes h. rw found at (c.next_item.ensures.told r.items bytes h set))
    may
    (c.admits.ensures.awaits s.options s.state r.items r.log r.kept s.awaits)
    (c.admits.ensures.none c.if-admits.true)
    c.admits.ensures.before
    (took (Some (s.options, s.state)) r.items r.log r.kept (comes c.in-Ok-Some.item r.kept placed.0 may)))

pub returns-then-admits-clause-ended : goal.returns-then-admits-clause-ended
returns-then-admits-clause-ended g c =
    let found : c.next_item.result ≡ Ok (Some c.in-Ok-Some.item) = c.in-Ok-Some.is ∙ ap Ok c.in-Ok-Some.field-0-is in
    let later = g.S.Source.left c.next_item.new.source in
    let new = g.K.Sink.written c.taken.new.sink in
    if_some-both c.taken.result c.taken.ensures.front c.taken.ensures.cut_short (λ status front short all old s.
    let r = s.running in
    let set = kept-set_up r.kept c.storage.ensures in
    let placed = rw found at (c.next_item.ensures.let_in r.items r.known set) in
    let may = sym (c.admits.ensures.admitted s.options s.state r.items r.log r.kept s.awaits) ∙ c.if-admits.true in
    go-cut later new c.in-Ok-Some.item status s
    (λ bytes h. rw found at (c.next_item.ensures.told r.items bytes h set))
    may
    (front (Some (s.options, s.state)) r.items r.log r.kept (comes c.in-Ok-Some.item r.kept placed.0 may))
    short)

pub returns-else-admits-clause-ended : goal.returns-else-admits-clause-ended
returns-else-admits-clause-ended g c =
    let found : c.next_item.result ≡ Ok (Some c.in-Ok-Some.item) = c.in-Ok-Some.is ∙ ap Ok c.in-Ok-Some.field-0-is in
    let later = g.S.Source.left c.next_item.new.source in
    λ all old s.
    let r = s.running in
    let set = kept-set_up r.kept c.storage.ensures in
    let stops = sym (c.admits.ensures.admitted s.options s.state r.items r.log r.kept s.awaits) ∙ c.if-admits.false in
    go-bad later (g.K.Sink.written c.ended.new.sink) (c.admits.new.self.before + c.lines.result) c.next_item.new.self.number c.ended.result s
    (λ i. c.admits.ensures.before i + c.lines.ensures i)
    (λ bytes h. no-more s.state r.items c.in-Ok-Some.item s.goes_on stops (rw found at (c.next_item.ensures.told r.items bytes h set)))
    c.ended.ensures.named

pub returns-in-Ok-None-clause-ended : goal.returns-in-Ok-None-clause-ended
returns-in-Ok-None-clause-ended g c =
    let found : c.next_item.result ≡ Ok None = c.in-Ok-None.is ∙ ap Ok c.in-Ok-None.field-0-is in
    let later = g.S.Source.left c.next_item.new.source in
    λ all old s.
    let r = s.running in
    let set = kept-set_up r.kept c.storage.ensures in
    go-end later (g.K.Sink.written c.end.new.sink) c.end.result c.after.result s
    c.after.ensures
    (λ bytes h. rw found at (c.next_item.ensures.told r.items bytes h set))
    c.end.ensures.wrote c.end.ensures.front

pub returns-in-Err-BadLine-clause-ended : goal.returns-in-Err-BadLine-clause-ended
returns-in-Err-BadLine-clause-ended g c =
    let found : c.next_item.result ≡ Err (error.BadLine c.in-Err-BadLine.k) = c.in-Err-BadLine.is ∙ ap Err c.in-Err-BadLine.field-0-is in
    let later = g.S.Source.left c.next_item.new.source in
    λ all old s.
    let r = s.running in
    let set = kept-set_up r.kept c.storage.ensures in
    go-bad later (g.K.Sink.written c.ended-in-Err-BadLine.new.sink) (c.args.resumed.now.before + c.in-Err-BadLine.k) c.in-Err-BadLine.k c.ended-in-Err-BadLine.result s
    refl
    (λ bytes h. (
      s.goes_on,
      inl (rw found at (c.next_item.ensures.told r.items bytes h set)),
    ))
    c.ended-in-Err-BadLine.ensures.named

pub returns-in-Err-Fault-clause-ended : goal.returns-in-Err-Fault-clause-ended
returns-in-Err-Fault-clause-ended g c = λ all old s. go-kept s

pub returns-in-Err-Memory-clause-ended : goal.returns-in-Err-Memory-clause-ended
returns-in-Err-Memory-clause-ended g c = λ all old s. go-kept s
