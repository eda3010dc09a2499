use Rattle.std.proofs.Common.{ℕ, true, Bool, List, [], ◌∷◌, ◌++◌, Option, arith, ap, refl, subst, sym, ◌∙◌}
use Rattle.ftp_control.specs.Lines.{bytes_in}
use Rattle.ftp_text.specs.declared.setup.Item.{Item}
use Rattle.ftp_script_run.specs.Resumed.{FindsHead, ReadsHead}
use Rattle.ftp_script_run.proofs.HeadLemmas.{head-closed, head-more, head-open, keeps-more, keeps-nothing, keeps-same}
use Rattle.ftp_script_run.proofs.head_reading.read_state.Goals as goal

pub loop-is_there-init : goal.loop-is_there-init
loop-is_there-init g c = record {
  told = λ bytes r. ([], keeps-nothing c.args.head.now c.requires.text c.requires.lines, r);
  open_yet = c.requires.open;
  options = refl;
  within = c.requires.within;
  len = refl;
  count = omega arith;
}

pub returns-then-is_bar-clause-told : goal.returns-then-is_bar-clause-told
returns-then-is_bar-clause-told g c =
    let old = c.loop-is_there.head in
    let new = c.close.new.self in
    let line = c.loop-is_there.line.items in
    let held = bytes_in c.loop-is_there.buffer c.loop-is_there.held in
    let left = g.S.Source.left c.loop-is_there.source in
    let same = sym c.as_slice.ensures.value ∙ c.is_bar.ensures.0 c.if-is_bar.true in
    λ bytes r.
    let t = c.loop-is_there.invariant.told bytes r in
    let kept = keeps-same old new t.0 c.close.ensures.text c.close.ensures.lines t.1 in
    let read = subst (λ (o : Option Item). ReadsHead bytes o t.0 true line held left) (sym c.close.ensures.options) (subst (λ (b : Bool). ReadsHead bytes old.options t.0 b line held left) c.loop-is_there-test.true t.2) in (
      t.0,
      kept,
      subst (λ (b : Bool). FindsHead b new t.0 bytes held left) (sym c.close.ensures.closed) (head-closed new bytes line held t.0 left read same kept),
    )

pub loop-is_there-preserved : goal.loop-is_there-preserved
loop-is_there-preserved g c =
    let old = c.loop-is_there.head in
    let new = c.add.new.self in
    let line = c.loop-is_there.line.items in
    let held = bytes_in c.loop-is_there.buffer c.loop-is_there.held in
    let left = g.S.Source.left c.loop-is_there.source in
    let text = c.in_ok-add.ensures.text ∙ ap (λ (w : List ℕ). old.text.items ++ (w ++ 10 ∷ [])) c.as_slice-in-loop-is_there.ensures.value in
    record {
      told = λ bytes r.
          let t = c.loop-is_there.invariant.told bytes r in
          let read = subst (λ (b : Bool). ReadsHead bytes old.options t.0 b line held left) c.loop-is_there-test.true t.2 in (
            t.0 ++ line ∷ [],
            keeps-more old new bytes line held t.0 left read text c.in_ok-add.ensures.lines t.1,
            subst (λ (o : Option Item). ReadsHead bytes o (t.0 ++ line ∷ []) c.in_ok-is_there.is_there c.read_line.new.line.items (bytes_in c.read_line.new.buffer c.read_line.new.held) (g.S.Source.left c.read_line.new.source)) (sym c.in_ok-add.ensures.options)
                (head-more bytes line held c.read_line.new.line.items (bytes_in c.read_line.new.buffer c.read_line.new.held) old.options t.0 left (g.S.Source.left c.read_line.new.source) c.in_ok-is_there.is_there read
                (λ is. (let yes = c.is_bar.ensures.1 (c.as_slice.ensures.value ∙ is) in absurd cc))
                c.in_ok-is_there.ensures.told),
          );
      open_yet = c.in_ok-add.ensures.open ∙ c.loop-is_there.invariant.open_yet;
      options = c.in_ok-add.ensures.options ∙ c.loop-is_there.invariant.options;
      within = c.in_ok-is_there.ensures.within;
      len = c.in_ok-is_there.ensures.len ∙ c.loop-is_there.invariant.len;
      count = omega arith;
    }

pub returns-clause-told : goal.returns-clause-told
returns-clause-told g c =
    let head = c.loop-is_there.head in
    let line = c.loop-is_there.line.items in
    let held = bytes_in c.loop-is_there.buffer c.loop-is_there.held in
    let left = g.S.Source.left c.loop-is_there.source in
    λ bytes r.
    let t = c.loop-is_there.invariant.told bytes r in
    let read = subst (λ (b : Bool). ReadsHead bytes head.options t.0 b line held left) c.loop-is_there-test.false t.2 in (
      t.0,
      t.1,
      subst (λ (b : Bool). FindsHead b head t.0 bytes held left) (sym c.loop-is_there.invariant.open_yet) (head-open head bytes line held t.0 left read t.1),
    )
