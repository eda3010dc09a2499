use Rattle.std.proofs.Common.{◌≡◌, ℕ, ap, sym, subst, ◌∙◌}
use Rattle.std.specs.List.{insert}
use Rattle.ftp_lockout.specs.Failures.{recorded}
use Rattle.ftp_lockout.specs.Places.{AreInKeyOrder, place_in, records_in}
use Rattle.ftp_lockout.proofs.Records.{Records, one_in_order, recorded-insert, order-insert}
use Rattle.ftp_lockout.proofs.cache.put.Goals as goal
use Rattle.ftp_lockout.proofs.cache.put.Goals.{After-put_at}

pub returns-then-is_empty-clause-order : goal.returns-then-is_empty-clause-order
returns-then-is_empty-clause-order c = subst AreInKeyOrder (sym c.begin.ensures.records) (one_in_order c.args.entry)

-- the entry stands among all records where it would go
entered : (c : After-put_at) → records_in c.put_at.new.blocks.items ≡ insert (records_in c.args.blocks.now.items) (place_in c.args.blocks.now.items c.args.place) c.args.entry
entered c =
    let opened = c.open_block-place in
    c.put_at.ensures.records
    ∙ ap (λ (x : Records). insert x (place_in opened.new.blocks.items opened.result) c.args.entry) opened.ensures.records
    ∙ ap (λ (n : ℕ). insert (records_in c.args.blocks.now.items) n c.args.entry) opened.ensures.same

pub returns-clause-recorded : goal.returns-clause-recorded
returns-clause-recorded c = λ other.
    ap (λ (x : Records). recorded x other) (entered c) ∙ recorded-insert _ _ c.args.entry.0 c.args.entry.1 c.requires.key other

pub returns-clause-order : goal.returns-clause-order
returns-clause-order c = subst AreInKeyOrder (sym (entered c)) (order-insert _ _ c.args.entry.0 c.args.entry.1 c.requires.order c.requires.key)
