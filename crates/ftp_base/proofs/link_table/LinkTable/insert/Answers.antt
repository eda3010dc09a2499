use Rattle.std.proofs.Common.{◌≡◌, true, false, is_some, sym, ap, ◌∙◌}
use Rattle.std.specs.FinMap as map
use Rattle.ftp_base.proofs.Tables.{get-numbers, from_entries-insert-number}
use Rattle.ftp_base.proofs.link_table.LinkTable.insert.Goals as goal
use Rattle.ftp_base.proofs.link_table.LinkTable.insert.Goals.{in-Ok-None, in-Err}

pub unreachable-requires : goal.unreachable-requires
unreachable-requires g c =
    let there : is_some (map.get c.args.self.now c.args.number) ≡ true =
    ap is_some
    (sym (ap (λ v. map.get v c.args.number) c.self.view_is)
    ∙ get-numbers c.self.inside.links.entries c.args.number
    ∙ sym c.in-Ok-Some.ensures.old
    ∙ c.in-Ok-Some.field-0-is) in
    let none : false ≡ true = c.if-has.ensures ∙ there in
    cc

pub returns-clause-inserted : goal.returns-clause-inserted
returns-clause-inserted g c =
    elim c.match-insert.branch [
      | in-Ok-None w ↦ rw w.result-is
          (from_entries-insert-number
          c.self.inside.links.entries c.insert.new.self.entries c.args.number c.args.link
          w.in-Ok-None.ensures.updates.0
          ∙ ap (λ v. map.insert v c.args.number c.args.link) c.self.view_is)
      | in-Err w ↦ rw w.result-is tt
    ]
