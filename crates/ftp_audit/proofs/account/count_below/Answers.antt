use Rattle.std.proofs.Common.{rules}
use Rattle.std.specs.Prelude.{nat_lt}
use Rattle.std.proofs.lemmas.List.Sorted.{IsPartitionedBy-ltb, IsPartitionPoint-from_clause}
use Rattle.ftp_audit.specs.declared.account.Mark.{Mark}
use Rattle.ftp_audit.proofs.MarkLemmas.{filter-point}
use Rattle.ftp_audit.proofs.account.count_below.Goals as goal

pub returns-clause-below : goal.returns-clause-below
returns-clause-below c =
    filter-point (λ m. nat_lt m.place c.args.place) c.args.marks.now c.partition_point.result
    (IsPartitionPoint-from_clause (λ (m : Mark). nat_lt m.place c.args.place) c.args.marks.now c.partition_point.result c.partition_point.ensures.partitioned
    (IsPartitionedBy-ltb (λ (m : Mark). m.place) c.args.marks.now c.args.place c.requires)
    (λ a r f t. search rules))
