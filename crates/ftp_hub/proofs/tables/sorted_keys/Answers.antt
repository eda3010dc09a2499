use Rattle.std.proofs.Common.{sym, ap, ◌∙◌, ℕ, List}
use Rattle.std.specs.Prelude.{nat_eq}
use Rattle.std.specs.HashMap as map
use Rattle.std.specs.Set.{is_member}
use Rattle.std.proofs.lemmas.Map.Entries.{length-keys_of}
use Rattle.ftp_hub.proofs.KeyLemmas.{length-taken, taken-ascend, taken-listed}
use Rattle.ftp_hub.proofs.tables.sorted_keys.Goals as goal

-- the keys are sorted, and each is there once
pub returns-clause-in_order : goal.returns-clause-in_order
returns-clause-in_order g c =
    taken-ascend (map.keys c.args.table.now) c.loop-number.numbers.items _ c.sort_unstable.new.self.items c.in-None.ensures.steps.0 c.loop-number.invariant c.sort_unstable.ensures.permutation
    c.keys-number-items.ensures.unique c.sort_unstable.ensures.sorted

-- they are those that have a value
pub returns-clause-all : goal.returns-clause-all
returns-clause-all g c s =
    taken-listed (map.keys c.args.table.now) c.loop-number.numbers.items _ c.sort_unstable.new.self.items c.in-None.ensures.steps.0 c.loop-number.invariant c.sort_unstable.ensures.permutation s
    ∙ ap (λ (ks : List ℕ). is_member nat_eq ks s) (sym c.keys-number-items.ensures.rest)
    ∙ sym (c.keys-number-items.ensures.has s)

-- there are as many as there are keys
pub returns-clause-len : goal.returns-clause-len
returns-clause-len g c =
    length-taken (map.keys c.args.table.now) c.loop-number.numbers.items _ c.sort_unstable.new.self.items c.in-None.ensures.steps.0 c.loop-number.invariant c.sort_unstable.ensures.permutation
    ∙ length-keys_of c.args.table.now.entries
