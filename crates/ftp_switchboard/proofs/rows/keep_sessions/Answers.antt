use Rattle.std.proofs.Common.{◌≡◌, ◌^◌, ◌<◌, length, rules}
use Rattle.std.proofs.lemmas.Fn.{chained_keeps}
use Rattle.ftp_switchboard.specs.Bits.{Ascends, IsHeldRow, IsRow}
use Rattle.ftp_switchboard.proofs.KeptLemmas.{all-rows, row-between, rows-left}
use Rattle.ftp_switchboard.proofs.rows.keep_sessions.Goals as goal

-- The closure stays as it was, so that each row is one of this range.
pub retain-requires : goal.retain-requires
retain-requires c = record {
  at = λ before after f' k v split run p q key value.
      let row = row-between (IsHeldRow c.args.range.lo c.args.range.hi) c.args.rows.now.entries before after k v c.requires.rows.unique c.requires.rows.each split in
      let few = row-between (λ row. Ascends row.pairs.items × (length row.pairs.items < 2 ^ 16)) c.args.rows.now.entries before after k v c.requires.rows.unique c.requires.order split in
      let same : f'.0.now ≡ c.args.range = chained_keeps _ (λ xs g. g.0.now ≡ c.args.range) (λ xs g x h is called. search rules) before _ f' (search rules) run in
      let takes : IsRow f'.0.now.lo f'.0.now.hi q.now × (length q.now.pairs.items < 2 ^ 16) = rw (same, value) (row.0, few.1) in
      search rules;
}

pub returns-clause-rows : goal.returns-clause-rows
returns-clause-rows c = record {
  unique = c.retain.ensures.unique;
  each = λ q. (rows-left c.args.live.now c.args.range.lo c.args.range.hi _ _ (λ k v b w f' row t. search rules) c.args.rows.now.entries c.retain.new.self.entries
      (all-rows (IsHeldRow c.args.range.lo c.args.range.hi) c.args.rows.now.entries c.requires.rows.unique c.requires.rows.each) c.retain.ensures.filtered c.requires.rows.unique q).0;
}

pub returns-clause-holders : goal.returns-clause-holders
returns-clause-holders c a p =
    (rows-left c.args.live.now c.args.range.lo c.args.range.hi _ _ (λ k v b w f' row t. search rules) c.args.rows.now.entries c.retain.new.self.entries
    (all-rows (IsHeldRow c.args.range.lo c.args.range.hi) c.args.rows.now.entries c.requires.rows.unique c.requires.rows.each) c.retain.ensures.filtered c.requires.rows.unique a).1 p
