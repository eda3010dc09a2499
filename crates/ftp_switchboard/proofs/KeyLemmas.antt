-- Laws of the switchboard's keys, and the table of holds seen as a map.
use Rattle.std.proofs.Common.{◌≡◌, ℕ, Bool, ◌&&◌, ◌==◌, List, Some, None, cond, refl, sym, ap, ◌∙◌}
use Rattle.std.specs.declared.cmp.Ordering.{Ordering}
use Rattle.std.specs.declared.cmp.Ordering.TheVariants.{Less, Equal, Greater}
use Rattle.std.specs.Ordering.{nat_cmp, ordering_then, eq_by_cmp, is_eq}
use Rattle.std.specs.Cmp.{IsTotalOrder, eq_by_cmp_equiv, unsigned_tied, nat_cmp_total}
use Rattle.std.specs.FinMap as finmap
use Rattle.std.specs.FinMap.{IsAntisymmetric}
use Rattle.std.specs.Map.{lookup}
use Rattle.std.proofs.lemmas.Cmp.{on_total, then_total}
use Rattle.std.proofs.lemmas.Map.Lookups.{exact_pairs, exact_unsigned}
use Rattle.ftp_base.proofs.Tables.{from_entries-insert, get-from_entries-lookup}
use Rattle.ftp_switchboard.specs.declared.key.SwitchboardKey.{SwitchboardKey}
use Rattle.ftp_switchboard.specs.Board.{key_cmp, is_key}

-- Keys are totally ordered.
pub key_cmp-total : IsTotalOrder key_cmp
key_cmp-total = then_total (on_total (λ k. k.source) nat_cmp_total) (on_total (λ k. k.port) nat_cmp_total)

-- Keys that compare alike are one.
pub key_cmp-exact : IsAntisymmetric key_cmp
key_cmp-exact a b h = ap (λ (p : ℕ × ℕ). record { source = p.0; port = p.1 }) (exact_pairs nat_cmp nat_cmp exact_unsigned exact_unsigned (a.source, a.port) (b.source, b.port) h)

is_eq-ordering_then : (r s : Ordering) → is_eq (ordering_then r s) ≡ (is_eq r && is_eq s)
is_eq-ordering_then Less s = refl
is_eq-ordering_then Equal s = refl
is_eq-ordering_then Greater s = refl

-- Keys compare alike where both numbers are the same.
pub eq_by_cmp-key_cmp : (a b : SwitchboardKey) → eq_by_cmp key_cmp a b ≡ is_key a.source a.port b.source b.port
eq_by_cmp-key_cmp a b =
    is_eq-ordering_then (nat_cmp a.source b.source) (nat_cmp a.port b.port)
    ∙ ap (λ x. x && is_eq (nat_cmp a.port b.port)) (unsigned_tied a.source b.source)
    ∙ ap (λ x. (a.source == b.source) && x) (unsigned_tied a.port b.port)

-- the test for equal keys
abbrev pub key_eq : SwitchboardKey → SwitchboardKey → Bool
key_eq a b = is_key a.source a.port b.source b.port

key_eq-ties : (a b : SwitchboardKey) → key_eq a b ≡ eq_by_cmp key_cmp a b
key_eq-ties a b = sym (eq_by_cmp-key_cmp a b)

module _ (es : List (SwitchboardKey × ℕ)) where
  -- The map of a table has at a key what a look-up finds there.
  pub get-table : (q : SwitchboardKey) → finmap.get (finmap.from_entries {R = key_cmp} es) q ≡ lookup (key_eq q) es
  get-table = get-from_entries-lookup key_cmp-total key_cmp-exact key_eq key_eq-ties es

  -- A table with a key put in stands for the map with that key put in.
  pub table-insert : (fs : List (SwitchboardKey × ℕ)) (k : SwitchboardKey) (v : ℕ) → ((q : SwitchboardKey) → lookup (key_eq q) fs ≡ cond (key_eq k q) (Some v) (lookup (key_eq q) es)) → finmap.from_entries {R = key_cmp} fs ≡ finmap.insert (finmap.from_entries es) k v
  table-insert = from_entries-insert key_cmp-total key_cmp-exact key_eq key_eq-ties es

module _ (es fs : List (SwitchboardKey × ℕ)) where
  -- A table with a key taken out stands for the map without that key.
  pub table-remove : (k : SwitchboardKey) → ((q : SwitchboardKey) → lookup (key_eq q) fs ≡ cond (key_eq k q) None (lookup (key_eq q) es)) → finmap.from_entries {R = key_cmp} fs ≡ finmap.remove (finmap.from_entries es) k
  table-remove k h = finmap.same_map key_cmp-total key_cmp-exact _ _ (λ q.
      get-table fs q ∙ h q
      ∙ ap (λ b. cond b None (lookup (key_eq q) es)) (key_eq-ties k q ∙ (eq_by_cmp_equiv key_cmp-total).symm k q)
      ∙ sym
      (finmap.get-remove key_cmp-total (finmap.from_entries es) k q
      ∙ ap (cond (eq_by_cmp key_cmp q k) None) (get-table es q)))

  -- Tables that answer alike stand for one map.
  pub table-same : ((q : SwitchboardKey) → lookup (key_eq q) fs ≡ lookup (key_eq q) es) → finmap.from_entries {R = key_cmp} fs ≡ finmap.from_entries es
  table-same h = finmap.same_map key_cmp-total key_cmp-exact _ _ (λ q. get-table fs q ∙ h q ∙ sym (get-table es q))
