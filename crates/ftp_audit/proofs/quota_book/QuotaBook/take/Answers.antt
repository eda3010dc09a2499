use Rattle.std.proofs.Common.{◌≡◌, ℕ, List, Vec, Global, true, false, is_some, None, refl, sym, ap, ◌∙◌}
use Rattle.std.specs.FinMap as map
use Rattle.std.specs.Map.{lookup}
use Rattle.std.specs.BTreeMap.{insert_entry}
use Rattle.ftp_audit.specs.declared.quota_book.Held.{Held}
use Rattle.ftp_audit.specs.Names.{path_cmp, by_name}
use Rattle.ftp_audit.specs.Usage.{Owners}
use Rattle.ftp_audit.proofs.ByName.{at_name, get-found, by_name-put}
use Rattle.ftp_audit.proofs.Balance.{not_there, balance-opened, balance-taken}
use Rattle.ftp_audit.proofs.quota_book.QuotaBook.take.Goals as goal

-- nobody owned the file at this path, and the user owns it now
taken : (old new : List (Vec ℕ Global × Held)) (path key user owner : List ℕ) (k : Vec ℕ Global) → key ≡ path → is_some (lookup (at_name key) old) ≡ false →
    k.items ≡ path → owner ≡ user → new ≡ insert_entry path_cmp old k (record { owner = owner; len = 0 }) →
    (map.get (by_name old) path ≡ None) × (by_name new ≡ map.insert (by_name old) path (record { owner = user; len = 0 }))
taken old new path key user owner k same absent named copied put = (
  not_there _ (ap is_some (get-found old path key _ same refl) ∙ absent),
  by_name-put old new path k (record { owner = owner; len = 0 }) named put ∙ ap (λ (o : List ℕ). map.insert (by_name old) path (record { owner = o; len = 0 })) copied,
)

pub returns-then-contains_key-clause-taken : goal.returns-then-contains_key-clause-taken
returns-then-contains_key-clause-taken c =
    let there : is_some (map.get (by_name c.self.inside.owners.entries) c.args.path.now) ≡ true =
    ap is_some (get-found c.self.inside.owners.entries c.args.path.now _ _ c.as_slice.ensures refl) ∙ sym c.contains_key.ensures ∙ c.if-contains_key.true
    in
    (rw (← c.self.view_is) there, refl)

pub invariant_of-self-2 : goal.invariant_of-self-2
invariant_of-self-2 c =
    let now = taken c.self.inside.owners.entries c.insert.new.self.entries c.args.path.now _ c.args.user.now _ _ c.as_slice.ensures (sym c.contains_key.ensures ∙ c.if-contains_key.false)
    (c.in_ok-key.ensures.items ∙ c.as_slice-2.ensures) c.in_ok-copy.ensures c.in_ok-insert.ensures.entries in
    let opened = balance-opened (by_name c.self.inside.used.entries) (by_name c.open_count.new.used.entries) (by_name c.self.inside.owners.entries) c.args.user.now c.self.invariant.balance c.in_ok-open_count.ensures.opened in
    record {
      ordered = c.insert.ensures.ordered;
      balance = rw now.1 (balance-taken (by_name c.open_count.new.used.entries) (by_name c.self.inside.owners.entries) c.args.path.now c.args.user.now opened now.0 c.in_ok-open_count.ensures.opened.there);
    }

pub returns-clause-taken : goal.returns-clause-taken
returns-clause-taken c =
    let now = taken c.self.inside.owners.entries c.insert.new.self.entries c.args.path.now _ c.args.user.now _ _ c.as_slice.ensures (sym c.contains_key.ensures ∙ c.if-contains_key.false)
    (c.in_ok-key.ensures.items ∙ c.as_slice-2.ensures) c.in_ok-copy.ensures c.in_ok-insert.ensures.entries in
    rw (← c.self.view_is) (now.0, ap (λ (owners : Owners). record { default = c.self.inside.default; budgets = by_name c.self.inside.budgets.entries; owners = owners }) now.1)
