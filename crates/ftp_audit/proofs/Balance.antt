-- The running counts, as owners come and files grow.
use Rattle.std.proofs.Common.{◌≡◌, ◌≢◌, ℕ, ◌+◌, ◌-◌, ◌^◌, ◌<◌, ◌≤◌, true, false, cond, List, [], ◌∷◌, Option, Some, None, refl, sym, ap, subst, ◌∙◌, arith, length}
use Rattle.std.specs.Prelude.{IfSome, IsSomeAnd, is_some, unwrap_or, map as map_list, sum_by}
use Rattle.std.specs.FinMap as map
use Rattle.std.specs.Ordering.{nat_cmp, eq_by_cmp}
use Rattle.std.specs.Cmp.Lexicographic.{slice_cmp, nat_list_cmp_total}
use Rattle.ftp_audit.specs.declared.quota_book.Held.{Held}
use Rattle.ftp_audit.specs.Names.{ByName, OpensCount}
use Rattle.ftp_audit.specs.Usage.{Owners, share, given}
use Rattle.ftp_audit.specs.Book.{Balances}
use Rattle.ftp_audit.proofs.ByName.{tied, itself}
use Rattle.ftp_audit.proofs.Maps.{get-insert-same, remove_none}
use Rattle.ftp_audit.proofs.UsageLemmas.{given-insert, given-remove, no_share}
use Rattle.ftp_audit.proofs.Shares.{given-changed, given-others, own-le}

none_there : {A : Type 0} (es : List A) → length es ≡ 0 → es ≡ []
none_there [] e = refl
none_there (x ∷ es) e = absurd (omega arith)

-- no entries
pub no_entries : map.entries (map.empty {X = Held} {R = slice_cmp nat_cmp}) ≡ []
no_entries = none_there (map.entries (map.empty {X = Held} {R = slice_cmp nat_cmp})) (sym (map.len-entries (map.empty {X = Held} {R = slice_cmp nat_cmp})) ∙ map.len-empty (slice_cmp nat_cmp) Held)

-- where nobody owns a file, no user's files were given anything
pub given-empty : (user : List ℕ) → given map.empty user ≡ 0
given-empty user = ap (λ (es : List (List ℕ × Held)). sum_by (share user) (map_list (λ e. e.1) es)) no_entries

-- no counts and no owners
pub balance_of_none : Balances map.empty map.empty
balance_of_none = record {
  counted = λ user. ap (λ (o : Option ℕ). unwrap_or o 0) (map.get-empty (slice_cmp nat_cmp) user) ∙ sym (given-empty user);
  present = λ path held there. let none = map.get-empty {X = Held} (slice_cmp nat_cmp) path in absurd (cc (none, there));
}

-- a count that is begun
pub balance-opened : (used later : ByName ℕ) (owners : Owners) (name : List ℕ) → Balances used owners → OpensCount used later name → Balances later owners
balance-opened used later owners name b o = record {
  counted = λ user. o.same user ∙ b.counted user;
  present = λ path held there. let n = b.present path held there in (n.0, o.present held.owner n.0 n.1);
}

-- two cases of a name: it is this one, or it stands as before
at_or_before : {X : Type 0} (m : ByName X) (name q : List ℕ) (x : X) (P : Option X → Type 0) → (q ≡ name → P (Some x)) → (q ≢ name → P (map.get m q)) → P (map.get (map.insert m name x) q)
at_or_before m name q x P same other =
    subst P (sym (map.get-insert nat_list_cmp_total m name x q))
    (elim (eq_by_cmp (slice_cmp nat_cmp) q name) as (λ b. eq_by_cmp (slice_cmp nat_cmp) q name ≡ b → P (cond b (Some x) (map.get m q))) [
      | true ↦ λ e. same (tied q name e)
      | false ↦ λ e. other (λ equal. let yes : eq_by_cmp (slice_cmp nat_cmp) q name ≡ true = rw equal (itself name) in cc (e, yes))
    ] refl)

-- a file that a user begins to own
pub balance-taken : (used : ByName ℕ) (owners : Owners) (path user : List ℕ) → Balances used owners → map.get owners path ≡ None → (n : ℕ) × (map.get used user ≡ Some n) →
    Balances used (map.insert owners path (record { owner = user; len = 0 }))
balance-taken used owners path user b none there = record {
  counted = λ q.
      let held : Held = record { owner = user; len = 0 } in
      let sum : given (map.insert owners path held) q + 0 ≡ given owners q + share q held = rw none at (given-insert owners path held q) in
      let zero : share q held ≡ 0 = no_share q held refl in
      let counted = b.counted q in
      omega arith;
  present = λ q held. at_or_before owners path q (record { owner = user; len = 0 }) (λ o. o ≡ Some held → (n : ℕ) × (map.get used held.owner ≡ Some n))
      (λ same e. let owner : user ≡ held.owner = cc in (there.0, ap (map.get used) (sym owner) ∙ there.1))
      (λ other e. b.present q held e);
}

-- a file without bytes that nobody owns any more
pub balance-given_up : (used : ByName ℕ) (owners : Owners) (path : List ℕ) (held : Held) → Balances used owners → map.get owners path ≡ Some held → held.len ≡ 0 →
    Balances used (map.remove owners path)
balance-given_up used owners path held b there empty = record {
  counted = λ q. b.counted q ∙ sym (given-remove owners path held q there empty);
  present = λ q h. subst (λ (o : Option Held). o ≡ Some h → (n : ℕ) × (map.get used h.owner ≡ Some n)) (sym (map.get-remove nat_list_cmp_total owners path q))
      (elim (eq_by_cmp (slice_cmp nat_cmp) q path) as (λ v. cond v None (map.get owners q) ≡ Some h → (n : ℕ) × (map.get used h.owner ≡ Some n)) [
        | true ↦ λ e. absurd (cc e)
        | false ↦ λ e. b.present q h e
      ]);
}

-- a file of another length
pub balance-put : (used : ByName ℕ) (owners : Owners) (path : List ℕ) (held : Held) (n len : ℕ) → Balances used owners → map.get owners path ≡ Some held → map.get used held.owner ≡ Some n →
    Balances (map.insert used held.owner (n - held.len + len)) (map.insert owners path (record { owner = held.owner; len = len }))
balance-put used owners path held n len b there count = record {
  counted = λ q. at_or_before used held.owner q (n - held.len + len) (λ o. unwrap_or o 0 ≡ given (map.insert owners path (record { owner = held.owner; len = len })) q)
      (λ same.
      let counted : n ≡ given owners held.owner = ap (λ (o : Option ℕ). unwrap_or o 0) (sym count) ∙ b.counted held.owner in
      rw same (ap (λ m. m - held.len + len) counted ∙ sym (given-changed owners path held.owner len held there refl)))
      (λ other. b.counted q ∙ sym (given-others owners path held.owner q len (λ h e. ap (λ (x : Held). x.owner) (let same : h ≡ held = cc (e, there) in same)) (λ e. other (sym e))));
  present = λ q h. at_or_before owners path q (record { owner = held.owner; len = len }) (λ o. o ≡ Some h → (m : ℕ) × (map.get (map.insert used held.owner (n - held.len + len)) h.owner ≡ Some m))
      (λ same e. let owner : held.owner ≡ h.owner = cc in (n - held.len + len, ap (map.get (map.insert used held.owner (n - held.len + len))) (sym owner) ∙ get-insert-same used held.owner (n - held.len + len)))
      (λ other e. at_or_before used held.owner h.owner (n - held.len + len) (λ o. (m : ℕ) × (o ≡ Some m)) (λ own. (n - held.len + len, refl)) (λ others. b.present q h e));
}

removed_if : (o : Option Held) (used : ByName ℕ) (owners : Owners) (path : List ℕ) → map.get owners path ≡ o → Balances used owners → IfSome o (λ held. held.len ≡ 0) →
    Balances used (map.remove owners path)
removed_if None used owners path is b empty = record {
  counted = λ q. b.counted q ∙ ap (λ (m : Owners). given m q) (sym (remove_none owners path is));
  present = λ q h e. b.present q h (ap (λ (m : Owners). map.get m q) (sym (remove_none owners path is)) ∙ e);
}
removed_if (Some held) used owners path is b empty = balance-given_up used owners path held b is empty

-- a file without bytes that nobody owns any more, if anybody did
pub balance-removed : (used : ByName ℕ) (owners : Owners) (path : List ℕ) → Balances used owners → IfSome (map.get owners path) (λ held. held.len ≡ 0) →
    Balances used (map.remove owners path)
balance-removed used owners path b empty = removed_if (map.get owners path) used owners path refl b empty

found_there : {X : Type 0} (o : Option X) → is_some o ≡ true → (x : X) × (o ≡ Some x)
found_there None e = absurd (cc e)
found_there (Some x) e = (x, refl)

-- a count that was begun before
pub opened_before : (used : ByName ℕ) (name : List ℕ) → is_some (map.get used name) ≡ true → OpensCount used used name
opened_before used name there = record { there = found_there (map.get used name) there; same = λ q. refl; present = λ q n e. e }

-- nothing stands where nothing is found
pub not_there : {X : Type 0} (o : Option X) → is_some o ≡ false → o ≡ None
not_there None e = refl
not_there (Some x) e = absurd (cc e)

-- a count that begins
pub opened_now : (used : ByName ℕ) (name : List ℕ) → is_some (map.get used name) ≡ false → OpensCount used (map.insert used name 0) name
opened_now used name none =
    let absent = not_there (map.get used name) none in
    record {
      there = (0, get-insert-same used name 0);
      same = λ q. at_or_before used name q 0 (λ o. unwrap_or o 0 ≡ unwrap_or (map.get used q) 0)
          (λ e. rw (e, absent) refl)
          (λ other. refl);
      present = λ q n e. at_or_before used name q 0 (λ o. o ≡ Some n) (λ same. let at : map.get used name ≡ Some n = rw same at e in absurd (cc (at, absent))) (λ other. e);
    }

module _ (used later : ByName ℕ) (owners grown : Owners) (path user : List ℕ) (len before : ℕ) where
  room_if : (o : Option Held) → map.get owners path ≡ o → Balances used owners →
      IsSomeAnd o (λ held. held.owner ≡ user) → given (map.insert owners path (record { owner = user; len = len })) user < 2 ^ 64 → IfSome o (λ held. before ≡ held.len) →
      IsSomeAnd (map.get used user) (λ n. (before ≤ n) × (n - before + len < 2 ^ 64))
  room_if None is b held room was = absurd held
  room_if (Some h) is b held room was =
      let n = b.present path h is in
      let count : map.get used user ≡ Some n.0 = ap (map.get used) (sym held) ∙ n.1 in
      let counted : n.0 ≡ given owners user = ap (λ (o : Option ℕ). unwrap_or o 0) (sym count) ∙ b.counted user in
      let changed = given-changed owners path user len h is held in
      let below = own-le owners path h user is held in
      rw count (omega arith, omega arith)

  -- there is room for a file's new length in its owner's count
  pub put_so : Balances used owners →
      IsSomeAnd (map.get owners path) (λ held. held.owner ≡ user) → given (map.insert owners path (record { owner = user; len = len })) user < 2 ^ 64 →
      IfSome (map.get owners path) (λ held. before ≡ held.len) →
      IsSomeAnd (map.get used user) (λ n. (before ≤ n) × (n - before + len < 2 ^ 64))
  put_so b held room was = room_if (map.get owners path) refl b held room was

  now_if : (o : Option Held) → map.get owners path ≡ o → Balances used owners →
      IsSomeAnd o (λ held. held.owner ≡ user) → IfSome o (λ held. before ≡ held.len) →
      IfSome o (λ held. grown ≡ map.insert owners path (record held { len = len })) →
      IfSome (map.get used user) (λ n. later ≡ map.insert used user (n - before + len)) →
      (grown ≡ map.insert owners path (record { owner = user; len = len })) × Balances later grown
  now_if None is b held was put counted = absurd held
  now_if (Some h) is b held was put counted =
      let n = b.present path h is in
      let count : map.get used user ≡ Some n.0 = ap (map.get used) (sym held) ∙ n.1 in
      let later_is : later ≡ map.insert used user (n.0 - before + len) = rw count at counted in (
        put ∙ ap (λ (u : List ℕ). map.insert owners path (record { owner = u; len = len })) held,
        rw (later_is, put, was, ← held) (balance-put used owners path h n.0 len b is n.1),
      )

  -- a file's new length, and its owner's count
  pub put_now : Balances used owners →
      IsSomeAnd (map.get owners path) (λ held. held.owner ≡ user) → IfSome (map.get owners path) (λ held. before ≡ held.len) →
      IfSome (map.get owners path) (λ held. grown ≡ map.insert owners path (record held { len = len })) →
      IfSome (map.get used user) (λ n. later ≡ map.insert used user (n - before + len)) →
      (grown ≡ map.insert owners path (record { owner = user; len = len })) × Balances later grown
  put_now b held was put counted = now_if (map.get owners path) refl b held was put counted
