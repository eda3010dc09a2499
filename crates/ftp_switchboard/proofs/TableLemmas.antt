-- The table of rows: what is held after a change of one row, and the map that the table stands for.
use Rattle.std.proofs.Common.{◌≡◌, ◌≢◌, ℕ, ◌^◌, ◌<◌, ◌≤◌, nat_eq, Bool, true, false, cond, ◌&&◌, List, [], ◌∷◌, ◌++◌, length, map, Option, Some, None, IfSome, unwrap_or, refl, sym, ap, subst, ◌∙◌, arith, inl, inr, eq-eqb, ne_eqb}
use Rattle.std.specs.Cmp.{nat_eq_equiv}
use Rattle.std.specs.FinMap as finmap
use Rattle.std.specs.HashMap.{IsUnique}
use Rattle.std.specs.List.{flat_map, IsDistinct}
use Rattle.std.specs.Map.{lookup, keys_of}
use Rattle.std.specs.Option.{option_and_then, option_map, option_or}
use Rattle.std.proofs.lemmas.Bool.{cases_eq}
use Rattle.std.proofs.lemmas.Bool.Decides.{nat_tests}
use Rattle.std.proofs.lemmas.Map.{lookup-none}
use Rattle.std.proofs.lemmas.Map.Entries.{none_past_head}
use Rattle.std.proofs.lemmas.Map.Keys.{IsDistinct-tail}
use Rattle.std.proofs.lemmas.Map.Made.{lookup-map_values}
use Rattle.ftp_switchboard.specs.declared.key.SwitchboardKey.{SwitchboardKey}
use Rattle.ftp_switchboard.specs.declared.row.Row.{Row}
use Rattle.ftp_switchboard.specs.Board.{Held, is_key, is_of, key, places_for, present_released, released, still_holder}
use Rattle.ftp_switchboard.specs.Bits.{Ascends, IsHeldRow, places_of, session_of}
use Rattle.ftp_switchboard.specs.Rows.{AreInOrder, AreRows, Rows, held_by, holder_in, holds_of, new_rows, places_in, room_of, row_of}
use Rattle.ftp_switchboard.proofs.BoardLemmas.{get-insert-key, get-present_released, get-released, get-remove-key}
use Rattle.ftp_switchboard.proofs.KeyLemmas.{key_cmp-total, key_cmp-exact, key_eq, get-table}
use Rattle.ftp_switchboard.proofs.RowLemmas.{pairs-few}

-- the session of the port in a row, if there is a row
abbrev pub session_in : Option Row → ℕ → Option ℕ
session_in row port = option_and_then (λ (r : Row). session_of r.pairs.items port) row

-- Rows of a range are in order.
pub in_order : (lo hi : ℕ) (rows : Rows) → 1 ≤ lo → lo ≤ hi → hi < 2 ^ 16 → AreRows lo hi rows → AreInOrder rows
in_order lo hi rows low range high are a = by (row_of rows a) (are.each a)
  where
    by : (o : Option Row) → IfSome o (IsHeldRow lo hi) → IfSome o (λ row. Ascends row.pairs.items × (length row.pairs.items < 2 ^ 16))
    by None each = tt
    by (Some row) each = (each.0.ascends, omega (arith, pairs-few lo hi row each.0 range))

module _ (lo hi : ℕ) (old new : Rows) (s : ℕ) (r : Option Row) (are : AreRows lo hi old)
    (unique : IsUnique nat_eq new) (rows : (q : ℕ) → row_of new q ≡ cond (nat_eq s q) r (row_of old q)) where
  -- The source's row, and each other source's.
  pub row_of-same : row_of new s ≡ r
  row_of-same = rows s ∙ ap (λ b. cond b r (row_of old s)) (eq-eqb s s refl)

  pub row_of-other : (a : ℕ) → a ≢ s → row_of new a ≡ row_of old a
  row_of-other a apart = rows a ∙ ap (λ b. cond b r (row_of old a)) (ne_eqb s a (λ same. apart (sym same)))

  -- Another row of the source leaves a table of rows.
  pub are_rows-changed : IfSome r (IsHeldRow lo hi) → AreRows lo hi new
  are_rows-changed is = record {
    unique = unique;
    each = λ q. by (row_of old q) (row_of new q) (nat_eq s q) (rows q) (are.each q);
  } where
    by : (q n : Option Row) (b : Bool) → n ≡ cond b r q → IfSome q (IsHeldRow lo hi) → IfSome n (IsHeldRow lo hi)
    by q n true now before = subst (λ (o : Option Row). IfSome o (IsHeldRow lo hi)) (sym now) is
    by q n false now before = subst (λ (o : Option Row). IfSome o (IsHeldRow lo hi)) (sym now) before

  -- A change of one port of the source's row is a change of that key.
  pub holders-changed : (port : ℕ) (x : Option ℕ) → ((p : ℕ) → session_in r p ≡ cond (nat_eq port p) x (session_in (row_of old s) p)) →
      (a p : ℕ) → holder_in new a p ≡ cond (is_key a p s port) x (holder_in old a p)
  holders-changed port x sessions a p =
      elim (cases_eq a s) [
        | inl same ↦ (
            let here : holder_in new s p ≡ cond (nat_eq port p) x (holder_in old s p) = ap (λ (o : Option Row). session_in o p) row_of-same ∙ sessions p in
            rw same (here ∙ grind (arith, nat_tests))
            )
        | inr apart ↦ (
            let there : holder_in new a p ≡ holder_in old a p = ap (λ (o : Option Row). session_in o p) (row_of-other a apart) in
            grind (arith, nat_tests, there, apart)
            )
      ]

-- ---- the map that the table stands for

lookup-append : (test : SwitchboardKey → Bool) (xs ys : List (SwitchboardKey × ℕ)) → lookup test (xs ++ ys) ≡ option_or (lookup test xs) (lookup test ys)
lookup-append test [] ys = refl
lookup-append test (x ∷ xs) ys = by (test x.0) (lookup-append test xs ys)
  where
    by : (b : Bool) → lookup test (xs ++ ys) ≡ option_or (lookup test xs) (lookup test ys) → cond b (Some x.1) (lookup test (xs ++ ys)) ≡ option_or (cond b (Some x.1) (lookup test xs)) (lookup test ys)
    by true rest = refl
    by false rest = rest

lookup-holds : (a p b : ℕ) (pairs : List (ℕ × ℕ)) →
    lookup (key_eq (key a p)) (map (λ (pair : ℕ × ℕ). (key b pair.0, pair.1)) pairs) ≡ cond (nat_eq a b) (session_of pairs p) None
lookup-holds a p b [] = by (nat_eq a b)
  where
    by : (t : Bool) → ◌≡◌ {A = Option ℕ} None (cond t None None)
    by true = refl
    by false = refl
lookup-holds a p b (e ∷ pairs) = ap (cond (is_key a p b e.0) (Some e.1)) (lookup-holds a p b pairs) ∙ by (nat_eq a b)
  where
    by : (t : Bool) → cond (t && nat_eq p e.0) (Some e.1) (cond t (session_of pairs p) None) ≡ cond t (cond (nat_eq p e.0) (Some e.1) (session_of pairs p)) None
    by true = refl
    by false = refl

lookup-flat : (a p : ℕ) (es : List (ℕ × Row)) → IsDistinct nat_eq (keys_of es) →
    lookup (key_eq (key a p)) (flat_map holds_of es) ≡ session_in (lookup (nat_eq a) es) p
lookup-flat a p [] distinct = refl
lookup-flat a p (e ∷ es) distinct =
    lookup-append (key_eq (key a p)) (holds_of e) (flat_map holds_of es)
    ∙ ap (λ o. option_or o (lookup (key_eq (key a p)) (flat_map holds_of es))) (lookup-holds a p e.0 e.1.pairs.items)
    ∙ ap (option_or (cond (nat_eq a e.0) (session_of e.1.pairs.items p) None)) (lookup-flat a p es (IsDistinct-tail nat_eq e.0 (keys_of es) distinct))
    ∙ by (nat_eq a e.0) (λ here. lookup-none (nat_eq a) es (none_past_head nat_eq_equiv a e es distinct here))
  where
    or_none : (o : Option ℕ) → option_or o None ≡ o
    or_none None = refl
    or_none (Some s) = refl

    by : (t : Bool) → (t ≡ true → lookup (nat_eq a) es ≡ None) →
        option_or (cond t (session_of e.1.pairs.items p) None) (session_in (lookup (nat_eq a) es) p) ≡ session_in (cond t (Some e.1) (lookup (nat_eq a) es)) p
    by true none = ap (λ (o : Option Row). option_or (session_of e.1.pairs.items p) (session_in o p)) (none refl) ∙ or_none (session_of e.1.pairs.items p)
    by false none = refl

-- The map has at a key who holds it in the table.
pub get-held : (rows : Rows) → IsUnique nat_eq rows → (a p : ℕ) → finmap.get (held_by rows) (key a p) ≡ holder_in rows a p
get-held rows unique a p = get-table (flat_map holds_of rows.entries) (key a p) ∙ lookup-flat a p rows.entries unique

-- A map that answers as a table is the table's.
pub held-is : (rows : Rows) (held : Held) → IsUnique nat_eq rows → ((a p : ℕ) → holder_in rows a p ≡ finmap.get held (key a p)) → held_by rows ≡ held
held-is rows held unique same = finmap.same_map key_cmp-total key_cmp-exact _ _ (λ q. get-held rows unique q.source q.port ∙ same q.source q.port)

module _ (old new : Rows) (was : IsUnique nat_eq old) (unique : IsUnique nat_eq new) (b q : ℕ) where
  -- One more hold is a key put into the map.
  pub held-insert : (session : ℕ) → ((a p : ℕ) → holder_in new a p ≡ cond (is_key a p b q) (Some session) (holder_in old a p)) → held_by new ≡ finmap.insert (held_by old) (key b q) session
  held-insert session holders =
      held-is new _ unique (λ a p. holders a p ∙ sym (get-insert-key (held_by old) a p b q session ∙ ap (cond (is_key a p b q) (Some session)) (get-held old was a p)))

  -- One hold less is a key taken out of the map.
  pub held-remove : ((a p : ℕ) → holder_in new a p ≡ cond (is_key a p b q) None (holder_in old a p)) → held_by new ≡ finmap.remove (held_by old) (key b q)
  held-remove holders =
      held-is new _ unique (λ a p. holders a p ∙ sym (get-remove-key (held_by old) a p b q ∙ ap (cond (is_key a p b q) None) (get-held old was a p)))

  -- A hold that its session gave up is taken out of the map.
  pub held-released : (session : ℕ) → ((a p : ℕ) → holder_in new a p ≡ cond (is_key a p b q && is_of session (holder_in old a p)) None (holder_in old a p)) → held_by new ≡ released (held_by old) (key b q) session
  held-released session holders =
      held-is new _ unique (λ a p. holders a p ∙ sym (get-released (held_by old) a p b q session ∙ ap (λ o. cond (is_key a p b q && is_of session o) None o) (get-held old was a p)))

  -- A reservation gives up the session's present port, and holds the new one.
  pub held-reserved : (present : Option ℕ) (session : ℕ) → ((a p : ℕ) → holder_in new a p ≡ cond (is_key a p b q) (Some session) (still_holder b present session a p (holder_in old a p))) →
      held_by new ≡ finmap.insert (present_released (held_by old) b present session) (key b q) session
  held-reserved present session holders =
      held-is new _ unique (λ a p.
      holders a p
      ∙ sym
      (get-insert-key (present_released (held_by old) b present session) a p b q session
      ∙ ap (cond (is_key a p b q) (Some session))
      (get-present_released (held_by old) b present session a p ∙ ap (still_holder b present session a p) (get-held old was a p))))

-- Tables that answer alike stand for one map.
pub held-same : (old new : Rows) → IsUnique nat_eq old → IsUnique nat_eq new → ((a p : ℕ) → holder_in new a p ≡ holder_in old a p) → held_by new ≡ held_by old
held-same old new was unique holders = held-is new _ unique (λ a p. holders a p ∙ sym (get-held old was a p))

-- ---- room

-- What contracts see of room is what the table has.
pub places-are : (rows : Rows) (row : Option Row) (a : ℕ) → places_for (room_of rows row) a ≡ places_in rows row a
places-are rows row a = ap (λ o. unwrap_or o (new_rows rows row)) (lookup-map_values places_of (nat_eq a) rows.entries)

-- A source whose row stays keeps its places.
pub places-same : (old new : Rows) (o n : Option Row) (a : ℕ) → row_of new a ≡ row_of old a → (0 < new_rows old o → 0 < new_rows new n) → 0 < places_in old o a → 0 < places_in new n a
places-same old new o n a same more some = subst (λ (r : Option Row). 0 < unwrap_or (option_map places_of r) (new_rows new n)) (sym same) (by (row_of old a) some)
  where
    by : (r : Option Row) → 0 < unwrap_or (option_map places_of r) (new_rows old o) → 0 < unwrap_or (option_map places_of r) (new_rows new n)
    by None there = more there
    by (Some row) there = there
