-- Pairs in order of ports: what is found among them, and what an edit at a place makes of them.
use Rattle.std.proofs.Common.{◌≡◌, ◌≢◌, ℕ, zero, suc, ◌+◌, ◌-◌, ◌<◌, ◌≤◌, nat_eq, true, false, cond, List, [], ◌∷◌, length, get_or, Option, Some, None, is_some, is_none, refl, sym, ap, subst, ◌∙◌, arith, inl, inr}
use Rattle.std.specs.Cmp.{nat_eq_equiv}
use Rattle.std.specs.List.{insert, remove}
use Rattle.std.proofs.lemmas.Bool.{cases_eq, cases_lt}
use Rattle.std.proofs.lemmas.Bool.Decides.{nat_tests}
use Rattle.std.proofs.lemmas.List.Edits.{length-insert, get_or-insert_below, get_or-insert_at, get_or-insert_above, length-remove, get_or-remove_below, get_or-remove_above}
use Rattle.std.proofs.lemmas.Map.{lookup-insert, none_passes_from_lookup}
use Rattle.ftp_switchboard.specs.declared.row.Row.{Row}
use Rattle.ftp_switchboard.proofs.PortsLemmas.{AreHeld}
use Rattle.ftp_switchboard.specs.Bits.{AreAlike, AreSet, bit_of, port_at, session_of, Ascends, IsPlace, IsRow}

tail : (e : ℕ × ℕ) (pairs : List (ℕ × ℕ)) → Ascends (e ∷ pairs) → Ascends pairs
tail e pairs ascends i j less below = ascends (suc i) (suc j) (omega arith) (omega arith)

-- A port that no pair has is nobody's.
pub session_of-absent : (pairs : List (ℕ × ℕ)) (p : ℕ) → ((i : ℕ) → i < length pairs → port_at pairs i ≢ p) → session_of pairs p ≡ None
session_of-absent [] p absent = refl
session_of-absent (e ∷ pairs) p absent =
    let other : e.0 ≢ p = absent 0 (omega arith) in
    let rest : session_of pairs p ≡ None = session_of-absent pairs p (λ i below. absent (suc i) (omega arith)) in
    grind (arith, nat_tests, other, rest)

-- The port of a pair is its session's.
pub session_of-at : (pairs : List (ℕ × ℕ)) (i : ℕ) → Ascends pairs → i < length pairs → session_of pairs (port_at pairs i) ≡ Some (get_or pairs i (0, 0)).1
session_of-at [] i ascends below = absurd (omega arith)
session_of-at (e ∷ pairs) zero ascends below = grind (arith, nat_tests)
session_of-at (e ∷ pairs) (suc i) ascends below =
    let later : e.0 < port_at pairs i = ascends 0 (suc i) (omega arith) (omega arith) in
    let rest : session_of pairs (port_at pairs i) ≡ Some (get_or pairs i (0, 0)).1 = session_of-at pairs i (tail e pairs ascends) (omega arith) in
    grind (arith, nat_tests, later, rest)

-- A port that does not stand at its place is nobody's.
pub session_of-gap : (pairs : List (ℕ × ℕ)) (p place : ℕ) → Ascends pairs → IsPlace pairs p place → (place < length pairs → port_at pairs place ≢ p) → session_of pairs p ≡ None
session_of-gap pairs p place ascends is_place gap =
    session_of-absent pairs p (λ i below same. elim (cases_lt i place) [
      | inl low ↦ (let less : port_at pairs i < p = is_place.lower i low in omega arith)
      | inr high ↦ elim (cases_eq i place) [
        | inl at ↦ gap (omega arith) (ap (port_at pairs) (sym at) ∙ same)
        | inr past ↦ (
            let up : p ≤ port_at pairs place = is_place.upper place (omega arith) (omega arith) in
            let further : port_at pairs place < port_at pairs i = ascends place i (omega arith) below in
            omega arith
            )
      ]
    ])

-- The pairs ascend from one port of the range on.
ports-rise : (lo : ℕ) (pairs : List (ℕ × ℕ)) → Ascends pairs → ((i : ℕ) → i < length pairs → lo ≤ port_at pairs i) → (i : ℕ) → i < length pairs → lo + i ≤ port_at pairs i
ports-rise lo pairs ascends inside zero below = let low : lo ≤ port_at pairs 0 = inside 0 below in omega arith
ports-rise lo pairs ascends inside (suc i) below =
    let before : lo + i ≤ port_at pairs i = ports-rise lo pairs ascends inside i (omega arith) in
    let step : port_at pairs i < port_at pairs (suc i) = ascends i (suc i) (omega arith) below in
    omega arith

abbrev as_bit : Option ℕ → ℕ
as_bit o = cond (is_some o) 1 0

module _ (lo hi word : ℕ) (row : Row) (is : IsRow lo hi row) where
  -- A port whose bit is set is held.
  pub held-from_set : (from to : ℕ) → to ≤ hi - lo + 1 → lo ≤ hi → AreSet row.words.items from to → AreHeld (session_of row.pairs.items) lo hi word from to
  held-from_set from to within range set j after below =
      let one : bit_of row.words.items j ≡ 1 = set j after below in
      let bit : bit_of row.words.items j ≡ cond (is_some (session_of row.pairs.items (lo + j))) 1 0 = is.bits j (omega arith) in
      held (session_of row.pairs.items (lo + j)) (sym bit ∙ one)
    where
      held : (o : Option ℕ) → as_bit o ≡ 1 → is_none o ≡ false
      held None one = absurd (omega arith)
      held (Some s) one = refl

  -- A port whose bit is clear is free.
  pub free-from_clear : (j : ℕ) → lo + j ≤ hi → bit_of row.words.items j ≡ 0 → is_none (session_of row.pairs.items (lo + j)) ≡ true
  free-from_clear j within clear = free (session_of row.pairs.items (lo + j)) (sym (is.bits j within) ∙ clear)
    where
      free : (o : Option ℕ) → as_bit o ≡ 0 → is_none o ≡ true
      free None clear = refl
      free (Some s) clear = absurd (omega arith)

-- A row has at most as many pairs as its range has ports.
pub pairs-few : (lo hi : ℕ) (row : Row) → IsRow lo hi row → lo ≤ hi → length row.pairs.items ≤ hi - lo + 1
pairs-few lo hi row is range =
    elim (cases_lt (hi - lo + 1) (length row.pairs.items)) [
      | inr few ↦ few
      | inl many ↦ absurd (
          let last : lo + (hi - lo + 1) ≤ port_at row.pairs.items (hi - lo + 1) = ports-rise lo row.pairs.items is.ascends (λ i below. (is.inside i below).0) (hi - lo + 1) many in
          let high : port_at row.pairs.items (hi - lo + 1) ≤ hi = (is.inside (hi - lo + 1) many).1 in
          omega arith)
    ]

module _ (pairs : List (ℕ × ℕ)) (p s place : ℕ) (ascends : Ascends pairs) (is_place : IsPlace pairs p place) (free : session_of pairs p ≡ None) where
  above : (i : ℕ) → place ≤ i → i < length pairs → p < port_at pairs i
  above i after below =
      elim (cases_eq p (port_at pairs i)) [
        | inl same ↦ absurd (let held : session_of pairs p ≡ Some (get_or pairs i (0, 0)).1 = rw same (session_of-at pairs i ascends below) in cc (free, held))
        | inr apart ↦ (let up : p ≤ port_at pairs i = is_place.upper i after below in omega arith)
      ]

  port_at-insert-below : (i : ℕ) → i < place → port_at (insert pairs place (p, s)) i ≡ port_at pairs i
  port_at-insert-below i before = ap (λ (e : ℕ × ℕ). e.0) (get_or-insert_below pairs place (p, s) (0, 0) i before is_place.within)

  port_at-insert-here : port_at (insert pairs place (p, s)) place ≡ p
  port_at-insert-here = ap (λ (e : ℕ × ℕ). e.0) (get_or-insert_at pairs place (p, s) (0, 0) is_place.within)

  port_at-insert-above : (i k : ℕ) → i ≡ k + 1 → place ≤ k → port_at (insert pairs place (p, s)) i ≡ port_at pairs k
  port_at-insert-above i k is after = rw is (ap (λ (e : ℕ × ℕ). e.0) (get_or-insert_above pairs place (p, s) (0, 0) k after is_place.within))

  -- A pair put in at its place keeps the order.
  pub ascends-insert : Ascends (insert pairs place (p, s))
  ascends-insert i j less below =
      let longer : length (insert pairs place (p, s)) ≡ length pairs + 1 = length-insert pairs place (p, s) is_place.within in
      elim (cases_lt j place) [
        | inl low ↦ rw (port_at-insert-below i (omega arith), port_at-insert-below j low) (ascends i j less (omega arith))
        | inr high ↦ elim (cases_eq j place) [
          | inl at ↦ rw at (rw (port_at-insert-below i (omega arith), port_at-insert-here) (is_place.lower i (omega arith)))
          | inr past ↦ elim (cases_lt i place) [
            | inl low ↦ (
                let before : port_at (insert pairs place (p, s)) i ≡ port_at pairs i = port_at-insert-below i low in
                let after : port_at (insert pairs place (p, s)) j ≡ port_at pairs (j - 1) = port_at-insert-above j (j - 1) (omega arith) (omega arith) in
                let up : port_at pairs i < port_at pairs (j - 1) = ascends i (j - 1) (omega arith) (omega arith) in
                omega arith
                )
            | inr next ↦ elim (cases_eq i place) [
              | inl here ↦ (
                  let before : port_at (insert pairs place (p, s)) i ≡ p = rw here port_at-insert-here in
                  let after : port_at (insert pairs place (p, s)) j ≡ port_at pairs (j - 1) = port_at-insert-above j (j - 1) (omega arith) (omega arith) in
                  let up : p < port_at pairs (j - 1) = above (j - 1) (omega arith) (omega arith) in
                  omega arith
                  )
              | inr beyond ↦ (
                  let before : port_at (insert pairs place (p, s)) i ≡ port_at pairs (i - 1) = port_at-insert-above i (i - 1) (omega arith) (omega arith) in
                  let after : port_at (insert pairs place (p, s)) j ≡ port_at pairs (j - 1) = port_at-insert-above j (j - 1) (omega arith) (omega arith) in
                  let up : port_at pairs (i - 1) < port_at pairs (j - 1) = ascends (i - 1) (j - 1) (omega arith) (omega arith) in
                  omega arith
                  )
            ]
          ]
        ]
      ]

  -- What holds of its port and of the others holds of each.
  pub ports-insert : (P : ℕ → Type 0) → P p → ((i : ℕ) → i < length pairs → P (port_at pairs i)) → (i : ℕ) → i < length (insert pairs place (p, s)) → P (port_at (insert pairs place (p, s)) i)
  ports-insert P here each i below =
      let longer : length (insert pairs place (p, s)) ≡ length pairs + 1 = length-insert pairs place (p, s) is_place.within in
      elim (cases_lt i place) [
        | inl low ↦ subst P (sym (port_at-insert-below i low)) (each i (omega arith))
        | inr high ↦ elim (cases_eq i place) [
          | inl at ↦ subst P (sym (ap (port_at (insert pairs place (p, s))) at ∙ port_at-insert-here)) here
          | inr past ↦ subst P (sym (port_at-insert-above i (i - 1) (omega arith) (omega arith))) (each (i - 1) (omega arith))
        ]
      ]

  -- The port is then the session's, and the others are whose they were.
  pub session_of-insert : (q : ℕ) → session_of (insert pairs place (p, s)) q ≡ cond (nat_eq p q) (Some s) (session_of pairs q)
  session_of-insert q = lookup-insert nat_eq_equiv p s q pairs place (none_passes_from_lookup (nat_eq p) pairs free)

-- A pair that is taken out leaves the others whose they were.
pub session_of-remove : (pairs : List (ℕ × ℕ)) (place p : ℕ) → Ascends pairs → place < length pairs → port_at pairs place ≡ p →
    (q : ℕ) → session_of (remove pairs place) q ≡ cond (nat_eq p q) None (session_of pairs q)
session_of-remove [] place p ascends below at q = absurd (omega arith)
session_of-remove (e ∷ pairs) zero p ascends below at q =
    let none : session_of pairs e.0 ≡ None = session_of-absent pairs e.0 (λ i within same. (let up : e.0 < port_at pairs i = ascends 0 (suc i) (omega arith) (omega arith) in omega arith)) in
    elim (cases_eq p q) [
      | inl same ↦ (let here : e.0 ≡ q = at ∙ same in let gone : session_of pairs q ≡ None = rw (← here) none in grind (arith, nat_tests, gone))
      | inr apart ↦ grind (arith, nat_tests, at)
    ]
session_of-remove (e ∷ pairs) (suc place) p ascends below at q =
    let rest : session_of (remove pairs place) q ≡ cond (nat_eq p q) None (session_of pairs q) = session_of-remove pairs place p (tail e pairs ascends) (omega arith) at q in
    let up : e.0 < port_at pairs place = ascends 0 (suc place) (omega arith) (omega arith) in
    grind (arith, nat_tests, rest, up, at)

module _ (pairs : List (ℕ × ℕ)) (place : ℕ) (below : place < length pairs) where
  port_at-remove-below : (i : ℕ) → i < place → port_at (remove pairs place) i ≡ port_at pairs i
  port_at-remove-below i before = ap (λ (e : ℕ × ℕ). e.0) (get_or-remove_below pairs place (0, 0) i before below)

  port_at-remove-above : (i : ℕ) → place ≤ i → port_at (remove pairs place) i ≡ port_at pairs (i + 1)
  port_at-remove-above i after = ap (λ (e : ℕ × ℕ). e.0) (get_or-remove_above pairs place (0, 0) i after below)

  shorter : length (remove pairs place) + 1 ≡ length pairs
  shorter = length-remove pairs place below

  -- A pair taken out keeps the order.
  pub ascends-remove : Ascends pairs → Ascends (remove pairs place)
  ascends-remove ascends i j less within =
      let short : length (remove pairs place) + 1 ≡ length pairs = shorter in
      elim (cases_lt j place) [
        | inl low ↦ rw (port_at-remove-below i (omega arith), port_at-remove-below j low) (ascends i j less (omega arith))
        | inr high ↦ elim (cases_lt i place) [
          | inl before ↦ rw (port_at-remove-below i before, port_at-remove-above j high) (ascends i (j + 1) (omega arith) (omega arith))
          | inr after ↦ rw (port_at-remove-above i after, port_at-remove-above j high) (ascends (i + 1) (j + 1) (omega arith) (omega arith))
        ]
      ]

  -- What holds of each port holds of those that are left.
  pub ports-remove : (P : ℕ → Type 0) → ((i : ℕ) → i < length pairs → P (port_at pairs i)) → (i : ℕ) → i < length (remove pairs place) → P (port_at (remove pairs place) i)
  ports-remove P each i within =
      let short : length (remove pairs place) + 1 ≡ length pairs = shorter in
      elim (cases_lt i place) [
        | inl low ↦ subst P (sym (port_at-remove-below i low)) (each i (omega arith))
        | inr high ↦ subst P (sym (port_at-remove-above i high)) (each (i + 1) (omega arith))
      ]

module _ (lo hi : ℕ) (words words' : List ℕ) (pairs pairs' : List (ℕ × ℕ)) (is : AreAlike lo hi words pairs) (p s place : ℕ) (inside : (lo ≤ p) × (p ≤ hi))
    (others : (i : ℕ) → i ≢ p - lo → bit_of words' i ≡ bit_of words i) (width : length words' ≡ length words) where
  -- The bits where the port is set anew, to a session or to none.
  bits-edited : (owner : Option ℕ) → bit_of words' (p - lo) ≡ cond (is_some owner) 1 0 →
      ((q : ℕ) → session_of pairs' q ≡ cond (nat_eq p q) owner (session_of pairs q)) →
      (j : ℕ) → lo + j ≤ hi → bit_of words' j ≡ cond (is_some (session_of pairs' (lo + j))) 1 0
  bits-edited owner bit edited j within =
      let sessions : session_of pairs' (lo + j) ≡ cond (nat_eq p (lo + j)) owner (session_of pairs (lo + j)) = edited (lo + j) in
      elim (cases_eq j (p - lo)) [
        | inl here ↦ (
            let at : bit_of words' j ≡ cond (is_some owner) 1 0 = ap (bit_of words') here ∙ bit in
            let port : p ≡ lo + j = omega arith in
            grind (arith, nat_tests, at, port, sessions)
            )
        | inr apart ↦ (
            let at : bit_of words' j ≡ bit_of words j = others j apart in
            let port : p ≢ lo + j = λ same. apart (omega arith) in
            let before : bit_of words j ≡ cond (is_some (session_of pairs (lo + j))) 1 0 = is.bits j within in
            grind (arith, nat_tests, at, port, sessions, before)
            )
      ]

  -- A row with a port put in is a row.
  pub is_row-put : IsPlace pairs p place → session_of pairs p ≡ None →
      bit_of words' (p - lo) ≡ 1 → pairs' ≡ insert pairs place (p, s) → AreAlike lo hi words' pairs'
  is_row-put is_place free bit edit =
      record {
        width = width ∙ is.width;
        bits = bits-edited (Some s) bit (λ q. rw edit (session_of-insert pairs p s place is.ascends is_place free q));
        ascends = rw edit (ascends-insert pairs p s place is.ascends is_place free);
        inside = rw edit (ports-insert pairs p s place is.ascends is_place free (λ q. (lo ≤ q) × (q ≤ hi)) inside is.inside);
      }

  -- A row with a port taken out is a row.
  pub is_row-take : place < length pairs → port_at pairs place ≡ p →
      bit_of words' (p - lo) ≡ 0 → pairs' ≡ remove pairs place → AreAlike lo hi words' pairs'
  is_row-take below at bit edit =
      record {
        width = width ∙ is.width;
        bits = bits-edited None bit (λ q. rw edit (session_of-remove pairs place p is.ascends below at q));
        ascends = rw edit (ascends-remove pairs place below is.ascends);
        inside = rw edit (ports-remove pairs place below (λ q. (lo ≤ q) × (q ≤ hi)) is.inside);
      }
