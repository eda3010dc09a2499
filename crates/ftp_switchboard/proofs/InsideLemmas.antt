-- What contracts see of a board, and what its parts say.
use Rattle.std.proofs.Common.{◌≡◌, ℕ, ◌<◌, Bool, true, false, cond, Option, Some, None, is_some, refl, sym, ap, subst, ◌∙◌, arith, inl, inr}
use Rattle.std.specs.FinMap as finmap
use Rattle.std.proofs.lemmas.Bool.{cases_Bool}
use Rattle.std.proofs.lemmas.Bool.Decides.{nat_tests}
use Rattle.ftp_base.specs.Ports.{first_free}
use Rattle.ftp_switchboard.specs.declared.ports.Range.{Range}
use Rattle.ftp_switchboard.specs.declared.row.Row.{Row}
use Rattle.ftp_switchboard.specs.Board.{Board, HasRoom, holder_at, is_key, key, still_holder}
use Rattle.ftp_switchboard.specs.Inside.{IsInside}
use Rattle.ftp_switchboard.specs.Rows.{AreInOrder, Rows, held_by, holder_in, places_in, room_of}
use Rattle.ftp_switchboard.proofs.TableLemmas.{get-held, in_order, places-are}

-- what contracts see of the parts
abbrev pub board_of : Range → Rows → Option Row → Board
board_of range rows row = record { lo = range.lo; hi = range.hi; held = held_by rows; room = room_of rows row }

module _ (range : Range) (rows : Rows) (row : Option Row) (is : IsInside range rows row) where
  -- The rows are in order.
  pub order-is : AreInOrder rows
  order-is = in_order range.lo range.hi rows is.from_one is.in_range is.below is.rows

  module _ (board : Board) (view : board_of range rows row ≡ board) where
    -- Who holds a port in the table holds it on the board.
    pub holder-is : (a p : ℕ) → holder_in rows a p ≡ holder_at board a p
    holder-is a p = sym (get-held rows is.rows.unique a p) ∙ ap (λ (b : Board). holder_at b a p) view

    -- The first port that is free in the table is that of the board.
    pub first_free-board : (source word : ℕ) → first_free (holder_in rows source) range.lo range.hi word ≡ first_free (holder_at board source) board.lo board.hi word
    first_free-board source word =
        let seen : (λ p. finmap.get (held_by rows) (key source p)) ≡ holder_in rows source = λ i p. get-held rows is.rows.unique source p i in
        ap (λ h. first_free h range.lo range.hi word) (sym seen)
        ∙ ap (λ (b : Board). first_free (holder_at b source) b.lo b.hi word) view

    -- There is room in the table where there is room on the board.
    pub room-is : (a : ℕ) → HasRoom board a → 0 < places_in rows row a
    room-is a some = subst (λ n. 0 < n) (places-are rows row a) (subst (λ (b : Board). HasRoom b a) (sym view) some)

-- Room in the table is room on the board.
pub room-seen : (range : Range) (rows : Rows) (row : Option Row) (a : ℕ) → 0 < places_in rows row a → HasRoom (board_of range rows row) a
room-seen range rows row a some = subst (λ n. 0 < n) (sym (places-are rows row a)) some

-- Who is put in holds, and the present port is given up after that.
pub reserved : (here : Bool) (source : ℕ) (present : Option ℕ) (session a p : ℕ) (before : Option ℕ) →
    cond here (cond here (Some session) before) (still_holder source present session a p (cond here (Some session) before)) ≡ cond here (Some session) (still_holder source present session a p before)
reserved true source present session a p before = refl
reserved false source present session a p before = refl

-- A key that nobody holds is as it was once nobody holds it.
pub absent-same : (rows : Rows) (b q : ℕ) → holder_in rows b q ≡ None → (a p : ℕ) → holder_in rows a p ≡ cond (is_key a p b q) None (holder_in rows a p)
absent-same rows b q none a p =
    elim (cases_Bool (is_key a p b q)) [
      | inl same ↦ (
          let sources : a ≡ b = grind (arith, nat_tests) in
          let ports : p ≡ q = grind (arith, nat_tests) in
          (λ i. holder_in rows (sources i) (ports i)) ∙ none ∙ sym (ap (λ t. cond t None (holder_in rows a p)) same)
          )
      | inr other ↦ sym (ap (λ t. cond t None (holder_in rows a p)) other)
    ]

-- Nobody holds what has no holder.
pub none-is : (o : Option ℕ) → is_some o ≡ false → o ≡ None
none-is None is = refl
none-is (Some s) is = cc
