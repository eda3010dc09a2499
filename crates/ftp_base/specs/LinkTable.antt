-- Links by number.
use Rattle.std.specs.Prelude.{◌≡◌, ℕ, Option, OnSome}
use Rattle.std.specs.Ordering.{nat_cmp}
use Rattle.std.specs.FinMap as map
use Rattle.std.specs.Borrow.{LendsSo, MutBor, Fml}
use denote.RattleType.{RattleType}
use Rattle.ftp_base.specs.contracts.link_table.LinkTable.{the_row}
use Rattle.ftp_base.specs.declared.link_table.InsertError.{InsertError}
use Rattle.ftp_base.specs.declared.link_table.InsertError.TheVariants.{Taken, OutOfMemory}

-- links by their numbers
abbrev pub Numbered : Type 0 → Type 0
Numbered L = map.FinMap nat_cmp L

-- the table ends with what is left behind the lent link at the number, and with all other links as they were; where none is lent it stays
abbrev pub LendsLink : (L : RattleType) → MutBor (Numbered L.Denot) → ℕ → Option (MutBor L.Denot) → Fml
LendsLink L table number lent =
    LendsSo (the_row L) L table lent (λ n w. OnSome lent (n ≡ map.insert table.now number w)) (λ n. n ≡ table.now)

-- the link that was not put into the table
abbrev pub link_of : {L : Type 0} → InsertError L → L
link_of (Taken link) = link
link_of (OutOfMemory link) = link
