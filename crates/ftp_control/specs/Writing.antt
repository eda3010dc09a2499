-- What a sink has of a text of which only a part was written.
use Rattle.std.specs.Prelude.{◌≡◌, ℕ, ◌≤◌, List, ◌++◌, length, take, Option, Some, IfSome}

-- so many bytes from the front were written behind what was there, where that is told
abbrev pub WritesFront : Option (List ℕ) → Option (List ℕ) → List ℕ → Type 0
WritesFront old new bytes = IfSome old (λ written. (n : ℕ) × (n ≤ length bytes) × (new ≡ Some (written ++ take n bytes)))
