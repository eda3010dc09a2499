-- What holds of lines and of scripts.
use Rattle.std.specs.Prelude.{◌≡◌, ℕ, List, Option}
use Rattle.ftp_text.specs.declared.setup.Item.{Item}
use Rattle.ftp_text.specs.Setup.{IsItemOf}
use Rattle.ftp_script_run.specs.Script.{IsScriptOf}

-- a line is that of at most one item
abbrev pub LineHasOneItem : Type 0
LineHasOneItem = (line : List ℕ) (i j : Item) → IsItemOf line i → IsItemOf line j → i ≡ j

-- no other items are those of the script's lines, and no other line is its first bad one
abbrev pub IsOnly : List ℕ → List Item → Option ℕ → Type 0
IsOnly bytes items bad = (others : List Item) (worse : Option ℕ) → IsScriptOf bytes others worse → (others ≡ items) × (worse ≡ bad)

-- all bytes are a script of some items, up to its end or to a first bad line, and in no other way
abbrev pub BytesAreOneScript : Type 0
BytesAreOneScript = (bytes : List ℕ) → (items : List Item) × (bad : Option ℕ) × IsScriptOf bytes items bad × IsOnly bytes items bad
