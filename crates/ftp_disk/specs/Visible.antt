-- Which names of a home's files clients may use and see, and where uploads stand until they came whole.
use Rattle.std.specs.Prelude.{◌≡◌, ℕ, ◌==◌, ◌||◌, ◌&&◌, not, nat_eq, Bool, false, List, [], ◌∷◌, ◌++◌, codes}
use Rattle.std.specs.List.{list_any, starts_with}
use Rattle.ftp_places.specs.Place.{Location, below_by}

-- the byte is CR or LF, which end a line
abbrev pub ends_line : ℕ → Bool
ends_line byte = byte == 13 || byte == 10

-- what the names of uploads begin with
abbrev pub upload_mark : List ℕ
upload_mark = codes ".ftp-upload-"

-- the name is an upload's, which did not come whole
abbrev pub is_upload_name : List ℕ → Bool
is_upload_name name = starts_with nat_eq name upload_mark

-- the name fits on a line, and is no upload's
abbrev pub is_visible_name : List ℕ → Bool
is_visible_name name = not (list_any ends_line name) && not (is_upload_name name)

-- an upload to a place stands in the same directory, under the name with the mark before it
pub record IsBeside (onto from : Location) : Type 0 where
  pub dir : List (List ℕ)
  pub name : List ℕ
  pub to : onto ≡ below_by onto.root (dir ++ name ∷ [])
  pub beside : from ≡ below_by onto.root (dir ++ (upload_mark ++ name) ∷ [])

-- no client comes to an upload that did not come whole by a name, whatever the name
abbrev pub UploadsAreHidden : Type 0
UploadsAreHidden = (name : List ℕ) → is_visible_name (upload_mark ++ name) ≡ false
