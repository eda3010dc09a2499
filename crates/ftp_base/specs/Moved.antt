-- Files that are moved to another path, with all that lies below it.
use Rattle.std.specs.Prelude.{ℕ, ◌==◌, ◌&&◌, not, nat_eq, Bool, List, ◌++◌, length, drop, slice_index, if◌then◌else◌}
use Rattle.std.specs.FinMap as map
use Rattle.std.specs.List.{starts_with, fold}
use Rattle.std.specs.Str.{bytes_eq}
use Rattle.ftp_base.specs.Storage.{Item, Files, listing}

-- the path lies below the directory: a slash stands behind the directory's path
abbrev pub is_below : List ℕ → List ℕ → Bool
is_below dir path = starts_with nat_eq path dir && slice_index path (length dir) == 47

-- where what stands at a path stands once another path is moved
abbrev pub moved_path : List ℕ → List ℕ → List ℕ → List ℕ
moved_path from to path =
    if bytes_eq path from then to else (if is_below from path then to ++ drop (length from) path else path)

-- the files with what stands at a path where it stands once another path is moved; what stood at its new path is gone
abbrev pub with_moved : List ℕ → List ℕ → Files → List ℕ × Item → Files
with_moved from to files entry =
    if bytes_eq entry.0 to then files else map.insert files (moved_path from to entry.0) entry.1

-- the files once what stands at a path, and all that lies below it, is moved to another path
abbrev pub moved : Files → List ℕ → List ℕ → Files
moved files from to = if bytes_eq from to then files else fold (with_moved from to) map.empty (map.entries files)

-- a directory has children
abbrev pub has_children : Files → List ℕ → Bool
has_children files dir = not (length (listing files dir) == 0)
