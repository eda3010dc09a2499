-- Files put at a path, again and again.
use Rattle.std.proofs.Common.{◌≡◌, ℕ, Bool, true, false, cond, List, Option, Some, refl, sym, ap, ◌∙◌}
use Rattle.std.specs.FinMap as map
use Rattle.std.specs.Ordering.{nat_cmp, eq_by_cmp}
use Rattle.std.specs.Option.{option_and_then}
use Rattle.std.specs.Cmp.{eq_by_cmp_equiv}
use Rattle.std.specs.Cmp.Lexicographic.{slice_cmp, nat_list_cmp_total}
use Rattle.std.specs.Str.{bytes_eq}
use Rattle.ftp_base.specs.Storage.{Item, File, Directory, Files, root, bytes_of, contents, with_file}

-- only equal paths tie
pub paths_apart : map.IsAntisymmetric (slice_cmp nat_cmp)
paths_apart = map.slice_cmp-IsAntisymmetric map.nat_cmp-IsAntisymmetric

last_wins : {A : Type 0} (b : Bool) (x y z : A) → cond b x (cond b y z) ≡ cond b x z
last_wins true x y z = refl
last_wins false x y z = refl

-- what was put last stands
pub insert-insert : (files : Files) (path : List ℕ) (a b : Item) → map.insert (map.insert files path a) path b ≡ map.insert files path b
insert-insert files path a b =
    map.same_map nat_list_cmp_total paths_apart _ _ (λ q.
    map.get-insert nat_list_cmp_total (map.insert files path a) path b q
    ∙ ap (cond (eq_by_cmp (slice_cmp nat_cmp) q path) (Some b)) (map.get-insert nat_list_cmp_total files path a q)
    ∙ last_wins (eq_by_cmp (slice_cmp nat_cmp) q path) (Some b) (Some a) (map.get files q)
    ∙ sym (map.get-insert nat_list_cmp_total files path b q))

-- what was put at a path stands there
pub get-insert_same : (files : Files) (path : List ℕ) (a : Item) → map.get (map.insert files path a) path ≡ Some a
get-insert_same files path a =
    map.get-insert nat_list_cmp_total files path a path
    ∙ ap (λ (b : Bool). cond b (Some a) (map.get files path)) ((eq_by_cmp_equiv nat_list_cmp_total).refl path)

-- the last file at a path stands
pub with_file-with_file : (files : Files) (path a b : List ℕ) → with_file (with_file files path a) path b ≡ with_file files path b
with_file-with_file files path a b = insert-insert files path (File a) (File b)

only_file : (b : Bool) (bytes had : List ℕ) → option_and_then bytes_of (cond b (Some Directory) (Some (File bytes))) ≡ Some had → had ≡ bytes
only_file true bytes had e = cc
only_file false bytes had e = cc

-- a file that was put is the one that is found, if one is
pub contents-with_file : (files : Files) (path bytes had : List ℕ) → contents (with_file files path bytes) path ≡ Some had → had ≡ bytes
contents-with_file files path bytes had e =
    only_file (bytes_eq path root) bytes had
    (ap (λ (o : Option Item). option_and_then bytes_of (cond (bytes_eq path root) (Some Directory) o)) (sym (get-insert_same files path (File bytes))) ∙ e)
