-- Worked rows: a budget of ten bytes, a file of five that ann owns, and what ann and bob may do with it.
use Rattle.std.proofs.Common.{◌≡◌, ℕ, List, [], ◌∷◌, Some, None, refl, ap, ◌∙◌}
use Rattle.std.specs.Prelude.{codes}
use Rattle.std.specs.FinMap as map
use Rattle.std.specs.FinMap.Entries.{put}
use Rattle.std.specs.Ordering.{nat_cmp}
use Rattle.std.specs.Cmp.Lexicographic.{slice_cmp, nat_list_cmp_total}
use Rattle.ftp_base.specs.declared.error_kind.ErrorKind.TheVariants as kind
use Rattle.ftp_base.specs.Storage.{Item, File, with_file}
use Rattle.ftp_audit.specs.declared.quota_book.Held.{Held}
use Rattle.ftp_audit.specs.Usage.{usage}
use Rattle.ftp_audit.specs.Book.{begin_refusal, append_refusal}
use Rattle.ftp_audit.proofs.Balance.{no_entries}
use Rattle.ftp_audit.proofs.Maps.{get-insert-same}

-- ann begins her own file behind its end, which adds nothing
own_file : begin_refusal (Some (record { owner = codes "ann"; len = 5 })) (codes "ann") 5 10 5 ≡ None
own_file = refl

-- six bytes more are one too many
six_more : append_refusal (Some (record { owner = codes "ann"; len = 5 })) (codes "ann") 5 10 6 ≡ Some kind.ExceededStorageAllocationError
six_more = refl

-- five fill the budget
five_more : append_refusal (Some (record { owner = codes "ann"; len = 5 })) (codes "ann") 5 10 5 ≡ None
five_more = refl

-- bob may not begin ann's file, nor append to it
others_file : begin_refusal (Some (record { owner = codes "ann"; len = 5 })) (codes "bob") 0 10 0 ≡ Some kind.PermissionDenied
others_file = refl

others_end : append_refusal (Some (record { owner = codes "ann"; len = 5 })) (codes "bob") 0 10 1 ≡ Some kind.PermissionDenied
others_end = refl

-- nobody appends to a file that nobody owns
no_owner : append_refusal None (codes "ann") 0 10 1 ≡ Some kind.PermissionDenied
no_owner = refl

-- a file that is begun again at its front gives back what it had
front : begin_refusal (Some (record { owner = codes "ann"; len = 5 })) (codes "ann") 10 10 0 ≡ None
front = refl

-- the usage is the length of the file as it is
five_used : usage (map.insert map.empty (codes "/a.txt") (record { owner = codes "ann"; len = 5 })) (with_file map.empty (codes "/a.txt") (codes "Hello")) (codes "ann") ≡ 5
five_used =
    let owners : map.entries (map.insert (map.empty {X = Held} {R = slice_cmp nat_cmp}) (codes "/a.txt") (record { owner = codes "ann"; len = 5 })) ≡ (codes "/a.txt", record { owner = codes "ann"; len = 5 }) ∷ [] =
    map.entries-insert nat_list_cmp_total (map.empty {X = Held} {R = slice_cmp nat_cmp}) (codes "/a.txt") (record { owner = codes "ann"; len = 5 })
    ∙ ap (λ (es : List (List ℕ × Held)). put (slice_cmp nat_cmp) (codes "/a.txt") (record { owner = codes "ann"; len = 5 }) es) no_entries
    in
    rw (owners, get-insert-same (map.empty {X = Item} {R = slice_cmp nat_cmp}) (codes "/a.txt") (File (codes "Hello"))) refl
