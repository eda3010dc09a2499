-- The marks of users in a map, as they are looked up and written.
use Rattle.std.proofs.Common.{◌≡◌, refl, sym, ◌∙◌, ap, ℕ, Bool, true, false, cond, List, [], ◌∷◌, map, Vec, Global, Option, Some, None, unwrap_or}
use Rattle.std.specs.FinMap as fin_map
use Rattle.std.specs.Option.{option_map}
use Rattle.std.specs.Map.{lookup, set_value}
use Rattle.std.specs.BTreeMap.{insert_entry}
use Rattle.std.specs.Ordering.{nat_cmp, eq_by_cmp}
use Rattle.std.specs.Cmp.Lexicographic.{slice_cmp, nat_list_cmp_total, nat_list_eq_equiv}
use Rattle.std.specs.Str.{bytes_eq}
use Rattle.std.proofs.lemmas.Map.Text.{is_eq-slice_cmp}
use Rattle.std.proofs.lemmas.Map.Made.{lookup-map_values}
use Rattle.ftp_audit.specs.declared.account.Mark.{Mark}
use Rattle.ftp_audit.specs.declared.account.Account.{Account}
use Rattle.ftp_audit.specs.Marks.{below}
use Rattle.ftp_audit.specs.Names.{ByName, named, by_name}
use Rattle.ftp_audit.specs.Users.{marks_of}
use Rattle.ftp_audit.proofs.ByName.{at_name, get-by_name, get-found, by_name-put, by_name-written}

-- accounts under their names
abbrev pub Users : Type 0
Users = List (Vec ℕ Global × Account)

-- what is looked up by bytes is what is looked up by their order
lookup-named : (users : Users) (name : List ℕ) → lookup (bytes_eq name) (named users) ≡ lookup (at_name name) users
lookup-named [] name = refl
lookup-named (e ∷ users) name =
    ap (λ (b : Bool). cond b (Some e.1) (lookup (bytes_eq name) (named users))) (sym (is_eq-slice_cmp name e.0.items))
    ∙ ap (cond (at_name name e.0) (Some e.1)) (lookup-named users name)

-- the marks of a user are those that the map by names has
marks-by_name : (users : Users) (name : List ℕ) → marks_of (named users) name ≡ unwrap_or (fin_map.get (by_name users) name) []
marks-by_name users name = ap (λ (x : Option (List Mark)). unwrap_or x []) (lookup-named users name ∙ sym (get-by_name users name))

-- what was found under a name are the marks of its user
pub marks-found :
    (users : Users) (name query : List ℕ) (x : Option (List Mark)) → query ≡ name → x ≡ lookup (at_name query) users →
    marks_of (named users) name ≡ unwrap_or x []
marks-found users name query x same found =
    marks-by_name users name ∙ ap (λ (y : Option (List Mark)). unwrap_or y []) (get-found users name query x same found)

-- what is put at a name are the marks of its user, and of no other
marks-inserted :
    (users new : Users) (user : List ℕ) (marks : List Mark) → by_name new ≡ fin_map.insert (by_name users) user marks →
    (name : List ℕ) → marks_of (named new) name ≡ cond (bytes_eq user name) marks (marks_of (named users) name)
marks-inserted users new user marks put name =
    marks-by_name new name
    ∙ ap (λ (x : Option (List Mark)). unwrap_or x []) (ap (λ (m : ByName (List Mark)). fin_map.get m name) put ∙ fin_map.get-insert nat_list_cmp_total (by_name users) user marks name)
    ∙ out (eq_by_cmp (slice_cmp nat_cmp) name user)
    ∙ ap (λ (b : Bool). cond b marks (unwrap_or (fin_map.get (by_name users) name) [])) (is_eq-slice_cmp name user ∙ nat_list_eq_equiv.symm name user)
    ∙ ap (cond (bytes_eq user name) marks) (sym (marks-by_name users name))
  where
    out : (b : Bool) → unwrap_or (cond b (Some marks) (fin_map.get (by_name users) name)) [] ≡ cond b marks (unwrap_or (fin_map.get (by_name users) name) [])
    out true = refl
    out false = refl

pub marks-written :
    (users new : Users) (user query : List ℕ) (had marks : List Mark) → query ≡ user →
    Some had ≡ lookup (at_name query) users → new ≡ set_value (at_name query) users marks →
    (name : List ℕ) → marks_of (named new) name ≡ cond (bytes_eq user name) marks (marks_of (named users) name)
marks-written users new user query had marks same found written = marks-inserted users new user marks (by_name-written users new user query had marks same found written)

pub marks-put :
    (users new : Users) (k : Vec ℕ Global) (user : List ℕ) (marks : List Mark) → k.items ≡ user →
    new ≡ insert_entry (λ x y. slice_cmp nat_cmp x.items y.items) users k marks →
    (name : List ℕ) → marks_of (named new) name ≡ cond (bytes_eq user name) marks (marks_of (named users) name)
marks-put users new k user marks same put = marks-inserted users new user marks (by_name-put users new user k marks same put)

named-map : (place : ℕ) (users : Users) → named (map (λ e. (e.0, below place e.1)) users) ≡ map (λ e. (e.0, below place e.1)) (named users)
named-map place [] = refl
named-map place (e ∷ users) = ap (λ (rest : List (List ℕ × List Mark)). (e.0.items, below place e.1) ∷ rest) (named-map place users)

-- of each user's marks those below a place are left
pub marks-below :
    (place : ℕ) (users new : Users) → new ≡ map (λ e. (e.0, below place e.1)) users →
    (name : List ℕ) → marks_of (named new) name ≡ below place (marks_of (named users) name)
marks-below place users new cut name =
    ap (λ (us : Users). marks_of (named us) name) cut
    ∙ ap (λ (us : List (List ℕ × List Mark)). marks_of us name) (named-map place users)
    ∙ ap (λ (x : Option (List Mark)). unwrap_or x []) (lookup-map_values (below place) (bytes_eq name) (named users))
    ∙ out (lookup (bytes_eq name) (named users))
  where
    out : (x : Option (List Mark)) → unwrap_or (option_map (below place) x) [] ≡ below place (unwrap_or x [])
    out None = refl
    out (Some marks) = refl
