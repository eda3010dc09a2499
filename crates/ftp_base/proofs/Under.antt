-- Where the children of a directory stand in the order of paths.
use Rattle.std.proofs.Common.{◌≡◌, ◌⊎◌, ℕ, ◌+◌, ◌-◌, ◌<◌, ◌≤◌, Bool, true, false, not, cond, List, [], ◌∷◌, ◌++◌, length, take, drop, reverse, ap, sym, refl, ◌∙◌, arith, inl, inr, ⊎_elim, zero, suc, subst, append_assoc, length-append, nat_eq}
use Rattle.std.specs.declared.cmp.Ordering.TheVariants.{Less}
use Rattle.std.specs.List.{prefix_len, suffix_len, before_last, starts_with, slice_index}
use Rattle.std.specs.Str.{bytes_eq}
use Rattle.std.proofs.lemmas.List.{reverse-append, reverse-reverse, length-reverse, take_at}
use Rattle.std.proofs.lemmas.Bool.{and_parts, not-false, eqb-true, cases_lt, false_from_ne_true}
use Rattle.std.proofs.lemmas.Bool.Decides.{Decides-eqb}
use Rattle.std.proofs.lemmas.Slice.Eq.{bytes_eq-Decides, starts_is}
use Rattle.ftp_base.specs.Storage.{root, is_slash, or_root, is_child}
use Rattle.ftp_base.specs.MemoryStorage.{front}
use Rattle.ftp_base.proofs.PathOrder.{path_cmp, UpTo, under, under-less}

-- the byte is not `/`
abbrev pub plain : ℕ → Bool
plain byte = not (is_slash byte)

prefix_len-stop : (xs : List ℕ) (y : ℕ) (ys : List ℕ) → plain y ≡ false → prefix_len plain (xs ++ y ∷ ys) ≤ length xs
prefix_len-stop [] y ys e = rw e (omega arith)
prefix_len-stop (x ∷ xs) y ys e =
    let rest = prefix_len-stop xs y ys e in
    elim (plain x) as (λ b. cond b (1 + prefix_len plain (xs ++ y ∷ ys)) 0 ≤ suc (length xs)) [ true ↦ omega arith | false ↦ omega arith ]

turned : (b r : List ℕ) (y : ℕ) → reverse (b ++ y ∷ r) ≡ reverse r ++ y ∷ reverse b
turned b r y = reverse-append b (y ∷ r) ∙ ap (λ (t : List ℕ). t ++ reverse b) (reverse-append (y ∷ []) r) ∙ append_assoc (reverse r) (y ∷ []) (reverse b)

take-past : (b ys : List ℕ) (n : ℕ) → length b ≤ n → take n (b ++ ys) ≡ b ++ take (n - length b) ys
take-past [] ys n l = let all : n ≡ n - 0 = omega arith in ap (λ (k : ℕ). take k ys) all
take-past (x ∷ b) ys zero l = absurd (omega arith)
take-past (x ∷ b) ys (suc n) l =
    let less : n - length b ≡ suc n - suc (length b) = omega arith in
    ap (λ (t : List ℕ). x ∷ t) (take-past b ys n (omega arith) ∙ ap (λ (k : ℕ). b ++ take k ys) less)

-- what stands before the last `/` begins with what stands before another
pub before_last-append : (b r : List ℕ) → (rest : List ℕ) × (before_last is_slash (b ++ 47 ∷ r) ≡ b ++ rest)
before_last-append b r =
    let n = length (b ++ 47 ∷ r) - suffix_len plain (b ++ 47 ∷ r) - 1 in
    let behind : suffix_len plain (b ++ 47 ∷ r) ≤ length (reverse r) =
    rw (turned b r 47) (prefix_len-stop (reverse r) 47 (reverse b) refl) in
    let same = length-reverse r in
    let all = length-append b (47 ∷ r) in
    let long : length b ≤ length (b ++ 47 ∷ r) - suffix_len plain (b ++ 47 ∷ r) - 1 = omega (arith, behind, same, all) in
    (take (length (b ++ 47 ∷ r) - suffix_len plain (b ++ 47 ∷ r) - 1 - length b) (47 ∷ r), take-past b (47 ∷ r) (length (b ++ 47 ∷ r) - suffix_len plain (b ++ 47 ∷ r) - 1) long)

-- a directory leads to what is under it
pub child-leads : (dir b r : List ℕ) → is_child dir (b ++ 47 ∷ r) ≡ true → starts_with nat_eq dir b ≡ true
child-leads dir b r child =
    let before = before_last-append b r in
    let lies = (and_parts _ _ child).0 in
    let same : or_root (before_last is_slash (b ++ 47 ∷ r)) ≡ dir = (bytes_eq-Decides _ dir).0 lies in
    leads b before.0 (ap or_root (sym before.1) ∙ same)
  where
    leads : (b rest : List ℕ) → or_root (b ++ rest) ≡ dir → starts_with nat_eq dir b ≡ true
    leads [] rest e = refl
    leads (x ∷ b) rest e = (starts_is Decides-eqb dir (x ∷ b) (starts_with nat_eq dir (x ∷ b)) refl).1 rest (sym e)

-- a list, cut at what ends its prefix
pub record Cut (xs : List ℕ) : Type 0 where
  pub front : List ℕ
  pub at : ℕ
  pub rest : List ℕ
  pub whole : xs ≡ front ++ at ∷ rest
  pub len : length front ≡ prefix_len plain xs
  pub slash : plain at ≡ false

cut-cons : (x : ℕ) (xs : List ℕ) → plain x ≡ true → Cut xs → Cut (x ∷ xs)
cut-cons x xs e c =
    let more : suc (length c.front) ≡ 1 + prefix_len plain xs = omega (arith, c.len) in
    record {
      front = x ∷ c.front;
      at = c.at;
      rest = c.rest;
      whole = ap (λ (t : List ℕ). x ∷ t) c.whole;
      len = more ∙ sym (ap (λ (b : Bool). cond b (1 + prefix_len plain xs) 0) e);
      slash = c.slash;
    }

cut_at : (xs : List ℕ) → prefix_len plain xs < length xs → Cut xs
cut_at [] l = absurd (omega arith)
cut_at (x ∷ xs) l =
    elim (plain x) as (λ b. plain x ≡ b → cond b (1 + prefix_len plain xs) 0 < suc (length xs) → Cut (x ∷ xs)) [
      | true ↦ λ e m. cut-cons x xs e (cut_at xs (omega arith))
      | false ↦ λ e m. record { front = []; at = x; rest = xs; whole = refl; len = sym (ap (λ (b : Bool). cond b (1 + prefix_len plain xs) 0) e); slash = e }
    ] refl l

-- a path is what stands before its last `/`, and the rest, if there is a `/`
pub before_last-cases : (q : List ℕ) → (before_last is_slash q ≡ []) ⊎ ((r : List ℕ) × (q ≡ before_last is_slash q ++ 47 ∷ r))
before_last-cases q = by (cases_lt (suffix_len plain q) (length q))
  where
    by : (suffix_len plain q < length q) ⊎ (length q ≤ suffix_len plain q) → (before_last is_slash q ≡ []) ⊎ ((r : List ℕ) × (q ≡ before_last is_slash q ++ 47 ∷ r))
    by (inr l) =
        let none : length q - suffix_len plain q - 1 ≡ 0 = omega arith in
        inl (ap (λ (n : ℕ). take n q) none)
    by (inl l) =
        let c = cut_at (reverse q) (rw (length-reverse q) l) in
        let at : c.at ≡ 47 = eqb-true c.at 47 (not-false _ c.slash) in
        let is : q ≡ reverse c.rest ++ c.at ∷ reverse c.front = sym (reverse-reverse q) ∙ ap reverse c.whole ∙ turned c.front c.rest c.at in
        let long = ap length is ∙ length-append (reverse c.rest) (c.at ∷ reverse c.front) in
        let f = length-reverse c.front in
        let n : length (reverse c.rest) ≡ length q - suffix_len plain q - 1 = omega (arith, long, f, c.len) in
        let before : before_last is_slash q ≡ reverse c.rest =
        ap (take (length q - suffix_len plain q - 1)) is ∙ take_at (reverse c.rest) (c.at ∷ reverse c.front) (length q - suffix_len plain q - 1) n in
        inr (reverse c.front, is ∙ ap (λ (t : List ℕ). t ++ c.at ∷ reverse c.front) (sym before) ∙ ap (λ (y : ℕ). before_last is_slash q ++ y ∷ reverse c.front) at)

-- a path in a directory begins as the paths there do
pub child-front : (dir q : List ℕ) → is_child dir q ≡ true → (rest : List ℕ) × (q ≡ front dir ++ rest)
child-front dir q child =
    elim (bytes_eq dir root) as (λ b. bytes_eq dir root ≡ b → (rest : List ℕ) × (q ≡ cond b [] (dir ++ root) ++ rest)) [
      | true ↦ λ e. (q, refl)
      | false ↦ λ e. by e (before_last is_slash q) refl (before_last-cases q)
    ] refl
  where
    by : bytes_eq dir root ≡ false → (b : List ℕ) → before_last is_slash q ≡ b → (before_last is_slash q ≡ []) ⊎ ((r : List ℕ) × (q ≡ before_last is_slash q ++ 47 ∷ r)) → (rest : List ℕ) × (q ≡ (dir ++ root) ++ rest)
    by other b e cases =
        let same : or_root (before_last is_slash q) ≡ dir = (bytes_eq-Decides _ dir).0 (and_parts _ _ child).0 in
        ⊎_elim (λ none. absurd (nothing (sym same ∙ ap or_root none))) (λ some. (some.0, found b e same some.0 some.1)) cases
      where
        nothing : dir ≡ root → ⊥
        nothing is = let yes : bytes_eq dir root ≡ true = rw is refl in cc (yes, other)

        found : (b : List ℕ) → before_last is_slash q ≡ b → or_root (before_last is_slash q) ≡ dir → (r : List ℕ) → q ≡ before_last is_slash q ++ 47 ∷ r → q ≡ (dir ++ root) ++ r
        found [] e same r is = absurd (nothing (sym same ∙ ap or_root e))
        found (x ∷ b) e same r is =
            let dir_is : before_last is_slash q ≡ dir = e ∙ sym (ap or_root e) ∙ same in
            is ∙ ap (λ (t : List ℕ). t ++ 47 ∷ r) dir_is ∙ sym (append_assoc dir root r)

-- a path is what stands before a place, the byte there, and the rest
pub split_at : (p : List ℕ) (at : ℕ) → at < length p → slice_index p at ≡ 47 → p ≡ take at p ++ 47 ∷ drop (suc at) p
split_at [] at l e = absurd (omega arith)
split_at (x ∷ p) zero l e = ap (λ (y : ℕ). y ∷ p) e
split_at (x ∷ p) (suc at) l e = ap (λ (t : List ℕ). x ∷ t) (split_at p at (omega arith) e)

-- past what stands aside comes a later path
pub aside-less : (p : List ℕ) (at : ℕ) → at < length p → slice_index p at ≡ 47 → path_cmp p (take at p ++ 48 ∷ []) ≡ Less
aside-less p at l e = rw (ap (λ (t : List ℕ). path_cmp t (take at p ++ 48 ∷ [])) (split_at p at l e)) (under-less (take at p) (drop (suc at) p))

-- and in what stands aside nothing lies in the directory
pub aside-none : (dir p q : List ℕ) (at : ℕ) → at < length p → slice_index p at ≡ 47 → starts_with nat_eq dir (take at p) ≡ false →
    UpTo p q → path_cmp q (take at p ++ 48 ∷ []) ≡ Less → is_child dir q ≡ false
aside-none dir p q at l e apart low high =
    let low' : UpTo (take at p ++ 47 ∷ drop (suc at) p) q = subst (λ (t : List ℕ). UpTo t q) (split_at p at l e) low in
    let is = under (take at p) (drop (suc at) p) q low' high in
    false_from_ne_true (is_child dir q) (λ child.
    let leads = child-leads dir (take at p) _ (ap (is_child dir) (sym is) ∙ child) in
    cc (leads, apart))
