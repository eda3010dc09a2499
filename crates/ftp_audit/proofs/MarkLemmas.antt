-- Marks, and one more.
use Rattle.std.proofs.Common.{◌≡◌, refl, sym, ◌∙◌, ap, subst, ℕ, zero, suc, ◌+◌, ◌-◌, ◌*◌, ◌≤◌, ◌<◌, ◌^◌, Bool, true, false, List, [], ◌∷◌, ◌++◌, filter, take, length, get_or, arith, Some, min, inl, inr, ◌⊎◌}
use Rattle.std.specs.Prelude.{slice_get}
use Rattle.std.specs.List.Sorted.{IsPartitionPoint}
use Rattle.std.proofs.lemmas.List.Sorted.{IsNonDecreasingBy-push, IsNonDecreasingBy-take}
use Rattle.std.proofs.lemmas.List.Elements.{All-from_recursion}
use Rattle.std.proofs.lemmas.List.{take-append-le, length-append}
use Rattle.std.proofs.Math.Seq.{take-length}
use Rattle.std.proofs.lemmas.Bool.{cases_lt}
use Rattle.ftp_audit.specs.declared.account.Mark.{Mark}
use Rattle.ftp_audit.specs.declared.total.Total.{Total}
use Rattle.ftp_audit.specs.Totals.{nothing, plus, capped}
use Rattle.ftp_audit.specs.Marks.{newest, UpTo}
use Rattle.ftp_audit.specs.Bounds.{IsWithin, AreMarks}

-- the newest of some marks and one more is the one more
pub newest-push : (sums : Total) (marks : List Mark) (m : Mark) → newest sums (marks ++ m ∷ []) ≡ m.sums
newest-push sums [] m = refl
newest-push sums (x ∷ marks) m = newest-push x.sums marks m

-- the last mark is the newest
pub newest-last : (sums : Total) (marks : List Mark) (m : Mark) → Some m ≡ slice_get marks (length marks - 1) → newest sums marks ≡ m.sums
newest-last sums [] m e = cc
newest-last sums (x ∷ []) m e = let same : m ≡ x = cc in ap (λ (y : Mark). y.sums) (sym same)
newest-last sums (x ∷ (y ∷ marks)) m e =
    let long : suc (suc (length marks)) - 1 ≡ suc (length marks) = omega arith in
    let short : length marks ≡ suc (length marks) - 1 = omega arith in
    newest-last x.sums (y ∷ marks) m (e ∙ ap (slice_get (x ∷ (y ∷ marks))) long ∙ ap (slice_get (y ∷ marks)) short)

-- what stands before the point at which a test begins to fail is what passes it
pub filter-point :
    (p : Mark → Bool) (marks : List Mark) (i : ℕ) →
    IsPartitionPoint (λ m. p m ≡ true) (λ m. p m ≡ false) marks i →
    take i marks ≡ filter p marks
filter-point p [] zero h = refl
filter-point p [] (suc i) h = refl
filter-point p (m ∷ marks) zero h =
    rw (h.1 0 m (omega arith) (omega arith)) (filter-point p marks zero (λ k d low high. absurd (omega arith), λ k d low high. h.1 (suc k) d (omega arith) (omega arith)))
filter-point p (m ∷ marks) (suc i) h =
    rw (h.0 0 m (omega arith) (omega arith)) (ap (λ (ms : List Mark). m ∷ ms) (filter-point p marks i (λ k d low high. h.0 (suc k) d (omega arith) (omega arith), λ k d low high. h.1 (suc k) d (omega arith) (omega arith))))

cases_le : (m n : ℕ) → (m ≤ n) ⊎ (n < m)
cases_le m n = elim (cases_lt n m) [ inl lt ↦ inr lt | inr le ↦ inl le ]

take-all : (n : ℕ) (marks : List Mark) → length marks ≤ n → take n marks ≡ marks
take-all zero [] le = refl
take-all zero (m ∷ marks) le = absurd (omega arith)
take-all (suc n) [] le = refl
take-all (suc n) (m ∷ marks) le = ap (λ (ms : List Mark). m ∷ ms) (take-all n marks (omega arith))

min-zero : (k : ℕ) → min zero k ≡ zero
min-zero k = omega arith

zero-min : (n : ℕ) → min (suc n) zero ≡ zero
zero-min n = omega arith

min-suc : (n k : ℕ) → min (suc n) (suc k) ≡ suc (min n k)
min-suc n k = omega arith

take-fewer : (n k : ℕ) (marks : List Mark) → take n (take k marks) ≡ take (min n k) marks
take-fewer zero k marks = rw (min-zero k) refl
take-fewer (suc n) zero marks = rw (zero-min n) refl
take-fewer (suc n) (suc k) [] = rw (min-suc n k) refl
take-fewer (suc n) (suc k) (m ∷ marks) = rw (min-suc n k) (ap (λ (ms : List Mark). m ∷ ms) (take-fewer n k marks))

-- what so many notifications can tell, more can too
pub within-more : (m n : ℕ) (t : Total) → m ≤ n → IsWithin m t → IsWithin n t
within-more m n t le h =
    let got : t.got_bytes ≤ m * (2 ^ 64 - 1) = h.got_bytes in
    let put : t.put_bytes ≤ m * (2 ^ 64 - 1) = h.put_bytes in
    record {
      got_files = omega (arith, h.got_files);
      got_bytes = omega (arith, got);
      put_files = omega (arith, h.put_files);
      put_bytes = omega (arith, put);
      logins = omega (arith, h.logins);
      logouts = omega (arith, h.logouts);
    }

-- one notification more
pub within-plus : (n : ℕ) (a b : Total) → IsWithin n a → IsWithin 1 b → IsWithin (n + 1) (plus a b)
within-plus n a b h j =
    record {
      got_files = omega (arith, h.got_files, j.got_files);
      got_bytes = omega (arith, h.got_bytes, j.got_bytes);
      put_files = omega (arith, h.put_files, j.put_files);
      put_bytes = omega (arith, h.put_bytes, j.put_bytes);
      logins = omega (arith, h.logins, j.logins);
      logouts = omega (arith, h.logouts, j.logouts);
    }

-- sums of fewer notifications than a u64 can count fit their types
pub capped-within : (n : ℕ) (t : Total) → n ≤ 2 ^ 64 - 1 → IsWithin n t → capped t ≡ t
capped-within n t le h =
    let got_files : min t.got_files (2 ^ 64 - 1) ≡ t.got_files = omega (arith, h.got_files) in
    let got_bytes : min t.got_bytes (2 ^ 128 - 1) ≡ t.got_bytes = omega (arith, h.got_bytes) in
    let put_files : min t.put_files (2 ^ 64 - 1) ≡ t.put_files = omega (arith, h.put_files) in
    let put_bytes : min t.put_bytes (2 ^ 128 - 1) ≡ t.put_bytes = omega (arith, h.put_bytes) in
    let logins : min t.logins (2 ^ 64 - 1) ≡ t.logins = omega (arith, h.logins) in
    let logouts : min t.logouts (2 ^ 64 - 1) ≡ t.logouts = omega (arith, h.logouts) in
    λ k. record { got_files = got_files k; got_bytes = got_bytes k; put_files = put_files k; put_bytes = put_bytes k; logins = logins k; logouts = logouts k }

-- all marks together have what so many notifications can tell
pub within-all : (marks : List Mark) → AreMarks marks → IsWithin (length marks) (newest nothing marks)
within-all marks h = subst (λ (ms : List Mark). IsWithin (length marks) (newest nothing ms)) (take-length marks) (h.within (length marks))

-- no mark is above a place, by place
up-to-at : (place : ℕ) (marks : List Mark) → UpTo place marks → (i : ℕ) (d : Mark) → i < length marks → (get_or marks i d).place ≤ place
up-to-at place marks h = All-from_recursion (λ (m : Mark). m.place ≤ place) marks h

-- one mark more
pub marks-push :
    (marks : List Mark) (m : Mark) → AreMarks marks → UpTo m.place marks →
    IsWithin (length marks + 1) m.sums →
    AreMarks (marks ++ m ∷ [])
marks-push marks m h up within =
    record {
      in_order = IsNonDecreasingBy-push (λ (x : Mark). x.place) marks m h.in_order (λ d some. up-to-at m.place marks up (length marks - 1) d (omega arith));
      within = λ n. elim (cases_le n (length marks)) [
        | inl le ↦ subst (λ (ms : List Mark). IsWithin n (newest nothing ms)) (sym (take-append-le n marks (m ∷ []) le)) (h.within n)
        | inr above ↦
            let all : take n (marks ++ m ∷ []) ≡ marks ++ m ∷ [] = take-all n (marks ++ m ∷ []) (omega (arith, length-append marks (m ∷ []))) in
            let last : m.sums ≡ newest nothing (take n (marks ++ m ∷ [])) = sym (ap (newest nothing) all ∙ newest-push nothing marks m) in
            subst (IsWithin n) last (within-more (length marks + 1) n m.sums (omega arith) within)
      ];
    }

-- the first of marks
pub marks-take : (k : ℕ) (marks : List Mark) → AreMarks marks → AreMarks (take k marks)
marks-take k marks h =
    record {
      in_order = IsNonDecreasingBy-take (λ (x : Mark). x.place) k marks h.in_order;
      within = λ n. subst (λ (ms : List Mark). IsWithin n (newest nothing ms)) (sym (take-fewer n k marks)) (within-more (min n k) n _ (omega arith) (h.within (min n k)));
    }
