-- The live sessions stand in order of their numbers, each once.
use Rattle.std.proofs.Common.{◌≡◌, refl, sym, ◌∙◌, ap, ap₂, ℕ, ◌<◌, Bool, true, false, true≢false, ◌&&◌, ◌||◌, cond, List, [], ◌∷◌, Option, Some, None, arith, eqb-true, eq-eqb}
use Rattle.std.specs.Prelude.{◌==◌, filter, is_some, nat_lt, unwrap_or}
use Rattle.std.specs.Bool.{then_some}
use Rattle.std.specs.List.{AllByRecursion}
use Rattle.std.specs.Option.{option_map_or}
use Rattle.std.proofs.lemmas.Bool.{ltb-true, or_parts, or_left, or_right}
use Rattle.std.proofs.lemmas.Bool.Decides.{nat_tests}
use Rattle.ftp_events.specs.Session.{in_order, opened_sessions, live_sessions}
use Rattle.ftp_laws.proofs.Common.{Options, Entry, Opening, Session, is_number, is_used, new_number, past_of, opened_number, opening_by, opener, session, IsRight}
use Rattle.ftp_laws.specs.Census.{IsAscending, has}
use Rattle.ftp_laws.proofs.DecisionLemmas.{opened-unused}
use Rattle.ftp_laws.proofs.QuestionLemmas.{session-told}
use Rattle.ftp_laws.proofs.HoldLemmas.{opened-new}
use Rattle.ftp_laws.proofs.EntryLemmas.{Comes, right-past}
use Rattle.ftp_laws.proofs.Cases.{by_test}

-- what is below a number is below all that are above that
below-wider : (x y : ℕ) (xs : List ℕ) → x < y → AllByRecursion (λ m. y < m) xs → AllByRecursion (λ m. x < m) xs
below-wider x y [] h all = tt
below-wider x y (z ∷ zs) h all = (omega (arith, h, all.0), below-wider x y zs h all.1)

-- what is above all of a list does not stand in it
pub above-lacks : (x s : ℕ) (xs : List ℕ) → (x == s) ≡ true → AllByRecursion (λ m. x < m) xs → has xs s ≡ false
above-lacks x s [] e all = refl
above-lacks x s (z ∷ zs) e all =
    let same : x ≡ s = eqb-true x s e in
    let other : (z == s) ≡ false = by_test (z == s) (λ t. absurd (omega (arith, all.0, same, eqb-true z s t))) (λ t. t) in
    rw (other, above-lacks x s zs e all.1) refl

-- a number put in its place stands there, with all others
in_order-has : (s q : ℕ) (xs : List ℕ) → has (in_order s xs) q ≡ ((s == q) || has xs q)
in_order-has s q [] = refl
in_order-has s q (x ∷ xs) = go (nat_lt s x) (in_order-has s q xs)
  where
    swapped : (a b c : Bool) → (a || (b || c)) ≡ (b || (a || c))
    swapped true true c = refl
    swapped true false c = refl
    swapped false b c = refl

    go :
        (b : Bool) → has (in_order s xs) q ≡ ((s == q) || has xs q) →
        has (cond b (s ∷ x ∷ xs) (x ∷ in_order s xs)) q ≡ ((s == q) || has (x ∷ xs) q)
    go true ih = refl
    go false ih = ap (λ b. (x == q) || b) ih ∙ swapped (x == q) (s == q) (has xs q)

-- a list stays above a number, where one above it is put in its place
in_order-above :
    (x s : ℕ) (xs : List ℕ) → x < s →
    AllByRecursion (λ m. x < m) xs → AllByRecursion (λ m. x < m) (in_order s xs)
in_order-above x s [] h all = (h, tt)
in_order-above x s (z ∷ zs) h all = go (nat_lt s z) (in_order-above x s zs h all.1)
  where
    go :
        (b : Bool) → AllByRecursion (λ m. x < m) (in_order s zs) →
        AllByRecursion (λ m. x < m) (cond b (s ∷ z ∷ zs) (z ∷ in_order s zs))
    go true ih = (h, all)
    go false ih = (all.0, ih)

-- an ascending list stays so, where a number that it lacks is put in its place
in_order-ascending : (s : ℕ) (xs : List ℕ) → has xs s ≡ false → IsAscending xs → IsAscending (in_order s xs)
in_order-ascending s [] n a = (tt, tt)
in_order-ascending s (x ∷ xs) n a = go (nat_lt s x) refl (in_order-ascending s xs (or_parts (x == s) (has xs s) n).1 a.1)
  where
    parts : ((x == s) ≡ false) × (has xs s ≡ false)
    parts = or_parts (x == s) (has xs s) n

    go :
        (b : Bool) →
        nat_lt s x ≡ b →
        IsAscending (in_order s xs) →
        IsAscending (cond b (s ∷ x ∷ xs) (x ∷ in_order s xs))
    go true y ih = let h : s < x = ltb-true s x y in ((h, below-wider s x xs h a.0), a)
    go false y ih =
        let h : x < s = grind (arith, nat_tests) in
        (in_order-above x s xs h a.0, ih)

-- what passes a test stands in order too
filter-above :
    (x : ℕ) (p : ℕ → Bool) (xs : List ℕ) → AllByRecursion (λ m. x < m) xs → AllByRecursion (λ m. x < m) (filter p xs)
filter-above x p [] all = tt
filter-above x p (z ∷ zs) all = go (p z) (filter-above x p zs all.1)
  where
    go :
        (b : Bool) → AllByRecursion (λ m. x < m) (filter p zs) →
        AllByRecursion (λ m. x < m) (cond b (z ∷ filter p zs) (filter p zs))
    go true ih = (all.0, ih)
    go false ih = ih

filter-ascending : (p : ℕ → Bool) (xs : List ℕ) → IsAscending xs → IsAscending (filter p xs)
filter-ascending p [] a = tt
filter-ascending p (x ∷ xs) a = go (p x) (filter-ascending p xs a.1)
  where
    go : (b : Bool) → IsAscending (filter p xs) → IsAscending (cond b (x ∷ filter p xs) (filter p xs))
    go true ih = (filter-above x p xs a.0, ih)
    go false ih = ih

-- of what passes a test those stand there that stood there and pass it
filter-has : (p : ℕ → Bool) (s : ℕ) (xs : List ℕ) → has (filter p xs) s ≡ (p s && has xs s)
filter-has p s [] = go (p s)
  where
    go : (b : Bool) → false ≡ (b && false)
    go true = refl
    go false = refl
filter-has p s (x ∷ xs) = go (p x) (x == s) refl refl (filter-has p s xs)
  where
    go :
        (b c : Bool) → p x ≡ b → (x == s) ≡ c →
        has (filter p xs) s ≡ (p s && has xs s) →
        has (cond b (x ∷ filter p xs) (filter p xs)) s ≡ (p s && (c || has xs s))
    go b true y z ih =
        let passes : p s ≡ b = ap p (sym (eqb-true x s z)) ∙ y in
        here b passes
      where
        here : (b : Bool) → p s ≡ b → has (cond b (x ∷ filter p xs) (filter p xs)) s ≡ (p s && true)
        here true y = rw (z, y) refl
        here false y = ih ∙ rw y refl
    go true false y z ih = rw z ih
    go false false y z ih = ih

-- the sessions after an entry that were opened: the one that it opens, and those before
opened-more :
    (e : Entry) (past : List Entry) (s : ℕ) →
    has (opened_sessions (e ∷ past)) s ≡ (is_number (opened_number e.event.kind e.decision) s || has (opened_sessions past) s)
opened-more e past s = go (opened_number e.event.kind e.decision)
  where
    go :
        (n : Option ℕ) →
        has (option_map_or (λ s. in_order s (opened_sessions past)) n (opened_sessions past)) s ≡ (is_number n s || has (opened_sessions past) s)
    go None = refl
    go (Some n) = in_order-has n s (opened_sessions past)

-- a session that was opened has a number that was used
opened-used : (past : List Entry) (s : ℕ) → has (opened_sessions past) s ≡ true → is_used past s ≡ true
opened-used [] s h = cc
opened-used (e ∷ past) s h =
    by_test (is_number (opened_number e.event.kind e.decision) s)
    (λ n. or_left _ (is_used past s) (opened-new e.event.kind e.decision s n))
    (λ n.
    let before : has (opened_sessions past) s ≡ true = sym (ap (λ b. b || has (opened_sessions past) s) n) ∙ (sym (opened-more e past s) ∙ h) in
    or_right (is_number (new_number e.event.kind e.decision) s) (is_used past s) (opened-used past s before))

-- how a session came was told by its opening
opener-opened :
    (past : List Entry) (s : ℕ) (opening : Opening) →
    opener past s ≡ Some opening →
    has (opened_sessions past) s ≡ true
opener-opened [] s opening h = cc
opener-opened (e ∷ past) s opening h =
    opened-more e past s ∙ go (is_number (opened_number e.event.kind e.decision) s) h (λ x. opener-opened past s opening x)
  where
    go :
        (b : Bool) → unwrap_or (then_some b (opening_by e.event.kind e.answer)) (opener past s) ≡ Some opening →
        (opener past s ≡ Some opening → has (opened_sessions past) s ≡ true) →
        (b || has (opened_sessions past) s) ≡ true
    go true x ih = refl
    go false x ih = ih x

-- in every right log the sessions that were opened ascend
opened-ascending :
    (o : Options) (log : List Entry) →
    IsRight o log →
    IsAscending (opened_sessions (past_of log))
opened-ascending o log r = right-past o (λ past. IsAscending (opened_sessions past)) tt step log r
  where
    step :
        (log : List Entry) (e : Entry) → Comes o log e →
        IsAscending (opened_sessions (past_of log)) → IsAscending (opened_sessions (e ∷ past_of log))
    step log e comes before = go (opened_number e.event.kind e.decision) refl
      where
        past : List Entry
        past = past_of log

        go :
            (n : Option ℕ) → opened_number e.event.kind e.decision ≡ n →
            IsAscending (option_map_or (λ s. in_order s (opened_sessions past)) n (opened_sessions past))
        go None x = before
        go (Some s) x =
            let unused : is_used past s ≡ false =
            opened-unused o past e.event.at e.event.kind e.answer s (ap (opened_number e.event.kind) (sym comes.fit) ∙ x) in
            in_order-ascending s (opened_sessions past)
            (by_test (has (opened_sessions past) s) (λ h. absurd (true≢false (sym (opened-used past s h) ∙ unused))) (λ h. h)) before

-- so in every right log the live sessions ascend
pub live_sessions-ascending :
    (o : Options) (log : List Entry) →
    IsRight o log →
    IsAscending (live_sessions o (past_of log))
live_sessions-ascending o log r =
    filter-ascending (λ s. is_some (session o (past_of log) s)) (opened_sessions (past_of log)) (opened-ascending o log r)

-- and a session stands among them where it is live
pub live_sessions-has :
    (o : Options) (past : List Entry) (s : ℕ) →
    has (live_sessions o past) s ≡ is_some (session o past s)
live_sessions-has o past s = filter-has (λ q. is_some (session o past q)) s (opened_sessions past) ∙ go (session o past s) refl
  where
    go : (v : Option Session) → session o past s ≡ v → (is_some v && has (opened_sessions past) s) ≡ is_some v
    go None x = refl
    go (Some v) x = opener-opened past s v.opening (session-told o past s v x).opening

-- what is below all of a list is not above one of them
first-smaller : (x y : ℕ) (xs : List ℕ) → AllByRecursion (λ m. x < m) xs → has (x ∷ xs) y ≡ true → (y < x → ⊥)
first-smaller x y xs all h less =
    by_test (x == y) (λ t. absurd (omega (arith, less, eqb-true x y t)))
    (λ t. later xs all (sym (ap (λ b. b || has xs y) t) ∙ h))
  where
    later : (xs : List ℕ) → AllByRecursion (λ m. x < m) xs → has xs y ≡ true → ⊥
    later [] all h = cc
    later (z ∷ zs) all h =
        by_test (z == y) (λ t. absurd (omega (arith, less, all.0, eqb-true z y t)))
        (λ t. later zs all.1 (sym (ap (λ b. b || has zs y) t) ∙ h))

-- ascending lists of the same numbers are the same
pub ascending-same :
    (xs ys : List ℕ) → IsAscending xs → IsAscending ys →
    ((s : ℕ) → has xs s ≡ has ys s) → xs ≡ ys
ascending-same [] [] a b same = refl
ascending-same [] (y ∷ ys) a b same = let z : false ≡ true = same y ∙ ap (λ t. t || has ys y) (eq-eqb y y refl) in cc
ascending-same (x ∷ xs) [] a b same = let z : true ≡ false = sym (ap (λ t. t || has xs x) (eq-eqb x x refl)) ∙ same x in cc
ascending-same (x ∷ xs) (y ∷ ys) a b same = ap₂ (λ (n : ℕ) (ns : List ℕ). n ∷ ns) first (ascending-same xs ys a.1 b.1 rest)
  where
    first : x ≡ y
    first =
        let x_there : has (y ∷ ys) x ≡ true = sym (same x) ∙ ap (λ t. t || has xs x) (eq-eqb x x refl) in
        let y_there : has (x ∷ xs) y ≡ true = same y ∙ ap (λ t. t || has ys y) (eq-eqb y y refl) in
        by_test (x == y) (λ t. eqb-true x y t)
        (λ t.
        by_test (nat_lt x y) (λ l. absurd (first-smaller y x ys b.0 x_there (ltb-true x y l)))
        (λ l. absurd (first-smaller x y xs a.0 y_there (grind (arith, nat_tests)))))

    rest : (s : ℕ) → has xs s ≡ has ys s
    rest s =
        by_test (x == s)
        (λ t. above-lacks x s xs t a.0 ∙ sym (above-lacks y s ys (ap (λ m. m == s) (sym first) ∙ t) b.0))
        (λ t.
        let off : (y == s) ≡ false = ap (λ m. m == s) (sym first) ∙ t in
        sym (ap (λ b. b || has xs s) t) ∙ (same s ∙ ap (λ b. b || has ys s) off))
