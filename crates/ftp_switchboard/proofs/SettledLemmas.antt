-- What intervals by where they begin say of numbers, and what one more number makes of them.
use Rattle.std.proofs.Common.{◌≡◌, ◌≢◌, ℕ, zero, suc, ◌+◌, ◌-◌, ◌<◌, ◌≤◌, ◌^◌, Bool, true, false, cond, ◌||◌, ◌==◌, List, [], ◌∷◌, ◌++◌, length, Option, Some, None, unwrap_or, leb, refl, ap, sym, ◌∙◌, ◌⊎◌, inl, inr, arith}
use Rattle.std.specs.List.{AllByRecursion}
use Rattle.std.specs.List.Sorted.{IsStrictlySortedBy}
use Rattle.std.specs.Map.{keys_of}
use Rattle.std.specs.BTreeMap.{is_at}
use Rattle.std.specs.Ordering.{nat_cmp}
use Rattle.std.specs.declared.cmp.Ordering.TheVariants.{Less}
use Rattle.std.proofs.lemmas.Bool.{or_cases, leb-true, le-leb, and_parts, cases_lt, cases_order, false≢true, false_from_ne_true}
use Rattle.std.proofs.lemmas.Bool.Decides.{nat_tests, same_from_decides}
use Rattle.std.proofs.lemmas.Map.Keys.{sorted_head, sorted_tail}
use Rattle.ftp_switchboard.specs.declared.numbers.Interval.{Interval}
use Rattle.ftp_switchboard.specs.Used.{is_in, is_used, lo_at, hi_at, IsApart}
use Rattle.ftp_switchboard.specs.Settled.{end_at, intervals_of, BeginsWith, BeginsNoneBy, IsDisjoint, IsLastBy}

-- a number between the ends of an interval is used
pub is_used-within :
    (es : List (ℕ × ℕ)) (n lo hi : ℕ) →
    end_at es lo ≡ Some hi →
    lo ≤ n →
    n ≤ hi →
    is_used (intervals_of es) n ≡ true
is_used-within [] n lo hi ends from to = cc
is_used-within (e ∷ es) n lo hi ends from to =
    let there = λ (later : end_at es lo ≡ Some hi). is_used-within es n lo hi later from to in
    grind (arith, nat_tests, there)

-- an interval that is found among later ones begins above the ones before
lo-above :
    (es : List (ℕ × ℕ)) (below lo hi : ℕ) →
    AllByRecursion (λ key. nat_cmp below key ≡ Less) (keys_of es) →
    end_at es lo ≡ Some hi →
    below < lo
lo-above [] below lo hi above ends = cc
lo-above (e ∷ es) below lo hi above ends =
    let there = λ (later : end_at es lo ≡ Some hi). lo-above es below lo hi above.1 later in
    let first = above.0 in
    grind (arith, nat_tests, there)

-- an interval behind the first one is found in the whole
end_at-later :
    (e : ℕ × ℕ) (es : List (ℕ × ℕ)) (lo hi : ℕ) →
    IsStrictlySortedBy nat_cmp (keys_of (e ∷ es)) →
    end_at es lo ≡ Some hi →
    end_at (e ∷ es) lo ≡ Some hi
end_at-later e es lo hi sorted ends =
    let above = lo-above es e.0 lo hi (sorted_head nat_cmp e.0 (keys_of es) sorted) ends in
    grind (arith, nat_tests)

-- a used number is between the ends of an interval
pub end_at-used :
    (es : List (ℕ × ℕ)) (n : ℕ) →
    IsStrictlySortedBy nat_cmp (keys_of es) →
    is_used (intervals_of es) n ≡ true →
    (lo : ℕ) × (hi : ℕ) × (end_at es lo ≡ Some hi) × (lo ≤ n) × (n ≤ hi)
end_at-used [] n sorted used = absurd cc
end_at-used (e ∷ es) n sorted used =
    elim (or_cases (is_in (record { lo = e.0; hi = e.1 }) n) (is_used (intervals_of es) n) used) [
      | inl here ↦ (let ends = and_parts _ _ here in
          (e.0, e.1, grind (arith, nat_tests), leb-true _ _ ends.0, leb-true _ _ ends.1))
      | inr later ↦ (let found = end_at-used es n (sorted_tail nat_cmp e.0 (keys_of es) sorted) later in
          (found.0, found.1, end_at-later e es found.0 found.1 sorted found.2, found.3, found.4))
    ]

-- the interval at a place is found by where it begins
end_at-place :
    (es : List (ℕ × ℕ)) (i : ℕ) →
    IsStrictlySortedBy nat_cmp (keys_of es) →
    i < length (intervals_of es) →
    end_at es (lo_at (intervals_of es) i) ≡ Some (hi_at (intervals_of es) i)
end_at-place [] i sorted lt = absurd (omega (arith, lt))
end_at-place (e ∷ es) zero sorted lt = grind (arith, nat_tests)
end_at-place (e ∷ es) (suc i) sorted lt =
    end_at-later e es _ _ sorted
    (end_at-place es i (sorted_tail nat_cmp e.0 (keys_of es) sorted) (omega arith))

-- the intervals begin one above the other
lo_at-rises :
    (es : List (ℕ × ℕ)) (i j : ℕ) →
    IsStrictlySortedBy nat_cmp (keys_of es) →
    i < j →
    j < length (intervals_of es) →
    lo_at (intervals_of es) i < lo_at (intervals_of es) j
lo_at-rises [] i j sorted less lt = absurd (omega (arith, lt))
lo_at-rises (e ∷ es) i zero sorted less lt = absurd (omega (arith, less))
lo_at-rises (e ∷ es) zero (suc j) sorted less lt =
    lo-above es e.0 _ _ (sorted_head nat_cmp e.0 (keys_of es) sorted)
    (end_at-place es j (sorted_tail nat_cmp e.0 (keys_of es) sorted) (omega arith))
lo_at-rises (e ∷ es) (suc i) (suc j) sorted less lt =
    lo_at-rises es i j (sorted_tail nat_cmp e.0 (keys_of es) sorted) (omega arith) (omega arith)

-- intervals in order that are disjoint are apart
pub IsApart-disjoint :
    (es : List (ℕ × ℕ)) →
    IsStrictlySortedBy nat_cmp (keys_of es) →
    IsDisjoint es →
    IsApart (intervals_of es)
IsApart-disjoint es sorted disjoint = record {
  each = λ i lt. disjoint.each _ _ (end_at-place es i sorted lt);
  gaps = λ i j less lt.
      disjoint.gaps _ _ _ _ (end_at-place es i sorted (omega arith)) (end_at-place es j sorted lt)
      (lo_at-rises es i j sorted less lt);
}

-- without an interval that begins by the number it is not used
pub is_used-none :
    (es : List (ℕ × ℕ)) (n : ℕ) →
    IsStrictlySortedBy nat_cmp (keys_of es) →
    BeginsNoneBy es n →
    is_used (intervals_of es) n ≡ false
is_used-none es n sorted none = false_from_ne_true _ (λ used.
    (let found = end_at-used es n sorted used in
    let begins = none found.0 found.3 in
    let ends = found.2 in
    absurd cc))

-- whether a number is used shows at the last interval that begins by it
pub is_used-last :
    (es : List (ℕ × ℕ)) (n lo hi : ℕ) →
    IsStrictlySortedBy nat_cmp (keys_of es) →
    IsDisjoint es →
    IsLastBy es n lo hi →
    leb n hi ≡ is_used (intervals_of es) n
is_used-last es n lo hi sorted disjoint by =
    same_from_decides {P = n ≤ hi} _ _ (leb-true n hi, le-leb n hi) (there, back)
  where
    there : is_used (intervals_of es) n ≡ true → n ≤ hi
    there used =
        let found = end_at-used es n sorted used in
        let below = by.last found.0 found.1 found.3 found.2 in
        let same = λ (e : found.0 ≡ lo). ap (end_at es) e in
        let gaps = disjoint.gaps found.0 found.1 lo hi found.2 by.ends in
        let own = by.ends in
        let from = by.from in
        grind (arith, same, gaps)

    back : n ≤ hi → is_used (intervals_of es) n ≡ true
    back le = is_used-within es n lo hi by.ends by.from le

-- the interval of a number ends at it, or where the one ends that begins right above it
pub hi-above :
    (es : List (ℕ × ℕ)) (n hi : ℕ) →
    IsDisjoint es →
    hi ≡ unwrap_or (end_at es (n + 1)) n →
    ((hi ≡ n) × (end_at es (n + 1) ≡ None)) ⊎ ((n < hi) × (end_at es (n + 1) ≡ Some hi))
hi-above es n hi disjoint ends = by_above (end_at es (n + 1)) refl
  where
    by_above : (above : Option ℕ) → end_at es (n + 1) ≡ above → ((hi ≡ n) × (end_at es (n + 1) ≡ None)) ⊎ ((n < hi) × (end_at es (n + 1) ≡ Some hi))
    by_above None none = inl (ends ∙ ap (λ o. unwrap_or o n) none, none)
    by_above (Some last) some =
        let same : hi ≡ last = ends ∙ ap (λ o. unwrap_or o n) some in
        let each = disjoint.each (n + 1) last some in
        inr (omega arith, some ∙ ap Some (sym same))

-- the new intervals are the old ones and one number more, in the interval from lo to hi
pub record Widens (old new : List (ℕ × ℕ)) (n lo hi : ℕ) : Type 0 where
  pub disjoint : IsDisjoint old
  pub was_sorted : IsStrictlySortedBy nat_cmp (keys_of old)
  pub sorted : IsStrictlySortedBy nat_cmp (keys_of new)
  pub unused : is_used (intervals_of old) n ≡ false
  pub begins : BeginsWith old n lo
  pub ends : hi ≡ unwrap_or (end_at old (n + 1)) n
  pub fits : hi < 2 ^ 64
  pub after : (q : ℕ) → end_at new q ≡ cond (is_at (nat_cmp lo) q) (Some hi) (cond (is_at (nat_cmp (n + 1)) q) None (end_at old q))

-- an interval of the old ones ends below the number or begins above it
old-unused :
    (old new : List (ℕ × ℕ)) (n lo hi first last : ℕ) →
    Widens old new n lo hi →
    end_at old first ≡ Some last →
    (last < n) ⊎ (n < first)
old-unused old new n lo hi first last widens ends = elim (cases_lt last n) [
  | inl below ↦ inl below
  | inr le ↦ elim (cases_lt n first) [
    | inl above ↦ inr above
    | inr from ↦ absurd (false≢true (sym widens.unused ∙ is_used-within old n first last ends from le))
  ]
]

-- an interval of the old ones is part of the new one, or on one side of it with a number missing between
old-beside :
    (old new : List (ℕ × ℕ)) (n lo hi first last : ℕ) →
    Widens old new n lo hi →
    end_at old first ≡ Some last →
    (((first ≡ lo) ⊎ (first ≡ n + 1)) × (last ≤ hi)) ⊎ ((last + 1 < lo) ⊎ (hi + 1 < first))
old-beside old new n lo hi first last widens ends = elim (old-unused old new n lo hi first last widens ends) [
  | inl below ↦ elim (cases_lt lo n) [
    | inl joined ↦ (let own = widens.begins.joined joined in
        let same = λ (e : first ≡ lo). ap (end_at old) e in
        let before = widens.disjoint.gaps first last lo (n - 1) ends own in
        let behind = widens.disjoint.gaps lo (n - 1) first last own ends in
        let above = hi-above old n hi widens.disjoint widens.ends in
        grind (arith, same, before, behind, above))
    | inr le ↦ (let alone = widens.begins.alone (omega (arith, widens.begins.below)) first last ends in
        let from = widens.begins.below in
        inr (inl (omega (arith, widens.disjoint.each first last ends))))
  ]
  | inr above ↦ elim (hi-above old n hi widens.disjoint widens.ends) [
    | inl alone ↦ (let same = λ (e : first ≡ n + 1). ap (end_at old) e in
        grind (arith, same))
    | inr joined ↦ (let same = λ (e : first ≡ n + 1). ap (end_at old) e in
        let behind = widens.disjoint.gaps (n + 1) hi first last joined.1 ends in
        let from = widens.begins.below in
        grind (arith, same, behind))
  ]
]

-- the numbers inside the new interval are the one number more and old ones
new-inside :
    (old new : List (ℕ × ℕ)) (n lo hi q : ℕ) →
    Widens old new n lo hi →
    lo ≤ q →
    q ≤ hi →
    (n ≡ q) ⊎ (is_used (intervals_of old) q ≡ true)
new-inside old new n lo hi q widens from to = elim (cases_order n q) [
  | inl same ↦ inl same
  | inr (inl below) ↦ elim (hi-above old n hi widens.disjoint widens.ends) [
    | inl alone ↦ absurd (omega arith)
    | inr joined ↦ inr (is_used-within old q (n + 1) hi joined.1 (omega arith) to)
  ]
  | inr (inr above) ↦
      inr (is_used-within old q lo (n - 1) (widens.begins.joined (omega arith)) from (omega arith))
]

-- a new interval is that of the one number more, or an old one
new-cases :
    (old new : List (ℕ × ℕ)) (n lo hi first last : ℕ) →
    Widens old new n lo hi →
    end_at new first ≡ Some last →
    ((first ≡ lo) × (last ≡ hi)) ⊎ ((first ≢ lo) × (first ≢ n + 1) × (end_at old first ≡ Some last))
new-cases old new n lo hi first last widens ends =
    let after = widens.after first in
    grind (arith, nat_tests, after)

-- the one number more has its interval
new-own : (old new : List (ℕ × ℕ)) (n lo hi : ℕ) → Widens old new n lo hi → end_at new lo ≡ Some hi
new-own old new n lo hi widens =
    let after = widens.after lo in
    grind (arith, nat_tests, after)

-- an old interval that does not touch the number stays
new-other :
    (old new : List (ℕ × ℕ)) (n lo hi first last : ℕ) →
    Widens old new n lo hi →
    end_at old first ≡ Some last →
    (last + 1 < lo) ⊎ (hi + 1 < first) →
    end_at new first ≡ Some last
new-other old new n lo hi first last widens ends beside =
    let after = widens.after first in
    let each = widens.disjoint.each first last ends in
    let from = widens.begins.below in
    let above = hi-above old n hi widens.disjoint widens.ends in
    grind (arith, nat_tests, after, above)

-- a number is used where it is the one number more, or was used before
pub is_used-widened :
    (old new : List (ℕ × ℕ)) (n lo hi : ℕ) →
    Widens old new n lo hi →
    (q : ℕ) →
    is_used (intervals_of new) q ≡ ((n == q) || is_used (intervals_of old) q)
is_used-widened old new n lo hi widens q =
    same_from_decides {P = (n ≡ q) ⊎ (is_used (intervals_of old) q ≡ true)} _ _
    (there, back) (λ e. grind (arith, nat_tests), λ either. grind (arith, nat_tests))
  where
    own : end_at new lo ≡ Some hi
    own = new-own old new n lo hi widens

    from : lo ≤ n
    from = widens.begins.below

    to : n ≤ hi
    to = let above = hi-above old n hi widens.disjoint widens.ends in grind (arith, above)

    there : is_used (intervals_of new) q ≡ true → (n ≡ q) ⊎ (is_used (intervals_of old) q ≡ true)
    there used =
        let found = end_at-used new q widens.sorted used in
        elim (new-cases old new n lo hi found.0 found.1 widens found.2) [
          | inl ours ↦ new-inside old new n lo hi q widens (omega arith) (omega arith)
          | inr other ↦ inr (is_used-within old q found.0 found.1 other.2 found.3 found.4)
        ]

    back : (n ≡ q) ⊎ (is_used (intervals_of old) q ≡ true) → is_used (intervals_of new) q ≡ true
    back (inl same) = is_used-within new q lo hi own (omega (arith, from)) (omega (arith, to))
    back (inr used) =
        let found = end_at-used old q widens.was_sorted used in
        elim (old-beside old new n lo hi found.0 found.1 widens found.2) [
          | inl part ↦ is_used-within new q lo hi own (grind arith) (omega arith)
          | inr beside ↦ is_used-within new q found.0 found.1
              (new-other old new n lo hi found.0 found.1 widens found.2 beside) found.3 found.4
        ]

-- the new intervals are disjoint
pub IsDisjoint-widened :
    (old new : List (ℕ × ℕ)) (n lo hi : ℕ) → Widens old new n lo hi → IsDisjoint new
IsDisjoint-widened old new n lo hi widens = record {
  each = λ first last ends. elim (new-cases old new n lo hi first last widens ends) [
    | inl ours ↦ (let above = hi-above old n hi widens.disjoint widens.ends in
        let from = widens.begins.below in
        grind (arith, above))
    | inr other ↦ widens.disjoint.each first last other.2
  ];
  fits = λ first last ends. elim (new-cases old new n lo hi first last widens ends) [
    | inl ours ↦ (let fits = widens.fits in omega arith)
    | inr other ↦ widens.disjoint.fits first last other.2
  ];
  gaps = λ a b c d first second less.
      elim (new-cases old new n lo hi a b widens first) [
        | inl ours ↦ elim (new-cases old new n lo hi c d widens second) [
          | inl same ↦ absurd (omega arith)
          | inr other ↦ (let beside = old-beside old new n lo hi c d widens other.2 in
              let each = widens.disjoint.each c d other.2 in
              grind (arith, beside))
        ]
        | inr other ↦ elim (new-cases old new n lo hi c d widens second) [
          | inl ours ↦ (let beside = old-beside old new n lo hi a b widens other.2 in
              let from = widens.begins.below in
              let above = hi-above old n hi widens.disjoint widens.ends in
              grind (arith, beside, above))
          | inr another ↦ widens.disjoint.gaps a b c d other.2 another.2 less
        ]
      ];
}

-- the new intervals are the old ones, with the one from lo to hi behind them
pub record Appends (old new : List (ℕ × ℕ)) (lo hi : ℕ) : Type 0 where
  pub disjoint : IsDisjoint old
  pub was_sorted : IsStrictlySortedBy nat_cmp (keys_of old)
  pub sorted : IsStrictlySortedBy nat_cmp (keys_of new)
  pub filled : lo ≤ hi
  pub fits : hi < 2 ^ 64
  pub behind : (first last : ℕ) → end_at old first ≡ Some last → last + 1 < lo
  pub after : (q : ℕ) → end_at new q ≡ cond (is_at (nat_cmp lo) q) (Some hi) (end_at old q)

-- a new interval is the one behind, or an old one
pub appended-cases :
    (old new : List (ℕ × ℕ)) (lo hi first last : ℕ) →
    Appends old new lo hi →
    end_at new first ≡ Some last →
    ((first ≡ lo) × (last ≡ hi)) ⊎ (end_at old first ≡ Some last)
appended-cases old new lo hi first last appends ends =
    let after = appends.after first in
    grind (arith, nat_tests, after)

-- the one behind is there
appended-own : (old new : List (ℕ × ℕ)) (lo hi : ℕ) → Appends old new lo hi → end_at new lo ≡ Some hi
appended-own old new lo hi appends =
    let after = appends.after lo in
    grind (arith, nat_tests, after)

-- an old interval stays
appended-other :
    (old new : List (ℕ × ℕ)) (lo hi first last : ℕ) →
    Appends old new lo hi →
    end_at old first ≡ Some last →
    end_at new first ≡ Some last
appended-other old new lo hi first last appends ends =
    let after = appends.after first in
    let each = appends.disjoint.each first last ends in
    let behind = appends.behind first last ends in
    grind (arith, nat_tests, after)

-- a number is used where the interval behind has it, or was used before
pub is_used-appended :
    (old new : List (ℕ × ℕ)) (lo hi : ℕ) →
    Appends old new lo hi →
    (q : ℕ) →
    is_used (intervals_of new) q ≡ (is_in (record { lo = lo; hi = hi }) q || is_used (intervals_of old) q)
is_used-appended old new lo hi appends q =
    same_from_decides {P = ((lo ≤ q) × (q ≤ hi)) ⊎ (is_used (intervals_of old) q ≡ true)} _ _
    (there, back) (λ e. grind (arith, nat_tests), λ either. grind (arith, nat_tests))
  where
    there : is_used (intervals_of new) q ≡ true → ((lo ≤ q) × (q ≤ hi)) ⊎ (is_used (intervals_of old) q ≡ true)
    there used =
        let found = end_at-used new q appends.sorted used in
        elim (appended-cases old new lo hi found.0 found.1 appends found.2) [
          | inl ours ↦ inl (omega (arith, ours.0, found.3), omega (arith, ours.1, found.4))
          | inr other ↦ inr (is_used-within old q found.0 found.1 other found.3 found.4)
        ]

    back : ((lo ≤ q) × (q ≤ hi)) ⊎ (is_used (intervals_of old) q ≡ true) → is_used (intervals_of new) q ≡ true
    back (inl within) = is_used-within new q lo hi (appended-own old new lo hi appends) within.0 within.1
    back (inr used) =
        let found = end_at-used old q appends.was_sorted used in
        is_used-within new q found.0 found.1 (appended-other old new lo hi found.0 found.1 appends found.2) found.3 found.4

-- the new intervals are disjoint
pub IsDisjoint-appended :
    (old new : List (ℕ × ℕ)) (lo hi : ℕ) → Appends old new lo hi → IsDisjoint new
IsDisjoint-appended old new lo hi appends = record {
  each = λ first last ends. elim (appended-cases old new lo hi first last appends ends) [
    | inl ours ↦ omega (arith, ours.0, ours.1, appends.filled)
    | inr other ↦ appends.disjoint.each first last other
  ];
  fits = λ first last ends. elim (appended-cases old new lo hi first last appends ends) [
    | inl ours ↦ (let fits = appends.fits in omega (arith, ours.1))
    | inr other ↦ appends.disjoint.fits first last other
  ];
  gaps = λ a b c d first second less.
      elim (appended-cases old new lo hi a b appends first) [
        | inl ours ↦ elim (appended-cases old new lo hi c d appends second) [
          | inl same ↦ absurd (omega (arith, ours.0, same.0))
          | inr other ↦ (let behind = appends.behind c d other in
              let each = appends.disjoint.each c d other in
              absurd (omega (arith, ours.0)))
        ]
        | inr other ↦ elim (appended-cases old new lo hi c d appends second) [
          | inl ours ↦ (let behind = appends.behind a b other in omega (arith, ours.0))
          | inr another ↦ appends.disjoint.gaps a b c d other another less
        ]
      ];
}

-- the numbers of intervals with one more behind them
pub is_used-last-one : (xs : List Interval) (x : Interval) (q : ℕ) → is_used (xs ++ x ∷ []) q ≡ (is_in x q || is_used xs q)
is_used-last-one [] x q = refl
is_used-last-one (y ∷ xs) x q = go (is_in y q) (is_in x q) (is_used (xs ++ x ∷ []) q) (is_used xs q) (is_used-last-one xs x q)
  where
    go : (a b all rest : Bool) → all ≡ (b || rest) → (a || all) ≡ (b || (a || rest))
    go true true all rest h = refl
    go true false all rest h = refl
    go false b all rest h = h
