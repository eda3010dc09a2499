-- The numbers of a client are used in the client's part of the log where they are in the whole.
use Rattle.std.proofs.Common.{◌≡◌, refl, ap, subst, ℕ, Bool, true, false, true≢false, ◌||◌, cond, List, [], ◌∷◌, Option, Some, None, eqb-true, sym}
use Rattle.std.specs.Prelude.{Contains, option_to_list, ◌++◌}
use Rattle.std.proofs.lemmas.List.Elements.{Contains-push, Contains-append_left, Contains-append_right}
use Rattle.ftp_events.specs.Isolation.{is_own, foreign_numbers}
use Rattle.ftp_laws.proofs.Common.{IpAddr, Entry, is_number, past_of, is_refusal, is_used, new_number, client_log}
use Rattle.ftp_laws.proofs.IsolationLemmas.{is_kept, foreign-owner}

-- a number that is there is in the list of it
pub number-in : (n : Option ℕ) (m : ℕ) → is_number n m ≡ true → Contains (option_to_list n) m
number-in None m h = absurd (true≢false (sym h))
number-in (Some k) m h = subst (λ (j : ℕ). Contains (k ∷ []) j) (eqb-true k m h) (Contains-push [] k)

-- what an entry of others brought in is a foreign number
pub foreign-grows :
    (e : Entry) (log : List Entry) (a : IpAddr) (n : ℕ) →
    is_own log e a ≡ false → is_refusal e.decision ≡ false →
    is_number (new_number e.event.kind e.decision) n ≡ true →
    Contains (foreign_numbers (e ∷ log) a) n
foreign-grows e log a n o c h = rw (o, c) (Contains-append_left (option_to_list (new_number e.event.kind e.decision)) (foreign_numbers log a) n (number-in _ n h))

-- and stays one
pub foreign-stays :
    (e : Entry) (log : List Entry) (a : IpAddr) (n : ℕ) →
    Contains (foreign_numbers log a) n →
    Contains (foreign_numbers (e ∷ log) a) n
foreign-stays e log a n h = go (is_own log e a || is_refusal e.decision)
  where
    go :
        (b : Bool) →
        Contains (cond b (foreign_numbers log a) (option_to_list (new_number e.event.kind e.decision) ++ foreign_numbers log a)) n
    go true = h
    go false = Contains-append_right (option_to_list (new_number e.event.kind e.decision)) (foreign_numbers log a) n h

-- a number that nobody else brought in is used in both or in neither
pub used-alike :
    (log : List Entry) (a : IpAddr) (n : ℕ) →
    ¬ Contains (foreign_numbers log a) n →
    is_used (past_of (client_log log a)) n ≡ is_used (past_of log) n
used-alike [] a n c = refl
used-alike (e ∷ log) a n c = by_refusal (is_refusal e.decision) refl (is_kept (past_of log) e a) refl (used-alike log a n (λ h. c (foreign-stays e log a n h)))
  where
    not_new :
        is_own log e a ≡ false →
        is_refusal e.decision ≡ false → (b : Bool) →
        is_number (new_number e.event.kind e.decision) n ≡ b →
        b ≡ false
    not_new o x false y = refl
    not_new o x true y = absurd (c (foreign-grows e log a n o x y))

    by_refusal :
        (b : Bool) → is_refusal e.decision ≡ b →
        (k : Bool) → is_kept (past_of log) e a ≡ k →
        is_used (past_of (client_log log a)) n ≡ is_used (past_of log) n →
        is_used (past_of (client_log (e ∷ log) a)) n ≡ is_used (past_of (e ∷ log)) n
    by_refusal true x true y l = rw (y, x) l
    by_refusal true x false y l = rw (y, x) l
    by_refusal false x true y l = rw (y, x) (ap (λ b. is_number (new_number e.event.kind e.decision) n || b) l)
    by_refusal false x false y l =
        let old : is_number (new_number e.event.kind e.decision) n ≡ false = not_new (foreign-owner (past_of log) e a y) x (is_number (new_number e.event.kind e.decision) n) refl in
        rw (y, x, old) l
