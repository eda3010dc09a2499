-- Calls that are made one after the other.
use Rattle.std.proofs.Common.{◌≡◌, ℕ, ◌+◌, ◌-◌, ◌^◌, ◌==◌, ltb, true, false, List, Option, Some, None, refl, sym, ap, subst, ◌∙◌, arith, inl, inr, eq-eqb}
use Rattle.std.specs.Prelude.{Contains}
use Rattle.std.specs.List.{list_any}
use Rattle.std.proofs.lemmas.Bool.{cases_lt, lt-ltb, le-ltb, and_parts}
use Rattle.std.proofs.lemmas.List.Folds.{list_any_at}
use Rattle.ftp_base.specs.declared.fault.LinkFault.{LinkFault}
use Rattle.ftp_base.specs.Calls.{Calls, one_more, fails_next_by, after_call, after_fault, NoneFailed, LastFailed, AllWell}
use Rattle.ftp_base.specs.Memory.{LinkMet, StorageMet}

module _ {T : Type 0} (number : T → ℕ) where
  -- a list in which no call has the number has no call with it
  missing : (xs : List T) (n : ℕ) (call : T) → list_any (λ f. number f == n) xs ≡ false → Contains xs call → number call ≡ n → ⊥
  missing xs n call none listed is =
      let same : (number call == n) ≡ true = eq-eqb (number call) n is in
      let here : list_any (λ f. number f == n) xs ≡ true = list_any_at (λ f. number f == n) xs listed.0 call listed.1 (ap (λ x. number x == n) listed.2 ∙ same) in
      absurd (cc (sym here ∙ none))

  -- a call that is not listed goes well
  pub NoneFailed-call : (c : Calls T) → fails_next_by number c ≡ false → NoneFailed number c (after_call c)
  NoneFailed-call c well =
      elim (cases_lt c.made (2 ^ 64 - 1)) [
        | inl below ↦
            let next : one_more c.made ≡ c.made + 1 = rw (lt-ltb c.made (2 ^ 64 - 1) below) refl in
            let none : list_any (λ f. number f == c.made + 1) c.failing ≡ false = rw (lt-ltb c.made (2 ^ 64 - 1) below) at well in
            record {
              made = omega (arith, next);
              faults = refl;
              failing = refl;
              none = λ call listed above. omega (arith, next, above, missing c.failing (c.made + 1) call none listed);
            }
        | inr end ↦
            let next : one_more c.made ≡ c.made = rw (le-ltb c.made (2 ^ 64 - 1) end) refl in
            record {
              made = omega (arith, next);
              faults = refl;
              failing = refl;
              none = λ call listed above. omega (arith, next, above);
            }
      ]

  -- a call that is listed fails
  pub LastFailed-call : (c : Calls T) (call : T) → fails_next_by number c ≡ true → Contains c.failing call → LastFailed number c (after_fault c) call
  LastFailed-call c call fails listed =
      let parts = and_parts (ltb c.made (2 ^ 64 - 1)) (list_any (λ f. number f == one_more c.made) c.failing) fails in
      let next : one_more c.made ≡ c.made + 1 = rw parts.0 refl in
      record {
        made = omega (arith, next);
        faults = refl;
        failing = refl;
        listed = listed;
        none = λ other there above. omega (arith, next, above);
      }

  pub NoneFailed-more : (a b c : Calls T) → NoneFailed number a b → NoneFailed number b c → NoneFailed number a c
  NoneFailed-more a b c first next =
      record {
        made = omega (arith, first.made, next.made);
        faults = next.faults ∙ first.faults;
        failing = next.failing ∙ first.failing;
        none = λ call listed above.
            next.none call (subst (λ xs. Contains xs call) (sym first.failing) listed) (first.none call listed above);
      }

  pub LastFailed-more : (a b c : Calls T) (last : T) → NoneFailed number a b → LastFailed number b c last → LastFailed number a c last
  LastFailed-more a b c last first next =
      record {
        made = omega (arith, first.made, next.made);
        faults = next.faults ∙ ap one_more first.faults;
        failing = next.failing ∙ first.failing;
        listed = subst (λ xs. Contains xs last) first.failing next.listed;
        none = λ call listed above.
            next.none call (subst (λ xs. Contains xs call) (sym first.failing) listed) (first.none call listed above);
      }

  -- more calls went well, where calls are told
  pub AllWell-more : (a b c : Option (Calls T)) → AllWell number a b → AllWell number b c → AllWell number a c
  AllWell-more None b c first next = tt
  AllWell-more (Some x) None c first next = absurd first
  AllWell-more (Some x) (Some y) None first next = absurd next
  AllWell-more (Some x) (Some y) (Some z) first next = NoneFailed-more x y z first next

-- the last call of a link failed, after others that went well
pub LinkMet-more : (a b c : Option (Calls (ℕ × LinkFault))) (fault : Option LinkFault) →
    AllWell (λ (call : ℕ × LinkFault). call.0) a b → LinkMet b c fault → LinkMet a c fault
LinkMet-more None b c fault first next = tt
LinkMet-more (Some x) None c fault first next = absurd first
LinkMet-more (Some x) (Some y) None fault first next = absurd next
LinkMet-more (Some x) (Some y) (Some z) None first next = absurd next
LinkMet-more (Some x) (Some y) (Some z) (Some f) first next = LastFailed-more (λ (call : ℕ × LinkFault). call.0) x y z (z.made, f) first next

-- the last call of a storage failed, after others that went well
pub StorageMet-more : (a b c : Option (Calls ℕ)) → AllWell (λ (call : ℕ). call) a b → StorageMet b c → StorageMet a c
StorageMet-more None b c first next = tt
StorageMet-more (Some x) None c first next = absurd first
StorageMet-more (Some x) (Some y) None first next = absurd next
StorageMet-more (Some x) (Some y) (Some z) first next = LastFailed-more (λ (call : ℕ). call) x y z z.made first next
