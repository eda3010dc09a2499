-- The calls of an object in memory: how many were made, how many failed, and which ones fail.
use Rattle.std.specs.Prelude.{◌≡◌, ℕ, ◌+◌, ◌-◌, ◌^◌, ◌<◌, ◌≤◌, ◌==◌, ◌&&◌, nat_lt, if◌then◌else◌, Bool, true, List, [], ◌∷◌, Contains, Option, IfSome, IsSomeAnd, refl}
use Rattle.std.specs.List.{list_any, count_by}
use Rattle.std.specs.Coded.{Coded, code_by, coded×, coded_ℕ, coded_list}

-- the calls so far, how many of them failed, and the calls that fail, each with its number
pub record Calls (T : Type 0) : Type 0 where
  pub made : ℕ
  pub faults : ℕ
  pub failing : List T

-- calls are stored as their three parts
abbrev pub calls_code : {T : Type 0} → Coded T → Coded (Calls T)
calls_code {T} code =
    code_by (ℕ × (ℕ × List T)) (coded× coded_ℕ (coded× coded_ℕ (coded_list code))) (λ c. (c.made, (c.faults, c.failing)))
    (λ p. record { made = p.0; faults = p.1.0; failing = p.1.1 }) (λ _. refl)

-- one more; at its last value a count stands still
abbrev pub one_more : ℕ → ℕ
one_more n = if nat_lt n (2 ^ 64 - 1) then n + 1 else n

-- whether the call that comes next is one of those that fail; none is where the count of calls stands still
abbrev pub fails_next_by : {T : Type 0} → (T → ℕ) → Calls T → Bool
fails_next_by number c = nat_lt c.made (2 ^ 64 - 1) && list_any (λ f. number f == one_more c.made) c.failing

-- how many faults there can be in all: those counted, and the failing calls that are still to come
abbrev pub fault_limit_by : {T : Type 0} → (T → ℕ) → Calls T → ℕ
fault_limit_by number c = c.faults + count_by (λ f. nat_lt c.made (number f)) c.failing

-- the numbers rise, from above n on
abbrev pub rises_above : {T : Type 0} → (T → ℕ) → ℕ → List T → Bool
rises_above number n [] = true
rises_above number n (call ∷ calls) = nat_lt n (number call) && rises_above number (number call) calls

-- the calls after one more that went well
abbrev pub after_call : {T : Type 0} → Calls T → Calls T
after_call c = record c { made = one_more c.made }

-- the calls after one more that failed
abbrev pub after_fault : {T : Type 0} → Calls T → Calls T
after_fault c = record c { made = one_more c.made; faults = one_more c.faults }

-- calls were made, and none of them is one of those that fail
pub record NoneFailed {T : Type 0} (number : T → ℕ) (old new : Calls T) : Type 0 where
  pub made : old.made ≤ new.made
  pub faults : new.faults ≡ old.faults
  pub failing : new.failing ≡ old.failing
  pub none : (call : T) → Contains old.failing call → old.made < number call → new.made < number call

-- calls were made, the last of them is one of those that fail, this one, and none before it
pub record LastFailed {T : Type 0} (number : T → ℕ) (old new : Calls T) (last : T) : Type 0 where
  pub made : old.made < new.made
  pub faults : new.faults ≡ one_more old.faults
  pub failing : new.failing ≡ old.failing
  pub listed : Contains old.failing last
  pub none : (call : T) → Contains old.failing call → old.made < number call → new.made ≤ number call

-- all went well, where calls are told
abbrev pub AllWell : {T : Type 0} → (T → ℕ) → Option (Calls T) → Option (Calls T) → Type 0
AllWell number old new = IfSome old (λ c. IsSomeAnd new (NoneFailed number c))

-- one more call was made, where calls are told
abbrev pub OneMore : {T : Type 0} → Option (Calls T) → Option (Calls T) → Type 0
OneMore old new = IfSome old (λ c. IsSomeAnd new (λ d. d.made ≡ one_more c.made))
