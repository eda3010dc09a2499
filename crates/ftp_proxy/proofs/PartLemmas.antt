-- A block that is read in two parts: so many bytes, and the fields behind them.
use Rattle.std.proofs.Common.{◌≡◌, ℕ, ◌-◌, ◌≤◌, List, ◌++◌, length, Option, Result, Ok, Err, arith}
use Rattle.std.specs.Prelude.{IfSome}
use Rattle.std.proofs.lemmas.Option.{IfSome_then}
use Rattle.ftp_proxy.specs.declared.v2_error.Proxy2Error.{Proxy2Error}
use Rattle.ftp_proxy.specs.declared.v2_header.Field.{Field}
use Rattle.ftp_proxy.specs.Reading.{mapped, fields_at, ReadsAll, Reads}
use Rattle.ftp_proxy.proofs.FieldsReading.{fine}
use Rattle.ftp_proxy.proofs.ReadLemmas.{reads_then_refused, reads_then}

module _ {A : Type 0} (n len : ℕ) (now mid left : Option (List ℕ)) (x : List ℕ) (make : List ℕ → Result A Proxy2Error) (f : List Field → A) where
  -- the first bytes were read, and the fields behind them refused
  pub fields_refused : (e : Proxy2Error) → n ≤ len → IfSome now (λ l. ReadsAll n fine l (Ok x) mid) →
      (length x ≡ n → (y : List ℕ) → make (x ++ y) ≡ mapped f (fields_at (length y) n y)) →
      IfSome mid (λ l. Reads (len - n) (λ bytes. fields_at (length bytes) n bytes) l (Err e) left) → IfSome now (λ l. Reads len make l (Err e) left)
  fields_refused e le first same next =
      IfSome_then now first (λ all r. reads_then_refused n (len - n) len all x mid left (λ bytes. fields_at (length bytes) n bytes) make f e (omega arith) r same next)

  -- both were read
  pub fields_read : (fields : List Field) → n ≤ len → IfSome now (λ l. ReadsAll n fine l (Ok x) mid) →
      (length x ≡ n → (y : List ℕ) → make (x ++ y) ≡ mapped f (fields_at (length y) n y)) →
      IfSome mid (λ l. ReadsAll (len - n) (λ bytes. fields_at (length bytes) n bytes) l (Ok fields) left) → IfSome now (λ l. ReadsAll len make l (Ok (f fields)) left)
  fields_read fields le first same next =
      IfSome_then now first (λ all r. reads_then n (len - n) len all x mid left (λ bytes. fields_at (length bytes) n bytes) make f fields (omega arith) r same next)
