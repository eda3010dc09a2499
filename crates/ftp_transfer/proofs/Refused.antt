-- Outcomes that no run has.
use Rattle.std.proofs.Common.{◌≡◌, ℕ, false, List, [], ◌∷◌, Option, Some, None, inl, inr, refl, sym, ◌∙◌, arith}
use Rattle.std.specs.Prelude.{codes, ◌⊎◌}
use Rattle.std.specs.Ordering.{nat_cmp}
use Rattle.std.specs.Cmp.Lexicographic.{slice_cmp}
use Rattle.std.specs.FinMap as map
use Rattle.ftp_base.specs.declared.command.DataChanCmd.TheVariants as command
use Rattle.ftp_base.specs.declared.error_kind.ErrorKind.{ErrorKind}
use Rattle.ftp_base.specs.declared.error_kind.ErrorKind.TheVariants as kind
use Rattle.ftp_base.specs.declared.fault.LinkFault.{LinkFault}
use Rattle.ftp_base.specs.Outside.{Sending}
use Rattle.ftp_base.specs.Storage.{Files, with_file, Append, ReadAt}
use Rattle.ftp_base.specs.Storage as storage
use Rattle.ftp_base.specs.MemoryStorage.{memory_rule}
use Rattle.ftp_base.proofs.Files.{get-insert_same}
use Rattle.ftp_transfer.specs.declared.job.Job.{Job}
use Rattle.ftp_transfer.specs.declared.job.Completion.{Completion}
use Rattle.ftp_transfer.specs.declared.job.Completion.TheVariants as result
use Rattle.ftp_transfer.specs.Ran.{told, Told, Ran}
use Rattle.ftp_transfer.proofs.MemoryUploads.{memory_upload}

abbrev pub no_files : Files
no_files = map.empty

abbrev pub a : List ℕ
a = codes "/a"

abbrev pub three : List ℕ
three = 1 ∷ 2 ∷ 3 ∷ []

abbrev pub retr : Job
retr = record { ticket = record { session = 1; nr = 1 }; user = codes "ann"; command = command.Retr a; path = a; offset = 0; number = 11; done = 0 }

abbrev pub first : Sending
first = record { sent = Some []; closed = false; last_fault = None }

abbrev pub went : Sending
went = record { sent = Some three; closed = false; last_fault = None }

abbrev pub had : Files
had = with_file no_files a three

pub had-get : map.get had a ≡ Some (storage.File three)
had-get = get-insert_same no_files a (storage.File three)

-- a RETR that sent the whole file, and of whose link no read or write failed, is not told as one whose connection closed
pub close_not_told :
    Ran retr (told (Some had) (memory_rule 10) 0 None (Some []) first 0 None)
    (told (Some had) (memory_rule 10) 0 None (Some []) went 1 None)
    (record { result = result.Refused kind.ConnectionClosed; bytes = 3; fault = None }) → ⊥
close_not_told ran =
    elim ran.moves.cause [
      | inl failed ↦ cc failed.3
      | inr held ↦ elim held.1 [
        | inl local ↦ cc local.0
        | inr refused ↦ cc (rw had-get at refused)
      ]
    ]

abbrev pub stor : Job
stor = record { ticket = record { session = 1; nr = 1 }; user = codes "ann"; command = command.Stor a; path = a; offset = 0; number = 11; done = 0 }

nothing : map.get no_files a ≡ None
nothing = map.get-empty (slice_cmp nat_cmp) a

no_third : (r : Completion) → (r ≡ result.Written) ⊎ (r ≡ result.OutOfMemory) → (k : ErrorKind) → r ≡ result.Refused k → ⊥
no_third r (inl e) k is = cc (sym e ∙ is)
no_third r (inr e) k is = cc (sym e ∙ is)

-- a STOR of three bytes within 16,777,216, of which no call failed but the link's close, is not told as refused, whatever
-- is there after it
pub upload_not_refused : (new : Told) (k : ErrorKind) (bytes : ℕ) (fault : Option LinkFault) → new.storage_faults ≡ 0 → new.sending.last_fault ≡ None →
    Ran stor (told (Some no_files) (memory_rule 16777216) 0 None (Some three) first 0 None) new (record { result = result.Refused k; bytes = bytes; fault = fault }) → ⊥
upload_not_refused new k bytes fault storage link ran =
    no_third (result.Refused k)
    (memory_upload stor a 16777216 no_files three (told (Some no_files) (memory_rule 16777216) 0 None (Some three) first 0 None) new (record { result = result.Refused k; bytes = bytes; fault = fault })
    refl refl refl refl refl
    (record { other = refl; there = refl; free = rw nothing refl; within = omega arith; countable = omega arith })
    (λ rose. omega (arith, storage, rose (omega arith)))
    (λ rose met. cc (rw link at met))
    refl
    ran)
    k refl
