-- What a session is told of a turn.
use Rattle.std.specs.Prelude.{◌≡◌, Result, Ok, Err}
use Rattle.ftp_hub.specs.declared.prepare.PrepareError.{PrepareError as AppendError}
use Rattle.ftp_shared.specs.declared.desk.Told.{Told}
use Rattle.ftp_shared.specs.declared.receipt.Turn.{Turn}

-- the entry, and what came to the session before it
abbrev pub telling_of : Turn → Told
telling_of t = record { earlier = t.earlier; entry = t.submitted.receipt.entry }

-- a turn is told; an error is handed on
abbrev pub IsTelling : Result Turn AppendError → Result Told AppendError → Type 0
IsTelling (Ok t) told = told ≡ Ok (telling_of t)
IsTelling (Err e) told = told ≡ Err e
