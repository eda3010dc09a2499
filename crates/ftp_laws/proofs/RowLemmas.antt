-- Which decisions a row can give: what holds of each of them holds of the row.
use Rattle.std.proofs.Common.{Bool, true, false, cond}
use Rattle.ftp_laws.proofs.Common.{Decision}

-- of a choice of two
pub chosen-one : (P : Decision → Type 0) (b : Bool) (x y : Decision) → P x → P y → P (cond b x y)
chosen-one P true x y h j = h
chosen-one P false x y h j = j
