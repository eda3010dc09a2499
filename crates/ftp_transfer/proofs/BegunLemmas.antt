-- The rule of a storage once a store began its file.
use Rattle.std.proofs.Common.{◌≡◌, inl, inr, true, zero, suc, ℕ, ◌<◌, Option, Some, None, refl, ◌∙◌, arith}
use Rattle.std.specs.Prelude.{◌⊎◌, IfSome}
use Rattle.ftp_base.specs.Storage.{BegunFile, Rule}
use Rattle.ftp_transfer.specs.declared.job.Job.{Job}
use Rattle.ftp_transfer.specs.Ran.{Told, Went, begun_by, appends_by}
use Rattle.ftp_transfer.specs.Transfer.{is_store}

-- where a piece came before, no file is begun
pub begun_by-later : (done : ℕ) (begun : BegunFile) (rule : Rule) → 0 < done → begun_by done begun rule ≡ rule
begun_by-later zero begun rule some = absurd (omega (arith, some))
begun_by-later (suc done) begun rule some = refl

-- and the rule stays
pub stays-rule : (done : ℕ) (begun : BegunFile) (old new : Rule) (P : Type 0) → 0 < done → (new ≡ begun_by done begun old) ⊎ ((new ≡ old) × P) → new ≡ old
stays-rule done begun old new P some (inl is) = is ∙ begun_by-later done begun old some
stays-rule done begun old new P some (inr is) = is.0

-- a store that moved a byte began its file, or had begun it before
pub moved-rule : (job : Job) (old mid : Told) (b : ℕ) → Went job old mid b → is_store job.command ≡ true → mid.rule ≡ appends_by job old.rule
moved-rule job old mid b went e =
    elim (went.moves.owned e) [
      | inl is ↦ is
      | inr is ↦ absurd (omega (arith, went.some, is.1.0))
    ]

-- what holds of all holds of what is there
pub IfSome_any : {A : Type 0} (o : Option A) (P : A → Type 0) → ((x : A) → P x) → IfSome o P
IfSome_any None P all = tt
IfSome_any (Some x) P all = all x
