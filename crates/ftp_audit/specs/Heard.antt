-- What the notifications of a log tell, and the audit that has heard them.
use Rattle.std.specs.Prelude.{◌≡◌, ℕ, ◌<◌, Bool, List, [], ◌∷◌, ◌++◌, length, filter_map, Option, Some, None, is_some, if◌then◌else◌}
use Rattle.std.specs.List.{list_any, AllByRecursion}
use Rattle.std.specs.Str.{bytes_eq}
use Rattle.ftp_base.specs.declared.notice.Notice.{Notice}
use Rattle.ftp_options.specs.declared.options.Options.{Options}
use Rattle.ftp_events.specs.declared.action.Action.{Action}
use Rattle.ftp_events.specs.declared.action.Action.TheVariants.{Notify}
use Rattle.ftp_events.specs.declared.entry.Entry.{Entry}
use Rattle.ftp_events.specs.Right.{IsRight, IsActed}
use Rattle.ftp_audit.specs.declared.account.Mark.{Mark}
use Rattle.ftp_audit.specs.declared.total.Total.{Total}
use Rattle.ftp_audit.specs.Totals.{nothing, plus, told}
use Rattle.ftp_audit.specs.Marks.{reached, next, total_of}
use Rattle.ftp_audit.specs.Users.{marks_of}
use Rattle.ftp_audit.specs.Sums.{is_within, sums}

-- the notification of a user that an action is
abbrev pub notice_on : List ℕ → Action → Option Notice
notice_on user (Notify session meta what) = if bytes_eq meta.username user then Some what else None
notice_on user _ = None

-- the notifications of a user among actions
abbrev pub notices_on : List ℕ → List Action → List Notice
notices_on user actions = filter_map (notice_on user) actions

-- what notifications tell together
abbrev pub told_by_all : List Notice → Total
told_by_all [] = nothing
told_by_all (what ∷ notices) = plus (told what) (told_by_all notices)

-- what the entries with places from one below another tell of a user
abbrev pub heard : List Entry → List ℕ → ℕ → ℕ → Total
heard [] user from to = nothing
heard (e ∷ log) user from to =
    plus (heard log user from to) (if is_within from to (length log) then told_by_all (notices_on user e.actions) else nothing)

-- a notification named the user
abbrev pub is_named : List Entry → List ℕ → Bool
is_named log user = list_any (λ e. list_any (λ action. is_some (notice_on user action)) e.actions) log

-- an audit as callers see it: how many entries were taken, and the running sums of each user
pub record AuditState : Type 0 where
  pub taken : ℕ
  pub users : List (List ℕ × List Mark)

-- the audit has heard the notifications of a log: what its running sums have come to below each place is what the entries
-- below it tell
pub record HasHeard (audit : AuditState) (log : List Entry) : Type 0 where
  pub taken : audit.taken ≡ length log
  pub sums : (user : List ℕ) (place : ℕ) → reached (marks_of audit.users user) place ≡ heard log user 0 place
  pub named : (user : List ℕ) → is_some (total_of (marks_of audit.users user)) ≡ is_named log user

-- the audit stands for a right and acted log
pub record Stands (o : Options) (audit : AuditState) (log : List Entry) : Type 0 where
  pub right : IsRight o log
  pub acted : IsActed o log
  pub heard : HasHeard audit log

-- both say the same of every user
pub record SameAudit (a b : AuditState) : Type 0 where
  pub taken : b.taken ≡ a.taken
  pub marks : (user : List ℕ) → marks_of b.users user ≡ marks_of a.users user

-- no mark stands at a place or above
abbrev pub Below : ℕ → List Mark → Type 0
Below place marks = AllByRecursion (λ m. m.place < place) marks

-- marks, and one more for each notification at a place
abbrev pub with_all : ℕ → List Mark → List Notice → List Mark
with_all place marks [] = marks
with_all place marks (what ∷ notices) = with_all place (marks ++ next marks place (told what) ∷ []) notices

-- all that the entries of a log add for a user whom a notification named
abbrev pub total_in : Options → List Entry → List ℕ → Option Total
total_in o log user = if is_named log user then Some (sums o log user 0 (length log)) else None
