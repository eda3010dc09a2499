-- What an audit of a script has read and written, by the status of its run.
use Rattle.std.specs.Prelude.{◌≡◌, ℕ, ◌⊎◌, List, [], ◌++◌, Option, Some, None, IfSome}
use Rattle.std.specs.List.{flat_map}
use Rattle.ftp_base.specs.LinkTable.{Numbered}
use Rattle.ftp_base.specs.Memory.{LinkState}
use Rattle.ftp_base.specs.Outside.{Writes}
use Rattle.ftp_options.specs.declared.options.Options.{Options}
use Rattle.ftp_events.specs.declared.entry.Entry.{Entry}
use Rattle.ftp_control.specs.Writing.{WritesFront}
use Rattle.ftp_text.specs.declared.setup.Item.{Item}
use Rattle.ftp_script_run.specs.declared.text_script.ScriptReader.{ScriptReader}
use Rattle.ftp_script_run.specs.ScriptReader.{Follows, HasRead, StopsBehind}
use Rattle.ftp_script_run.specs.SetUp.{StorageState}
use Rattle.ftp_audit.specs.declared.total.Total.{Total}
use Rattle.ftp_audit.specs.Listing.{IsListing, row_line}
use Rattle.ftp_audit.specs.Heard.{AuditState, HasHeard, total_in}
use Rattle.ftp_script_run.specs.declared.run.Run.{Run}
use Rattle.ftp_script_run.specs.declared.status.Status.{Status}
use Rattle.ftp_script_run.specs.declared.status.Status.TheVariants as status
use Rattle.ftp_script_run.specs.Outcome.{bad_line, ReadsAndWrites, IsReadWhole, IsReadToBad, ScriptOutcome}
use Rattle.ftp_script_run.specs.Runs.{Keeps}

-- ---- while it goes on

-- an item was taken behind others, and the audit has heard the entries that came
abbrev pub IsNoted : Run → List Item → List Entry → AuditState → Type 0
IsNoted run items log audit = (entries : List Entry) × Keeps None run items (entries ++ log) × HasHeard audit (entries ++ log)

-- items were read and their log was heard, on the way through these bytes, where they are told
pub record Hearing (all : Option (List ℕ)) (reader : ScriptReader) (run : Run) (audit : AuditState) (buffer : List ℕ) (left : Option (List ℕ)) : Type 0 where
  pub items : List Item
  pub log : List Entry
  pub known : Follows reader items
  pub kept : Keeps None run items log
  pub heard : HasHeard audit log
  pub read : IfSome all (λ bytes. HasRead items bytes reader buffer left)

-- ---- what is written

-- a line for each user whom the notifications of the log name, in byte order of names, with the sums of what was decided
abbrev pub IsReport : Options → List Entry → List ℕ → Type 0
IsReport o log text = (rows : List (List ℕ × Total)) × IsListing (total_in o log) rows × (text ≡ flat_map row_line rows)

-- the report on the log was written, and these bytes behind it
abbrev pub Reports : Options → List Entry → List ℕ → Option (List ℕ) → Option (List ℕ) → Type 0
Reports o log behind old new = (text : List ℕ) × IsReport o log text × Writes old new (text ++ behind)

-- nothing was written, or a part from the front of the report on the log and of these bytes behind it
abbrev pub ReportsPart : Options → List Entry → List ℕ → Option (List ℕ) → Option (List ℕ) → Type 0
ReportsPart o log behind old new = (new ≡ old) ⊎ ((text : List ℕ) × IsReport o log text × WritesFront old new (text ++ behind))

-- what stands behind a report: the line that names a bad line, or nothing
abbrev pub behind_report : Option ℕ → List ℕ
behind_report (Some k) = bad_line k
behind_report None = []

-- what stands behind the report of a run that ended so
abbrev pub behind_status : Status → List ℕ
behind_status (status.BadLine k) = bad_line k
behind_status _ = []

-- ---- how it ends

-- the report on the log was written, and what stands behind that of a run that ended so
abbrev pub WritesReport : Option (List ℕ) → Option (List ℕ) → Status → Options → List Entry → Numbered LinkState → StorageState → Type 0
WritesReport old new s o log links storage = Reports o log (behind_status s) old new

-- a part of the report was written; nothing, unless all lines were read, or the source has failed
abbrev pub WritesReportPart : Type 0 → Option (List ℕ) → Option (List ℕ) → Options → List Entry → Numbered LinkState → StorageState → Option ℕ → List ℕ → Type 0
WritesReportPart failed old new o log links storage bad rest =
    ((new ≡ old) ⊎ ((rest ≡ []) ⊎ failed)) × ReportsPart o log (behind_report bad) old new

-- what was read of these bytes and what was written, by the status, where a source may have failed
abbrev pub AuditOutcome : Status → Type 0 → List ℕ → Option (List ℕ) → Option (List ℕ) → Option (List ℕ) → Type 0
AuditOutcome s failed bytes left old new = ScriptOutcome (WritesReport old new) (WritesReportPart failed old new) s bytes left

-- all bytes are a script, and are read; the report on its legal log was written, and nothing else
abbrev pub IsAudited : List ℕ → Option (List ℕ) → Option (List ℕ) → Option (List ℕ) → Type 0
IsAudited bytes left old new = ReadsAndWrites (IsReadWhole bytes left) (λ o log links storage. Reports o log [] old new)

-- line k is the first bad one; behind the lines before it at most one buffer was taken from the source; the report on the legal
-- log of these lines was written, and the line that names the bad one
abbrev pub IsAuditedTo : ℕ → List ℕ → Option (List ℕ) → Option (List ℕ) → Option (List ℕ) → Type 0
IsAuditedTo k bytes left old new = ReadsAndWrites (IsReadToBad k bytes left) (λ o log links storage. Reports o log (bad_line k) old new)

-- whole lines were read, and of the line behind them a part, at most one buffer; exactly the report on the legal log of the
-- whole lines was written
abbrev pub AuditsWhole : List ℕ → Option (List ℕ) → Option (List ℕ) → Option (List ℕ) → Type 0
AuditsWhole bytes left old new = ReadsAndWrites (λ items. StopsBehind items bytes left) (λ o log links storage. Reports o log [] old new)

-- a part from the front of the whole output was written, as a front of whole lines tells it; nothing, unless these are all
-- lines, or the source has failed
abbrev pub AuditsPart : Type 0 → List ℕ → Option (List ℕ) → Option (List ℕ) → Option (List ℕ) → Type 0
AuditsPart failed bytes left old new = AuditOutcome status.WriteFault failed bytes left old new
