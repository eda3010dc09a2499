-- Reading an action of an entry.
use Rattle.std.specs.Prelude.{ℕ, ◌^◌, ◌==◌, ◌&&◌, ◌||◌, nat_le, nat_lt, Bool, true, false, List, [], ◌∷◌, length, take, drop, codes, Option, Some, None, if◌then◌else◌}
use Rattle.std.specs.Str.{bytes_eq}
use Rattle.std.specs.Str.Parse.{digits_value}
use Rattle.ftp_base.specs.declared.notice.DataEvent.TheVariants.{Got, Put, Deleted, MadeDir, RemovedDir, Renamed}
use Rattle.ftp_base.specs.declared.notice.Notice.{Notice}
use Rattle.ftp_base.specs.declared.notice.Notice.TheVariants as notice
use Rattle.ftp_base.specs.declared.notice.PresenceEvent.TheVariants as presence
use Rattle.ftp_base.specs.declared.reply.Reply.TheVariants as reply
use Rattle.ftp_base.specs.Reply.{code_text}
use Rattle.ftp_base.specs.Trace.{trace_text}
use Rattle.ftp_events.specs.declared.action.Action.{Action}
use Rattle.ftp_events.specs.declared.action.Action.TheVariants as action
use Rattle.ftp_text.specs.Message.{reply_codes}
use Rattle.ftp_text.specs.Reading.{◌>>=◌, Reader, pair, made, behind_text, number_field, small_field, ticket_field, text_field, word_as, word_value, worded}
use Rattle.ftp_text.specs.Printing.{delivered_text}
use Rattle.ftp_text.specs.declared.notice.NoticeWord.{NoticeWord}
use Rattle.ftp_text.specs.declared.notice.NoticeWord.TheVariants as told
use Rattle.ftp_text.specs.declared.notice.About.{About}
use Rattle.ftp_text.specs.LineWords.{ActionWord}
use Rattle.ftp_text.specs.LineWords as word

-- ---- notifications

-- the word of a notice
abbrev pub notice_word_text : NoticeWord → List ℕ
notice_word_text told.Login = codes "login"
notice_word_text told.Logout = codes "logout"
notice_word_text told.Got = codes "got"
notice_word_text told.Put = codes "put"
notice_word_text told.Deleted = codes "deleted"
notice_word_text told.MadeDir = codes "madedir"
notice_word_text told.RemovedDir = codes "removeddir"
notice_word_text told.Renamed = codes "renamed"

-- all words of notices
abbrev pub notice_words : List NoticeWord
notice_words = told.Login ∷ told.Logout ∷ told.Got ∷ told.Put ∷ told.Deleted ∷ told.MadeDir ∷ told.RemovedDir ∷ told.Renamed ∷ []

-- notices of this word tell how many bytes moved
abbrev pub has_bytes : NoticeWord → Bool
has_bytes told.Got = true
has_bytes told.Put = true
has_bytes _ = false

-- notices of this word have a path
abbrev pub has_path : NoticeWord → Bool
has_path told.Login = false
has_path told.Logout = false
has_path _ = true

-- notices of this word have two paths
abbrev pub has_two : NoticeWord → Bool
has_two told.Renamed = true
has_two _ = false

-- a notice of this word says no more than such notices say
abbrev pub suits : NoticeWord → ℕ → List ℕ → List ℕ → Bool
suits w bytes first second =
    (has_bytes w || bytes == 0) && ((has_path w || length first == 0) && (has_two w || length second == 0))

-- the notice of this word
abbrev pub notice_with : NoticeWord → ℕ → List ℕ → List ℕ → Notice
notice_with told.Login bytes first second = notice.Presence presence.LoggedIn
notice_with told.Logout bytes first second = notice.Presence presence.LoggedOut
notice_with told.Got bytes first second = notice.Data (Got first bytes)
notice_with told.Put bytes first second = notice.Data (Put first bytes)
notice_with told.Deleted bytes first second = notice.Data (Deleted first)
notice_with told.MadeDir bytes first second = notice.Data (MadeDir first)
notice_with told.RemovedDir bytes first second = notice.Data (RemovedDir first)
notice_with told.Renamed bytes first second = notice.Data (Renamed first second)

-- the trace id that a word spells
abbrev pub trace_of : List ℕ → Option ℕ
trace_of w =
    let n = digits_value 16 (drop 2 w) in
    if bytes_eq (trace_text n) w && nat_lt n (2 ^ 64) then Some n else None

-- what stands before the text, one field after the other
abbrev pub About_fields : Type 0
About_fields = ℕ × (ℕ × (ℕ × (NoticeWord × (ℕ × (ℕ × ℕ)))))

-- whom a notice is about, its word and its numbers
abbrev pub about_of : About_fields → About
about_of x =
    record {
      session = x.0;
      place = x.1.0;
      trace = x.1.1.0;
      word = x.1.1.1.0;
      bytes = x.1.1.1.1.0;
      user = x.1.1.1.1.1.0;
      path = x.1.1.1.1.1.1;
    }

-- what stands before the text of a notification
unfoldable pub about_at : Reader About
about_at =
    made about_of
    (pair number_field
    (pair number_field
    (pair (word_as trace_of)
    (pair (word_value notice_word_text notice_words) (pair number_field (pair number_field number_field))))))

-- the notification whose text is a user name and the paths, one after the other, where the lengths fit
abbrev pub told_by : About → List ℕ → Option Action
told_by a text =
    let paths = drop a.user text in
    if nat_le a.user (length text) && (nat_le a.path (length paths) && suits a.word a.bytes (take a.path paths) (drop a.path paths))
    then Some (action.Notify a.session
    (record { username = take a.user text; trace_id = record { 0 = a.trace }; sequence_number = a.place })
    (notice_with a.word a.bytes (take a.path paths) (drop a.path paths)))
    else None

-- a notification behind its word
unfoldable pub notify_at : Reader Action
notify_at bytes = do
  a ← pair about_at text_field bytes
  told ← told_by a.0.0 a.0.1
  Some (told, a.1)

-- ---- actions

-- the word of each action
abbrev pub action_word_text : ActionWord → List ℕ
action_word_text word.Completed = codes "completed"
action_word_text word.Cancelled = codes "cancelled"
action_word_text word.Close = codes "close"
action_word_text word.Notify = codes "notify"
action_word_text word.Reply = codes "reply"
action_word_text word.Start = codes "start"

-- all words of actions
abbrev pub action_words : List ActionWord
action_words = word.Completed ∷ word.Cancelled ∷ word.Close ∷ word.Notify ∷ word.Reply ∷ word.Start ∷ []

-- whether a session was told or not
abbrev pub deliveries : List Bool
deliveries = true ∷ false ∷ []

-- the end of a transfer
unfoldable pub completed_at : Reader Action
completed_at =
    made (λ x. action.Completed (record { session = x.0.0; nr = x.0.1 }) x.1) (pair ticket_field (word_value delivered_text deliveries))

-- the start of a transfer
unfoldable pub start_at : Reader Action
start_at = made (λ x. action.Start (record { session = x.0.0; nr = x.0.1 }) x.1) (pair ticket_field number_field)

-- a reply
unfoldable pub reply_at : Reader Action
reply_at =
    made (λ x. action.Reply x.0 x.1.0 (reply.CodeAndMsg x.1.1.0 x.1.1.1))
    (pair number_field (pair (small_field (2 ^ 32)) (pair (word_value code_text reply_codes) text_field)))

-- the action behind its word
abbrev pub action_behind : ActionWord → Reader Action
action_behind word.Completed = completed_at
action_behind word.Cancelled = made (λ x. action.Cancelled (record { session = x.0; nr = x.1 })) ticket_field
action_behind word.Close = made action.Close number_field
action_behind word.Notify = notify_at
action_behind word.Reply = reply_at
action_behind word.Start = start_at

-- an action, with its mark
unfoldable pub action_at : Reader Action
action_at = behind_text (codes "-") (worded action_word_text action_words action_behind)
