-- The counts of a server in the text format of Prometheus.
use Rattle.std.specs.Prelude.{ℕ, List, [], ◌∷◌, ◌++◌, codes}
use Rattle.std.specs.List.{flat_map}
use Rattle.ftp_options.specs.declared.options.Options.{Options}
use Rattle.ftp_events.specs.declared.counters.Counters.{Counters}
use Rattle.ftp_events.specs.declared.entry.Entry.{Entry}
use Rattle.ftp_events.specs.declared.status.CommandWord.{CommandWord}
use Rattle.ftp_events.specs.declared.status.CommandWord.TheVariants.{Retr, Stor, Appe, List as Lists, Nlst, Mlsd}
use Rattle.ftp_events.specs.declared.status.Status7.TheVariants as status
use Rattle.ftp_events.specs.Counts.{failure_count, opened_count, received_bytes, sent_bytes, status_count}
use Rattle.ftp_events.specs.Session.{live_count}
use Rattle.ftp_events.specs.Tallies.{of_status, of_word, saturated}
use Rattle.ftp_text.specs.Fields.{number}
use Rattle.ftp_audit.specs.declared.metrics.Count.{Count}
use Rattle.ftp_audit.specs.declared.metrics.Count.TheVariants.{Sent, Received, Ended}
use Rattle.ftp_audit.specs.Forms.{command_text}

-- the lines that say what a metric is
unfoldable pub metric_head : List ℕ → List ℕ → List ℕ → List ℕ
metric_head name kind help = codes "# HELP " ++ name ++ 32 ∷ help ++ codes "\n# TYPE " ++ name ++ 32 ∷ kind ++ 10 ∷ []

-- a metric without labels
unfoldable pub plain_metric : List ℕ → List ℕ → List ℕ → ℕ → List ℕ
plain_metric name kind help n = metric_head name kind help ++ name ++ number n ++ 10 ∷ []

-- a label with its value
unfoldable pub label_text : List ℕ → List ℕ → List ℕ
label_text name value = name ++ 61 ∷ 34 ∷ value ++ 34 ∷ []

-- the metric of a count, and its second label with the value
abbrev pub metric_name : Count → List ℕ
metric_name (Ended s) = codes "ftp_transfers_total"
metric_name count = codes "ftp_bytes_total"

abbrev pub metric_label : Count → List ℕ
metric_label (Ended s) = codes "result"
metric_label count = codes "direction"

abbrev pub label_value : Count → List ℕ
label_value Sent = codes "sent"
label_value Received = codes "received"
label_value (Ended status.Success) = codes "success"
label_value (Ended status.ClientError) = codes "client_error"
label_value (Ended status.ServerError) = codes "server_error"
label_value (Ended status.PermissionError) = codes "permission_error"
label_value (Ended status.ClientInterrupted) = codes "client_interrupted"
label_value (Ended status.NetworkError) = codes "network_error"
label_value (Ended status.UnknownError) = codes "unknown_error"

-- the line of a command for a count, with its number
unfoldable pub sample_text : (CommandWord → Count → ℕ) → CommandWord → Count → List ℕ
sample_text number_for w count =
    metric_name count ++ 123 ∷ label_text (codes "command") (command_text w)
    ++ 44 ∷ label_text (metric_label count) (label_value count) ++ 125 ∷ number (number_for w count) ++ 10 ∷ []

-- the lines of a command for each of these counts
unfoldable pub samples_of : (CommandWord → Count → ℕ) → List Count → CommandWord → List ℕ
samples_of number_for counts w = flat_map (sample_text number_for w) counts

-- the lines of each of these commands for each of these counts
unfoldable pub samples_text : (CommandWord → Count → ℕ) → List CommandWord → List Count → List ℕ
samples_text number_for words counts = flat_map (samples_of number_for counts) words

-- the commands that send
abbrev pub senders : List CommandWord
senders = Retr ∷ Lists ∷ Nlst ∷ Mlsd ∷ []

-- the commands that receive
abbrev pub receivers : List CommandWord
receivers = Stor ∷ Appe ∷ []

-- all commands that move bytes
abbrev pub movers : List CommandWord
movers = Retr ∷ Stor ∷ Appe ∷ Lists ∷ Nlst ∷ Mlsd ∷ []

-- all ends of transfers
abbrev pub all_ends : List Count
all_ends =
    Ended status.Success ∷ Ended status.ClientError ∷ Ended status.ServerError ∷ Ended status.PermissionError
    ∷ Ended status.ClientInterrupted ∷ Ended status.NetworkError ∷ Ended status.UnknownError ∷ []

-- the bytes that transfers have moved
unfoldable pub bytes_text : (CommandWord → Count → ℕ) → List ℕ
bytes_text number_for =
    metric_head (codes "ftp_bytes_total") (codes "counter") (codes "Bytes that transfers have moved.")
    ++ samples_text number_for senders (Sent ∷ []) ++ samples_text number_for receivers (Received ∷ [])

-- the transfers that have ended
unfoldable pub transfers_text : (CommandWord → Count → ℕ) → List ℕ
transfers_text number_for =
    metric_head (codes "ftp_transfers_total") (codes "counter") (codes "Transfers that have ended.") ++ samples_text number_for movers all_ends

-- the logins that failed, and those that were locked out
unfoldable pub logins_text : ℕ → ℕ → List ℕ
logins_text failures locked =
    plain_metric (codes "ftp_auth_failures_total") (codes "counter") (codes "Logins that failed.") failures
    ++ plain_metric (codes "ftp_locked_logins_total") (codes "counter") (codes "Logins that were locked out.") locked

-- the text of all metrics, with each number
abbrev pub metrics_with : ℕ → ℕ → ℕ → ℕ → (CommandWord → Count → ℕ) → List ℕ
metrics_with live opened failures locked number_for =
    plain_metric (codes "ftp_sessions") (codes "gauge") (codes "Sessions that are live.") live
    ++ plain_metric (codes "ftp_sessions_total") (codes "counter") (codes "Sessions that were opened.") opened
    ++ bytes_text number_for ++ transfers_text number_for ++ logins_text failures locked

-- the number that counters have for a command
abbrev pub number_in : Counters → CommandWord → Count → ℕ
number_in c w Sent = of_word c.sent w
number_in c w Received = of_word c.received w
number_in c w (Ended s) = of_word (of_status c.transferred s) w

-- that of counters
abbrev pub metrics_text : Counters → ℕ → List ℕ
metrics_text c locked = metrics_with c.session c.sessions_count c.auth_failures locked (number_in c)

-- the number that the entries of a log tell for a command
abbrev pub number_by : Options → List Entry → CommandWord → Count → ℕ
number_by o past w Sent = saturated (sent_bytes o past w)
number_by o past w Received = saturated (received_bytes o past w)
number_by o past w (Ended s) = saturated (status_count o past w s)

-- that of the entries of a log that were not refused
abbrev pub metrics_of : Options → List Entry → ℕ → List ℕ
metrics_of o past locked =
    metrics_with (saturated (live_count past)) (saturated (opened_count past)) (saturated (failure_count past)) locked (number_by o past)
