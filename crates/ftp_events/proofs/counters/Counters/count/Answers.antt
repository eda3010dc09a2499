use Rattle.std.proofs.Common.{◌≡◌, ℕ, ◌+◌, Bool, ◌∷◌, ap, sym, subst, ◌∙◌, get_or}
use Rattle.std.specs.Option.{option_map_or}
use Rattle.ftp_transfer.specs.declared.job.Completion.{Completion}
use Rattle.ftp_transfer.specs.declared.job.Outcome.{Outcome}
use Rattle.ftp_events.specs.declared.counters.Counters.{Counters}
use Rattle.ftp_events.specs.declared.status.Ended.{Ended}
use Rattle.ftp_events.specs.declared.tallies.Files.{Files}
use Rattle.ftp_events.specs.Session.{live_count}
use Rattle.ftp_events.specs.Tallies.{saturated, of_word, of_status}
use Rattle.ftp_events.specs.Counts.{FilesOf, GrowsBy, entry_of, opened_count, failure_count, sent_bytes, received_bytes, status_count, reply_count, over_deliveries, ended_job, finished, delivered, by_end, bytes_by, file_by, is_sent, is_written, received_by, sent_by, status_by}
use Rattle.ftp_events.proofs.counters.Counters.count.Goals as goal

pub returns : goal.returns
returns c = λ o past event few is old.
    let others = c.count_life.ensures.others in
    let end : c.finished-end.result ≡ finished c.args.decision c.args.answer (ended_job o past event.kind) =
    c.finished-end.ensures ∙ ap (finished c.args.decision c.args.answer) is in
    let plus : (adds : Ended → Outcome → ℕ) (n : ℕ) →
    saturated (n + by_end adds c.finished-end.result)
    ≡ saturated (n + by_end adds (finished c.args.decision c.args.answer (ended_job o past event.kind))) =
    λ adds n. ap (λ x. saturated (n + by_end adds x)) end in
    let told : (adds : Outcome → ℕ) (n : ℕ) →
    saturated (n + option_map_or adds c.delivered-told.result 0)
    ≡ saturated (n + option_map_or adds (delivered c.args.decision c.args.answer c.args.actions.now) 0) =
    λ adds n. ap (λ x. saturated (n + option_map_or adds x 0)) c.delivered-told.ensures in
    let files : (is : Completion → Bool) (old new : Files) → GrowsBy is c.delivered-told.result old new → FilesOf is past old →
    FilesOf is (entry_of event c.args.answer c.args.decision c.args.actions.now ∷ past) new =
    λ is old new grows was. (
      grows.0 (over_deliveries (file_by is) past) was.0 ∙ told (file_by is) (over_deliveries (file_by is) past),
      grows.1 (over_deliveries (bytes_by is) past) was.1 ∙ told (bytes_by is) (over_deliveries (bytes_by is) past),
    ) in
    record {
      session = c.count_life.ensures.session (live_count past) few old.session;
      opened = c.count_life.ensures.opened (opened_count past) old.opened;
      failures = c.count_failure.ensures (failure_count past) (ap (λ (x : Counters). x.auth_failures) others ∙ old.failures);
      sent = λ w. c.count_sent.ensures w (sent_bytes o past w) (ap (λ (x : Counters). of_word x.sent w) others ∙ old.sent w) ∙ plus (sent_by w) (sent_bytes o past w);
      received = λ w. c.count_received.ensures w (received_bytes o past w) (ap (λ (x : Counters). of_word x.received w) others ∙ old.received w) ∙ plus (received_by w) (received_bytes o past w);
      transferred = λ w s.
          c.count_status.ensures w s (status_count o past w s) (ap (λ (x : Counters). of_word (of_status x.transferred s) w) others ∙ old.transferred w s)
          ∙ plus (status_by w s) (status_count o past w s);
      read = files is_sent _ _ c.count_file.ensures.read (subst (FilesOf is_sent past) (sym (ap (λ (x : Counters). x.read) others)) old.read);
      written = files is_written _ _ c.count_file.ensures.written (subst (FilesOf is_written past) (sym (ap (λ (x : Counters). x.written) others)) old.written);
      replies = λ d. c.count_replies.ensures d (reply_count past d) (ap (λ (x : Counters). get_or x.replies d 0) others ∙ old.replies d);
    }
