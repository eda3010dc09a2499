use Rattle.std.proofs.Common.{◌≡◌, ◌∙◌, ap, ℕ, List, ◌++◌}
use Rattle.std.specs.Prelude.{OnOk}
use Rattle.std.proofs.lemmas.Result.{on_ok_weaker}
use Rattle.ftp_audit.specs.Metrics.{metrics_text, metrics_with, number_in}
use Rattle.ftp_audit.proofs.PutLemmas.{put-more, put-next}
use Rattle.ftp_audit.proofs.metrics.put_metrics_of.Goals as goal

pub returns : goal.returns
returns c =
    let result = c.put_logins.result in
    let out = c.args.out.now.items in
    let counters = c.args.counters.now in
    let same : metrics_with c.session.result c.sessions_count.result c.auth_failures.result c.args.locked (number_in counters) ≡ metrics_text counters c.args.locked =
    λ i. metrics_with (c.session.ensures i) (c.sessions_count.ensures i) (c.auth_failures.ensures i) c.args.locked (number_in counters)
    in
    let sessions = put-more out _ _ c.in_ok-put_plain.ensures c.in_ok-put_plain-2.ensures in
    let bytes = put-more out _ _ sessions c.in_ok-put_bytes.ensures in
    let transfers = put-more out _ _ bytes c.in_ok-put_transfers.ensures in
    let written : OnOk result (c.put_logins.new.out.items ≡ out ++ metrics_with c.session.result c.sessions_count.result c.auth_failures.result c.args.locked (number_in counters)) =
    put-next result out _ _ _ transfers c.put_logins.ensures
    in
    on_ok_weaker result (λ e. e ∙ ap (λ (text : List ℕ). out ++ text) same) written
