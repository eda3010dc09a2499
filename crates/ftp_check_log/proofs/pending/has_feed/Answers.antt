use Rattle.std.proofs.Common.{refl, arith}
use Rattle.ftp_text.proofs.PlaceLemmas.{cut_told, feed_none}
use Rattle.ftp_check_log.proofs.pending.has_feed.Goals as goal

pub returns-in-Some : goal.returns-in-Some
returns-in-Some c = (λ t. (cut_told c.args.bytes.now c.in-Some.field-0 c.in-Some.ensures).0, λ f. refl)

pub returns-in-None : goal.returns-in-None
returns-in-None c = (λ t. absurd (cc), λ f. absurd (omega (arith, f, feed_none c.args.bytes.now c.in-None.ensures)))
