use Rattle.std.proofs.Common.{◌≡◌, ◌∙◌, true, sym, ap, rules}
use Rattle.std.proofs.lemmas.List.Elements.{All-push}
use Rattle.ftp_disk.specs.Listing.{IsShownOf}
use Rattle.ftp_disk.specs.Patterns.{matches}
use Rattle.ftp_disk.proofs.listing.show.Goals as goal

pub returns-in_ok-push : goal.returns-in_ok-push
returns-in_ok-push g c =
    let told = g.S.FileSystem.told c.args.system.now in
    let pattern = c.args.pattern.now in
    let shown = rw c.in-Some.is at c.in_ok-found.ensures.shown in
    let exactly = rw c.in-Some.is at c.in_ok-found.ensures.exactly in
    let yes : c.in_ok-is_match.is_match ≡ true = search rules in
    let matched : matches pattern c.in-Some.info.name ≡ true = ap (matches pattern) exactly.0 ∙ sym c.in_ok-is_match.ensures ∙ yes in
    record {
      shown = λ before.
          rw c.in_ok-push.ensures.items
          (All-push (IsShownOf told c.args.place.now pattern) c.args.infos.now.items c.in-Some.info before (matched, shown));
    }
