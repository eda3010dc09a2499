use Rattle.std.proofs.Common.{ℕ, ◌<◌, length, Some, Option, cond, ◌≡◌, ◌∙◌, ap, sym, subst, refl, arith}
use Rattle.std.specs.Prelude.{slice_get}
use Rattle.std.specs.BTreeMap as tree
use Rattle.std.specs.Ordering.{nat_cmp}
use Rattle.std.proofs.lemmas.Option.{slice_get_read}
use Rattle.ftp_base.specs.declared.net.IpAddr.{IpAddr}
use Rattle.ftp_events.specs.Opening.{opened_number}
use Rattle.ftp_events.specs.Words.{is_number}
use Rattle.ftp_check_log.specs.Grants.{IsLastGrant}
use Rattle.ftp_check_log.proofs.PlaceLemmas.{client-more, client_told}
use Rattle.ftp_check_log.proofs.grants.last_grants.Goals as goal

pub loop-place-preserved : goal.loop-place-preserved
loop-place-preserved c =
    let log = c.args.entries.now in
    let place = c.loop-place.place in
    let e = c.index-entries-place.result in
    let within : place < length log = omega arith in
    let at : slice_get log place ≡ Some e = slice_get_read log (length log) place e refl within c.index-entries-place.is in
    record {
      known = λ s.
          c.in_ok-take_opening.ensures s
          ∙ (ap (λ (x : Option IpAddr). cond (is_number (opened_number e.event.kind e.decision) s) (client_told e) x) (c.loop-place.invariant.known s)
          ∙ sym (client-more log place e s at));
      last = c.in_ok-take_grant.ensures;
    }

pub returns : goal.returns
returns c = λ p.
    let here : c.loop-place.place ≡ c.args.k = omega arith in
    subst (λ (n : ℕ). IsLastGrant c.args.options.now c.args.entries.now n c.args.client p (tree.get nat_cmp c.loop-place.last p)) here (c.loop-place.invariant.last p)
