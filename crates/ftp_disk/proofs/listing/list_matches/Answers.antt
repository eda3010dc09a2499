use Rattle.std.proofs.Common.{◌≡◌, ◌∙◌, ◌-◌, ℕ, true, false, List, [], length, take, get_or, map, All, Bor, sym, ap, subst, rules}
use Rattle.std.specs.List.{list_any}
use Rattle.ftp_disk.specs.Listing.{IsShownOf}
use Rattle.ftp_disk.specs.Patterns.{is_wild, pattern_in}
use Rattle.ftp_disk.proofs.ListingLemmas.{child-last, names-before, list_any-map}
use Rattle.ftp_disk.proofs.VisibleLemmas.{split-last}
use Rattle.ftp_disk.proofs.listing.list_matches.Goals as goal

pub returns-clause-shown : goal.returns-clause-shown
returns-clause-shown g c =
    let told = g.S.FileSystem.told c.args.system.now in
    let place = c.args.place.now in
    let dir = c.in_ok-dir.dir in
    let parts = c.as_slice.result.now in
    let none : Bor (List ℕ) = record { ref_ptr = (0, 0); now = [] } in
    let before = take (length parts - 1) parts in
    let last = get_or parts (length parts - 1) none in
    let named : map (λ (n : Bor (List ℕ)). n.now) parts ≡ place.names = ap (map (λ (n : Bor (List ℕ)). n.now)) c.as_slice.ensures.value ∙ c.in_ok-names.ensures ∙ sym c.requires.names in
    let split = split-last parts none c.in-len1-up.len_at_least in
    let pattern : c.pattern_in-pattern.result.now ≡ pattern_in last.now = c.pattern_in-pattern.ensures in
    let wild : is_wild c.pattern_in-pattern.result.now ≡ true = search rules in
    let plain : list_any (λ (n : Bor (List ℕ)). is_wild n.now) before ≡ false = sym c.any_wild.ensures ∙ c.if-any_wild.false in
    record {
      dir = dir;
      name = last.now;
      leads = child-last place dir parts before last named split c.in_ok-dir.ensures;
      wild = sym (ap is_wild pattern) ∙ wild;
      plain = ap (list_any is_wild) (names-before place dir parts before last named split c.in_ok-dir.ensures) ∙ list_any-map is_wild (λ (n : Bor (List ℕ)). n.now) before ∙ plain;
      unlinked = c.in_ok-found.ensures.unlinked;
      shown = subst (λ (p : List ℕ). All (IsShownOf told dir p) c.in_ok-infos.infos.items) pattern c.in_ok-infos.ensures.shown;
    }
