use Rattle.std.proofs.Common.{◌≡◌, ◌∙◌, ap, sym, true, false, nat_eq, Vec, Global, ℕ, BTreeMap}
use Rattle.std.specs.FinMap as map
use Rattle.std.specs.List.{starts_with}
use Rattle.std.specs.Ordering.{is_gt, is_lt}
use Rattle.std.specs.Cmp.{upto, tied_itself}
use Rattle.std.specs.Cmp.Lexicographic.{nat_list_cmp_total}
use Rattle.std.specs.declared.cmp.Ordering.TheVariants.{Less}
use Rattle.std.proofs.lemmas.Bool.{true_from_ne_false}
use Rattle.ftp_base.specs.declared.storage.Meta.{Meta}
use Rattle.ftp_base.specs.MemoryStorage.{NoneBetween, files_of, front, placed, item_of}
use Rattle.ftp_base.specs.Storage.{name, is_child, meta_of}
use Rattle.ftp_base.proofs.MemoryListing.{place_total, placed-insert_entry, entries-empty}
use Rattle.ftp_base.proofs.PathOrder.{UpTo, path_cmp}
use Rattle.ftp_base.proofs.ListingSteps.{children_before, before-front, before-end, before-other, before-child}
use Rattle.ftp_base.proofs.Ranges.{least, none_left, first_item, passes, past_front, front_first, fewer_left, not-less, up_to, up_to-less}
use Rattle.ftp_base.proofs.memory_storage.listing.places_in.Goals.{then-is_child+in_ok-place+in_ok-insert, else-is_child, in-Some+then-not-starts_with, in_default}
use Rattle.ftp_base.proofs.memory_storage.listing.places_in.Goals as goal

pub loop-path-init : goal.loop-path-init
loop-path-init c =
    let from : c.in_ok-from.from.items ≡ front c.args.dir.now = c.in_ok-from.ensures.items ∙ c.as_slice.ensures.value ∙ c.in_ok-front.ensures in
    let same : UpTo (front c.args.dir.now) (front c.args.dir.now) = ap is_gt (tied_itself nat_list_cmp_total (front c.args.dir.now)) in
    let none : children_before (files_of c.args.nodes.now.entries) c.args.dir.now c.in_ok-from.from.items ≡ map.empty =
    before-front (files_of c.args.nodes.now.entries) c.args.dir.now c.in_ok-from.from.items (λ q child. rw from (front_first c.args.dir.now q child))
    in (
      ap placed c.new-places.ensures.empty ∙ sym entries-empty ∙ ap map.entries (sym none),
      rw from same,
      c.in_ok-front.ensures,
    )

pub loop-path-smaller : goal.loop-path-smaller
loop-path-smaller c =
    let range = c.range.ensures.in_range tt in
    let first = first_item c.args.nodes.now c.loop-path.from c.in-Some.path.now c.in-Some.node.now _ _ range c.in-Some.ensures.steps in
    let later : path_cmp c.in-Some.path.now.items c.in_ok-from-2.from.items ≡ Less = rw c.as_slice-in-Some-4.ensures.value at c.in_ok-from-2.ensures.later in
    fewer_left c.args.nodes.now c.loop-path.from c.in-Some.path.now c.in_ok-from-2.from c.in-Some.node.now _ (sym (c.range.ensures.between tt) ∙ c.in-Some.ensures.steps) first.0 later

pub loop-path-preserved : goal.loop-path-preserved
loop-path-preserved c =
    let range = c.range.ensures.in_range tt in
    let first = first_item c.args.nodes.now c.loop-path.from c.in-Some.path.now c.in-Some.node.now _ _ range c.in-Some.ensures.steps in
    let next = least c.args.nodes.now c.loop-path.from c.in-Some.path.now c.in-Some.node.now _ _ range c.in-Some.ensures.steps in
    let later : path_cmp c.in-Some.path.now.items c.in_ok-from-2.from.items ≡ Less = rw c.as_slice-in-Some-4.ensures.value at c.in_ok-from-2.ensures.later in
    let skipped : NoneBetween c.args.dir.now c.in-Some.path.now.items c.in_ok-from-2.from.items = rw c.as_slice-in-Some-4.ensures.value at c.in_ok-from-2.ensures.skipped in
    let passed = passes (files_of c.args.nodes.now.entries) c.args.dir.now c.loop-path.from.items c.in-Some.path.now.items c.in_ok-from-2.from.items first.0 next later skipped in (
      elim c.if-is_child.branch [
        | then-is_child+in_ok-place+in_ok-insert w ↦
            let child : is_child c.args.dir.now c.in-Some.path.now.items ≡ true = rw (← c.as_slice-in-Some-3.ensures.value) (sym c.is_child.ensures ∙ w.if-is_child.true) in
            ap (λ (m : BTreeMap (Vec ℕ Global × Vec ℕ Global) Meta). placed m.entries) w.places-is
            ∙ ap placed w.in_ok-insert.ensures.entries
            ∙ placed-insert_entry c.loop-path.places.entries w.in_ok-place.place w.meta_at.result
            ∙ rw (w.in_ok-place.ensures.0, w.in_ok-place.ensures.1, w.as_slice-then-is_child.ensures.value, (w.meta_at.ensures ∙ ap meta_of w.standing.ensures), c.loop-path.invariant.0)
            (sym (map.entries-insert place_total (children_before (files_of c.args.nodes.now.entries) c.args.dir.now c.loop-path.from.items) (name c.in-Some.path.now.items, c.in-Some.path.now.items) (meta_of (item_of c.in-Some.node.now))))
            ∙ ap map.entries
            (sym
            (before-child (files_of c.args.nodes.now.entries) c.args.dir.now c.loop-path.from.items c.in-Some.path.now.items c.in_ok-from-2.from.items (item_of c.in-Some.node.now) passed child first.1
            (not-less c.loop-path.from.items c.in-Some.path.now.items first.0)
            (ap is_lt later)))
        | else-is_child w ↦
            let other : is_child c.args.dir.now c.in-Some.path.now.items ≡ false = rw (← c.as_slice-in-Some-3.ensures.value) (sym c.is_child.ensures ∙ w.if-is_child.false) in
            ap (λ (m : BTreeMap (Vec ℕ Global × Vec ℕ Global) Meta). placed m.entries) w.places-is
            ∙ c.loop-path.invariant.0
            ∙ ap map.entries (before-other (files_of c.args.nodes.now.entries) c.args.dir.now c.loop-path.from.items c.in-Some.path.now.items c.in_ok-from-2.from.items passed other)
      ],
      ap is_gt (up_to-less (front c.args.dir.now) c.in-Some.path.now.items c.in_ok-from-2.from.items (upto nat_list_cmp_total (front c.args.dir.now) c.loop-path.from.items c.in-Some.path.now.items c.loop-path.invariant.1 first.0) later),
      c.loop-path.invariant.2,
    )

pub returns : goal.returns
returns c =
    let range = c.range.ensures.in_range tt in
    c.loop-path.invariant.0
    ∙ ap map.entries
    (before-end (files_of c.args.nodes.now.entries) c.args.dir.now c.loop-path.from.items
    (elim c.match-next.branch [
      | in-Some+then-not-starts_with w ↦
          let first = first_item c.args.nodes.now c.loop-path.from w.in-Some.path.now w.in-Some.node.now _ _ range w.in-Some.ensures.steps in
          let next = least c.args.nodes.now c.loop-path.from w.in-Some.path.now w.in-Some.node.now _ _ range w.in-Some.ensures.steps in
          let front_is : w.as_slice-in-Some-2.result.now ≡ front c.args.dir.now = w.as_slice-in-Some-2.ensures.value ∙ c.loop-path.invariant.2 in
          let past : starts_with nat_eq w.in-Some.path.now.items (front c.args.dir.now) ≡ false =
          rw (← w.as_slice-in-Some.ensures.value, ← front_is) (sym w.starts_with.ensures.value ∙ w.if-not-starts_with.true)
          in
          past_front (files_of c.args.nodes.now.entries) c.args.dir.now c.loop-path.from.items w.in-Some.path.now.items c.loop-path.invariant.1 first.0 next past
      | in_default w ↦ λ q child some.
          true_from_ne_false (is_lt (path_cmp q c.loop-path.from.items)) (λ e.
          absurd (none_left c.args.nodes.now c.loop-path.from _ range w.in_default.ensures.steps.0 q (up_to c.loop-path.from.items q e) some))
    ]))
