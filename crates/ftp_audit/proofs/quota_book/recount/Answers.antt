use Rattle.std.proofs.Common.{◌+◌, ◌-◌, ◌^◌, ◌<◌, ◌≤◌, arith}
use Rattle.ftp_audit.proofs.ByName.{get-found, by_name-written}
use Rattle.ftp_audit.proofs.quota_book.recount.Goals as goal

pub unreachable-requires : goal.unreachable-requires
unreachable-requires c = rw (get-found c.args.used.now.entries c.args.user.now _ _ c.as_slice.ensures c.in_default.ensures.value) at c.requires

pub overflow_sub-count : goal.overflow_sub-count
overflow_sub-count c =
    let fits : (c.args.less ≤ c.in-Some.count.now) × (c.in-Some.count.now - c.args.less + c.args.more < 2 ^ 64) =
    rw (get-found c.args.used.now.entries c.args.user.now _ _ c.as_slice.ensures c.in-Some.ensures.value) at c.requires in
    fits.0

pub overflow_add-count : goal.overflow_add-count
overflow_add-count c =
    let fits : (c.args.less ≤ c.in-Some.count.now) × (c.in-Some.count.now - c.args.less + c.args.more < 2 ^ 64) =
    rw (get-found c.args.used.now.entries c.args.user.now _ _ c.as_slice.ensures c.in-Some.ensures.value) at c.requires in
    let below = fits.1 in omega arith

pub returns : goal.returns
returns c =
    let w = c.in-Some.count.now - c.args.less + c.args.more in
    rw (get-found c.args.used.now.entries c.args.user.now _ _ c.as_slice.ensures c.in-Some.ensures.value)
    (by_name-written c.args.used.now.entries _ c.args.user.now _ _ w c.as_slice.ensures c.in-Some.ensures.value (c.get_mut.follows.holds w).0)
