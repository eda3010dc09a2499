use Rattle.std.proofs.Common.{◌+◌, ◌<◌, length, below_more, arith}
use Rattle.ftp_disk.specs.FileSystem.{front_of, WasNoLink}
use Rattle.ftp_disk.proofs.StandingLemmas.{IsNoLink-told, told-front, Stood-next, Stood-whole}
use Rattle.ftp_disk.proofs.standing.resolve.Goals as goal

pub loop-n-preserved : goal.loop-n-preserved
loop-n-preserved g c =
    let told = g.F.FileSystem.told c.args.system.now in
    let place = c.args.place.now in
    let answer = c.look.result in
    let tells = c.in_ok-found.ensures.found in
    let lt : c.loop-n.n < length place.names = omega arith in
    let said : told (front_of place (c.loop-n.n + 1)) answer = told-front told place _ (c.loop-n.n + 1) answer c.in_ok-front.ensures c.look.ensures in (
      Stood-next told place c.loop-n.n answer c.in_ok-found.found lt said tells,
      below_more (λ k. WasNoLink told (front_of place (k + 1))) c.loop-n.n c.loop-n.invariant.1 (answer, said, IsNoLink-told answer c.in_ok-found.found tells),
    )

pub returns-clause-found : goal.returns-clause-found
returns-clause-found g c =
    Stood-whole (g.F.FileSystem.told c.args.system.now) c.args.place.now c.loop-n.n c.loop-n.found (omega arith) c.loop-n.invariant.0
