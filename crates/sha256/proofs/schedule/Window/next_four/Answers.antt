use Rattle.std.proofs.Common.{◌≡◌, length, arith}
use Rattle.sha256.specs.Words.{σ0, σ1}
use Rattle.sha256.proofs.Steps.{next_four_is}
use Rattle.sha256.proofs.schedule.Window.next_four.Goals as goal

pub returns : goal.returns
unfolding σ0 σ1
returns c =
    let w = c.args.self in
    let l0 : length w.x0 ≡ 4 = grind arith in
    let l1 : length w.x1 ≡ 4 = grind arith in
    let l2 : length w.x2 ≡ 4 = grind arith in
    let l3 : length w.x3 ≡ 4 = grind arith in
    next_four_is w.x0 w.x1 w.x2 w.x3 c.small_sigma-a.result c.small_sigma-b.result c.small_sigma-c.result
    l0 l1 l2 l3 c.small_sigma-a.ensures c.small_sigma-b.ensures c.small_sigma-c.ensures
