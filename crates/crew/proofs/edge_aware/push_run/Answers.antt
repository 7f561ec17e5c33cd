-- Proofs of `push_run`, src/edge_aware.rt.
use Rattle.std.proofs.Common.{◌+◌, ◌*◌, ◌<◌, length, min, refl, subst, arith}
use Rattle.crew.specs.inside.Cuts.{CutsOn}
use Rattle.crew.proofs.LimitCuts.{cuts_run}
use Rattle.crew.proofs.edge_aware.push_run.Goals as goal

pub returns-then-after-limit : goal.returns-then-after-limit
returns-then-after-limit g c =
    let a = c.args in
    let ds = g.D.DegreeList.degrees a.degrees.now in
    let s = 64 * a.run in
    let total = c.run_total.result in
    let count = c.requires.degrees in
    let inside : s < length ds = omega (arith, count, c.requires.inside) in
    subst (λ n. CutsOn a.limit ds a.reached s a.ends.now.items (a.reached + total) (min (s + 64) n) a.ends.now.items) count
    (cuts_run a.limit ds a.reached s 64 total (a.reached + total) a.ends.now.items inside c.run_total.ensures refl c.if-after-limit.true)
