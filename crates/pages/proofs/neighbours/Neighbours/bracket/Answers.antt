-- Proofs of `bracket`, src/neighbours.rt.
use Rattle.std.proofs.Common.{ℕ, ◌+◌, ◌-◌, arith}
use Rattle.std.specs.Map.{keys_of}
use Rattle.ascending_lists.proofs.Cutting.{rises}
use Rattle.pages.proofs.Ascent.{rises_strictly}
use Rattle.pages.proofs.Decoding.{keys_long}
use Rattle.pages.proofs.neighbours.Neighbours.bracket.Goals as goal

pub returns-then-neighbour-clause-above : goal.returns-then-neighbour-clause-above
returns-then-neighbour-clause-above c =
    let l = c.loop-jump in
    let xs = c.args.self.now in
    let last : ℕ = l.low + l.jump - 1 in
    λ i ge in_list. omega (arith, rises_strictly 0 (keys_of xs) c.len-len.ensures.ascending last i (omega arith) (omega (arith, in_list, keys_long xs)), c.neighbour.ensures)

pub loop-jump-preserved : goal.loop-jump-preserved
loop-jump-preserved c =
    let l = c.loop-jump in
    let xs = c.args.self.now in
    let last : ℕ = l.low + l.jump - 1 in
    record {
      from = omega arith;
      within = omega arith;
      some = omega arith;
      below = λ i ge lt. omega (arith, rises 0 (keys_of xs) c.len-len.ensures.ascending i last (omega arith) (omega (arith, keys_long xs)), c.neighbour.ensures);
    }
