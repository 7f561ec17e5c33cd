-- Proofs of `cut`, src/neighbours.rt.
use Rattle.std.proofs.Common.{ℕ, ◌+◌, ◌-◌, ◌/◌, arith}
use Rattle.ascending_lists.proofs.Cutting.{rises}
use Rattle.pages.proofs.Ascent.{rises_strictly}
use Rattle.std.specs.Map.{keys_of}
use Rattle.pages.proofs.Decoding.{keys_long}
use Rattle.pages.proofs.Cuts.{cut_below, cut_above}
use Rattle.pages.proofs.neighbours.Neighbours.cut.Goals as goal

pub returns-then-found-neighbour-clause-below : goal.returns-then-found-neighbour-clause-below
returns-then-found-neighbour-clause-below c =
    let l = c.loop-low in
    let xs = c.args.self.now in
    let middle : ℕ = l.low + (l.high - l.low) / 2 in
    cut_below c.args.neighbour c.args.from middle xs (omega arith)
    (λ i ge lt in_list. omega (arith, rises_strictly 0 (keys_of xs) c.bracket-low.ensures.ascending i middle lt (omega (arith, keys_long xs)), c.neighbour-found.ensures))
    (λ i ge in_list. omega (arith, rises 0 (keys_of xs) c.bracket-low.ensures.ascending middle i ge (omega (arith, in_list, keys_long xs)), c.neighbour-found.ensures))

pub returns-then-found-neighbour-clause-above : goal.returns-then-found-neighbour-clause-above
returns-then-found-neighbour-clause-above c =
    let l = c.loop-low in
    let xs = c.args.self.now in
    let middle : ℕ = l.low + (l.high - l.low) / 2 in
    cut_above c.args.neighbour c.args.from (middle + 1) xs (omega arith)
    (λ i ge lt in_list. omega (arith, rises 0 (keys_of xs) c.bracket-low.ensures.ascending i middle (omega arith) (omega (arith, keys_long xs)), c.neighbour-found.ensures))
    (λ i ge in_list. omega (arith, rises_strictly 0 (keys_of xs) c.bracket-low.ensures.ascending middle i (omega arith) (omega (arith, in_list, keys_long xs)), c.neighbour-found.ensures))

pub loop-low-preserved-then-found-neighbour-2 : goal.loop-low-preserved-then-found-neighbour-2
loop-low-preserved-then-found-neighbour-2 c =
    let l = c.loop-low in
    let middle : ℕ = l.low + (l.high - l.low) / 2 in
    record {
      from = omega arith;
      order = omega arith;
      within = l.invariant.within;
      below = λ i ge lt. omega (arith, rises 0 (keys_of c.args.self.now) c.bracket-low.ensures.ascending i middle (omega arith) (omega (arith, keys_long c.args.self.now)), c.neighbour-found.ensures);
      above = l.invariant.above;
    }

pub loop-low-preserved : goal.loop-low-preserved
loop-low-preserved c =
    let l = c.loop-low in
    let middle : ℕ = l.low + (l.high - l.low) / 2 in
    record {
      from = l.invariant.from;
      order = omega arith;
      within = omega arith;
      below = l.invariant.below;
      above = λ i ge in_list. omega (arith, rises 0 (keys_of c.args.self.now) c.bracket-low.ensures.ascending middle i ge (omega (arith, in_list, keys_long c.args.self.now)), c.neighbour-found.ensures);
    }

pub returns-clause-below : goal.returns-clause-below
returns-clause-below c =
    let l = c.loop-low in
    cut_below c.args.neighbour c.args.from l.low c.args.self.now l.invariant.from
    (λ i ge lt in_list. l.invariant.below i ge lt)
    (λ i ge in_list. omega (arith, l.invariant.above i (omega arith) in_list))

pub returns-clause-above : goal.returns-clause-above
returns-clause-above c =
    let l = c.loop-low in
    cut_above c.args.neighbour c.args.from l.low c.args.self.now l.invariant.from
    (λ i ge lt in_list. omega (arith, l.invariant.below i ge lt))
    (λ i ge in_list. l.invariant.above i (omega arith) in_list)
