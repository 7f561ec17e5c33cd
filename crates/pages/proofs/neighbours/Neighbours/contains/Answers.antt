-- Proofs of `contains`, src/neighbours.rt.
use Rattle.std.proofs.Common.{ℕ, ◌+◌, ◌-◌, ◌/◌, ◌∙◌, sym, arith}
use Rattle.std.specs.Map.{keys_of}
use Rattle.ascending_lists.proofs.Cutting.{rises}
use Rattle.pages.proofs.Ascent.{has_at, has_between}
use Rattle.pages.proofs.Decoding.{keys_long}
use Rattle.pages.proofs.neighbours.Neighbours.contains.Goals as goal

pub returns-then-found-neighbour : goal.returns-then-found-neighbour
returns-then-found-neighbour c =
    let l = c.loop-low in
    sym (has_at c.args.neighbour (l.low + (l.high - l.low) / 2) (keys_of c.args.self.now) (omega (arith, keys_long c.args.self.now)) (sym c.neighbour-found.ensures ∙ c.if-found-neighbour.true))

pub loop-low-preserved-then-found-neighbour-2 : goal.loop-low-preserved-then-found-neighbour-2
loop-low-preserved-then-found-neighbour-2 c =
    let l = c.loop-low in
    let middle : ℕ = l.low + (l.high - l.low) / 2 in
    record {
      within = l.invariant.within;
      below = λ i lt in_list. omega (
        arith,
        rises 0 (keys_of c.args.self.now) c.len-high.ensures.ascending i middle (omega arith) (omega (arith, keys_long c.args.self.now)),
        c.neighbour-found.ensures,
      );
      above = l.invariant.above;
    }

pub loop-low-preserved : goal.loop-low-preserved
loop-low-preserved c =
    let l = c.loop-low in
    let middle : ℕ = l.low + (l.high - l.low) / 2 in
    record {
      within = omega arith;
      below = l.invariant.below;
      above = λ i le in_list. omega (arith, rises 0 (keys_of c.args.self.now) c.len-high.ensures.ascending middle i le in_list, c.neighbour-found.ensures);
    }

pub returns : goal.returns
returns c =
    let l = c.loop-low in
    sym (has_between c.args.neighbour l.low l.high (keys_of c.args.self.now) c.loop-low-test.false l.invariant.below l.invariant.above)
