-- Proofs of `add_old`, src/vector_accumulators.rt.
use Rattle.std.proofs.Common.{rules, ◌<◌, length, arith}
use Rattle.std.proofs.lemmas.List.{length-take-le, take_more_set}
use Rattle.edge_fold.specs.VectorAccumulators.{active}
use Rattle.edge_fold.proofs.SlotRows.{added_held, added_index, added_reduction}
use Rattle.edge_fold.proofs.vector_accumulator.VectorAccumulators.add_old.Goals as goal

pub returns-clause-position : goal.returns-clause-position
returns-clause-position c =
    let now = c.args.self.now in
    let inside : now.used < length now.slots.items = search rules in (
      added_index (active now) _ c.begin.new.self c.args.vector now.used (take_more_set now.slots.items now.used c.begin.new.self inside)
          (length-take-le now.used now.slots.items (search rules)) c.in_ok-begin.ensures.vector c.requires.none,
      omega arith,
    )

pub returns-clause-held : goal.returns-clause-held
returns-clause-held c =
    let now = c.args.self.now in
    let inside : now.used < length now.slots.items = search rules in
    added_held (active now) _ c.begin.new.self (take_more_set now.slots.items now.used c.begin.new.self inside) c.in_ok-begin.ensures.clean

pub returns-clause-reduction : goal.returns-clause-reduction
returns-clause-reduction c x r =
    let now = c.args.self.now in
    let inside : now.used < length now.slots.items = search rules in
    added_reduction (active now) _ c.begin.new.self c.args.vector x c.args.reduction r
    (take_more_set now.slots.items now.used c.begin.new.self inside) c.in_ok-begin.ensures.vector c.in_ok-begin.ensures.reduction
