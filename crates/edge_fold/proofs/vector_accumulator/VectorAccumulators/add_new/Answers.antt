-- Proofs of `add_new`, src/vector_accumulators.rt.
use Rattle.std.proofs.Common.{rules, ◌≤◌, length, arith}
use Rattle.std.proofs.lemmas.List.{length-take-le}
use Rattle.edge_fold.specs.declared.vector_accumulator.VectorAccumulator.{VectorAccumulator}
use Rattle.edge_fold.specs.VectorAccumulators.{active}
use Rattle.edge_fold.proofs.SlotRows.{added_held, added_index, added_reduction, pushed}
use Rattle.edge_fold.proofs.vector_accumulator.VectorAccumulators.add_new.Goals as goal

pub returns-clause-index : goal.returns-clause-index
returns-clause-index c =
    let now = c.args.self.now in
    let slot : VectorAccumulator = record { vector = c.args.vector; reduction = c.args.reduction; entries = c.begin.new.self } in
    let inside : now.used ≤ length now.slots.items = search rules in (
      added_index (active now) _ slot c.args.vector now.used
          (pushed now.slots.items c.push.new.self.items now.used slot (search rules) c.in_ok-push.ensures.items)
          (length-take-le now.used now.slots.items inside) (search rules) c.requires.none,
      omega arith,
    )

pub returns-clause-held : goal.returns-clause-held
returns-clause-held c =
    let now = c.args.self.now in
    let slot : VectorAccumulator = record { vector = c.args.vector; reduction = c.args.reduction; entries = c.begin.new.self } in
    added_held (active now) _ slot
    (pushed now.slots.items c.push.new.self.items now.used slot (search rules) c.in_ok-push.ensures.items)
    c.begin.ensures

pub returns-clause-reduction : goal.returns-clause-reduction
returns-clause-reduction c x r =
    let now = c.args.self.now in
    let slot : VectorAccumulator = record { vector = c.args.vector; reduction = c.args.reduction; entries = c.begin.new.self } in
    added_reduction (active now) _ slot c.args.vector x c.args.reduction r
    (pushed now.slots.items c.push.new.self.items now.used slot (search rules) c.in_ok-push.ensures.items)
    (search rules) (search rules)
