-- Proofs of `fill`, src/old_entries.rt.
use Rattle.std.proofs.Common.{rules, ℕ, ◌≤◌, [], length, take, refl, sym, ap, ◌∙◌}
use Rattle.edge_fold.specs.declared.vector_accumulator.VectorAccumulator.{VectorAccumulator}
use Rattle.edge_fold.specs.inside.FoldStarts.{start_of}
use Rattle.edge_fold.specs.Held.{held_with}
use Rattle.edge_fold.specs.VectorAccumulators.{held_in_with}
use Rattle.edge_fold.proofs.JoinedSlots.{along, equal, joined_slot}
use Rattle.edge_fold.proofs.SlotRows.{first_slot}
use Rattle.edge_fold.proofs.vector_accumulator.VectorAccumulators.fill.Goals as goal

pub fill-requires : goal.fill-requires
fill-requires c combine v h =
    let now = c.position.new.self in
    let x = c.args.vector in
    let was : VectorAccumulator = c.index_mut.result.now in
    let few : now.used ≤ length now.slots.items = search rules in
    let at = c.in_ok-position.ensures.position in
    ap (λ (s : VectorAccumulator). held_with combine s.entries v h) c.index_mut.ensures.value
    ∙ sym (first_slot (λ s. held_with combine s.entries v h) now.slots.items x now.used c.in_ok-position.position h was at.0 at.1 few)
    ∙ c.in_ok-position.ensures.held combine x v h
    ∙ ap (λ (k : ℕ). held_in_with combine (take k c.args.self.now.slots.items) x v h) c.requires

pub returns : goal.returns
returns c x r own =
    let now = c.position.new.self in
    let p = c.in_ok-position.position in
    let f = c.args.context in
    let was : VectorAccumulator = c.index_mut.result.now in
    let few : now.used ≤ length now.slots.items = search rules in
    let at = c.in_ok-position.ensures.position in
    let op = c.seeds-seeds in
    joined_slot f x c.args.vector p r c.args.self.now now _ was (record { vector = was.vector; reduction = was.reduction; entries = c.fill.new.self }) [] refl
    at.0 at.1 few c.index_mut.ensures.value refl refl c.in_ok-position.ensures.held (c.in_ok-position.ensures.reduction x r own)
    (λ v h same. along f x c.args.vector v c.args.reduction r (start_of op.result) was.entries c.fill.new.self h _ (λ _. []) (equal c.args.vector x same)
    (own (equal c.args.vector x same)) op.ensures.start (op.ensures.seed v h) (c.fill.ensures c.args.reduction v h))
    (λ off. refl)
