-- Proofs of `join_weights`, src/vector_accumulators.rt.
use Rattle.std.proofs.Common.{rules, ◌≤◌, ◌==◌, ℕ, ℤ, Bool, [], cond, length, FitsSigned, w64, refl, sym, ap, ◌∙◌}
use Rattle.std.proofs.lemmas.Int.{to_z-of_z}
use Rattle.algorithm_meaning.specs.Arithmetic.{arithmetic}
use Rattle.algorithm_meaning.specs.Value.{entry}
use Rattle.edge_fold.specs.declared.vector_accumulator.VectorAccumulator.{VectorAccumulator}
use Rattle.edge_fold.specs.inside.EntryNumbers.{each_weighed}
use Rattle.edge_fold.specs.Contributions.{reduced_at}
use Rattle.edge_fold.specs.Held.{held_with}
use Rattle.edge_fold.specs.FoldStarts.{combined_with_seed, first_entry}
use Rattle.edge_fold.specs.inside.FoldStarts.{initial_seed, start_of}
use Rattle.edge_fold.proofs.JoinedSlots.{along, equal, joined_slot}
use Rattle.edge_fold.proofs.vector_accumulator.VectorAccumulators.join_weights.Goals as goal

pub returns : goal.returns
returns g c x r own =
    let now = c.position.new.self in
    let of = c.args.given in
    let p = c.in_ok-position.position in
    let es = g.E.NeighbourEntries.entries c.args.destinations.now in
    let f = c.args.context in
    let source = c.args.source in
    let got_fits : FitsSigned w64 c.get.result = search rules in
    let number = to_z-of_z w64 c.get.result got_fits ∙ c.get.ensures ∙ c.lane.ensures source in
    let was : VectorAccumulator = c.index_mut.result.now in
    let few : now.used ≤ length now.slots.items = search rules in
    let at = c.in_ok-position.ensures.position in
    let op = c.seeds-seeds in
    let combine = combined_with_seed (start_of op.result) of.reduction in
    let joined = λ (v : ℕ) (h : ℤ). c.in_ok-join_weights.ensures v h
    ∙ ap (λ (n : ℤ). reduced_at of.reduction v (held_with combine was.entries v (initial_seed op.result v h)) (each_weighed (arithmetic of.operator n) es)) number in
    let all = each_weighed (arithmetic of.operator (entry f.vectors.now.vectors of.from source)) es in
    let given = cond (of.vector == x) all [] in
    joined_slot f x of.vector p r c.args.self.now now _ was (record { vector = was.vector; reduction = was.reduction; entries = c.join_weights.new.self }) given refl
    at.0 at.1 few c.index_mut.ensures.value refl refl c.in_ok-position.ensures.held (c.in_ok-position.ensures.reduction x r own)
    (λ v h same. along f x of.vector v of.reduction r (start_of op.result) was.entries c.join_weights.new.self h _ (λ _. all) (equal of.vector x same) (own (equal of.vector x same)) op.ensures.start
    (op.ensures.seed v h) (joined v h)
    ∙ ap (λ (b : Bool). reduced_at r v (held_with (combined_with_seed f.start r) was.entries v (first_entry f x v h)) (cond b all [])) (sym same))
    (λ off. ap (λ (b : Bool). cond b all []) off)
