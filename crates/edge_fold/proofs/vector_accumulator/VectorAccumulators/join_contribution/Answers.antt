-- Proofs of `join_contribution`, src/vector_accumulators.rt.
use Rattle.std.proofs.Common.{rules, ◌≡◌, ◌≤◌, ℕ, ℤ, false, List, [], length, refl, sym, ap, arith}
use Rattle.edge_fold.specs.declared.vector_accumulator.VectorAccumulator.{VectorAccumulator}
use Rattle.edge_fold.specs.inside.Contributions.{given_from}
use Rattle.edge_fold.specs.Contributions.{reduced_at}
use Rattle.edge_fold.specs.inside.FoldStarts.{start_of}
use Rattle.kernels.specs.ContributionColumns.{contribution_at}
use Rattle.edge_fold.proofs.JoinedSlots.{along, equal, joined_alike, joined_nothing, joined_slot}
use Rattle.edge_fold.proofs.Rows.{none_given, others_get_nothing, own_reduction}
use Rattle.edge_fold.proofs.vector_accumulator.VectorAccumulators.join_contribution.Goals as goal

pub returns-then-not-gives_some : goal.returns-then-not-gives_some
returns-then-not-gives_some c x r by =
    let self = c.args.self.now in
    let ds = c.args.destinations.now in
    let off : c.gives_some.result ≡ false = search rules in
    joined_alike c.args.context x r self self [] (given_from x (contribution_at c.args.contribution) 0 ds)
    (λ v n. sym (ap (λ (gs : List (ℕ × ℤ)). reduced_at r v n gs) (none_given x c.args.contribution 0 ds (λ k l. c.gives_some.ensures.none off k (omega (arith, l))))))
    (joined_nothing c.args.context x r self)

pub returns : goal.returns
returns c x r by =
    let now = c.position.new.self in
    let g = c.args.contribution in
    let p = c.in_ok-position.position in
    let ds = c.args.destinations.now in
    let f = c.args.context in
    let was : VectorAccumulator = c.index_mut.result.now in
    let few : now.used ≤ length now.slots.items = search rules in
    let at = c.in_ok-position.ensures.position in
    let op = c.seeds-seeds in
    let joined = c.in_ok-join_column.ensures in
    let given = λ (y : ℕ). given_from y (contribution_at g) 0 ds in
    let some = c.gives_some.ensures.some (search rules) in
    let own = own_reduction r x g some.0 some.2 (by some.0 some.1) in
    joined_slot f x g.vector p r c.args.self.now now _ was (record { vector = was.vector; reduction = was.reduction; entries = c.join_column.new.self }) (given x) refl
    at.0 at.1 few c.index_mut.ensures.value refl refl c.in_ok-position.ensures.held (c.in_ok-position.ensures.reduction x r own)
    (λ v h same. along f x g.vector v g.reduction r (start_of op.result) was.entries c.join_column.new.self h _ given (equal g.vector x same) (own (equal g.vector x same)) op.ensures.start
    (op.ensures.seed v h) (joined v h))
    (λ off. others_get_nothing x g 0 ds off)
