-- Proofs of `join_gathered`, src/vector_accumulators.rt.
use Rattle.std.proofs.Common.{◌≡◌, ◌<◌, ◌≤◌, ◌==◌, ◌++◌, ◌+◌, [], cond, length, get_or, take, sym, ap, ◌∙◌}
use Rattle.std.proofs.lemmas.List.{take_all}
use Rattle.edge_fold.specs.Gathered.{gathered_for, given_numbers}
use Rattle.edge_fold.specs.Contributions.{reduced_at}
use Rattle.edge_fold.proofs.Gathering.{gathered_for_next, is_gathered_at}
use Rattle.edge_fold.proofs.JoinedSlots.{joined_alike, joined_more}
use Rattle.edge_fold.proofs.vector_accumulator.VectorAccumulators.join_gathered.Goals as goal

pub vectors-preserved : goal.vectors-preserved
vectors-preserved c = λ x r by.
    let f = c.args.context in
    let gs = c.args.gathered.now in
    let i = c.vectors.of_vector-index in
    let g = c.of_vector-item.result in
    let inside : i < length gs = c.vectors-test.true in
    let is : g ≡ get_or gs i g = c.of_vector-item.is in
    let first = gathered_for x (take i gs) in
    let one = cond (g.vector == x) (given_numbers g.numbers.items) [] in
    let own = λ (at : g.vector ≡ x). ap (λ h. h.reduction) is ∙ is_gathered_at r x gs i g by inside (sym (ap (λ h. h.vector) is) ∙ at) in
    joined_alike f x r c.args.self.now c.join_numbers.new.self (first ++ one) (gathered_for x (take (i + 1) gs))
    (λ v n. ap (λ hs. reduced_at r v n hs) (gathered_for_next x gs i g inside is))
    (joined_more f x r c.args.self.now c.vectors.self c.join_numbers.new.self first one (c.vectors.invariant x r by) (c.in_ok-join_numbers.ensures x r own))

pub returns : goal.returns
returns c x r by =
    let gs = c.args.gathered.now in
    let i = c.vectors.of_vector-index in
    let all : length gs ≤ i = c.vectors-test.false in
    joined_alike c.args.context x r c.args.self.now c.vectors.self _ _ (λ v n. ap (λ hs. reduced_at r v n (gathered_for x hs)) (take_all i gs all)) (c.vectors.invariant x r by)
