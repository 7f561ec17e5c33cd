-- Proofs of `changes`, src/apply_changes.rt.
use Rattle.std.proofs.lemmas.Result.{IfOk-weaker}
use Rattle.std.proofs.Common.{ℕ, ◌<◌, if◌then◌else◌, ℤ, [], List, take, refl, sym, ap, ◌∙◌, arith}
use Rattle.std.specs.List.{filter}
use Rattle.weighted_edges.specs.Edge.{Edge}
use Rattle.algorithm_meaning.specs.EdgeApply.{after_edges}
use Rattle.algorithm_meaning.specs.Value.{entry}
use Rattle.edge_fold.specs.Folded.{waiting}
use Rattle.edge_fold.specs.Contributions.{all_given, given_on, pairs, reduced_at}
use Rattle.edge_fold.specs.VectorAccumulators.{active}
use Rattle.edge_fold.specs.inside.VectorAccumulators.{held_in}
use Rattle.edge_fold.proofs.Findings.{changed_agree}
use Rattle.edge_fold.proofs.JoinedSlots.{old_entries}
use Rattle.edge_fold.proofs.Meaning.{entries_after, given_by_one}
use Rattle.edge_fold.proofs.scratch.Scratch.changes.Goals as goal

pub returns-clause-changes : goal.returns-clause-changes
returns-clause-changes c =
    IfOk-weaker c.found_in_slots.result _ _ (λ found told m steps edges test are is has old x r by long.
    let flushed = c.flush.new.self in
    let f = c.args.context in
    let n = f.vertices in
    let o = entry m.vectors x in
    let g = all_given m steps in
    let h = λ (v : ℕ). held_in (active flushed.slots) x v (o v) in
    let none = ap (λ (k : ℕ). pairs (take k flushed.pairs.sources) (take k flushed.pairs.destinations) (if f.weighted then take k flushed.pairs.weights else [])) c.in_ok-flush.ensures.none in
    let own = given_by_one r x m steps by in
    let now = c.in_ok-flush.ensures.folded m steps edges are has x r own in
    let folded = λ (v : ℕ) (l : v < n). sym (ap (λ (ws : List Edge). reduced_at r v (h v) (given_on x g ws)) none)
    ∙ old_entries f m x v r (active flushed.slots) (given_on x g (waiting f.weighted flushed.pairs)) (given_on x g edges) old are.vectors (now.entries v (o v) l) in
    told m test are.vectors are.sizes is x
    ∙ changed_agree o o (λ v. if test v then h v else o v) (entry (after_edges steps m.sets m.vectors (filter (λ e. test e.1) edges) m.vectors) x)
    (λ v. refl) 0 n (λ v l. ap (λ (y : ℤ). if test v then y else o v) (folded v (omega (arith, l))) ∙ entries_after r x v m steps test edges by (omega (arith, l, long))))
    c.found_in_slots.ensures.changes
