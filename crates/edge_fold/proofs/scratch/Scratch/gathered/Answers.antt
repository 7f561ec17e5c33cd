-- Proofs of `gathered`, src/gathered.rt.
use Rattle.std.proofs.lemmas.Result.{IfOk-at_ok}
use Rattle.std.proofs.Common.{ℕ, ◌<◌, ℤ, [], if◌then◌else◌, List, take, sym, ap, ◌∙◌}
use Rattle.weighted_edges.specs.Edge.{Edge}
use Rattle.edge_fold.proofs.Endings.{if_each_ok}
use Rattle.edge_fold.specs.declared.apply_context.FoldStart.TheVariants as start
use Rattle.edge_fold.specs.Folded.{waiting}
use Rattle.edge_fold.specs.Contributions.{all_given, given_on, pairs, reduced_at}
use Rattle.edge_fold.specs.FoldStarts.{combined_with_seed}
use Rattle.edge_fold.specs.VectorAccumulators.{active, held_in_with}
use Rattle.edge_fold.proofs.JoinedSlots.{unit_entries}
use Rattle.edge_fold.proofs.Meaning.{filtered_edges}
use Rattle.edge_fold.proofs.scratch.Scratch.gathered.Goals as goal

pub returns-clause-given : goal.returns-clause-given
returns-clause-given c =
    if_each_ok c.gathered_in_slots.result _ (λ found was m steps edges test are is has unit x r by.
    let flushed = c.flush.new.self in
    let f = c.args.context in
    let g = all_given m steps in
    let ss = active flushed.slots in
    let none = ap (λ (k : ℕ). pairs (take k flushed.pairs.sources) (take k flushed.pairs.destinations) (if f.weighted then take k flushed.pairs.weights else [])) c.in_ok-flush.ensures.none in
    let now = c.in_ok-flush.ensures.folded m steps edges are has x r by in
    let folded = λ (v : ℕ) (h : ℤ) (l : v < f.vertices).
    sym (ap (λ (ws : List Edge). reduced_at r v (held_in_with (combined_with_seed start.Unit r) ss x v h) (given_on x g ws)) none)
    ∙ unit_entries f x v h r ss (given_on x g (waiting f.weighted flushed.pairs)) (given_on x g edges) unit (now.entries v h l) in
    record {
      reduction = IfOk-at_ok _ was c.gathered_in_slots.ensures.reduction x r now.reduction;
      numbers = λ v h l.
          IfOk-at_ok _ was c.gathered_in_slots.ensures.numbers m test are.vectors are.sizes is x v r h l
          ∙ ap (λ (n : ℤ). if test v then n else h) (folded v h l)
          ∙ sym (filtered_edges r x v h test g edges);
    })
