-- Two edge applies together.
use Rattle.std.proofs.Common.{◌≡◌, ℕ, ℤ, true, List, [], ◌∷◌, ◌++◌, length, Option, Some, None, slice_get, slice_index_or, ap, sym, ◌∙◌, refl}
use Rattle.typed_tree.specs.FunctionStatementTree.{FunctionTree, FunctionStatementsTree}
use Rattle.typed_tree.specs.ProgramTree.{ProgramTree}
use Rattle.algorithm_meaning.specs.State.{GraphValue, StateValue}
use Rattle.algorithm_meaning.specs.Statements.{with_vectors}
use Rattle.algorithm_meaning.specs.Function.{steps_of}
use Rattle.algorithm_meaning.specs.EdgeApply.{after_edge_apply, after_edges, matching, gives}
use Rattle.typed_tree.specs.Independence.{is_none_of, are_apart, end_reads, function_uses, function_writes}
use Rattle.typed_tree.specs.inside.Access.{steps_use, steps_use_where, steps_write, steps_write_where}
use Rattle.std.proofs.lemmas.Bool.{and_parts}
use Rattle.weighted_edges.specs.Edge.{Edge}
use Rattle.algorithm_meaning.specs.declared.state.Depth.{Depth}
use Rattle.plans.specs.Fusing.{EdgeApplyTree, result_indices, result_vectors, end_sets, function_sizes, is_same_end, edges_fit}
use Rattle.plans.specs.Machine.{with_result, after_parts}
use Rattle.plans.proofs.Beside.{AgreeBut, SetsAgreeBut, both_parts, gives_same}
use Rattle.plans.proofs.GivenVectors.{writes_of_steps}
use Rattle.plans.proofs.EdgeFunctions.{unwritten_stays, one_behind_other, second_leaves}
use Rattle.plans.proofs.Results.{result_agrees, result_beside_vectors, vectors_of_result, sets_of_result}
use Rattle.plans.proofs.Matching.{uses_of, writes_of, sizes_of, matching_same}

-- the state after an edge apply, and after what is done with what it changed
abbrev pub after_part : ProgramTree → GraphValue → EdgeApplyTree → StateValue → StateValue
after_part p g x s =
    let vectors = after_edge_apply p.filters p.edge_functions g x.ends (x.part.function ∷ []) s in
    with_result g.vertices s.vectors vectors x.part.result (with_vectors s vectors)

-- what the second of two applies is checked for, one by one
record AreChecked (p : ProgramTree) (d : Depth) (x y : EdgeApplyTree) : Type 0 where
  from : is_same_end x.ends.from y.ends.from ≡ true
  to : is_same_end x.ends.to y.ends.to ≡ true
  uses : are_apart (function_uses p.edge_functions y.part.function) (function_writes p.edge_functions x.part.function) ≡ true
  from_reads : are_apart (end_reads p.filters y.ends.from) (function_writes p.edge_functions x.part.function) ≡ true
  to_reads : are_apart (end_reads p.filters y.ends.to) (function_writes p.edge_functions x.part.function) ≡ true
  from_sets : are_apart (end_sets p.filters y.ends.from) (result_indices d x.part.result) ≡ true
  to_sets : are_apart (end_sets p.filters y.ends.to) (result_indices d x.part.result) ≡ true
  sizes : are_apart (function_sizes p.edge_functions y.part.function) (result_indices d x.part.result) ≡ true
  first_result : are_apart (result_vectors x.part.result) (function_writes p.edge_functions y.part.function) ≡ true
  second_result : are_apart (result_vectors y.part.result) (function_writes p.edge_functions x.part.function) ≡ true

fit_together : (p : ProgramTree) (d : Depth) (x y : EdgeApplyTree) → edges_fit p d x y ≡ true → AreChecked p d x y
fit_together p d x y h =
    let indices = result_indices d x.part.result in
    let writes = function_writes p.edge_functions x.part.function in
    let ends_and = and_parts _ _ h in
    let ends = and_parts _ _ ends_and.0 in
    let independent_and = and_parts _ _ ends_and.1 in
    let independent = and_parts _ _ independent_and.0 in
    let uses_and = and_parts _ _ independent.1 in
    let reads = and_parts _ _ uses_and.1 in
    let sets_and = and_parts _ _ independent_and.1 in
    let results = and_parts _ _ sets_and.1 in
    let from_and = both_parts (λ v. is_none_of v indices) (end_sets p.filters y.ends.from) (end_sets p.filters y.ends.to ++ function_sizes p.edge_functions y.part.function) sets_and.0 in
    let to_and = both_parts (λ v. is_none_of v indices) (end_sets p.filters y.ends.to) (function_sizes p.edge_functions y.part.function) from_and.1 in
    record {
      from = ends.0;
      to = ends.1;
      uses = uses_and.0;
      from_reads = reads.0;
      to_reads = reads.1;
      from_sets = from_and.0;
      to_sets = to_and.0;
      sizes = to_and.1;
      first_result = results.0;
      second_result = results.1;
    }

module _ (p : ProgramTree) (g : GraphValue) (d : Depth) (x y : EdgeApplyTree) (s : StateValue) (fit : AreChecked p d x y) (deep : length s.sets ≡ d.sets) where
  abbrev first : FunctionStatementsTree
  first = steps_of (slice_get p.edge_functions x.part.function)

  abbrev second : FunctionStatementsTree
  second = steps_of (slice_get p.edge_functions y.part.function)

  abbrev edges : List Edge
  edges = matching p.filters g s x.ends

  -- after the first, after the second, and after both together
  abbrev between : StateValue
  between = after_part p g x s

  abbrev behind_first : List (List ℤ)
  behind_first = after_edges (first ∷ []) s.sets s.vectors edges s.vectors

  abbrev behind_both : List (List ℤ)
  behind_both = after_edges (first ∷ second ∷ []) s.sets s.vectors edges s.vectors

  first_writes : (vectors : List ℕ) → are_apart vectors (function_writes p.edge_functions x.part.function) ≡ true → are_apart vectors (steps_write first) ≡ true
  first_writes vectors h = ap (are_apart vectors) (writes_of (slice_get p.edge_functions x.part.function)) ∙ h

  second_writes : (vectors : List ℕ) → are_apart vectors (function_writes p.edge_functions y.part.function) ≡ true → are_apart vectors (steps_write second) ≡ true
  second_writes vectors h = ap (are_apart vectors) (writes_of (slice_get p.edge_functions y.part.function)) ∙ h

  vectors_between : between.vectors ≡ behind_first
  vectors_between = vectors_of_result g.vertices s.vectors behind_first x.part.result (with_vectors s behind_first)

  rows_between : AgreeBut (steps_write first) s.vectors between.vectors
  rows_between vector h =
      sym (ap (λ (ys : List (List ℤ)). slice_index_or ys vector []) vectors_between ∙ unwritten_stays first s.sets s.vectors edges s.vectors vector h)

  sets_between : SetsAgreeBut (result_indices d x.part.result) s.sets between.sets
  sets_between = sets_of_result g.vertices s.vectors behind_first x.part.result d (with_vectors s behind_first) deep

  same_edges : edges ≡ matching p.filters g between y.ends
  same_edges =
      matching_same p.filters (steps_write first) (result_indices d x.part.result) s between rows_between sets_between g x.ends y.ends fit.from fit.to
      (first_writes (end_reads p.filters y.ends.from) fit.from_reads) fit.from_sets (first_writes (end_reads p.filters y.ends.to) fit.to_reads) fit.to_sets

  uses_apart : are_apart (steps_use second) (steps_write first) ≡ true
  uses_apart = ap (λ (xs : List ℕ). are_apart xs (steps_write first)) (uses_of (slice_get p.edge_functions y.part.function)) ∙ first_writes (function_uses p.edge_functions y.part.function) fit.uses

  second_gives : (e : Edge) → gives second between.sets between.vectors e ≡ gives second s.sets s.vectors e
  second_gives e =
      sym (gives_same (steps_write first) (result_indices d x.part.result) s.sets between.sets sets_between second s.vectors between.vectors rows_between uses_apart
      (ap (λ (xs : List ℕ). are_apart xs (result_indices d x.part.result)) (sizes_of (slice_get p.edge_functions y.part.function)) ∙ fit.sizes) e)

  writes_apart : are_apart (steps_write second) (steps_write first) ≡ true
  writes_apart = writes_of_steps (λ v. is_none_of v (steps_write first)) second uses_apart

  behind_second : after_edge_apply p.filters p.edge_functions g y.ends (y.part.function ∷ []) between ≡ behind_both
  behind_second =
      ap (λ (es : List Edge). after_edges (second ∷ []) between.sets between.vectors es between.vectors) (sym same_edges)
      ∙ one_behind_other first second writes_apart s.sets between.sets s.vectors between.vectors edges second_gives vectors_between

  rows_first : AgreeBut (steps_write first) between.vectors s.vectors
  rows_first vector h = sym (rows_between vector h)

  one_after_other : after_part p g y between ≡ after_parts p g x.ends (x.part ∷ y.part ∷ []) s
  one_after_other =
      (λ i. with_result g.vertices between.vectors (behind_second i) y.part.result (with_vectors between (behind_second i)))
      ∙ result_agrees g.vertices (steps_write first) between.vectors behind_both s.vectors behind_both y.part.result (with_vectors between behind_both)
      (first_writes (result_vectors y.part.result) fit.second_result) rows_first (λ vector h. refl)
      ∙ ap (with_result g.vertices s.vectors behind_both y.part.result) (result_beside_vectors g.vertices s.vectors behind_first behind_first behind_both x.part.result s)
      ∙ ap (with_result g.vertices s.vectors behind_both y.part.result)
      (result_agrees g.vertices (steps_write second) s.vectors behind_first s.vectors behind_both x.part.result (with_vectors s behind_both)
      (second_writes (result_vectors x.part.result) fit.first_result) (λ vector h. refl) (second_leaves first second writes_apart s.sets s.vectors edges))

-- the second after the first, or both at once
pub edges_at_once : (p : ProgramTree) (g : GraphValue) (d : Depth) (x y : EdgeApplyTree) (s : StateValue) → edges_fit p d x y ≡ true → length s.sets ≡ d.sets
    → after_parts p g x.ends (x.part ∷ y.part ∷ []) s ≡ after_part p g y (after_part p g x s)
edges_at_once p g d x y s fit deep = sym (one_after_other p g d x y s (fit_together p d x y fit) deep)

writes_where : (f : Option FunctionTree) (others : List ℕ) → are_apart (steps_use_where f) others ≡ true → are_apart (steps_write_where f) others ≡ true
writes_where None others h = refl
writes_where (Some f) others h = writes_of_steps (λ v. is_none_of v others) f.steps h

-- they write no vector both
pub writes_fit : (p : ProgramTree) (d : Depth) (x y : EdgeApplyTree) → edges_fit p d x y ≡ true
    → are_apart (function_writes p.edge_functions y.part.function) (function_writes p.edge_functions x.part.function) ≡ true
writes_fit p d x y fit =
    writes_where (slice_get p.edge_functions y.part.function) (function_writes p.edge_functions x.part.function) (fit_together p d x y fit).uses
