-- What an edge apply of a run comes to.
use Rattle.std.proofs.Common.{◌≡◌, ℕ, suc, ◌+◌, ◌<◌, ◌≤◌, ℤ, pos, not, cond, List, [], ◌∷◌, Option, Some, None, length, get_or, refl, sym, ap, ap₂, ◌∙◌, subst, arith}
use Rattle.std.specs.List.{filter, range_with_len}
use Rattle.std.specs.Option.{option_map}
use Rattle.std.proofs.lemmas.List.{get_or_past}
use Rattle.typed_tree.specs.declared.statement.ApplyEnds.{ApplyEnds}
use Rattle.typed_tree.specs.declared.statement.SetValue.TheVariants as set
use Rattle.typed_tree.specs.BlockTree.{SimpleStatementTree, ApplyEdges, AssignSet, DeclareSet, Simple}
use Rattle.typed_tree.specs.ProgramTree.{ProgramTree}
use Rattle.algorithm_meaning.specs.Arithmetic.{int_equal}
use Rattle.algorithm_meaning.specs.EdgeApply.{after_edge_apply, is_modified, modified}
use Rattle.algorithm_meaning.specs.Statements.{with_vectors}
use Rattle.algorithm_meaning.specs.Meaning.{after_simple}
use Rattle.algorithm_meaning.specs.Stand.{Stand, Live}
use Rattle.algorithm_meaning.specs.State.{GraphValue, StateValue}
use Rattle.algorithm_meaning.specs.Value.{entry}
use Rattle.runner.specs.EdgeMap.{AreChangesTo}
use Rattle.plans.specs.declared.part.EdgePart.{EdgePart}
use Rattle.plans.specs.declared.part.PartResult.{PartResult}
use Rattle.plans.specs.Operation.{result_tree, ApplyEdgesOf}
use Rattle.plans.specs.declared.instruction.Instruction.{Instruction}
use Rattle.plans.specs.Fusing.{EdgeApplyTree, edge_apply_of}
use Rattle.plans.specs.Instruction.{OperationTree}
use Rattle.plans.specs.Machine.{At, act, go_on, with_result}
use Rattle.plans.specs.Reducing.{AreReduced, OperationReduces, indices_of, steps_at}
use Rattle.plans.proofs.EdgePairs.{after_part}
use Rattle.plans.proofs.Results.{result_beside_vectors, vectors_of_result}
use Rattle.run_state.specs.declared.set_update.SetUpdate.{SetUpdate}
use Rattle.run_state.specs.declared.set_update.SetUpdate.TheVariants as update
use Rattle.run_state.specs.inside.NamedSets.{HaveLength}
use Rattle.run_state.specs.SetUpdate.{with_update}
use Rattle.run_state.proofs.Lengths.{after_all_changes, count}
use Rattle.vectors.specs.declared.changes.VectorChanges.{VectorChanges}
use Rattle.vectors.specs.Changes.{with_all_changes}
use Rattle.runner.specs.declared.flow.Flow.TheVariants.{Next}
use Rattle.runner.specs.declared.memory.Memory.{Memory}
use Rattle.runner.specs.inside.Done.{HasDone}
use Rattle.runner.specs.inside.Position.{loops_of}
use Rattle.runner.specs.inside.Results.{IsUpdateFor, result_of_second, with_both}

-- vectors that have as many entries each
have_length : (n : ℕ) (vectors : List (List ℤ)) → ((x : ℕ) → x < length vectors → length (get_or vectors x []) ≡ n) → HaveLength (length vectors) n vectors
have_length n [] each = refl
have_length n (xs ∷ vectors) each =
    ap₂ (λ (k : ℕ) (ks : List ℕ). k ∷ ks) (each 0 (omega arith)) (have_length n vectors (λ x inside. each (suc x) (omega (arith, inside))))

-- changes leave the number of vectors
as_many : (n : ℕ) (before after : List (List ℤ)) (cs : List VectorChanges) → ((x : ℕ) → x < length before → length (get_or before x []) ≡ n)
    → with_all_changes cs before ≡ after → length after ≡ length before
as_many n before after cs each written =
    sym (ap (λ (vs : List (List ℤ)). length vs) written) ∙ count n (length before) (with_all_changes cs before) (after_all_changes (length before) n before cs (have_length n before each))

-- a vector that is not there has no entry
entry_past : (vectors : List (List ℤ)) (vector v : ℕ) → length vectors ≤ vector → entry vectors vector v ≡ pos 0
entry_past vectors vector v past = ap (λ (xs : List ℤ). get_or xs v (pos 0)) (get_or_past vectors vector [] past)

-- and is modified nowhere
unmodified : (vector : ℕ) (before after : List (List ℤ)) → length before ≤ vector → length after ≤ vector → (vs : List ℕ) → filter (is_modified vector before after) vs ≡ []
unmodified vector before after old new [] = refl
unmodified vector before after old new (v ∷ vs) =
    ap₂ (λ (a b : ℤ). cond (not (int_equal a b)) (v ∷ filter (is_modified vector before after) vs) (filter (is_modified vector before after) vs)) (entry_past before vector v old)
    (entry_past after vector v new)
    ∙ unmodified vector before after old new vs

pub none_modified : (n vector : ℕ) (before after : List (List ℤ)) (cs : List VectorChanges) → ((x : ℕ) → x < length before → length (get_or before x []) ≡ n)
    → length before ≤ vector → AreChangesTo n before after cs → [] ≡ modified n vector before after
none_modified n vector before after cs each past are =
    let many = as_many n before after cs each are.written in
    let behind : length after ≤ vector = omega (arith, past, many) in
    sym (unmodified vector before after past behind (range_with_len 0 n))

-- to write changes after what was taken is to take it after the changes
pub written_after : (n : ℕ) (first second : PartResult) (s : StateValue) (a b : SetUpdate) (cs : List VectorChanges) (after : List (List ℤ))
    → IsUpdateFor n s.vectors after (result_tree first) a → IsUpdateFor n s.vectors after (result_tree second) b → with_all_changes cs s.vectors ≡ after
    → with_vectors (with_update (with_update s a) b) (with_all_changes cs (with_update (with_update s a) b).vectors) ≡ with_both n first second after s
written_after n first second s a b cs after of_first of_second written =
    let one = with_result n s.vectors after (result_tree first) s in
    let two = with_result n s.vectors after (result_tree second) one in
    ap (λ (u : StateValue). with_vectors u (with_all_changes cs u.vectors)) (ap (λ (u : StateValue). with_update u b) (of_first s) ∙ of_second one)
    ∙ ap (with_vectors two) (ap (with_all_changes cs) (vectors_of_result n s.vectors after (result_tree second) one ∙ vectors_of_result n s.vectors after (result_tree first) s) ∙ written)
    ∙ result_beside_vectors n s.vectors after one.vectors after (result_tree second) one
    ∙ ap (with_result n s.vectors after (result_tree second)) (result_beside_vectors n s.vectors after s.vectors after (result_tree first) s)

-- a set that is taken uses no turn
turns_stay : (s : StateValue) (a : SetUpdate) → (with_update s a).turns ≡ s.turns
turns_stay s update.Nothing = refl
turns_stay s (update.New name set) = refl
turns_stay s (update.Other index set) = refl

pub turns_of_both : (s : StateValue) (a b : SetUpdate) → (with_update (with_update s a) b).turns ≡ s.turns
turns_of_both s a b = turns_stay (with_update s a) b ∙ turns_stay s a

-- nor does it write to a vector
vectors_stay : (s : StateValue) (a : SetUpdate) → (with_update s a).vectors ≡ s.vectors
vectors_stay s update.Nothing = refl
vectors_stay s (update.New name set) = refl
vectors_stay s (update.Other index set) = refl

pub vectors_of_both : (s : StateValue) (a b : SetUpdate) → (with_update (with_update s a) b).vectors ≡ s.vectors
vectors_of_both s a b = vectors_stay (with_update s a) b ∙ vectors_stay s a

-- the statement is this apply
module _ (p : ProgramTree) (g : GraphValue) (number : ℕ) (s : StateValue) where
  abbrev IsDoneBy : SimpleStatementTree → Option EdgeApplyTree → Type 0
  IsDoneBy a None = Unit {0}
  IsDoneBy a (Some x) = after_simple p g number a s ≡ Live (after_part p g x s)

  is_done_by : (a : SimpleStatementTree) → IsDoneBy a (edge_apply_of (Simple a))
  is_done_by (ApplyEdges ends function) = refl
  is_done_by (DeclareSet name (set.Modified ends function vector)) = refl
  is_done_by (AssignSet slot (set.Modified ends function vector)) = refl
  is_done_by a = tt

  done_by : (a : SimpleStatementTree) (x : EdgeApplyTree) → edge_apply_of (Simple a) ≡ Some x → after_simple p g number a s ≡ Live (after_part p g x s)
  done_by a x is = subst (IsDoneBy a) is (is_done_by a)

-- the functions of one part or two
abbrev pub function_indices : EdgePart → Option EdgePart → List ℕ
function_indices first second = indices_of first.function (option_map (λ (part : EdgePart). part.function) second)

-- an operation's functions give each vector numbers by one reduction
pub are_reduced : (p : ProgramTree) (ends : ApplyEnds) (first : EdgePart) (second : Option EdgePart) (t : OperationTree) → ApplyEdgesOf ends first second t → OperationReduces p t
    → (m : StateValue) → AreReduced (steps_at p.edge_functions (function_indices first second)) m
are_reduced p ends first None t is reduces = (subst (λ (o : OperationTree). OperationReduces p o) is.is reduces) _ is.applies
are_reduced p ends first (Some second) t is reduces = subst (λ (o : OperationTree). OperationReduces p o) is reduces

-- an apply of one edge function, or of two
pub edges_done : (i : Instruction) (old new : Memory) (p : ProgramTree) (g : GraphValue) (ends : ApplyEnds) (first : EdgePart) (second : Option EdgePart) (t : OperationTree)
    → ApplyEdgesOf ends first second t
    → ((index : ℕ) → At (index + 1) (loops_of new) new.state.state ≡ At (index + 1) (loops_of old)
    (with_both g.vertices first.result (result_of_second second) (after_edge_apply p.filters p.edge_functions g ends (function_indices first second) old.state.state) old.state.state))
    → HasDone i Next old new p g t
edges_done i old new p g ends first None t is stands index =
    stands index ∙ sym (ap (λ (o : OperationTree). act p g o i.number i.shown index (loops_of old) old.state.state) is.is
    ∙ ap (λ (after : Stand). go_on (index + 1) (loops_of old) i.shown after) (done_by p g i.number old.state.state is.action _ is.applies))
edges_done i old new p g ends first (Some second) t is stands index =
    stands index ∙ sym (ap (λ (o : OperationTree). act p g o i.number i.shown index (loops_of old) old.state.state) is)
