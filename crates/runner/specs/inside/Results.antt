-- Results of an edge apply: the vertex set that a run makes of the vertices at which a vector changed.
use Rattle.std.specs.Prelude.{Option, Some, None, ◌≡◌, ℕ, ℤ, List}
use Rattle.algorithm_meaning.specs.State.{StateValue}
use Rattle.algorithm_meaning.specs.Statements.{with_vectors}
use Rattle.plans.specs.declared.part.EdgePart.{EdgePart}
use Rattle.plans.specs.declared.part.PartResult.{PartResult}
use Rattle.plans.specs.Instruction.{ResultTree}
use Rattle.plans.specs.Machine.{with_result}
use Rattle.plans.specs.Operation.{result_tree}
use Rattle.plans.specs.declared.part.PartResult.TheVariants as result
use Rattle.run_state.specs.declared.set_update.SetUpdate.{SetUpdate}
use Rattle.run_state.specs.SetUpdate.{with_update}

-- the result of the second part, where there is one
abbrev pub result_of_second : Option EdgePart → PartResult
result_of_second None = result.Dropped
result_of_second (Some part) = part.result

-- to take the set is what is done with the vertices that changed
abbrev pub IsUpdateFor : (vertices : ℕ) → (before after : List (List ℤ)) → ResultTree → SetUpdate → Type 0
IsUpdateFor vertices before after r update = (s : StateValue) → with_update s update ≡ with_result vertices before after r s

-- the state after an apply that gave these vectors, with the results of one part or two
abbrev pub with_both : (vertices : ℕ) → (first second : PartResult) → (after : List (List ℤ)) → StateValue → StateValue
with_both vertices first second after s =
    with_result vertices s.vectors after (result_tree second) (with_result vertices s.vectors after (result_tree first) (with_vectors s after))
