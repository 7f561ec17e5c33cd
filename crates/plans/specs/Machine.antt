-- The machine that runs a plan.
use Rattle.std.specs.Prelude.{ℕ, zero, suc, ◌+◌, ℤ, pos, int_lt, Bool, if◌then◌else◌, List, [], ◌∷◌, map, slice_get, slice_index_or, Option, Some, None}
use Rattle.typed_tree.specs.declared.statement.ApplyEnds.{ApplyEnds}
use Rattle.typed_tree.specs.FunctionStatementTree.{FunctionStatementsTree}
use Rattle.typed_tree.specs.ProgramTree.{ProgramTree}
use Rattle.algorithm_meaning.specs.declared.outcome.End.{End as Ending}
use Rattle.algorithm_meaning.specs.declared.outcome.End.TheVariants.{Finished, TurnsOver, Fault}
use Rattle.algorithm_meaning.specs.declared.state.LoopCounter.{LoopCounter}
use Rattle.algorithm_meaning.specs.declared.state.Depth.{Depth}
use Rattle.algorithm_meaning.specs.State.{GraphValue, StateValue}
use Rattle.algorithm_meaning.specs.Value.{members_of}
use Rattle.algorithm_meaning.specs.Stand.{Stand, Live, Over, int_value_in, bool_value_in}
use Rattle.algorithm_meaning.specs.Statements.{with_new_integer, with_vectors}
use Rattle.algorithm_meaning.specs.Function.{steps_of}
use Rattle.algorithm_meaning.specs.VertexSets.{with_new_set, with_members, after_vertex}
use Rattle.algorithm_meaning.specs.EdgeApply.{after_edge_apply, modified}
use Rattle.algorithm_meaning.specs.Loop.{forget_beyond, next_of}
use Rattle.algorithm_meaning.specs.Meaning.{after_simple}
use Rattle.plans.specs.Instruction.{ResultTree, Dropped, Declared, Assigned, EdgePartTree, OperationTree, Do, ApplyEdgesTogether, ApplyVerticesTogether, Unless}
use Rattle.plans.specs.Instruction.{Enter, UnlessBelow, Advance, Turn, Jump, End, InstructionTree}

-- where a run of a plan stands: before the instruction at an index, with the values of the `for` loops around it, the innermost first; or at its end
pub data Configuration : Type 0 where
  At : (index : ℕ) → (loops : List LoopCounter) → StateValue → Configuration
  Ended : StateValue → Ending → Configuration

-- what is done with the vertices where a vector changed
abbrev pub with_result : (vertices : ℕ) → (before after : List (List ℤ)) → ResultTree → StateValue → StateValue
with_result vertices before after Dropped s = s
with_result vertices before after (Declared name vector) s = with_new_set s name (modified vertices vector before after)
with_result vertices before after (Assigned slot vector) s = with_members s slot.index (modified vertices vector before after)

abbrev pub with_results : (vertices : ℕ) → (before after : List (List ℤ)) → List EdgePartTree → StateValue → StateValue
with_results vertices before after [] s = s
with_results vertices before after (part ∷ parts) s = with_results vertices before after parts (with_result vertices before after part.result s)

-- edge functions between the same ends: all read the vectors before the apply, and what they changed is known after it
abbrev pub after_parts : ProgramTree → GraphValue → ApplyEnds → List EdgePartTree → StateValue → StateValue
after_parts p g ends parts s =
    let vectors = after_edge_apply p.filters p.edge_functions g ends (map (λ part. part.function) parts) s in
    with_results g.vertices s.vectors vectors parts (with_vectors s vectors)

-- two vertex functions, both at each vertex; the sets are those of a state
abbrev pub after_both : (first second : FunctionStatementsTree) → StateValue → List ℕ → List (List ℤ) → List (List ℤ)
after_both first second s [] vectors = vectors
after_both first second s (v ∷ vs) vectors =
    after_both first second s vs (after_vertex second s.sets v (after_vertex first s.sets v vectors))

abbrev pub after_apply_both : ProgramTree → (set first second : ℕ) → StateValue → StateValue
after_apply_both p set first second s =
    with_vectors s (after_both (steps_of (slice_get p.vertex_functions first)) (steps_of (slice_get p.vertex_functions second)) s
    (members_of (slice_get s.sets set)) s.vectors)

-- at the next instruction, or at the end, where what is visible at the statement is shown
abbrev pub go_on : (index : ℕ) → List LoopCounter → (shown : Depth) → Stand → Configuration
go_on index loops shown (Live s) = At index loops s
go_on index loops shown (Over s end) = Ended (forget_beyond shown s) end

abbrev pub faulty : (number : ℕ) → (shown : Depth) → StateValue → Configuration
faulty number shown s = Ended (forget_beyond shown s) (Fault 401 number)

-- at one of two indices
abbrev pub either_index : Bool → (here there : ℕ) → List LoopCounter → StateValue → Configuration
either_index b here there loops s = At (if b then here else there) loops s

abbrev pub after_unless : Option Bool → (here there : ℕ) → List LoopCounter → (number : ℕ) → (shown : Depth) → StateValue → Configuration
after_unless None here there loops number shown s = faulty number shown s
after_unless (Some b) here there loops number shown s = either_index b here there loops s

-- the loop's name is the last variable; the bound does not see it
abbrev pub after_enter : Option ℤ → (here : ℕ) → List LoopCounter → (number : ℕ) → (shown : Depth) → StateValue → Configuration
after_enter None here loops number shown s = faulty number shown s
after_enter (Some end) here loops number shown s =
    At here (record { next = slice_index_or s.scope.integers shown.integers (pos 0); end = end } ∷ loops) (with_new_integer s end)

-- in the innermost loop; outside loops there is nothing to do
abbrev pub after_unless_below : (here there : ℕ) → List LoopCounter → StateValue → Configuration
after_unless_below here there [] s = At there [] s
after_unless_below here there (r ∷ loops) s = if int_lt r.next r.end then At here (r ∷ loops) s else At there loops s

abbrev pub after_advance : (here : ℕ) → List LoopCounter → StateValue → Configuration
after_advance here [] s = At here [] s
after_advance here (r ∷ loops) s = At here (next_of r ∷ loops) (with_new_integer (with_new_integer s (next_of r).next) (next_of r).end)

abbrev pub after_turn : (turns : ℕ) → (here : ℕ) → List LoopCounter → (shown : Depth) → StateValue → Configuration
after_turn zero here loops shown s = Ended (forget_beyond shown s) TurnsOver
after_turn (suc n) here loops shown s = At here loops (record s { turns = n })

-- what an operation of a statement does at an index, on a state without what is beyond it
abbrev pub act : ProgramTree → GraphValue → OperationTree → (number : ℕ) → (shown : Depth) → (index : ℕ) → List LoopCounter → StateValue → Configuration
act p g (Do action) number shown index loops s = go_on (index + 1) loops shown (after_simple p g number action s)
act p g (ApplyEdgesTogether ends a b) number shown index loops s = At (index + 1) loops (after_parts p g ends (a ∷ b ∷ []) s)
act p g (ApplyVerticesTogether set a b) number shown index loops s = At (index + 1) loops (after_apply_both p set.index a b s)
act p g (Unless c to) number shown index loops s = after_unless (bool_value_in g.vertices c s) (index + 1) to loops number shown s
act p g (Enter name e) number shown index loops s =
    after_enter (int_value_in g.vertices e (forget_beyond shown s)) (index + 1) loops number shown s
act p g (UnlessBelow name to) number shown index loops s = after_unless_below (index + 1) to loops s
act p g (Advance name) number shown index loops s = after_advance (index + 1) loops s
act p g Turn number shown index loops s = after_turn s.turns (index + 1) loops shown s
act p g (Jump to) number shown index loops s = At to loops s
act p g End number shown index loops s = Ended (forget_beyond shown s) Finished

-- the instruction at an index; after the last one the run has reached its end
abbrev pub act_at : ProgramTree → GraphValue → Option InstructionTree → (index : ℕ) → List LoopCounter → StateValue → Configuration
act_at p g None index loops s = Ended s Finished
act_at p g (Some i) index loops s = act p g i.operation i.number i.shown index loops (forget_beyond i.keep s)

-- one instruction; a run that has ended stays
abbrev pub step : ProgramTree → GraphValue → List InstructionTree → Configuration → Configuration
step p g plan (At index loops s) = act_at p g (slice_get plan index) index loops s
step p g plan (Ended s end) = Ended s end

abbrev pub steps : ProgramTree → GraphValue → List InstructionTree → ℕ → Configuration → Configuration
steps p g plan zero c = c
steps p g plan (suc n) c = steps p g plan n (step p g plan c)

-- where a run begins
abbrev pub first_configuration : StateValue → Configuration
first_configuration s = At 0 [] s

-- where a run is at its end: one that continues has reached the end of main
abbrev pub finish : Stand → Configuration
finish (Live s) = Ended s Finished
finish (Over s end) = Ended s end
