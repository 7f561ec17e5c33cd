-- The bound on the steps of instructions is that on the steps of their plan.
use Rattle.std.proofs.Common.{◌≡◌, ℕ, zero, suc, ◌+◌, ◌*◌, ◌<◌, Bool, true, false, List, [], ◌∷◌, map, length, Option, Some, None, slice_get, ap, sym, ◌∙◌, refl, subst, arith}
use Rattle.typed_tree.specs.declared.expression.VarRef.{VarRef}
use Rattle.typed_tree.specs.declared.statement.ApplyEnds.{ApplyEnds}
use Rattle.typed_tree.specs.IntExpressionTree.{IntExpressionTree}
use Rattle.typed_tree.specs.BoolExpressionTree.{BoolExpressionTree, Literal}
use Rattle.typed_tree.specs.BlockTree.{SimpleStatementTree, DeclareSet, AssignSet, AddVertex, ApplyVertex}
use Rattle.algorithm_meaning.specs.declared.state.Depth.{Depth}
use Rattle.plans.specs.Instruction.{EdgePartTree, OperationTree, Do, ApplyEdgesTogether, ApplyVerticesTogether, Unless, Enter, UnlessBelow, Advance, Turn, Jump, End, InstructionTree}
use Rattle.algorithm_meaning.specs.declared.state.LoopCounter.{LoopCounter}
use Rattle.plans.specs.Plan.{plan_of}
use Rattle.plans.specs.PlanOf.{IsPlan, program_of}
use Rattle.plans.specs.Machine.{Configuration, At, Ended, step}
use Rattle.plans.proofs.Whole.{steps_lower}
use Rattle.algorithm_meaning.specs.State.{GraphValue, StateValue}
use Rattle.apply_options.specs.ScheduleTree.{ScheduleTree}
use Rattle.typed_tree.specs.ProgramTree.{ProgramTree}
use Rattle.plans.specs.declared.plan.Plan.{Plan}
use Rattle.std.proofs.Math.Bridge.{le_prop}
use Rattle.std.proofs.Math.Logic.{∥∥₁_elim}
use Rattle.std.proofs.lemmas.List.{length-map}
use Rattle.plans.specs.Bound.{uses_turn, is_turn, rank_by, rank_where, most_steps}
use Rattle.plans.specs.Operation.{bool_statement, entry_statement, int_statement, part_tree, set_value, IsOperation, AreInstructions}
use Rattle.plans.specs.declared.instruction.Instruction.{Instruction}
use Rattle.plans.specs.declared.operation.PlanOperation.{PlanOperation}
use Rattle.plans.specs.declared.operation.PlanOperation.TheVariants as op
use Rattle.plans.specs.declared.operation.ValueOperation.TheVariants as value_op
use Rattle.plans.specs.declared.operation.SetOperation.TheVariants as set_op
use Rattle.plans.specs.declared.operation.ApplyOperation.TheVariants as apply_op
use Rattle.plans.specs.declared.operation.ControlOperation.TheVariants as control_op
use Rattle.plans.specs.inside.Outline.{outline, outline_of, most_steps_of}

-- the bound sees no difference
record SameBound (o t : OperationTree) : Type 0 where
  turn : uses_turn o ≡ uses_turn t
  rank : (count index : ℕ) (before_turn : Bool) → rank_by count index o before_turn ≡ rank_by count index t before_turn

itself_alike : (o : OperationTree) → SameBound o o
itself_alike o = record { turn = refl; rank = λ count index b. refl }

do_alike : (action : SimpleStatementTree) → SameBound End (Do action)
do_alike action = record { turn = refl; rank = λ count index b. by_test count index b }
  where
    by_test : (count index : ℕ) (b : Bool) → rank_by count index End b ≡ rank_by count index (Do action) b
    by_test count index true = refl
    by_test count index false = refl

vertices_alike : (set : VarRef) (f g : ℕ) → SameBound End (ApplyVerticesTogether set f g)
vertices_alike set f g = record { turn = refl; rank = λ count index b. by_test count index b }
  where
    by_test : (count index : ℕ) (b : Bool) → rank_by count index End b ≡ rank_by count index (ApplyVerticesTogether set f g) b
    by_test count index true = refl
    by_test count index false = refl

edges_alike : (ends : ApplyEnds) (first second : EdgePartTree) → SameBound End (ApplyEdgesTogether ends first second)
edges_alike ends first second = record { turn = refl; rank = λ count index b. by_test count index b }
  where
    by_test : (count index : ℕ) (b : Bool) → rank_by count index End b ≡ rank_by count index (ApplyEdgesTogether ends first second) b
    by_test count index true = refl
    by_test count index false = refl

unless_alike : (c : BoolExpressionTree) (to : ℕ) → SameBound (Unless (Literal true) to) (Unless c to)
unless_alike c to = record { turn = refl; rank = λ count index b. by_test count index b }
  where
    by_test : (count index : ℕ) (b : Bool) → rank_by count index (Unless (Literal true) to) b ≡ rank_by count index (Unless c to) b
    by_test count index true = refl
    by_test count index false = refl

enter_alike : (name : ℕ) (e : IntExpressionTree) → SameBound End (Enter name e)
enter_alike name e = record { turn = refl; rank = λ count index b. by_test count index b }
  where
    by_test : (count index : ℕ) (b : Bool) → rank_by count index End b ≡ rank_by count index (Enter name e) b
    by_test count index true = refl
    by_test count index false = refl

advance_alike : (name : ℕ) → SameBound End (Advance name)
advance_alike name = record { turn = refl; rank = λ count index b. by_test count index b }
  where
    by_test : (count index : ℕ) (b : Bool) → rank_by count index End b ≡ rank_by count index (Advance name) b
    by_test count index true = refl
    by_test count index false = refl

jump_alike : (to : ℕ) → SameBound End (Jump to)
jump_alike to = record { turn = refl; rank = λ count index b. by_test count index b }
  where
    by_test : (count index : ℕ) (b : Bool) → rank_by count index End b ≡ rank_by count index (Jump to) b
    by_test count index true = refl
    by_test count index false = refl

-- of an operation it sees the outline
sees_alike : (keep shown : Depth) (o : PlanOperation) (t : OperationTree) → IsOperation keep shown o t → SameBound (outline o) t
sees_alike keep shown (op.Value (value_op.Int k used)) t is = subst (SameBound End) (sym is.is) (do_alike (int_statement used is.tree))
sees_alike keep shown (op.Value (value_op.Bool k used)) t is = subst (SameBound End) (sym is.is) (do_alike (bool_statement used is.tree))
sees_alike keep shown (op.Value (value_op.AddVertex slot k)) t is = subst (SameBound End) (sym is.is) (do_alike (AddVertex slot is.tree))
sees_alike keep shown (op.Entry entry) t is = subst (SameBound End) (sym is.is) (do_alike (entry_statement entry.vector entry.used is.index_tree is.value_tree))
sees_alike keep shown (op.Set (set_op.DeclareSet name members)) t is = subst (SameBound End) (sym is) (do_alike (DeclareSet name (set_value members)))
sees_alike keep shown (op.Set (set_op.AssignSet slot members)) t is = subst (SameBound End) (sym is) (do_alike (AssignSet slot (set_value members)))
sees_alike keep shown (op.Apply (apply_op.ApplyVertices set first None)) t is = subst (SameBound End) (sym is) (do_alike (ApplyVertex set first))
sees_alike keep shown (op.Apply (apply_op.ApplyVertices set first (Some second))) t is = subst (SameBound End) (sym is) (vertices_alike set first second)
sees_alike keep shown (op.Apply (apply_op.ApplyEdges ends first None)) t is = subst (SameBound End) (sym is.is) (do_alike (is.action))
sees_alike keep shown (op.Apply (apply_op.ApplyEdges ends first (Some second))) t is = subst (SameBound End) (sym is) (edges_alike ends (part_tree first) (part_tree second))
sees_alike keep shown (op.Control (control_op.Unless k to)) t is = subst (SameBound (Unless (Literal true) to)) (sym is.is) (unless_alike is.tree to)
sees_alike keep shown (op.Control (control_op.Enter name k)) t is = subst (SameBound End) (sym is.is) (enter_alike name is.tree)
sees_alike keep shown (op.Control (control_op.UnlessBelow name to)) t is = subst (SameBound (UnlessBelow name to)) (sym is) (itself_alike (UnlessBelow name to))
sees_alike keep shown (op.Control (control_op.Advance name)) t is = subst (SameBound End) (sym is) (advance_alike name)
sees_alike keep shown (op.Control control_op.Turn) t is = subst (SameBound Turn) (sym is) (itself_alike Turn)
sees_alike keep shown (op.Control (control_op.Jump to)) t is = subst (SameBound End) (sym is) (jump_alike to)
sees_alike keep shown (op.Control control_op.End) t is = subst (SameBound End) (sym is) (itself_alike End)

abbrev SameAt : Option InstructionTree → Option InstructionTree → Type 0
SameAt None None = Unit {0}
SameAt None (Some t) = ⊥
SameAt (Some i) None = ⊥
SameAt (Some i) (Some t) = SameBound i.operation t.operation

same_length : (is : List Instruction) (ts : List InstructionTree) → AreInstructions is ts → length (map outline_of is) ≡ length ts
same_length [] [] are = refl
same_length [] (t ∷ ts) are = absurd are
same_length (i ∷ is) [] are = absurd are
same_length (i ∷ is) (t ∷ ts) are = ap suc (same_length is ts are.1)

same_at : (is : List Instruction) (ts : List InstructionTree) → AreInstructions is ts → (index : ℕ) → SameAt (slice_get (map outline_of is) index) (slice_get ts index)
same_at [] [] are index = tt
same_at [] (t ∷ ts) are index = absurd are
same_at (i ∷ is) [] are index = absurd are
same_at (i ∷ is) (t ∷ ts) are zero = sees_alike i.keep i.shown i.operation t.operation are.0.operation
same_at (i ∷ is) (t ∷ ts) are (suc n) = same_at is ts are.1 n

same_turn : (a b : Option InstructionTree) → SameAt a b → is_turn a ≡ is_turn b
same_turn None None same = refl
same_turn None (Some t) same = absurd same
same_turn (Some i) None same = absurd same
same_turn (Some i) (Some t) same = same.turn

same_rank : (is ts : List InstructionTree) (index : ℕ) (a b : Option InstructionTree) → length is ≡ length ts → is_turn (slice_get is (index + 1)) ≡ is_turn (slice_get ts (index + 1)) → SameAt a b
    → rank_where is index a ≡ rank_where ts index b
same_rank is ts index None None long next same = refl
same_rank is ts index None (Some t) long next same = absurd same
same_rank is ts index (Some i) None long next same = absurd same
same_rank is ts index (Some i) (Some t) long next same =
    (λ j. rank_by (long j) index i.operation (next j)) ∙ same.rank (length ts) index (is_turn (slice_get ts (index + 1)))

-- instructions and their plan have the same bound
pub same_bound : (is : List Instruction) (ts : List InstructionTree) → AreInstructions is ts → (c : Configuration) → most_steps_of is c ≡ most_steps ts c
same_bound is ts are (Ended s end) = refl
same_bound is ts are (At index loops s) =
    let os = map outline_of is in
    let long = same_length is ts are in
    let next = same_turn (slice_get os (index + 1)) (slice_get ts (index + 1)) (same_at is ts are (index + 1)) in
    let ranks = same_rank os ts index (slice_get os index) (slice_get ts index) long next (same_at is ts are index) in
    λ j. s.turns * (2 * long j + 2) + ranks j + 1

-- a step of a plan, from wherever an instruction stands, lowers the bound
pub step_falls : (plan : Plan) (g : GraphValue) (index : ℕ) (loops : List LoopCounter) (s : StateValue) (next : Configuration) → index < length plan.instructions.items
    → ((p : ProgramTree) (schedule : ScheduleTree) → IsPlan plan p schedule → next ≡ step p g (plan_of p schedule) (At index loops s))
    → most_steps_of plan.instructions.items next < most_steps_of plan.instructions.items (At index loops s)
step_falls plan g index loops s next within goes =
    ∥∥₁_elim plan.lowered le_prop (λ of.
    let p = program_of plan in
    let ts = plan_of p of.schedule in
    let is = plan.instructions.items in
    let are = of.planned.instructions in
    let now = At index loops s in
    let long = same_length is ts are in
    let inside : index < length ts = omega (arith, within, long, length-map is outline_of) in
    let next_is = goes p of.schedule of.planned in
    let fewer = steps_lower p of.schedule g now inside in
    let before : most_steps_of is now ≡ most_steps ts now = same_bound is ts are now in
    let after : most_steps_of is next ≡ most_steps ts (step p g ts now) = same_bound is ts are next ∙ ap (most_steps ts) next_is in
    omega (arith, before, after, fewer))
