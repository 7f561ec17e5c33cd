-- The lines of a plan's instructions.
use Rattle.std.proofs.Common.{◌≡◌, ◌≢◌, ◌<◌, ◌≤◌, ◌+◌, ℕ, List, [], ◌∷◌, ◌++◌, Some, None, length, drop, get_or, decimal, sym, ap, ◌∙◌, subst, append_assoc, append-nil}
use Rattle.std.proofs.lemmas.List.{drop_all, drop_more}
use Rattle.typed_tree.specs.ProgramTree.{ProgramTree}
use Rattle.algorithm_meaning.specs.declared.state.Depth.{Depth}
use Rattle.plans.specs.Instruction.{OperationTree, InstructionTree}
use Rattle.plan_text.specs.Expressions.{spaced_words, spaced}
use Rattle.plan_text.proofs.Spaces.{absurd_cons, spaced_append}
use Rattle.plans.specs.declared.instruction.Instruction.{Instruction}
use Rattle.plans.specs.declared.operation.PlanOperation.{PlanOperation}
use Rattle.plans.specs.declared.operation.PlanOperation.TheVariants as op
use Rattle.plans.specs.declared.operation.ValueOperation.TheVariants as value_op
use Rattle.plans.specs.declared.operation.SetOperation.TheVariants as set_op
use Rattle.plans.specs.declared.operation.ApplyOperation.TheVariants as apply_op
use Rattle.plans.specs.declared.operation.ControlOperation.TheVariants as control_op
use Rattle.plans.specs.Operation.{AreInstructions, IsOperation}
use Rattle.lowering.specs.inside.Targets.{indices_of}
use Rattle.lowering.specs.Text.{AreWritten, IsWritten, instruction_line, instruction_lines, operation_words, target_words}

-- instructions that keep their words are instructions
pub written_instructions : (p : ProgramTree) (is : List Instruction) (ts : List InstructionTree) → AreWritten p is ts → AreInstructions is ts
written_instructions p [] [] all = tt
written_instructions p [] (t ∷ ts) all = absurd all
written_instructions p (i ∷ is) [] all = absurd all
written_instructions p (i ∷ is) (t ∷ ts) all = (all.0.instruction, written_instructions p is ts all.1)

-- an operation goes where its tree does
pub target_words_of : (keep shown : Depth) (operation : PlanOperation) (o : OperationTree) → IsOperation keep shown operation o → indices_of operation ≡ target_words o
target_words_of keep shown (op.Value (value_op.Int k used)) o h = ap target_words (sym h.is)
target_words_of keep shown (op.Value (value_op.Bool k used)) o h = ap target_words (sym h.is)
target_words_of keep shown (op.Value (value_op.AddVertex slot k)) o h = ap target_words (sym h.is)
target_words_of keep shown (op.Entry entry) o h = ap target_words (sym h.is)
target_words_of keep shown (op.Set (set_op.DeclareSet name members)) o h = ap target_words (sym h)
target_words_of keep shown (op.Set (set_op.AssignSet slot members)) o h = ap target_words (sym h)
target_words_of keep shown (op.Apply (apply_op.ApplyVertices set first None)) o h = ap target_words (sym h)
target_words_of keep shown (op.Apply (apply_op.ApplyVertices set first (Some second))) o h = ap target_words (sym h)
target_words_of keep shown (op.Apply (apply_op.ApplyEdges ends first None)) o h = ap target_words (sym h.is)
target_words_of keep shown (op.Apply (apply_op.ApplyEdges ends first (Some second))) o h = ap target_words (sym h)
target_words_of keep shown (op.Control (control_op.Unless k to)) o h = ap target_words (sym h.is)
target_words_of keep shown (op.Control (control_op.Enter name k)) o h = ap target_words (sym h.is)
target_words_of keep shown (op.Control (control_op.UnlessBelow name to)) o h = ap target_words (sym h)
target_words_of keep shown (op.Control (control_op.Advance name)) o h = ap target_words (sym h)
target_words_of keep shown (op.Control control_op.Turn) o h = ap target_words (sym h)
target_words_of keep shown (op.Control (control_op.Jump to)) o h = ap target_words (sym h)
target_words_of keep shown (op.Control control_op.End) o h = ap target_words (sym h)

regroup : (old number words target : List ℕ) → (((old ++ number) ++ 32 ∷ []) ++ words) ++ target ≡ old ++ (number ++ 32 ∷ (words ++ target))
regroup old number words target = simp append_assoc

-- a number, the words of an instruction, and where it may go
pub words_of_line : (p : ProgramTree) (index : ℕ) (i : Instruction) (t : InstructionTree) (old a b d e : List ℕ) → IsWritten p i t
    → a ≡ old ++ decimal index → b ≡ a ++ 32 ∷ [] → d ≡ b ++ i.words.items → e ≡ d ++ spaced (indices_of i.operation)
    → e ≡ old ++ spaced (decimal index ∷ (operation_words p t.apply_schedule t.operation ++ target_words t.operation))
words_of_line p index i t old a b d e written number space words target =
    let ws = operation_words p t.apply_schedule t.operation in
    let vs = target_words t.operation in
    let behind : spaced (indices_of i.operation) ≡ spaced vs = ap spaced (target_words_of i.keep i.shown i.operation t.operation written.instruction.operation) in
    target
    ∙ ap (λ x. x ++ spaced (indices_of i.operation)) (words ∙ ap (λ x. x ++ i.words.items) (space ∙ ap (λ x. x ++ 32 ∷ []) number))
    ∙ ap (λ x. (((old ++ decimal index) ++ 32 ∷ []) ++ x) ++ spaced (indices_of i.operation)) written.words
    ∙ ap (λ x. (((old ++ decimal index) ++ 32 ∷ []) ++ spaced ws) ++ x) behind
    ∙ regroup old (decimal index) (spaced ws) (spaced vs)
    ∙ ap (λ x. old ++ (decimal index ++ 32 ∷ x)) (sym (spaced_append ws vs))

-- that line is written when it is ended
pub line_written : (p : ProgramTree) (index : ℕ) (i : Instruction) (t : InstructionTree) (old a b d e new : List ℕ) → IsWritten p i t
    → a ≡ old ++ decimal index → b ≡ a ++ 32 ∷ [] → d ≡ b ++ i.words.items → e ≡ d ++ spaced (indices_of i.operation)
    → ((before : List ℕ) (ws : List (List ℕ)) → ws ≢ [] → e ≡ before ++ spaced ws → new ≡ before ++ (spaced_words ws ++ 10 ∷ []))
    → new ≡ old ++ instruction_line p index t
line_written p index i t old a b d e new written number space words target ends =
    ends old (decimal index ∷ (operation_words p t.apply_schedule t.operation ++ target_words t.operation)) (absurd_cons _ _)
    (words_of_line p index i t old a b d e written number space words target)

-- after a beginning of a text there are the lines of the instructions before an index; with those of the others it is the whole
pub record Writes (p : ProgramTree) (instructions : List Instruction) (index : ℕ) (text whole : List ℕ) : Type 0 where
  pub left : List InstructionTree
  pub are : AreWritten p (drop index instructions) left
  pub is : text ++ instruction_lines p index left ≡ whole

one_line : (p : ProgramTree) (i : Instruction) (is : List Instruction) (index : ℕ) (text new whole : List ℕ) (left : List InstructionTree)
    → AreWritten p (i ∷ is) left → text ++ instruction_lines p index left ≡ whole
    → ((t : InstructionTree) → IsWritten p i t → new ≡ text ++ instruction_line p index t)
    → (rest : List InstructionTree) × (AreWritten p is rest × (new ++ instruction_lines p (index + 1) rest ≡ whole))
one_line p i is index text new whole [] are all puts = absurd are
one_line p i is index text new whole (t ∷ rest) are all puts =
    (rest, (are.1, ap (λ x. x ++ instruction_lines p (index + 1) rest) (puts t are.0) ∙ append_assoc text (instruction_line p index t) (instruction_lines p (index + 1) rest) ∙ all))

pub writes_next : (p : ProgramTree) (instructions : List Instruction) (index : ℕ) (text new whole : List ℕ) (i : Instruction) → index < length instructions → i ≡ get_or instructions index i
    → Writes p instructions index text whole → ((t : InstructionTree) → IsWritten p i t → new ≡ text ++ instruction_line p index t)
    → Writes p instructions (index + 1) new whole
writes_next p instructions index text new whole i inside is before puts =
    let here : drop index instructions ≡ i ∷ drop (index + 1) instructions = drop_more instructions index i inside ∙ ap (λ x. x ∷ drop (index + 1) instructions) (sym is) in
    let more = one_line p i (drop (index + 1) instructions) index text new whole before.left (subst (λ xs. AreWritten p xs before.left) here before.are) before.is puts in
    record { left = more.0; are = more.1.0; is = more.1.1 }

none_left : (p : ProgramTree) (index : ℕ) (text whole : List ℕ) (left : List InstructionTree) → AreWritten p [] left → text ++ instruction_lines p index left ≡ whole → text ≡ whole
none_left p index text whole [] are all = sym (append-nil text) ∙ all
none_left p index text whole (t ∷ left) are all = absurd are

pub writes_all : (p : ProgramTree) (instructions : List Instruction) (index : ℕ) (text whole : List ℕ) → length instructions ≤ index → Writes p instructions index text whole → text ≡ whole
writes_all p instructions index text whole past writes =
    none_left p index text whole writes.left (subst (λ xs. AreWritten p xs writes.left) (drop_all index instructions past) writes.are) writes.is
