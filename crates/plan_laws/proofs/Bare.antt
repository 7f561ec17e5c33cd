-- Words without spaces, line feeds and brackets.
use Rattle.std.proofs.Common.{◌≡◌, ℕ, zero, suc, ℤ, pos, negsuc, ◌<◌, ◌≤◌, ◌%◌, ◌/◌, ◌==◌, ◌&&◌, nat_lt, Bool, true, false, List, [], ◌∷◌, ◌++◌, Option, Some, None, codes, decimal, slice_get, inl}
use Rattle.std.proofs.Common.{inr, refl, arith}
use Rattle.std.specs.Fmt.{digit_glyph, digits, digits_onto, signed_decimal}
use Rattle.std.specs.List.{AllByRecursion}
use Rattle.std.proofs.lemmas.Bool.{and_parts, cases_Bool, lt-ltb, ne_eqb}
use Rattle.apply_options.specs.declared.apply_schedule.DenseVertexSet.{DenseVertexSet}
use Rattle.apply_options.specs.declared.apply_schedule.DenseVertexSet.TheVariants as dense
use Rattle.apply_options.specs.declared.apply_schedule.Direction.{Direction}
use Rattle.apply_options.specs.declared.apply_schedule.Direction.TheVariants as direction
use Rattle.apply_options.specs.declared.apply_schedule.Parallelization.{Parallelization}
use Rattle.apply_options.specs.declared.apply_schedule.Parallelization.TheVariants as parallelization
use Rattle.apply_options.specs.declared.reduction.Reduction.{Reduction}
use Rattle.apply_options.specs.declared.reduction.Reduction.TheVariants as reduction
use Rattle.typed_tree.specs.declared.expression.Operator.{Operator}
use Rattle.typed_tree.specs.declared.expression.Operator.TheVariants as operator
use Rattle.typed_tree.specs.declared.expression.ComparisonOperator.{ComparisonOperator}
use Rattle.typed_tree.specs.declared.expression.ComparisonOperator.TheVariants as comparison
use Rattle.typed_tree.specs.declared.expression.Connective.{Connective}
use Rattle.typed_tree.specs.declared.expression.Connective.TheVariants as connective
use Rattle.typed_tree.specs.declared.program.Vector.{Vector}
use Rattle.typed_tree.specs.FunctionStatementTree.{FunctionTree}
use Rattle.typed_tree.specs.IntExpressionTree as integer
use Rattle.typed_tree.specs.IntExpressionTree.{IntExpressionTree}
use Rattle.typed_tree.specs.BoolExpressionTree as condition
use Rattle.typed_tree.specs.BoolExpressionTree.{BoolExpressionTree}
use Rattle.typed_tree.specs.ProgramTree.{ProgramTree}
use Rattle.plan_text.specs.Expressions.{comparison_word, condition_words, connective_word, entry_word, integer_words, program_name_at, name_of, operator_word, truth_word, vector_name_at}
use Rattle.plan_text.specs.Lines.{dense_word, direction_word, function_name, parallelization_word, reducing_word, reduction_word}
use Rattle.plan_laws.specs.Lines.{HasBareNames, IsBare, is_bare}
use Rattle.plan_laws.proofs.CutWords.{all_at, all_both}

-- a word that is looked at byte for byte
abbrev pub each : (ℕ → Bool) → List ℕ → Bool
each test [] = true
each test (b ∷ bytes) = test b && each test bytes

each_is : (test : ℕ → Bool) (word : List ℕ) → each test word ≡ true → AllByRecursion (λ b. test b ≡ true) word
each_is test [] is = tt
each_is test (b ∷ word) is =
    let both = and_parts (test b) (each test word) is in
    (both.0, each_is test word both.1)

pub bare : (word : List ℕ) → each is_bare word ≡ true → IsBare word
bare word is = each_is is_bare word is

-- numbers
digit_is_bare : (b : ℕ) → 48 ≤ b → b ≤ 57 → is_bare b ≡ true
digit_is_bare b low high =
    let space : b == 32 ≡ false = ne_eqb b 32 (λ same. absurd (omega (arith, same, low))) in
    let feed : b == 10 ≡ false = ne_eqb b 10 (λ same. absurd (omega (arith, same, low))) in
    let opens : b == 91 ≡ false = ne_eqb b 91 (λ same. absurd (omega (arith, same, high))) in
    let closes : b == 93 ≡ false = ne_eqb b 93 (λ same. absurd (omega (arith, same, high))) in
    rw (space, feed, opens, closes) refl

glyph_is_bare : (n : ℕ) → is_bare (digit_glyph false (n % 10)) ≡ true
glyph_is_bare n =
    let small : n % 10 < 10 = omega arith in
    let test : nat_lt (n % 10) 10 ≡ true = lt-ltb (n % 10) 10 small in
    digit_is_bare (digit_glyph false (n % 10)) (rw (test) (omega arith)) (rw (test) (omega (arith, small)))

digits_are_bare : (k n : ℕ) (more : List ℕ) → IsBare more → IsBare (digits_onto k 10 false n more)
digits_are_bare zero n more are = are
digits_are_bare (suc k) n more are = elim (cases_Bool (n / 10 == 0)) [
  | inl last ↦ rw (last) (glyph_is_bare n, are)
  | inr goes ↦ rw (goes) (digits_are_bare k (n / 10) (digit_glyph false (n % 10) ∷ more) (glyph_is_bare n, are))
]

pub decimal_is_bare : (n : ℕ) → IsBare (decimal n)
unfolding digits
decimal_is_bare n = digits_are_bare 64 n [] tt

integer_is_bare : (n : ℤ) → IsBare (signed_decimal n)
integer_is_bare (pos n) = decimal_is_bare n
integer_is_bare (negsuc n) = (refl, decimal_is_bare (suc n))

-- names
pub name_is_bare : (p : ProgramTree) (name : ℕ) → HasBareNames p → IsBare (program_name_at p name)
name_is_bare p name are = all_at IsBare p.names name [] are tt

of_vector : (p : ProgramTree) (o : Option Vector) → HasBareNames p → IsBare (name_of p o)
of_vector p None are = tt
of_vector p (Some vector) are = name_is_bare p vector.name are

pub vector_is_bare : (p : ProgramTree) (vector : ℕ) → HasBareNames p → IsBare (vector_name_at p vector)
vector_is_bare p vector are = of_vector p (slice_get p.vectors vector) are

pub function_is_bare : (p : ProgramTree) (o : Option FunctionTree) → HasBareNames p → IsBare (function_name p o)
function_is_bare p None are = tt
function_is_bare p (Some f) are = name_is_bare p f.name are

pub marked_is_bare : (name mark : List ℕ) → IsBare name → IsBare mark → IsBare (name ++ mark)
marked_is_bare name mark first second = all_both (λ b. is_bare b ≡ true) name mark first second

-- operators
operator_is_bare : (o : Operator) → IsBare (operator_word o)
operator_is_bare operator.Add = bare (codes "+") refl
operator_is_bare operator.Subtract = bare (codes "-") refl
operator_is_bare operator.Multiply = bare (codes "*") refl
operator_is_bare operator.Divide = bare (codes "/") refl
operator_is_bare operator.Remainder = bare (codes "%") refl

comparison_is_bare : (o : ComparisonOperator) → IsBare (comparison_word o)
comparison_is_bare comparison.Equal = bare (codes "==") refl
comparison_is_bare comparison.NotEqual = bare (codes "!=") refl
comparison_is_bare comparison.Less = bare (codes "<") refl
comparison_is_bare comparison.LessOrEqual = bare (codes "<=") refl
comparison_is_bare comparison.Greater = bare (codes ">") refl
comparison_is_bare comparison.GreaterOrEqual = bare (codes ">=") refl

connective_is_bare : (o : Connective) → IsBare (connective_word o)
connective_is_bare connective.And = bare (codes "and") refl
connective_is_bare connective.Or = bare (codes "or") refl
connective_is_bare connective.Equal = bare (codes "==") refl
connective_is_bare connective.NotEqual = bare (codes "!=") refl

truth_is_bare : (b : Bool) → IsBare (truth_word b)
truth_is_bare true = bare (codes "true") refl
truth_is_bare false = bare (codes "false") refl

-- words of expressions
abbrev pub AreBare : List (List ℕ) → Type 0
AreBare words = AllByRecursion IsBare words

pub bare_and : (words : List (List ℕ)) (word : List ℕ) → AreBare words → IsBare word → AreBare (words ++ word ∷ [])
bare_and words word are is = all_both IsBare words (word ∷ []) are (is, tt)

pub integer_bare : (p : ProgramTree) (e : IntExpressionTree) → HasBareNames p → AreBare (integer_words p e)
integer_bare p (integer.Number n) are = (integer_is_bare n, tt)
integer_bare p (integer.Constant name n) are = (name_is_bare p name are, tt)
integer_bare p (integer.Variable slot) are = (name_is_bare p slot.name are, tt)
integer_bare p (integer.Parameter at) are = (bare (codes "vertex") refl, tt)
integer_bare p integer.Weight are = (bare (codes "weight") refl, tt)
integer_bare p (integer.EntryAt vector at) are = (marked_is_bare (vector_name_at p vector) (codes "@") (vector_is_bare p vector are) (bare (codes "@") refl), tt)
integer_bare p (integer.Entry vector index) are =
    bare_and (integer_words p index) (entry_word p vector) (integer_bare p index are)
    (marked_is_bare (vector_name_at p vector) (codes "@") (vector_is_bare p vector are) (bare (codes "@") refl))
integer_bare p (integer.SetSize slot) are = (marked_is_bare (program_name_at p slot.name) (codes "#") (name_is_bare p slot.name are) (bare (codes "#") refl), tt)
integer_bare p (integer.Negative e) are = bare_and (integer_words p e) (codes "neg") (integer_bare p e are) (bare (codes "neg") refl)
integer_bare p (integer.Arithmetic o a b) are =
    bare_and (integer_words p a ++ integer_words p b) (operator_word o)
    (all_both IsBare (integer_words p a) (integer_words p b) (integer_bare p a are) (integer_bare p b are)) (operator_is_bare o)

pub condition_bare : (p : ProgramTree) (c : BoolExpressionTree) → HasBareNames p → AreBare (condition_words p c)
condition_bare p (condition.Literal b) are = (truth_is_bare b, tt)
condition_bare p (condition.Constant name b) are = (name_is_bare p name are, tt)
condition_bare p (condition.Variable slot) are = (name_is_bare p slot.name are, tt)
condition_bare p (condition.Not c) are = bare_and (condition_words p c) (codes "not") (condition_bare p c are) (bare (codes "not") refl)
condition_bare p (condition.Compare o a b) are =
    bare_and (integer_words p a ++ integer_words p b) (comparison_word o)
    (all_both IsBare (integer_words p a) (integer_words p b) (integer_bare p a are) (integer_bare p b are)) (comparison_is_bare o)
condition_bare p (condition.Connect o a b) are =
    bare_and (condition_words p a ++ condition_words p b) (connective_word o)
    (all_both IsBare (condition_words p a) (condition_words p b) (condition_bare p a are) (condition_bare p b are)) (connective_is_bare o)

-- words of reductions and of the schedule
pub reduction_is_bare : (r : Reduction) → IsBare (reduction_word r)
reduction_is_bare reduction.Min = bare (codes "min=") refl
reduction_is_bare reduction.Max = bare (codes "max=") refl
reduction_is_bare reduction.Plus = bare (codes "+=") refl

pub reducing_is_bare : (r : Reduction) → IsBare (reducing_word r)
reducing_is_bare reduction.Min = bare (codes "min") refl
reducing_is_bare reduction.Max = bare (codes "max") refl
reducing_is_bare reduction.Plus = bare (codes "+") refl

pub direction_is_bare : (o : Option Direction) → IsBare (direction_word o)
direction_is_bare None = bare (codes "SparsePush") refl
direction_is_bare (Some direction.SparsePush) = bare (codes "SparsePush") refl
direction_is_bare (Some direction.DensePush) = bare (codes "DensePush") refl
direction_is_bare (Some direction.DensePull) = bare (codes "DensePull") refl
direction_is_bare (Some direction.Hybrid) = bare (codes "DensePull-SparsePush") refl

pub parallelization_is_bare : (o : Option Parallelization) → IsBare (parallelization_word o)
parallelization_is_bare None = bare (codes "serial") refl
parallelization_is_bare (Some parallelization.Serial) = bare (codes "serial") refl
parallelization_is_bare (Some parallelization.StaticVertex) = bare (codes "static-vertex-parallel") refl
parallelization_is_bare (Some parallelization.DynamicVertex) = bare (codes "dynamic-vertex-parallel") refl
parallelization_is_bare (Some parallelization.EdgeAwareDynamicVertex) = bare (codes "edge-aware-dynamic-vertex-parallel") refl

pub dense_is_bare : (o : Option DenseVertexSet) → IsBare (dense_word o)
dense_is_bare None = bare (codes "bool-array") refl
dense_is_bare (Some dense.BoolArray) = bare (codes "bool-array") refl
dense_is_bare (Some dense.Bitvector) = bare (codes "bitvector") refl
