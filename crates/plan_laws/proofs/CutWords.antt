-- The text of an expression in brackets is cut into its words again.
use Rattle.std.proofs.Common.{◌≡◌, ◌≢◌, ℕ, zero, suc, ℤ, pos, negsuc, ◌+◌, ◌<◌, ◌^◌, FitsSigned, Bool, true, false, ◌&&◌, ◌==◌, not, List, [], ◌∷◌, ◌++◌, length, Option, Some, None, codes, decimal}
use Rattle.std.proofs.Common.{slice_get, slice_index_or, refl, sym, ap, ◌∙◌, arith, length-append}
use Rattle.std.specs.Option.{option_and_then, option_map}
use Rattle.std.specs.Char.{is_ascii_digit}
use Rattle.std.specs.Fmt.{signed_decimal}
use Rattle.std.specs.Int.{w64}
use Rattle.std.specs.List.{AllByRecursion}
use Rattle.std.specs.Str.{all_ascii_digits}
use Rattle.std.proofs.lemmas.Bool.{and_parts, eq-eqb, ne_eqb, false≢true}
use Rattle.std.proofs.lemmas.Fmt.{digits_decimal}
use Rattle.typed_tree.specs.declared.expression.Operator.{Operator}
use Rattle.typed_tree.specs.declared.expression.Operator.TheVariants as operator
use Rattle.typed_tree.specs.declared.expression.ComparisonOperator.{ComparisonOperator}
use Rattle.typed_tree.specs.declared.expression.ComparisonOperator.TheVariants as comparison
use Rattle.typed_tree.specs.declared.expression.Connective.{Connective}
use Rattle.typed_tree.specs.declared.expression.Connective.TheVariants as connective
use Rattle.typed_tree.specs.declared.program.Vector.{Vector}
use Rattle.typed_tree.specs.IntExpressionTree as integer
use Rattle.typed_tree.specs.IntExpressionTree.{IntExpressionTree}
use Rattle.typed_tree.specs.BoolExpressionTree as condition
use Rattle.typed_tree.specs.BoolExpressionTree.{BoolExpressionTree}
use Rattle.typed_tree.specs.ProgramTree.{ProgramTree}
use Rattle.algorithm_meaning.specs.State.{StateValue}
use Rattle.algorithm_meaning.specs.Stand.{bool_value_in, int_value_in}
use Rattle.plan_text.specs.Expressions.{comparison_word, condition_words, connective_word, entry_word, integer_words, program_name_at, name_of, operator_word, truth_word, vector_name_at, bracketed}
use Rattle.plan_text.specs.Expressions.{spaced_words}
use Rattle.decimal.proofs.NumberLaws.{digits_model}
use Rattle.plan_laws.specs.Machine.{Number, Truth, Names, last_byte, read_words}
use Rattle.plan_laws.specs.Given.{ConditionIsGiven, IntegerIsGiven}
use Rattle.plan_laws.specs.Brackets.{HasNamesOfOneWord, IsOneWord, inside_brackets, put_byte, read_brackets, words_in}
use Rattle.plan_laws.proofs.Machine.{before_of, condition_is_read, digit_is_not, integer_is_read, last_of}

-- words between spaces
words_alone : (word : List ℕ) → IsOneWord word → words_in word ≡ word ∷ []
words_alone [] one = refl
words_alone (b ∷ word) one = rw (ne_eqb b 32 one.0) (ap (put_byte b) (words_alone word one.1))

words_more : (word rest : List ℕ) → IsOneWord word → words_in (word ++ 32 ∷ rest) ≡ word ∷ words_in rest
words_more [] rest one = refl
words_more (b ∷ word) rest one = rw (ne_eqb b 32 one.0) (ap (put_byte b) (words_more word rest one.1))

words_back : (words : List (List ℕ)) → 0 < length words → AllByRecursion IsOneWord words → words_in (spaced_words words) ≡ words
words_back [] some one = absurd (omega (arith, some))
words_back (word ∷ []) some one = words_alone word one.0
words_back (word ∷ next ∷ words) some one =
    words_more word (spaced_words (next ∷ words)) one.0 ∙ ap (λ (l : List (List ℕ)). word ∷ l) (words_back (next ∷ words) (omega arith) one.1)

inside_back : (text : List ℕ) → inside_brackets (91 ∷ text ++ 93 ∷ []) ≡ Some text
inside_back text = rw (eq-eqb (last_byte (text ++ 93 ∷ [])) 93 (last_of text 93)) (ap Some (before_of text 93))

pub text_back : {A : Type 0} (f : List (List ℕ) → Option A) (words : List (List ℕ)) → 0 < length words → AllByRecursion IsOneWord words
    → option_and_then (λ bytes. f (words_in bytes)) (inside_brackets (bracketed words)) ≡ f words
text_back f words some one =
    ap (option_and_then (λ bytes. f (words_in bytes))) (inside_back (spaced_words words)) ∙ ap f (words_back words some one)

-- names and operators are one word each
pub all_both : {A : Type 0} (P : A → Type 0) (xs ys : List A) → AllByRecursion P xs → AllByRecursion P ys → AllByRecursion P (xs ++ ys)
all_both P [] ys first second = second
all_both P (x ∷ xs) ys first second = (first.0, all_both P xs ys first.1 second)

pub all_at : {A : Type 0} (P : A → Type 0) (xs : List A) (i : ℕ) (d : A) → AllByRecursion P xs → P d → P (slice_index_or xs i d)
all_at P [] i d all none = none
all_at P (x ∷ xs) zero d all none = all.0
all_at P (x ∷ xs) (suc i) d all none = all_at P xs i d all.1 none

pub name_is_one : (p : ProgramTree) (name : ℕ) → HasNamesOfOneWord p → IsOneWord (program_name_at p name)
name_is_one p name one = all_at IsOneWord p.names name [] one tt

vector_is_one : (p : ProgramTree) (o : Option Vector) → HasNamesOfOneWord p → IsOneWord (name_of p o)
vector_is_one p None one = tt
vector_is_one p (Some vector) one = name_is_one p vector.name one

abbrev has_no_space : List ℕ → Bool
has_no_space [] = true
has_no_space (b ∷ bytes) = not (b == 32) && has_no_space bytes

pub looked_at : (word : List ℕ) → has_no_space word ≡ true → IsOneWord word
looked_at [] is = tt
looked_at (b ∷ word) is =
    let both = and_parts (not (b == 32)) (has_no_space word) is in
    ((λ same. false≢true (ap not (sym (eq-eqb b 32 same)) ∙ both.0)), looked_at word both.1)

digits_are_one : (word : List ℕ) → all_ascii_digits word ≡ true → IsOneWord word
digits_are_one [] digits = tt
digits_are_one (b ∷ word) digits =
    let both = and_parts (is_ascii_digit b) (all_ascii_digits word) digits in
    (digit_is_not b 32 both.0 refl, digits_are_one word both.1)

literal_is_one : (n : ℤ) → FitsSigned w64 n → IsOneWord (signed_decimal n)
literal_is_one (pos n) fits =
    let small : n < 2 ^ 63 = omega (arith, fits) in
    digits_are_one (decimal n) (digits_decimal digits_model n (omega (arith, small)))
literal_is_one (negsuc n) fits =
    let small : suc n < 2 ^ 63 + 1 = omega (arith, fits) in
    ((λ same. absurd (omega (arith, same))), digits_are_one (decimal (suc n)) (digits_decimal digits_model (suc n) (omega (arith, small))))

operator_is_one : (o : Operator) → IsOneWord (operator_word o)
operator_is_one operator.Add = looked_at (codes "+") refl
operator_is_one operator.Subtract = looked_at (codes "-") refl
operator_is_one operator.Multiply = looked_at (codes "*") refl
operator_is_one operator.Divide = looked_at (codes "/") refl
operator_is_one operator.Remainder = looked_at (codes "%") refl

comparison_is_one : (o : ComparisonOperator) → IsOneWord (comparison_word o)
comparison_is_one comparison.Equal = looked_at (codes "==") refl
comparison_is_one comparison.NotEqual = looked_at (codes "!=") refl
comparison_is_one comparison.Less = looked_at (codes "<") refl
comparison_is_one comparison.LessOrEqual = looked_at (codes "<=") refl
comparison_is_one comparison.Greater = looked_at (codes ">") refl
comparison_is_one comparison.GreaterOrEqual = looked_at (codes ">=") refl

connective_is_one : (o : Connective) → IsOneWord (connective_word o)
connective_is_one connective.And = looked_at (codes "and") refl
connective_is_one connective.Or = looked_at (codes "or") refl
connective_is_one connective.Equal = looked_at (codes "==") refl
connective_is_one connective.NotEqual = looked_at (codes "!=") refl

truth_is_one : (b : Bool) → IsOneWord (truth_word b)
truth_is_one true = looked_at (codes "true") refl
truth_is_one false = looked_at (codes "false") refl

-- and so are the words of expressions, of which there is one
words_and : (words : List (List ℕ)) (word : List ℕ) → AllByRecursion IsOneWord words → IsOneWord word → AllByRecursion IsOneWord (words ++ word ∷ [])
words_and words word are is = all_both IsOneWord words (word ∷ []) are (is, tt)

pub integer_words_are : (p : ProgramTree) (names : Names) (s : StateValue) (e : IntExpressionTree) → HasNamesOfOneWord p → IntegerIsGiven p names s e → AllByRecursion IsOneWord (integer_words p e)
integer_words_are p names s (integer.Number n) one given = (literal_is_one n given, tt)
integer_words_are p names s (integer.Constant name n) one given = (name_is_one p name one, tt)
integer_words_are p names s (integer.Variable slot) one given = (name_is_one p slot.name one, tt)
integer_words_are p names s (integer.Parameter at) one given = absurd given
integer_words_are p names s integer.Weight one given = absurd given
integer_words_are p names s (integer.EntryAt vector at) one given = absurd given
integer_words_are p names s (integer.Entry vector index) one given =
    words_and (integer_words p index) (entry_word p vector) (integer_words_are p names s index one given.1)
    (all_both (λ (b : ℕ). b ≢ 32) (vector_name_at p vector) (codes "@") (vector_is_one p (slice_get p.vectors vector) one) (looked_at (codes "@") refl))
integer_words_are p names s (integer.SetSize slot) one given =
    (all_both (λ (b : ℕ). b ≢ 32) (program_name_at p slot.name) (codes "#") (name_is_one p slot.name one) (looked_at (codes "#") refl), tt)
integer_words_are p names s (integer.Negative e) one given =
    words_and (integer_words p e) (codes "neg") (integer_words_are p names s e one given) (looked_at (codes "neg") refl)
integer_words_are p names s (integer.Arithmetic o a b) one given =
    words_and (integer_words p a ++ integer_words p b) (operator_word o)
    (all_both IsOneWord (integer_words p a) (integer_words p b) (integer_words_are p names s a one given.0) (integer_words_are p names s b one given.1))
    (operator_is_one o)

some_last : (words : List (List ℕ)) (word : List ℕ) → 0 < length (words ++ word ∷ [])
some_last words word = omega (arith, length-append words (word ∷ []))

pub some_integer_words : (p : ProgramTree) (e : IntExpressionTree) → 0 < length (integer_words p e)
some_integer_words p (integer.Number n) = omega arith
some_integer_words p (integer.Constant name n) = omega arith
some_integer_words p (integer.Variable slot) = omega arith
some_integer_words p (integer.Parameter at) = omega arith
some_integer_words p integer.Weight = omega arith
some_integer_words p (integer.EntryAt vector at) = omega arith
some_integer_words p (integer.Entry vector index) = some_last (integer_words p index) (entry_word p vector)
some_integer_words p (integer.SetSize slot) = omega arith
some_integer_words p (integer.Negative e) = some_last (integer_words p e) (codes "neg")
some_integer_words p (integer.Arithmetic o a b) = some_last (integer_words p a ++ integer_words p b) (operator_word o)

condition_words_are : (p : ProgramTree) (names : Names) (s : StateValue) (c : BoolExpressionTree) → HasNamesOfOneWord p → ConditionIsGiven p names s c → AllByRecursion IsOneWord (condition_words p c)
condition_words_are p names s (condition.Literal b) one given = (truth_is_one b, tt)
condition_words_are p names s (condition.Constant name b) one given = (name_is_one p name one, tt)
condition_words_are p names s (condition.Variable slot) one given = (name_is_one p slot.name one, tt)
condition_words_are p names s (condition.Not c) one given =
    words_and (condition_words p c) (codes "not") (condition_words_are p names s c one given) (looked_at (codes "not") refl)
condition_words_are p names s (condition.Compare o a b) one given =
    words_and (integer_words p a ++ integer_words p b) (comparison_word o)
    (all_both IsOneWord (integer_words p a) (integer_words p b) (integer_words_are p names s a one given.0) (integer_words_are p names s b one given.1))
    (comparison_is_one o)
condition_words_are p names s (condition.Connect o a b) one given =
    words_and (condition_words p a ++ condition_words p b) (connective_word o)
    (all_both IsOneWord (condition_words p a) (condition_words p b) (condition_words_are p names s a one given.0) (condition_words_are p names s b one given.1))
    (connective_is_one o)

some_condition_words : (p : ProgramTree) (c : BoolExpressionTree) → 0 < length (condition_words p c)
some_condition_words p (condition.Literal b) = omega arith
some_condition_words p (condition.Constant name b) = omega arith
some_condition_words p (condition.Variable slot) = omega arith
some_condition_words p (condition.Not c) = some_last (condition_words p c) (codes "not")
some_condition_words p (condition.Compare o a b) = some_last (integer_words p a ++ integer_words p b) (comparison_word o)
some_condition_words p (condition.Connect o a b) = some_last (condition_words p a ++ condition_words p b) (connective_word o)

pub integer_in_brackets : (p : ProgramTree) (names : Names) (s : StateValue) (e : IntExpressionTree) → HasNamesOfOneWord p → IntegerIsGiven p names s e
    → read_brackets names (bracketed (integer_words p e)) ≡ option_map (λ n. Number n ∷ []) (int_value_in names.vertices e s)
integer_in_brackets p names s e one given =
    text_back (λ words. read_words names words []) (integer_words p e) (some_integer_words p e) (integer_words_are p names s e one given) ∙ integer_is_read p names s e [] given

pub condition_in_brackets : (p : ProgramTree) (names : Names) (s : StateValue) (c : BoolExpressionTree) → HasNamesOfOneWord p → ConditionIsGiven p names s c
    → read_brackets names (bracketed (condition_words p c)) ≡ option_map (λ b. Truth b ∷ []) (bool_value_in names.vertices c s)
condition_in_brackets p names s c one given =
    text_back (λ words. read_words names words []) (condition_words p c) (some_condition_words p c) (condition_words_are p names s c one given) ∙ condition_is_read p names s c [] given
