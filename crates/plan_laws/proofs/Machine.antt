-- Reading the words of an expression gives its value.
use Rattle.std.proofs.Common.{◌≡◌, ◌≢◌, ℕ, suc, ℤ, pos, negsuc, ◌+◌, ◌<◌, ◌^◌, FitsSigned, Bool, true, false, ◌&&◌, nat_lt, if◌then◌else◌, ◌==◌, List, [], ◌∷◌, ◌++◌, length, Option, Some, None, codes}
use Rattle.std.proofs.Common.{decimal, inl, inr, refl, sym, ap, ◌∙◌, arith}
use Rattle.std.specs.Option.{option_and_then, option_map}
use Rattle.std.specs.Char.{is_ascii_digit}
use Rattle.std.specs.Str.{all_ascii_digits, bytes_eq}
use Rattle.std.specs.Fmt.{signed_decimal}
use Rattle.std.specs.Int.{w64}
use Rattle.std.specs.List.{AllByRecursion}
use Rattle.std.specs.Map.{lookup}
use lib.Pointwise.{bytes_decides}
use Rattle.std.proofs.lemmas.Bool.{and_parts, cases_Bool, eq-eqb, ne_eqb, false≢true}
use Rattle.std.proofs.lemmas.Fmt.{digits_decimal, decimal_nonempty}
use Rattle.typed_tree.specs.declared.expression.Operator.{Operator}
use Rattle.typed_tree.specs.declared.expression.Operator.TheVariants as operator
use Rattle.typed_tree.specs.declared.expression.ComparisonOperator.{ComparisonOperator}
use Rattle.typed_tree.specs.declared.expression.ComparisonOperator.TheVariants as comparison
use Rattle.typed_tree.specs.declared.expression.Connective.{Connective}
use Rattle.typed_tree.specs.declared.expression.Connective.TheVariants as connective
use Rattle.typed_tree.specs.IntExpressionTree as integer
use Rattle.typed_tree.specs.IntExpressionTree.{IntExpressionTree}
use Rattle.typed_tree.specs.BoolExpressionTree as condition
use Rattle.typed_tree.specs.BoolExpressionTree.{BoolExpressionTree}
use Rattle.typed_tree.specs.ProgramTree.{ProgramTree}
use Rattle.algorithm_meaning.specs.Arithmetic.{arithmetic, compared, connected}
use Rattle.algorithm_meaning.specs.State.{StateValue}
use Rattle.algorithm_meaning.specs.Stand.{bool_value_in, int_value_in}
use Rattle.algorithm_meaning.specs.Value.{condition_stays_inside, entry, entry_at, is_vertex, stays_inside, truth, value}
use Rattle.plan_text.specs.Expressions.{comparison_word, condition_words, connective_word, entry_word, integer_words, program_name_at, operator_word, size_word, truth_word, vector_name_at}
use Rattle.decimal.specs.Numbers.{integer_of}
use Rattle.decimal.proofs.NumberLaws.{digits_model, integer-read_back}
use Rattle.plan_laws.specs.Machine.{StackValue, Number, Truth, Stack, Names, operators, last_byte, before_last, take_entry, operate, push_number, read_word, read_words}
use Rattle.plan_laws.specs.Given.{ConditionIsGiven, IntegerIsGiven, IsNamed}

-- words after others are read on their stack
through : {A : Type 0} (f g h : A → Option A) (o : Option A) → ((x : A) → h x ≡ option_and_then g (f x)) → option_and_then h o ≡ option_and_then g (option_and_then f o)
through f g h None same = refl
through f g h (Some x) same = same x

read_both : (names : Names) (first second : List (List ℕ)) (stack : List StackValue)
    → read_words names (first ++ second) stack ≡ option_and_then (read_words names second) (read_words names first stack)
read_both names [] second stack = refl
read_both names (word ∷ first) second stack =
    through (read_words names first) (read_words names second) (read_words names (first ++ second)) (read_word names word stack) (read_both names first second)

-- what a test guards
then_guard : {A B : Type 0} (f : A → Option B) (b : Bool) (x : A) → option_and_then f (if b then Some x else None) ≡ (if b then f x else None)
then_guard f true x = refl
then_guard f false x = refl

map_guard : {A B : Type 0} (f : A → B) (b : Bool) (x : A) → (if b then Some (f x) else None) ≡ option_map f (if b then Some x else None)
map_guard f true x = refl
map_guard f false x = refl

both_guard : {A : Type 0} (a b : Bool) (x : Option A) → (if a then (if b then x else None) else None) ≡ (if a && b then x else None)
both_guard true b x = refl
both_guard false b x = refl

-- words after an expression, and after two
after_one : (names : Names) (words more : List (List ℕ)) (stack top : List StackValue) (b : Bool) → read_words names words stack ≡ (if b then Some top else None)
    → read_words names (words ++ more) stack ≡ (if b then read_words names more top else None)
after_one names words more stack top b is =
    read_both names words more stack ∙ ap (option_and_then (read_words names more)) is ∙ then_guard (read_words names more) b top

after_two : (names : Names) (first second more : List (List ℕ)) (stack top above : List StackValue) (a b : Bool)
    → read_words names first stack ≡ (if a then Some top else None) → read_words names second top ≡ (if b then Some above else None)
    → read_words names (first ++ second ++ more) stack ≡ (if a && b then read_words names more above else None)
after_two names first second more stack top above a b one two =
    let both : read_words names (first ++ second) stack ≡ (if a && b then Some above else None) =
    after_one names first second stack top a one ∙ ap (λ (o : Stack). if a then o else None) two ∙ both_guard a b (Some above) in
    after_one names (first ++ second) more stack above (a && b) both

-- the last byte of a word
pub last_of : (word : List ℕ) (b : ℕ) → last_byte (word ++ b ∷ []) ≡ b
last_of [] b = refl
last_of (a ∷ []) b = refl
last_of (a ∷ d ∷ word) b = last_of (d ∷ word) b

pub before_of : (word : List ℕ) (b : ℕ) → before_last (word ++ b ∷ []) ≡ word
before_of [] b = refl
before_of (a ∷ []) b = refl
before_of (a ∷ d ∷ word) b = ap (λ (l : List ℕ). a ∷ l) (before_of (d ∷ word) b)

last_more : (b : ℕ) (word : List ℕ) → 0 < length word → last_byte (b ∷ word) ≡ last_byte word
last_more b [] some = absurd (omega (arith, some))
last_more b (a ∷ word) some = refl

last_digit : (word : List ℕ) → 0 < length word → all_ascii_digits word ≡ true → is_ascii_digit (last_byte word) ≡ true
last_digit [] some digits = absurd (omega (arith, some))
last_digit (b ∷ []) some digits = (and_parts (is_ascii_digit b) (all_ascii_digits []) digits).0
last_digit (a ∷ b ∷ word) some digits = last_digit (b ∷ word) (omega arith) (and_parts (is_ascii_digit a) (all_ascii_digits (b ∷ word)) digits).1

pub digit_is_not : (b c : ℕ) → is_ascii_digit b ≡ true → is_ascii_digit c ≡ false → b ≢ c
digit_is_not b c digit other same = false≢true (sym other ∙ ap is_ascii_digit (sym same) ∙ digit)

-- what one word does
read_number : (names : Names) (word : List ℕ) (n : ℤ) (stack : List StackValue) → is_ascii_digit (last_byte word) ≡ true → integer_of word ≡ Some n
    → read_word names word stack ≡ Some (Number n ∷ stack)
read_number names word n stack digit is =
    let entry : last_byte word == 64 ≡ false = ne_eqb (last_byte word) 64 (digit_is_not (last_byte word) 64 digit refl) in
    let size : last_byte word == 35 ≡ false = ne_eqb (last_byte word) 35 (digit_is_not (last_byte word) 35 digit refl) in
    let same : read_word names word stack ≡ push_number names word (integer_of word) stack = rw (entry, size) refl in
    same ∙ ap (λ (o : Option ℤ). push_number names word o stack) is

ends_in_digit : (n : ℤ) → FitsSigned w64 n → is_ascii_digit (last_byte (signed_decimal n)) ≡ true
ends_in_digit (pos n) fits =
    let small : n < 2 ^ 63 = omega (arith, fits) in
    last_digit (decimal n) (decimal_nonempty n (omega (arith, small))) (digits_decimal digits_model n (omega (arith, small)))
ends_in_digit (negsuc n) fits =
    let small : suc n < 2 ^ 63 + 1 = omega (arith, fits) in
    let some : 0 < length (decimal (suc n)) = decimal_nonempty (suc n) (omega (arith, small)) in
    ap is_ascii_digit (last_more 45 (decimal (suc n)) some) ∙ last_digit (decimal (suc n)) some (digits_decimal digits_model (suc n) (omega (arith, small)))

read_literal : (names : Names) (n : ℤ) (stack : List StackValue) → FitsSigned w64 n → read_word names (signed_decimal n) stack ≡ Some (Number n ∷ stack)
read_literal names n stack fits = read_number names (signed_decimal n) n stack (ends_in_digit n fits) (integer-read_back n fits)

pub bytes_differ : (a b : List ℕ) → a ≢ b → bytes_eq a b ≡ false
bytes_differ a b other = elim (cases_Bool (bytes_eq a b)) [
  | inl same ↦ absurd (other ((bytes_decides a b).0 same))
  | inr is ↦ is
]

no_operator : (word : List ℕ) (table : List (List ℕ × (List StackValue → Stack))) → AllByRecursion (λ o. word ≢ o.0) table → lookup (bytes_eq word) table ≡ None
no_operator word [] none = refl
no_operator word (o ∷ table) none = rw (bytes_differ word o.0 none.0) (no_operator word table none.1)

pub read_name : (names : Names) (word : List ℕ) (value : StackValue) (stack : List StackValue) → IsNamed names word value → read_word names word stack ≡ Some (value ∷ stack)
read_name names word value stack is =
    let entry : last_byte word == 64 ≡ false = ne_eqb (last_byte word) 64 is.plain.entry in
    let size : last_byte word == 35 ≡ false = ne_eqb (last_byte word) 35 is.plain.size in
    let same : read_word names word stack ≡ push_number names word (integer_of word) stack = rw (entry, size) refl in
    same ∙ ap (λ (o : Option ℤ). push_number names word o stack) is.plain.number
    ∙ ap (λ (o : Option (List StackValue → Stack)). operate names word o stack) (no_operator word operators is.plain.operator)
    ∙ ap (λ (x : StackValue). Some (x ∷ stack)) is.gives

read_entry : (names : Names) (name : List ℕ) (stack : List StackValue) → read_word names (name ++ 64 ∷ []) stack ≡ take_entry names name stack
read_entry names name stack =
    let last : last_byte (name ++ 64 ∷ []) == 64 ≡ true = eq-eqb (last_byte (name ++ 64 ∷ [])) 64 (last_of name 64) in
    let same : read_word names (name ++ 64 ∷ []) stack ≡ take_entry names (before_last (name ++ 64 ∷ [])) stack = rw (last) refl in
    same ∙ ap (λ (l : List ℕ). take_entry names l stack) (before_of name 64)

read_size : (names : Names) (name : List ℕ) (stack : List StackValue) → read_word names (name ++ 35 ∷ []) stack ≡ Some (Number (names.size name) ∷ stack)
read_size names name stack =
    let word = name ++ 35 ∷ [] in
    let entry : last_byte (name ++ 35 ∷ []) == 64 ≡ false = ne_eqb (last_byte (name ++ 35 ∷ [])) 64 (λ same. absurd (omega (arith, same, last_of name 35))) in
    let size : last_byte (name ++ 35 ∷ []) == 35 ≡ true = eq-eqb (last_byte (name ++ 35 ∷ [])) 35 (last_of name 35) in
    let same : read_word names (name ++ 35 ∷ []) stack ≡ Some (Number (names.size (before_last (name ++ 35 ∷ []))) ∷ stack) = rw (entry, size) refl in
    same ∙ ap (λ (l : List ℕ). Some (Number (names.size l) ∷ stack)) (before_of name 35)

-- one word alone
pub alone : (names : Names) (word : List ℕ) (stack top : List StackValue) → read_word names word stack ≡ Some top → read_words names (word ∷ []) stack ≡ Some top
alone names word stack top is = ap (option_and_then (read_words names [])) is

entry_taken : (names : Names) (name : List ℕ) (vectors : List (List ℤ)) (vector : ℕ) (stack : List StackValue) → ((v : ℕ) → names.entry name v ≡ entry vectors vector v) → (n : ℤ)
    → take_entry names name (Number n ∷ stack) ≡ (if is_vertex names.vertices n then Some (Number (entry_at vectors vector n) ∷ stack) else None)
entry_taken names name vectors vector stack given (pos n) =
    then_guard (λ (v : ℕ). Some (Number (names.entry name v) ∷ stack)) (nat_lt n names.vertices) n
    ∙ ap (λ (z : ℤ). if nat_lt n names.vertices then Some (Number z ∷ stack) else None) (given n)
entry_taken names name vectors vector stack given (negsuc n) = refl

one_guard : (names : Names) (word : List ℕ) (stack top : List StackValue) (b : Bool) → read_word names word stack ≡ (if b then Some top else None)
    → read_words names (word ∷ []) stack ≡ (if b then Some top else None)
one_guard names word stack top b is = ap (option_and_then (read_words names [])) is ∙ then_guard (read_words names []) b top

operator_read : (names : Names) (o : Operator) (a b : ℤ) (stack : List StackValue)
    → read_words names (operator_word o ∷ []) (Number b ∷ Number a ∷ stack) ≡ Some (Number (arithmetic o a b) ∷ stack)
operator_read names operator.Add a b stack = refl
operator_read names operator.Subtract a b stack = refl
operator_read names operator.Multiply a b stack = refl
operator_read names operator.Divide a b stack = refl
operator_read names operator.Remainder a b stack = refl

comparison_read : (names : Names) (o : ComparisonOperator) (a b : ℤ) (stack : List StackValue)
    → read_words names (comparison_word o ∷ []) (Number b ∷ Number a ∷ stack) ≡ Some (Truth (compared o a b) ∷ stack)
comparison_read names comparison.Equal a b stack = refl
comparison_read names comparison.NotEqual a b stack = refl
comparison_read names comparison.Less a b stack = refl
comparison_read names comparison.LessOrEqual a b stack = refl
comparison_read names comparison.Greater a b stack = refl
comparison_read names comparison.GreaterOrEqual a b stack = refl

connective_read : (names : Names) (o : Connective) (a b : Bool) (stack : List StackValue)
    → read_words names (connective_word o ∷ []) (Truth b ∷ Truth a ∷ stack) ≡ Some (Truth (connected o a b) ∷ stack)
connective_read names connective.And a b stack = refl
connective_read names connective.Or a b stack = refl
connective_read names connective.Equal a b stack = refl
connective_read names connective.NotEqual a b stack = refl

literal_read : (names : Names) (b : Bool) (stack : List StackValue) → read_words names (truth_word b ∷ []) stack ≡ Some (Truth b ∷ stack)
literal_read names true stack = refl
literal_read names false stack = refl

-- the number that an expression has in a state, and whether it has one
abbrev number_of_tree : StateValue → IntExpressionTree → ℤ
number_of_tree s e = value s.vectors s.sets s.scope e

abbrev has_number : Names → StateValue → IntExpressionTree → Bool
has_number names s e = stays_inside names.vertices s.vectors s.sets s.scope e

integer_read : (p : ProgramTree) (names : Names) (s : StateValue) (e : IntExpressionTree) (stack : List StackValue) → IntegerIsGiven p names s e
    → read_words names (integer_words p e) stack ≡ (if has_number names s e then Some (Number (number_of_tree s e) ∷ stack) else None)
integer_read p names s (integer.Number n) stack given = alone names (signed_decimal n) stack (Number n ∷ stack) (read_literal names n stack given)
integer_read p names s (integer.Constant name n) stack given = alone names (program_name_at p name) stack (Number n ∷ stack) (read_name names (program_name_at p name) (Number n) stack given)
integer_read p names s (integer.Variable slot) stack given =
    let top = Number (number_of_tree s (integer.Variable slot)) in
    alone names (program_name_at p slot.name) stack (top ∷ stack) (read_name names (program_name_at p slot.name) top stack given)
integer_read p names s (integer.Parameter at) stack given = absurd given
integer_read p names s integer.Weight stack given = absurd given
integer_read p names s (integer.EntryAt vector at) stack given = absurd given
integer_read p names s (integer.Entry vector index) stack given =
    let n = number_of_tree s index in
    let top = Number (entry_at s.vectors vector n) ∷ stack in
    let inside = is_vertex names.vertices n in
    let word : read_words names (entry_word p vector ∷ []) (Number n ∷ stack) ≡ (if inside then Some top else None) =
    one_guard names (entry_word p vector) (Number n ∷ stack) top inside
    (read_entry names (vector_name_at p vector) (Number n ∷ stack) ∙ entry_taken names (vector_name_at p vector) s.vectors vector stack given.0 n) in
    after_one names (integer_words p index) (entry_word p vector ∷ []) stack (Number n ∷ stack) (has_number names s index) (integer_read p names s index stack given.1)
    ∙ ap (λ (o : Stack). if has_number names s index then o else None) word
    ∙ both_guard (has_number names s index) inside (Some top)
integer_read p names s (integer.SetSize slot) stack given =
    alone names (size_word p slot.name) stack (Number (number_of_tree s (integer.SetSize slot)) ∷ stack)
    (read_size names (program_name_at p slot.name) stack ∙ ap (λ (n : ℤ). Some (Number n ∷ stack)) given)
integer_read p names s (integer.Negative e) stack given =
    after_one names (integer_words p e) (codes "neg" ∷ []) stack (Number (number_of_tree s e) ∷ stack) (has_number names s e) (integer_read p names s e stack given)
integer_read p names s (integer.Arithmetic o a b) stack given =
    let m = Number (number_of_tree s a) in
    let n = Number (number_of_tree s b) in
    after_two names (integer_words p a) (integer_words p b) (operator_word o ∷ []) stack (m ∷ stack) (n ∷ m ∷ stack) (has_number names s a) (has_number names s b)
    (integer_read p names s a stack given.0) (integer_read p names s b (m ∷ stack) given.1)
    ∙ ap (λ (x : Stack). if has_number names s a && has_number names s b then x else None) (operator_read names o (number_of_tree s a) (number_of_tree s b) stack)

pub integer_is_read : (p : ProgramTree) (names : Names) (s : StateValue) (e : IntExpressionTree) (stack : List StackValue) → IntegerIsGiven p names s e
    → read_words names (integer_words p e) stack ≡ option_map (λ n. Number n ∷ stack) (int_value_in names.vertices e s)
integer_is_read p names s e stack given =
    integer_read p names s e stack given ∙ map_guard (λ (n : ℤ). Number n ∷ stack) (has_number names s e) (number_of_tree s e)

-- the same of a truth value
abbrev truth_of_tree : StateValue → BoolExpressionTree → Bool
truth_of_tree s c = truth s.vectors s.sets s.scope c

abbrev has_truth : Names → StateValue → BoolExpressionTree → Bool
has_truth names s c = condition_stays_inside names.vertices s.vectors s.sets s.scope c

condition_read : (p : ProgramTree) (names : Names) (s : StateValue) (c : BoolExpressionTree) (stack : List StackValue) → ConditionIsGiven p names s c
    → read_words names (condition_words p c) stack ≡ (if has_truth names s c then Some (Truth (truth_of_tree s c) ∷ stack) else None)
condition_read p names s (condition.Literal b) stack given = literal_read names b stack
condition_read p names s (condition.Constant name b) stack given = alone names (program_name_at p name) stack (Truth b ∷ stack) (read_name names (program_name_at p name) (Truth b) stack given)
condition_read p names s (condition.Variable slot) stack given =
    let top = Truth (truth_of_tree s (condition.Variable slot)) in
    alone names (program_name_at p slot.name) stack (top ∷ stack) (read_name names (program_name_at p slot.name) top stack given)
condition_read p names s (condition.Not c) stack given =
    after_one names (condition_words p c) (codes "not" ∷ []) stack (Truth (truth_of_tree s c) ∷ stack) (has_truth names s c) (condition_read p names s c stack given)
condition_read p names s (condition.Compare o a b) stack given =
    let m = Number (number_of_tree s a) in
    let n = Number (number_of_tree s b) in
    after_two names (integer_words p a) (integer_words p b) (comparison_word o ∷ []) stack (m ∷ stack) (n ∷ m ∷ stack) (has_number names s a) (has_number names s b)
    (integer_read p names s a stack given.0) (integer_read p names s b (m ∷ stack) given.1)
    ∙ ap (λ (x : Stack). if has_number names s a && has_number names s b then x else None) (comparison_read names o (number_of_tree s a) (number_of_tree s b) stack)
condition_read p names s (condition.Connect o a b) stack given =
    let m = Truth (truth_of_tree s a) in
    let n = Truth (truth_of_tree s b) in
    after_two names (condition_words p a) (condition_words p b) (connective_word o ∷ []) stack (m ∷ stack) (n ∷ m ∷ stack) (has_truth names s a) (has_truth names s b)
    (condition_read p names s a stack given.0) (condition_read p names s b (m ∷ stack) given.1)
    ∙ ap (λ (x : Stack). if has_truth names s a && has_truth names s b then x else None) (connective_read names o (truth_of_tree s a) (truth_of_tree s b) stack)

pub condition_is_read : (p : ProgramTree) (names : Names) (s : StateValue) (c : BoolExpressionTree) (stack : List StackValue) → ConditionIsGiven p names s c
    → read_words names (condition_words p c) stack ≡ option_map (λ b. Truth b ∷ stack) (bool_value_in names.vertices c s)
condition_is_read p names s c stack given =
    condition_read p names s c stack given ∙ map_guard (λ (b : Bool). Truth b ∷ stack) (has_truth names s c) (truth_of_tree s c)
