-- Operands in a row: each further one is beside all that stand at its left.
use Rattle.std.proofs.lemmas.Bool.{eqb-true}
use Rattle.std.proofs.Common.{◌≡◌, refl, ap, ◌∙◌, ℕ, false, true, true≢false, map, List, [], ◌∷◌, length, ◌==◌, Option, arith}
use Rattle.syntax.specs.declared.operators.Addition.{Addition}
use Rattle.syntax.specs.declared.operators.Multiplication.{Multiplication}
use Rattle.syntax.specs.declared.expression.Unary.{Unary}
use Rattle.syntax.specs.declared.expression.Term.{Term}
use Rattle.syntax.specs.declared.expression.Comparison.{Comparison}
use Rattle.syntax.specs.declared.expression.Conjunction.{Conjunction}
use Rattle.syntax.specs.ExpressionViews.{unary_of, term_from, sum_from, conjunction_from, expression_from}
use Rattle.syntax.specs.inside.ExpressionViews.{term_of, comparison_of, conjunction_of}
use Rattle.syntax.specs.SourceTrees.{ConjunctionTree, ComparisonTree, TermTree, UnaryTree}
use Rattle.typed_tree.specs.declared.expression.Connective.TheVariants as connective
use Rattle.expression_types.specs.declared.fault.Fault.{Fault}
use Rattle.expression_types.specs.Expression.{value_of, disjuncts, conjunction_value, conjuncts, comparison_value, sum_value, summands, term_value, factors, unary_value}
use Rattle.expression_types.specs.Faults.{WithFaults, sure, outcome, ◌>>=◌}
use Rattle.expression_types.specs.Operators.{addition_operator, multiplied, IntegersTree, ConditionsTree, first_integer, first_condition, beside_integer, beside_condition, grouped_integers}
use Rattle.expression_types.specs.Operators.{grouped_conditions}
use Rattle.expression_types.specs.ScopeTree.{ScopeTree}
use Rattle.expression_types.specs.ValueTree.{ValueTree}
use Rattle.expression_types.proofs.Steps.{row, row_first, outcome_then}

-- one operand more of a level
abbrev pub sum_step : ScopeTree → ℕ → IntegersTree → Addition × Term → WithFaults IntegersTree
sum_step scope at left m = term_value scope at (term_of m.1) >>= λ v. sure (beside_integer (addition_operator m.0) left (first_integer v))

summands_row : (scope : ScopeTree) (at : ℕ) (left : IntegersTree) (o : Addition) (first : TermTree) (more : List (Addition × Term))
    → summands scope at left o (sum_from first (map (λ m. (m.0, term_of m.1)) more))
    ≡ (term_value scope at first >>= λ v. row (sum_step scope at) (beside_integer (addition_operator o) left (first_integer v)) more)
summands_row scope at left o first [] = refl
summands_row scope at left o first (m ∷ more) =
    λ i. term_value scope at first >>= λ v.
    (summands_row scope at (beside_integer (addition_operator o) left (first_integer v)) m.0 (term_of m.1) more
    ∙ row_first (term_value scope at (term_of m.1)) (λ w. beside_integer (addition_operator m.0) (beside_integer (addition_operator o) left (first_integer v)) (first_integer w))
    (sum_step scope at) more) i

-- a level with operators goes on after its first operand
pub sum_begins : (scope : ScopeTree) (at : ℕ) (first : TermTree) (more : List (Addition × Term)) (old new : Option Fault) (v : ValueTree)
    → (length more == 0) ≡ false → outcome old (term_value scope at first) ≡ (v, new)
    → outcome old (sum_value scope at (sum_from first (map (λ m. (m.0, term_of m.1)) more)))
    ≡ outcome new (row (sum_step scope at) (first_integer v) more >>= grouped_integers at)
sum_begins scope at first [] old new v some is = absurd (true≢false some)
sum_begins scope at first (m ∷ more) old new v some is =
    outcome_then old new (term_value scope at first) v (λ v. summands scope at (first_integer v) m.0 (sum_from (term_of m.1) (map (λ m. (m.0, term_of m.1)) more)) >>= grouped_integers at) is
    ∙ ap (λ n. outcome new (n >>= grouped_integers at)) (summands_row scope at (first_integer v) m.0 (term_of m.1) more
    ∙ row_first (term_value scope at (term_of m.1)) (λ w. beside_integer (addition_operator m.0) (first_integer v) (first_integer w)) (sum_step scope at) more)

-- one operand more of a level
abbrev pub term_step : ScopeTree → ℕ → IntegersTree → Multiplication × Unary → WithFaults IntegersTree
term_step scope at left m = unary_value scope at (unary_of m.1) >>= λ v. sure (beside_integer (multiplied m.0) left (first_integer v))

factors_row : (scope : ScopeTree) (at : ℕ) (left : IntegersTree) (o : Multiplication) (first : UnaryTree) (more : List (Multiplication × Unary))
    → factors scope at left o (term_from first (map (λ m. (m.0, unary_of m.1)) more))
    ≡ (unary_value scope at first >>= λ v. row (term_step scope at) (beside_integer (multiplied o) left (first_integer v)) more)
factors_row scope at left o first [] = refl
factors_row scope at left o first (m ∷ more) =
    λ i. unary_value scope at first >>= λ v.
    (factors_row scope at (beside_integer (multiplied o) left (first_integer v)) m.0 (unary_of m.1) more
    ∙ row_first (unary_value scope at (unary_of m.1)) (λ w. beside_integer (multiplied m.0) (beside_integer (multiplied o) left (first_integer v)) (first_integer w)) (term_step scope at) more) i

-- a level with operators goes on after its first operand
pub term_begins : (scope : ScopeTree) (at : ℕ) (first : UnaryTree) (more : List (Multiplication × Unary)) (old new : Option Fault) (v : ValueTree)
    → (length more == 0) ≡ false → outcome old (unary_value scope at first) ≡ (v, new)
    → outcome old (term_value scope at (term_from first (map (λ m. (m.0, unary_of m.1)) more)))
    ≡ outcome new (row (term_step scope at) (first_integer v) more >>= grouped_integers at)
term_begins scope at first [] old new v some is = absurd (true≢false some)
term_begins scope at first (m ∷ more) old new v some is =
    outcome_then old new (unary_value scope at first) v (λ v. factors scope at (first_integer v) m.0 (term_from (unary_of m.1) (map (λ m. (m.0, unary_of m.1)) more)) >>= grouped_integers at) is
    ∙ ap (λ n. outcome new (n >>= grouped_integers at)) (factors_row scope at (first_integer v) m.0 (unary_of m.1) more
    ∙ row_first (unary_value scope at (unary_of m.1)) (λ w. beside_integer (multiplied m.0) (first_integer v) (first_integer w)) (term_step scope at) more)

-- one operand more of a level
abbrev pub conjunction_step : ScopeTree → ℕ → ConditionsTree → Comparison → WithFaults ConditionsTree
conjunction_step scope at left m = comparison_value scope at (comparison_of m) >>= λ v. sure (beside_condition connective.And left (first_condition v))

conjuncts_row : (scope : ScopeTree) (at : ℕ) (left : ConditionsTree) (first : ComparisonTree) (more : List Comparison)
    → conjuncts scope at left (conjunction_from first (map comparison_of more))
    ≡ (comparison_value scope at first >>= λ v. row (conjunction_step scope at) (beside_condition connective.And left (first_condition v)) more)
conjuncts_row scope at left first [] = refl
conjuncts_row scope at left first (m ∷ more) =
    λ i. comparison_value scope at first >>= λ v.
    (conjuncts_row scope at (beside_condition connective.And left (first_condition v)) (comparison_of m) more
    ∙ row_first (comparison_value scope at (comparison_of m)) (λ w. beside_condition connective.And (beside_condition connective.And left (first_condition v)) (first_condition w))
    (conjunction_step scope at) more) i

pub conjunction_begins : (scope : ScopeTree) (at : ℕ) (first : ComparisonTree) (more : List Comparison) (old new : Option Fault) (v : ValueTree)
    → (length more == 0) ≡ false → outcome old (comparison_value scope at first) ≡ (v, new)
    → outcome old (conjunction_value scope at (conjunction_from first (map comparison_of more)))
    ≡ outcome new (row (conjunction_step scope at) (first_condition v) more >>= grouped_conditions at)
conjunction_begins scope at first [] old new v some is = absurd (true≢false some)
conjunction_begins scope at first (m ∷ more) old new v some is =
    outcome_then old new (comparison_value scope at first) v (λ v. conjuncts scope at (first_condition v) (conjunction_from (comparison_of m) (map comparison_of more)) >>= grouped_conditions at) is
    ∙ ap (λ n. outcome new (n >>= grouped_conditions at)) (conjuncts_row scope at (first_condition v) (comparison_of m) more
    ∙ row_first (comparison_value scope at (comparison_of m)) (λ w. beside_condition connective.And (first_condition v) (first_condition w)) (conjunction_step scope at) more)

-- one operand more of a level
abbrev pub expression_step : ScopeTree → ℕ → ConditionsTree → Conjunction → WithFaults ConditionsTree
expression_step scope at left m = conjunction_value scope at (conjunction_of m) >>= λ v. sure (beside_condition connective.Or left (first_condition v))

disjuncts_row : (scope : ScopeTree) (at : ℕ) (left : ConditionsTree) (first : ConjunctionTree) (more : List Conjunction)
    → disjuncts scope at left (expression_from first (map conjunction_of more))
    ≡ (conjunction_value scope at first >>= λ v. row (expression_step scope at) (beside_condition connective.Or left (first_condition v)) more)
disjuncts_row scope at left first [] = refl
disjuncts_row scope at left first (m ∷ more) =
    λ i. conjunction_value scope at first >>= λ v.
    (disjuncts_row scope at (beside_condition connective.Or left (first_condition v)) (conjunction_of m) more
    ∙ row_first (conjunction_value scope at (conjunction_of m)) (λ w. beside_condition connective.Or (beside_condition connective.Or left (first_condition v)) (first_condition w))
    (expression_step scope at) more) i

pub expression_begins : (scope : ScopeTree) (at : ℕ) (first : ConjunctionTree) (more : List Conjunction) (old new : Option Fault) (v : ValueTree)
    → (length more == 0) ≡ false → outcome old (conjunction_value scope at first) ≡ (v, new)
    → outcome old (value_of scope at (expression_from first (map conjunction_of more)))
    ≡ outcome new (row (expression_step scope at) (first_condition v) more >>= grouped_conditions at)
expression_begins scope at first [] old new v some is = absurd (true≢false some)
expression_begins scope at first (m ∷ more) old new v some is =
    outcome_then old new (conjunction_value scope at first) v (λ v. disjuncts scope at (first_condition v) (expression_from (conjunction_of m) (map conjunction_of more)) >>= grouped_conditions at) is
    ∙ ap (λ n. outcome new (n >>= grouped_conditions at)) (disjuncts_row scope at (first_condition v) (conjunction_of m) more
    ∙ row_first (conjunction_value scope at (conjunction_of m)) (λ w. beside_condition connective.Or (first_condition v) (first_condition w)) (expression_step scope at) more)

pub sum_alone : (scope : ScopeTree) (at : ℕ) (first : TermTree) (more : List (Addition × Term)) (old new : Option Fault) (v : ValueTree)
    → (length more == 0) ≡ true → outcome old (term_value scope at first) ≡ (v, new) → outcome old (sum_value scope at (sum_from first (map (λ m. (m.0, term_of m.1)) more))) ≡ (v, new)
sum_alone scope at first [] old new v none is = is
sum_alone scope at first (m ∷ more) old new v none is =
    let no_more : length (m ∷ more) ≡ 0 = eqb-true _ 0 none in absurd (omega arith)

pub term_alone : (scope : ScopeTree) (at : ℕ) (first : UnaryTree) (more : List (Multiplication × Unary)) (old new : Option Fault) (v : ValueTree)
    → (length more == 0) ≡ true → outcome old (unary_value scope at first) ≡ (v, new) → outcome old (term_value scope at (term_from first (map (λ m. (m.0, unary_of m.1)) more))) ≡ (v, new)
term_alone scope at first [] old new v none is = is
term_alone scope at first (m ∷ more) old new v none is =
    let no_more : length (m ∷ more) ≡ 0 = eqb-true _ 0 none in absurd (omega arith)

pub conjunction_alone : (scope : ScopeTree) (at : ℕ) (first : ComparisonTree) (more : List Comparison) (old new : Option Fault) (v : ValueTree)
    → (length more == 0) ≡ true → outcome old (comparison_value scope at first) ≡ (v, new) → outcome old (conjunction_value scope at (conjunction_from first (map comparison_of more))) ≡ (v, new)
conjunction_alone scope at first [] old new v none is = is
conjunction_alone scope at first (m ∷ more) old new v none is =
    let no_more : length (m ∷ more) ≡ 0 = eqb-true _ 0 none in absurd (omega arith)

pub expression_alone : (scope : ScopeTree) (at : ℕ) (first : ConjunctionTree) (more : List Conjunction) (old new : Option Fault) (v : ValueTree)
    → (length more == 0) ≡ true → outcome old (conjunction_value scope at first) ≡ (v, new) → outcome old (value_of scope at (expression_from first (map conjunction_of more))) ≡ (v, new)
expression_alone scope at first [] old new v none is = is
expression_alone scope at first (m ∷ more) old new v none is =
    let no_more : length (m ∷ more) ≡ 0 = eqb-true _ 0 none in absurd (omega arith)
