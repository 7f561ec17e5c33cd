-- Several operands are not one, and the name that an expression is is that of its one operand.
use Rattle.std.proofs.Common.{◌≡◌, ◌<◌, refl, arith, map, length, List, [], ◌∷◌, Option, Some, None}
use Rattle.syntax.specs.declared.operators.Addition.{Addition}
use Rattle.syntax.specs.declared.operators.Multiplication.{Multiplication}
use Rattle.syntax.specs.declared.operators.Prefix.{Prefix}
use Rattle.syntax.specs.declared.expression.Unary.{Unary}
use Rattle.syntax.specs.declared.expression.Term.{Term}
use Rattle.syntax.specs.declared.expression.Comparison.{Comparison}
use Rattle.syntax.specs.declared.expression.Conjunction.{Conjunction}
use Rattle.syntax.specs.ExpressionDepth.{expression_depth, unary_depth}
use Rattle.syntax.specs.ExpressionViews.{signed_operand, unary_of, term_from, sum_from, conjunction_from, expression_from}
use Rattle.syntax.specs.inside.ExpressionViews.{term_of, comparison_of, conjunction_of}
use Rattle.syntax.specs.SourceTrees.{ExpressionTree, ConjunctionTree, ComparisonTree, TermTree, UnaryTree, PrimaryTree, LastConjunction, ConjunctionThen, LastComparison, ComparisonThen, OneSum}
use Rattle.syntax.specs.SourceTrees.{TwoSums, LastTerm, TermThen, LastUnary, UnaryThen, Bare}
use Rattle.syntax.specs.Terminals.{Identifier}
use Rattle.expression_types.specs.BareNames.{lone_name, only_unary, only_term, only_comparison, only_operand, unary_name}

pub several_units : (first : UnaryTree) (more : List (Multiplication × Unary)) → 0 < length more
    → None ≡ only_unary (term_from first (map (λ m. (m.0, unary_of m.1)) more))
several_units first [] some = absurd (omega (arith, some))
several_units first (m ∷ more) some = refl

pub several_terms : (first : TermTree) (more : List (Addition × Term)) → 0 < length more
    → None ≡ only_term (sum_from first (map (λ m. (m.0, term_of m.1)) more))
several_terms first [] some = absurd (omega (arith, some))
several_terms first (m ∷ more) some = refl

pub several_comparisons : (first : ComparisonTree) (more : List Comparison) → 0 < length more
    → None ≡ only_comparison (conjunction_from first (map comparison_of more))
several_comparisons first [] some = absurd (omega (arith, some))
several_comparisons first (m ∷ more) some = refl

pub several_conjunctions : (first : ConjunctionTree) (more : List Conjunction) → 0 < length more
    → None ≡ only_operand (expression_from first (map conjunction_of more))
several_conjunctions first [] some = absurd (omega (arith, some))
several_conjunctions first (m ∷ more) some = refl

-- after signs nothing is a bare name
pub signed_name : (signs : List Prefix) (p : PrimaryTree) → 0 < length signs → None ≡ unary_name (signed_operand signs (Bare p))
signed_name [] p some = absurd (omega (arith, some))
signed_name (s ∷ signs) p some = refl

abbrev pub operand_name : Option UnaryTree → Option Identifier
operand_name None = None
operand_name (Some u) = unary_name u

pub bare_name-operand : (e : ExpressionTree) → operand_name (only_operand e) ≡ lone_name e
bare_name-operand (ConjunctionThen c others) = refl
bare_name-operand (LastConjunction (ComparisonThen c others)) = refl
bare_name-operand (LastConjunction (LastComparison (TwoSums left relation right))) = refl
bare_name-operand (LastConjunction (LastComparison (OneSum (TermThen t operator others)))) = refl
bare_name-operand (LastConjunction (LastComparison (OneSum (LastTerm (UnaryThen u operator others))))) = refl
bare_name-operand (LastConjunction (LastComparison (OneSum (LastTerm (LastUnary u))))) = refl

-- an expression is as deep as its one operand
pub operand_depth : (e : ExpressionTree) (u : UnaryTree) → only_operand e ≡ Some u → expression_depth e ≡ unary_depth u
operand_depth (ConjunctionThen c others) u is = cc
operand_depth (LastConjunction (ComparisonThen c others)) u is = cc
operand_depth (LastConjunction (LastComparison (TwoSums left relation right))) u is = cc
operand_depth (LastConjunction (LastComparison (OneSum (TermThen t operator others)))) u is = cc
operand_depth (LastConjunction (LastComparison (OneSum (LastTerm (UnaryThen v operator others))))) u is = cc
operand_depth (LastConjunction (LastComparison (OneSum (LastTerm (LastUnary v))))) u is = cc
