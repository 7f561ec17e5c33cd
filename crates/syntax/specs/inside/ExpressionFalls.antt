-- An expression is deeper than the expressions in it.
use Rattle.std.specs.Prelude.{[], ◌≤◌, List, ◌∷◌, ℕ, map, max, Option, Some, None}
use Rattle.std.proofs.Common.{arith, ◌≡◌, refl}
use denote.Param.Weighed.{most}
use Rattle.std.specs.Global.{Box}
use Rattle.syntax.specs.declared.expression.Primary.{Primary}
use Rattle.syntax.specs.declared.expression.Expression.TheDeep.{deep-Primary, deep-Unary, deep-Term, deep-Sum, deep-Comparison, deep-Conjunction}
use Rattle.syntax.specs.declared.expression.Expression.TheDeep.{deep-Expression}
use Rattle.syntax.specs.ExpressionDepth.{primary_depth, unary_depth, term_depth, sum_depth, comparison_depth, conjunction_depth, expression_depth}
use Rattle.syntax.specs.ExpressionViews.{primary_of, signed_operand, unary_of, term_from, sum_from, conjunction_from, expression_from}
use Rattle.syntax.specs.inside.ExpressionViews.{term_of, sum_of, comparison_from, comparison_of, conjunction_of}
use Rattle.syntax.specs.declared.operators.Prefix.{Prefix}
use Rattle.syntax.specs.SourceTrees.{UnaryTree, Bare, TermTree, SumTree, ComparisonTree, ConjunctionTree}
use Rattle.syntax.specs.declared.expression.Unary.{Unary}
use Rattle.syntax.specs.declared.operators.Multiplication.{Multiplication}
use Rattle.syntax.specs.declared.expression.Term.{Term}
use Rattle.syntax.specs.declared.operators.Addition.{Addition}
use Rattle.syntax.specs.declared.expression.Sum.{Sum}
use Rattle.syntax.specs.declared.operators.Relation.{Relation}
use Rattle.syntax.specs.declared.expression.Comparison.{Comparison}
use Rattle.syntax.specs.declared.expression.Conjunction.{Conjunction}
use Rattle.syntax.specs.declared.expression.Expression.TheInside.{Inside}
use Rattle.syntax.specs.declared.expression.Primary.TheVariants as primary
use Rattle.syntax.specs.declared.expression.Expression.TheShapes as shapes

primary_falls : (p : Primary) → deep-Primary p ≤ primary_depth (primary_of p)
primary_falls (primary.Number n) = omega arith
primary_falls (primary.Truth b) = omega arith
primary_falls (primary.Variable name) = omega arith
primary_falls (primary.Entry name index) = omega arith
primary_falls (primary.Size name) = omega arith
primary_falls (primary.Parentheses inside) = omega arith

unary_depth-behind : (signs : List Prefix) (u : UnaryTree) → unary_depth (signed_operand signs u) ≡ unary_depth u
unary_depth-behind [] u = refl
unary_depth-behind (sign ∷ signs) u = unary_depth-behind signs u

unary_falls : (u : Unary) → deep-Unary u ≤ unary_depth (unary_of u)
unary_falls u = let h : deep-Primary u.primary ≤ primary_depth (primary_of u.primary) = primary_falls u.primary in
    omega (arith, unary_depth-behind u.signs.items (Bare (primary_of u.primary)))

terms_fall : (w : Multiplication × Unary → ℕ) → ((m : Multiplication × Unary) → w m ≤ unary_depth (unary_of m.1))
    → (first : UnaryTree) (more : List (Multiplication × Unary))
    → (unary_depth first ≤ term_depth (term_from first (map (λ m. (m.0, unary_of m.1)) more)))
    × (most w more ≤ term_depth (term_from first (map (λ m. (m.0, unary_of m.1)) more)))
terms_fall w fits first [] = (omega arith, omega arith)
terms_fall w fits first (m ∷ more) =
    let h = terms_fall w fits (unary_of m.1) more in
    let g : w m ≤ unary_depth (unary_of m.1) = fits m in
    (omega arith, omega (arith, h.0, h.1))

operand_falls : (m : Multiplication × Unary) → (shapes.weighed-Term-more-at-2).weight Unary deep-Unary m ≤ unary_depth (unary_of m.1)
operand_falls m =
    let g : deep-Unary m.1 ≤ unary_depth (unary_of m.1) = unary_falls m.1 in
    let h : max 0 (max (deep-Unary m.1) 0) ≤ unary_depth (unary_of m.1) = omega arith in
    h

term_falls : (t : Term) → deep-Term t ≤ term_depth (term_of t)
term_falls t =
    let h = terms_fall ((shapes.weighed-Term-more-at-2).weight Unary deep-Unary) operand_falls (unary_of t.first) t.more.items in
    let g : deep-Unary t.first ≤ unary_depth (unary_of t.first) = unary_falls t.first in
    let k : (shapes.weighed-Term-more).weight Unary deep-Unary t.more ≤ term_depth (term_of t) = h.1 in
    omega (arith, h.0)

sums_fall : (w : Addition × Term → ℕ) → ((m : Addition × Term) → w m ≤ term_depth (term_of m.1))
    → (first : TermTree) (more : List (Addition × Term))
    → (term_depth first ≤ sum_depth (sum_from first (map (λ m. (m.0, term_of m.1)) more)))
    × (most w more ≤ sum_depth (sum_from first (map (λ m. (m.0, term_of m.1)) more)))
sums_fall w fits first [] = (omega arith, omega arith)
sums_fall w fits first (m ∷ more) =
    let h = sums_fall w fits (term_of m.1) more in
    let g : w m ≤ term_depth (term_of m.1) = fits m in
    (omega arith, omega (arith, h.0, h.1))

summand_falls : (m : Addition × Term) → (shapes.weighed-Sum-more-at-2).weight Term deep-Term m ≤ term_depth (term_of m.1)
summand_falls m =
    let g : deep-Term m.1 ≤ term_depth (term_of m.1) = term_falls m.1 in
    let h : max 0 (max (deep-Term m.1) 0) ≤ term_depth (term_of m.1) = omega arith in
    h

sum_falls : (s : Sum) → deep-Sum s ≤ sum_depth (sum_of s)
sum_falls s =
    let h = sums_fall ((shapes.weighed-Sum-more-at-2).weight Term deep-Term) summand_falls (term_of s.first) s.more.items in
    let g : deep-Term s.first ≤ term_depth (term_of s.first) = term_falls s.first in
    let k : (shapes.weighed-Sum-more).weight Term deep-Term s.more ≤ sum_depth (sum_of s) = h.1 in
    omega (arith, h.0)

right_falls : (left : SumTree) (right : Option (Relation × Box Sum))
    → (sum_depth left ≤ comparison_depth (comparison_from left right))
    × ((shapes.weighed-Comparison-right).weight Sum deep-Sum right ≤ comparison_depth (comparison_from left right))
right_falls left None = (omega arith, let h : 0 ≤ sum_depth left = omega arith in h)
right_falls left (Some x) =
    let g : deep-Sum x.1.value ≤ sum_depth (sum_of x.1.value) = sum_falls x.1.value in
    (omega arith, let h : max (max 0 (max (deep-Sum x.1.value) 0)) 0 ≤ max (sum_depth left) (sum_depth (sum_of x.1.value)) = omega arith in h)

comparison_falls : (c : Comparison) → deep-Comparison c ≤ comparison_depth (comparison_of c)
comparison_falls c =
    let h = right_falls (sum_of c.left) c.right in
    let g : deep-Sum c.left ≤ sum_depth (sum_of c.left) = sum_falls c.left in
    omega (arith, h.0, h.1)

comparisons_fall : (w : Comparison → ℕ) → ((m : Comparison) → w m ≤ comparison_depth (comparison_of m))
    → (first : ComparisonTree) (more : List Comparison)
    → (comparison_depth first ≤ conjunction_depth (conjunction_from first (map comparison_of more)))
    × (most w more ≤ conjunction_depth (conjunction_from first (map comparison_of more)))
comparisons_fall w fits first [] = (omega arith, omega arith)
comparisons_fall w fits first (m ∷ more) =
    let h = comparisons_fall w fits (comparison_of m) more in
    let g : w m ≤ comparison_depth (comparison_of m) = fits m in
    (omega arith, omega (arith, h.0, h.1))

conjunction_falls : (c : Conjunction) → deep-Conjunction c ≤ conjunction_depth (conjunction_of c)
conjunction_falls c =
    let h = comparisons_fall deep-Comparison comparison_falls (comparison_of c.first) c.more.items in
    let g : deep-Comparison c.first ≤ comparison_depth (comparison_of c.first) = comparison_falls c.first in
    let k : (shapes.weighed-Conjunction-more).weight Comparison deep-Comparison c.more ≤ conjunction_depth (conjunction_of c) = h.1 in
    omega (arith, h.0)

conjunctions_fall : (w : Conjunction → ℕ) → ((m : Conjunction) → w m ≤ conjunction_depth (conjunction_of m))
    → (first : ConjunctionTree) (more : List Conjunction)
    → (conjunction_depth first ≤ expression_depth (expression_from first (map conjunction_of more)))
    × (most w more ≤ expression_depth (expression_from first (map conjunction_of more)))
conjunctions_fall w fits first [] = (omega arith, omega arith)
conjunctions_fall w fits first (m ∷ more) =
    let h = conjunctions_fall w fits (conjunction_of m) more in
    let g : w m ≤ conjunction_depth (conjunction_of m) = fits m in
    (omega arith, omega (arith, h.0, h.1))

pub expression_falls : (e : Inside) → deep-Expression e ≤ expression_depth (expression_from (conjunction_of e.first) (map conjunction_of e.more.items))
expression_falls e =
    let h = conjunctions_fall deep-Conjunction conjunction_falls (conjunction_of e.first) e.more.items in
    let g : deep-Conjunction e.first ≤ conjunction_depth (conjunction_of e.first) = conjunction_falls e.first in
    let k : (shapes.weighed-Expression-more).weight Conjunction deep-Conjunction e.more ≤ expression_depth
    (expression_from (conjunction_of e.first) (map conjunction_of e.more.items)) = h.1 in
    omega (arith, h.0)
