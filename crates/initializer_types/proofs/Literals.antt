-- Several signs are no literal.
use Rattle.std.proofs.Common.{◌≡◌, ◌<◌, refl, arith, length, List, [], ◌∷◌, None}
use Rattle.syntax.specs.declared.operators.Prefix.{Prefix}
use Rattle.syntax.specs.declared.operators.Prefix.TheVariants as prefix
use Rattle.syntax.specs.ExpressionViews.{signed_operand}
use Rattle.syntax.specs.SourceTrees.{PrimaryTree, Bare}
use Rattle.initializer_types.specs.DeclarationForms.{unary_number, unary_truth}

pub signed_truth : (signs : List Prefix) (p : PrimaryTree) → 0 < length signs → None ≡ unary_truth (signed_operand signs (Bare p))
signed_truth [] p some = absurd (omega (arith, some))
signed_truth (s ∷ signs) p some = refl

pub several_signs : (signs : List Prefix) (p : PrimaryTree) → 0 < length signs → (length signs ≡ 1 → ⊥) → None ≡ unary_number (signed_operand signs (Bare p))
several_signs [] p some many = absurd (omega (arith, some))
several_signs (prefix.Not ∷ signs) p some many = refl
several_signs (prefix.Minus ∷ []) p some many = absurd (many refl)
several_signs (prefix.Minus ∷ s ∷ signs) p some many = refl
