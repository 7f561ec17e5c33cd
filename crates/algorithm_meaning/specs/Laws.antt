-- Laws of the definitions, in the subject's words.
use Rattle.std.specs.Prelude.{[], ◌≡◌, ℕ, ℤ, pos, negsuc, FitsSigned, if◌then◌else◌, ◌==◌, List, ◌∷◌, ◌++◌}
use Rattle.std.specs.Int.{w64}
use Rattle.apply_options.specs.declared.reduction.Reduction.{Reduction}
use Rattle.apply_options.specs.declared.reduction.Reduction.TheVariants as reduction
use Rattle.weighted_edges.specs.Edge.{Edge}
use Rattle.typed_tree.specs.FunctionStatementTree.{FunctionStatementsTree}
use Rattle.algorithm_meaning.specs.declared.contribution.Contribution.{Contribution}
use Rattle.algorithm_meaning.specs.declared.state.SetBinding.{SetBinding}
use Rattle.algorithm_meaning.specs.Arithmetic.{reduced}
use Rattle.algorithm_meaning.specs.EdgeApply.{all_give, for_vector}

-- a number is 0 or has the sign of another
abbrev pub HasSignOf : ℤ → ℤ → Type 0
HasSignOf (pos m) (pos n) = Unit
HasSignOf (pos m) (negsuc n) = m ≡ 0
HasSignOf (negsuc m) (pos n) = ⊥
HasSignOf (negsuc m) (negsuc n) = Unit

-- what changes no int that is reduced with it
abbrev pub unit_of : Reduction → ℤ
unit_of reduction.Min = pos 9223372036854775807
unit_of reduction.Max = negsuc 9223372036854775807
unit_of reduction.Plus = pos 0

-- the order in which numbers are reduced, and how they are grouped, does not matter
pub record IsReduction (r : Reduction) : Type 0 where
  pub commutative : (a b : ℤ) → reduced r a b ≡ reduced r b a
  pub associative : (a b c : ℤ) → reduced r (reduced r a b) c ≡ reduced r a (reduced r b c)
  pub unit : (a : ℤ) → FitsSigned w64 a → reduced r a (unit_of r) ≡ a

-- what these edges give a vertex for one vector
abbrev pub given_to : (vector v : ℕ) → List FunctionStatementsTree → List SetBinding → (before : List (List ℤ)) → List Edge → List Contribution
given_to vector v functions sets before [] = []
given_to vector v functions sets before (edge ∷ edges) =
    (if edge.1 == v then for_vector vector (all_give functions sets before edge) else [])
    ++ given_to vector v functions sets before edges

-- a number reduced with all that is given
abbrev pub reduced_all : ℤ → List Contribution → ℤ
reduced_all n [] = n
reduced_all n (c ∷ cs) = reduced_all (reduced c.reduction n c.number) cs
