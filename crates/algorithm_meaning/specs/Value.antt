-- The values of expressions.
use Rattle.std.specs.Prelude.{ℕ, ℤ, pos, negsuc, Bool, true, false, not, ◌&&◌, nat_lt, List, [], length, slice_get, slice_index_or, slice_set, Option, Some}
use Rattle.std.specs.Prelude.{None}
use Rattle.std.specs.Int.{cast_signed, w64}
use Rattle.apply_options.specs.declared.reduction.Reduction.{Reduction}
use Rattle.typed_tree.specs.declared.expression.Endpoint.{Endpoint}
use Rattle.typed_tree.specs.declared.expression.Endpoint.TheVariants as endpoint
use Rattle.typed_tree.specs.IntExpressionTree as integer
use Rattle.typed_tree.specs.IntExpressionTree.{IntExpressionTree}
use Rattle.typed_tree.specs.BoolExpressionTree as condition
use Rattle.typed_tree.specs.BoolExpressionTree.{BoolExpressionTree}
use Rattle.algorithm_meaning.specs.Arithmetic.{negative, arithmetic, compared, connected, reduced}
use Rattle.algorithm_meaning.specs.declared.state.SetBinding.{SetBinding}
use Rattle.algorithm_meaning.specs.State.{ScopeValue}

-- a vertex that the function works on
abbrev pub vertex_at : ScopeValue → Endpoint → ℕ
vertex_at scope endpoint.Source = scope.source
vertex_at scope endpoint.Destination = scope.destination

-- the entry of a vector at a vertex, 0 where there is none
abbrev pub entry : List (List ℤ) → ℕ → ℕ → ℤ
entry vectors vector vertex = slice_index_or (slice_index_or vectors vector []) vertex (pos 0)

-- the same at an index, which may be negative
abbrev pub entry_at : List (List ℤ) → ℕ → ℤ → ℤ
entry_at vectors vector (pos vertex) = entry vectors vector vertex
entry_at vectors vector (negsuc n) = pos 0

-- a vector with this entry at a vertex
abbrev pub with_entry : List (List ℤ) → ℕ → ℕ → ℤ → List (List ℤ)
with_entry vectors vector vertex x = slice_set vectors vector (slice_set (slice_index_or vectors vector []) vertex x)

-- the vectors with the entry at a vertex reduced with a number
abbrev pub reduce_at : List (List ℤ) → ℕ → ℕ → Reduction → ℤ → List (List ℤ)
reduce_at vectors vector vertex reduction x = with_entry vectors vector vertex (reduced reduction (entry vectors vector vertex) x)

-- the members of a set, none where there is no set
abbrev pub members_of : Option SetBinding → List ℕ
members_of None = []
members_of (Some set) = set.members

-- the number is a vertex
abbrev pub is_vertex : ℕ → ℤ → Bool
is_vertex vertices (pos n) = nat_lt n vertices
is_vertex vertices (negsuc n) = false

-- the value of an expression of type int; the size of a set counts as an int
abbrev pub value : List (List ℤ) → List SetBinding → ScopeValue → IntExpressionTree → ℤ
value vectors sets scope (integer.Number n) = n
value vectors sets scope (integer.Constant name n) = n
value vectors sets scope (integer.Variable slot) = slice_index_or scope.integers slot.index (pos 0)
value vectors sets scope (integer.Parameter at) = pos (vertex_at scope at)
value vectors sets scope integer.Weight = scope.weight
value vectors sets scope (integer.EntryAt vector at) = entry vectors vector (vertex_at scope at)
value vectors sets scope (integer.Entry vector index) = entry_at vectors vector (value vectors sets scope index)
value vectors sets scope (integer.SetSize slot) = cast_signed w64 (length (members_of (slice_get sets slot.index)))
value vectors sets scope (integer.Negative e) = negative (value vectors sets scope e)
value vectors sets scope (integer.Arithmetic o a b) = arithmetic o (value vectors sets scope a) (value vectors sets scope b)

-- the value of an expression of type bool
abbrev pub truth : List (List ℤ) → List SetBinding → ScopeValue → BoolExpressionTree → Bool
truth vectors sets scope (condition.Literal b) = b
truth vectors sets scope (condition.Constant name b) = b
truth vectors sets scope (condition.Variable slot) = slice_index_or scope.conditions slot.index false
truth vectors sets scope (condition.Not c) = not (truth vectors sets scope c)
truth vectors sets scope (condition.Compare o a b) = compared o (value vectors sets scope a) (value vectors sets scope b)
truth vectors sets scope (condition.Connect o a b) = connected o (truth vectors sets scope a) (truth vectors sets scope b)

-- each index in the expression is a vertex, wherever it stands
abbrev pub stays_inside : ℕ → List (List ℤ) → List SetBinding → ScopeValue → IntExpressionTree → Bool
stays_inside vertices vectors sets scope (integer.Number n) = true
stays_inside vertices vectors sets scope (integer.Constant name n) = true
stays_inside vertices vectors sets scope (integer.Variable slot) = true
stays_inside vertices vectors sets scope (integer.Parameter at) = true
stays_inside vertices vectors sets scope integer.Weight = true
stays_inside vertices vectors sets scope (integer.EntryAt vector at) = true
stays_inside vertices vectors sets scope (integer.SetSize slot) = true
stays_inside vertices vectors sets scope (integer.Entry vector index) =
    stays_inside vertices vectors sets scope index && is_vertex vertices (value vectors sets scope index)
stays_inside vertices vectors sets scope (integer.Negative e) = stays_inside vertices vectors sets scope e
stays_inside vertices vectors sets scope (integer.Arithmetic o a b) =
    stays_inside vertices vectors sets scope a && stays_inside vertices vectors sets scope b

-- whether an expression of type bool reads entries at vertices alone; both sides of `and` and `or` count
abbrev pub condition_stays_inside : ℕ → List (List ℤ) → List SetBinding → ScopeValue → BoolExpressionTree → Bool
condition_stays_inside vertices vectors sets scope (condition.Literal b) = true
condition_stays_inside vertices vectors sets scope (condition.Constant name b) = true
condition_stays_inside vertices vectors sets scope (condition.Variable slot) = true
condition_stays_inside vertices vectors sets scope (condition.Not c) = condition_stays_inside vertices vectors sets scope c
condition_stays_inside vertices vectors sets scope (condition.Compare o a b) =
    stays_inside vertices vectors sets scope a && stays_inside vertices vectors sets scope b
condition_stays_inside vertices vectors sets scope (condition.Connect o a b) =
    condition_stays_inside vertices vectors sets scope a && condition_stays_inside vertices vectors sets scope b
