-- Statements of functions. One definition does for all functions: what a statement writes changes the vectors at once in a vertex function, and is collected in
-- an edge function, which reads the vectors as they were. And filters, the functions that give a truth value.
use Rattle.std.specs.Prelude.{ℕ, ℤ, List, [], ◌∷◌, ◌++◌, if◌then◌else◌, Option, Some, None, Bool, false, slice_index_or, slice_get}
use Rattle.std.specs.List.{filter}
use Rattle.apply_options.specs.declared.reduction.Reduction.{Reduction}
use Rattle.typed_tree.specs.FunctionStatementTree.{FunctionStatementTree, DeclareInt, DeclareBool, SetInt, SetBool, ReduceInt, SetEntry}
use Rattle.typed_tree.specs.FunctionStatementTree.{ReduceEntry, If, IfElse, FunctionStatementsTree, NoStep, StepThen, FunctionTree}
use Rattle.algorithm_meaning.specs.declared.contribution.Contribution.{Contribution}
use Rattle.algorithm_meaning.specs.declared.contribution.Writing.{Writing}
use Rattle.algorithm_meaning.specs.declared.state.SetBinding.{SetBinding}
use Rattle.algorithm_meaning.specs.State.{ScopeValue, filter_scope}
use Rattle.algorithm_meaning.specs.Value.{value, truth, with_entry, reduce_at}
use Rattle.algorithm_meaning.specs.Statements.{new_integer, new_condition, set_int, set_bool, reduce_int, forget_new}
use Rattle.algorithm_meaning.specs.declared.contribution.Writing.TheVariants.{Collected}
use Rattle.algorithm_meaning.specs.declared.contribution.Writing.TheVariants as writing

-- what a function works on: the vectors, its variables, and what it has given so far
pub record WorkValue : Type 0 where
  pub vectors : List (List ℤ)
  pub scope : ScopeValue
  pub given : List Contribution

-- before the first statement
abbrev pub first_work : List (List ℤ) → ScopeValue → WorkValue
first_work vectors scope = record { vectors = vectors; scope = scope; given = [] }

-- an entry is reduced with a number: at the vertex of a vertex function, and an edge function gives the number
abbrev pub after_reduce : Writing → ℕ → Reduction → ℤ → WorkValue → WorkValue
after_reduce writing.AtOnce vector reduction n w = record w { vectors = reduce_at w.vectors vector w.scope.source reduction n }
after_reduce writing.Collected vector reduction n w =
    record w { given = w.given ++ record { vector = vector; reduction = reduction; number = n } ∷ [] }

-- an entry gets a number, at the vertex of a vertex function; an edge function sets none
abbrev pub after_set : Writing → ℕ → ℤ → WorkValue → WorkValue
after_set writing.AtOnce vector n w = record w { vectors = with_entry w.vectors vector w.scope.source n }
after_set writing.Collected vector n w = w

-- a block forgets its variables
abbrev pub after_block : WorkValue → WorkValue → WorkValue
after_block old w = record w { scope = forget_new old.scope w.scope }

abbrev mutual
  -- after a statement; the sets are those of main
  pub after_step : Writing → List SetBinding → FunctionStatementTree → WorkValue → WorkValue
  after_step writing sets (DeclareInt name e) w = record w { scope = new_integer w.scope (value w.vectors sets w.scope e) }
  after_step writing sets (DeclareBool name c) w = record w { scope = new_condition w.scope (truth w.vectors sets w.scope c) }
  after_step writing sets (SetInt slot e) w = record w { scope = set_int w.scope slot.index (value w.vectors sets w.scope e) }
  after_step writing sets (SetBool slot c) w = record w { scope = set_bool w.scope slot.index (truth w.vectors sets w.scope c) }
  after_step writing sets (ReduceInt slot reduction e) w =
      record w { scope = reduce_int w.scope slot.index reduction (value w.vectors sets w.scope e) }
  after_step writing sets (SetEntry vector e) w = after_set writing vector (value w.vectors sets w.scope e) w
  after_step writing sets (ReduceEntry vector reduction e) w = after_reduce writing vector reduction (value w.vectors sets w.scope e) w
  after_step writing sets (If c body) w =
      if truth w.vectors sets w.scope c then after_block w (after_steps writing sets body w) else w
  after_step writing sets (IfElse c body other) w =
      if truth w.vectors sets w.scope c then after_block w (after_steps writing sets body w) else after_block w (after_steps writing sets other w)

  -- after statements, in order
  pub after_steps : Writing → List SetBinding → FunctionStatementsTree → WorkValue → WorkValue
  after_steps writing sets NoStep w = w
  after_steps writing sets (StepThen step rest) w = after_steps writing sets rest (after_step writing sets step w)

-- the statements of a function, none where there is no function
abbrev pub steps_of : Option FunctionTree → FunctionStatementsTree
steps_of None = NoStep
steps_of (Some f) = f.steps

-- the result of a filter at a vertex, which begins as false
abbrev pub result_of : FunctionStatementsTree → List SetBinding → List (List ℤ) → ℕ → Bool
result_of steps sets vectors v = slice_index_or (after_steps Collected sets steps (first_work vectors (filter_scope v))).scope.conditions 0 false

-- whether the filter at an index lets a vertex through
abbrev pub lets_through : List FunctionTree → (function : ℕ) → List SetBinding → List (List ℤ) → ℕ → Bool
lets_through filters function sets vectors v = result_of (steps_of (slice_get filters function)) sets vectors v

-- of these vertices those that it lets through
abbrev pub filtered : List FunctionTree → (function : ℕ) → List SetBinding → List (List ℤ) → List ℕ → List ℕ
filtered filters function sets vectors vertices = filter (lets_through filters function sets vectors) vertices
