-- States of a run: it is live, or it has ended.
use Rattle.std.specs.Prelude.{ℕ, ℤ, pos, negsuc, nat_lt, Bool, true, false, if◌then◌else◌, Option, Some, None, option_and_then}
use Rattle.typed_tree.specs.IntExpressionTree.{IntExpressionTree}
use Rattle.typed_tree.specs.BoolExpressionTree.{BoolExpressionTree}
use Rattle.algorithm_meaning.specs.declared.outcome.End.{End}
use Rattle.algorithm_meaning.specs.declared.outcome.End.TheVariants.{Fault}
use Rattle.algorithm_meaning.specs.State.{StateValue}
use Rattle.algorithm_meaning.specs.Value.{value, truth, stays_inside, condition_stays_inside}

-- a run that is live in a state, or that has ended in it
pub data Stand : Type 0 where
  Live : StateValue → Stand
  Over : StateValue → End → Stand

-- the next step, if the run is live
abbrev pub then_do : Stand → (StateValue → Stand) → Stand
then_do (Live s) go = go s
then_do (Over s end) go = Over s end

-- the number as a vertex, none if it is not one
abbrev pub vertex_number : ℕ → ℤ → Option ℕ
vertex_number vertices (pos n) = if nat_lt n vertices then Some n else None
vertex_number vertices (negsuc n) = None

-- the value of an int expression in main, none if an index in it is no vertex
abbrev pub int_value_in : ℕ → IntExpressionTree → StateValue → Option ℤ
int_value_in vertices e s = if stays_inside vertices s.vectors s.sets s.scope e then Some (value s.vectors s.sets s.scope e) else None

-- the value of an index in main as a vertex, none if it or an index in it is no vertex
abbrev pub vertex_in : ℕ → IntExpressionTree → StateValue → Option ℕ
vertex_in vertices index s = option_and_then (vertex_number vertices) (int_value_in vertices index s)

-- the value of a bool expression in main, none if an index in it is no vertex
abbrev pub bool_value_in : ℕ → BoolExpressionTree → StateValue → Option Bool
bool_value_in vertices c s = if condition_stays_inside vertices s.vectors s.sets s.scope c then Some (truth s.vectors s.sets s.scope c) else None

-- the next step with a value; if there is none, the run ends in this state with a fault of this statement
abbrev pub with_value : {A : Type 0} → Option A → ℕ → StateValue → (A → Stand) → Stand
with_value None number s go = Over s (Fault 401 number)
with_value (Some x) number s go = go x

-- the first if true, else the second
abbrev pub choose : Bool → Stand → Stand → Stand
choose true a b = a
choose false a b = b
