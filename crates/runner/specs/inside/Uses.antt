-- What is done with values of expressions, as a change of the state.
use Rattle.std.specs.Prelude.{ℕ, ℤ, List, Bool}
use Rattle.algorithm_meaning.specs.State.{StateValue}
use Rattle.algorithm_meaning.specs.Statements.{condition_line, integer_line, new_condition, reduce_int, set_bool, set_int, with_new_integer, with_scope, with_text, with_vectors}
use Rattle.algorithm_meaning.specs.Value.{reduce_at, with_entry}
use Rattle.plans.specs.declared.operation.BoolUse.{BoolUse}
use Rattle.plans.specs.declared.operation.BoolUse.TheVariants as bool_use
use Rattle.plans.specs.declared.operation.EntryUse.{EntryUse}
use Rattle.plans.specs.declared.operation.EntryUse.TheVariants as entry_use
use Rattle.plans.specs.declared.operation.IntUse.{IntUse}
use Rattle.plans.specs.declared.operation.IntUse.TheVariants as int_use

abbrev pub state_with_int : IntUse → ℤ → StateValue → StateValue
state_with_int (int_use.Declare name) n s = with_new_integer s n
state_with_int (int_use.Set slot) n s = with_scope s (set_int s.scope slot.index n)
state_with_int (int_use.Reduce slot reduction) n s = with_scope s (reduce_int s.scope slot.index reduction n)
state_with_int int_use.Print n s = with_text s (integer_line n)

abbrev pub state_with_bool : BoolUse → Bool → StateValue → StateValue
state_with_bool (bool_use.Declare name) b s = with_scope s (new_condition s.scope b)
state_with_bool (bool_use.Set slot) b s = with_scope s (set_bool s.scope slot.index b)
state_with_bool bool_use.Print b s = with_text s (condition_line b)

-- a number is written to the entry of a vector at an index
abbrev pub vectors_with_entry : (vector : ℕ) → EntryUse → (index : ℕ) → ℤ → List (List ℤ) → List (List ℤ)
vectors_with_entry vector entry_use.Set index n vs = with_entry vs vector index n
vectors_with_entry vector (entry_use.Reduce reduction) index n vs = reduce_at vs vector index reduction n

abbrev pub state_with_entry : (vector : ℕ) → EntryUse → (index : ℕ) → ℤ → StateValue → StateValue
state_with_entry vector used index n s = with_vectors s (vectors_with_entry vector used index n s.vectors)
