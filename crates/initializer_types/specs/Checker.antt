-- The state of the checker on its way through a source, and values of the type that is wanted.
use Rattle.std.specs.Prelude.{[], ℕ, suc, List, ◌∷◌, ◌++◌, ◌-◌, length, take, drop, Option, Some, None, pos, false, if◌then◌else◌, Bool, true}
use Rattle.apply_options.specs.declared.reduction.Reduction.{Reduction}
use Rattle.syntax.specs.Terminals.{Identifier}
use Rattle.syntax.specs.SourceTrees.{ExpressionTree}
use Rattle.typed_tree.specs.declared.expression.VarRef.{VarRef}
use Rattle.typed_tree.specs.IntExpressionTree.{IntExpressionTree, Number, Parameter}
use Rattle.typed_tree.specs.BoolExpressionTree.{BoolExpressionTree, Literal}
use Rattle.typed_tree.specs.declared.statement.SetValue.{SetValue}
use Rattle.typed_tree.specs.declared.statement.SetValue.TheVariants as set
use Rattle.expression_types.specs.declared.scope.Entity.{Entity}
use Rattle.expression_types.specs.ScopeTree.{found, ScopeTree, declared}
use Rattle.expression_types.specs.Faults.{WithFaults, sure, fault_at, ◌>>=◌}
use Rattle.expression_types.specs.ValueTree.{ValueTree, Integer, Condition, Vertex, Set, ErrorValue, reads_entry, condition_reads_entry}
use Rattle.expression_types.specs.Expression.{value_of}
use Rattle.expression_types.specs.declared.fault.TypeRule.TheVariants as rule

-- What is visible; and what came before in the text: all names that were declared, the labels with their indices, how many statements of
-- main, which vectors the edge function around this point reduces and how, and which each edge function does.
pub record CheckerTree : Type 0 where
  pub scope : ScopeTree
  pub names : List (List ℕ)
  pub labels : List (List ℕ × ℕ)
  pub label_names : List (List ℕ)
  pub statements : ℕ
  pub writes : List (ℕ × Reduction)
  pub written : List (List (ℕ × Reduction))

-- a text or a label without the bytes at its ends
abbrev pub without_ends : List ℕ → List ℕ
without_ends bytes = take (length bytes - 2) (drop 1 bytes)

-- one more label, at its index among all, which must not stand already
abbrev pub new_label : CheckerTree → Identifier → Option ℕ → WithFaults (Option ℕ × CheckerTree)
new_label c label None = sure (
  Some (length c.labels),
  record c {
    labels = c.labels ++ (label.bytes, length c.labels) ∷ [];
    label_names =
        c.label_names ++ without_ends label.bytes ∷ [];
  },
)
new_label c label (Some index) = fault_at label.at rule.BadLabel (Some index, c)

-- the next index of a variable of each kind, for the next name
abbrev pub integer_slot : CheckerTree → VarRef
integer_slot c = record { index = c.scope.integers; name = length c.names }

abbrev pub condition_slot : CheckerTree → VarRef
condition_slot c = record { index = c.scope.conditions; name = length c.names }

abbrev pub set_slot : CheckerTree → VarRef
set_slot c = record { index = c.scope.sets; name = length c.names }

-- with another scope
abbrev pub in_scope : CheckerTree → ScopeTree → CheckerTree
in_scope c scope = record c { scope = scope }

-- with one more name, which is visible in this scope
abbrev pub with_name : CheckerTree → List ℕ → ScopeTree → CheckerTree
with_name c name scope = record c { scope = scope; names = c.names ++ name ∷ [] }

-- a name is declared
abbrev pub declared_in : CheckerTree → Identifier → Entity → WithFaults CheckerTree
declared_in c name entity = declared name entity c.scope >>= λ scope. sure (with_name c name.bytes scope)

abbrev pub with_label : CheckerTree → Option Identifier → WithFaults (Option ℕ × CheckerTree)
with_label c None = sure (None, c)
with_label c (Some label) = new_label c label (found label.bytes c.labels)

-- one more statement of main
abbrev pub counted : CheckerTree → CheckerTree
counted c = record c { statements = suc c.statements }

-- no statement of main came before
abbrev pub restarted : CheckerTree → CheckerTree
restarted c = record c { statements = 0 }

abbrev pub some_integer : IntExpressionTree
some_integer = Number (pos 0)

abbrev pub some_condition : BoolExpressionTree
some_condition = Literal false

-- an integer; a vertex reads as its number
abbrev pub integer_wanted : ℕ → ValueTree → WithFaults IntExpressionTree
integer_wanted at (Integer e) = sure e
integer_wanted at (Condition c) = fault_at at rule.WrongType some_integer
integer_wanted at (Vertex p) = sure (Parameter p)
integer_wanted at (Set slot) = fault_at at rule.WrongType some_integer
integer_wanted at ErrorValue = sure some_integer

abbrev pub condition_wanted : ℕ → ValueTree → WithFaults BoolExpressionTree
condition_wanted at (Integer e) = fault_at at rule.WrongType some_condition
condition_wanted at (Condition c) = sure c
condition_wanted at (Vertex p) = fault_at at rule.WrongType some_condition
condition_wanted at (Set slot) = fault_at at rule.WrongType some_condition
condition_wanted at ErrorValue = sure some_condition

-- the members of another set
abbrev pub as_members : ℕ → ValueTree → WithFaults SetValue
as_members at (Integer e) = fault_at at rule.WrongType set.Empty
as_members at (Condition c) = fault_at at rule.WrongType set.Empty
as_members at (Vertex p) = fault_at at rule.WrongType set.Empty
as_members at (Set slot) = sure (set.Copy slot)
as_members at ErrorValue = sure set.Empty

abbrev pub integer_in : ScopeTree → ℕ → ExpressionTree → WithFaults IntExpressionTree
integer_in scope at e = value_of scope at e >>= integer_wanted at

abbrev pub condition_in : ScopeTree → ℕ → ExpressionTree → WithFaults BoolExpressionTree
condition_in scope at e = value_of scope at e >>= condition_wanted at

-- An index of main is an integer that reads no entry; where it is neither, both rules are broken.
abbrev pub unread : ℕ → IntExpressionTree → WithFaults (Option IntExpressionTree)
unread at e = if reads_entry e then fault_at at rule.WrongIndex None else sure (Some e)

abbrev pub no_index : ℕ → Bool → WithFaults (Option IntExpressionTree)
no_index at true = fault_at at rule.WrongType None >>= λ none. fault_at at rule.WrongIndex none
no_index at false = fault_at at rule.WrongType None

abbrev pub as_index : ℕ → ValueTree → WithFaults (Option IntExpressionTree)
as_index at (Integer e) = unread at e
as_index at (Condition c) = no_index at (condition_reads_entry c)
as_index at (Vertex p) = unread at (Parameter p)
as_index at (Set slot) = fault_at at rule.WrongType None
as_index at ErrorValue = sure None
