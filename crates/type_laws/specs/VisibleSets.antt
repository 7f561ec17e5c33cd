-- By which names main speaks of vertex sets.
use Rattle.std.specs.Prelude.{◌≡◌, ℕ, ◌≤◌, true, length, slice_get, Option, Some, None}
use Rattle.typed_tree.specs.declared.expression.VarRef.{VarRef}
use Rattle.typed_tree.specs.declared.statement.VertexFilter.{VertexFilter}
use Rattle.typed_tree.specs.declared.statement.VertexFilter.TheVariants as filter
use Rattle.typed_tree.specs.declared.statement.ApplyEnds.{ApplyEnds}
use Rattle.typed_tree.specs.declared.statement.SetValue.{SetValue}
use Rattle.typed_tree.specs.declared.statement.SetValue.TheVariants as set
use Rattle.typed_tree.specs.BlockTree.{StatementKindTree, Simple, DeclareSet, AssignSet, AddVertex, ApplyVertex, ApplyEdges}
use Rattle.typed_tree.specs.Independence.{are_same}
use Rattle.typed_tree.specs.ProgramTree.{ProgramTree}
use Rattle.type_laws.specs.EachStatement.{SetNames, HoldsOfEach, names_before}

-- no two visible sets have the same bytes as their name
abbrev pub HaveDistinctNames : ProgramTree → SetNames → Type 0
HaveDistinctNames p names =
    (i j a b : ℕ) → slice_get names i ≡ Some (Some a) → slice_get names j ≡ Some (Some b) → are_same p.names a b ≡ true → i ≡ j

-- the set at the index is visible by the name
abbrev pub IsVisible : SetNames → VarRef → Type 0
IsVisible names slot = slice_get names slot.index ≡ Some (Some slot.name)

-- the set is a variable: the constant ones have the first indices
abbrev pub IsVariable : ProgramTree → VarRef → Type 0
IsVariable p slot = length p.sets ≤ slot.index

abbrev pub EndIsVisible : SetNames → Option VertexFilter → Type 0
EndIsVisible names None = Unit {0}
EndIsVisible names (Some (filter.Members slot)) = IsVisible names slot
EndIsVisible names (Some (filter.Function index)) = Unit {0}

abbrev pub EndsAreVisible : SetNames → ApplyEnds → Type 0
EndsAreVisible names ends = EndIsVisible names ends.from × EndIsVisible names ends.to

abbrev pub ValueIsVisible : SetNames → SetValue → Type 0
ValueIsVisible names set.Empty = Unit {0}
ValueIsVisible names set.All = Unit {0}
ValueIsVisible names (set.Copy slot) = Unit {0}
ValueIsVisible names (set.Filter slot index) = IsVisible names slot
ValueIsVisible names (set.Modified ends function vector) = EndsAreVisible names ends

-- Each set is visible that a statement changes, filters, applies a vertex function to or has as an end of an edge apply; and one that it
-- changes is a variable.
abbrev pub SetsAreVisible : ProgramTree → SetNames → StatementKindTree → Type 0
SetsAreVisible p names (Simple (DeclareSet name value)) = ValueIsVisible names value
SetsAreVisible p names (Simple (AssignSet slot value)) = (IsVisible names slot × IsVariable p slot) × ValueIsVisible names value
SetsAreVisible p names (Simple (AddVertex slot e)) = IsVisible names slot × IsVariable p slot
SetsAreVisible p names (Simple (ApplyVertex slot function)) = IsVisible names slot
SetsAreVisible p names (Simple (ApplyEdges ends function)) = EndsAreVisible names ends
SetsAreVisible p names _ = Unit {0}

-- so it is at a statement
abbrev pub NamesSets : ProgramTree → SetNames → StatementKindTree → Type 0
NamesSets p names action = HaveDistinctNames p names × SetsAreVisible p names action

-- and at each statement of main
pub record NamesSetsApart (p : ProgramTree) : Type 0 where
  pub constants_before : ℕ
  pub each : HoldsOfEach (NamesSets p) (names_before constants_before p.sets) p.main
