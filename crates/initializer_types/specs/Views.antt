-- What contracts see of the checker, of initializers and ends of applies, and of kinds of functions.
use Rattle.std.specs.Prelude.{length}
use Rattle.expression_types.specs.ValueTree.{value_tree}
use Rattle.initializer_types.specs.Checker.{CheckerTree}
use Rattle.initializer_types.specs.DeclarationForms.{FunctionKindTree, MainKind, EdgeKind, VertexKind, FilterKind, NoKind}
use Rattle.initializer_types.specs.Initial.{InitializerTree, Typed, Members, Loaded, Degrees, ErrorInitializer, ApplyEndTree, Absent, Given, Wrong, ErrorEnd}
use Rattle.initializer_types.specs.declared.checker.Checker.{Checker}
use Rattle.initializer_types.specs.declared.function_kind.FunctionKind.{FunctionKind}
use Rattle.initializer_types.specs.declared.function_kind.FunctionKind.TheVariants as some_kind
use Rattle.initializer_types.specs.declared.initial.Initializer.{Initializer}
use Rattle.initializer_types.specs.declared.initial.Initializer.TheVariants as some_initializer
use Rattle.initializer_types.specs.declared.initial.ApplyEnd.{ApplyEnd}
use Rattle.initializer_types.specs.declared.initial.ApplyEnd.TheVariants as some_end

abbrev pub checker_of : Checker → CheckerTree
checker_of c = record {
  scope = c.scope;
  names = c.names.items;
  labels = c.labels;
  label_names = c.label_names.items;
  statements = length c.statements.items;
  writes = c.writes;
  written = c.written.items;
}

abbrev pub initializer_tree : Initializer → InitializerTree
initializer_tree (some_initializer.Typed value) = Typed (value_tree value)
initializer_tree (some_initializer.Members members) = Members members
initializer_tree some_initializer.Loaded = Loaded
initializer_tree some_initializer.Degrees = Degrees
initializer_tree some_initializer.Error = ErrorInitializer

abbrev pub apply_end_tree : ApplyEnd → ApplyEndTree
apply_end_tree some_end.Absent = Absent
apply_end_tree (some_end.Given filter) = Given filter
apply_end_tree some_end.Wrong = Wrong
apply_end_tree some_end.Error = ErrorEnd

abbrev pub function_kind_tree : FunctionKind → FunctionKindTree
function_kind_tree (some_kind.Main fits) = MainKind fits
function_kind_tree (some_kind.Edge weighted) = EdgeKind weighted
function_kind_tree some_kind.Vertex = VertexKind
function_kind_tree some_kind.Filter = FilterKind
function_kind_tree some_kind.Other = NoKind
