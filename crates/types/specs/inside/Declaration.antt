-- Beside `Declaration`: definitions that no public contract cites.
use Rattle.std.specs.Prelude.{map, option_map}
use Rattle.typed_tree.specs.BlockTree.{block_tree}
use Rattle.typed_tree.specs.FunctionStatementTree.{function_tree}
use Rattle.types.specs.declared.declaration.Declared.{Declared}
use Rattle.initializer_types.specs.Views.{checker_of}
use Rattle.types.specs.Declaration.{DeclaredTree}

-- what contracts see
abbrev pub declared_of : Declared → DeclaredTree
declared_of d = record {
  checker = checker_of d.checker;
  edges = d.edges;
  vectors = d.vectors.items;
  sets = d.sets.items;
  edge_functions = map function_tree d.edge_functions.items;
  vertex_functions = map function_tree d.vertex_functions.items;
  filters = map function_tree d.filters.items;
  main = option_map (λ b. block_tree b.items) d.main;
}
