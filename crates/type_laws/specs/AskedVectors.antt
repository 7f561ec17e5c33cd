-- Vectors for which the values of vertex sets ask.
use Rattle.std.specs.List.{Contains}
use Rattle.typed_tree.specs.declared.statement.SetValue.{SetValue}
use Rattle.typed_tree.specs.declared.statement.SetValue.TheVariants as set
use Rattle.typed_tree.specs.Independence.{function_writes}
use Rattle.typed_tree.specs.BlockTree.{StatementKindTree, Simple, DeclareSet, AssignSet}
use Rattle.typed_tree.specs.ProgramTree.{ProgramTree}
use Rattle.type_laws.specs.EachStatement.{SetNames, HoldsOfEach}

-- a set that gets the vertices where an edge apply changed a vector asks for one that the edge function writes
abbrev pub ValueAsksForWritten : ProgramTree → SetValue → Type 0
ValueAsksForWritten p set.Empty = Unit {0}
ValueAsksForWritten p set.All = Unit {0}
ValueAsksForWritten p (set.Copy slot) = Unit {0}
ValueAsksForWritten p (set.Filter slot index) = Unit {0}
ValueAsksForWritten p (set.Modified ends function vector) = Contains (function_writes p.edge_functions function) vector

-- so it is in a statement
abbrev pub AsksForWritten : ProgramTree → StatementKindTree → Type 0
AsksForWritten p (Simple (DeclareSet name value)) = ValueAsksForWritten p value
AsksForWritten p (Simple (AssignSet slot value)) = ValueAsksForWritten p value
AsksForWritten p _ = Unit {0}

-- and in each statement of main, whichever sets are visible
pub record AskForWritten (p : ProgramTree) : Type 0 where
  pub names : SetNames
  pub each : HoldsOfEach (λ names action. AsksForWritten p action) names p.main
