-- Beside `SourceViews`: definitions that no public contract cites.
use Rattle.std.specs.Prelude.{Option}
use Rattle.syntax.specs.Terminals.{Identifier}
use Rattle.syntax.specs.declared.statement.Statement.{Statement}
use Rattle.syntax.specs.SourceTrees.{StatementKindTree}
use Rattle.syntax.specs.SourceViews.{statement_kind_tree}

abbrev pub statement_of : Statement → Option Identifier × StatementKindTree
statement_of s = (s.label, statement_kind_tree s.action)
