-- What vectors are seen as.
use Rattle.std.specs.Prelude.{List, Option, map, option_map}
use Rattle.std.specs.Global.{Vec}
use Rattle.syntax.specs.Terminals.{Identifier}
use Rattle.syntax.specs.declared.declaration.Parameter.{Parameter}
use Rattle.syntax.specs.declared.statement.Statement.{Statement}
use Rattle.syntax.specs.SourceTrees.{BlockTree, ParameterTree}
use Rattle.syntax.specs.SourceViews.{block_tree, parameter_tree}

-- what each is seen as, in order
abbrev pub each : {T L : Type 0} → (T → L) → Vec T → List L
each view v = map view v.items

-- the block of the statements
abbrev pub statements_tree : Vec Statement → BlockTree
statements_tree v = block_tree v.items

-- a name, the parameters and the result
abbrev pub signature_tree : Identifier × Vec Parameter × Option Parameter → Identifier × List ParameterTree × Option ParameterTree
signature_tree s = (s.0, each parameter_tree s.1, option_map parameter_tree s.2)
