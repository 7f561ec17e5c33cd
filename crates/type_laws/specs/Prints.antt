-- Sources in which no function but main prints.
use Rattle.std.specs.Prelude.{◌≢◌}
use Rattle.syntax.specs.SourceTrees.{StatementKindTree, Declare, While, For, If, IfElse, Print, Assign, Reduce, SetEntry, ReduceEntry, AddVertex, Apply}
use Rattle.syntax.specs.SourceTrees.{BlockTree, Empty, Then, DeclarationTree, Constant, Function}
use Rattle.initializer_types.specs.DeclarationForms.{main_bytes}

abbrev mutual
  -- there is no `print` in what a statement does, at any depth
  pub ActionPrintsNothing : StatementKindTree → Type 0
  ActionPrintsNothing (Declare at variable initial) = Unit {0}
  ActionPrintsNothing (While at test body) = BlockPrintsNothing body
  ActionPrintsNothing (For at name first limit body) = BlockPrintsNothing body
  ActionPrintsNothing (If at test body) = BlockPrintsNothing body
  ActionPrintsNothing (IfElse at test body otherwise) = BlockPrintsNothing body × BlockPrintsNothing otherwise
  ActionPrintsNothing (Print at e) = ⊥
  ActionPrintsNothing (Assign name initial) = Unit {0}
  ActionPrintsNothing (Reduce name by e) = Unit {0}
  ActionPrintsNothing (SetEntry vector index e) = Unit {0}
  ActionPrintsNothing (ReduceEntry vector index by e) = Unit {0}
  ActionPrintsNothing (AddVertex set e) = Unit {0}
  ActionPrintsNothing (Apply target ends function) = Unit {0}

  pub BlockPrintsNothing : BlockTree → Type 0
  BlockPrintsNothing Empty = Unit {0}
  BlockPrintsNothing (Then label action others) = ActionPrintsNothing action × BlockPrintsNothing others

-- a function with another name than `main` prints nothing
abbrev pub PrintsInMainAlone : DeclarationTree → Type 0
PrintsInMainAlone (Constant at p initial) = Unit {0}
PrintsInMainAlone (Function at name parameters result body) = name.bytes ≢ main_bytes → BlockPrintsNothing body
