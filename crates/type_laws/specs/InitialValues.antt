-- Sources in which each `new vertexset` has no member and each `load` reads the first argument.
use Rattle.std.specs.Prelude.{◌≡◌, pos}
use Rattle.syntax.specs.SourceTrees.{InitialTree, NewSet, Load, Vertices, OutDegrees, Filter, ApplyModified, Value, StatementKindTree, Declare, While, For, If}
use Rattle.syntax.specs.SourceTrees.{IfElse, Print, Assign, Reduce, SetEntry, ReduceEntry, AddVertex, Apply, BlockTree, Empty, Then, DeclarationTree, Constant}
use Rattle.syntax.specs.SourceTrees.{Function}

abbrev pub InitialFits : InitialTree → Type 0
InitialFits (NewSet size) = size ≡ pos 0
InitialFits (Load argument) = argument ≡ pos 1
InitialFits (Vertices edges) = Unit {0}
InitialFits (OutDegrees edges) = Unit {0}
InitialFits (Filter set test) = Unit {0}
InitialFits (ApplyModified edges ends function vector) = Unit {0}
InitialFits (Value e) = Unit {0}

abbrev mutual
  -- each initial or assigned value in a statement is so
  pub ActionInitialsFit : StatementKindTree → Type 0
  ActionInitialsFit (Declare at variable initial) = InitialFits initial
  ActionInitialsFit (While at test body) = BlockInitialsFit body
  ActionInitialsFit (For at name first limit body) = BlockInitialsFit body
  ActionInitialsFit (If at test body) = BlockInitialsFit body
  ActionInitialsFit (IfElse at test body otherwise) = BlockInitialsFit body × BlockInitialsFit otherwise
  ActionInitialsFit (Print at e) = Unit {0}
  ActionInitialsFit (Assign name initial) = InitialFits initial
  ActionInitialsFit (Reduce name by e) = Unit {0}
  ActionInitialsFit (SetEntry vector index e) = Unit {0}
  ActionInitialsFit (ReduceEntry vector index by e) = Unit {0}
  ActionInitialsFit (AddVertex set e) = Unit {0}
  ActionInitialsFit (Apply target ends function) = Unit {0}

  pub BlockInitialsFit : BlockTree → Type 0
  BlockInitialsFit Empty = Unit {0}
  BlockInitialsFit (Then label action others) = ActionInitialsFit action × BlockInitialsFit others

abbrev pub DeclarationInitialsFit : DeclarationTree → Type 0
DeclarationInitialsFit (Constant at p initial) = InitialFits initial
DeclarationInitialsFit (Function at name parameters result body) = BlockInitialsFit body
