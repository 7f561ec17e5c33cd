-- The labels of a source, with `#` at both ends, in the order of the text: that of a statement before those inside it.
use Rattle.std.specs.Prelude.{ℕ, List, [], ◌∷◌, ◌++◌, Option, Some, None}
use Rattle.syntax.specs.Terminals.{Identifier}
use Rattle.syntax.specs.SourceTrees.{StatementKindTree, Declare, While, For, If, IfElse, Print, Assign, Reduce, SetEntry, ReduceEntry, AddVertex, Apply}
use Rattle.syntax.specs.SourceTrees.{BlockTree, Empty, Then, DeclarationTree, Constant, Function}

-- the label of a statement, where it has one
abbrev pub own_label : Option Identifier → List (List ℕ)
own_label None = []
own_label (Some label) = label.bytes ∷ []

abbrev mutual
  -- those of the statements inside a statement
  pub inner_labels : StatementKindTree → List (List ℕ)
  inner_labels (Declare at variable initial) = []
  inner_labels (While at test body) = block_labels body
  inner_labels (For at name first limit body) = block_labels body
  inner_labels (If at test body) = block_labels body
  inner_labels (IfElse at test body otherwise) = block_labels body ++ block_labels otherwise
  inner_labels (Print at e) = []
  inner_labels (Assign name initial) = []
  inner_labels (Reduce name by e) = []
  inner_labels (SetEntry vector index e) = []
  inner_labels (ReduceEntry vector index by e) = []
  inner_labels (AddVertex set e) = []
  inner_labels (Apply target ends function) = []

  pub block_labels : BlockTree → List (List ℕ)
  block_labels Empty = []
  block_labels (Then label action others) = own_label label ++ (inner_labels action ++ block_labels others)

abbrev pub labels_of : List DeclarationTree → List (List ℕ)
labels_of [] = []
labels_of (Constant at p initial ∷ others) = labels_of others
labels_of (Function at name parameters result body ∷ others) = block_labels body ++ labels_of others
