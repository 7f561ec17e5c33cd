-- Facts of each statement of main, by the names of the vertex sets that are visible there.
use Rattle.std.specs.Prelude.{ℕ, zero, suc, List, [], ◌∷◌, ◌++◌, Option, Some, None}
use Rattle.typed_tree.specs.BlockTree.{StatementKindTree, Simple, DeclareSet, If, IfElse, While, For, BlockTree, Empty, Then}

-- at each index of a vertex set its name, where it is visible by it
abbrev pub SetNames : Type 0
SetNames = List (Option ℕ)

-- Of the constant sets so many are before main in the text, and are visible there. Those after it have their indices too.
abbrev pub names_before : (count : ℕ) → (sets : List ℕ) → SetNames
names_before count [] = []
names_before zero (name ∷ sets) = None ∷ names_before zero sets
names_before (suc count) (name ∷ sets) = Some name ∷ names_before count sets

-- after a statement: a declared set is visible to the end of its block
abbrev pub names_after : StatementKindTree → SetNames → SetNames
names_after (Simple (DeclareSet name value)) names = names ++ Some name ∷ []
names_after _ names = names

abbrev mutual
  -- P holds of each statement in the blocks of a statement
  pub HoldsInside : (P : SetNames → StatementKindTree → Type 0) → SetNames → StatementKindTree → Type 0
  HoldsInside P names (Simple a) = Unit {0}
  HoldsInside P names (If c body) = HoldsOfEach P names body
  HoldsInside P names (IfElse c body other) = HoldsOfEach P names body × HoldsOfEach P names other
  HoldsInside P names (While c body) = HoldsOfEach P names body
  HoldsInside P names (For name first end body) = HoldsOfEach P names body

  -- P holds of each statement of a block, at the names that are visible before it
  pub HoldsOfEach : (P : SetNames → StatementKindTree → Type 0) → SetNames → BlockTree → Type 0
  HoldsOfEach P names Empty = Unit {0}
  HoldsOfEach P names (Then number label action others) = P names action × HoldsInside P names action × HoldsOfEach P (names_after action names) others
