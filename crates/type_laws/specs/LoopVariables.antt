-- Programs with no statement that assigns a variable of a `for` around it.
use Rattle.std.specs.Prelude.{◌≢◌, ℕ, ◌+◌, List, [], ◌∷◌}
use Rattle.typed_tree.specs.BlockTree.{StatementKindTree, Simple, DeclareInt, SetInt, SetBool, ReduceInt, If, IfElse, While, For, BlockTree, Empty, Then}
use Rattle.typed_tree.specs.ProgramTree.{ProgramTree}

-- An integer is no variable of these loops, and no bound. A loop has its variable at its index and its bound at the next one.
abbrev pub IsOutside : (indices : List ℕ) → (index : ℕ) → Type 0
IsOutside [] x = Unit {0}
IsOutside (i ∷ is) x = (x ≢ i) × (x ≢ i + 1) × IsOutside is x

-- how many integers are visible after a statement, if n are visible before it
abbrev pub integers_behind : StatementKindTree → ℕ → ℕ
integers_behind (Simple (DeclareInt name e)) n = n + 1
integers_behind _ n = n

abbrev mutual
  -- A statement assigns no variable of the loops around it, and neither do those in it. If n integers are visible before a loop, its
  -- variable has the index n.
  pub KeepsInside : (integers : ℕ) → (indices : List ℕ) → StatementKindTree → Type 0
  KeepsInside n is (Simple (SetInt slot e)) = IsOutside is slot.index
  KeepsInside n is (Simple (ReduceInt slot by e)) = IsOutside is slot.index
  KeepsInside n is (Simple (SetBool slot c)) = Unit {0}
  KeepsInside n is (Simple _) = Unit {0}
  KeepsInside n is (If c body) = KeepsLoops n is body
  KeepsInside n is (IfElse c body other) = KeepsLoops n is body × KeepsLoops n is other
  KeepsInside n is (While c body) = KeepsLoops n is body
  KeepsInside n is (For name first end body) = KeepsLoops (n + 2) (n ∷ is) body

  -- nor does a statement of a block
  pub KeepsLoops : (integers : ℕ) → (indices : List ℕ) → BlockTree → Type 0
  KeepsLoops n is Empty = Unit {0}
  KeepsLoops n is (Then number label action rest) = KeepsInside n is action × KeepsLoops (integers_behind action n) is rest

-- No statement of main assigns a variable of a `for` around it. No integer is visible before the first statement.
abbrev pub KeepsLoopVariables : ProgramTree → Type 0
KeepsLoopVariables p = KeepsLoops 0 [] p.main
