-- What a pair of statements that one instruction does owes.
use Rattle.std.proofs.Common.{◌≡◌, ℕ, ◌+◌, List, subst, sym}
use Rattle.typed_tree.specs.BlockTree.{SimpleStatementTree, StatementKindTree, Simple, BlockTree, Empty, Then}
use Rattle.typed_tree.specs.ProgramTree.{ProgramTree}
use Rattle.algorithm_meaning.specs.State.{GraphValue, StateValue}
use Rattle.algorithm_meaning.specs.Stand.{Live}
use Rattle.algorithm_meaning.specs.Meaning.{after}
use Rattle.algorithm_meaning.specs.declared.state.LoopCounter.{LoopCounter}
use Rattle.algorithm_meaning.specs.declared.state.Depth.{Depth}
use Rattle.plans.specs.Instruction.{OperationTree}
use Rattle.plans.specs.Fusing.{FusionRole, Alone, WithNext, WithPrevious}
use Rattle.plans.specs.Plan.{depth_after}
use Rattle.plans.specs.Machine.{At, act}
use Rattle.plans.proofs.Proper.{IsProper, Leaves, simple-leaves}

module _ (p : ProgramTree) (g : GraphValue) where
  -- a statement without a block that always goes on, in this state
  pub record IsFaultless (a : StatementKindTree) (f : StateValue → StateValue) : Type 0 where
    pub statement : SimpleStatementTree
    pub simple : a ≡ Simple statement
    pub means : (number : ℕ) (s : StateValue) → after p g number a s ≡ Live (f s)

  -- an operation does two statements
  pub record DoesBoth (operation : OperationTree) (d : Depth) (a b : StatementKindTree) : Type 0 where
    pub first : StateValue → StateValue
    pub second : StateValue → StateValue
    pub first_means : IsFaultless a first
    pub second_means : IsFaultless b second
    pub acts : (number : ℕ) (shown : Depth) (index : ℕ) (loops : List LoopCounter) (turns : ℕ) (s : StateValue) → IsProper d turns s
        → act p g operation number shown index loops s ≡ At (index + 1) loops (second (first s))

  -- what holds of a statement in such company
  abbrev pub IsGoodCompany : FusionRole → Depth → StatementKindTree → BlockTree → Type 0
  IsGoodCompany Alone d a rest = Unit {0}
  IsGoodCompany WithPrevious d a rest = ⊥
  IsGoodCompany (WithNext operation) d a Empty = ⊥
  IsGoodCompany (WithNext operation) d a (Then number label b rest) = DoesBoth operation d a b

  pub faultless-proper : (a : StatementKindTree) (f : StateValue → StateValue) (d : Depth) (turns : ℕ) (s : StateValue) → IsFaultless a f → IsProper d turns s → IsProper (depth_after a d) turns (f s)
  faultless-proper a f d turns s faultless q =
      subst (Leaves d (depth_after a d) turns) (faultless.means 0 s)
      (subst (λ (a : StatementKindTree). Leaves d (depth_after a d) turns (after p g 0 a s)) (sym faultless.simple) (simple-leaves p g 0 d turns s q faultless.statement))
