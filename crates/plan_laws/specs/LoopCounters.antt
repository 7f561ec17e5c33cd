-- The counters of `for` loops in a run of a plan, and the variables that its text tests.
use Rattle.std.specs.Prelude.{◌≡◌, ℕ, ◌+◌, ℤ, List, [], ◌∷◌, Some, MatchOption, slice_get}
use Rattle.algorithm_meaning.specs.declared.state.LoopCounter.{LoopCounter}
use Rattle.algorithm_meaning.specs.declared.state.Depth.{Depth}
use Rattle.plans.specs.Instruction.{OperationTree, UnlessBelow, Advance, InstructionTree}
use Rattle.plans.specs.Machine.{Configuration, At, Ended}

-- each loop has its next value in the integer at its index, and its bound in the one after it
abbrev pub AreCounters : (indices : List ℕ) → List LoopCounter → (integers : List ℤ) → Type 0
AreCounters [] [] xs = Unit {0}
AreCounters [] (r ∷ rs) xs = ⊥
AreCounters (i ∷ is) [] xs = ⊥
AreCounters (i ∷ is) (r ∷ rs) xs = (slice_get xs i ≡ Some r.next) × (slice_get xs (i + 1) ≡ Some r.end) × AreCounters is rs xs

abbrev pub BeginsWith : ℕ → List ℕ → Type 0
BeginsWith x [] = ⊥
BeginsWith x (i ∷ is) = x ≡ i

-- an instruction that tests or advances a loop names the innermost one's variable: the first that its statement does not see
abbrev pub NamesInnermost : (indices : List ℕ) → (shown : Depth) → OperationTree → Type 0
NamesInnermost is shown (UnlessBelow name to) = BeginsWith shown.integers is
NamesInnermost is shown (Advance name) = BeginsWith shown.integers is
NamesInnermost is shown _ = Unit {0}

-- the counters of the loops around an index of a plan are variables, and the plan's text names those that the machine works on
abbrev pub CountersAreVariables : List InstructionTree → Configuration → Type 0
CountersAreVariables plan (At index loops s) =
    (indices : List ℕ) × AreCounters indices loops s.scope.integers
    × MatchOption (slice_get plan index) (Unit {0}) (λ i. NamesInnermost indices i.shown i.operation)
CountersAreVariables plan (Ended s end) = Unit {0}
