-- The bound on the steps of a run.
use Rattle.std.specs.Prelude.{ℕ, ◌+◌, ◌*◌, ◌-◌, Bool, true, false, List, length, slice_get, Option, Some, None}
use Rattle.plans.specs.Instruction.{OperationTree, Unless, UnlessBelow, Turn, InstructionTree}
use Rattle.plans.specs.Machine.{Configuration, At, Ended}

-- an instruction uses a turn
abbrev pub uses_turn : OperationTree → Bool
uses_turn Turn = true
uses_turn _ = false

abbrev pub is_turn : Option InstructionTree → Bool
is_turn None = false
is_turn (Some i) = uses_turn i.operation

-- The rank of an index in a plan of n instructions, by what is there and whether `turn` is after it: each step but a turn leads
-- to a lower rank. An index has a lower rank than those before it. The head of a loop, to which the loop's last instruction jumps, has a
-- rank between this instruction and what is after the loop.
abbrev pub rank_by : (count index : ℕ) → OperationTree → (before_turn : Bool) → ℕ
rank_by count index (Unless c to) true = 2 * (count - to) + 1
rank_by count index (UnlessBelow name to) true = 2 * (count - to) + 1
rank_by count index Turn before_turn = 0
rank_by count index _ before_turn = 2 * (count - index)

abbrev pub rank_where : List InstructionTree → (index : ℕ) → Option InstructionTree → ℕ
rank_where plan index None = 0
rank_where plan index (Some i) = rank_by (length plan) index i.operation (is_turn (slice_get plan (index + 1)))

abbrev pub rank : List InstructionTree → (index : ℕ) → ℕ
rank plan index = rank_where plan index (slice_get plan index)

-- no run in this state takes more steps than these: for each turn that is left as many as there are ranks, and those before the next turn
abbrev pub most_steps : List InstructionTree → Configuration → ℕ
most_steps plan (At index loops s) = s.turns * (2 * length plan + 2) + rank plan index + 1
most_steps plan (Ended s end) = 0
