-- The end of a block, and loops.
use Rattle.std.specs.Prelude.{ℕ, zero, suc, ℤ, pos, ◌+ℤ◌, int_lt, Bool, take, length, Option, Some, None}
use Rattle.typed_tree.specs.IntExpressionTree.{IntExpressionTree}
use Rattle.typed_tree.specs.BoolExpressionTree.{BoolExpressionTree}
use Rattle.algorithm_meaning.specs.declared.outcome.End.TheVariants.{TurnsOver}
use Rattle.algorithm_meaning.specs.declared.state.LoopCounter.{LoopCounter}
use Rattle.algorithm_meaning.specs.declared.state.Depth.{Depth}
use Rattle.algorithm_meaning.specs.Arithmetic.{wrapped}
use Rattle.algorithm_meaning.specs.State.{StateValue}
use Rattle.algorithm_meaning.specs.Stand.{Stand, Live, Over, then_do, int_value_in, bool_value_in, with_value, choose}
use Rattle.algorithm_meaning.specs.Statements.{with_new_integer}

-- the numbers of visible variables and sets
abbrev pub depth_of : StateValue → Depth
depth_of s = record { integers = length s.scope.integers; conditions = length s.scope.conditions; sets = length s.sets }

-- the state with so many variables and sets; the later ones are dropped
abbrev pub forget_beyond : Depth → StateValue → StateValue
forget_beyond depth s = record s {
  sets = take depth.sets s.sets;
  scope = record s.scope {
    integers = take depth.integers s.scope.integers;
    conditions = take depth.conditions s.scope.conditions;
  };
}

-- the variables of a block are dropped at its end, unless the run has ended in it
abbrev pub leave : Depth → Stand → Stand
leave depth (Live s) = Live (forget_beyond depth s)
leave depth (Over s end) = Over s end

-- a block inside a statement
abbrev pub inside : (StateValue → Stand) → StateValue → Stand
inside block s = leave (depth_of s) (block s)

-- one turn is used; if none is left, the run ends
abbrev pub take_turn : ℕ → StateValue → (StateValue → Stand) → Stand
take_turn zero s go = Over s TurnsOver
take_turn (suc n) s go = go (record s { turns = n })

-- A loop over a value a: while the test holds of it, a turn is used, the body runs, and a becomes `next a`. The number k, at least
-- that of the turns left, is there for the recursion alone.
abbrev pub loop : {A : Type 0} → (A → StateValue → Option Bool) → (A → StateValue → Stand) → (A → A) → (number k : ℕ) → A → StateValue → Stand
loop test body next number zero a s =
    with_value (test a s) number s (λ b. choose b (Over s TurnsOver) (Live s))
loop test body next number (suc k) a s =
    with_value (test a s) number s (λ b.
    choose b (take_turn s.turns s (λ t. then_do (body a t) (loop test body next number k (next a)))) (Live s))

-- `while`: its test is evaluated anew before each turn
abbrev pub while_test : ℕ → BoolExpressionTree → ℕ → StateValue → Option Bool
while_test vertices c n s = bool_value_in vertices c s

abbrev pub while_body : (StateValue → Stand) → ℕ → StateValue → Stand
while_body block n s = inside block s

abbrev pub after_while : (vertices number : ℕ) → BoolExpressionTree → (StateValue → Stand) → StateValue → Stand
after_while vertices number c block s = loop (while_test vertices c) (while_body block) (λ (n : ℕ). n) number s.turns 0 s

-- the two bounds of `for`, each evaluated once
abbrev pub both_bounds : Option ℤ → Option ℤ → Option LoopCounter
both_bounds None end = None
both_bounds (Some a) None = None
both_bounds (Some a) (Some b) = Some (record { next = a; end = b })

abbrev pub bounds_in : ℕ → (first end : IntExpressionTree) → StateValue → Option LoopCounter
bounds_in vertices first end s = both_bounds (int_value_in vertices first s) (int_value_in vertices end s)

abbrev pub for_test : LoopCounter → StateValue → Option Bool
for_test r s = Some (int_lt r.next r.end)

-- in the body the counter and, after it, the bound are variables
abbrev pub for_body : (StateValue → Stand) → LoopCounter → StateValue → Stand
for_body block r s = leave (depth_of s) (block (with_new_integer (with_new_integer s r.next) r.end))

abbrev pub next_of : LoopCounter → LoopCounter
next_of r = record { next = wrapped (r.next +ℤ pos 1); end = r.end }

abbrev pub after_for : (number : ℕ) → (StateValue → Stand) → LoopCounter → StateValue → Stand
after_for number block r s = loop for_test (for_body block) next_of number s.turns r s
