-- Turns never grow, and so the number with which a loop is read says nothing.
use Rattle.std.proofs.Common.{◌≡◌, ℕ, zero, suc, ◌+◌, ◌≤◌, Bool, true, false, int_lt, Option, Some, None, refl, sym, ap, ◌∙◌, arith, le_refl}
use Rattle.typed_tree.specs.BoolExpressionTree.{BoolExpressionTree}
use Rattle.typed_tree.specs.BlockTree.{SimpleStatementTree, DeclareInt, DeclareBool, SetInt, SetBool, ReduceInt, SetEntry, ReduceEntry, DeclareSet, AssignSet, AddVertex}
use Rattle.typed_tree.specs.BlockTree.{PrintInt, PrintBool, ApplyVertex, ApplyEdges, StatementKindTree, Simple, If, IfElse, While, For, BlockTree, Empty, Then}
use Rattle.typed_tree.specs.ProgramTree.{ProgramTree}
use Rattle.algorithm_meaning.specs.declared.outcome.End.TheVariants.{Finished, TurnsOver, Fault}
use Rattle.algorithm_meaning.specs.declared.state.Depth.{Depth}
use Rattle.algorithm_meaning.specs.declared.state.LoopCounter.{LoopCounter}
use Rattle.algorithm_meaning.specs.State.{GraphValue, StateValue}
use Rattle.algorithm_meaning.specs.Stand.{Stand, Live, Over, then_do, int_value_in, vertex_in, bool_value_in, with_value, choose}
use Rattle.algorithm_meaning.specs.Loop.{after_for, after_while, bounds_in, depth_of, for_body, for_test, inside, leave, loop, next_of, take_turn, while_body, while_test}
use Rattle.algorithm_meaning.specs.Meaning.{after, after_simple, after_all, initial_state, meaning, outcome_of}

-- no more than n turns are left, and none where they ran out
abbrev Falls : ℕ → Stand → Type 0
Falls n (Live s) = s.turns ≤ n
Falls n (Over s Finished) = Unit {0}
Falls n (Over s TurnsOver) = s.turns ≡ 0
Falls n (Over s (Fault number statement)) = Unit {0}

value_falls : {A : Type 0} (n : ℕ) (o : Option A) (number : ℕ) (s : StateValue) (go : A → Stand) → ((x : A) → Falls n (go x)) → Falls n (with_value o number s go)
value_falls n None number s go each = tt
value_falls n (Some x) number s go each = each x

choice_falls : (n : ℕ) (b : Bool) (x y : Stand) → Falls n x → Falls n y → Falls n (choose b x y)
choice_falls n true x y first second = first
choice_falls n false x y first second = second

then_falls : (m n : ℕ) (x : Stand) (go : StateValue → Stand) → Falls m x → ((s : StateValue) → s.turns ≤ m → Falls n (go s)) → Falls n (then_do x go)
then_falls m n (Live s) go is each = each s is
then_falls m n (Over s Finished) go is each = tt
then_falls m n (Over s TurnsOver) go is each = is
then_falls m n (Over s (Fault number statement)) go is each = tt

leave_falls : (n : ℕ) (depth : Depth) (x : Stand) → Falls n x → Falls n (leave depth x)
leave_falls n depth (Live s) is = is
leave_falls n depth (Over s Finished) is = tt
leave_falls n depth (Over s TurnsOver) is = is
leave_falls n depth (Over s (Fault number statement)) is = tt

module _ {A : Type 0} (test : A → StateValue → Option Bool) (body : A → StateValue → Stand) (next : A → A) (number : ℕ)
    (each : (n : ℕ) (a : A) (s : StateValue) → s.turns ≤ n → Falls n (body a s)) where
  turn_falls : (j n k : ℕ) (a : A) (s : StateValue) → j ≤ suc k → j ≤ n → s.turns ≡ j → ((m : ℕ) (t : StateValue) → t.turns ≤ k → t.turns ≤ m → Falls m (loop test body next number k (next a) t))
      → Falls n (take_turn j s (λ t. then_do (body a t) (loop test body next number k (next a))))
  turn_falls zero n k a s le within is rest = is
  turn_falls (suc j) n k a s le within is rest =
      then_falls j n (body a (record s { turns = j })) (loop test body next number k (next a)) (each j a (record s { turns = j }) (omega arith))
      (λ t below. rest n t (omega (arith, below, le)) (omega (arith, below, within)))

  loop_falls : (k n : ℕ) (a : A) (s : StateValue) → s.turns ≤ k → s.turns ≤ n → Falls n (loop test body next number k a s)
  loop_falls zero n a s le within = value_falls n (test a s) number s (λ b. choose b (Over s TurnsOver) (Live s)) (λ b. choice_falls n b (Over s TurnsOver) (Live s) (omega (arith, le)) within)
  loop_falls (suc k) n a s le within =
      let turn = take_turn s.turns s (λ t. then_do (body a t) (loop test body next number k (next a))) in
      value_falls n (test a s) number s (λ b. choose b turn (Live s))
      (λ b. choice_falls n b turn (Live s) (turn_falls s.turns n k a s le within refl (λ m t. loop_falls k m (next a) t)) within)

  -- where the body leaves no more turns, any number that is no less than the turns does
  then_same : (m : ℕ) (x : Stand) (go more : StateValue → Stand) → Falls m x → ((t : StateValue) → t.turns ≤ m → go t ≡ more t) → then_do x go ≡ then_do x more
  then_same m (Live s) go more is same = same s is
  then_same m (Over s end) go more is same = refl

  turn_same : (j : ℕ) (s : StateValue) (go more : StateValue → Stand) → ((t : StateValue) → t.turns + 1 ≡ j → go t ≡ more t) → take_turn j s go ≡ take_turn j s more
  turn_same zero s go more same = refl
  turn_same (suc j) s go more same = same (record s { turns = j }) (omega arith)

  no_turn : (j : ℕ) (s : StateValue) (go : StateValue → Stand) → j ≤ 0 → take_turn j s go ≡ Over s TurnsOver
  no_turn zero s go none = refl
  no_turn (suc j) s go none = absurd (omega (arith, none))

  loop_same : (k l : ℕ) (a : A) (s : StateValue) → s.turns ≤ k → s.turns ≤ l → loop test body next number k a s ≡ loop test body next number l a s
  loop_same zero zero a s first second = refl
  loop_same zero (suc l) a s first second =
      ap (λ (x : Stand). with_value (test a s) number s (λ b. choose b x (Live s))) (sym (no_turn s.turns s (λ t. then_do (body a t) (loop test body next number l (next a))) first))
  loop_same (suc k) zero a s first second =
      ap (λ (x : Stand). with_value (test a s) number s (λ b. choose b x (Live s))) (no_turn s.turns s (λ t. then_do (body a t) (loop test body next number k (next a))) second)
  loop_same (suc k) (suc l) a s first second =
      ap (λ (x : Stand). with_value (test a s) number s (λ b. choose b x (Live s)))
      (turn_same s.turns s (λ t. then_do (body a t) (loop test body next number k (next a))) (λ t. then_do (body a t) (loop test body next number l (next a)))
      (λ t fewer. then_same t.turns (body a t) (loop test body next number k (next a)) (loop test body next number l (next a)) (each t.turns a t (le_refl t.turns))
      (λ u below. loop_same k l (next a) u (omega (arith, first, fewer, below)) (omega (arith, second, fewer, below)))))

  -- a loop is its test, and then a turn, its body and the loop again
  loop_again : (a : A) (s : StateValue) → loop test body next number s.turns a s
      ≡ with_value (test a s) number s (λ b. choose b (take_turn s.turns s (λ t. then_do (body a t) (λ u. loop test body next number u.turns (next a) u))) (Live s))
  loop_again a s =
      let turn = take_turn s.turns s (λ t. then_do (body a t) (loop test body next number s.turns (next a))) in
      loop_same s.turns (suc s.turns) a s (le_refl s.turns) (omega arith)
      ∙ ap (λ (x : Stand). with_value (test a s) number s (λ b. choose b x (Live s)))
      (turn_same s.turns s (λ t. then_do (body a t) (loop test body next number s.turns (next a))) (λ t. then_do (body a t) (λ u. loop test body next number u.turns (next a) u))
      (λ t fewer. then_same t.turns (body a t) (loop test body next number s.turns (next a)) (λ u. loop test body next number u.turns (next a) u) (each t.turns a t (le_refl t.turns))
      (λ u below. loop_same s.turns u.turns (next a) u (omega (arith, fewer, below)) (le_refl u.turns))))

module _ (p : ProgramTree) (g : GraphValue) where
  simple_falls : (a : SimpleStatementTree) (n number : ℕ) (s : StateValue) → s.turns ≤ n → Falls n (after_simple p g number a s)
  simple_falls (DeclareInt name e) n number s le = value_falls n (int_value_in g.vertices e s) number s _ (λ x. le)
  simple_falls (DeclareBool name c) n number s le = value_falls n (bool_value_in g.vertices c s) number s _ (λ b. le)
  simple_falls (SetInt slot e) n number s le = value_falls n (int_value_in g.vertices e s) number s _ (λ x. le)
  simple_falls (SetBool slot c) n number s le = value_falls n (bool_value_in g.vertices c s) number s _ (λ b. le)
  simple_falls (ReduceInt slot reduction e) n number s le = value_falls n (int_value_in g.vertices e s) number s _ (λ x. le)
  simple_falls (SetEntry vector index e) n number s le = value_falls n (vertex_in g.vertices index s) number s _ (λ v. value_falls n (int_value_in g.vertices e s) number s _ (λ x. le))
  simple_falls (ReduceEntry vector index reduction e) n number s le =
      value_falls n (vertex_in g.vertices index s) number s _ (λ v. value_falls n (int_value_in g.vertices e s) number s _ (λ x. le))
  simple_falls (DeclareSet name value) n number s le = le
  simple_falls (AssignSet slot value) n number s le = le
  simple_falls (AddVertex slot e) n number s le = value_falls n (vertex_in g.vertices e s) number s _ (λ v. le)
  simple_falls (PrintInt e) n number s le = value_falls n (int_value_in g.vertices e s) number s _ (λ x. le)
  simple_falls (PrintBool c) n number s le = value_falls n (bool_value_in g.vertices c s) number s _ (λ b. le)
  simple_falls (ApplyVertex set function) n number s le = le
  simple_falls (ApplyEdges ends function) n number s le = le

  mutual
    action_falls : (a : StatementKindTree) (n number : ℕ) (s : StateValue) → s.turns ≤ n → Falls n (after p g number a s)
    action_falls (Simple a) n number s le = simple_falls a n number s le
    action_falls (If c body) n number s le =
        value_falls n (bool_value_in g.vertices c s) number s _ (λ b. choice_falls n b _ _ (leave_falls n (depth_of s) _ (block_falls body n s le)) le)
    action_falls (IfElse c body other) n number s le =
        value_falls n (bool_value_in g.vertices c s) number s _
        (λ b. choice_falls n b _ _ (leave_falls n (depth_of s) _ (block_falls body n s le)) (leave_falls n (depth_of s) _ (block_falls other n s le)))
    action_falls (While c body) n number s le =
        loop_falls (while_test g.vertices c) (while_body (after_all p g body)) (λ (m : ℕ). m) number
        (λ m a t below. leave_falls m (depth_of t) _ (block_falls body m t below)) s.turns n 0 s (le_refl s.turns) le
    action_falls (For name first end body) n number s le =
        value_falls n (bounds_in g.vertices first end s) number s _
        (λ r. loop_falls for_test (for_body (after_all p g body)) next_of number
        (λ m a t below. leave_falls m (depth_of t) _ (block_falls body m _ below)) s.turns n r s (le_refl s.turns) le)

    block_falls : (b : BlockTree) (n : ℕ) (s : StateValue) → s.turns ≤ n → Falls n (after_all p g b s)
    block_falls Empty n s le = le
    block_falls (Then number label a rest) n s le = then_falls n n (after p g number a s) (after_all p g rest) (action_falls a n number s le) (λ t below. block_falls rest n t below)

  while_falls : (body : BlockTree) (m a : ℕ) (t : StateValue) → t.turns ≤ m → Falls m (while_body (after_all p g body) a t)
  while_falls body m a t below = leave_falls m (depth_of t) (after_all p g body t) (block_falls body m t below)

  for_falls : (body : BlockTree) (m : ℕ) (r : LoopCounter) (t : StateValue) → t.turns ≤ m → Falls m (for_body (after_all p g body) r t)
  for_falls body m r t below = leave_falls m (depth_of t) _ (block_falls body m _ below)

  pub while_again : (number : ℕ) (c : BoolExpressionTree) (body : BlockTree) (s : StateValue) → after p g number (While c body) s
      ≡ with_value (bool_value_in g.vertices c s) number s (λ b. choose b (take_turn s.turns s (λ t. then_do (inside (after_all p g body) t) (after p g number (While c body)))) (Live s))
  while_again number c body s = loop_again (while_test g.vertices c) (while_body (after_all p g body)) (λ (n : ℕ). n) number (while_falls body) 0 s

  pub for_again : (number : ℕ) (body : BlockTree) (r : LoopCounter) (s : StateValue) → after_for number (after_all p g body) r s
      ≡ choose (int_lt r.next r.end) (take_turn s.turns s (λ t. then_do (for_body (after_all p g body) r t) (after_for number (after_all p g body) (next_of r)))) (Live s)
  for_again number body r s = loop_again for_test (for_body (after_all p g body)) next_of number (for_falls body) r s

  pub while_with : (number k : ℕ) (c : BoolExpressionTree) (body : BlockTree) (s : StateValue) → s.turns ≤ k
      → loop (while_test g.vertices c) (while_body (after_all p g body)) (λ (n : ℕ). n) number k 0 s ≡ after_while g.vertices number c (after_all p g body) s
  while_with number k c body s le = loop_same (while_test g.vertices c) (while_body (after_all p g body)) (λ (n : ℕ). n) number (while_falls body) k s.turns 0 s le (le_refl s.turns)

  pub for_with : (number k : ℕ) (body : BlockTree) (r : LoopCounter) (s : StateValue) → s.turns ≤ k
      → loop for_test (for_body (after_all p g body)) next_of number k r s ≡ after_for number (after_all p g body) r s
  for_with number k body r s le = loop_same for_test (for_body (after_all p g body)) next_of number (for_falls body) k s.turns r s le (le_refl s.turns)

  all_used : (turns : ℕ) (x : Stand) → Falls turns x → (outcome_of p turns x).end ≡ TurnsOver → (outcome_of p turns x).turns ≡ turns
  all_used turns (Live s) is over = absurd cc
  all_used turns (Over s Finished) is over = absurd cc
  all_used turns (Over s TurnsOver) is over = omega (arith, is)
  all_used turns (Over s (Fault number statement)) is over = absurd cc

pub turns_used : (p : ProgramTree) (g : GraphValue) (turns : ℕ) → (meaning p g turns).end ≡ TurnsOver → (meaning p g turns).turns ≡ turns
turns_used p g turns over = all_used p g turns (after_all p g p.main (initial_state p g turns)) (block_falls p g p.main turns (initial_state p g turns) (le_refl turns)) over
