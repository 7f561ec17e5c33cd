-- Each step leaves fewer.
use Rattle.std.proofs.Common.{◌≡◌, ℕ, zero, suc, ◌+◌, ◌*◌, ◌<◌, ℤ, Bool, true, false, if◌then◌else◌, int_lt, List, [], ◌∷◌, length, Option, Some, None, slice_get, ap, sym, ◌∙◌, refl, arith, subst}
use Rattle.typed_tree.specs.BlockTree.{SimpleStatementTree, DeclareInt, DeclareBool, SetInt, SetBool, ReduceInt, SetEntry, ReduceEntry, DeclareSet, AssignSet, AddVertex}
use Rattle.typed_tree.specs.BlockTree.{PrintInt, PrintBool, ApplyVertex, ApplyEdges}
use Rattle.typed_tree.specs.ProgramTree.{ProgramTree}
use Rattle.algorithm_meaning.specs.State.{GraphValue, StateValue}
use Rattle.algorithm_meaning.specs.Stand.{Stand, Live, Over, with_value, int_value_in, bool_value_in, vertex_in}
use Rattle.algorithm_meaning.specs.Meaning.{after_simple}
use Rattle.algorithm_meaning.specs.declared.state.LoopCounter.{LoopCounter}
use Rattle.algorithm_meaning.specs.declared.state.Depth.{Depth}
use Rattle.plans.specs.Instruction.{ResultTree, Dropped, Declared, Assigned, EdgePartTree, OperationTree, Do, ApplyEdgesTogether, ApplyVerticesTogether, Unless, Enter, UnlessBelow, Advance, Turn}
use Rattle.plans.specs.Instruction.{Jump, End, InstructionTree}
use Rattle.algorithm_meaning.specs.Loop.{forget_beyond}
use Rattle.plans.specs.Machine.{Configuration, At, Ended, with_result, with_results, after_parts, go_on, after_unless, after_enter, after_unless_below, after_advance, after_turn, act, act_at, step}
use Rattle.plans.specs.RunLaws.{GoesOn}
use Rattle.plans.specs.Bound.{rank, most_steps}
use Rattle.plans.proofs.Targets.{AllLeadWell}
use Rattle.plans.proofs.Ranks.{LeadsLower, low, leads_lower}

-- a run that goes on has so many turns left
abbrev HasTurns : ℕ → Stand → Type 0
HasTurns n (Live s) = s.turns ≡ n
HasTurns n (Over s end) = Unit {0}

by_value : {A : Type 0} (o : Option A) (number n : ℕ) (s : StateValue) (go : A → Stand) → ((x : A) → HasTurns n (go x)) → HasTurns n (with_value o number s go)
by_value None number n s go h = tt
by_value (Some x) number n s go h = h x

module _ (p : ProgramTree) (g : GraphValue) where
  -- a statement without a block uses no turn
  turns_stay : (a : SimpleStatementTree) (number : ℕ) (s : StateValue) → HasTurns s.turns (after_simple p g number a s)
  turns_stay (DeclareInt name e) number s = by_value (int_value_in g.vertices e s) number s.turns s _ (λ n. refl)
  turns_stay (DeclareBool name c) number s = by_value (bool_value_in g.vertices c s) number s.turns s _ (λ b. refl)
  turns_stay (SetInt slot e) number s = by_value (int_value_in g.vertices e s) number s.turns s _ (λ n. refl)
  turns_stay (SetBool slot c) number s = by_value (bool_value_in g.vertices c s) number s.turns s _ (λ b. refl)
  turns_stay (ReduceInt slot reduction e) number s = by_value (int_value_in g.vertices e s) number s.turns s _ (λ n. refl)
  turns_stay (SetEntry vector index e) number s =
      by_value (vertex_in g.vertices index s) number s.turns s _ (λ v. by_value (int_value_in g.vertices e s) number s.turns s _ (λ n. refl))
  turns_stay (ReduceEntry vector index reduction e) number s =
      by_value (vertex_in g.vertices index s) number s.turns s _ (λ v. by_value (int_value_in g.vertices e s) number s.turns s _ (λ n. refl))
  turns_stay (DeclareSet name set) number s = refl
  turns_stay (AssignSet slot set) number s = refl
  turns_stay (AddVertex slot e) number s = by_value (vertex_in g.vertices e s) number s.turns s _ (λ v. refl)
  turns_stay (PrintInt e) number s = by_value (int_value_in g.vertices e s) number s.turns s _ (λ n. refl)
  turns_stay (PrintBool c) number s = by_value (bool_value_in g.vertices c s) number s.turns s _ (λ b. refl)
  turns_stay (ApplyVertex set function) number s = refl
  turns_stay (ApplyEdges ends function) number s = refl

turns_of_result : (n : ℕ) (xs ys : List (List ℤ)) (r : ResultTree) (s : StateValue) → (with_result n xs ys r s).turns ≡ s.turns
turns_of_result n xs ys Dropped s = refl
turns_of_result n xs ys (Declared name vector) s = refl
turns_of_result n xs ys (Assigned slot vector) s = refl

turns_of_results : (n : ℕ) (xs ys : List (List ℤ)) (parts : List EdgePartTree) (s : StateValue) → (with_results n xs ys parts s).turns ≡ s.turns
turns_of_results n xs ys [] s = refl
turns_of_results n xs ys (part ∷ parts) s = turns_of_results n xs ys parts (with_result n xs ys part.result s) ∙ turns_of_result n xs ys part.result s

module _ (p : ProgramTree) (g : GraphValue) (code : List InstructionTree) (well : AllLeadWell code 0 code) where
  abbrev many : ℕ
  many = 2 * length code + 2

  lower : (there here m n : ℕ) → m ≡ n → there < here → m * many + there + 1 < n * many + here + 1
  lower there here m n same h = let e : m * many ≡ n * many = ap (λ (k : ℕ). k * many) same in omega (arith, e, h)

  ended : (x : ℕ) → 0 < x + 1
  ended x = omega arith

  after_stand : (st : Stand) (index : ℕ) (loops : List LoopCounter) (shown : Depth) (n here : ℕ) → HasTurns n st → rank code index < here
      → most_steps code (go_on index loops shown st) < n * many + here + 1
  after_stand (Live t) index loops shown n here same h = lower (rank code index) here t.turns n same h
  after_stand (Over t end) index loops shown n here same h = ended (n * many + here)

  after_test : (o : Option Bool) (next to : ℕ) (loops : List LoopCounter) (number : ℕ) (shown : Depth) (s : StateValue) (here : ℕ) → rank code next < here → rank code to < here
      → most_steps code (after_unless o next to loops number shown s) < s.turns * many + here + 1
  after_test None next to loops number shown s here h k = ended (s.turns * many + here)
  after_test (Some true) next to loops number shown s here h k = lower (rank code next) here s.turns s.turns refl h
  after_test (Some false) next to loops number shown s here h k = lower (rank code to) here s.turns s.turns refl k

  after_entry : (o : Option ℤ) (next : ℕ) (loops : List LoopCounter) (number : ℕ) (shown : Depth) (s : StateValue) (here : ℕ) → rank code next < here
      → most_steps code (after_enter o next loops number shown s) < s.turns * many + here + 1
  after_entry None next loops number shown s here h = ended (s.turns * many + here)
  after_entry (Some x) next loops number shown s here h = lower (rank code next) here s.turns s.turns refl h

  after_below : (b : Bool) (next to : ℕ) (loops others : List LoopCounter) (s : StateValue) (here : ℕ) → rank code next < here → rank code to < here
      → most_steps code (if b then At next loops s else At to others s) < s.turns * many + here + 1
  after_below true next to loops others s here h k = lower (rank code next) here s.turns s.turns refl h
  after_below false next to loops others s here h k = lower (rank code to) here s.turns s.turns refl k

  after_loop_test : (loops : List LoopCounter) (next to : ℕ) (s : StateValue) (here : ℕ) → rank code next < here → rank code to < here
      → most_steps code (after_unless_below next to loops s) < s.turns * many + here + 1
  after_loop_test [] next to s here h k = lower (rank code to) here s.turns s.turns refl k
  after_loop_test (r ∷ loops) next to s here h k = after_below (int_lt r.next r.end) next to (r ∷ loops) loops s here h k

  after_next : (loops : List LoopCounter) (next : ℕ) (s : StateValue) (here : ℕ) → rank code next < here → most_steps code (after_advance next loops s) < s.turns * many + here + 1
  after_next [] next s here h = lower (rank code next) here s.turns s.turns refl h
  after_next (r ∷ loops) next s here h = lower (rank code next) here s.turns s.turns refl h

  one_turn : (n : ℕ) → suc n * many ≡ n * many + many
  one_turn n = grind arith

  use_turn : (n next : ℕ) (loops : List LoopCounter) (shown : Depth) (s : StateValue) (here : ℕ) → most_steps code (after_turn n next loops shown s) < n * many + here + 1
  use_turn zero next loops shown s here = ended (zero * many + here)
  use_turn (suc n) next loops shown s here = let below = low code well next in let e = one_turn n in omega (arith, below, e)

  act_falls : (operation : OperationTree) (number index : ℕ) (shown : Depth) (loops : List LoopCounter) (s : StateValue) → LeadsLower code index operation
      → most_steps code (act p g operation number shown index loops s) < s.turns * many + rank code index + 1
  act_falls (Do action) number index shown loops s h = after_stand (after_simple p g number action s) (index + 1) loops shown s.turns (rank code index) (turns_stay p g action number s) h
  act_falls (ApplyEdgesTogether ends a b) number index shown loops s h =
      lower (rank code (index + 1)) (rank code index) (after_parts p g ends (a ∷ b ∷ []) s).turns s.turns (turns_of_results g.vertices _ _ (a ∷ b ∷ []) _) h
  act_falls (ApplyVerticesTogether set a b) number index shown loops s h = lower (rank code (index + 1)) (rank code index) s.turns s.turns refl h
  act_falls (Unless c to) number index shown loops s h = after_test (bool_value_in g.vertices c s) (index + 1) to loops number shown s (rank code index) h.0 h.1
  act_falls (Enter name e) number index shown loops s h = after_entry (int_value_in g.vertices e (forget_beyond shown s)) (index + 1) loops number shown s (rank code index) h
  act_falls (UnlessBelow name to) number index shown loops s h = after_loop_test loops (index + 1) to s (rank code index) h.0 h.1
  act_falls (Advance name) number index shown loops s h = after_next loops (index + 1) s (rank code index) h
  act_falls Turn number index shown loops s h = use_turn s.turns (index + 1) loops shown s (rank code index)
  act_falls (Jump to) number index shown loops s h = lower (rank code to) (rank code index) s.turns s.turns refl h
  act_falls End number index shown loops s h = ended (s.turns * many + rank code index)

  stands_inside : (is : List InstructionTree) (index : ℕ) → index < length is → (i : InstructionTree) × (slice_get is index ≡ Some i)
  stands_inside [] index h = absurd (omega (arith, h))
  stands_inside (i ∷ is) zero h = (i, refl)
  stands_inside (i ∷ is) (suc n) h = let within : n < length is = omega (arith, h) in stands_inside is n within

  -- each step leaves fewer than before
  pub step_falls : (c : Configuration) → GoesOn code c → most_steps code (step p g code c) < most_steps code c
  step_falls (At index loops s) within =
      let here = stands_inside code index within in
      let i = here.0 in
      subst (λ (o : Option InstructionTree). most_steps code (act_at p g o index loops s) < s.turns * many + rank code index + 1) (sym here.1)
      (act_falls i.operation i.number index i.shown loops (forget_beyond i.keep s) (leads_lower code well index i here.1))
  step_falls (Ended s end) within = absurd within
