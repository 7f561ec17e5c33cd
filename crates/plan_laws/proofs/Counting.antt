-- In each configuration that a run of a plan reaches the counters of its loops are variables.
use Rattle.std.proofs.Common.{◌≡◌, ◌≢◌, ℕ, zero, suc, ◌+◌, ◌≤◌, ◌<◌, ℤ, pos, Bool, true, false, List, [], ◌∷◌, ◌++◌, length, length-append, take, Option, Some, None, slice_get, slice_set}
use Rattle.std.proofs.Common.{slice_index_or, int_lt, if◌then◌else◌, MatchOption, refl, ap, sym, ◌∙◌, arith, subst}
use Rattle.std.proofs.lemmas.List.{length-take-le, length-set}
use Rattle.typed_tree.specs.BlockTree.{SimpleStatementTree, DeclareInt, DeclareBool, SetInt, SetBool, ReduceInt, SetEntry, ReduceEntry, DeclareSet, AssignSet, AddVertex}
use Rattle.typed_tree.specs.BlockTree.{PrintInt, PrintBool, ApplyVertex, ApplyEdges, Simple}
use Rattle.typed_tree.specs.ProgramTree.{ProgramTree}
use Rattle.algorithm_meaning.specs.State.{GraphValue, StateValue}
use Rattle.algorithm_meaning.specs.Arithmetic.{reduced}
use Rattle.algorithm_meaning.specs.Stand.{Stand, Live, Over, with_value, int_value_in, bool_value_in, vertex_in}
use Rattle.algorithm_meaning.specs.Meaning.{after_simple}
use Rattle.algorithm_meaning.specs.Loop.{forget_beyond, next_of}
use Rattle.algorithm_meaning.specs.declared.state.LoopCounter.{LoopCounter}
use Rattle.algorithm_meaning.specs.declared.state.Depth.{Depth}
use Rattle.plans.specs.Instruction.{ResultTree, Dropped, Declared, Assigned, EdgePartTree, OperationTree, Do, ApplyEdgesTogether, ApplyVerticesTogether, Unless, Enter, UnlessBelow, Advance, Turn}
use Rattle.plans.specs.Instruction.{Jump, End, InstructionTree}
use Rattle.plans.specs.Machine.{Configuration, At, Ended, with_result, with_results, after_parts, go_on, after_unless, after_enter, after_unless_below, after_advance, after_turn, act, act_at, step}
use Rattle.plans.specs.Machine.{steps}
use Rattle.plans.specs.Plan.{depth_after}
use Rattle.type_laws.specs.LoopVariables.{IsOutside, KeepsInside}
use Rattle.plan_laws.specs.LoopCounters.{AreCounters, NamesInnermost, CountersAreVariables}
use Rattle.type_laws.proofs.LoopStatements.{AreBelow, below_more}
use Rattle.plan_laws.proofs.Around.{Entry, Local, AllLocal, TestsInnermost, AdvancesInnermost, local_at}

-- what is known of an integer stays known
take_get : (n k : ℕ) (xs : List ℤ) (x : ℤ) → k < n → slice_get xs k ≡ Some x → slice_get (take n xs) k ≡ Some x
take_get zero k xs x l e = absurd (omega (arith, l))
take_get (suc n) k [] x l e = e
take_get (suc n) zero (y ∷ ys) x l e = e
take_get (suc n) (suc k) (y ∷ ys) x l e = let m : k < n = omega (arith, l) in take_get n k ys x m e

append_get : (k : ℕ) (xs ys : List ℤ) (x : ℤ) → slice_get xs k ≡ Some x → slice_get (xs ++ ys) k ≡ Some x
append_get k [] ys x e = let bad : None ≡ Some x = e in cc
append_get zero (y ∷ xs) ys x e = e
append_get (suc k) (y ∷ xs) ys x e = append_get k xs ys x e

set_get : (k j : ℕ) (xs : List ℤ) (x y : ℤ) → j ≢ k → slice_get xs k ≡ Some x → slice_get (slice_set xs j y) k ≡ Some x
set_get k j [] x y apart e = e
set_get zero zero (z ∷ xs) x y apart e = absurd (apart refl)
set_get zero (suc j) (z ∷ xs) x y apart e = e
set_get (suc k) zero (z ∷ xs) x y apart e = e
set_get (suc k) (suc j) (z ∷ xs) x y apart e = set_get k j xs x y (λ same. apart (ap suc same)) e

last_get : (xs : List ℤ) (x : ℤ) (n : ℕ) → length xs ≡ n → slice_get (xs ++ x ∷ []) n ≡ Some x
last_get [] x zero e = refl
last_get [] x (suc n) e = absurd (omega (arith, e))
last_get (y ∷ xs) x zero e = absurd (omega (arith, e))
last_get (y ∷ xs) x (suc n) e = let rest : length xs ≡ n = omega (arith, e) in last_get xs x n rest

own_get : (xs : List ℤ) (k : ℕ) → k < length xs → slice_get xs k ≡ Some (slice_index_or xs k (pos 0))
own_get [] k l = absurd (omega (arith, l))
own_get (x ∷ xs) zero l = refl
own_get (x ∷ xs) (suc k) l = let m : k < length xs = omega (arith, l) in own_get xs k m

-- so do the counters
counters_taken : (is : List ℕ) (rs : List LoopCounter) (n : ℕ) (xs : List ℤ) → AreBelow is n → AreCounters is rs xs → AreCounters is rs (take n xs)
counters_taken [] [] n xs below are = tt
counters_taken [] (r ∷ rs) n xs below are = are
counters_taken (i ∷ is) [] n xs below are = are
counters_taken (i ∷ is) (r ∷ rs) n xs below are =
    let l : i + 1 < n = below.0 in
    (take_get n i xs r.next (omega (arith, l)) are.0, take_get n (i + 1) xs r.end l are.1, counters_taken is rs n xs below.1 are.2)

counters_joined : (is : List ℕ) (rs : List LoopCounter) (xs ys : List ℤ) → AreCounters is rs xs → AreCounters is rs (xs ++ ys)
counters_joined [] [] xs ys are = tt
counters_joined [] (r ∷ rs) xs ys are = are
counters_joined (i ∷ is) [] xs ys are = are
counters_joined (i ∷ is) (r ∷ rs) xs ys are = (append_get i xs ys r.next are.0, append_get (i + 1) xs ys r.end are.1, counters_joined is rs xs ys are.2)

counters_set : (is : List ℕ) (rs : List LoopCounter) (xs : List ℤ) (j : ℕ) (y : ℤ) → IsOutside is j → AreCounters is rs xs → AreCounters is rs (slice_set xs j y)
counters_set [] [] xs j y outside are = tt
counters_set [] (r ∷ rs) xs j y outside are = are
counters_set (i ∷ is) [] xs j y outside are = are
counters_set (i ∷ is) (r ∷ rs) xs j y outside are =
    (set_get i j xs r.next y outside.0 are.0, set_get (i + 1) j xs r.end y outside.1 are.1, counters_set is rs xs j y outside.2 are.2)

-- a run that has not ended has the counters, and at least this many integers
abbrev HasCounters : List ℕ → List LoopCounter → (n : ℕ) → Stand → Type 0
HasCounters is rs n (Live s) = AreCounters is rs s.scope.integers × (n ≤ length s.scope.integers)
HasCounters is rs n (Over s end) = Unit {0}

by_value : {A : Type 0} (o : Option A) (number : ℕ) (is : List ℕ) (rs : List LoopCounter) (n : ℕ) (s : StateValue) (go : A → Stand) → ((x : A) → HasCounters is rs n (go x))
    → HasCounters is rs n (with_value o number s go)
by_value None number is rs n s go h = tt
by_value (Some x) number is rs n s go h = h x

module _ (p : ProgramTree) (g : GraphValue) where
  -- a statement without a block that assigns no variable of a loop
  counters_after : (a : SimpleStatementTree) (d : Depth) (is : List ℕ) (rs : List LoopCounter) (number : ℕ) (s : StateValue) → KeepsInside d.integers is (Simple a)
      → AreCounters is rs s.scope.integers
      → d.integers ≤ length s.scope.integers → HasCounters is rs (depth_after (Simple a) d).integers (after_simple p g number a s)
  counters_after (DeclareInt name e) d is rs number s keeps are long =
      by_value (int_value_in g.vertices e s) number is rs (d.integers + 1) s _
      (λ n. (counters_joined is rs s.scope.integers (n ∷ []) are, omega (arith, long, length-append s.scope.integers (n ∷ []))))
  counters_after (DeclareBool name c) d is rs number s keeps are long = by_value (bool_value_in g.vertices c s) number is rs d.integers s _ (λ b. (are, long))
  counters_after (SetInt slot e) d is rs number s keeps are long =
      by_value (int_value_in g.vertices e s) number is rs d.integers s _
      (λ n. (counters_set is rs s.scope.integers slot.index n keeps are, omega (arith, long, length-set s.scope.integers slot.index n)))
  counters_after (SetBool slot c) d is rs number s keeps are long = by_value (bool_value_in g.vertices c s) number is rs d.integers s _ (λ b. (are, long))
  counters_after (ReduceInt slot reduction e) d is rs number s keeps are long =
      by_value (int_value_in g.vertices e s) number is rs d.integers s _
      (λ n. (let x : ℤ = reduced reduction (slice_index_or s.scope.integers slot.index (pos 0)) n in
      (counters_set is rs s.scope.integers slot.index x keeps are, omega (arith, long, length-set s.scope.integers slot.index x))))
  counters_after (SetEntry vector index e) d is rs number s keeps are long =
      by_value (vertex_in g.vertices index s) number is rs d.integers s _ (λ v. by_value (int_value_in g.vertices e s) number is rs d.integers s _ (λ n. (are, long)))
  counters_after (ReduceEntry vector index reduction e) d is rs number s keeps are long =
      by_value (vertex_in g.vertices index s) number is rs d.integers s _ (λ v. by_value (int_value_in g.vertices e s) number is rs d.integers s _ (λ n. (are, long)))
  counters_after (DeclareSet name set) d is rs number s keeps are long = (are, long)
  counters_after (AssignSet slot set) d is rs number s keeps are long = (are, long)
  counters_after (AddVertex slot e) d is rs number s keeps are long = by_value (vertex_in g.vertices e s) number is rs d.integers s _ (λ v. (are, long))
  counters_after (PrintInt e) d is rs number s keeps are long = by_value (int_value_in g.vertices e s) number is rs d.integers s _ (λ n. (are, long))
  counters_after (PrintBool c) d is rs number s keeps are long = by_value (bool_value_in g.vertices c s) number is rs d.integers s _ (λ b. (are, long))
  counters_after (ApplyVertex set function) d is rs number s keeps are long = (are, long)
  counters_after (ApplyEdges ends function) d is rs number s keeps are long = (are, long)

integers_of_result : (n : ℕ) (xs ys : List (List ℤ)) (r : ResultTree) (s : StateValue) → (with_result n xs ys r s).scope.integers ≡ s.scope.integers
integers_of_result n xs ys Dropped s = refl
integers_of_result n xs ys (Declared name vector) s = refl
integers_of_result n xs ys (Assigned slot vector) s = refl

integers_of_results : (n : ℕ) (xs ys : List (List ℤ)) (parts : List EdgePartTree) (s : StateValue) → (with_results n xs ys parts s).scope.integers ≡ s.scope.integers
integers_of_results n xs ys [] s = refl
integers_of_results n xs ys (part ∷ parts) s = integers_of_results n xs ys parts (with_result n xs ys part.result s) ∙ integers_of_result n xs ys part.result s

module _ (p : ProgramTree) (g : GraphValue) (code : List InstructionTree) (table : List (List ℕ)) (all : AllLocal code table 0 code table) where
  -- a run is at an instruction, with the counters of the loops around it
  pub record Stands (index : ℕ) (loops : List LoopCounter) (xs : List ℤ) : Type 0 where
    pub is : List ℕ
    pub n : ℕ
    pub entry : Entry code table index is n
    pub long : n ≤ length xs
    pub are : AreCounters is loops xs

  abbrev pub Stays : Configuration → Type 0
  Stays (At index loops s) = Stands index loops s.scope.integers
  Stays (Ended s end) = Unit {0}

  arrives : (index : ℕ) (is : List ℕ) (n : ℕ) (loops : List LoopCounter) (s : StateValue) → Entry code table index is n → n ≤ length s.scope.integers → AreCounters is loops s.scope.integers
      → Stays (At index loops s)
  arrives index is n loops s entry long are = record { is = is; n = n; entry = entry; long = long; are = are }

  after_go_on : (st : Stand) (index : ℕ) (is : List ℕ) (n : ℕ) (loops : List LoopCounter) (shown : Depth) → Entry code table index is n → HasCounters is loops n st → Stays (go_on index loops shown st)
  after_go_on (Live t) index is n loops shown entry has = arrives index is n loops t entry has.1 has.0
  after_go_on (Over t end) index is n loops shown entry has = tt

  after_test : (o : Option Bool) (here there : ℕ) (is : List ℕ) (n : ℕ) (loops : List LoopCounter) (number : ℕ) (shown : Depth) (s : StateValue) → Entry code table here is n
      → Entry code table there is n
      → n ≤ length s.scope.integers → AreCounters is loops s.scope.integers → Stays (after_unless o here there loops number shown s)
  after_test None here there is n loops number shown s first second long are = tt
  after_test (Some true) here there is n loops number shown s first second long are = arrives here is n loops s first long are
  after_test (Some false) here there is n loops number shown s first second long are = arrives there is n loops s second long are

  after_entry : (o : Option ℤ) (here : ℕ) (is : List ℕ) (loops : List LoopCounter) (number : ℕ) (shown : Depth) (s : StateValue) → Entry code table here (shown.integers ∷ is) (shown.integers + 2)
      → length s.scope.integers ≡ shown.integers + 1 → AreCounters is loops s.scope.integers → Stays (after_enter o here loops number shown s)
  after_entry None here is loops number shown s entry long are = tt
  after_entry (Some end) here is loops number shown s entry long are =
      let xs = s.scope.integers in
      let inside : shown.integers < length xs = omega (arith, long) in
      record {
        is = shown.integers ∷ is;
        n = shown.integers + 2;
        entry = entry;
        long = omega (arith, long, length-append xs (end ∷ []));
        are = (append_get shown.integers xs (end ∷ []) _ (own_get xs shown.integers inside), last_get xs end (shown.integers + 1) long, counters_joined is loops xs (end ∷ []) are);
      }

  by_apply_schedule : (b : Bool) (here there : ℕ) (m : ℕ) (is : List ℕ) (n : ℕ) (r : LoopCounter) (rs : List LoopCounter) (s : StateValue) → Entry code table here (m ∷ is) n
      → Entry code table there is n
      → n ≤ length s.scope.integers → AreCounters (m ∷ is) (r ∷ rs) s.scope.integers → Stays (if b then At here (r ∷ rs) s else At there rs s)
  by_apply_schedule true here there m is n r rs s first second long are = arrives here (m ∷ is) n (r ∷ rs) s first long are
  by_apply_schedule false here there m is n r rs s first second long are = arrives there is n rs s second long are.2

  after_loop_test : (is : List ℕ) (index to keep shown : ℕ) (loops : List LoopCounter) (s : StateValue) → TestsInnermost code table index to is keep shown → keep ≤ length s.scope.integers
      → AreCounters is loops s.scope.integers → Stays (after_unless_below (index + 1) to loops s)
  after_loop_test [] index to keep shown loops s tests long are = absurd tests
  after_loop_test (m ∷ is) index to keep shown [] s tests long are = absurd are
  after_loop_test (m ∷ is) index to keep shown (r ∷ rs) s tests long are = by_apply_schedule (int_lt r.next r.end) (index + 1) to m is keep r rs s tests.1 tests.2 long are

  after_next : (is : List ℕ) (index keep shown : ℕ) (loops : List LoopCounter) (s : StateValue) (xs : List ℤ) → AdvancesInnermost code table index is keep shown → keep ≤ length xs
      → s.scope.integers ≡ take keep xs
      → AreCounters is loops xs → Stays (after_advance (index + 1) loops s)
  after_next [] index keep shown loops s xs goes long same are = absurd goes
  after_next (m ∷ is) index keep shown [] s xs goes long same are = absurd are
  after_next (m ∷ is) index keep shown (r ∷ rs) s xs goes long same are =
      let ys = s.scope.integers in
      let here : keep ≡ m = goes.1 in
      let count : length ys ≡ m = ap length same ∙ length-take-le keep xs long ∙ here in
      let left = subst (λ (zs : List ℤ). AreCounters is rs zs) (sym same) (counters_taken is rs keep xs (subst (λ (k : ℕ). AreBelow is k) (sym here) goes.3) are.2) in
      let a = (next_of r).next in
      let b = (next_of r).end in
      record {
        is = m ∷ is;
        n = m + 2;
        entry = goes.2;
        long = omega (arith, count, length-append ys (a ∷ []), length-append (ys ++ a ∷ []) (b ∷ []));
        are = (
          append_get m (ys ++ a ∷ []) (b ∷ []) a (last_get ys a m count),
          last_get (ys ++ a ∷ []) b (m + 1) (omega (arith, count, length-append ys (a ∷ []))),
          counters_joined is rs (ys ++ a ∷ []) (b ∷ []) (counters_joined is rs ys (a ∷ []) left),
        );
      }

  after_a_turn : (turns : ℕ) (here : ℕ) (is : List ℕ) (n : ℕ) (loops : List LoopCounter) (shown : Depth) (s : StateValue) → Entry code table here is n → n ≤ length s.scope.integers
      → AreCounters is loops s.scope.integers → Stays (after_turn turns here loops shown s)
  after_a_turn zero here is n loops shown s entry long are = tt
  after_a_turn (suc k) here is n loops shown s entry long are = record { is = is; n = n; entry = entry; long = long; are = are }

  tests_below : (is : List ℕ) (index to keep shown : ℕ) → TestsInnermost code table index to is keep shown → AreBelow is keep
  tests_below [] index to keep shown tests = absurd tests
  tests_below (m ∷ is) index to keep shown tests = tests.3

  act_stays : (operation : OperationTree) (number index : ℕ) (keep shown : Depth) (is : List ℕ) (loops : List LoopCounter) (s : StateValue) → Local code table index is keep shown operation
      → keep.integers ≤ length s.scope.integers → AreCounters is loops s.scope.integers → Stays (act p g operation number shown index loops (forget_beyond keep s))
  act_stays (Do a) number index keep shown is loops s here long are =
      let count = length-take-le keep.integers s.scope.integers long in
      after_go_on (after_simple p g number a (forget_beyond keep s)) (index + 1) is (depth_after (Simple a) keep).integers loops shown here.1
      (counters_after p g a keep is loops number (forget_beyond keep s) here.0 (counters_taken is loops keep.integers s.scope.integers here.2 are) (omega (arith, count)))
  act_stays (ApplyEdgesTogether ends a b) number index keep shown is loops s here long are =
      let t = forget_beyond keep s in
      let count = length-take-le keep.integers s.scope.integers long in
      let same : (after_parts p g ends (a ∷ b ∷ []) t).scope.integers ≡ take keep.integers s.scope.integers = integers_of_results g.vertices _ _ (a ∷ b ∷ []) _ in
      arrives (index + 1) is keep.integers loops (after_parts p g ends (a ∷ b ∷ []) t) here.0 (omega (arith, count, ap length same))
      (subst (λ (zs : List ℤ). AreCounters is loops zs) (sym same) (counters_taken is loops keep.integers s.scope.integers here.1 are))
  act_stays (ApplyVerticesTogether set a b) number index keep shown is loops s here long are =
      let count = length-take-le keep.integers s.scope.integers long in
      record { is = is; n = keep.integers; entry = here.0; long = omega (arith, count); are = counters_taken is loops keep.integers s.scope.integers here.1 are }
  act_stays (Unless c to) number index keep shown is loops s here long are =
      let count = length-take-le keep.integers s.scope.integers long in
      after_test (bool_value_in g.vertices c (forget_beyond keep s)) (index + 1) to is keep.integers loops number shown (forget_beyond keep s) here.0 here.1 (omega (arith, count))
      (counters_taken is loops keep.integers s.scope.integers here.2 are)
  act_stays (Enter name e) number index keep shown is loops s here long are =
      let count = length-take-le keep.integers s.scope.integers long in
      let one : keep.integers ≡ shown.integers + 1 = here.0 in
      after_entry (int_value_in g.vertices e (forget_beyond shown (forget_beyond keep s))) (index + 1) is loops number shown (forget_beyond keep s) here.1 (count ∙ one)
      (counters_taken is loops keep.integers s.scope.integers (below_more is shown.integers keep.integers (omega (arith, one)) here.2) are)
  act_stays (UnlessBelow name to) number index keep shown is loops s here long are =
      let count = length-take-le keep.integers s.scope.integers long in
      after_loop_test is index to keep.integers shown.integers loops (forget_beyond keep s) here (omega (arith, count))
      (counters_taken is loops keep.integers s.scope.integers (tests_below is index to keep.integers shown.integers here) are)
  act_stays (Advance name) number index keep shown is loops s here long are =
      after_next is index keep.integers shown.integers loops (forget_beyond keep s) s.scope.integers here long refl are
  act_stays Turn number index keep shown is loops s here long are =
      let count = length-take-le keep.integers s.scope.integers long in
      after_a_turn s.turns (index + 1) is keep.integers loops shown (forget_beyond keep s) here.0 (omega (arith, count)) (counters_taken is loops keep.integers s.scope.integers here.1 are)
  act_stays (Jump to) number index keep shown is loops s here long are =
      let count = length-take-le keep.integers s.scope.integers long in
      arrives to is keep.integers loops (forget_beyond keep s) here.0 (omega (arith, count)) (counters_taken is loops keep.integers s.scope.integers here.1 are)
  act_stays End number index keep shown is loops s here long are = tt

  local_here : (index : ℕ) (is : List ℕ) (n : ℕ) (e : Entry code table index is n) → Local code table index is e.instruction.keep e.instruction.shown e.instruction.operation
  local_here index is n e =
      let i = e.instruction in
      let same : 0 + index ≡ index = omega arith in
      subst (λ (k : ℕ). Local code table k is i.keep i.shown i.operation) same (local_at code table 0 code table all index i is e.stands e.around)

  step_stays : (c : Configuration) → Stays c → Stays (step p g code c)
  step_stays (At index loops s) stands =
      let i = stands.entry.instruction in
      let keeps : i.keep.integers ≤ stands.n = stands.entry.keeps in
      subst (λ (o : Option InstructionTree). Stays (act_at p g o index loops s)) (sym stands.entry.stands)
      (act_stays i.operation i.number index i.keep i.shown stands.is loops s (local_here index stands.is stands.n stands.entry) (omega (arith, keeps, stands.long)) stands.are)
  step_stays (Ended s end) stands = tt

  pub steps_stay : (k : ℕ) (c : Configuration) → Stays c → Stays (steps p g code k c)
  steps_stay zero c stands = stands
  steps_stay (suc k) c stands = steps_stay k (step p g code c) (step_stays c stands)

  names : (operation : OperationTree) (index : ℕ) (is : List ℕ) (keep shown : Depth) → Local code table index is keep shown operation → NamesInnermost is shown operation
  names (UnlessBelow name to) index [] keep shown here = absurd here
  names (UnlessBelow name to) index (m ∷ is) keep shown here = here.0
  names (Advance name) index [] keep shown here = absurd here
  names (Advance name) index (m ∷ is) keep shown here = here.0
  names (Do a) index is keep shown here = tt
  names _ index is keep shown here = tt

  pub stays_counted : (c : Configuration) → Stays c → CountersAreVariables code c
  stays_counted (At index loops s) stands =
      let i = stands.entry.instruction in (
        stands.is,
        stands.are,
        subst (λ (o : Option InstructionTree). MatchOption o (Unit {0}) (λ i. NamesInnermost stands.is i.shown i.operation)) (sym stands.entry.stands)
            (names i.operation index stands.is i.keep i.shown (local_here index stands.is stands.n stands.entry)),
      )
  stays_counted (Ended s end) stands = tt

  pub starts : (s : StateValue) (n : ℕ) → Entry code table 0 [] n → n ≡ 0 → Stays (At 0 [] s)
  starts s n entry none = record { is = []; n = n; entry = entry; long = omega (arith, none); are = tt }
