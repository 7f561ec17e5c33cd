-- `for` on the machine.
use Rattle.std.proofs.Common.{◌≡◌, ℕ, ◌+◌, ℤ, pos, int_lt, Bool, true, false, if◌then◌else◌, List, [], ◌∷◌, ◌++◌, Option, Some, None, slice_get, slice_index_or, ap, sym, ◌∙◌, refl, arith}
use Rattle.std.proofs.Math.Seq.{get_or-append_seam}
use Rattle.typed_tree.specs.IntExpressionTree.{IntExpressionTree}
use Rattle.typed_tree.specs.BlockTree.{DeclareInt}
use Rattle.typed_tree.specs.ProgramTree.{ProgramTree}
use Rattle.algorithm_meaning.specs.declared.outcome.End.TheVariants.{TurnsOver, Fault}
use Rattle.algorithm_meaning.specs.State.{GraphValue, StateValue}
use Rattle.algorithm_meaning.specs.Stand.{Stand, Live, Over, int_value_in, with_value}
use Rattle.algorithm_meaning.specs.Statements.{with_new_integer}
use Rattle.algorithm_meaning.specs.Loop.{for_test, for_body, after_for, both_bounds, bounds_in, next_of, forget_beyond}
use Rattle.algorithm_meaning.specs.declared.state.LoopCounter.{LoopCounter}
use Rattle.algorithm_meaning.specs.declared.state.Depth.{Depth}
use Rattle.plans.specs.Instruction.{Do, Enter, UnlessBelow, Advance, Turn, Jump, InstructionTree}
use Rattle.plans.specs.inside.Plan.{IsWithin}
use Rattle.plans.specs.Plan.{depth_with_integer, depth_in_loop, plain, loop_step}
use Rattle.plans.specs.Machine.{Configuration, At, Ended, go_on, after_turn, after_enter}
use Rattle.plans.proofs.Depths.{forgotten-all}
use Rattle.plans.proofs.Proper.{IsProper}
use Rattle.plans.proofs.Reaching.{here, and_reaches, by_step, Moves, moves_on, moves_from, Follows, follows_from, follows_more, takes, leaving, LeadsOn, leads_from, RunsLoop, loop_runs}
use Rattle.plans.proofs.Whiles.{pushed, proper-integer, proper-pushed, forgotten-integer, forgotten-pushed}

of_some : (a b : Bool) → Some a ≡ Some b → a ≡ b
of_some a b e = cc

-- where the instructions of a `for` stand
pub record StandsFor (code : List InstructionTree) (index number name back to : ℕ) (first end : IntExpressionTree) (d : Depth) : Type 0 where
  pub at_first : slice_get code index ≡ Some (plain number d (Do (DeclareInt name first)))
  pub at_end : slice_get code (index + 1) ≡ Some (loop_step number (depth_with_integer d) d (Enter name end))
  pub at_test : slice_get code (index + 2) ≡ Some (loop_step number (depth_in_loop d) d (UnlessBelow name to))
  pub at_turn : slice_get code (index + 3) ≡ Some (loop_step number (depth_in_loop d) d Turn)
  pub at_advance : slice_get code back ≡ Some (plain number d (Advance name))
  pub at_jump : slice_get code (back + 1) ≡ Some (loop_step number (depth_in_loop d) d (Jump (index + 2)))

module _ (p : ProgramTree) (g : GraphValue) (code : List InstructionTree) (index number name back to : ℕ) (first end : IntExpressionTree) (d e : Depth) (loops : List LoopCounter)
    (stands : StandsFor code index number name back to first end d) where
  -- at the head of `for`
  abbrev IsAtFor : LoopCounter → StateValue → Configuration → Type 0
  IsAtFor r s c = (m : StateValue) × (forget_beyond (depth_in_loop d) m ≡ pushed s r.next r.end) × (c ≡ At (index + 2) (r ∷ loops) m)

  tested : (r : LoopCounter) (t : StateValue) (x : Configuration) (b : Bool) → IsAtFor r t x → int_lt r.next r.end ≡ b
      → Moves p g code x (if b then At (index + 3) (r ∷ loops) (pushed t r.next r.end) else At to loops (pushed t r.next r.end))
  tested r t x b head e =
      moves_from p g code head.2
      (moves_on p g code (takes p g code (index + 2) (r ∷ loops) head.0 (loop_step number (depth_in_loop d) d (UnlessBelow name to)) (pushed t r.next r.end) stands.at_test head.1)
      (ap (λ (y : ℕ). if int_lt r.next r.end then At y (r ∷ loops) (pushed t r.next r.end) else At to loops (pushed t r.next r.end)) (omega arith)
      ∙ ap (λ (c : Bool). if c then At (index + 3) (r ∷ loops) (pushed t r.next r.end) else At to loops (pushed t r.next r.end)) e))

  turned : (r : LoopCounter) (turns : ℕ) (t : StateValue) → IsProper d turns t
      → Moves p g code (At (index + 3) (r ∷ loops) (pushed t r.next r.end)) (after_turn t.turns (index + 4) (r ∷ loops) d (pushed t r.next r.end))
  turned r turns t q =
      moves_on p g code (takes p g code (index + 3) (r ∷ loops) (pushed t r.next r.end) (loop_step number (depth_in_loop d) d Turn) (pushed t r.next r.end) stands.at_turn
      (forgotten-all (depth_in_loop d) (pushed t r.next r.end) (proper-pushed d turns t r.next r.end q).deep))
      (ap (λ (x : ℕ). after_turn t.turns x (r ∷ loops) d (pushed t r.next r.end)) (omega arith))

  for_leads : (st : Stand) (r : LoopCounter) (turns : ℕ) (c : Configuration) → Follows p g code back (r ∷ loops) d turns st c
      → LeadsOn p g code d turns (IsAtFor (next_of r)) st c
  for_leads (Live u) r turns c f =
      let n : LoopCounter = next_of r in
      let there : StateValue = pushed u n.next n.end in
      let kept = forgotten-all (depth_in_loop d) there (proper-pushed d turns u n.next n.end f.proper).deep in (
        At (index + 2) (n ∷ loops) there,
        and_reaches p g code f.reaches
            (by_step p g code (At back (r ∷ loops) f.there) (At (back + 1) (n ∷ loops) there) (At (index + 2) (n ∷ loops) there)
            (takes p g code back (r ∷ loops) f.there (plain number d (Advance name)) u stands.at_advance f.same)
            (by_step p g code (At (back + 1) (n ∷ loops) there) (At (index + 2) (n ∷ loops) there) (At (index + 2) (n ∷ loops) there)
            (takes p g code (back + 1) (n ∷ loops) there (loop_step number (depth_in_loop d) d (Jump (index + 2))) there stands.at_jump kept) here)),
        (there, kept, refl),
        f.proper,
      )
  for_leads (Over u end) r turns c f = f

  for_loop : (block : StateValue → Stand) → IsWithin d e
      → ((r : LoopCounter) (n : ℕ) (t : StateValue) → IsProper (depth_in_loop d) n t → Follows p g code back (r ∷ loops) e n (block t) (At (index + 4) (r ∷ loops) t))
      → RunsLoop p g code LoopCounter for_test (for_body block) next_of number to loops d IsAtFor
  for_loop block within block_runs = record {
    faults = λ r n t x q head none. let bad : Some (int_lt r.next r.end) ≡ None = none in cc;
    stops = λ r n t x q head fails. record {
      there = pushed t r.next r.end;
      reaches = by_step p g code x (At to loops (pushed t r.next r.end)) (At to loops (pushed t r.next r.end)) (tested r t x false head (of_some (int_lt r.next r.end) false fails)) here;
      same = forgotten-pushed d n t r.next r.end q;
      proper = q;
    };
    is_over = λ r n t x q head holds none.
        by_step p g code x (At (index + 3) (r ∷ loops) (pushed t r.next r.end)) (Ended t TurnsOver) (tested r t x true head (of_some (int_lt r.next r.end) true holds))
        (by_step p g code (At (index + 3) (r ∷ loops) (pushed t r.next r.end)) (Ended t TurnsOver) (Ended t TurnsOver)
        (moves_on p g code (turned r n t q)
        (ap (λ (y : ℕ). after_turn y (index + 4) (r ∷ loops) d (pushed t r.next r.end)) none
        ∙ ap (λ (u : StateValue). Ended u TurnsOver) (forgotten-pushed d n t r.next r.end q))) here);
    turn = λ r n t x q head holds k left.
        let u : StateValue = record t { turns = k } in
        let proper : IsProper d k u = record { deep = q.deep; sets = q.sets; fewer = omega arith } in
        let inner : StateValue = pushed u r.next r.end in
        leads_from p g code d k (IsAtFor (next_of r)) (for_body block r u) x (At (index + 4) (r ∷ loops) inner)
        (by_step p g code x (At (index + 3) (r ∷ loops) (pushed t r.next r.end)) (At (index + 4) (r ∷ loops) inner) (tested r t x true head (of_some (int_lt r.next r.end) true holds))
        (by_step p g code (At (index + 3) (r ∷ loops) (pushed t r.next r.end)) (At (index + 4) (r ∷ loops) inner) (At (index + 4) (r ∷ loops) inner)
        (moves_on p g code (turned r n t q) (ap (λ (y : ℕ). after_turn y (index + 4) (r ∷ loops) d (pushed t r.next r.end)) left)) here))
        (for_leads (for_body block r u) r k (At (index + 4) (r ∷ loops) inner)
        (leaving p g code (block inner) back (r ∷ loops) d e k u (At (index + 4) (r ∷ loops) inner) q.deep within
        (block_runs r k inner (proper-pushed d k u r.next r.end proper))));
  }

  -- the second bound does not see the name
  entered : (turns : ℕ) (s : StateValue) (x : ℤ) → IsProper d turns s
      → Moves p g code (At (index + 1) loops (with_new_integer s x)) (after_enter (int_value_in g.vertices end s) (index + 2) loops number d (with_new_integer s x))
  entered turns s x q =
      moves_on p g code (takes p g code (index + 1) loops (with_new_integer s x) (loop_step number (depth_with_integer d) d (Enter name end)) (with_new_integer s x) stands.at_end
      (forgotten-all (depth_with_integer d) (with_new_integer s x) (proper-integer d turns s x q).deep))
      (ap (λ (t : StateValue). after_enter (int_value_in g.vertices end t) (index + 1 + 1) loops number d (with_new_integer s x)) (forgotten-integer d turns s x q)
      ∙ ap (λ (y : ℕ). after_enter (int_value_in g.vertices end s) y loops number d (with_new_integer s x)) (omega arith))

  first_value : (turns : ℕ) (s : StateValue) (x : ℤ) → IsProper d turns s → slice_index_or (s.scope.integers ++ x ∷ []) d.integers (pos 0) ≡ x
  first_value turns s x q =
      ap (λ (n : ℕ). slice_index_or (s.scope.integers ++ x ∷ []) n (pos 0)) (sym (ap (λ (d : Depth). d.integers) q.deep))
      ∙ get_or-append_seam s.scope.integers x [] (pos 0)

  begun : (s m : StateValue) (o : Option ℤ) → forget_beyond d m ≡ s → int_value_in g.vertices first s ≡ o
      → Moves p g code (At index loops m) (go_on (index + 1) loops d (with_value o number s (λ n. Live (with_new_integer s n))))
  begun s m o same e =
      moves_on p g code (takes p g code index loops m (plain number d (Do (DeclareInt name first))) s stands.at_first same)
      (ap (λ (o : Option ℤ). go_on (index + 1) loops d (with_value o number s (λ n. Live (with_new_integer s n)))) e)

  with_bounds : (block : StateValue → Stand) (turns : ℕ) (s m : StateValue) (a b : Option ℤ) → IsWithin d e
      → ((r : LoopCounter) (n : ℕ) (t : StateValue) → IsProper (depth_in_loop d) n t → Follows p g code back (r ∷ loops) e n (block t) (At (index + 4) (r ∷ loops) t))
      → forget_beyond d m ≡ s → IsProper d turns s → int_value_in g.vertices first s ≡ a → int_value_in g.vertices end s ≡ b
      → Follows p g code to loops d turns (with_value (both_bounds a b) number s (λ r. after_for number block r s)) (At index loops m)
  with_bounds block turns s m None b within block_runs same q e_first e_end =
      by_step p g code (At index loops m) (Ended s (Fault 401 number)) (Ended s (Fault 401 number))
      (moves_on p g code (begun s m None same e_first) (ap (λ (t : StateValue). Ended t (Fault 401 number)) (forgotten-all d s q.deep))) here
  with_bounds block turns s m (Some x) None within block_runs same q e_first e_end =
      by_step p g code (At index loops m) (At (index + 1) loops (with_new_integer s x)) (Ended s (Fault 401 number)) (begun s m (Some x) same e_first)
      (by_step p g code (At (index + 1) loops (with_new_integer s x)) (Ended s (Fault 401 number)) (Ended s (Fault 401 number))
      (moves_on p g code (entered turns s x q)
      (ap (λ (o : Option ℤ). after_enter o (index + 2) loops number d (with_new_integer s x)) e_end
      ∙ ap (λ (t : StateValue). Ended t (Fault 401 number)) (forgotten-integer d turns s x q))) here)
  with_bounds block turns s m (Some x) (Some y) within block_runs same q e_first e_end =
      let r : LoopCounter = record { next = x; end = y } in
      let head : Configuration = At (index + 2) (r ∷ loops) (pushed s x y) in
      let st : Stand = after_for number block r s in
      follows_from p g code st to loops d turns (At index loops m) head
      (by_step p g code (At index loops m) (At (index + 1) loops (with_new_integer s x)) head (begun s m (Some x) same e_first)
      (by_step p g code (At (index + 1) loops (with_new_integer s x)) head head
      (moves_on p g code (entered turns s x q)
      (ap (λ (o : Option ℤ). after_enter o (index + 2) loops number d (with_new_integer s x)) e_end
      ∙ ap (λ (n : ℤ). At (index + 2) (record { next = n; end = y } ∷ loops) (pushed s x y)) (first_value turns s x q))) here))
      (follows_more p g code st to loops d s.turns turns head q.fewer
      (loop_runs p g code LoopCounter for_test (for_body block) next_of number to loops d IsAtFor (for_loop block within block_runs) s.turns r s head
      (record { deep = q.deep; sets = q.sets; fewer = omega arith })
      (pushed s x y, forgotten-all (depth_in_loop d) (pushed s x y) (proper-pushed d turns s x y q).deep, refl)))

  pub for_runs : (block : StateValue → Stand) (turns : ℕ) (s m : StateValue) → IsWithin d e
      → ((r : LoopCounter) (n : ℕ) (t : StateValue) → IsProper (depth_in_loop d) n t → Follows p g code back (r ∷ loops) e n (block t) (At (index + 4) (r ∷ loops) t))
      → forget_beyond d m ≡ s → IsProper d turns s
      → Follows p g code to loops d turns (with_value (bounds_in g.vertices first end s) number s (λ r. after_for number block r s)) (At index loops m)
  for_runs block turns s m within block_runs same q =
      with_bounds block turns s m (int_value_in g.vertices first s) (int_value_in g.vertices end s) within block_runs same q refl refl
