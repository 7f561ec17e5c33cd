-- `while` and `for` on the machine.
use Rattle.std.proofs.Common.{◌≡◌, ℕ, ◌+◌, ℤ, Bool, true, false, if◌then◌else◌, List, [], ◌∷◌, Option, Some, None, slice_get, ap, sym, ◌∙◌, refl, arith, subst}
use Rattle.std.proofs.lemmas.List.{length-append}
use Rattle.typed_tree.specs.BoolExpressionTree.{BoolExpressionTree}
use Rattle.typed_tree.specs.ProgramTree.{ProgramTree}
use Rattle.algorithm_meaning.specs.declared.outcome.End.TheVariants.{TurnsOver, Fault}
use Rattle.algorithm_meaning.specs.State.{GraphValue, StateValue}
use Rattle.algorithm_meaning.specs.Stand.{Stand, Live, Over, bool_value_in}
use Rattle.algorithm_meaning.specs.Statements.{with_new_integer}
use Rattle.algorithm_meaning.specs.Loop.{inside, while_test, while_body, after_while, forget_beyond, depth_of}
use Rattle.algorithm_meaning.specs.declared.state.LoopCounter.{LoopCounter}
use Rattle.algorithm_meaning.specs.declared.state.Depth.{Depth}
use Rattle.plans.specs.Instruction.{Unless, Turn, Jump, InstructionTree}
use Rattle.plans.specs.inside.Plan.{IsWithin}
use Rattle.plans.specs.Plan.{depth_with_integer, depth_in_loop, plain}
use Rattle.plans.specs.Machine.{Configuration, At, Ended, after_unless, after_turn}
use Rattle.plans.proofs.Depths.{forgotten-all}
use Rattle.plans.proofs.Proper.{IsProper}
use Rattle.plans.proofs.Reaching.{Reaches, here, and_reaches, by_step, Moves, moves_on, moves_from, Follows, follows_more, takes, leaving, LeadsOn, leads_from, RunsLoop, loop_runs, forgotten-new}

-- the state with the variables of a `for`
abbrev pub pushed : StateValue → (next end : ℤ) → StateValue
pushed s next end = with_new_integer (with_new_integer s next) end

pub proper-integer : (d : Depth) (turns : ℕ) (s : StateValue) (n : ℤ) → IsProper d turns s → IsProper (depth_with_integer d) turns (with_new_integer s n)
proper-integer d turns s n proper = record {
  deep = λ i. record {
    integers = (length-append s.scope.integers (n ∷ []) ∙ ap (λ (d : Depth). d.integers + 1) proper.deep) i;
    conditions = ap (λ (d : Depth). d.conditions) proper.deep i;
    sets = ap (λ (d : Depth). d.sets) proper.deep i;
  };
  sets = proper.sets;
  fewer = proper.fewer;
}

pub proper-pushed : (d : Depth) (turns : ℕ) (s : StateValue) (next end : ℤ) → IsProper d turns s → IsProper (depth_in_loop d) turns (pushed s next end)
proper-pushed d turns s next end proper = proper-integer (depth_with_integer d) turns (with_new_integer s next) end (proper-integer d turns s next proper)

-- what is beyond the name is forgotten
pub forgotten-integer : (d : Depth) (turns : ℕ) (s : StateValue) (n : ℤ) → IsProper d turns s → forget_beyond d (with_new_integer s n) ≡ s
forgotten-integer d turns s n proper =
    let e = ap (λ (d : Depth). d.integers) proper.deep in
    forgotten-new d s n (omega (arith, e)) ∙ forgotten-all d s proper.deep

pub forgotten-pushed : (d : Depth) (turns : ℕ) (s : StateValue) (next end : ℤ) → IsProper d turns s → forget_beyond d (pushed s next end) ≡ s
forgotten-pushed d turns s next end proper =
    let e = ap (λ (d : Depth). d.integers) (proper-integer d turns s next proper).deep in
    forgotten-new d (with_new_integer s next) end (omega (arith, e)) ∙ forgotten-integer d turns s next proper

module _ (p : ProgramTree) (g : GraphValue) (code : List InstructionTree) where
  -- the test of a loop or of a choice, which has no value, or fails
  pub unless_faults : (c : BoolExpressionTree) (index number to : ℕ) (d : Depth) (turns : ℕ) (loops : List LoopCounter) (m s : StateValue)
      → slice_get code index ≡ Some (plain number d (Unless c to)) → forget_beyond d m ≡ s → IsProper d turns s → bool_value_in g.vertices c s ≡ None
      → Reaches p g code (At index loops m) (Ended s (Fault 401 number))
  unless_faults c index number to d turns loops m s at same proper e =
      by_step p g code (At index loops m) (Ended s (Fault 401 number)) (Ended s (Fault 401 number))
      (moves_on p g code (takes p g code index loops m (plain number d (Unless c to)) s at same)
      (ap (λ (o : Option Bool). after_unless o (index + 1) to loops number d s) e
      ∙ ap (λ (t : StateValue). Ended t (Fault 401 number)) (forgotten-all d s proper.deep))) here

  pub unless_chooses : (c : BoolExpressionTree) (index number to : ℕ) (d : Depth) (loops : List LoopCounter) (m s : StateValue) (b : Bool)
      → slice_get code index ≡ Some (plain number d (Unless c to)) → forget_beyond d m ≡ s → bool_value_in g.vertices c s ≡ Some b
      → Moves p g code (At index loops m) (At (if b then index + 1 else to) loops s)
  unless_chooses c index number to d loops m s b at same e =
      moves_on p g code (takes p g code index loops m (plain number d (Unless c to)) s at same)
      (ap (λ (o : Option Bool). after_unless o (index + 1) to loops number d s) e)

  -- at the head of `while`
  abbrev IsAtWhile : ℕ → List LoopCounter → Depth → ℕ → StateValue → Configuration → Type 0
  IsAtWhile index loops d n s c = (m : StateValue) × (forget_beyond d m ≡ s) × (c ≡ At index loops m)

  while_leads : (st : Stand) (index number back : ℕ) (d : Depth) (turns : ℕ) (loops : List LoopCounter) (c : Configuration)
      → slice_get code back ≡ Some (plain number d (Jump index)) → Follows p g code back loops d turns st c → LeadsOn p g code d turns (IsAtWhile index loops d 0) st c
  while_leads (Live u) index number back d turns loops c at f = (
    At index loops u,
    and_reaches p g code f.reaches
        (by_step p g code (At back loops f.there) (At index loops u) (At index loops u) (takes p g code back loops f.there (plain number d (Jump index)) u at f.same) here),
    (u, forgotten-all d u f.proper.deep, refl),
    f.proper,
  )
  while_leads (Over u end) index number back d turns loops c at f = f

  pub while_runs : (c : BoolExpressionTree) (block : StateValue → Stand) (index number back to : ℕ) (d e : Depth) (turns : ℕ) (loops : List LoopCounter) (m s : StateValue)
      → slice_get code index ≡ Some (plain number d (Unless c to)) → slice_get code (index + 1) ≡ Some (plain number d Turn) → slice_get code back ≡ Some (plain number d (Jump index))
      → IsWithin d e → ((n : ℕ) (t : StateValue) → IsProper d n t → Follows p g code back loops e n (block t) (At (index + 2) loops t))
      → forget_beyond d m ≡ s → IsProper d turns s → Follows p g code to loops d turns (after_while g.vertices number c block s) (At index loops m)
  while_runs c block index number back to d e turns loops m s at_test at_turn at_back within block_runs same proper =
      let st = after_while g.vertices number c block s in
      follows_more p g code st to loops d s.turns turns (At index loops m) proper.fewer
      (loop_runs p g code ℕ (while_test g.vertices c) (while_body block) (λ (n : ℕ). n) number to loops d (IsAtWhile index loops d) runs s.turns 0 s (At index loops m)
      (record { deep = proper.deep; sets = proper.sets; fewer = omega arith }) (m, same, refl))
    where
      chosen : (b : Bool) (t : StateValue) (x : Configuration) → IsAtWhile index loops d 0 t x → bool_value_in g.vertices c t ≡ Some b
          → Moves p g code x (At (if b then index + 1 else to) loops t)
      chosen b t x head e = moves_from p g code head.2 (unless_chooses c index number to d loops head.0 t b at_test head.1 e)

      turned : (t : StateValue) → depth_of t ≡ d → Moves p g code (At (index + 1) loops t) (after_turn t.turns (index + 2) loops d t)
      turned t deep =
          moves_on p g code (takes p g code (index + 1) loops t (plain number d Turn) t at_turn (forgotten-all d t deep)) (ap (λ (x : ℕ). after_turn t.turns x loops d t) (omega arith))

      runs : RunsLoop p g code ℕ (while_test g.vertices c) (while_body block) (λ (n : ℕ). n) number to loops d (IsAtWhile index loops d)
      runs = record {
        faults = λ a n t x q head e. subst (λ (y : Configuration). Reaches p g code y (Ended t (Fault 401 number))) (sym head.2)
            (unless_faults c index number to d n loops head.0 t at_test head.1 q e);
        stops = λ a n t x q head e. record {
          there = t;
          reaches = by_step p g code x (At to loops t) (At to loops t) (chosen false t x head e) here;
          same = forgotten-all d t q.deep;
          proper = q;
        };
        is_over = λ a n t x q head e none.
            by_step p g code x (At (index + 1) loops t) (Ended t TurnsOver) (chosen true t x head e)
            (by_step p g code (At (index + 1) loops t) (Ended t TurnsOver) (Ended t TurnsOver)
            (moves_on p g code (turned t q.deep) (ap (λ (y : ℕ). after_turn y (index + 2) loops d t) none ∙ ap (λ (u : StateValue). Ended u TurnsOver) (forgotten-all d t q.deep))) here);
        turn = λ a n t x q head holds k left.
            let u : StateValue = record t { turns = k } in
            let proper : IsProper d k u = record { deep = q.deep; sets = q.sets; fewer = omega arith } in
            leads_from p g code d k (IsAtWhile index loops d 0) (inside block u) x (At (index + 2) loops u)
            (by_step p g code x (At (index + 1) loops t) (At (index + 2) loops u) (chosen true t x head holds)
            (by_step p g code (At (index + 1) loops t) (At (index + 2) loops u) (At (index + 2) loops u)
            (moves_on p g code (turned t q.deep) (ap (λ (y : ℕ). after_turn y (index + 2) loops d t) left)) here))
            (while_leads (inside block u) index number back d k loops (At (index + 2) loops u) at_back
            (leaving p g code (block u) back loops d e k u (At (index + 2) loops u) q.deep within (block_runs k u proper)));
      }
