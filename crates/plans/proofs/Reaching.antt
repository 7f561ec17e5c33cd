-- The steps of the machine, one after the other.
use Rattle.std.proofs.Common.{◌≡◌, ℕ, zero, suc, ◌+◌, ◌<◌, ◌≤◌, ℤ, Bool, true, false, List, [], ◌∷◌, length, Option, Some, None, slice_get, ap, sym, ◌∙◌, refl, arith, subst}
use Rattle.std.proofs.lemmas.List.{take-append-le}
use Rattle.typed_tree.specs.BlockTree.{SimpleStatementTree, Simple}
use Rattle.typed_tree.specs.ProgramTree.{ProgramTree}
use Rattle.algorithm_meaning.specs.declared.outcome.End.TheVariants.{TurnsOver, Fault}
use Rattle.algorithm_meaning.specs.State.{GraphValue, StateValue}
use Rattle.algorithm_meaning.specs.Stand.{Stand, Live, Over, then_do, with_value, choose}
use Rattle.algorithm_meaning.specs.Statements.{with_new_integer}
use Rattle.algorithm_meaning.specs.Loop.{depth_of, leave, take_turn, loop, forget_beyond}
use Rattle.algorithm_meaning.specs.Meaning.{after_simple}
use Rattle.apply_options.specs.declared.apply_schedule.ApplySchedule.{ApplySchedule}
use Rattle.algorithm_meaning.specs.declared.state.LoopCounter.{LoopCounter}
use Rattle.algorithm_meaning.specs.declared.state.Depth.{Depth}
use Rattle.plans.specs.Instruction.{Do, Jump, InstructionTree}
use Rattle.plans.specs.inside.Plan.{IsWithin}
use Rattle.plans.specs.Plan.{depth_after, loop_step}
use Rattle.plans.specs.Machine.{Configuration, At, Ended, go_on, act, act_at, step}
use Rattle.plans.specs.RunLaws.{GoesOn}
use Rattle.plans.proofs.Depths.{forgotten-all, forgotten-less}
use Rattle.plans.proofs.Proper.{IsProper, Leaves, simple-leaves, proper-forgotten}

pub proper_more : (d : Depth) (m n : ℕ) (s : StateValue) → m ≤ n → IsProper d m s → IsProper d n s
proper_more d m n s h proper = record { deep = proper.deep; sets = proper.sets; fewer = omega (arith, h, proper.fewer) }

-- a new variable is beyond this
pub forgotten-new : (d : Depth) (s : StateValue) (n : ℤ) → d.integers ≤ length s.scope.integers → forget_beyond d (with_new_integer s n) ≡ forget_beyond d s
forgotten-new d s n h = λ i. record (forget_beyond d s) {
  scope = record (forget_beyond d s).scope { integers = take-append-le d.integers s.scope.integers (n ∷ []) h i };
}

pub is_inside : (code : List InstructionTree) (index : ℕ) (i : InstructionTree) → slice_get code index ≡ Some i → index < length code
is_inside [] index i h = let bad : None ≡ Some i = h in cc
is_inside (x ∷ xs) zero i h = omega arith
is_inside (x ∷ xs) (suc n) i h = let within = is_inside xs n i h in omega (arith, within)

module _ (p : ProgramTree) (g : GraphValue) (code : List InstructionTree) where
  -- the machine goes from one configuration to another
  pub data Reaches : Configuration → Configuration → Type 0 where
    here : {c : Configuration} → Reaches c c
    next : {c d : Configuration} → GoesOn code c → Reaches (step p g code c) d → Reaches c d

  pub and_reaches : {a b c : Configuration} → Reaches a b → Reaches b c → Reaches a c
  and_reaches here r = r
  and_reaches (next h q) r = next h (and_reaches q r)

  -- one step, from a configuration that has a next one
  pub record Moves (c d : Configuration) : Type 0 where
    pub goes_on : GoesOn code c
    pub leads : step p g code c ≡ d

  pub moves_on : {c d e : Configuration} → Moves c d → d ≡ e → Moves c e
  moves_on m h = record { goes_on = m.goes_on; leads = m.leads ∙ h }

  pub moves_from : {b c d : Configuration} → b ≡ c → Moves c d → Moves b d
  moves_from h m = record { goes_on = subst (GoesOn code) (sym h) m.goes_on; leads = ap (step p g code) h ∙ m.leads }

  pub by_step : (c d e : Configuration) → Moves c d → Reaches d e → Reaches c e
  by_step c d e h r = next h.goes_on (subst (λ (x : Configuration). Reaches x e) (sym h.leads) r)

  -- it comes to an index with a state that is, without what is beyond a depth, this one
  pub record Lands (to : ℕ) (loops : List LoopCounter) (d : Depth) (turns : ℕ) (s : StateValue) (c : Configuration) : Type 0 where
    pub there : StateValue
    pub reaches : Reaches c (At to loops there)
    pub same : forget_beyond d there ≡ s
    pub proper : IsProper d turns s

  -- it comes to where the program stands
  abbrev pub Follows : (to : ℕ) → List LoopCounter → Depth → (turns : ℕ) → Stand → Configuration → Type 0
  Follows to loops d turns (Live s) c = Lands to loops d turns s c
  Follows to loops d turns (Over s end) c = Reaches c (Ended s end)

  pub follows_from : (st : Stand) (to : ℕ) (loops : List LoopCounter) (d : Depth) (turns : ℕ) (c c' : Configuration) → Reaches c c' → Follows to loops d turns st c' → Follows to loops d turns st c
  follows_from (Live s) to loops d turns c c' r f = record { there = f.there; reaches = and_reaches r f.reaches; same = f.same; proper = f.proper }
  follows_from (Over s end) to loops d turns c c' r f = and_reaches r f

  pub follows_more : (st : Stand) (to : ℕ) (loops : List LoopCounter) (d : Depth) (m n : ℕ) (c : Configuration) → m ≤ n → Follows to loops d m st c → Follows to loops d n st c
  follows_more (Live s) to loops d m n c h f = record { there = f.there; reaches = f.reaches; same = f.same; proper = proper_more d m n s h f.proper }
  follows_more (Over s end) to loops d m n c h f = f

  -- one instruction
  pub takes : (index : ℕ) (loops : List LoopCounter) (m : StateValue) (i : InstructionTree) (s : StateValue) → slice_get code index ≡ Some i → forget_beyond i.keep m ≡ s
      → Moves (At index loops m) (act p g i.operation i.number i.shown index loops s)
  takes index loops m i s h e =
      record {
        goes_on = is_inside code index i h;
        leads = ap (λ (o : Option InstructionTree). act_at p g o index loops m) h ∙ ap (λ (t : StateValue). act p g i.operation i.number i.shown index loops t) e;
      }

  simple_stands : (st : Stand) (to : ℕ) (loops : List LoopCounter) (d e : Depth) (turns : ℕ) (c : Configuration) → Leaves d e turns st
      → Moves c (go_on to loops d st) → Follows to loops e turns st c
  simple_stands (Live t) to loops d e turns c leaves h =
      record { there = t; reaches = by_step c (At to loops t) (At to loops t) h here; same = forgotten-all e t leaves.deep; proper = leaves }
  simple_stands (Over t end) to loops d e turns c leaves h =
      by_step c (Ended t end) (Ended t end) (moves_on h (ap (λ (u : StateValue). Ended u end) (forgotten-all d t leaves))) here

  -- a statement without a block
  pub simple_runs : (a : SimpleStatementTree) (index number : ℕ) (apply_schedule : ApplySchedule) (d : Depth) (turns : ℕ) (loops : List LoopCounter) (m s : StateValue)
      → slice_get code index ≡ Some (record { number = number; keep = d; shown = d; apply_schedule = apply_schedule; operation = Do a })
      → forget_beyond d m ≡ s → IsProper d turns s → Follows (index + 1) loops (depth_after (Simple a) d) turns (after_simple p g number a s) (At index loops m)
  simple_runs a index number apply_schedule d turns loops m s at same proper =
      simple_stands (after_simple p g number a s) (index + 1) loops d (depth_after (Simple a) d) turns (At index loops m) (simple-leaves p g number d turns s proper a)
      (takes index loops m (record { number = number; keep = d; shown = d; apply_schedule = apply_schedule; operation = Do a }) s at same)

  -- a block is left
  pub leaving : (st : Stand) (to : ℕ) (loops : List LoopCounter) (d e : Depth) (turns : ℕ) (s : StateValue) (c : Configuration) → depth_of s ≡ d → IsWithin d e
      → Follows to loops e turns st c → Follows to loops d turns (leave (depth_of s) st) c
  leaving (Live t) to loops d e turns s c deep within f = record {
    there = f.there;
    reaches = f.reaches;
    same = sym (forgotten-less d e f.there within) ∙ ap (forget_beyond d) f.same ∙ ap (λ (x : Depth). forget_beyond x t) (sym deep);
    proper = subst (λ (x : Depth). IsProper d turns (forget_beyond x t)) (sym deep) (proper-forgotten d e turns t within f.proper);
  }
  leaving (Over t end) to loops d e turns s c deep within f = f

  -- a jump after it
  pub jumps : (st : Stand) (at to : ℕ) (loops : List LoopCounter) (d shown : Depth) (turns number : ℕ) (c : Configuration) → slice_get code at ≡ Some (loop_step number d shown (Jump to))
      → Follows at loops d turns st c → Follows to loops d turns st c
  jumps (Live s) at to loops d shown turns number c h f = record {
    there = s;
    reaches = and_reaches f.reaches (by_step (At at loops f.there) (At to loops s) (At to loops s) (takes at loops f.there (loop_step number d shown (Jump to)) s h f.same) here);
    same = forgotten-all d s f.proper.deep;
    proper = f.proper;
  }
  jumps (Over s end) at to loops d shown turns number c h f = f

  -- the same index under another name
  pub lands_at : (st : Stand) (a b : ℕ) (loops : List LoopCounter) (d : Depth) (turns : ℕ) (c : Configuration) → a ≡ b → Follows a loops d turns st c → Follows b loops d turns st c
  lands_at st a b loops d turns c e f = subst (λ (x : ℕ). Follows x loops d turns st c) e f

  -- what a turn of a loop leads to: the head of the loop again, or the end of the run
  abbrev pub LeadsOn : (d : Depth) → (turns : ℕ) → (StateValue → Configuration → Type 0) → Stand → Configuration → Type 0
  LeadsOn d turns IsHead (Live u) c = (c' : Configuration) × Reaches c c' × IsHead u c' × IsProper d turns u
  LeadsOn d turns IsHead (Over u end) c = Reaches c (Ended u end)

  pub leads_from : (d : Depth) (turns : ℕ) (IsHead : StateValue → Configuration → Type 0) (st : Stand) (c c' : Configuration) → Reaches c c' → LeadsOn d turns IsHead st c'
      → LeadsOn d turns IsHead st c
  leads_from d turns IsHead (Live u) c c' r on = (on.0, and_reaches r on.1, on.2, on.3)
  leads_from d turns IsHead (Over u end) c c' r on = and_reaches r on

  -- what the machine does at the head of a loop
  pub record RunsLoop (A : Type 0) (test : A → StateValue → Option Bool) (body : A → StateValue → Stand) (following : A → A) (number to : ℕ) (loops : List LoopCounter) (d : Depth)
      (IsHead : A → StateValue → Configuration → Type 0) : Type 0 where
    pub faults : (a : A) (turns : ℕ) (s : StateValue) (c : Configuration) → IsProper d turns s → IsHead a s c → test a s ≡ None → Reaches c (Ended s (Fault 401 number))
    pub stops : (a : A) (turns : ℕ) (s : StateValue) (c : Configuration) → IsProper d turns s → IsHead a s c → test a s ≡ Some false → Lands to loops d turns s c
    pub is_over : (a : A) (turns : ℕ) (s : StateValue) (c : Configuration) → IsProper d turns s → IsHead a s c → test a s ≡ Some true → s.turns ≡ 0 → Reaches c (Ended s TurnsOver)
    pub turn : (a : A) (turns : ℕ) (s : StateValue) (c : Configuration) → IsProper d turns s → IsHead a s c → test a s ≡ Some true → (n : ℕ) → s.turns ≡ suc n
        → LeadsOn d n (IsHead (following a)) (body a (record s { turns = n })) c

  module _ (A : Type 0) (test : A → StateValue → Option Bool) (body : A → StateValue → Stand) (following : A → A) (number to : ℕ) (loops : List LoopCounter) (d : Depth)
      (IsHead : A → StateValue → Configuration → Type 0) (runs : RunsLoop A test body following number to loops d IsHead) where
    at_end : (a : A) (s : StateValue) (c : Configuration) (o : Option Bool) → test a s ≡ o → IsProper d 0 s → IsHead a s c
        → Follows to loops d 0 (with_value o number s (λ b. choose b (Over s TurnsOver) (Live s))) c
    at_end a s c None e proper head = runs.faults a 0 s c proper head e
    at_end a s c (Some false) e proper head = runs.stops a 0 s c proper head e
    at_end a s c (Some true) e proper head = runs.is_over a 0 s c proper head e (omega (arith, proper.fewer))

    after_body : (a : A) (n k : ℕ) (c : Configuration) (st : Stand) → n ≤ k
        → ((s : StateValue) (c : Configuration) → IsProper d k s → IsHead (following a) s c → Follows to loops d k (loop test body following number k (following a) s) c)
        → LeadsOn d n (IsHead (following a)) st c → Follows to loops d (suc k) (then_do st (loop test body following number k (following a))) c
    after_body a n k c (Live u) h again on =
        let st = loop test body following number k (following a) u in
        follows_more st to loops d k (suc k) c (omega arith) (follows_from st to loops d k c on.0 on.1 (again u on.0 (proper_more d n k u h on.3) on.2))
    after_body a n k c (Over u end) h again on = on

    one_turn : (a : A) (s : StateValue) (k : ℕ) (c : Configuration) (n : ℕ) → s.turns ≡ n → test a s ≡ Some true → IsProper d (suc k) s → IsHead a s c
        → ((s : StateValue) (c : Configuration) → IsProper d k s → IsHead (following a) s c → Follows to loops d k (loop test body following number k (following a) s) c)
        → Follows to loops d (suc k) (take_turn n s (λ t. then_do (body a t) (loop test body following number k (following a)))) c
    one_turn a s k c zero left e proper head again = runs.is_over a (suc k) s c proper head e left
    one_turn a s k c (suc n) left e proper head again =
        after_body a n k c (body a (record s { turns = n })) (omega (arith, left, proper.fewer)) again (runs.turn a (suc k) s c proper head e n left)

    at_test : (a : A) (s : StateValue) (k : ℕ) (c : Configuration) (o : Option Bool) → test a s ≡ o → IsProper d (suc k) s → IsHead a s c
        → ((s : StateValue) (c : Configuration) → IsProper d k s → IsHead (following a) s c → Follows to loops d k (loop test body following number k (following a) s) c)
        → Follows to loops d (suc k) (with_value o number s (λ b. choose b (take_turn s.turns s (λ t. then_do (body a t) (loop test body following number k (following a)))) (Live s))) c
    at_test a s k c None e proper head again = runs.faults a (suc k) s c proper head e
    at_test a s k c (Some false) e proper head again = runs.stops a (suc k) s c proper head e
    at_test a s k c (Some true) e proper head again = one_turn a s k c s.turns refl e proper head again

    pub loop_runs : (k : ℕ) (a : A) (s : StateValue) (c : Configuration) → IsProper d k s → IsHead a s c → Follows to loops d k (loop test body following number k a s) c
    loop_runs zero a s c proper head = at_end a s c (test a s) refl proper head
    loop_runs (suc k) a s c proper head = at_test a s k c (test a s) refl proper head (λ t e q h. loop_runs k (following a) t e q h)
