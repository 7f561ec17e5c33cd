-- How runs of plans go on and end.
use Rattle.std.proofs.Common.{◌≡◌, ℕ, zero, suc, ◌+◌, ◌-◌, ◌<◌, ◌≤◌, ◌⊎◌, true, false, List, [], Option, Some, None, refl, sym, ap, ◌∙◌, subst, arith, inl, inr}
use Rattle.std.specs.Option.{is_some}
use Rattle.std.proofs.lemmas.Bool.{cases_lt}
use Rattle.flat_snapshot.specs.Digraph.{Digraph}
use Rattle.typed_tree.specs.declared.program.Vector.{Vector}
use Rattle.typed_tree.specs.ProgramTree.{ProgramTree}
use Rattle.algorithm_meaning.specs.declared.outcome.End.{End as Ending}
use Rattle.algorithm_meaning.specs.declared.outcome.Outcome.{Outcome}
use Rattle.algorithm_meaning.specs.State.{GraphValue, StateValue}
use Rattle.algorithm_meaning.specs.Meaning.{initial_state, meaning}
use Rattle.apply_options.specs.ScheduleTree.{ScheduleTree}
use Rattle.plans.specs.Instruction.{InstructionTree}
use Rattle.plans.specs.Machine.{Configuration, At, Ended, step, steps, first_configuration}
use Rattle.plans.specs.Plan.{plan_of}
use Rattle.plans.specs.RunLaws.{GoesOn, Shows, RunsAs}
use Rattle.plans.proofs.Whole.{runs_as}
use Rattle.algorithm_meaning.specs.declared.state.LoopCounter.{LoopCounter}
use Rattle.run_state.specs.State.{graph_value, opened}
use Rattle.runner.specs.Position.{outcome_so_far}
use Rattle.runner.specs.inside.Position.{position}

module _ (p : ProgramTree) (g : GraphValue) (plan : List InstructionTree) where
  -- one step more
  pub steps_next : (k : ℕ) (c : Configuration) → steps p g plan (suc k) c ≡ step p g plan (steps p g plan k c)
  steps_next zero c = refl
  steps_next (suc k) c = steps_next k (step p g plan c)

  -- so many steps more
  pub steps_more : (m n : ℕ) (c : Configuration) → steps p g plan (m + n) c ≡ steps p g plan n (steps p g plan m c)
  steps_more zero n c =
      let same : zero + n ≡ n = omega arith in
      ap (λ (k : ℕ). steps p g plan k c) same
  steps_more (suc m) n c =
      let same : suc m + n ≡ suc (m + n) = omega arith in
      ap (λ (k : ℕ). steps p g plan k c) same ∙ steps_more m n (step p g plan c)

  -- a run that has ended stays
  pub stays : (n : ℕ) (s : StateValue) (end : Ending) → steps p g plan n (Ended s end) ≡ Ended s end
  stays zero s end = refl
  stays (suc n) s end = stays n s end

-- a run has ended
abbrev pub HasEnded : Configuration → Type 0
HasEnded (At index loops s) = ⊥
HasEnded (Ended s end) = Unit {0}

no_end : (plan : List InstructionTree) (c : Configuration) → HasEnded c → GoesOn plan c → ⊥
no_end plan (At index loops s) end on = end
no_end plan (Ended s e) end on = on

shows_later : (p : ProgramTree) (g : GraphValue) (plan : List InstructionTree) (turns n : ℕ) (c : Configuration) (o : Outcome) → Shows p turns c o → Shows p turns (steps p g plan n c) o
shows_later p g plan turns n (At index loops s) o is = absurd is
shows_later p g plan turns n (Ended s end) o is = subst (λ d. Shows p turns d o) (sym (stays p g plan n s end)) is

-- a run that has ended has done all its steps
all_done : (p : ProgramTree) (s : ScheduleTree) (g : GraphValue) (turns k : ℕ) (r : RunsAs p g turns (plan_of p s))
    → HasEnded (steps p g (plan_of p s) k (first_configuration (initial_state p g turns))) → (k < r.count) ⊎ (r.count ≤ k)
    → Shows p turns (steps p g (plan_of p s) k (first_configuration (initial_state p g turns))) (meaning p g turns)
all_done p s g turns k r end (inl early) =
    absurd (no_end (plan_of p s) (steps p g (plan_of p s) k (first_configuration (initial_state p g turns))) end (r.goes_on k early))
all_done p s g turns k r end (inr late) =
    let first = first_configuration (initial_state p g turns) in
    let plan = plan_of p s in
    let same : r.count + (k - r.count) ≡ k = omega (arith, late) in
    subst (λ (n : ℕ). Shows p turns (steps p g plan n first) (meaning p g turns)) same
    (subst (λ (d : Configuration). Shows p turns d (meaning p g turns)) (sym (steps_more p g plan r.count (k - r.count) first))
    (shows_later p g plan turns (k - r.count) (steps p g plan r.count first) (meaning p g turns) r.means))

-- a run of a plan that has ended shows what the program means, after however many steps
pub shows_the_meaning : (p : ProgramTree) (s : ScheduleTree) (g : GraphValue) (turns k : ℕ)
    → HasEnded (steps p g (plan_of p s) k (first_configuration (initial_state p g turns)))
    → Shows p turns (steps p g (plan_of p s) k (first_configuration (initial_state p g turns))) (meaning p g turns)
shows_the_meaning p s g turns k end =
    let r = runs_as p s g turns in
    all_done p s g turns k r end (cases_lt k r.count)

-- a run gets from the first configuration to the other by some number of steps
pub record IsReached (p : ProgramTree) (g : GraphValue) (plan : List InstructionTree) (first c : Configuration) : Type 0 where
  pub count : ℕ
  pub is : c ≡ steps p g plan count first

pub reached_itself : (p : ProgramTree) (g : GraphValue) (plan : List InstructionTree) (c : Configuration) → IsReached p g plan c c
reached_itself p g plan c = record { count = 0; is = refl }

pub reached_next : (p : ProgramTree) (g : GraphValue) (plan : List InstructionTree) (first c next : Configuration) → IsReached p g plan first c → next ≡ step p g plan c
    → IsReached p g plan first next
reached_next p g plan first c next r is = record { count = suc r.count; is = is ∙ ap (step p g plan) r.is ∙ sym (steps_next p g plan r.count first) }

shows_so : (p : ProgramTree) (plan : List InstructionTree) (turns : ℕ) (c : Configuration) (o : Outcome) → Shows p turns c o → outcome_so_far p turns plan c ≡ o
shows_so p plan turns (At index loops s) o is = absurd is
shows_so p plan turns (Ended s end) o is = is

-- a run that has ended shows what the program means
pub means : (p : ProgramTree) (s : ScheduleTree) (g : GraphValue) (turns : ℕ) (c : Configuration) → IsReached p g (plan_of p s) (first_configuration (initial_state p g turns)) c → HasEnded c
    → outcome_so_far p turns (plan_of p s) c ≡ meaning p g turns
means p s g turns c r end =
    let there = shows_the_meaning p s g turns r.count (subst HasEnded r.is end) in
    shows_so p (plan_of p s) turns c (meaning p g turns) (subst (λ (d : Configuration). Shows p turns d (meaning p g turns)) (sym r.is) there)

pub has_ended : (end : Option Ending) (index : ℕ) (loops : List LoopCounter) (s : StateValue) → is_some end ≡ true → HasEnded (position end index loops s)
has_ended None index loops s is = let bad : true ≡ false = sym is in cc
has_ended (Some end) index loops s is = tt

pub goes_on : (end : Option Ending) → is_some end ≡ false → end ≡ None
goes_on None is = refl
goes_on (Some end) is = let bad : true ≡ false = is in cc

-- a run begins where the machine begins
pub opens : (d : Digraph) (vectors : List Vector) (sets : List ℕ) (turns : ℕ) (p : ProgramTree) → vectors ≡ p.vectors → sets ≡ p.sets
    → At 0 [] (opened d vectors sets turns) ≡ first_configuration (initial_state p (graph_value d) turns)
opens d vectors sets turns p same_vectors same_sets = λ i. At 0 [] (opened d (same_vectors i) (same_sets i) turns)
