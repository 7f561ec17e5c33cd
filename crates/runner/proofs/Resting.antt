-- What holds where a job rests holds where it stands.
use Rattle.std.proofs.Common.{◌≡◌, ℕ, zero, suc, ◌+◌, List, Option, Some, None, slice_get, refl, sym, ap, ◌∙◌, subst}
use Rattle.algorithm_meaning.specs.declared.outcome.End.TheVariants.{TurnsOver}
use Rattle.algorithm_meaning.specs.declared.outcome.End.{End as Ending}
use Rattle.algorithm_meaning.specs.Meaning.{initial_state, meaning, shown}
use Rattle.algorithm_meaning.specs.State.{GraphValue, StateValue}
use Rattle.apply_options.specs.ScheduleTree.{ScheduleTree}
use Rattle.algorithm_meaning.specs.declared.state.LoopCounter.{LoopCounter}
use Rattle.algorithm_meaning.specs.declared.state.Depth.{Depth}
use Rattle.plans.specs.declared.instruction.Instruction.{Instruction}
use Rattle.plans.specs.declared.plan.Plan.{Plan}
use Rattle.plans.specs.Instruction.{InstructionTree}
use Rattle.algorithm_meaning.specs.Loop.{forget_beyond}
use Rattle.plans.specs.Machine.{Configuration, At, Ended, act, act_at, first_configuration, step, steps}
use Rattle.plans.specs.Operation.{IsInstruction}
use Rattle.plans.specs.inside.Plan.{IsWithin}
use Rattle.plans.specs.Plan.{plan_of}
use Rattle.plans.specs.PlanOf.{IsPlan}
use Rattle.plans.proofs.Depths.{forgotten-less}
use Rattle.plans.proofs.ShownDepths.{shows_within}
use Rattle.runner.specs.Position.{outcome_so_far, shown_where}
use Rattle.runner.specs.inside.Position.{RestsLater, position}
use Rattle.runner.specs.Job.{stand_of}
use Rattle.runner.specs.declared.job.Stand.TheVariants as stand
use Rattle.runner.specs.Resting.{HasStepped, JobValue, job_value, kept_at, resting}
use Rattle.runner.proofs.Kept.{forgotten_twice}
use Rattle.runner.proofs.Partners.{partner_at}
use Rattle.runner.proofs.Running.{HasEnded, IsReached, means, steps_more}
use Rattle.run_state.specs.State.{graph_value}
use Rattle.typed_tree.specs.ProgramTree.{ProgramTree}

-- what rests at an index is what stands there, where a fact of both holds at each instruction
at_index : (P : Configuration → Type 0) (is : List Instruction) (index : ℕ) (loops : List LoopCounter) (s : StateValue) (o : Option Instruction) → slice_get is index ≡ o
    → P (At index loops s) → ((i : Instruction) → slice_get is index ≡ Some i → P (At index loops (forget_beyond i.keep s))) → P (kept_at o index loops s)
at_index P is index loops s None found here there = here
at_index P is index loops s (Some i) found here there = there i found

pub step_resting : (p : ProgramTree) (g : GraphValue) (plan : Plan) (schedule : ScheduleTree) → IsPlan plan p schedule → (c : Configuration)
    → step p g (plan_of p schedule) (resting plan.instructions.items c) ≡ step p g (plan_of p schedule) c
step_resting p g plan schedule planned (At index loops s) =
    let code = plan_of p schedule in
    let is = plan.instructions.items in
    at_index (λ (c : Configuration). step p g code c ≡ step p g code (At index loops s)) is index loops s (slice_get is index) refl refl (λ i found.
    let partner = partner_at IsInstruction is code index i planned.instructions found in
    let t = partner.partner in
    let kept : forget_beyond t.keep (forget_beyond i.keep s) ≡ forget_beyond t.keep s =
    ap (λ (d : Depth). forget_beyond t.keep (forget_beyond d s)) partner.related.keep ∙ forgotten_twice t.keep s in
    ap (λ (o : Option InstructionTree). act_at p g o index loops (forget_beyond i.keep s)) partner.is_there
    ∙ (ap (λ (u : StateValue). act p g t.operation t.number t.shown index loops u) kept
    ∙ sym (ap (λ (o : Option InstructionTree). act_at p g o index loops s) partner.is_there)))
step_resting p g plan schedule planned (Ended s end) = refl

-- a job shows where it rests what it shows where it stands
pub outcome_resting : (p : ProgramTree) (turns : ℕ) (plan : Plan) (schedule : ScheduleTree) → IsPlan plan p schedule → (c : Configuration)
    → outcome_so_far p turns (plan_of p schedule) (resting plan.instructions.items c) ≡ outcome_so_far p turns (plan_of p schedule) c
outcome_resting p turns plan schedule planned (At index loops s) =
    let code = plan_of p schedule in
    let is = plan.instructions.items in
    at_index (λ (c : Configuration). outcome_so_far p turns code c ≡ outcome_so_far p turns code (At index loops s)) is index loops s (slice_get is index) refl refl (λ i found.
    let partner = partner_at IsInstruction is code index i planned.instructions found in
    let t = partner.partner in
    let within : IsWithin t.shown i.keep = subst (IsWithin t.shown) (sym partner.related.keep) (shows_within p schedule index t partner.is_there) in
    ap (λ (o : Option InstructionTree). shown_where p turns o (forget_beyond i.keep s)) partner.is_there
    ∙ (ap (λ (u : StateValue). shown p turns u TurnsOver) (forgotten-less t.shown i.keep s within)
    ∙ sym (ap (λ (o : Option InstructionTree). shown_where p turns o s) partner.is_there)))
outcome_resting p turns plan schedule planned (Ended s end) = refl

-- what rests stays at rest
pub resting_twice : (is : List Instruction) (c : Configuration) → resting is (resting is c) ≡ resting is c
resting_twice is (At index loops s) =
    at_index (λ (c : Configuration). resting is c ≡ kept_at (slice_get is index) index loops s) is index loops s (slice_get is index) refl refl (λ i found.
    ap (λ (o : Option Instruction). kept_at o index loops (forget_beyond i.keep s)) found
    ∙ (ap (λ (u : StateValue). At index loops u) (forgotten_twice i.keep s)
    ∙ sym (ap (λ (o : Option Instruction). kept_at o index loops s) found)))
resting_twice is (Ended s end) = refl

-- steps from where a run rests lead to where steps from where it stands lead
pub steps_resting : (p : ProgramTree) (g : GraphValue) (plan : Plan) (schedule : ScheduleTree) → IsPlan plan p schedule → (n : ℕ) (c : Configuration)
    → resting plan.instructions.items (steps p g (plan_of p schedule) n (resting plan.instructions.items c))
    ≡ resting plan.instructions.items (steps p g (plan_of p schedule) n c)
steps_resting p g plan schedule planned zero c = resting_twice plan.instructions.items c
steps_resting p g plan schedule planned (suc n) c =
    ap (λ (d : Configuration). resting plan.instructions.items (steps p g (plan_of p schedule) n d)) (step_resting p g plan schedule planned c)

no_end_kept : (o : Option Instruction) (index : ℕ) (loops : List LoopCounter) (s : StateValue) → HasEnded (kept_at o index loops s) → ⊥
no_end_kept None index loops s end = end
no_end_kept (Some i) index loops s end = end

-- a run that rests at an end has ended
ended_at_rest : (is : List Instruction) (c : Configuration) → HasEnded (resting is c) → HasEnded c
ended_at_rest is (At index loops s) end = no_end_kept (slice_get is index) index loops s end
ended_at_rest is (Ended s e) end = tt

-- a run rests where its machine does if it stands there
pub rests_later : (plan : Plan) (p : ProgramTree) (s : ScheduleTree) (g : GraphValue) (first c : Configuration) → IsReached p g (plan_of p s) first c → RestsLater plan p s g first c
rests_later plan p s g first c r = record { count = r.count; is = ap (resting plan.instructions.items) r.is }

-- a run that has ended shows what the program means, if it rests where the machine does
pub means_at_rest : (p : ProgramTree) (s : ScheduleTree) (plan : Plan) (g : GraphValue) (turns : ℕ) (first c : Configuration) → IsPlan plan p s
    → first ≡ first_configuration (initial_state p g turns) → RestsLater plan p s g first c → HasEnded c
    → outcome_so_far p turns (plan_of p s) c ≡ meaning p g turns
means_at_rest p s plan g turns first (At index loops t) planned is r end = absurd end
means_at_rest p s plan g turns first (Ended t e) planned is r end =
    let code = plan_of p s in
    let last = steps p g code r.count first in
    ap (outcome_so_far p turns code) r.is
    ∙ (outcome_resting p turns plan s planned last
    ∙ means p s g turns last (record { count = r.count; is = ap (steps p g code r.count) is }) (ended_at_rest plan.instructions.items last (subst HasEnded r.is tt)))

-- a run that has ended rests at its end
pub stand_at_end : (is : List Instruction) (end : Option Ending) (e : Ending) (index : ℕ) (loops : List LoopCounter) (s : StateValue) → end ≡ Some e
    → stand_of (resting is (position end index loops s)) ≡ stand.Ended e
stand_at_end is end e index loops s ended = ap (λ (o : Option Ending). stand_of (resting is (position o index loops s))) ended

-- some number of steps, and then some more
pub stepped_twice : (p : ProgramTree) (s : ScheduleTree) (old mid new : JobValue) → IsPlan old.plan p s → HasStepped p s old mid → HasStepped p s mid new → HasStepped p s old new
stepped_twice p s old mid new planned first second =
    let g = graph_value old.graph in
    let code = plan_of p s in
    let there = steps p g code first.count old.stands in
    let value : Configuration → JobValue = λ c. record { plan = old.plan; graph = old.graph; turns = old.turns; stands = c } in
    record {
      count = first.count + second.count;
      is =
          second.is ∙ ap (λ (j : JobValue). job_value j.plan j.graph j.turns (steps p (graph_value j.graph) code second.count j.stands)) first.is
          ∙ ap value (steps_resting p g old.plan s planned second.count there)
          ∙ ap (λ (c : Configuration). value (resting old.plan.instructions.items c)) (sym (steps_more p g code first.count second.count old.stands));
    }
