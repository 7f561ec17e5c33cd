-- What the jobs of a session are, and what they show, is said by the world.
use Rattle.std.proofs.Common.{◌≡◌, ℕ, suc, List, [], ◌∷◌, Option, Some, None, count_by, refl, sym, ap, ◌∙◌, subst, arith}
use Rattle.std.specs.Prelude.{All}
use Rattle.std.specs.Option.{IsSomeAnd}
use Rattle.algorithm_meaning.specs.declared.outcome.End.{End}
use Rattle.flat_snapshot.specs.Digraph.{Digraph}
use Rattle.plans.specs.declared.plan.Plan.{Plan}
use Rattle.plans.specs.Machine.{Configuration, At, Ended}
use Rattle.plans.specs.PlanOf.{IsCompiled, program_of}
use Rattle.run_state.specs.State.{graph_value}
use Rattle.runner.specs.declared.job.Stand.TheVariants as stand
use Rattle.runner.specs.Job.{stand_of}
use Rattle.runner.specs.Resting.{JobValue, job_value, resting}
use Rattle.runner.proofs.Partners.{HasPartner}
use Rattle.runner.proofs.Resting.{outcome_resting}
use Rattle.runner.proofs.Running.{HasEnded, means}
use Rattle.session.specs.declared.step.SessionStep.{SessionStep}
use Rattle.session.specs.World.{ScheduledProgram, WorldJob, World, job_index, nth_from_one, world_after}
use Rattle.session.specs.Standing.{SessionValue, IsPlanOf, StandsAt, IsAt}
use Rattle.session.specs.Laws.{is_step_of, GoesOnAlone, RunsAlone, shown_at, ShowsItsOwnRun, HasPrograms}
use Rattle.session.proofs.Alone.{jobs_go_alone}
use Rattle.session.proofs.Attempting.{numbered_job, stand_resting}

-- what goes on alone in the world goes on alone in the session
runs_as_there : (old : WorldJob) (more : ℕ) (found : Option WorldJob) (here : Option JobValue) → IsSomeAnd found (GoesOnAlone old more)
    → ((job : WorldJob) → found ≡ Some job → HasPartner (λ job j. StandsAt j job) job here)
    → IsSomeAnd here (RunsAlone old more)
runs_as_there old more None here goes stands = absurd goes
runs_as_there old more (Some job) here goes stands =
    let partner = stands job refl in
    let j = partner.partner in
    let at = partner.related in
    subst (λ (o : Option JobValue). IsSomeAnd o (RunsAlone old more)) (sym partner.is_there) (record {
      plan = subst (λ (p : ScheduledProgram). IsPlanOf j.plan p) goes.program at.plan;
      is =
          at.is ∙ ap (λ (g : Digraph). job_value j.plan g job.turns (job_index job)) goes.graph
          ∙ ap (λ (n : ℕ). job_value j.plan old.graph n (job_index job)) goes.turns
          ∙ ap (λ (c : Configuration). job_value j.plan old.graph old.turns c) goes.stands;
    })

pub jobs_run_alone : (programs : List ScheduledProgram) (w : World) (steps : List SessionStep) (s : SessionValue) (number : ℕ) (job : WorldJob) → nth_from_one w.jobs number ≡ Some job
    → IsAt programs (world_after programs w steps) s
    → IsSomeAnd (nth_from_one s.jobs number) (RunsAlone job (count_by (is_step_of number) steps))
jobs_run_alone programs w steps s number job is at =
    let after = world_after programs w steps in
    runs_as_there job (count_by (is_step_of number) steps) (nth_from_one after.jobs number) (nth_from_one s.jobs number) (jobs_go_alone programs w steps number job is)
    (λ there found. numbered_job s.jobs after.jobs number there at.jobs found)

-- an index that shows an end is an end
ends : (c : Configuration) (end : End) → stand_of c ≡ stand.Ended end → HasEnded c
ends (At index loops s) end is = let bad : stand.Going ≡ stand.Ended end = is in cc
ends (Ended s e) end is = tt

pub shows_its_own_run : (j : JobValue) (job : WorldJob) → StandsAt j job → ShowsItsOwnRun job j
shows_its_own_run j job at =
    let p = job.program.tree in
    let schedule = job.program.schedule in
    let stands : j.stands ≡ resting j.plan.instructions.items (job_index job) = ap (λ (v : JobValue). v.stands) at.is in
    let shown : shown_at job j.stands ≡ shown_at job (job_index job) = ap (shown_at job) stands ∙ outcome_resting p job.turns j.plan schedule at.plan.planned (job_index job) in
    record {
      so_far = shown;
      at_end = λ end is.
          let here : stand_of (job_index job) ≡ stand.Ended end = sym (stand_resting j.plan.instructions.items (job_index job)) ∙ ap stand_of (sym stands) ∙ is in
          shown ∙ means p schedule (graph_value job.graph) job.turns (job_index job) (record { count = job.count; is = refl }) (ends (job_index job) end here);
    }

-- compiled plans are plans of their programs
pub have_programs : (plans : List Plan) → All IsCompiled plans → HasPrograms plans
have_programs [] all = record { programs = []; are = tt }
have_programs (plan ∷ plans) all =
    let one : IsCompiled plan = all 0 plan (omega arith) in
    let rest = have_programs plans (λ k d within. all (suc k) d (omega arith)) in
    record {
      programs = record { tree = program_of plan; schedule = one.schedule } ∷ rest.programs;
      are = (record { planned = one.planned; reducing = one.reducing }, rest.are);
    }
