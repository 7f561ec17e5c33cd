-- A job goes by its own steps alone.
use Rattle.std.proofs.Common.{◌≡◌, ℕ, ◌+◌, ◌==◌, Bool, true, false, cond, List, [], ◌∷◌, Option, Some, None, count_by, refl, sym, ap, ◌∙◌, subst, arith, inl, inr}
use Rattle.std.specs.Option.{IsSomeAnd}
use Rattle.std.proofs.lemmas.Bool.{cases_eq, eq-eqb, ne_eqb}
use Rattle.std.proofs.lemmas.List.Sums.{sum_by-cons}
use Rattle.flat_snapshot.specs.Digraph.{Digraph}
use Rattle.plans.specs.Machine.{Configuration, At, Ended, step, steps, first_configuration}
use Rattle.plans.specs.Plan.{plan_of}
use Rattle.algorithm_meaning.specs.Meaning.{initial_state}
use Rattle.run_state.specs.State.{graph_value}
use Rattle.runner.proofs.Running.{steps_more}
use Rattle.version_list.specs.Machine.{ticket_graph}
use Rattle.session.specs.declared.step.SessionStep.{SessionStep}
use Rattle.session.specs.declared.step.SessionStep.TheVariants.{Commit, Acquire, Release, Start, JobStep}
use Rattle.session.specs.World.{ScheduledProgram, WorldJob, World, index_after, job_index, one_more, after_its_step, nth_from_one, start, job_step, step_answer, world_after}
use Rattle.session.specs.Laws.{is_step_of, GoesOnAlone}
use Rattle.session.proofs.Numbered.{numbered_same, numbered_other, numbered_append}

-- so many instructions from an index on
abbrev on_from : ScheduledProgram → Digraph → (n : ℕ) → Configuration → Configuration
on_from p g n c = steps p.tree (graph_value g) (plan_of p.tree p.schedule) n c

-- so many instructions more
pub more_instructions : (p : ScheduledProgram) (g : Digraph) (turns m n : ℕ) → index_after p g turns (m + n) ≡ on_from p g n (index_after p g turns m)
more_instructions p g turns m n = steps_more p.tree (graph_value g) (plan_of p.tree p.schedule) m n (first_configuration (initial_state p.tree (graph_value g) turns))

-- a job that is left alone
pub stays_there : (job : WorldJob) → GoesOnAlone job 0 job
stays_there job =
    let same : job.count ≡ job.count + 0 = omega arith in
    record { program = refl; graph = refl; turns = refl; stands = ap (λ (n : ℕ). index_after job.program job.graph job.turns n) same }

-- a job after one step of its own, where it stands so
pub steps_once : (job : WorldJob) (c : Configuration) → job_index job ≡ c → GoesOnAlone job 1 (one_more c job)
steps_once job (At index loops s) is = record { program = refl; graph = refl; turns = refl; stands = refl }
steps_once job (Ended s end) is = record {
  program = refl;
  graph = refl;
  turns = refl;
  stands = is ∙ sym (more_instructions job.program job.graph job.turns job.count 1 ∙ ap (λ (c : Configuration). on_from job.program job.graph 1 c) is);
}

-- first so many instructions, and then so many more
pub goes_on_twice : (old mid new : WorldJob) (m n : ℕ) → GoesOnAlone old m mid → GoesOnAlone mid n new → GoesOnAlone old (m + n) new
goes_on_twice old mid new m n first second =
    let sum : old.count + m + n ≡ old.count + (m + n) = omega arith in
    record {
      program = second.program ∙ first.program;
      graph = second.graph ∙ first.graph;
      turns = second.turns ∙ first.turns;
      stands =
          second.stands ∙ more_instructions mid.program mid.graph mid.turns mid.count n
          ∙ ap (λ (p : ScheduledProgram). on_from p mid.graph n (job_index mid)) first.program
          ∙ ap (λ (g : Digraph). on_from old.program g n (job_index mid)) first.graph
          ∙ ap (λ (c : Configuration). on_from old.program old.graph n c) first.stands
          ∙ sym (more_instructions old.program old.graph old.turns (old.count + m) n)
          ∙ ap (λ (k : ℕ). index_after old.program old.graph old.turns k) sum;
    }

some_and : {A : Type 0} (P : A → Type 0) (o : Option A) (x : A) → o ≡ Some x → P x → IsSomeAnd o P
some_and P o x is h = subst (λ o. IsSomeAnd o P) (sym is) h

some_is : {A : Type 0} (o : Option A) (x y : A) → o ≡ Some x → o ≡ Some y → x ≡ y
some_is o x y is too = cc

none_is : {A : Type 0} (o : Option A) (x : A) → o ≡ None → o ≡ Some x → ⊥
none_is o x none is = cc

-- a start adds a job after the others
beside_a_start : (w : World) (turns number : ℕ) (program : Option ScheduledProgram) (graph : Option Digraph) (job : WorldJob) → nth_from_one w.jobs number ≡ Some job
    → nth_from_one (start w turns program graph).world.jobs number ≡ Some job
beside_a_start w turns number None graph job is = is
beside_a_start w turns number (Some program) None job is = is
beside_a_start w turns number (Some program) (Some graph) job is = numbered_append w.jobs _ number job is

-- a step of some job
at_a_job_step : (w : World) (stepped number : ℕ) (found : Option WorldJob) (job : WorldJob) → nth_from_one w.jobs stepped ≡ found → nth_from_one w.jobs number ≡ Some job
    → IsSomeAnd (nth_from_one (job_step w stepped found).world.jobs number) (GoesOnAlone job (cond (stepped == number) 1 0))
at_a_job_step w stepped number None job found is =
    elim (cases_eq stepped number) [
      | inl same ↦ absurd (none_is (nth_from_one w.jobs number) job (ap (nth_from_one w.jobs) (sym same) ∙ found) is)
      | inr apart ↦
          let no : (stepped == number) ≡ false = ne_eqb stepped number apart in
          subst (λ (b : Bool). IsSomeAnd (nth_from_one w.jobs number) (GoesOnAlone job (cond b 1 0))) (sym no) (some_and (GoesOnAlone job 0) _ job is (stays_there job))
    ]
at_a_job_step w stepped number (Some old) job found is =
    elim (cases_eq stepped number) [
      | inl same ↦
          let yes : (stepped == number) ≡ true = eq-eqb stepped number same in
          let this : job ≡ old = some_is (nth_from_one w.jobs number) job old is (ap (nth_from_one w.jobs) (sym same) ∙ found) in
          let there : nth_from_one (job_step w stepped (Some old)).world.jobs number ≡ Some (after_its_step old) =
          ap (nth_from_one (job_step w stepped (Some old)).world.jobs) (sym same) ∙ numbered_same w.jobs stepped old (after_its_step old) found in
          subst (λ (b : Bool). IsSomeAnd (nth_from_one (job_step w stepped (Some old)).world.jobs number) (GoesOnAlone job (cond b 1 0))) (sym yes)
          (some_and (GoesOnAlone job 1) _ (after_its_step old) there (subst (λ (j : WorldJob). GoesOnAlone j 1 (after_its_step old)) (sym this) (steps_once old (job_index old) refl)))
      | inr apart ↦
          let no : (stepped == number) ≡ false = ne_eqb stepped number apart in
          let there = numbered_other w.jobs stepped number (after_its_step old) apart ∙ is in
          subst (λ (b : Bool). IsSomeAnd (nth_from_one (job_step w stepped (Some old)).world.jobs number) (GoesOnAlone job (cond b 1 0))) (sym no)
          (some_and (GoesOnAlone job 0) _ job there (stays_there job))
    ]

-- one step, of this job or not
at_a_step : (programs : List ScheduledProgram) (w : World) (step : SessionStep) (number : ℕ) (job : WorldJob) → nth_from_one w.jobs number ≡ Some job
    → IsSomeAnd (nth_from_one (step_answer programs w step).world.jobs number) (GoesOnAlone job (cond (is_step_of number step) 1 0))
at_a_step programs w (Commit batch) number job is = some_and (GoesOnAlone job 0) _ job is (stays_there job)
at_a_step programs w (Acquire which) number job is = some_and (GoesOnAlone job 0) _ job is (stays_there job)
at_a_step programs w (Release ticket) number job is = some_and (GoesOnAlone job 0) _ job is (stays_there job)
at_a_step programs w (Start program ticket turns) number job is =
    some_and (GoesOnAlone job 0) _ job (beside_a_start w turns number (nth_from_one programs program) (ticket_graph w.versions ticket) job is) (stays_there job)
at_a_step programs w (JobStep stepped) number job is = at_a_job_step w stepped number (nth_from_one w.jobs stepped) job refl is

-- what was found under a number goes on from where it stands
goes_on_from : (old : WorldJob) (m n : ℕ) (next last : Option WorldJob) → IsSomeAnd next (GoesOnAlone old m) → ((mid : WorldJob) → next ≡ Some mid → IsSomeAnd last (GoesOnAlone mid n))
    → IsSomeAnd last (GoesOnAlone old (m + n))
goes_on_from old m n None last here later = absurd here
goes_on_from old m n (Some mid) None here later = later mid refl
goes_on_from old m n (Some mid) (Some new) here later = goes_on_twice old mid new m n here (later mid refl)

-- any steps
pub jobs_go_alone : (programs : List ScheduledProgram) (w : World) (steps : List SessionStep) (number : ℕ) (job : WorldJob) → nth_from_one w.jobs number ≡ Some job
    → IsSomeAnd (nth_from_one (world_after programs w steps).jobs number) (GoesOnAlone job (count_by (is_step_of number) steps))
jobs_go_alone programs w [] number job is = some_and (GoesOnAlone job 0) _ job is (stays_there job)
jobs_go_alone programs w (step ∷ rest) number job is =
    let all = goes_on_from job (cond (is_step_of number step) 1 0) (count_by (is_step_of number) rest) (nth_from_one (step_answer programs w step).world.jobs number)
    (nth_from_one (world_after programs (step_answer programs w step).world rest).jobs number)
    (at_a_step programs w step number job is) (λ mid found. jobs_go_alone programs (step_answer programs w step).world rest number mid found) in
    let sum : count_by (is_step_of number) (step ∷ rest) ≡ cond (is_step_of number step) 1 0 + count_by (is_step_of number) rest = sum_by-cons _ step rest in
    subst (λ (n : ℕ). IsSomeAnd (nth_from_one (world_after programs (step_answer programs w step).world rest).jobs number) (GoesOnAlone job n)) (sym sum) all
