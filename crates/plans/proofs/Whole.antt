-- Whole runs of plans.
use Rattle.std.proofs.Common.{◌≡◌, ℕ, zero, suc, ◌+◌, false, List, [], ◌∷◌, length, map, Some, slice_get, ap, sym, refl, arith, subst}
use Rattle.typed_tree.specs.ProgramTree.{ProgramTree}
use Rattle.algorithm_meaning.specs.declared.outcome.End.TheVariants.{Finished}
use Rattle.algorithm_meaning.specs.State.{GraphValue, StateValue}
use Rattle.algorithm_meaning.specs.Value.{members_of}
use Rattle.algorithm_meaning.specs.Stand.{Stand, Live, Over}
use Rattle.algorithm_meaning.specs.Meaning.{after_all, initial_state, full_set, outcome_of, meaning}
use Rattle.apply_options.specs.ScheduleTree.{ScheduleTree}
use Rattle.algorithm_meaning.specs.declared.state.Depth.{Depth}
use Rattle.plans.specs.Instruction.{End, InstructionTree}
use Rattle.plans.specs.Plan.{depth_after_all, main_depth, plain, size_all, plan_all, plan_of}
use Rattle.plans.specs.Machine.{Configuration, At, Ended, first_configuration, finish}
use Rattle.plans.specs.RunLaws.{Shows, RunsAs, StepsLowerTheBound}
use Rattle.plans.proofs.Depths.{forgotten-all}
use Rattle.plans.proofs.Ascending.{AscendsFrom, ascends_range}
use Rattle.plans.proofs.Proper.{IsProper}
use Rattle.plans.proofs.Indices.{has_front, has_behind, has_all, length-plan_all}
use Rattle.plans.proofs.Reaching.{Reaches, here, and_reaches, by_step, moves_on, Follows, takes}
use Rattle.plans.proofs.Runs.{block_runs}
use Rattle.plans.proofs.Pairs.{company_is_good}
use Rattle.plans.proofs.Targets.{plan_leads}
use Rattle.plans.proofs.Falls.{step_falls}
use Rattle.plans.proofs.Counting.{takes_steps}

length-all_vertices : (g : GraphValue) (sets : List ℕ) → length (map (full_set g) sets) ≡ length sets
length-all_vertices g [] = refl
length-all_vertices g (x ∷ xs) = ap suc (length-all_vertices g xs)

constant_sets_ascend : (g : GraphValue) (sets : List ℕ) (index : ℕ) → AscendsFrom 0 (members_of (slice_get (map (full_set g) sets) index))
constant_sets_ascend g [] index = tt
constant_sets_ascend g (x ∷ xs) zero = ascends_range 0 g.vertices
constant_sets_ascend g (x ∷ xs) (suc n) = constant_sets_ascend g xs n

initial_state-proper : (p : ProgramTree) (g : GraphValue) (turns : ℕ) → IsProper (main_depth p) turns (initial_state p g turns)
initial_state-proper p g turns = record {
  deep = λ i. record { integers = 0; conditions = 0; sets = length-all_vertices g p.sets i };
  sets = constant_sets_ascend g p.sets;
  fewer = omega arith;
}

-- the last instruction
comes_to_end : (p : ProgramTree) (g : GraphValue) (code : List InstructionTree) (st : Stand) (to : ℕ) (d : Depth) (turns : ℕ) (c : Configuration) → slice_get code to ≡ Some (plain 0 d End)
    → Follows p g code to [] d turns st c → Reaches p g code c (finish st)
comes_to_end p g code (Live s) to d turns c at f =
    and_reaches p g code f.reaches
    (by_step p g code (At to [] f.there) (Ended s Finished) (Ended s Finished)
    (moves_on p g code (takes p g code to [] f.there (plain 0 d End) s at f.same) (ap (λ (t : StateValue). Ended t Finished) (forgotten-all d s f.proper.deep))) here)
comes_to_end p g code (Over s end) to d turns c at f = f

reaches_end : (p : ProgramTree) (schedule : ScheduleTree) (g : GraphValue) (turns : ℕ)
    → Reaches p g (plan_of p schedule) (first_configuration (initial_state p g turns)) (finish (after_all p g p.main (initial_state p g turns)))
reaches_end p schedule g turns =
    let code = plan_of p schedule in
    let d = main_depth p in
    let s = initial_state p g turns in
    let main = plan_all p schedule 0 d false p.main in
    let to = size_all p schedule d false p.main in
    let last = plain 0 (depth_after_all p.main d) End ∷ [] in
    let stands = has_all code [] in
    let q = initial_state-proper p g turns in
    comes_to_end p g code (after_all p g p.main s) (0 + to) (depth_after_all p.main d) turns (At 0 [] s)
    (has_behind code 0 to (0 + to) main last (length-plan_all p schedule p.main 0 d false) refl stands).0
    (block_runs p g schedule code (company_is_good p g schedule) p.main false 0 d turns [] s s (has_front code 0 main last stands) (forgotten-all d s q.deep) q)

shows_meaning : (p : ProgramTree) (turns : ℕ) (st : Stand) → Shows p turns (finish st) (outcome_of p turns st)
shows_meaning p turns (Live s) = refl
shows_meaning p turns (Over s end) = refl

pub steps_lower : (p : ProgramTree) (schedule : ScheduleTree) (g : GraphValue) → StepsLowerTheBound p g (plan_of p schedule)
steps_lower p schedule g = step_falls p g (plan_of p schedule) (plan_leads p schedule)

pub runs_as : (p : ProgramTree) (schedule : ScheduleTree) (g : GraphValue) (turns : ℕ) → RunsAs p g turns (plan_of p schedule)
runs_as p schedule g turns =
    let t = takes_steps p g (plan_of p schedule) (steps_lower p schedule g) (first_configuration (initial_state p g turns)) (finish (after_all p g p.main (initial_state p g turns)))
    (reaches_end p schedule g turns) in
    record {
      count = t.count;
      within = t.within;
      ends = t.ends;
      means = subst (λ (c : Configuration). Shows p turns c (meaning p g turns)) (sym t.ends) (shows_meaning p turns (after_all p g p.main (initial_state p g turns)));
      goes_on = t.goes_on;
    }
