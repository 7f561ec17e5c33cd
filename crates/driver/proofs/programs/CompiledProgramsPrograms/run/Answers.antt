-- Proofs of `run`, src/programs.rt.
use Rattle.std.proofs.Common.{◌≡◌, ◌∙◌, ◌<◌, sym, subst, length, ℕ}
use Rattle.std.specs.Arc.{arc_value}
use Rattle.std.proofs.lemmas.List.{get_or_read, length-map}
use Rattle.std.proofs.lemmas.Option.{same_Some}
use Rattle.algorithm_meaning.specs.ProgramTree.{ProgramTree}
use Rattle.scripts.specs.Replies.{meaning_on}
use Rattle.driver.specs.Reading.{tree_of}
use Rattle.driver.proofs.Records.{follows, is_record_of_program, value_at}
use Rattle.driver.proofs.Workers.{counted_workers}
use Rattle.driver.proofs.programs.CompiledProgramsPrograms.run.Goals as goal

pub by-requires : goal.by-requires
by-requires g c =
    let plans = c.args.self.now.plans.items in
    let here = c.index.result.now in
    let below : c.args.index < length plans = subst (λ (n : ℕ). c.args.index < n) (length-map plans tree_of) c.requires.index in
    let at = value_at (λ p. arc_value p.plan) plans c.args.index here below (sym (get_or_read plans c.args.index here below c.index.ensures here)) in
    c.requires.ready.0 _ _ (counted_workers c.args.workers c.requires.workers)
    (follows plans c.args.index (arc_value here.plan) (arc_value c.args.graph.now) at c.args.former c.former_of-former.result c.former_of-former.ensures c.requires.former)

-- the program of the plan at the index is the one that is told of
pub returns-clause-outcome : goal.returns-clause-outcome
returns-clause-outcome g c program is =
    let plans = c.args.self.now.plans.items in
    let here = c.index.result.now in
    let below : c.args.index < length plans = subst (λ (n : ℕ). c.args.index < n) (length-map plans tree_of) c.requires.index in
    let at = value_at tree_of plans c.args.index here below (sym (get_or_read plans c.args.index here below c.index.ensures here)) in
    let shows = c.requires.ready.1 _ _ _ c.in_ok-outcome.ensures in
    subst (λ (p : ProgramTree). c.in_ok-outcome.field-0.outcome ≡ meaning_on (arc_value c.args.graph.now) p c.args.turns) (same_Some (tree_of here) program (sym at ∙ is)) (shows.shows here.compiled)

pub returns-clause-kept : goal.returns-clause-kept
returns-clause-kept g c =
    let plans = c.args.self.now.plans.items in
    let here = c.index.result.now in
    let below : c.args.index < length plans = subst (λ (n : ℕ). c.args.index < n) (length-map plans tree_of) c.requires.index in
    let at = value_at (λ p. arc_value p.plan) plans c.args.index here below (sym (get_or_read plans c.args.index here below c.index.ensures here)) in
    let shows = c.requires.ready.1 _ _ _ c.in_ok-outcome.ensures in
    is_record_of_program plans c.args.index (arc_value here.plan) (arc_value c.args.graph.now) at c.in_ok-outcome.field-0.run_record shows.kept
