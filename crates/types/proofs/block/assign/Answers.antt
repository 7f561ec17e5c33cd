-- Proofs of `assign`, src/block.rt.
use Rattle.std.proofs.Common.{◌∙◌, ◌≡◌, ap, subst, sym}
use Rattle.syntax.specs.SourceViews.{initial_tree}
use Rattle.expression_types.specs.Expression.{used_name}
use Rattle.expression_types.specs.Faults.{◌>>=◌, outcome, sure}
use Rattle.expression_types.proofs.Steps.{outcome_then}
use Rattle.initializer_types.specs.Initial.{initializer_of}
use Rattle.initializer_types.specs.Views.{checker_of, initializer_tree}
use Rattle.types.proofs.Kept.{keeps_same}
use Rattle.types.proofs.block.assign.Goals as goal

pub returns-clause-typed : goal.returns-clause-typed
returns-clause-typed g c =
    let m = g.K.BlockKind.meaning in
    let checker = checker_of c.args.checker.now in
    let initial = initial_tree c.args.initial.now in
    let e = c.entity-entity.result in
    let i = initializer_tree c.in_ok-initializer.initializer in
    let a = m.action_tree c.assignment.result in
    let first = c.args.checker.now.first_fault in
    let between = c.entity-entity.new.first_fault in
    let new = c.assignment.new.first_fault in
    ap (outcome first) (g.met.K.BlockKind.walked.assigns checker c.args.name.now initial)
    ∙ outcome_then first new (used_name checker.scope c.args.name.now >>= λ e. initializer_of checker c.args.name.now.at initial >>= λ i. m.assigned c.args.name.now.at i e) a
    (λ a. sure (a, checker))
    (subst (λ at. outcome first (used_name checker.scope c.args.name.now >>= λ e. initializer_of checker at initial >>= λ i. m.assigned at i e) ≡ (a, new)) c.at-at.ensures
    (outcome_then first between (used_name checker.scope c.args.name.now) e (λ e. initializer_of checker c.at-at.result initial >>= λ i. m.assigned c.at-at.result i e) c.entity-entity.ensures
    ∙ outcome_then between c.read_initial.new.checker.first_fault (initializer_of checker c.at-at.result initial) i (λ i. m.assigned c.at-at.result i e) c.in_ok-initializer.ensures.read
    ∙ c.assignment.ensures))
    ∙ (λ j. ((a, sym c.in_ok-initializer.ensures.kept j), new))

pub returns-clause-kept : goal.returns-clause-kept
returns-clause-kept g c = keeps_same c.args.checker.now.scope c.read_initial.new.checker.scope (ap (λ c. c.scope) c.in_ok-initializer.ensures.kept)
