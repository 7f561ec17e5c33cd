-- Proofs of `declare_initialized`, src/block.rt.
use Rattle.std.proofs.Common.{◌≡◌, ap, subst, ◌∙◌}
use Rattle.expression_types.specs.Faults.{outcome, sure}
use Rattle.expression_types.specs.ScopeTree.{KeepsNames}
use Rattle.expression_types.proofs.Steps.{outcome_then}
use Rattle.initializer_types.specs.Checker.{declared_in}
use Rattle.types.specs.inside.BlockMeaning.{visible_then}
use Rattle.initializer_types.specs.Views.{checker_of, initializer_tree}
use Rattle.types.proofs.block.declare_initialized.Goals as goal

pub returns-clause-typed : goal.returns-clause-typed
returns-clause-typed g c =
    let m = g.K.BlockKind.meaning in
    let checker = checker_of c.args.checker.now in
    let name = c.args.variable.now.name in
    let v = c.variable-entity.result in
    let a = m.action_tree v.1 in
    let between = c.variable-entity.new.checker.first_fault in
    let last = c.declare.new.checker in
    outcome_then c.args.checker.now.first_fault between (m.variable_as checker c.args.at (initializer_tree c.args.initializer) c.args.variable.now.declared) (v.0, a)
    (visible_then checker name) c.variable-entity.ensures.typed
    ∙ outcome_then between last.first_fault (declared_in checker name v.0) (checker_of last) (λ d. sure (a, d))
    (subst (λ d. outcome between (declared_in d name v.0) ≡ (checker_of last, last.first_fault)) c.variable-entity.ensures.kept c.in_ok-declare.ensures.declared)

pub returns-clause-kept : goal.returns-clause-kept
returns-clause-kept g c =
    subst (λ scope. KeepsNames scope c.declare.new.checker.scope) (ap (λ c. c.scope) c.variable-entity.ensures.kept) c.in_ok-declare.ensures.kept
