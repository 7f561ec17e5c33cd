-- Proofs of `reduce`, src/block.rt.
use Rattle.std.proofs.Common.{◌∙◌, ◌≡◌, ap, subst}
use Rattle.expression_types.specs.Expression.{used_name, value_of}
use Rattle.expression_types.specs.Faults.{◌>>=◌, outcome, sure}
use Rattle.expression_types.specs.ValueTree.{value_tree}
use Rattle.expression_types.proofs.Steps.{outcome_then}
use Rattle.initializer_types.specs.Views.{checker_of}
use Rattle.types.proofs.block.reduce.Goals as goal

pub returns-clause-typed : goal.returns-clause-typed
returns-clause-typed g c =
    let m = g.K.BlockKind.meaning in
    let checker = checker_of c.args.checker.now in
    let scope = checker.scope in
    let e = c.args.value.now in
    let by = c.args.by in
    let n = c.entity-entity.result in
    let v = value_tree c.in_ok-value.value in
    let a = m.action_tree c.reduction.result in
    let first = c.args.checker.now.first_fault in
    let between = c.entity-entity.new.first_fault in
    let new = c.reduction.new.first_fault in
    ap (outcome first) (g.met.K.BlockKind.walked.reduces checker c.args.name.now by e)
    ∙ outcome_then first new (used_name scope c.args.name.now >>= λ n. value_of scope c.args.name.now.at e >>= λ v. m.reduced c.args.name.now.at by v n) a (λ a. sure (a, checker))
    (subst (λ at. outcome first (used_name scope c.args.name.now >>= λ n. value_of scope at e >>= λ v. m.reduced at by v n) ≡ (a, new)) c.at-at.ensures
    (outcome_then first between (used_name scope c.args.name.now) n (λ n. value_of scope c.at-at.result e >>= λ v. m.reduced c.at-at.result by v n) c.entity-entity.ensures
    ∙ outcome_then between c.type_expression.new.first_fault (value_of scope c.at-at.result e) v (λ v. m.reduced c.at-at.result by v n) c.in_ok-value.ensures
    ∙ c.reduction.ensures))
