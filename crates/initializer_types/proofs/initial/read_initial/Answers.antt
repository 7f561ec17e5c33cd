-- Proofs of `read_initial`, src/initial.rt.
use Rattle.std.proofs.Common.{ap, ◌∙◌}
use Rattle.syntax.specs.SourceViews.{ends_tree, initial_tree}
use Rattle.expression_types.specs.Expression.{used_name}
use Rattle.expression_types.specs.Faults.{outcome, ◌>>=◌}
use Rattle.expression_types.proofs.Steps.{outcome_then}
use Rattle.initializer_types.specs.Views.{checker_of}
use Rattle.initializer_types.specs.Initial.{filtered_set, initializer_of, initial_modified}
use Rattle.initializer_types.specs.Applies.{named_apply_tree}
use Rattle.initializer_types.proofs.Applies.{apply_then}
use Rattle.initializer_types.proofs.initial.read_initial.Goals as goal

pub returns-in-Filter-clause-read : goal.returns-in-Filter-clause-read
returns-in-Filter-clause-read c =
    let checker = checker_of c.args.checker.now in
    let at = c.args.at in
    let s = c.entity-set.result in
    ap (λ i. outcome c.args.checker.now.first_fault (initializer_of checker at (initial_tree i))) c.in-Filter.is
    ∙ outcome_then c.args.checker.now.first_fault c.entity-set.new.first_fault (used_name checker.scope c.in-Filter.set) s
    (λ s. used_name checker.scope c.in-Filter.test >>= λ f. filtered_set at s f) c.entity-set.ensures
    ∙ outcome_then c.entity-set.new.first_fault c.entity-test.new.first_fault (used_name checker.scope c.in-Filter.test) c.entity-test.result (filtered_set at s) c.entity-test.ensures
    ∙ c.filter.ensures

pub returns-in-ApplyModified-clause-read : goal.returns-in-ApplyModified-clause-read
returns-in-ApplyModified-clause-read c =
    let checker = checker_of c.args.checker.now in
    let scope = checker.scope in
    let at = c.args.at in
    let written = c.in-ApplyModified in
    let apply = named_apply_tree c.read_apply-apply.result in
    ap (λ i. outcome c.args.checker.now.first_fault (initializer_of checker at (initial_tree i))) written.is
    ∙ apply_then scope written.edges (ends_tree written.ends) written.function c.args.checker.now.first_fault c.read_apply-apply.new.first_fault apply
    (λ a. used_name scope written.vector >>= λ v. initial_modified checker at a.target a.from a.to a.function v) c.read_apply-apply.ensures
    ∙ outcome_then c.read_apply-apply.new.first_fault c.entity-vector.new.first_fault (used_name scope written.vector) c.entity-vector.result
    (initial_modified checker at apply.target apply.from apply.to apply.function) c.entity-vector.ensures
    ∙ c.modified.ensures.modified
