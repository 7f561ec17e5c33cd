-- Proofs of `run_for_edge`, src/edge_apply.rt.
use Rattle.std.proofs.Common.{rules, ap, ◌∙◌, ℤ, List, FitsSigned, w64}
use Rattle.std.proofs.lemmas.Int.{to_z-of_z}
use Rattle.typed_tree.specs.FunctionStatementTree.{function_statements_tree}
use Rattle.algorithm_meaning.specs.declared.contribution.Writing.TheVariants.{Collected}
use Rattle.algorithm_meaning.specs.Function.{WorkValue, after_steps, first_work}
use Rattle.algorithm_meaning.specs.State.{edge_scope}
use Rattle.plain_run.specs.inside.Seen.{work_of}
use Rattle.plain_run.proofs.Works.{collected_steps}
use Rattle.algorithm_meaning.specs.declared.contribution.Contribution.{Contribution}
use Rattle.algorithm_meaning.specs.EdgeApply.{with_given}
use Rattle.plain_run.proofs.edge_apply.run_for_edge.Goals as goal

pub returns-clause-after : goal.returns-clause-after
returns-clause-after c =
    let e = c.args.edge in
    let fits : FitsSigned w64 e.2 = search rules in
    let begun = c.begin.ensures c.args.before.now.items ∙ ap (λ (w : ℤ). first_work c.args.before.now.items (edge_scope (e.0, e.1, w))) (to_z-of_z w64 e.2 fits) in
    let given = ap (λ (w : WorkValue). w.given) (c.in_ok-run_steps.ensures ∙ ap (after_steps Collected c.args.sets.now (function_statements_tree c.args.steps.now)) begun) in
    c.put_given.ensures ∙ ap (λ (g : List Contribution). with_given c.args.edge.1 g c.args.after.now.items) (c.deref.ensures.value ∙ given)

pub returns-clause-before : goal.returns-clause-before
returns-clause-before c =
    ap (λ (w : WorkValue). w.vectors) c.in_ok-run_steps.ensures
    ∙ collected_steps c.args.sets.now (function_statements_tree c.args.steps.now) (work_of c.args.before.now.items c.begin.new.frame)
