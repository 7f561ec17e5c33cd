-- Proofs of `main_function`, src/declaration.rt.
use Rattle.std.proofs.Common.{◌≡◌, ap, sym, subst, ◌∙◌, length, map, option_map}
use Rattle.syntax.specs.SourceViews.{block_tree as source_block, parameter_tree}
use Rattle.typed_tree.specs.BlockTree.{Empty, block_tree}
use Rattle.expression_types.specs.declared.scope.Entity.TheVariants as entity
use Rattle.expression_types.specs.Faults.{outcome, sure, ◌>>=◌}
use Rattle.expression_types.specs.ScopeTree.{left}
use Rattle.expression_types.proofs.Steps.{outcome_then}
use Rattle.types.specs.Block.{statements_typed}
use Rattle.initializer_types.specs.Views.{checker_of}
use Rattle.initializer_types.specs.Checker.{restarted, in_scope}
use Rattle.initializer_types.specs.DeclarationForms.{MainKind}
use Rattle.types.specs.Declaration.{declare_name, opened, with_main_block}
use Rattle.types.specs.inside.Declaration.{declared_of}
use Rattle.types.proofs.Kept.{left_again, keeps_on}
use Rattle.types.proofs.declaration.main_function.Goals as goal

pub returns : goal.returns
returns c =
    let d = declared_of c.args.declared.now in
    let scope = d.checker.scope in
    let fits = c.args.fits in
    let ps = map parameter_tree c.args.written.parameters.now in
    let r = option_map parameter_tree c.args.written.gives.now in
    let body = source_block c.args.written.body.now in
    let name = c.args.written.name.now in
    let inner = checker_of c.open.new.checker in
    let last = checker_of c.statements.new.checker in
    let b = block_tree c.in_ok-body.body.items in
    let e = declared_of c.name_is.new.declared in
    let kept = keeps_on scope c.open.new.checker.scope c.statements.new.checker.scope c.in_ok-open.ensures.kept c.in_ok-body.ensures.kept in
    let again = c.leave.ensures ∙ ap (λ m. left m c.statements.new.checker.scope) c.mark-mark.ensures.mark ∙ left_again scope c.statements.new.checker.scope kept in
    outcome_then c.args.declared.now.checker.first_fault c.open.new.checker.first_fault (opened (restarted d.checker) (MainKind fits) ps r) inner
    (λ k. statements_typed k Empty body >>= λ b. declare_name (record d { checker = in_scope b.1 scope }) name entity.Main >>= λ e. sure (with_main_block e fits b.0))
    (subst (λ n. outcome c.args.declared.now.checker.first_fault (opened (record d.checker { statements = n }) (MainKind fits) ps r) ≡ (inner, c.open.new.checker.first_fault))
    (ap length c.new.ensures.items) c.in_ok-open.ensures.opened)
    ∙ outcome_then c.open.new.checker.first_fault c.statements.new.checker.first_fault (statements_typed inner Empty body) (b, last)
    (λ b. declare_name (record d { checker = in_scope b.1 scope }) name entity.Main >>= λ e. sure (with_main_block e fits b.0)) c.in_ok-body.ensures.typed
    ∙ outcome_then c.statements.new.checker.first_fault c.name_is.new.declared.checker.first_fault (declare_name (record d { checker = in_scope last scope }) name entity.Main) e (λ e. sure (with_main_block e fits b))
    (subst (λ s. outcome c.statements.new.checker.first_fault (declare_name (record d { checker = in_scope last s }) name entity.Main) ≡ (e, c.name_is.new.declared.checker.first_fault)) again c.in_ok-name_is.ensures)
    ∙ (λ i. (sym c.keep_main.ensures.main i, sym c.keep_main.ensures.first_fault i))
