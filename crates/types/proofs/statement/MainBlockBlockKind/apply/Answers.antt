-- Proofs of `apply` of `main`, src/statement.rt.
use Rattle.std.proofs.Common.{◌≡◌, ap, subst, sym, ◌∙◌}
use Rattle.syntax.specs.SourceViews.{ends_tree}
use Rattle.typed_tree.specs.BlockTree.{statement_kind_tree}
use Rattle.expression_types.specs.Faults.{outcome, sure}
use Rattle.expression_types.proofs.Steps.{outcome_then}
use Rattle.types.specs.Statement.{applied, apply, has_ends}
use Rattle.initializer_types.specs.Applies.{named_apply_tree}
use Rattle.initializer_types.proofs.Applies.{apply_then}
use Rattle.initializer_types.specs.Views.{checker_of}
use Rattle.types.proofs.statement.MainBlockBlockKind.apply.Goals as goal

pub returns-clause-typed : goal.returns-clause-typed
returns-clause-typed c =
    let checker = checker_of c.args.checker.now in
    let scope = checker.scope in
    let at = c.at-at.result in
    let ends = ends_tree c.args.ends.now in
    let a = named_apply_tree c.read_apply-apply.result in
    let new = c.read_apply-apply.new.first_fault in
    outcome_then c.args.checker.now.first_fault c.apply_to.new.first_fault (apply scope c.args.target.now.at c.args.target.now ends c.args.function.now) (statement_kind_tree c.apply_to.result)
    (λ a. sure (a, checker))
    (subst (λ at. outcome c.args.checker.now.first_fault (apply scope at c.args.target.now ends c.args.function.now) ≡ (statement_kind_tree c.apply_to.result, c.apply_to.new.first_fault)) c.at-at.ensures
    (apply_then scope c.args.target.now ends c.args.function.now c.args.checker.now.first_fault new a (λ a. applied at a.target a.from a.to (has_ends ends) a.function) c.read_apply-apply.ensures
    ∙ ap (λ h. outcome new (applied at a.target a.from a.to h a.function)) (sym c.has_ends.ensures) ∙ c.apply_to.ensures))
