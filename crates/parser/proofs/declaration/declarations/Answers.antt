-- Proofs of `declarations`, src/declaration.rt.
use Rattle.std.proofs.Common.{sym, ◌∙◌}
use Rattle.std.proofs.lemmas.Result.{err_from_is_err_and}
use Rattle.parser.specs.inside.Readers.{terminals}
use Rattle.parser.proofs.Faults.{passed_on}
use Rattle.syntax.proofs.Loops.{goes_end, goes_fails}
use Rattle.syntax.specs.SourceViews.{declaration_tree}
use Rattle.parser.specs.inside.Views.{each}
use Rattle.parser.proofs.DeclarationLaws.{next_found, next_fails, next_none}
use Rattle.parser.proofs.Lists.{list_start, list_step}
use Rattle.parser.proofs.declaration.declarations.Goals as goal

pub declarations-init : goal.declarations-init
declarations-init c = list_start declaration_tree c.new-declarations.result.items (terminals c.args.cursor) c.new-declarations.ensures.items

pub declarations-preserved : goal.declarations-preserved
declarations-preserved c =
    list_step declaration_tree c.declarations.declarations.items _ c.in_ok-declaration.declaration (terminals c.in_ok-declaration.behind) c.in_ok-push.ensures.items c.declarations.invariant
    (next_found (terminals c.declarations.left) (terminals c.in_ok-declaration.behind) (declaration_tree c.in_ok-declaration.declaration)
    (sym c.begins_declaration.ensures ∙ c.declarations-test.true) c.in_ok-declaration.ensures.reads)
    c.in_ok-declaration.ensures.shorter

pub returns-in_err-declaration : goal.returns-in_err-declaration
returns-in_err-declaration c =
    let p = err_from_is_err_and c.from_residual.result c.from_residual.ensures.1 in
    rw (p.1, p.2) (passed_on declaration_tree (each declaration_tree) c.in_err-declaration.field-0.0 _ _ c.in_err-declaration.ensures.reads
    (λ none. goes_fails c.declarations.invariant (next_fails (terminals c.declarations.left) (sym c.begins_declaration.ensures ∙ c.declarations-test.true) none)))

pub returns : goal.returns
returns c = goes_end c.declarations.invariant (next_none (terminals c.declarations.left) (sym c.begins_declaration.ensures ∙ c.declarations-test.false))
