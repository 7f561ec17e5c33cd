-- Proofs of `put_declarations`, src/declaration.rt.
use Rattle.std.proofs.Common.{map}
use Rattle.syntax.specs.SourceSpelling.{each_before, declaration_before}
use Rattle.syntax.specs.SourceViews.{declaration_tree}
use Rattle.source_text.proofs.Puts.{up_to_none, up_to_more, up_to_all, each_before-map}
use Rattle.source_text.proofs.declaration.put_declarations.Goals as goal

pub declarations-init : goal.declarations-init
declarations-init c =
    up_to_none (each_before declaration_before (map declaration_tree c.args.declarations.now)) (λ x. declaration_before (declaration_tree x)) c.args.declarations.now c.args.out.now.items
    (each_before-map declaration_tree declaration_before c.args.declarations.now)

pub declarations-preserved : goal.declarations-preserved
declarations-preserved c =
    up_to_more _ (λ x. declaration_before
    (declaration_tree x)) c.args.declarations.now c.declarations.declaration-index c.declaration-item.result c.declaration-item.result c.args.out.now.items c.declarations.out.items
    c.put_declaration.new.out.items
    c.declarations.invariant c.declarations-test.true c.declaration-item.is c.in_ok-put_declaration.ensures

pub returns : goal.returns
returns c =
    up_to_all _ (λ x. declaration_before
    (declaration_tree x)) c.args.declarations.now c.declarations.declaration-index c.args.out.now.items c.declarations.out.items c.declarations.invariant c.declarations-test.false
