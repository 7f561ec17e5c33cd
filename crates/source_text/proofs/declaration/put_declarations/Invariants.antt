use Rattle.std.proofs.Common.{map}
use Rattle.syntax.specs.SourceSpelling.{each_before, declaration_before}
use Rattle.syntax.specs.SourceViews.{declaration_tree}
use Rattle.source_text.specs.inside.Written.{PutsUpTo}
use Rattle.source_text.proofs.declaration.put_declarations.Given as goal

abbrev pub invariant-declarations : goal.invariant-declarations
invariant-declarations l = PutsUpTo (each_before declaration_before (map declaration_tree l.declarations))
    (λ x. declaration_before (declaration_tree x)) l.declarations l.declaration-index l.fn.out.items l.out.items
