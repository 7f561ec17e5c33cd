use Rattle.std.proofs.Common.{length, map}
use Rattle.parser.specs.inside.Readers.{terminals}
use Rattle.syntax.proofs.Loops.{Goes}
use Rattle.syntax.specs.SourceReading.{next_declaration}
use Rattle.syntax.specs.SourceViews.{declaration_tree}
use Rattle.parser.proofs.declaration.declarations.Given as goal

abbrev pub invariant-declarations : goal.invariant-declarations
invariant-declarations l = Goes next_declaration (terminals l.cursor) (map declaration_tree l.declarations.items) (terminals l.left)

abbrev pub decreases-declarations : goal.decreases-declarations
decreases-declarations l = length (terminals l.left)
