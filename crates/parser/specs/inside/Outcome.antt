-- Beside `Outcome`: definitions that no public contract cites.
use Rattle.std.specs.Prelude.{◌≡◌, Option, Some, None, Result, Ok, Err}
use Rattle.syntax.specs.declared.declaration.Source.{Source}
use Rattle.syntax.specs.SourceTrees.{SourceTree}
use Rattle.syntax.specs.SourceViews.{source_tree}
use Rattle.parser.specs.declared.syntax_error.SyntaxError.{SyntaxError}
use Rattle.parser.specs.declared.syntax_error.SyntaxError.TheVariants as syntax

-- the source is what the reading function gives
abbrev pub GivesSource : Result Source SyntaxError → Option SourceTree → Type 0
GivesSource (Ok source) read = read ≡ Some (source_tree source)
GivesSource (Err (syntax.Unexpected left)) read = read ≡ None
GivesSource (Err syntax.NoMemory) read = Unit {0}
