-- What is read of the text of a source.
use Rattle.std.specs.Prelude.{◌≡◌, ℕ, List, Result, Ok}
use Rattle.syntax.specs.Nesting.{limit, StaysWithin}
use Rattle.syntax.specs.SourceSpelling.{source_terminals}
use Rattle.syntax.specs.SourceTrees.{SourceTree}
use Rattle.parser.specs.declared.error.ParseError.{ParseError}
use Rattle.parser.specs.Outcome.{Parses}
use Rattle.source_text.specs.Bare.{bare_source}
use Rattle.source_text.specs.Text.{AreSpelled}

-- The source is one that a text can have: each of its terminals is one that some token is, and they nest within the limit.
pub record IsWritable (source : SourceTree) : Type 0 where
  pub spelled : AreSpelled (source_terminals source)
  pub within : StaysWithin limit 0 (source_terminals source)

-- two sources are the same, but for the offsets that are in them
abbrev pub AreSame : SourceTree → SourceTree → Type 0
AreSame source other = bare_source source ≡ bare_source other

-- the text is a source, it has no other answer, and that source is this one but for the offsets
pub record IsSourceReadBack (text : List ℕ) (source : SourceTree) : Type 0 where
  pub read : SourceTree
  pub is : Parses text (Ok read)
  pub only : (answer : Result SourceTree ParseError) → Parses text answer → answer ≡ Ok read
  pub same : AreSame read source
