-- What parsing a text answers, from what reading its terminals gives.
use Rattle.std.proofs.Common.{◌≡◌, sym, ◌∙◌, ap, subst, ℕ, List, Some, None}
use Rattle.lexer.specs.declared.token.Token.{Token}
use Rattle.lexer.specs.Tokens.{HasTokens}
use Rattle.syntax.specs.Terminals.{Terminal, terminals_of}
use Rattle.syntax.specs.SourceTrees.{SourceTree}
use Rattle.syntax.specs.SourceSpelling.{source_terminals}
use Rattle.syntax.specs.Nesting.{limit, StaysWithin}
use Rattle.syntax.specs.SourceReading.{source_at}
use Rattle.syntax.proofs.SourcesExact.{sources_sound, sources_complete}
use Rattle.parser.specs.Outcome.{IsSource, IsNoSource, IsPlaceOf}

read_again : (ws : List Terminal) (source : SourceTree) → StaysWithin limit 0 ws → ws ≡ source_terminals source → source_at ws ≡ Some source
read_again ws source within is = ap source_at is ∙ sources_complete source (subst (StaysWithin limit 0) is within)

pub is_source : (text : List ℕ) (tokens : List Token) (source : SourceTree) → HasTokens text tokens → StaysWithin limit 0 (terminals_of text tokens)
    → source_at (terminals_of text tokens) ≡ Some source → IsSource text source
is_source text tokens source reads within is = record {
  tokens = tokens;
  reads = reads;
  within = within;
  spelled = sources_sound (terminals_of text tokens) source is;
  only = λ other spelled. let e : Some other ≡ Some source = sym (read_again (terminals_of text tokens) other within spelled) ∙ is in cc;
}

pub is_no_source : (text : List ℕ) (tokens : List Token) (at : ℕ) → HasTokens text tokens → StaysWithin limit 0 (terminals_of text tokens)
    → source_at (terminals_of text tokens) ≡ None → IsPlaceOf text tokens at → IsNoSource text at
is_no_source text tokens at reads within is place = record {
  tokens = tokens;
  reads = reads;
  within = within;
  none = λ source spelled. let e : Some source ≡ None = sym (read_again (terminals_of text tokens) source within spelled) ∙ is in cc;
  place = place;
}
