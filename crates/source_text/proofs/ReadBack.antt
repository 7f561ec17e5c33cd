-- What is written of a source is read as that source.
use Rattle.std.proofs.Common.{◌≡◌, ℕ, ◌≤◌, List, [], ◌∷◌, map, Result, Ok, Err, refl, sym, ◌∙◌, ap, subst}
use Rattle.syntax.specs.Terminals.{Terminal, Name, Number, Label, Text, LeadingKeyword, OfKeyword, OfSymbol, terminals_of}
use Rattle.syntax.specs.Nesting.{limit, nesting_after, StaysWithin}
use Rattle.syntax.specs.SourceSpelling.{source_terminals}
use Rattle.syntax.specs.SourceTrees.{SourceTree}
use Rattle.syntax.proofs.SourcesExact.{one_source}
use Rattle.parser.specs.declared.error.ParseError.{ParseError}
use Rattle.parser.specs.declared.error.ParseError.TheVariants.{Unexpected}
use Rattle.parser.specs.Outcome.{Parses, without_place}
use Rattle.parser.proofs.AnswerLaws.{one_answer}
use Rattle.source_text.specs.Text.{text_of, bare, AreAlike, AreSpelled, HasTerminals}
use Rattle.source_text.specs.ReadBack.{IsWritable, AreSame, IsSourceReadBack}
use Rattle.source_text.specs.Bare.{bare_source}
use Rattle.source_text.proofs.BareSources.{source_bare}
use Rattle.source_text.proofs.MovesSources.{move_source}
use Rattle.source_text.proofs.Reading.{text_of-HasTerminals}
use Rattle.source_text.proofs.Spelled.{terminals_of-AreSpelled}

-- offsets do not change the nesting
bare_nesting : (w : Terminal) (n : ℕ) → nesting_after (bare w) n ≡ nesting_after w n
bare_nesting (Name name) n = refl
bare_nesting (Number m) n = refl
bare_nesting (Label label) n = refl
bare_nesting (Text bytes) n = refl
bare_nesting (LeadingKeyword terminal at) n = refl
bare_nesting (OfKeyword terminal) n = refl
bare_nesting (OfSymbol symbol) n = refl

bare_within : (n : ℕ) (ws : List Terminal) → StaysWithin limit n ws → StaysWithin limit n (map bare ws)
bare_within n [] within = tt
bare_within n (w ∷ ws) within =
    subst (λ m. (m ≤ limit) × StaysWithin limit m (map bare ws)) (sym (bare_nesting w n)) (within.0, bare_within (nesting_after w n) ws within.1)

within_bare : (n : ℕ) (ws : List Terminal) → StaysWithin limit n (map bare ws) → StaysWithin limit n ws
within_bare n [] within = tt
within_bare n (w ∷ ws) within =
    let moved : (nesting_after w n ≤ limit) × StaysWithin limit (nesting_after w n) (map bare ws) =
    subst (λ m. (m ≤ limit) × StaysWithin limit m (map bare ws)) (bare_nesting w n) within in
    (moved.0, within_bare (nesting_after w n) ws moved.1)

alike_within : (ws vs : List Terminal) → AreAlike ws vs → StaysWithin limit 0 vs → StaysWithin limit 0 ws
alike_within ws vs same within = within_bare 0 ws (subst (StaysWithin limit 0) (sym same) (bare_within 0 vs within))

-- an answer that agrees with a source is that source
answer_is : (answer : Result SourceTree ParseError) (source : SourceTree) → without_place (Ok source) ≡ without_place answer → answer ≡ Ok source
answer_is (Ok other) source same = sym same
answer_is (Err (Unexpected at)) source same = cc (same)
answer_is (Err _) source same = cc (same)

-- sources with the same terminals but for offsets are the same but for offsets
same_bare : (read source : SourceTree) → StaysWithin limit 0 (source_terminals read) → AreAlike (source_terminals read) (source_terminals source) → AreSame read source
same_bare read source within alike =
    one_source (bare_source read) (bare_source source) (subst (StaysWithin limit 0) (source_bare read) (bare_within 0 (source_terminals read) within))
    (sym (source_bare read) ∙ alike ∙ source_bare source)

read_back_by : (text : List ℕ) (source : SourceTree) → IsWritable source → HasTerminals text (source_terminals source) → IsSourceReadBack text source
read_back_by text source writable has =
    let moved = move_source source (terminals_of text has.tokens) has.alike in
    let within : StaysWithin limit 0 (terminals_of text has.tokens) = alike_within (terminals_of text has.tokens) (source_terminals source) has.alike writable.within in
    let is : Parses text (Ok moved.0) = record {
      tokens = has.tokens;
      reads = has.reads;
      within = within;
      spelled = moved.1;
      only = λ other spelled. one_source other moved.0 (subst (StaysWithin limit 0) spelled within) (sym spelled ∙ moved.1);
    } in
    record {
      read = moved.0;
      is = is;
      only = λ answer parses. answer_is answer moved.0 (one_answer text (Ok moved.0) answer is parses);
      same = same_bare moved.0 source (subst (StaysWithin limit 0) (moved.1) within) (ap (map bare) (sym (moved.1)) ∙ has.alike);
    }

pub text_of-IsReadBack : (source : SourceTree) → IsWritable source → IsSourceReadBack (text_of (source_terminals source)) source
text_of-IsReadBack source writable =
    read_back_by (text_of (source_terminals source)) source writable (text_of-HasTerminals (source_terminals source) writable.spelled)

-- what a text is can be written
pub parsed-IsWritable : (text : List ℕ) (source : SourceTree) → Parses text (Ok source) → IsWritable source
parsed-IsWritable text source parses = record {
  spelled = subst AreSpelled parses.spelled (terminals_of-AreSpelled text parses.tokens parses.reads);
  within = subst (StaysWithin limit 0) parses.spelled parses.within;
}
