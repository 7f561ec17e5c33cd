-- What the steps of the writer say of the bytes so far.
use Rattle.std.specs.Prelude.{◌≡◌, ℕ, List, ◌∷◌, ◌++◌, drop, map}
use Rattle.std.specs.Global.{Vec}
use Rattle.lexer.specs.declared.keyword.Keyword.TheVariants as keyword
use Rattle.syntax.specs.declared.operators.Prefix.{Prefix}
use Rattle.syntax.specs.Terminals.{Terminal, OfKeyword}
use Rattle.syntax.specs.ExpressionSpelling.{prefix_terminal}
use Rattle.syntax.specs.declared.schedule.Chain.{Chain}
use Rattle.syntax.specs.SourceSpelling.{each_before}
use Rattle.syntax.specs.SourceTrees.{ChainTree}
use Rattle.syntax.specs.SourceViews.{chain_tree}
use Rattle.source_text.specs.Text.{text_of}

-- the bytes and then the text of the terminals are the whole
unfoldable pub Completes : List ℕ → List Terminal → List ℕ → Type 0
Completes bytes terminals whole = bytes ++ text_of terminals ≡ whole

-- The step from the old bytes to the new ones has written what is before the rest, whatever the rest is.
abbrev pub Puts : (List Terminal → List Terminal) → List ℕ → List ℕ → Type 0
Puts before old new = (rest : List Terminal) (whole : List ℕ) → Completes old (before rest) whole → Completes new rest whole

-- signs in their order, and then the rest
abbrev pub signs_before : List Prefix → List Terminal → List Terminal
signs_before signs rest = each_before (λ sign others. prefix_terminal sign ∷ others) signs rest

-- From the old bytes to these it has written what is before the rest, but for the items from this one on.
unfoldable pub PutsUpTo : {A : Type 0} → (List Terminal → List Terminal) → (A → List Terminal → List Terminal) → List A → ℕ → List ℕ → List ℕ → Type 0
PutsUpTo before step items i old new =
    (rest : List Terminal) (whole : List ℕ) → Completes old (before rest) whole → Completes new (each_before step (drop i items) rest) whole

-- the schedule's chains
abbrev pub chains_tree : Vec Chain → List ChainTree
chains_tree chains = map chain_tree chains.items

-- "element" "Vertex" "end" "element" "Edge" "end"
abbrev pub elements_before : List Terminal → List Terminal
elements_before rest =
    OfKeyword keyword.Element ∷ OfKeyword keyword.Vertex ∷ OfKeyword keyword.End
    ∷ OfKeyword keyword.Element ∷ OfKeyword keyword.Edge ∷ OfKeyword keyword.End ∷ rest
