-- Terminals stand at offsets that are among theirs.
use Rattle.std.proofs.Common.{◌≡◌, refl, ℕ, suc, ◌<◌, arith, List, [], ◌∷◌, ◌++◌, length, map, Option, Some, None}
use Rattle.std.specs.Prelude.{IfSome}
use Rattle.lexer.specs.declared.keyword.Keyword.TheVariants as keyword
use Rattle.syntax.specs.Terminals.{Terminal, Identifier, OfKeyword}
use Rattle.syntax.specs.Offsets.{IsOffsetIn, StandWhere, StandsWhere, offset_of}
use Rattle.syntax.specs.SourceSpelling.{end_terminals, ends_before}
use Rattle.syntax.specs.SourceTrees.{EndsTree}
use Rattle.syntax.proofs.Behind.{all_left, all_right}

if_some : (o : Option ℕ) (P : ℕ → Type 0) → ((at : ℕ) → o ≡ Some at → P at) → IfSome o P
if_some None P holds = tt
if_some (Some at) P holds = holds at refl

one_more : (w : Terminal) (ws : List Terminal) (at : ℕ) → IsOffsetIn ws at → IsOffsetIn (w ∷ ws) at
one_more w ws at there = let within : there.0 < length (map offset_of ws) = there.1 in (suc there.0, omega (arith, within), there.2)

pub each_stands : (P : ℕ → Type 0) (ws : List Terminal) → ((at : ℕ) → IsOffsetIn ws at → P at) → StandWhere P ws
each_stands P [] holds = tt
each_stands P (w ∷ ws) holds =
    (if_some (offset_of w) P (λ at is. holds at (0, omega arith, is)), each_stands P ws (λ at there. holds at (one_more w ws at there)))

-- the names of ends
end_stands : (P : ℕ → Type 0) (terminal : Terminal) (end : Option Identifier) → StandWhere P (end_terminals terminal end) → IfSome end (λ name. P name.at)
end_stands P terminal None all = tt
end_stands P terminal (Some name) all = all.1.1.1.0

pub from_stands : (P : ℕ → Type 0) (ends : EndsTree) (rest : List Terminal) → StandWhere P (ends_before ends rest) → IfSome ends.from (λ name. P name.at)
from_stands P ends rest all = end_stands P (OfKeyword keyword.From) ends.from (all_left (StandsWhere P) (end_terminals (OfKeyword keyword.From) ends.from) _ all)

pub to_stands : (P : ℕ → Type 0) (ends : EndsTree) (rest : List Terminal) → StandWhere P (ends_before ends rest) → IfSome ends.to (λ name. P name.at)
to_stands P ends rest all =
    let to = end_terminals (OfKeyword keyword.To) ends.to in
    end_stands P (OfKeyword keyword.To) ends.to
    (all_left (StandsWhere P) to rest (all_right (StandsWhere P) (end_terminals (OfKeyword keyword.From) ends.from) (to ++ rest) all))
