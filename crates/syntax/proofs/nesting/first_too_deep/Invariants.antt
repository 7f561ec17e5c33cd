use Rattle.std.proofs.Common.{◌≤◌, ℕ, List, length}
use Rattle.syntax.specs.Terminals.{terminals_of}
use Rattle.syntax.specs.Nesting.{limit, StaysWithin, PassesAt}
use Rattle.syntax.proofs.nesting.first_too_deep.Given as goal

-- what is so of the tokens that are left is so of all
abbrev pub invariant-tokens : goal.invariant-tokens
invariant-tokens l =
    (l.depth ≤ limit)
    × ((text : List ℕ) → StaysWithin limit l.depth (terminals_of text l.left) → StaysWithin limit 0 (terminals_of text l.tokens))
    × ((text : List ℕ) (at : ℕ) → PassesAt text l.depth l.left at → PassesAt text 0 l.tokens at)

abbrev pub decreases-tokens : goal.decreases-tokens
decreases-tokens l = length l.left
