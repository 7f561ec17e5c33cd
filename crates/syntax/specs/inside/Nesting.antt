-- Beside `Nesting`: definitions that no public contract cites.
use Rattle.std.specs.Prelude.{[], ℕ, List, ◌∷◌}
use Rattle.syntax.specs.Terminals.{Terminal}
use Rattle.syntax.specs.Nesting.{nesting_after}

-- how much is open after terminals, where so much is open before them
abbrev pub nesting : ℕ → List Terminal → ℕ
nesting n [] = n
nesting n (terminal ∷ terminals) = nesting (nesting_after terminal n) terminals
