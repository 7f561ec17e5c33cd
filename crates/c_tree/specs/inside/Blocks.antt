-- Entries that are read into a block, column by column.
use Rattle.std.specs.Prelude.{◌≡◌, ℕ, ℤ, ◌+◌, ◌-◌, List, ◌++◌, map, length, take, drop, min}

-- What f gives of the first entries of es, as many as fit, was read into the block old from an index on:
-- the block is now new, next is the index after them, and rest is what is left.
pub record IsRead {X : Type 0} (f : ℕ × ℤ → X) (index : ℕ) (es : List (ℕ × ℤ)) (old : List X) (next : ℕ) (rest : List (ℕ × ℤ)) (new : List X) : Type 0 where
  pub count : ℕ
  pub fits : count ≡ min (length old - index) (length es)
  pub after : next ≡ index + count
  pub left : rest ≡ drop count es
  pub block : new ≡ take index old ++ (take count (map f es) ++ drop (index + count) old)
