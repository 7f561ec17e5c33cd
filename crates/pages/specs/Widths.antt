-- Lists by the width of their offsets.
use Rattle.std.specs.Prelude.{ℕ, ℤ, List}
use Rattle.pages.specs.declared.neighbours.ByWidth.{ByWidth}
use Rattle.pages.specs.declared.neighbours.ByWidth.TheVariants.{One, Two, Three, Four}

-- the list, whatever the width of its offsets
abbrev pub in_any_width : ByWidth → List (ℕ × ℤ)
in_any_width (One list) = list
in_any_width (Two list) = list
in_any_width (Three list) = list
in_any_width (Four list) = list
