-- What `print` writes.
use Rattle.std.specs.Prelude.{◌≡◌, ◌⊎◌, ℤ, ℕ, Bool, List}
use Rattle.std.specs.List.{AllByRecursion, concat}
use Rattle.algorithm_meaning.specs.Statements.{integer_line, condition_line}

-- the line of an integer or of a truth value
abbrev pub IsPrintedLine : List ℕ → Type 0
IsPrintedLine line = ((n : ℤ) × (line ≡ integer_line n)) ⊎ ((b : Bool) × (line ≡ condition_line b))

-- the text is such lines, one after another
abbrev pub IsPrinted : List ℕ → Type 0
IsPrinted text = (lines : List (List ℕ)) × AllByRecursion IsPrintedLine lines × (text ≡ concat lines)
