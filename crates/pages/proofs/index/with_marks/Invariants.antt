use Rattle.std.proofs.Common.{ℕ, ◌++◌, List, take, ℤ}
use Rattle.ascending_lists.specs.Maps.{Rises}
use Rattle.pages.specs.inside.Entries.{lists_in}
use Rattle.pages.specs.inside.Index.{IsIndex}
use Rattle.pages.proofs.index.with_marks.Given as goal

abbrev pub invariant-loop-entry : goal.invariant-loop-entry
invariant-loop-entry l = (es : List (ℕ × List (ℕ × ℤ))) (bytes : List ℕ) → IsIndex l.present es → Rises 0 64 (es ++ lists_in bytes l.run)
    → IsIndex l.bits (es ++ lists_in bytes (take l.entry-index l.run))
