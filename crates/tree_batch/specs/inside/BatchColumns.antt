-- Columns of numbers, kinds and weights as lists of entries.
use Rattle.std.specs.Prelude.{ℕ, suc, ℤ, pos, List, [], ◌∷◌, get_or}
use Rattle.tree_batch.specs.declared.batch.Entry.{Entry}
use Rattle.tree_batch.specs.declared.batch.Entry.TheVariants.{Add, Remove, Grow}
use Rattle.tree_batch.specs.declared.batch_columns.EntryKind.{EntryKind}
use Rattle.tree_batch.specs.declared.batch_columns.EntryKind.TheVariants.{Adds, Removes, Grows}
use Rattle.tree_batch.specs.declared.batch_columns.EntryNumbers.{EntryNumbers}

-- what an entry does
abbrev pub kind_of : Entry → EntryKind
kind_of (Add u v w) = Adds
kind_of (Remove u v) = Removes
kind_of (Grow n) = Grows

-- the numbers of an entry
abbrev pub numbers_of : Entry → EntryNumbers
numbers_of (Add u v w) = record { first = u; second = v }
numbers_of (Remove u v) = record { first = u; second = v }
numbers_of (Grow n) = record { first = n; second = 0 }

-- the weight with which an entry adds its edge, or 1
abbrev pub weight_of : Entry → ℤ
weight_of (Add u v w) = w
weight_of (Remove u v) = pos 1
weight_of (Grow n) = pos 1

-- the entry of a kind with these numbers and this weight
abbrev pub entry_of : EntryKind → EntryNumbers → ℤ → Entry
entry_of Adds n w = Add n.first n.second w
entry_of Removes n w = Remove n.first n.second
entry_of Grows n w = Grow n.first

-- the entries from an index on, each with the kind and the weight at its index; if these are over, it adds its edge, with weight 1
abbrev pub entries_from : ℕ → List EntryNumbers → List EntryKind → List ℤ → List Entry
entries_from i [] ks ws = []
entries_from i (n ∷ ns) ks ws = entry_of (get_or ks i Adds) n (get_or ws i (pos 1)) ∷ entries_from (suc i) ns ks ws
