-- Published values, and the rule that the writer keeps.
use Rattle.std.specs.Prelude.{ℕ, ◌≡◌, Option, Some, None, List}
use mathlib.Core.List.{IsPrefix}
use mathlib.Core.Option.{some}
use lib.ListN.{get_elem?}
use Rattle.logbook.specs.Pages.{Book}
use Rattle.version_list.specs.Machine.{State}
use Rattle.shared_graph.specs.declared.entry.Entry.{Entry}

-- what readers take: whose history it is, the state in which it began, and the history
pub record Published : Type 0 where
  pub book : Book
  pub base : State
  pub log : List Entry

-- y is of the book of x, and its history begins with that of x
pub record GoesOn (x y : Published) : Type 0 where
  pub book : y.book ≡ x.book
  pub base : y.base ≡ x.base
  pub log : IsPrefix x.log y.log

-- what was seen is a beginning of x
abbrev pub IsSeen : Option Published → Published → Type 0
IsSeen None x = Unit {0}
IsSeen (Some u) x = GoesOn u x

-- what each seat has seen is a beginning of what is published
abbrev pub AreSeen : Published → List (Option Published) → Type 0
AreSeen x views = (seat : ℕ) (v : Option Published) → get_elem? views seat ≡ some v → IsSeen v x

-- y was seen, and what had been seen is a beginning of x
abbrev pub Sees : Option Published → Published → Published → Option Published → Type 0
Sees v x y w = IsSeen v x × (w ≡ Some y)

-- the last of the values is published
abbrev pub latest : Published → Published → Published
latest x y = y

-- a seat that has seen some value of this book
abbrev pub Knows : Book → State → Option Published → Type 0
Knows book base None = ⊥
Knows book base (Some u) = (u.book ≡ book) × (u.base ≡ base)
