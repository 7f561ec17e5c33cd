-- The rule of the word that counts the history, and what its steps tell.
use Rattle.std.specs.Prelude.{ℕ, ◌≡◌, ◌==◌, true, List, [], ◌∷◌, ◌++◌, length, MatchBool}
use Rattle.logbook.specs.Pages.{Cell, Step, View, Book, Named}
use Rattle.shared_graph.specs.declared.entry.Entry.{Entry}

-- the first word is the length of the history. The book has two words, of which the second stays 0
abbrev pub IsCounted : List Cell → List Entry → Type 0
IsCounted cells log = cells ≡ (length log, true) ∷ (0, true) ∷ []

-- the word that counts the book's history
abbrev pub count_of : Book → Named
count_of b = record { tracked = true; key = 0; book = b }

-- the entry was added to all that had been seen; or the history is longer
abbrev pub Adds : Step Entry → View Entry ℕ → ℕ → View Entry ℕ → Type 0
Adds s v found w = MatchBool (found == s.old) (w.0 ≡ v.0 ++ s.ask ∷ []) (Unit {0})
