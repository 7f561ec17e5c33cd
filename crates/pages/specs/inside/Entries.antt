-- Entries of vertices, and the bytes of their lists one after the other.
use Rattle.std.specs.Prelude.{◌≡◌, ℕ, ℤ, ◌+◌, ◌*◌, ◌<◌, ◌≤◌, Result, Ok, Err, List, [], ◌∷◌, ◌++◌, length, drop}
use Rattle.ascending_lists.specs.Ascending.{AscendsFrom}
use Rattle.edge_updates.specs.Weighted.{weighted}
use Rattle.pages.specs.declared.entry.ListEntry.{ListEntry}
use Rattle.pages.specs.inside.Weights.{weight_size, weights_from}
use Rattle.pages.specs.inside.Packed.{elements_in}
use Rattle.pages.specs.inside.Index.{IsIndex}

-- how many bytes the neighbours of an entry take, and its list
abbrev pub keys_size : ListEntry → ℕ
keys_size e = 4 + e.width * e.last

abbrev pub size_of : ListEntry → ℕ
size_of e = keys_size e + weight_size e.weights * (e.last + 1)

-- the neighbours of an entry, and their weights
abbrev pub keys_at : List ℕ → ListEntry → List ℕ
keys_at bytes e = elements_in e.width (e.last + 1) (drop e.start bytes)

abbrev pub weights_at : List ℕ → ListEntry → List ℤ
weights_at bytes e = weights_from e.weights (e.last + 1) (drop (keys_size e) (drop e.start bytes))

-- the list of an entry
abbrev pub list_at : List ℕ → ListEntry → List (ℕ × ℤ)
list_at bytes e = weighted (keys_at bytes e) (weights_at bytes e)

-- the vertices of entries, each with its list
abbrev pub lists_in : List ℕ → List ListEntry → List (ℕ × List (ℕ × ℤ))
lists_in bytes [] = []
lists_in bytes (e ∷ es) = (e.vertex, list_at bytes e) ∷ lists_in bytes es

-- The bytes of an entry are an ascending list of 1 to 256 elements with their weights, and three bytes or
-- more are after them.
pub record IsListed (bytes : List ℕ) (e : ListEntry) : Type 0 where
  pub wide : 0 < e.width
  pub width : e.width ≤ 4
  pub few : e.last < 256
  pub within : e.start + size_of e + 3 ≤ length bytes
  pub ascends : AscendsFrom 0 (keys_at bytes e)

-- where the lists of entries end that begin at a position
abbrev pub end_of : ℕ → List ListEntry → ℕ
end_of position [] = position
end_of position (e ∷ es) = end_of (position + size_of e) es

-- the lists of entries are one after the other from a position on
abbrev pub AreListed : ℕ → List ℕ → List ListEntry → Type 0
AreListed position bytes [] = Unit {0}
AreListed position bytes (e ∷ es) = (e.start ≡ position) × IsListed bytes e × AreListed (position + size_of e) bytes es

-- The bits, the bytes and the entries of a page: the lists are the bytes, up to three of padding.
pub record IsStored (bits : ℕ) (bytes : List ℕ) (es : List ListEntry) : Type 0 where
  pub listed : AreListed 0 bytes es
  pub ends : end_of 0 es + 3 ≡ length bytes
  pub index : IsIndex bits (lists_in bytes es)

-- The lists of more vertices came after the others, or all stayed as it was.
abbrev pub IsExtended : {T E : Type 0} → List ListEntry → List ℕ → List (ℕ × List (ℕ × ℤ)) → Result T E → List ListEntry → List ℕ → Type 0
IsExtended es bytes more (Ok t) es' bytes' = AreListed 0 bytes' es' × (end_of 0 es' + 3 ≡ length bytes') × (lists_in bytes' es' ≡ lists_in bytes es ++ more)
IsExtended es bytes more (Err e) es' bytes' = (es' ≡ es) × (bytes' ≡ bytes)

-- entries whose lists are one after the other from another position on
abbrev pub placed_at : ℕ → List ListEntry → List ListEntry
placed_at position [] = []
placed_at position (e ∷ es) = record { start = position; last = e.last; width = e.width; weights = e.weights; vertex = e.vertex } ∷ placed_at
    (position + size_of e) es

-- the lists of entries are one after the other from some position on
abbrev pub AreFrom : List ℕ → List ListEntry → Type 0
AreFrom bytes es = (position : ℕ) × AreListed position bytes es
