-- Lists of the ends of edges, and graphs that differ in no other edges.
use Rattle.std.specs.Prelude.{◌≡◌, ℕ, ◌+◌, ◌^◌, ◌≤◌, ◌==◌, Bool, not, ◌&&◌, List, [], ◌∷◌}
use Rattle.std.specs.List.{filter, list_any}
use Rattle.weighted_edges.specs.Edge.{Edge}
use Rattle.tree_batch.specs.Edge.{Ends, index}

-- whether the edge from u to v is listed
abbrev pub is_listed : List Ends → (u v : ℕ) → Bool
is_listed ps u v = list_any (λ p. (p.0 == u) && (p.1 == v)) ps

-- edges that are the same, with their weights, but for the listed ones
abbrev pub AreSameBut : (listed : List Ends) → (es fs : List Edge) → Type 0
AreSameBut listed es fs = filter (λ e. not (is_listed listed e.0 e.1)) es ≡ filter (λ e. not (is_listed listed e.0 e.1)) fs

-- the ends ascend by source and then by destination, each once, at indices from low on and below high
abbrev pub EndsRise : (low high : ℕ) → List Ends → Type 0
EndsRise low high [] = low ≤ high
EndsRise low high (p ∷ ps) = (low ≤ index p) × EndsRise (index p + 1) high ps

abbrev pub AreAscending : List Ends → Type 0
AreAscending ps = EndsRise 0 (2 ^ 64) ps
