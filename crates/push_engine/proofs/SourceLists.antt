-- The sources of an apply, in a list.
use Rattle.std.proofs.Common.{◌≡◌, ℕ, ◌<◌, ◌==◌, ◌⊎◌, inl, inr, ◌&&◌, ℤ, Bool, true, false, cond, Some, List, [], ◌∷◌, length, refl, sym, ap, ◌∙◌, arith}
use Rattle.std.proofs.lemmas.Bool.Decides.{Decides-eqb}
use Rattle.std.specs.List.{filter, range_with_len}
use Rattle.weighted_edges.specs.Edge.{Edge}
use Rattle.kernels.specs.EdgeApply.{is_member}
use Rattle.apply_options.specs.declared.apply_schedule.Direction.{Direction}
use Rattle.apply_options.specs.declared.apply_schedule.Direction.TheVariants.{SparsePush, DensePush, DensePull, Hybrid}
use Rattle.flat_snapshot.specs.Digraph.{Digraph, IsDigraph}
use Rattle.flat_snapshot.specs.Edge.{Ends, ends_eq, ends_of, weight_in, IsWithin}
use Rattle.flat_snapshot.specs.Neighbours.{destinations_of}
use Rattle.push_engine.specs.Sources.{cut_list}
use Rattle.edge_apply.proofs.Filtered.{has_first, has_later}
use Rattle.edge_apply.proofs.Listed.{filter_all, member_filtered, member_of_range}

-- a vertex from which an edge goes is one of the graph
found_first : (u : ℕ) (e : Edge) (es : List Edge) (same : Bool) → e.0 == u ≡ same → 0 < length (cond same ((e.1, e.2) ∷ destinations_of u es) (destinations_of u es))
    → ((e.0 ≡ u) ⊎ (0 < length (destinations_of u es)))
found_first u e es true is some = inl ((Decides-eqb e.0 u).0 is)
found_first u e es false is some = inr some

pub source_within : (n u : ℕ) (es : List Edge) → ((p : Ends) (w : ℤ) → weight_in p es ≡ Some w → IsWithin n p) → 0 < length (destinations_of u es) → u < n
source_within n u [] within some = absurd (omega (arith, some))
source_within n u (e ∷ es) within some = elim (found_first u e es (e.0 == u) refl some) [
  | inl at ↦ let here = (within (ends_of e) e.2 (has_first e es)).0 in omega (arith, at, here)
  | inr later ↦ source_within n u es (λ p w has. within p _ (has_later (ends_eq (ends_of e) p) e.2 w (weight_in p es) has)) later
]

-- where all pass, all vertices are cut
pub list_is_whole : (d : Direction) (n : ℕ) (from : ℕ → Bool) → ((v : ℕ) → from v ≡ true) → range_with_len 0 n ≡ cut_list d n from
list_is_whole DensePush n from all = refl
list_is_whole SparsePush n from all = sym (filter_all from (range_with_len 0 n) all)
list_is_whole DensePull n from all = sym (filter_all from (range_with_len 0 n) all)
list_is_whole Hybrid n from all = sym (filter_all from (range_with_len 0 n) all)

-- where all vertices are listed, those that pass are the sources
pub filtered_sources : (g : Digraph) (from : ℕ → Bool) → IsDigraph g → (u : ℕ) → 0 < length (destinations_of u g.edges) → is_member u (filter from (range_with_len 0 g.vertices)) ≡ from u
filtered_sources g from is u some =
    let within : u < g.vertices = source_within g.vertices u g.edges is.within some in
    member_filtered from u (range_with_len 0 g.vertices) ∙ ap (λ (b : Bool). b && from u) (member_of_range u g.vertices within)
