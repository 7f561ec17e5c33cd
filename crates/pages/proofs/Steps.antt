-- Steps of a page that updates make.
use Rattle.std.proofs.Common.{◌≡◌, ℕ, ◌+◌, ◌*◌, ◌^◌, ◌<◌, ◌≤◌, List, [], ◌∷◌, ◌++◌, slice_range, sym, ◌∙◌, ap, subst, arith, add-one, ℤ}
use Rattle.edge_updates.specs.declared.edge_update.EdgeUpdate.{EdgeUpdate}
use Rattle.ascending_lists.specs.Maps.{Rises}
use Rattle.pages.specs.Vertices.{neighbours_of, count_below, IsPage}
use Rattle.pages.specs.Updates.{vertex_in_page, updated, updates_of, EdgesAscend}
use Rattle.pages.specs.inside.Built.{entry_of, built}
use Rattle.pages.proofs.Building.{rises_built, neighbours_built, packed_some, carried}
use Rattle.pages.proofs.Merging.{neighbour_small}
use Rattle.pages.proofs.UpdateRuns.{none_before}

-- the vertex of the first update
pub first_vertex : (low v : ℕ) (u : EdgeUpdate × ℤ) (us rest : List (EdgeUpdate × ℤ)) → v ≡ vertex_in_page u.0 → rest ≡ u ∷ us → EdgesAscend (low * 2 ^ 24) rest → (low ≤ v) × (v < 64)
    × EdgesAscend (v * 2 ^ 24) rest
first_vertex low v u us rest at is s =
    let here : EdgesAscend (low * 2 ^ 24) (u ∷ us) = subst (EdgesAscend (low * 2 ^ 24)) is s in
    (omega (arith, at, here.0, neighbour_small u.0), omega (arith, at), subst (EdgesAscend (v * 2 ^ 24)) (sym is) (omega (arith, at), here.1))

module _ (es : List (ℕ × List (ℕ × ℤ))) (page : IsPage es) (updates : List (EdgeUpdate × ℤ)) where
  abbrev pub after : ℕ → List (ℕ × ℤ)
  after u = updated (neighbours_of u es) (updates_of u updates)

  -- vertices that no update is of are carried over
  pub carried_to : (low v : ℕ) (rest : List (EdgeUpdate × ℤ)) → low ≤ v → EdgesAscend (v * 2 ^ 24) rest → ((u : ℕ) → low ≤ u → updates_of u updates ≡ updates_of u rest)
      → built after low ++ slice_range es (count_below low es) (count_below v es) ≡ built after v
  carried_to low v rest le coming passed =
      carried es page.map (packed_some es page.packed) after low v le
      (λ u ge lt. ap (updated (neighbours_of u es)) (passed u ge ∙ none_before u (v * 2 ^ 24) rest coming (omega arith)))

  -- so the vertices stay in order
  pub carried_rises : (low v : ℕ) (rest : List (EdgeUpdate × ℤ)) → low ≤ v → EdgesAscend (v * 2 ^ 24) rest → ((u : ℕ) → low ≤ u → updates_of u updates ≡ updates_of u rest)
      → Rises 0 v (built after low ++ slice_range es (count_below low es) (count_below v es))
  carried_rises low v rest le coming passed = subst (Rises 0 v) (sym (carried_to low v rest le coming passed)) (rises_built after v)

  -- and the next one comes with its updates
  pub updated_to : (low v : ℕ) (rest run : List (EdgeUpdate × ℤ)) → low ≤ v → EdgesAscend (v * 2 ^ 24) rest → ((u : ℕ) → low ≤ u → updates_of u updates ≡ updates_of u rest) → run ≡ updates_of v rest
      → built after low ++ slice_range es (count_below low es) (count_below v es) ++ entry_of v (updated (neighbours_of v es) run) ≡ built after (v + 1)
  updated_to low v rest run le coming passed is =
      let here : updated (neighbours_of v es) run ≡ after v = ap (updated (neighbours_of v es)) (is ∙ sym (passed v le)) in
      rw (carried_to low v rest le coming passed, here) (ap (built after) (sym (add-one v)))

  -- where no update is left, each vertex has its new list
  pub all_updated : (low v a b : ℕ) (page' old : List (ℕ × List (ℕ × ℤ))) → low ≤ v → ((u : ℕ) → low ≤ u → updates_of u updates ≡ []) → old ≡ built after low → a ≡ count_below low es
      → b ≡ count_below v es → page' ≡ old ++ slice_range es a b → (u : ℕ) → u < v → neighbours_of u page' ≡ after u
  all_updated low v a b page' old le none was from to is u lt =
      let whole : page' ≡ built after v = is ∙ rw (was, from, to) (carried_to low v [] le tt none) in
      ap (neighbours_of u) whole ∙ neighbours_built after u v lt
