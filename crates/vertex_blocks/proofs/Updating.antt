-- Blocks that are built up by updates.
use Rattle.std.proofs.Common.{◌≡◌, ◌≢◌, ℕ, ℤ, ◌+◌, ◌*◌, ◌^◌, ◌<◌, ◌≤◌, Option, List, [], ◌∷◌, length, get_or, drop, refl, sym, ◌∙◌, ap, subst, arith}
use Rattle.std.proofs.lemmas.Bool.{ne_eqb}
use Rattle.std.proofs.lemmas.List.{drop_more}
use Rattle.edge_updates.specs.declared.edge_update.EdgeUpdate.{EdgeUpdate}
use Rattle.pages.specs.Updates.{vertex_in_page, updated, updates_of, key_in_page, EdgesAscend}
use Rattle.pages.specs.Vertices.{neighbours_of}
use Rattle.pages.proofs.UpdateRuns.{edges_from, none_before}
use Rattle.vertex_blocks.specs.Blocks.{Block, vertices_at}
use Rattle.vertex_blocks.specs.Changes.{IsBlockAfter}
use Rattle.vertex_blocks.specs.inside.Joined.{IsBlockOf}
use Rattle.vertex_blocks.specs.inside.Steps.{IsBuilt, list_after}
use Rattle.vertex_blocks.proofs.Carrying.{built_lists}

module _ (updates : List (EdgeUpdate × ℤ)) (old : Option Block) where
  -- vertices between those that updates are of keep their lists
  pub kept_to : (low v : ℕ) (rest : List (EdgeUpdate × ℤ)) → EdgesAscend (v * 2 ^ 24) rest → ((u : ℕ) → low ≤ u → updates_of u updates ≡ updates_of u rest) → (u : ℕ) → low ≤ u → u < v
      → list_after updates old u ≡ neighbours_of u (vertices_at old)
  kept_to low v rest coming passed u ge lt = ap (updated (neighbours_of u (vertices_at old))) (passed u ge ∙ none_before u (v * 2 ^ 24) rest coming (omega (arith, lt)))

  -- the next one gets the list that its updates make
  pub updated_at : (low v : ℕ) (rest run : List (EdgeUpdate × ℤ)) → low ≤ v → ((u : ℕ) → low ≤ u → updates_of u updates ≡ updates_of u rest) → run ≡ updates_of v rest
      → updated (neighbours_of v (vertices_at old)) run ≡ list_after updates old v
  updated_at low v rest run le passed is = ap (updated (neighbours_of v (vertices_at old))) (is ∙ sym (passed v le))

  -- and where all are done, the block is there
  pub block_after : (b : ℕ) (p s : Block) (new : Option Block) → IsBuilt (list_after updates old) 64 p s → IsBlockOf p s new → IsBlockAfter (record { updates = updates; chunk_size = b }) old new
  block_after b p s new built made = record {
    lists = λ u lt. made.lists u lt ∙ built_lists (list_after updates old) 64 p s built u lt;
    block = made.block;
    some = made.some;
  }

-- an update of a smaller vertex is passed
pub skip_one : (v n : ℕ) (us : List (EdgeUpdate × ℤ)) (d : EdgeUpdate × ℤ) → n < length us → vertex_in_page (get_or us n d).0 < v → EdgesAscend 0 (drop n us) → EdgesAscend 0 (drop (n + 1) us)
    × (updates_of v (drop (n + 1) us) ≡ updates_of v (drop n us))
skip_one v n us d lt small s =
    let u : EdgeUpdate × ℤ = get_or us n d in
    let cells : drop n us ≡ u ∷ drop (n + 1) us = drop_more us n d lt in
    let parts : EdgesAscend 0 (u ∷ drop (n + 1) us) = subst (EdgesAscend 0) cells s in
    (edges_from 0 (key_in_page u.0 + 1) (drop (n + 1) us) (omega arith) parts.1, sym (ap (updates_of v) cells ∙ other v u (drop (n + 1) us) (omega (arith, small))))
  where
    other : (v : ℕ) (u : EdgeUpdate × ℤ) (us : List (EdgeUpdate × ℤ)) → vertex_in_page u.0 ≢ v → updates_of v (u ∷ us) ≡ updates_of v us
    other v u us ne = rw (ne_eqb (vertex_in_page u.0) v ne) refl

-- where the first is of no smaller vertex, all are
pub from_vertex : (v : ℕ) (us : List (EdgeUpdate × ℤ)) (d : EdgeUpdate × ℤ) → EdgesAscend 0 us → (0 < length us → v ≤ vertex_in_page (get_or us 0 d).0) → EdgesAscend (v * 2 ^ 24) us
from_vertex v [] d s le = tt
from_vertex v (u ∷ us) d s le = (omega (arith, le (omega arith)), s.1)
