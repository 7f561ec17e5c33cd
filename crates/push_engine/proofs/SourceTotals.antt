-- The edges from listed sources, by runs of 64 and by blocks.
use Rattle.std.proofs.Common.{◌≡◌, ℕ, zero, suc, ◌+◌, ◌-◌, ◌*◌, ◌^◌, ◌<◌, ◌≤◌, inl, inr, List, [], ◌∷◌, ◌++◌, length, length-drop, map, min, take, drop, get_or, slice_range}
use Rattle.std.proofs.Common.{refl, sym, ap, ◌∙◌, arith}
use Rattle.std.specs.List.{range_with_len, sum_by}
use Rattle.std.proofs.lemmas.Bool.{cases_lt}
use Rattle.std.proofs.lemmas.List.{drop-drop, drop-map, get_or_append_left, get_or_push, take-map, take_min}
use Rattle.std.proofs.lemmas.List.FromFn.{length-range_with_len}
use Rattle.std.proofs.lemmas.List.Sums.{sum_by-take-drop}
use Rattle.ascending_lists.proofs.Ascending.{ascends_room}
use Rattle.ascending_lists.proofs.MapOrder.{rises_room}
use Rattle.std.specs.Map.{keys_of}
use Rattle.std.proofs.lemmas.Map.Entries.{length-keys_of}
use Rattle.vertex_blocks.specs.Blocks.{AreNeighbourLists, Block, IsBlock, edge_total}
use Rattle.flat_snapshot.specs.Digraph.{Digraph}
use Rattle.flat_snapshot.specs.Neighbours.{destinations_of}
use Rattle.crew.specs.Limits.{weight}
use Rattle.crew.proofs.DegreeRows.{weight-map}
use Rattle.push_engine.specs.inside.Degrees.{out_degrees}

-- a block has few edges
lists_few : (b : Block) → AreNeighbourLists b → edge_total b ≤ length b * 2 ^ 32
lists_few [] are = omega arith
lists_few (e ∷ es) are =
    let here = ascends_room 0 (keys_of e.1) (omega arith) are.0.ascends in
    let keys = length-keys_of e.1 in
    let rest = lists_few es are.1 in
    omega (arith, here, keys, rest)

pub block_few : (b : Block) → IsBlock b → edge_total b ≤ 64 * 2 ^ 32
block_few b ok =
    let few = lists_few b ok.lists in
    let room = rises_room 0 64 b ok.map in
    omega (arith, few, room)

-- the degrees of a run of sources
pub run_degrees : (g : Digraph) (us : List ℕ) (s e : ℕ) → out_degrees g (slice_range us s e) ≡ slice_range (out_degrees g us) s e
run_degrees g us s e =
    let degree = λ (u : ℕ). length (destinations_of u g.edges) in
    sym (take-map degree (e - s) (drop s us)) ∙ ap (take (e - s)) (sym (drop-map degree s us))

-- vertices in a row
pub in_a_row : (a n : ℕ) (us : List ℕ) → length us ≡ n → ((k : ℕ) → k < n → get_or us k 0 ≡ a + k) → us ≡ range_with_len a n
in_a_row a zero [] count at = refl
in_a_row a zero (u ∷ us) count at = absurd (omega (arith, count))
in_a_row a (suc n) [] count at = absurd (omega (arith, count))
in_a_row a (suc n) (u ∷ us) count at =
    let first : a + 0 ≡ a = omega arith in
    let rest : length us ≡ n = omega (arith, count) in
    ap (λ (v : ℕ). v ∷ us) (at 0 (omega arith) ∙ first)
    ∙ ap (λ (vs : List ℕ). a ∷ vs) (in_a_row (a + 1) n us rest (λ k l. at (suc k) (omega (arith, l)) ∙ (let next : a + suc k ≡ a + 1 + k = omega arith in next)))

-- the weight of the sources of a block
pub block_weight : (g : Digraph) (us : List ℕ) (block edges : ℕ) → us ≡ range_with_len (64 * block) 64 → edges ≡ sum_by (λ u. length (destinations_of u g.edges)) (range_with_len (64 * block) 64)
    → 64 + edges ≡ weight (out_degrees g us)
block_weight g us block edges row is =
    let degree = λ (u : ℕ). length (destinations_of u g.edges) in
    let sum = weight-map degree (range_with_len (64 * block) 64) in
    let count = length-range_with_len (64 * block) 64 in
    let same = ap (λ (vs : List ℕ). weight (map degree vs)) row in
    omega (arith, sum, count, same, is)

-- one more run
pub run_stop : (us : List ℕ) (s e : ℕ) → s ≤ length us → e ≡ min (s + 64) (length us) → slice_range us s e ≡ slice_range us s (s + 64)
run_stop us s e inside stop =
    let left = length-drop s us in
    let part : e - s ≡ min 64 (length (drop s us)) = omega (arith, left, stop, inside) in
    let whole : 64 ≡ s + 64 - s = omega arith in
    ap (λ n. take n (drop s us)) part ∙ take_min 64 (drop s us) ∙ ap (λ n. take n (drop s us)) whole

pub weight_more : (ds : List ℕ) (s : ℕ) → weight (take (s + 64) ds) ≡ weight (take s ds) + weight (slice_range ds s (s + 64))
weight_more ds s =
    let first = sum_by-take-drop (λ d. d + 1) ds s in
    let both = sum_by-take-drop (λ d. d + 1) ds (s + 64) in
    let run = sum_by-take-drop (λ d. d + 1) (drop s ds) (s + 64 - s) in
    let part : s + (s + 64 - s) ≡ s + 64 = omega arith in
    let rest : weight (drop (s + 64 - s) (drop s ds)) ≡ weight (drop (s + 64) ds) = ap weight (drop-drop (s + 64 - s) s ds ∙ ap (λ n. drop n ds) part) in
    omega (arith, first, both, run, rest)

pub totals_more : (f : ℕ → ℕ) (ts us : List ℕ) (n w : ℕ) → length ts ≡ n → us ≡ ts ++ w ∷ [] → w ≡ f n → ((k : ℕ) → k < n → get_or ts k 0 ≡ f k) → (k : ℕ) → k < n + 1 → get_or us k 0 ≡ f k
totals_more f ts us n w count is last before k inside =
    ap (λ (vs : List ℕ). get_or vs k 0) is
    ∙ elim (cases_lt k n) [
      | inl lt ↦ get_or_append_left ts (w ∷ []) 0 k (omega (arith, lt, count)) ∙ before k lt
      | inr past ↦ let end : n ≡ k = omega (arith, past, inside) in get_or_push ts w 0 k (omega (arith, count, end)) ∙ last ∙ ap f end
    ]
