-- The ends that the edges of a graph may have, and the edges between those of them that have a weight.
use Rattle.std.proofs.Common.{◌≡◌, ℕ, zero, suc, ◌+◌, ◌*◌, ◌^◌, ◌<◌, ◌≤◌, ℤ, leb, Bool, true, false, ◌||◌, Option, Some, None, unwrap_or, if◌then◌else◌, inl, inr, List, [], ◌∷◌, ◌++◌, refl, sym, ap}
use Rattle.std.proofs.Common.{◌∙◌, subst, arith}
use Rattle.std.proofs.lemmas.Bool.{cases_Bool, cases_lt, and_parts, or_left, or_right, leb-true}
use Rattle.std.proofs.lemmas.Grind.{flat_map-append}
use Rattle.std.specs.List.{flat_map, list_any}
use Rattle.weighted_edges.specs.Edge.{Edge}
use Rattle.tree_batch.specs.declared.batch.Entry.{Entry}
use Rattle.tree_batch.specs.Edge.{Ends, index, ends_eq, weight_in, edge_at, EdgesRise, IsAscending, IsWithin, numbers_from, ends_from, all_ends, decision, vertices_after, misfits, weight_after}
use Rattle.tree_batch.specs.inside.Entry.{AreEdgesAfter}
use Rattle.tree_batch.specs.Digraph.{Digraph, IsDigraph, is_vertex_count, graph_after}
use Rattle.tree_batch.proofs.Rising.{ends_eq-refl, ends_eq-true, rises_from, rises_wider, rises_joined, same_edges}
use Rattle.tree_batch.proofs.Deciding.{decided_within, batch_within, count_after}

-- the edges between those ends that have a weight
abbrev pub weighed : (Ends → Option ℤ) → List Ends → List Edge
weighed f ps = flat_map (λ p. edge_at p (f p)) ps

-- ends are among others
abbrev pub are_among : List Ends → Ends → Bool
are_among ps p = list_any (λ q. ends_eq q p) ps

-- an edge in front, if there is one
rises_one : (low high : ℕ) (p : Ends) (o : Option ℤ) (es : List Edge) → low ≤ index p → p.1 < 2 ^ 32 → EdgesRise (index p + 1) high es → EdgesRise low high (edge_at p o ++ es)
rises_one low high p None es le small h = rises_from (index p + 1) low high es (omega arith) h
rises_one low high p (Some w) es le small h = (le, small, h)

module _ (f : Ends → Option ℤ) where
  -- a row of edges rises
  rises_row : (u a k : ℕ) → a + k ≤ 2 ^ 32 → EdgesRise (index (u, a)) (index (u, a) + k) (weighed f (ends_from u (numbers_from a k)))
  rises_row u a zero fits = omega arith
  rises_row u a (suc k) fits =
      rises_one (index (u, a)) (index (u, a) + suc k) (u, a) (f (u, a)) (weighed f (ends_from u (numbers_from (a + 1) k))) (omega arith) (omega arith)
      (rises_from (index (u, a + 1)) (index (u, a) + 1) (index (u, a) + suc k) _ (omega arith)
      (rises_wider (index (u, a + 1)) (index (u, a + 1) + k) (index (u, a) + suc k) _ (omega arith) (rises_row u (a + 1) k (omega arith))))

  abbrev rows : ℕ → ℕ → ℕ → List Ends
  rows n u k = flat_map (λ v. ends_from v (numbers_from 0 n)) (numbers_from u k)

  rises_rows : (n u k : ℕ) → n ≤ 2 ^ 32 → EdgesRise (u * 2 ^ 32) ((u + k) * 2 ^ 32) (weighed f (rows n u k))
  rises_rows n u zero fits = omega arith
  rises_rows n u (suc k) fits =
      subst (EdgesRise (u * 2 ^ 32) ((u + suc k) * 2 ^ 32)) (sym (flat_map-append (λ p. edge_at p (f p)) (ends_from u (numbers_from 0 n)) (rows n (u + 1) k)))
      (rises_joined (u * 2 ^ 32) ((u + 1) * 2 ^ 32) ((u + suc k) * 2 ^ 32) (weighed f (ends_from u (numbers_from 0 n))) (weighed f (rows n (u + 1) k))
      (rises_from (index (u, 0)) (u * 2 ^ 32) ((u + 1) * 2 ^ 32) _ (omega arith) (rises_wider (index (u, 0)) (index (u, 0) + n) ((u + 1) * 2 ^ 32) _ (omega arith) (rises_row u 0 n (omega arith))))
      (rises_wider ((u + 1) * 2 ^ 32) ((u + 1 + k) * 2 ^ 32) ((u + suc k) * 2 ^ 32) _ (omega arith) (rises_rows n (u + 1) k fits)))

  pub rises_all : (n : ℕ) → n ≤ 2 ^ 32 → IsAscending (weighed f (all_ends n))
  unfolding all_ends
  rises_all n fits = rises_wider 0 ((0 + n) * 2 ^ 32) (2 ^ 64) (weighed f (rows n 0 n)) (omega arith) (rises_rows n 0 n fits)

  -- ends that are among them have their weight, if there is one
  pub weight_in-weighed : (ps : List Ends) (p : Ends) → weight_in p (weighed f ps) ≡ (if are_among ps p then f p else None)
  weight_in-weighed [] p = refl
  weight_in-weighed (q ∷ ps) p = elim (cases_Bool (ends_eq q p)) [
    | inl here ↦ rw (here) (ap (λ r. weight_in p (edge_at q (f r) ++ weighed f ps)) (ends_eq-true q p here) ∙ by_weight here (weight_in-weighed ps p) (f p) refl)
    | inr other ↦ rw (other) (passed_over other (f q) ∙ weight_in-weighed ps p)
  ]
    where
      passed_over : ends_eq q p ≡ false → (o : Option ℤ) → weight_in p (edge_at q o ++ weighed f ps) ≡ weight_in p (weighed f ps)
      passed_over other None = refl
      passed_over other (Some w) = rw (other) refl

      by_rest : (o : Option ℤ) (b : Bool) → (if b then o else o) ≡ o
      by_rest o true = refl
      by_rest o false = refl

      by_weight : ends_eq q p ≡ true → weight_in p (weighed f ps) ≡ (if are_among ps p then f p else None) → (o : Option ℤ) → f p ≡ o → weight_in p (edge_at q o ++ weighed f ps) ≡ o
      by_weight here rest None is = rest ∙ ap (λ r. if are_among ps p then r else None) is ∙ by_rest None (are_among ps p)
      by_weight here rest (Some w) is = rw (here) refl

among-append : (xs ys : List Ends) (p : Ends) → are_among (xs ++ ys) p ≡ (are_among xs p || are_among ys p)
among-append [] ys p = refl
among-append (x ∷ xs) ys p = elim (cases_Bool (ends_eq x p)) [
  | inl here ↦ rw (here) refl
  | inr not_here ↦ rw (not_here) (among-append xs ys p)
]

-- all ends within are in their row, and their row is there
in_row : (u a k v : ℕ) → a ≤ v → v < a + k → are_among (ends_from u (numbers_from a k)) (u, v) ≡ true
in_row u a zero v le lt = absurd (omega arith)
in_row u a (suc k) v le lt = elim (cases_lt a v) [
  | inl later ↦ or_right (ends_eq (u, a) (u, v)) _ (in_row u (a + 1) k v (omega arith) (omega arith))
  | inr here ↦ let is : a ≡ v = omega arith in or_left (ends_eq (u, a) (u, v)) _ (subst (λ w. ends_eq (u, a) (u, w) ≡ true) is (ends_eq-refl (u, a)))
]

abbrev all_rows : ℕ → ℕ → ℕ → List Ends
all_rows n u k = flat_map (λ v. ends_from v (numbers_from 0 n)) (numbers_from u k)

in_rows : (n a k : ℕ) (p : Ends) → a ≤ p.0 → p.0 < a + k → p.1 < n → are_among (all_rows n a k) p ≡ true
in_rows n a zero p le lt within = absurd (omega arith)
in_rows n a (suc k) p le lt within =
    among-append (ends_from a (numbers_from 0 n)) (all_rows n (a + 1) k) p ∙ elim (cases_lt a p.0) [
      | inl later ↦ or_right (are_among (ends_from a (numbers_from 0 n)) p) _ (in_rows n (a + 1) k p (omega arith) (omega arith) within)
      | inr here ↦ let is : p.0 ≡ a = omega arith in or_left (are_among (ends_from a (numbers_from 0 n)) p) _
          (subst (λ w. are_among (ends_from w (numbers_from 0 n)) p ≡ true) is (in_row p.0 0 n p.1 (omega arith) (omega arith)))
    ]

pub in_all : (n : ℕ) (p : Ends) → IsWithin n p → are_among (all_ends n) p ≡ true
unfolding all_ends
in_all n p within = in_rows n 0 n p (omega arith) (omega (arith, within.0)) within.1

-- ends within have their weight
pub weight_within : (f : Ends → Option ℤ) (n : ℕ) (p : Ends) → IsWithin n p → weight_in p (weighed f (all_ends n)) ≡ f p
weight_within f n p within = weight_in-weighed f (all_ends n) p ∙ rw (in_all n p within) refl

pub few_vertices : (n : ℕ) → is_vertex_count n ≡ true → n ≤ 16777216
few_vertices n h = let parts = and_parts (leb 1 n) (leb n 16777216) h in leb-true n 16777216 parts.1

-- an edge that is there after a batch is within the graph after it
pub after_within : (g : Digraph) (batch : List Entry) (p : Ends) (w : ℤ) → IsDigraph g → misfits g.vertices batch ≡ false → weight_after g.edges batch p ≡ Some w
    → IsWithin (vertices_after g.vertices batch) p
after_within g batch p w ok fit there = by_decision (decision batch p) refl
  where
    by_decision : (o : Option (Option ℤ)) → decision batch p ≡ o → IsWithin (vertices_after g.vertices batch) p
    by_decision None is =
        let before : IsWithin g.vertices p = ok.within p w (sym (ap (λ o. unwrap_or o (weight_in p g.edges)) is) ∙ there) in
        (omega (arith, before.0), omega (arith, before.1))
    by_decision (Some b) is = decided_within (vertices_after g.vertices batch) batch p b (batch_within g.vertices batch fit) is

-- the edges after a batch that are found in any way are those of the definition
pub edges_after_are : (g : Digraph) (batch : List Entry) (new : List Edge) → IsDigraph g → misfits g.vertices batch ≡ false → AreEdgesAfter g.edges batch new → new ≡ (graph_after g batch).edges
edges_after_are g batch new ok fit are =
    let n : ℕ = vertices_after g.vertices batch in
    let f : Ends → Option ℤ = weight_after g.edges batch in
    same_edges 0 0 (2 ^ 64) (2 ^ 64) new (weighed f (all_ends n)) are.ascending (rises_all f n (omega (arith, few_vertices n (count_after g.vertices batch ok.count fit))))
    (λ p. are.weights p ∙ sym (weight_in-weighed f (all_ends n) p ∙ passing n p (f p) refl))
  where
    passing : (n : ℕ) (p : Ends) (o : Option ℤ) → weight_after g.edges batch p ≡ o
        → (if are_among (all_ends (vertices_after g.vertices batch)) p then weight_after g.edges batch p else None) ≡ weight_after g.edges batch p
    passing n p None is = elim (cases_Bool (are_among (all_ends (vertices_after g.vertices batch)) p)) [
      | inl there ↦ rw (there) refl
      | inr absent ↦ rw (absent) (sym is)
    ]
    passing n p (Some w) is = rw (in_all (vertices_after g.vertices batch) p (after_within g batch p w ok fit is)) refl

-- and they are a graph's
pub digraph_after : (g : Digraph) (batch : List Entry) (new : List Edge) → IsDigraph g → misfits g.vertices batch ≡ false → AreEdgesAfter g.edges batch new
    → IsDigraph (record { vertices = vertices_after g.vertices batch; edges = new })
digraph_after g batch new ok fit are = record {
  count = count_after g.vertices batch ok.count fit;
  ascending = are.ascending;
  within = λ p w there. after_within g batch p w ok fit (sym (are.weights p) ∙ there);
}
