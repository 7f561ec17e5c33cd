-- The pieces of an apply, put together.
use Rattle.std.proofs.Common.{◌≡◌, ℕ, ℤ, Bool, true, false, List, [], ◌∷◌, ◌++◌, length, refl, sym, ap, ◌∙◌}
use Rattle.std.proofs.lemmas.List.Elements.{filter-append}
use Rattle.std.specs.List.{filter, flat_map, range_with_len}
use Rattle.std.specs.List.Sorted.{IsPermutation}
use Rattle.weighted_edges.specs.Edge.{Edge}
use Rattle.apply_options.specs.declared.reduction.Reduction.{Reduction}
use Rattle.kernels.specs.FunctionStatementTree.{FunctionStatementsTree}
use Rattle.kernels.specs.State.{StateValue}
use Rattle.edge_fold.specs.declared.apply_context.ApplyContext.{ApplyContext}
use Rattle.edge_fold.specs.declared.scratch.Scratch.{Scratch}
use Rattle.edge_fold.specs.Between.{edges_between}
use Rattle.edge_fold.specs.Folded.{HasFolded}
use Rattle.edge_fold.specs.Contributions.{all_given, given_on, reduced_at}
use Rattle.edge_fold.proofs.Orders.{folded_alike, groups_in_any_order}
use Rattle.crew.specs.Partition.{AreEnds, piece_of}
use Rattle.crew.proofs.PieceLists.{pieces_are_the_list}
use Rattle.push_engine.specs.Rows.{rows}
use Rattle.push_engine.specs.inside.Sources.{AreSources}
use Rattle.push_engine.specs.Sources.{passing_in}
use Rattle.push_engine.proofs.RowFolds.{agree_on_rows, rows-append, rows_to_are_edges}
use Rattle.edge_apply.proofs.Listed.{rising, rises_filtered}
use Rattle.vertex_sets.proofs.Ascending.{Rises}

-- the edges of all pieces
passing_in-append : (tested : Bool) (from : ℕ → Bool) (us vs : List ℕ) → passing_in tested from (us ++ vs) ≡ passing_in tested from us ++ passing_in tested from vs
passing_in-append true from us vs = filter-append from us vs
passing_in-append false from us vs = refl

nothing_passes : (tested : Bool) (from : ℕ → Bool) → passing_in tested from [] ≡ []
nothing_passes true from = refl
nothing_passes false from = refl

abbrev edges_in : (edges : List Edge) (tested : Bool) (from to : ℕ → Bool) → List ℕ → List Edge
edges_in edges tested from to us = filter (λ e. to e.1) (rows edges (passing_in tested from us))

edges_in-append : (edges : List Edge) (tested : Bool) (from to : ℕ → Bool) (us vs : List ℕ)
    → edges_in edges tested from to (us ++ vs) ≡ edges_in edges tested from to us ++ edges_in edges tested from to vs
edges_in-append edges tested from to us vs =
    ap (λ ks. filter (λ (e : Edge). to e.1) (rows edges ks)) (passing_in-append tested from us vs)
    ∙ ap (filter (λ (e : Edge). to e.1)) (rows-append edges (passing_in tested from us) (passing_in tested from vs))
    ∙ filter-append (λ (e : Edge). to e.1) (rows edges (passing_in tested from us)) (rows edges (passing_in tested from vs))

edges_of_all : (edges : List Edge) (tested : Bool) (from to : ℕ → Bool) (part : ℕ → List ℕ) (ks : List ℕ)
    → flat_map (λ k. edges_in edges tested from to (part k)) ks ≡ edges_in edges tested from to (flat_map part ks)
edges_of_all edges tested from to part [] = sym (ap (λ ks. filter (λ (e : Edge). to e.1) (rows edges ks)) (nothing_passes tested from))
edges_of_all edges tested from to part (k ∷ ks) =
    ap (λ es. edges_in edges tested from to (part k) ++ es) (edges_of_all edges tested from to part ks) ∙ sym (edges_in-append edges tested from to (part k) (flat_map part ks))

rises_passing : (tested : Bool) (from : ℕ → Bool) (us : List ℕ) → Rises 0 us → Rises 0 (passing_in tested from us)
rises_passing true from us up = rises_filtered from 0 us up
rises_passing false from us up = up

-- those of all sources are the edges between the ends
all_alike : (r : Reduction) (x v : ℕ) (g : Edge → List (ℕ × Reduction × ℤ)) (edges : List Edge) (tested : Bool) (from to : ℕ → Bool) (us : List ℕ) → AreSources edges from tested us → (n : ℤ)
    → reduced_at r v n (given_on x g (edges_in edges tested from to us)) ≡ reduced_at r v n (given_on x g (edges_between from to edges))
all_alike r x v g edges tested from to us are n =
    let ks = passing_in tested from us in
    rows_to_are_edges r x v g from to ks (rises_passing tested from us (rising 0 us are.ascending)) edges (agree_on_rows from ks edges are.passing) n

-- what is found of the pieces, in whatever order, is what the edges between the ends give
pub merged_alike : (r : Reduction) (x v : ℕ) (g : Edge → List (ℕ × Reduction × ℤ)) (edges : List Edge) (tested : Bool) (from to : ℕ → Bool) (ends us ks : List ℕ) → AreEnds 0 (length us) ends
    → AreSources edges from tested us
    → IsPermutation ks (range_with_len 1 (length ends)) → (n : ℤ)
    → reduced_at r v n (given_on x g (flat_map (λ k. edges_in edges tested from to (piece_of ends us k)) ks)) ≡ reduced_at r v n (given_on x g (edges_between from to edges))
merged_alike r x v g edges tested from to ends us ks whole are same n =
    let part = piece_of ends us in
    let edges_of = λ (k : ℕ). edges_in edges tested from to (part k) in
    let all = edges_of_all edges tested from to part (range_with_len 1 (length ends)) ∙ ap (edges_in edges tested from to) (pieces_are_the_list ends us whole) in
    groups_in_any_order r x v g edges_of ks (range_with_len 1 (length ends)) same n
    ∙ ap (λ (es : List Edge). reduced_at r v n (given_on x g es)) all
    ∙ all_alike r x v g edges tested from to us are n

pub merged : (f : ApplyContext) (m : StateValue) (steps : List FunctionStatementsTree) (edges : List Edge) (tested : Bool) (from to : ℕ → Bool) (ends us ks : List ℕ) (s : Scratch)
    → AreEnds 0 (length us) ends → AreSources edges from tested us
    → IsPermutation ks (range_with_len 1 (length ends))
    → HasFolded f m steps (flat_map (λ k. edges_in edges tested from to (piece_of ends us k)) ks) s → HasFolded f m steps (edges_between from to edges) s
merged f m steps edges tested from to ends us ks s whole are same has =
    let edges_of = λ (k : ℕ). edges_in edges tested from to (piece_of ends us k) in
    folded_alike f m steps (flat_map edges_of ks) (edges_between from to edges) s (λ x v r n. merged_alike r x v (all_given m steps) edges tested from to ends us ks whole are same n) has
