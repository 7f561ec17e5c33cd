-- The pieces of an apply, put together.
use Rattle.std.proofs.Common.{◌≡◌, ℕ, ℤ, ◌<◌, ◌==◌, ◌⊎◌, inl, inr, ◌&&◌, Bool, true, false, cond, Option, Some, None, List, [], ◌∷◌, ◌++◌, length, refl, sym, ap, ◌∙◌, subst, arith}
use Rattle.std.specs.List.{filter, flat_map, range_with_len}
use Rattle.std.specs.List.Sorted.{IsPermutation}
use Rattle.weighted_edges.specs.Edge.{Edge}
use Rattle.kernels.specs.FunctionStatementTree.{FunctionStatementsTree}
use Rattle.kernels.specs.State.{StateValue}
use Rattle.kernels.specs.Registers.{HasSizes}
use Rattle.crew.specs.declared.piece_results.Found.{Found}
use Rattle.crew.specs.Pieces.{AreAnswers}
use Rattle.edge_fold.specs.declared.apply_context.ApplyContext.{ApplyContext}
use Rattle.edge_fold.specs.declared.gathered.Gathered.{Gathered}
use Rattle.edge_fold.specs.declared.scratch.Scratch.{Scratch}
use Rattle.edge_fold.specs.Between.{edges_between}
use Rattle.edge_fold.specs.Ends.{IsEndTest}
use Rattle.edge_fold.specs.Folded.{AreKernels, HasFolded}
use Rattle.edge_fold.specs.Contributions.{column, IsReducedBy}
use Rattle.edge_fold.proofs.Orders.{folded_in_any_order}
use Rattle.edge_fold.proofs.Walks.{folded_along}
use Rattle.crew.specs.Partition.{AreEnds, piece_of}
use Rattle.crew.proofs.PieceLists.{pieces_are_the_list}
use Rattle.flat_snapshot.specs.Digraph.{Digraph, IsDigraph}
use Rattle.flat_snapshot.specs.Edge.{Ends, IsWithin, ends_eq, ends_of, weight_in}
use Rattle.flat_snapshot.specs.Neighbours.{sources_of}
use Rattle.edge_apply.specs.Pieces.{EachGathered}
use Rattle.edge_apply.proofs.Listed.{member_of_range, member_filtered, rises_filtered}
use Rattle.vertex_sets.proofs.Ascending.{rises_range}
use Rattle.kernels.specs.EdgeApply.{is_member}
use Rattle.std.proofs.lemmas.List.Elements.{filter-append}
use Rattle.std.proofs.lemmas.Bool.Decides.{Decides-eqb}
use Rattle.pull_engine.specs.declared.work.PullWork.{PullWork}
use Rattle.pull_engine.specs.Columns.{columns, passing}
use Rattle.apply_options.specs.declared.reduction.Reduction.{Reduction}
use Rattle.kernels.specs.Value.{entry}
use Rattle.pull_engine.specs.Pieces.{Answers, AnswersFor, GathersPiece, edges_into_piece}
use Rattle.pull_engine.specs.Ranges.{entry_after, shape_vector}
use Rattle.pull_engine.proofs.FoundParts.{ListParts}
use Rattle.edge_apply.proofs.Told.{told_in_piece}
use Rattle.edge_apply.proofs.Filtered.{has_first, has_later}
use Rattle.pull_engine.proofs.ColumnFolds.{columns-append, folded_columns}

-- tests that agree on the sources of a graph let the same edges through
agree_one : (p q : ℕ → Bool) (s : ℕ × ℤ) (S : List (ℕ × ℤ)) (b : Bool) → p s.0 ≡ q s.0 → passing p S ≡ passing q S → passing p (cond b (s ∷ S) S) ≡ passing q (cond b (s ∷ S) S)
agree_one p q s S true here more = ap (λ (c : Bool). cond c (s ∷ passing p S) (passing p S)) here ∙ ap (λ (ks : List (ℕ × ℤ)). cond (q s.0) (s ∷ ks) ks) more
agree_one p q s S false here more = more

sources_agree : (p q : ℕ → Bool) (v : ℕ) (es : List Edge) → ((ends : Ends) (w : ℤ) → weight_in ends es ≡ Some w → p ends.0 ≡ q ends.0) → passing p (sources_of v es) ≡ passing q (sources_of v es)
sources_agree p q v [] same = refl
sources_agree p q v (e ∷ es) same =
    agree_one p q (e.0, e.2) (sources_of v es) (e.1 == v) (same (ends_of e) e.2 (has_first e es))
    (sources_agree p q v es (λ ends w has. same ends _ (has_later (ends_eq (ends_of e) ends) e.2 w (weight_in ends es) has)))

pub columns_agree : (g : Digraph) (p q : ℕ → Bool) → IsDigraph g → ((v : ℕ) → v < g.vertices → p v ≡ q v) → (us : List ℕ) → columns p g.edges us ≡ columns q g.edges us
columns_agree g p q is same [] = refl
columns_agree g p q is same (u ∷ us) =
    ap (λ (ss : List (ℕ × ℤ)). column u ss ++ columns p g.edges us) (sources_agree p q u g.edges (λ ends w has. same ends.0 (is.within ends w has).0))
    ∙ ap (λ (ks : List Edge). column u (passing q (sources_of u g.edges)) ++ ks) (columns_agree g p q is same us)

-- a vertex to which an edge goes is one of the graph
found_first : (v : ℕ) (e : Edge) (es : List Edge) (same : Bool) → e.1 == v ≡ same → 0 < length (cond same ((e.0, e.2) ∷ sources_of v es) (sources_of v es))
    → ((e.1 ≡ v) ⊎ (0 < length (sources_of v es)))
found_first v e es true is some = inl ((Decides-eqb e.1 v).0 is)
found_first v e es false is some = inr some

pub destination_within : (n v : ℕ) (es : List Edge) → ((ends : Ends) (w : ℤ) → weight_in ends es ≡ Some w → IsWithin n ends) → 0 < length (sources_of v es) → v < n
destination_within n v [] within some = absurd (omega (arith, some))
destination_within n v (e ∷ es) within some = elim (found_first v e es (e.1 == v) refl some) [
  | inl at ↦ let here = (within (ends_of e) e.2 (has_first e es)).1 in omega (arith, at, here)
  | inr later ↦ destination_within n v es (λ ends w has. within ends _ (has_later (ends_eq (ends_of e) ends) e.2 w (weight_in ends es) has)) later
]

pub filtered_destinations : (g : Digraph) (to : ℕ → Bool) → IsDigraph g → (v : ℕ) → 0 < length (sources_of v g.edges) → is_member v (filter to (range_with_len 0 g.vertices)) ≡ to v
filtered_destinations g to is v some =
    let within : v < g.vertices = destination_within g.vertices v g.edges is.within some in
    member_filtered to v (range_with_len 0 g.vertices) ∙ ap (λ (b : Bool). b && to v) (member_of_range v g.vertices within)

-- the edges into the vertices of all pieces
columns_of_all : (from to : ℕ → Bool) (edges : List Edge) (part : ℕ → List ℕ) (ks : List ℕ)
    → flat_map (λ k. columns from edges (filter to (part k))) ks ≡ columns from edges (filter to (flat_map part ks))
columns_of_all from to edges part [] = refl
columns_of_all from to edges part (k ∷ ks) =
    ap (λ (es : List Edge). columns from edges (filter to (part k)) ++ es) (columns_of_all from to edges part ks)
    ∙ sym (columns-append from edges (filter to (part k)) (filter to (flat_map part ks)))
    ∙ ap (columns from edges) (sym (filter-append to (part k) (flat_map part ks)))

pub merged : (f : ApplyContext) (m : StateValue) (steps : List FunctionStatementsTree) (g : Digraph) (from to : ℕ → Bool) (ends us ks : List ℕ) (s : Scratch) → IsDigraph g → AreEnds 0 (length us) ends
    → us ≡ range_with_len 0 g.vertices
    → IsPermutation ks (range_with_len 1 (length ends))
    → HasFolded f m steps (flat_map (λ k. columns from g.edges (filter to (piece_of ends us k))) ks) s → HasFolded f m steps (edges_between from to g.edges) s
merged f m steps g from to ends us ks s is whole all same has =
    let part = piece_of ends us in
    let edges_of = λ (k : ℕ). columns from g.edges (filter to (part k)) in
    let every = columns_of_all from to g.edges part (range_with_len 1 (length ends)) ∙ ap (λ (vs : List ℕ). columns from g.edges (filter to vs)) (pieces_are_the_list ends us whole ∙ all) in
    folded_columns f m steps from to (filter to (range_with_len 0 g.vertices)) g.edges s (rises_filtered to 0 (range_with_len 0 g.vertices) (rises_range 0 g.vertices)) (filtered_destinations g to is)
    (folded_along f m steps (flat_map edges_of (range_with_len 1 (length ends))) (columns from g.edges (filter to (range_with_len 0 g.vertices))) s every
    (folded_in_any_order f m steps edges_of ks (range_with_len 1 (length ends)) s same has))

-- what the pieces answer, for one state
pub each_gathered : (w : PullWork) (fs : List (Found Gathered)) (m : StateValue) (steps : List FunctionStatementsTree) (from to : ℕ → Bool) → AreAnswers (GathersPiece w) fs
    → w.apply.vectors.now.vectors ≡ m.vectors → HasSizes w.apply.sizes.now m → AreKernels w.apply.first.now w.apply.second steps → IsEndTest w.apply.from m from → IsEndTest w.apply.to m to
    → EachGathered w.apply.flat.now.vertices m steps (edges_into_piece w from to) fs
each_gathered w [] m steps from to answers vectors sizes kernels is_from is_to = tt
each_gathered w (f ∷ fs) m steps from to answers vectors sizes kernels is_from is_to =
    (answers.0 m steps from to vectors sizes kernels is_from is_to, each_gathered w fs m steps from to answers.1 vectors sizes kernels is_from is_to)

-- the answers of pieces, where no common shape is known
pub gathers_pieces : (w : PullWork) (fs : List (Found Gathered)) → shape_vector w.shape ≡ None → AreAnswers (Answers w) fs → AreAnswers (GathersPiece w) fs
gathers_pieces w [] none answers = tt
gathers_pieces w (f ∷ fs) none answers = (subst (λ (o : Option ℕ). AnswersFor o w f.piece f.out) none answers.0.0, gathers_pieces w fs none answers.1)

-- what pieces of a pull of a shape that is known give
pub pulled_parts : (w : PullWork) (fs : List (Found Gathered)) (y : ℕ) → shape_vector w.shape ≡ Some y → AreAnswers (Answers w) fs
    → (m : StateValue) (steps : List FunctionStatementsTree) (from to : ℕ → Bool) → w.apply.vectors.now.vectors ≡ m.vectors → HasSizes w.apply.sizes.now m
    → AreKernels w.apply.first.now w.apply.second steps → IsEndTest w.apply.from m from → IsEndTest w.apply.to m to
    → (r : Reduction) → IsReducedBy r y m steps
    → ListParts (told_in_piece (entry m.vectors y) (entry_after m steps y r (edges_between from to w.apply.flat.now.edges)) w.partition) fs
pulled_parts w [] y at answers m steps from to vectors sizes kernels is_from is_to r by = tt
pulled_parts w (f ∷ fs) y at answers m steps from to vectors sizes kernels is_from is_to r by = (
  subst (λ (o : Option ℕ). AnswersFor o w f.piece f.out) at answers.0.0 m steps from to vectors sizes kernels is_from is_to r by,
  pulled_parts w fs y at answers.1 m steps from to vectors sizes kernels is_from is_to r by,
)
