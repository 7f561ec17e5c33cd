-- Edges may come in any order.
use Rattle.std.proofs.Common.{◌≡◌, ℕ, ℤ, List, [], ◌∷◌, ◌++◌, refl, sym, ap, ◌∙◌}
use Rattle.std.specs.List.{flat_map, fold}
use Rattle.std.specs.List.Sorted.{IsPermutation}
use Rattle.weighted_edges.specs.Edge.{Edge}
use Rattle.apply_options.specs.declared.reduction.Reduction.{Reduction}
use Rattle.typed_tree.specs.FunctionStatementTree.{FunctionStatementsTree}
use Rattle.algorithm_meaning.specs.State.{StateValue}
use Rattle.algorithm_meaning.proofs.Lists.{fold-permutation}
use Rattle.edge_fold.specs.declared.apply_context.ApplyContext.{ApplyContext}
use Rattle.edge_fold.specs.declared.scratch.Scratch.{Scratch}
use Rattle.edge_fold.specs.Folded.{HasFolded}
use Rattle.edge_fold.specs.Contributions.{all_given, given_on, reduced_at}
use Rattle.edge_fold.specs.FoldStarts.{first_entry}
use Rattle.edge_fold.proofs.Folds.{given_on-append, reduced_at-append, reduced_at-swap}

-- edges that give vertices the same
pub folded_alike : (f : ApplyContext) (m : StateValue) (steps : List FunctionStatementsTree) (es fs : List Edge) (s : Scratch)
    → ((x v : ℕ) (r : Reduction) (n : ℤ) → reduced_at r v n (given_on x (all_given m steps) es) ≡ reduced_at r v n (given_on x (all_given m steps) fs))
    → HasFolded f m steps es s → HasFolded f m steps fs s
folded_alike f m steps es fs s alike has x r by =
    let was = has x r by in
    record { entries = λ v h l. was.entries v h l ∙ alike x v r (first_entry f x v h); reduction = was.reduction }

-- edges that come last
pub folded_more_alike : (f : ApplyContext) (m : StateValue) (steps : List FunctionStatementsTree) (es more other : List Edge) (s : Scratch)
    → ((x : ℕ) → given_on x (all_given m steps) more ≡ given_on x (all_given m steps) other) → HasFolded f m steps (es ++ more) s → HasFolded f m steps (es ++ other) s
folded_more_alike f m steps es more other s alike =
    let g = all_given m steps in
    folded_alike f m steps (es ++ more) (es ++ other) s
    (λ x v r n. ap (λ (gs : List (ℕ × ℤ)). reduced_at r v n gs) (given_on-append x g es more ∙ ap (λ (gs : List (ℕ × ℤ)). given_on x g es ++ gs) (alike x) ∙ sym (given_on-append x g es other)))

-- groups of edges, one after the other
module _ {K : Type 0} (r : Reduction) (x v : ℕ) (g : Edge → List (ℕ × Reduction × ℤ)) (edges_of : K → List Edge) where
  group : ℤ → K → ℤ
  group n k = reduced_at r v n (given_on x g (edges_of k))

  group_by_group : (ks : List K) (n : ℤ) → reduced_at r v n (given_on x g (flat_map edges_of ks)) ≡ fold group n ks
  unfolding group
  group_by_group [] n = refl
  group_by_group (k ∷ ks) n =
      ap (λ (gs : List (ℕ × ℤ)). reduced_at r v n gs) (given_on-append x g (edges_of k) (flat_map edges_of ks))
      ∙ reduced_at-append r v n (given_on x g (edges_of k)) (given_on x g (flat_map edges_of ks))
      ∙ group_by_group ks (group n k)

  groups_swap : (n : ℤ) (k l : K) → group (group n k) l ≡ group (group n l) k
  unfolding group
  groups_swap n k l = reduced_at-swap r v n (given_on x g (edges_of k)) (given_on x g (edges_of l))

  pub groups_in_any_order : (ks ls : List K) → IsPermutation ks ls → (n : ℤ)
      → reduced_at r v n (given_on x g (flat_map edges_of ks)) ≡ reduced_at r v n (given_on x g (flat_map edges_of ls))
  groups_in_any_order ks ls same n = group_by_group ks n ∙ fold-permutation K ℤ group groups_swap n ks ls same ∙ sym (group_by_group ls n)

pub folded_in_any_order : {K : Type 0} (f : ApplyContext) (m : StateValue) (steps : List FunctionStatementsTree) (edges_of : K → List Edge) (ks ls : List K) (s : Scratch) → IsPermutation ks ls
    → HasFolded f m steps (flat_map edges_of ks) s → HasFolded f m steps (flat_map edges_of ls) s
folded_in_any_order f m steps edges_of ks ls s same =
    folded_alike f m steps (flat_map edges_of ks) (flat_map edges_of ls) s (λ x v r n. groups_in_any_order r x v (all_given m steps) edges_of ks ls same n)

-- edge by edge
one_by_one : (es : List Edge) → flat_map (λ e. e ∷ []) es ≡ es
one_by_one [] = refl
one_by_one (e ∷ es) = ap (λ fs. e ∷ fs) (one_by_one es)

pub edges_in_any_order : (f : ApplyContext) (m : StateValue) (steps : List FunctionStatementsTree) (es fs : List Edge) (s : Scratch) → IsPermutation es fs → HasFolded f m steps es s
    → HasFolded f m steps fs s
edges_in_any_order f m steps es fs s same has =
    folded_alike f m steps es fs s
    (λ x v r n.
    let g = all_given m steps in
    let given = λ (ds : List Edge). reduced_at r v n (given_on x g ds) in
    ap given (sym (one_by_one es)) ∙ groups_in_any_order r x v g (λ e. e ∷ []) es fs same n ∙ ap given (one_by_one fs))
    has
