-- How far a walk has come, where each item that it comes by brings edges.
use Rattle.std.proofs.Common.{◌≡◌, ℕ, Bool, List, [], ◌++◌, take, drop, refl, sym, ap, ◌∙◌, subst, append_assoc}
use Rattle.std.proofs.lemmas.List.{append-nil, take-append-drop}
use Rattle.std.proofs.lemmas.List.Elements.{filter-append}
use Rattle.std.specs.List.{filter}
use Rattle.weighted_edges.specs.Edge.{Edge}
use Rattle.typed_tree.specs.FunctionStatementTree.{FunctionStatementsTree}
use Rattle.algorithm_meaning.specs.State.{StateValue}
use Rattle.kernels.specs.declared.endpoint_filter.EndpointFilter.{EndpointFilter}
use Rattle.edge_fold.specs.declared.apply_context.ApplyContext.{ApplyContext}
use Rattle.edge_fold.specs.declared.scratch.Scratch.{Scratch}
use Rattle.edge_fold.specs.Ends.{IsTest}
use Rattle.edge_fold.specs.Folded.{IsContextOf, HasFolded}

pub folded_along : (f : ApplyContext) (m : StateValue) (steps : List FunctionStatementsTree) (es fs : List Edge) (s : Scratch) → es ≡ fs → HasFolded f m steps es s → HasFolded f m steps fs s
folded_along f m steps es fs s e has = subst (λ (ks : List Edge). HasFolded f m steps ks s) e has

-- the first items, and what is left after them
pub parts_of : {K : Type 0} (n : ℕ) (all part rest : List K) → part ≡ take n all → rest ≡ drop n all → part ++ rest ≡ all
parts_of n all part rest first behind = ap (λ ks. ks ++ rest) first ∙ ap (λ ks. take n all ++ ks) behind ∙ take-append-drop n all

-- after a call the scratch has folded these edges too
abbrev pub FoldsMore : ApplyContext → List Edge → (before after : Scratch) → Type 0
FoldsMore f more s t = (m : StateValue) (steps : List FunctionStatementsTree) (es : List Edge) → IsContextOf f m steps → HasFolded f m steps es s → HasFolded f m steps (es ++ more) t

-- the edges of items in a row are those of the first ones, and then those of the others
abbrev pub InRow : {K : Type 0} → (edges_of : List K → List Edge) → Type 0
InRow {K} edges_of = (us vs : List K) → edges_of (us ++ vs) ≡ edges_of us ++ edges_of vs

-- the items whose edges are folded, and those that are left
pub record HasWalked {K : Type 0} (f : ApplyContext) (edges_of : List K → List Edge) (all left : List K) (start s : Scratch) : Type 0 where
  pub done : List K
  pub split : done ++ left ≡ all
  pub folded : FoldsMore f (edges_of done) start s

pub walk_begun : {K : Type 0} (f : ApplyContext) (edges_of : List K → List Edge) (all : List K) (s : Scratch) → edges_of [] ≡ [] → HasWalked f edges_of all all s s
walk_begun f edges_of all s none = record {
  done = [];
  split = refl;
  folded = λ m steps es are has. folded_along f m steps es (es ++ edges_of []) s (sym (ap (λ ks. es ++ ks) none ∙ append-nil es)) has;
}

pub walk_more : {K : Type 0} (f : ApplyContext) (edges_of : List K → List Edge) (all left part rest : List K) (start s t : Scratch) → InRow edges_of → part ++ rest ≡ left
    → FoldsMore f (edges_of part) s t → HasWalked f edges_of all left start s → HasWalked f edges_of all rest start t
walk_more f edges_of all left part rest start s t in_row parts more w = record {
  done = w.done ++ part;
  split = append_assoc w.done part rest ∙ ap (λ ks. w.done ++ ks) parts ∙ w.split;
  folded = λ m steps es are has.
      folded_along f m steps ((es ++ edges_of w.done) ++ edges_of part) (es ++ edges_of (w.done ++ part)) t
      (append_assoc es (edges_of w.done) (edges_of part) ∙ ap (λ ks. es ++ ks) (sym (in_row w.done part)))
      (more m steps (es ++ edges_of w.done) are (w.folded m steps es are has));
}

pub walk_done : {K : Type 0} (f : ApplyContext) (edges_of : List K → List Edge) (all left : List K) (start s : Scratch) → left ≡ [] → HasWalked f edges_of all left start s
    → FoldsMore f (edges_of all) start s
walk_done f edges_of all left start s none w m steps es are has =
    let whole = sym (append-nil w.done) ∙ ap (λ ks. w.done ++ ks) (sym none) ∙ w.split in
    folded_along f m steps (es ++ edges_of w.done) (es ++ edges_of all) s (ap (λ ks. es ++ edges_of ks) whole) (w.folded m steps es are has)

-- how far a walk has come if only the items that an end lets through bring edges
abbrev pub FoldsPassing : EndpointFilter → ApplyContext → (edges_of : List ℕ → List Edge) → List ℕ → (before after : Scratch) → Type 0
FoldsPassing end f edges_of us s t = (m : StateValue) (steps : List FunctionStatementsTree) (test : ℕ → Bool) (es : List Edge) → IsContextOf f m steps → IsTest end m test
    → HasFolded f m steps es s → HasFolded f m steps (es ++ edges_of (filter test us)) t

pub record HasPassed (end : EndpointFilter) (f : ApplyContext) (edges_of : List ℕ → List Edge) (all left : List ℕ) (start s : Scratch) : Type 0 where
  pub done : List ℕ
  pub split : done ++ left ≡ all
  pub folded : FoldsPassing end f edges_of done start s

pub pass_begun : (end : EndpointFilter) (f : ApplyContext) (edges_of : List ℕ → List Edge) (all : List ℕ) (s : Scratch) → edges_of [] ≡ [] → HasPassed end f edges_of all all s s
pass_begun end f edges_of all s none = record {
  done = [];
  split = refl;
  folded = λ m steps test es are is has. folded_along f m steps es (es ++ edges_of []) s (sym (ap (λ ks. es ++ ks) none ∙ append-nil es)) has;
}

pub pass_more : (end : EndpointFilter) (f : ApplyContext) (edges_of : List ℕ → List Edge) (all left part rest kept : List ℕ) (start s t : Scratch) → InRow edges_of → part ++ rest ≡ left
    → ((m : StateValue) (steps : List FunctionStatementsTree) (test : ℕ → Bool) → IsContextOf f m steps → IsTest end m test → kept ≡ filter test part)
    → FoldsMore f (edges_of kept) s t → HasPassed end f edges_of all left start s → HasPassed end f edges_of all rest start t
pass_more end f edges_of all left part rest kept start s t in_row parts are_kept more w = record {
  done = w.done ++ part;
  split = append_assoc w.done part rest ∙ ap (λ ks. w.done ++ ks) parts ∙ w.split;
  folded = λ m steps test es are is has.
      folded_along f m steps ((es ++ edges_of (filter test w.done)) ++ edges_of kept) (es ++ edges_of (filter test (w.done ++ part))) t
      (append_assoc es (edges_of (filter test w.done)) (edges_of kept)
      ∙ ap (λ ks. es ++ ks) (ap (λ ks. edges_of (filter test w.done) ++ edges_of ks) (are_kept m steps test are is)
      ∙ sym (in_row (filter test w.done) (filter test part)) ∙ ap edges_of (sym (filter-append test w.done part))))
      (more m steps (es ++ edges_of (filter test w.done)) are (w.folded m steps test es are is has));
}

pub pass_done : (end : EndpointFilter) (f : ApplyContext) (edges_of : List ℕ → List Edge) (all left : List ℕ) (start s : Scratch) → left ≡ [] → HasPassed end f edges_of all left start s
    → FoldsPassing end f edges_of all start s
pass_done end f edges_of all left start s none w m steps test es are is has =
    let whole = sym (append-nil w.done) ∙ ap (λ ks. w.done ++ ks) (sym none) ∙ w.split in
    folded_along f m steps (es ++ edges_of (filter test w.done)) (es ++ edges_of (filter test all)) s (ap (λ ks. es ++ edges_of (filter test ks)) whole) (w.folded m steps test es are is has)
