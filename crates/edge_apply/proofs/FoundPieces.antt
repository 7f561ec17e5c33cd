-- Pieces of an apply, one after another.
use Rattle.std.proofs.Common.{◌≡◌, ℕ, zero, suc, ◌+◌, ◌<◌, List, [], ◌∷◌, ◌++◌, length, get_or, take, sym, ap, ◌∙◌, subst, arith, append_assoc}
use Rattle.std.proofs.lemmas.List.{append-nil, take_more}
use Rattle.std.specs.List.{flat_map}
use Rattle.weighted_edges.specs.Edge.{Edge}
use Rattle.kernels.specs.FunctionStatementTree.{FunctionStatementsTree}
use Rattle.kernels.specs.State.{StateValue}
use Rattle.crew.specs.declared.piece_results.Found.{Found}
use Rattle.crew.specs.Pieces.{pieces_of}
use Rattle.edge_fold.specs.declared.gathered.Gathered.{Gathered}
use Rattle.edge_fold.specs.Gathered.{AllAreNonDescending, AreGathered}
use Rattle.edge_apply.specs.Pieces.{EachAscending, EachGathered}

-- what is found of one piece more
pub gathered_at : (n : ℕ) (m : StateValue) (steps : List FunctionStatementsTree) (edges_of : ℕ → List Edge) (fs : List (Found Gathered)) (i : ℕ) (f : Found Gathered)
    → EachGathered n m steps edges_of fs → i < length fs → f ≡ get_or fs i f → AreGathered n m steps (edges_of f.piece) f.out
gathered_at n m steps edges_of [] i f each l is = absurd (omega (arith, l))
gathered_at n m steps edges_of (g ∷ fs) zero f each l is = subst (λ (h : Found Gathered). AreGathered n m steps (edges_of h.piece) h.out) (sym is) each.0
gathered_at n m steps edges_of (g ∷ fs) (suc i) f each l is = gathered_at n m steps edges_of fs i f each.1 (omega (arith, l)) is

pieces_of-push : (edges_of : ℕ → List Edge) (fs : List (Found Gathered)) (f : Found Gathered) → flat_map edges_of (pieces_of (fs ++ f ∷ [])) ≡ flat_map edges_of (pieces_of fs) ++ edges_of f.piece
pieces_of-push edges_of [] f = append-nil (edges_of f.piece)
pieces_of-push edges_of (g ∷ fs) f =
    ap (λ es. edges_of g.piece ++ es) (pieces_of-push edges_of fs f) ∙ sym (append_assoc (edges_of g.piece) (flat_map edges_of (pieces_of fs)) (edges_of f.piece))

pub next_piece : (edges_of : ℕ → List Edge) (fs : List (Found Gathered)) (i : ℕ) (f : Found Gathered) → i < length fs → f ≡ get_or fs i f
    → flat_map edges_of (pieces_of (take i fs)) ++ edges_of f.piece ≡ flat_map edges_of (pieces_of (take (i + 1) fs))
next_piece edges_of fs i f l is =
    sym (ap (λ gs. flat_map edges_of (pieces_of gs)) (take_more fs i f l ∙ ap (λ (g : Found Gathered). take i fs ++ g ∷ []) (sym is)) ∙ pieces_of-push edges_of (take i fs) f)

pub ascending_at : (fs : List (Found Gathered)) (i : ℕ) (f : Found Gathered) → EachAscending fs → i < length fs → f ≡ get_or fs i f → AllAreNonDescending f.out.vectors.items
ascending_at [] i f each l is = absurd (omega (arith, l))
ascending_at (g ∷ fs) zero f each l is = subst (λ (h : Found Gathered). AllAreNonDescending h.out.vectors.items) (sym is) each.0
ascending_at (g ∷ fs) (suc i) f each l is = ascending_at fs i f each.1 (omega (arith, l)) is
