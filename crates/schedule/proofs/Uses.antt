-- What passes a test of the vectors of accesses uses none of them.
use Rattle.std.proofs.Common.{◌≡◌, refl, sym, ◌∙◌, ap, subst, ℕ, zero, suc, Bool, true, false, not, ◌==◌, List, [], ◌∷◌, arith}
use Rattle.std.specs.Prelude.{Option}
use Rattle.std.specs.List.{Contains, list_all, list_any}
use Rattle.std.proofs.lemmas.List.Folds.{list_any_at}
use Rattle.std.proofs.lemmas.Bool.{and_parts, eq-eqb}
use Rattle.typed_tree.specs.declared.statement.VertexFilter.{VertexFilter}
use Rattle.typed_tree.specs.FunctionStatementTree.{FunctionTree}
use Rattle.typed_tree.specs.Independence.{are_apart, end_reads, function_uses, is_none_of, vector_of}
use Rattle.typed_tree.specs.Fold.{all_pass, end_fold, function_fold}
use Rattle.typed_tree.proofs.Gathered.{end_gathered, function_gathered}

pub function_is_apart : (vectors : List ℕ) (functions : List FunctionTree) (index : ℕ)
    → function_fold (all_pass (λ access. are_apart (vector_of access) vectors)) functions index ≡ are_apart (function_uses functions index) vectors
function_is_apart vectors functions index = function_gathered (λ access. are_apart (vector_of access) vectors) vector_of (λ v. is_none_of v vectors) (λ access. refl) functions index

pub end_is_apart : (vectors : List ℕ) (filters : List FunctionTree) (end : Option VertexFilter)
    → end_fold (all_pass (λ access. are_apart (vector_of access) vectors)) filters end ≡ are_apart (end_reads filters end) vectors
end_is_apart vectors filters end = end_gathered (λ access. are_apart (vector_of access) vectors) vector_of (λ v. is_none_of v vectors) (λ access. refl) filters end

-- what holds of all holds of an element
of_all : (p : ℕ → Bool) (xs : List ℕ) (v : ℕ) → list_all p xs ≡ true → Contains xs v → p v ≡ true
of_all p [] v all (k, within, at) = absurd (omega (arith, within))
of_all p (x ∷ xs) v all (zero, within, at) = subst (λ y. p y ≡ true) at (and_parts (p x) (list_all p xs) all).0
of_all p (x ∷ xs) v all (suc k, within, at) = of_all p xs v (and_parts (p x) (list_all p xs) all).1 (k, omega (arith, within), at)

-- lists that are apart have no element in common
pub nothing_in_common : (xs ys : List ℕ) → are_apart xs ys ≡ true → (v : ℕ) → Contains xs v → Contains ys v → ⊥
nothing_in_common xs ys apart v in_xs (k, within, at) =
    let none : is_none_of v ys ≡ true = of_all (λ x. is_none_of x ys) xs v apart in_xs in
    let some : list_any (λ (w : ℕ). w == v) ys ≡ true = list_any_at (λ (w : ℕ). w == v) ys k v within (subst (λ (w : ℕ). (w == v) ≡ true) (sym at) (eq-eqb v v refl)) in
    let bad : false ≡ true = ap not (sym some) ∙ none in
    cc
