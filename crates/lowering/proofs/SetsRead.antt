-- What passes a test of the sets that accesses read depends on none of them.
use Rattle.std.proofs.Common.{◌≡◌, refl, sym, ◌∙◌, ap, ℕ, Bool, true, false, ◌&&◌, List, [], ◌∷◌, ◌++◌}
use Rattle.std.specs.Prelude.{Option}
use Rattle.std.proofs.lemmas.List.Folds.{list_all-append}
use Rattle.typed_tree.specs.declared.statement.VertexFilter.{VertexFilter}
use Rattle.typed_tree.specs.FunctionStatementTree.{FunctionTree}
use Rattle.typed_tree.specs.Independence.{are_apart, is_none_of}
use Rattle.typed_tree.specs.Fold.{all_pass, end_fold, function_fold}
use Rattle.typed_tree.specs.ProgramTree.{ProgramTree}
use Rattle.typed_tree.proofs.Gathered.{end_gathered, function_gathered}
use Rattle.plans.specs.Fusing.{EdgeApplyTree, end_sets, function_sizes, set_of, sets_read}
use Rattle.lowering.specs.inside.Omitting.{edges_omit}

-- nothing is apart from no set but in the end
pub apart_of_none : (xs : List ℕ) → true ≡ are_apart xs []
apart_of_none [] = refl
apart_of_none (x ∷ xs) = apart_of_none xs

pub function_is_apart : (sets : List ℕ) (functions : List FunctionTree) (index : ℕ)
    → function_fold (all_pass (λ access. are_apart (set_of access) sets)) functions index ≡ are_apart (function_sizes functions index) sets
function_is_apart sets functions index = function_gathered (λ access. are_apart (set_of access) sets) set_of (λ v. is_none_of v sets) (λ access. refl) functions index

pub end_is_apart : (sets : List ℕ) (filters : List FunctionTree) (end : Option VertexFilter)
    → end_fold (all_pass (λ access. are_apart (set_of access) sets)) filters end ≡ are_apart (end_sets filters end) sets
end_is_apart sets filters end = end_gathered (λ access. are_apart (set_of access) sets) set_of (λ v. is_none_of v sets) (λ access. refl) filters end

and_assoc : (a b c : Bool) → (a && b) && c ≡ a && (b && c)
and_assoc true b c = refl
and_assoc false b c = refl

-- apart from three lists in a row
three : (sets xs ys zs : List ℕ) → (are_apart xs sets && are_apart ys sets) && are_apart zs sets ≡ are_apart (xs ++ (ys ++ zs)) sets
three sets xs ys zs =
    and_assoc (are_apart xs sets) (are_apart ys sets) (are_apart zs sets)
    ∙ ap (λ b. are_apart xs sets && b) (sym (list_all-append (λ v. is_none_of v sets) ys zs))
    ∙ sym (list_all-append (λ v. is_none_of v sets) xs (ys ++ zs))

-- an edge apply
pub edges_are_apart : (set : ℕ) (p : ProgramTree) (x : EdgeApplyTree) → edges_omit set p x ≡ are_apart (sets_read p x) (set ∷ [])
edges_are_apart set p x = three (set ∷ []) (end_sets p.filters x.ends.from) (end_sets p.filters x.ends.to) (function_sizes p.edge_functions x.part.function)
