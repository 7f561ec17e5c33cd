-- What is done with the vertices where an edge apply changed a vector.
use Rattle.std.proofs.Common.{◌≡◌, ℕ, zero, suc, ◌==◌, ℤ, pos, Bool, true, false, not, ◌||◌, List, [], ◌∷◌, ◌++◌, length, slice_get, slice_index_or, ap, ◌∙◌, refl, arith}
use Rattle.std.proofs.lemmas.Bool.Decides.{nat_tests}
use Rattle.std.specs.List.{filter, range_with_len}
use Rattle.algorithm_meaning.specs.Arithmetic.{int_equal}
use Rattle.algorithm_meaning.specs.State.{StateValue}
use Rattle.algorithm_meaning.specs.Value.{members_of}
use Rattle.algorithm_meaning.specs.Statements.{with_vectors}
use Rattle.algorithm_meaning.specs.VertexSets.{set_members, with_new_set, with_members}
use Rattle.algorithm_meaning.specs.EdgeApply.{modified}
use Rattle.typed_tree.specs.Independence.{is_none_of, are_apart}
use Rattle.std.proofs.lemmas.Bool.{and_parts}
use Rattle.algorithm_meaning.specs.declared.state.Depth.{Depth}
use Rattle.plans.specs.Instruction.{ResultTree, Dropped, Declared, Assigned}
use Rattle.plans.specs.Fusing.{result_indices, result_vectors}
use Rattle.plans.specs.Machine.{with_result}
use Rattle.algorithm_meaning.specs.declared.state.SetBinding.{SetBinding}
use Rattle.plans.proofs.Beside.{AgreeBut, SetsAgreeBut}

modified_same : (n vector : ℕ) (xs ys xs' ys' : List (List ℤ)) → slice_index_or xs vector [] ≡ slice_index_or xs' vector [] → slice_index_or ys vector [] ≡ slice_index_or ys' vector []
    → modified n vector xs ys ≡ modified n vector xs' ys'
modified_same n vector xs ys xs' ys' e h = λ i. filter (λ v. not (int_equal (slice_index_or (e i) v (pos 0)) (slice_index_or (h i) v (pos 0)))) (range_with_len 0 n)

-- it depends on the rows of its vector alone
pub result_agrees : (n : ℕ) (changed : List ℕ) (xs ys xs' ys' : List (List ℤ)) (r : ResultTree) (s : StateValue) → are_apart (result_vectors r) changed ≡ true → AgreeBut changed xs xs'
    → AgreeBut changed ys ys'
    → with_result n xs ys r s ≡ with_result n xs' ys' r s
result_agrees n changed xs ys xs' ys' Dropped s apart before after = refl
result_agrees n changed xs ys xs' ys' (Declared name vector) s apart before after =
    let own = and_parts (is_none_of vector changed) true apart in
    ap (with_new_set s name) (modified_same n vector xs ys xs' ys' (before vector own.0) (after vector own.0))
result_agrees n changed xs ys xs' ys' (Assigned slot vector) s apart before after =
    let own = and_parts (is_none_of vector changed) true apart in
    ap (with_members s slot.index) (modified_same n vector xs ys xs' ys' (before vector own.0) (after vector own.0))

-- and leaves the vectors
pub result_beside_vectors : (n : ℕ) (xs ys us vs : List (List ℤ)) (r : ResultTree) (s : StateValue)
    → with_vectors (with_result n xs ys r (with_vectors s us)) vs ≡ with_result n xs ys r (with_vectors s vs)
result_beside_vectors n xs ys us vs Dropped s = refl
result_beside_vectors n xs ys us vs (Declared name vector) s = refl
result_beside_vectors n xs ys us vs (Assigned slot vector) s = refl

pub vectors_of_result : (n : ℕ) (xs ys : List (List ℤ)) (r : ResultTree) (s : StateValue) → (with_result n xs ys r s).vectors ≡ s.vectors
vectors_of_result n xs ys Dropped s = refl
vectors_of_result n xs ys (Declared name vector) s = refl
vectors_of_result n xs ys (Assigned slot vector) s = refl

is_other : (index at : ℕ) → is_none_of index (at ∷ []) ≡ true → (at == index) ≡ false
is_other index at h = not_same (at == index) h
  where
    not_same : (b : Bool) → not (b || false) ≡ true → b ≡ false
    not_same true h = cc
    not_same false h = refl

other_than_new : (sets : List SetBinding) (x : SetBinding) (index : ℕ) → (length sets == index) ≡ false → members_of (slice_get sets index) ≡ members_of (slice_get (sets ++ x ∷ []) index)
other_than_new [] x zero h = absurd (grind (arith, nat_tests))
other_than_new [] x (suc n) h = refl
other_than_new (y ∷ ys) x zero h = refl
other_than_new (y ∷ ys) x (suc n) h = let apart : (length ys == n) ≡ false = grind (arith, nat_tests) in other_than_new ys x n apart

other_than_assigned : (sets : List SetBinding) (at : ℕ) (members : List ℕ) (index : ℕ) → (at == index) ≡ false
    → members_of (slice_get sets index) ≡ members_of (slice_get (set_members sets at members) index)
other_than_assigned [] at members index h = refl
other_than_assigned (y ∷ ys) zero members zero h = absurd (grind (arith, nat_tests))
other_than_assigned (y ∷ ys) zero members (suc n) h = refl
other_than_assigned (y ∷ ys) (suc m) members zero h = refl
other_than_assigned (y ∷ ys) (suc m) members (suc n) h = let apart : (m == n) ≡ false = grind (arith, nat_tests) in other_than_assigned ys m members n apart

-- other sets stay
pub sets_of_result : (n : ℕ) (xs ys : List (List ℤ)) (r : ResultTree) (d : Depth) (s : StateValue) → length s.sets ≡ d.sets → SetsAgreeBut (result_indices d r) s.sets (with_result n xs ys r s).sets
sets_of_result n xs ys Dropped d s deep index h = refl
sets_of_result n xs ys (Declared name vector) d s deep index h =
    other_than_new s.sets (record { name = name; members = modified n vector xs ys }) index (ap (λ (m : ℕ). m == index) deep ∙ is_other index d.sets h)
sets_of_result n xs ys (Assigned slot vector) d s deep index h = other_than_assigned s.sets slot.index (modified n vector xs ys) index (is_other index slot.index h)
