-- Operations on entries that all have weight 1.
use Rattle.std.proofs.Common.{◌≡◌, ℕ, ℤ, pos, inl, inr, None, List, [], ◌∷◌, ◌++◌, refl, ◌∙◌, ap}
use Rattle.std.specs.Map.{keys_of}
use Rattle.std.specs.Option.{unwrap_or}
use Rattle.std.proofs.lemmas.Bool.{cases_lt, cases_eq, cases_Bool, lt-ltb, le-ltb, eq-eqb, ne_eqb}
use Rattle.ascending_lists.specs.declared.set_operation.Operation.TheVariants.{Union, Difference}
use Rattle.ascending_lists.specs.Sets.{has, below, above, union, difference}
use Rattle.ascending_lists.specs.Maps.{lookup}
use Rattle.ascending_lists.specs.MapOperations.{entries_below, entries_above, union_keeping_second, without_keys}
use Rattle.tail_codec.specs.Columns.{entries_in}
use Rattle.tail_codec.specs.inside.Merging.{merged, merged_keys}

abbrev ones : List ℕ → List (ℕ × ℤ)
ones ks = entries_in ks None

ones_append : (ks js : List ℕ) → ones (ks ++ js) ≡ ones ks ++ ones js
ones_append [] js = refl
ones_append (k ∷ ks) js = ap (λ v. (k, pos 1) ∷ v) (ones_append ks js)

ones_below : (j : ℕ) (ks : List ℕ) → entries_below j (ones ks) ≡ ones (below j ks)
ones_below j [] = refl
ones_below j (k ∷ ks) =
    elim (cases_lt k j) [
      | inl lt ↦ rw (lt-ltb k j lt) (ap (λ v. (k, pos 1) ∷ v) (ones_below j ks))
      | inr ge ↦ rw (le-ltb k j ge) (ones_below j ks)
    ]

ones_above : (j : ℕ) (ks : List ℕ) → entries_above j (ones ks) ≡ ones (above j ks)
ones_above j [] = refl
ones_above j (k ∷ ks) =
    elim (cases_lt j k) [
      | inl lt ↦ rw (lt-ltb j k lt) (ap (λ v. (k, pos 1) ∷ v) (ones_above j ks))
      | inr ge ↦ rw (le-ltb j k ge) (ones_above j ks)
    ]

one_there : (j : ℕ) (ks : List ℕ) → unwrap_or (lookup j (ones ks)) (pos 1) ≡ pos 1
one_there j [] = refl
one_there j (k ∷ ks) =
    elim (cases_eq k j) [
      | inl is ↦ rw (eq-eqb k j is) refl
      | inr other ↦ rw (ne_eqb k j other) (one_there j ks)
    ]

ones_united : (ks js : List ℕ) → union_keeping_second (ones ks) (ones js) ≡ ones (union ks js)
ones_united [] js = refl
ones_united (k ∷ ks) js =
    rw (ones_below k js, one_there k js, ones_above k js, ones_united ks (above k js), ones_append (below k js) (k ∷ union ks (above k js))) refl

ones_less : (ks js : List ℕ) → without_keys (ones ks) js ≡ ones (difference ks js)
ones_less [] js = refl
ones_less (k ∷ ks) js =
    elim (cases_Bool (has k js)) [
      | inl h ↦ rw h (ones_less ks js)
      | inr h ↦ rw h (ap (λ v. (k, pos 1) ∷ v) (ones_less ks js))
    ]

pub both_ones : (xs ys : List (ℕ × ℤ)) → xs ≡ ones (keys_of xs) → ys ≡ ones (keys_of ys) → merged Union xs ys ≡ ones (merged_keys Union xs ys)
both_ones xs ys is is' =
    ap (λ v. union_keeping_second v ys) is ∙ ap (λ v. union_keeping_second (ones (keys_of xs)) v) is' ∙ ones_united (keys_of xs) (keys_of ys)

pub first_ones : (xs ys : List (ℕ × ℤ)) → xs ≡ ones (keys_of xs) → merged Difference xs ys ≡ ones (merged_keys Difference xs ys)
first_ones xs ys is = ap (λ v. without_keys v (keys_of ys)) is ∙ ones_less (keys_of xs) (keys_of ys)
