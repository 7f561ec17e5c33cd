-- Items of two lists, put together one by one.
use Rattle.std.proofs.Common.{◌≡◌, List, [], ◌∷◌, length, map, refl, ap, arith}
use Rattle.std.specs.List.{zip}

-- what is read of the first items, if there are as many second ones
pub first_of_zipped : {A B D : Type 0} (h : A → D) (xs : List A) (ys : List B) → length ys ≡ length xs → map (λ (p : A × B). h p.0) (zip xs ys) ≡ map h xs
first_of_zipped h [] ys len = refl
first_of_zipped h (x ∷ xs) [] len = absurd (omega (arith, len))
first_of_zipped h (x ∷ xs) (y ∷ ys) len = ap (λ zs. h x ∷ zs) (first_of_zipped h xs ys (omega (arith, len)))
