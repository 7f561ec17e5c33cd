-- The entries that the vectors have at one vertex.
use Rattle.std.proofs.Common.{◌≡◌, ℕ, zero, suc, ◌==◌, ℤ, pos, false, List, [], ◌∷◌, Option, Some, None, slice_get, slice_index_or, slice_set, ap, refl, arith}
use Rattle.std.proofs.lemmas.Bool.Decides.{nat_tests}
use Rattle.algorithm_meaning.specs.Value.{entry, with_entry}

abbrev pub column : ℕ → List (List ℤ) → List (Option ℤ)
column v [] = []
column v (xs ∷ more) = slice_get xs v ∷ column v more

same_entries : (xs ys : List ℤ) → ((v : ℕ) → slice_get xs v ≡ slice_get ys v) → xs ≡ ys
same_entries [] [] h = refl
same_entries [] (y ∷ ys) h = let e : None ≡ Some y = h 0 in cc
same_entries (x ∷ xs) [] h = let e : Some x ≡ None = h 0 in cc
same_entries (x ∷ xs) (y ∷ ys) h =
    let e : Some x ≡ Some y = h 0 in
    let rest : xs ≡ ys = same_entries xs ys (λ v. h (suc v)) in
    cc

-- vectors with the same columns are the same
pub same_columns : (xs ys : List (List ℤ)) → ((v : ℕ) → column v xs ≡ column v ys) → xs ≡ ys
same_columns [] [] h = refl
same_columns [] (y ∷ ys) h = let e : [] ≡ slice_get y 0 ∷ column 0 ys = h 0 in cc
same_columns (x ∷ xs) [] h = let e : slice_get x 0 ∷ column 0 xs ≡ [] = h 0 in cc
same_columns (x ∷ xs) (y ∷ ys) h =
    let first : x ≡ y = same_entries x y (λ v. let e : slice_get x v ∷ column v xs ≡ slice_get y v ∷ column v ys = h v in cc) in
    let rest : xs ≡ ys = same_columns xs ys (λ v. let e : slice_get x v ∷ column v xs ≡ slice_get y v ∷ column v ys = h v in cc) in
    cc

or_zero : Option ℤ → ℤ
or_zero None = pos 0
or_zero (Some x) = x

-- the entry in a column, and the column with another one where there is one
abbrev pub entry_in : List (Option ℤ) → ℕ → ℤ
entry_in [] vector = pos 0
entry_in (None ∷ os) zero = pos 0
entry_in (Some x ∷ os) zero = x
entry_in (o ∷ os) (suc n) = entry_in os n

abbrev pub put : List (Option ℤ) → ℕ → ℤ → List (Option ℤ)
put [] vector x = []
put (None ∷ os) zero x = None ∷ os
put (Some y ∷ os) zero x = Some x ∷ os
put (o ∷ os) (suc n) x = o ∷ put os n x

entry_of_first : (xs : List ℤ) (v : ℕ) (os : List (Option ℤ)) → slice_index_or xs v (pos 0) ≡ entry_in (slice_get xs v ∷ os) zero
entry_of_first [] v os = refl
entry_of_first (x ∷ xs) zero os = refl
entry_of_first (x ∷ xs) (suc n) os = entry_of_first xs n os

pub entry-column : (vectors : List (List ℤ)) (vector v : ℕ) → entry vectors vector v ≡ entry_in (column v vectors) vector
entry-column [] vector v = refl
entry-column (xs ∷ more) zero v = entry_of_first xs v (column v more)
entry-column (xs ∷ more) (suc n) v = entry-column more n v

first_put : (xs : List ℤ) (v : ℕ) (x : ℤ) (os : List (Option ℤ)) → slice_get (slice_set xs v x) v ∷ os ≡ put (slice_get xs v ∷ os) zero x
first_put [] v x os = refl
first_put (y ∷ ys) zero x os = refl
first_put (y ∷ ys) (suc n) x os = first_put ys n x os

-- an entry of this column is written
pub column-here : (vectors : List (List ℤ)) (vector v : ℕ) (x : ℤ) → column v (with_entry vectors vector v x) ≡ put (column v vectors) vector x
column-here [] vector v x = refl
column-here (xs ∷ more) zero v x = first_put xs v x (column v more)
column-here (xs ∷ more) (suc n) v x = ap (λ (os : List (Option ℤ)). slice_get xs v ∷ os) (column-here more n v x)

other_entry : (xs : List ℤ) (u v : ℕ) (x : ℤ) → (u == v) ≡ false → slice_get (slice_set xs u x) v ≡ slice_get xs v
other_entry [] u v x h = refl
other_entry (y ∷ ys) zero zero x h = absurd (grind (arith, nat_tests))
other_entry (y ∷ ys) zero (suc v) x h = refl
other_entry (y ∷ ys) (suc u) zero x h = refl
other_entry (y ∷ ys) (suc u) (suc v) x h = let apart : (u == v) ≡ false = grind (arith, nat_tests) in other_entry ys u v x apart

-- an entry of another column is
pub column-elsewhere : (vectors : List (List ℤ)) (vector u v : ℕ) (x : ℤ) → (u == v) ≡ false → column v (with_entry vectors vector u x) ≡ column v vectors
column-elsewhere [] vector u v x h = refl
column-elsewhere (xs ∷ more) zero u v x h = ap (λ (o : Option ℤ). o ∷ column v more) (other_entry xs u v x h)
column-elsewhere (xs ∷ more) (suc n) u v x h = ap (λ (os : List (Option ℤ)). slice_get xs v ∷ os) (column-elsewhere more n u v x h)
