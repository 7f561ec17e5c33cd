-- Vectors after an entry was written.
use Rattle.std.proofs.Common.{◌≡◌, ℕ, zero, suc, ◌<◌, ◌==◌, ℤ, pos, false, List, [], ◌∷◌, length, slice_index_or, slice_set, refl, arith}
use Rattle.std.proofs.lemmas.Bool.Decides.{nat_tests}
use Rattle.std.proofs.lemmas.List.{length-set}
use Rattle.algorithm_meaning.specs.Value.{entry, with_entry}

same_index : (xs : List ℤ) (v : ℕ) (x : ℤ) → v < length xs → slice_index_or (slice_set xs v x) v (pos 0) ≡ x
same_index [] v x h = absurd (omega (arith, h))
same_index (y ∷ ys) zero x h = refl
same_index (y ∷ ys) (suc n) x h = same_index ys n x (omega (arith, h))

other_index : (xs : List ℤ) (u v : ℕ) (x : ℤ) → (u == v) ≡ false → slice_index_or (slice_set xs u x) v (pos 0) ≡ slice_index_or xs v (pos 0)
other_index [] u v x h = refl
other_index (y ∷ ys) zero zero x h = absurd (grind (arith, nat_tests))
other_index (y ∷ ys) zero (suc v) x h = refl
other_index (y ∷ ys) (suc u) zero x h = refl
other_index (y ∷ ys) (suc u) (suc v) x h = let apart : (u == v) ≡ false = grind (arith, nat_tests) in other_index ys u v x apart

-- the entry that was written
pub entry_written : (vectors : List (List ℤ)) (vector v : ℕ) (x : ℤ) → v < length (slice_index_or vectors vector []) → entry (with_entry vectors vector v x) vector v ≡ x
entry_written [] vector v x h = absurd (omega (arith, h))
entry_written (xs ∷ more) zero v x h = same_index xs v x h
entry_written (xs ∷ more) (suc n) v x h = entry_written more n v x h

-- an entry of another vertex
pub entry_elsewhere : (vectors : List (List ℤ)) (written u : ℕ) (x : ℤ) (vector v : ℕ) → (u == v) ≡ false → entry (with_entry vectors written u x) vector v ≡ entry vectors vector v
entry_elsewhere [] written u x vector v apart = refl
entry_elsewhere (xs ∷ more) zero u x zero v apart = other_index xs u v x apart
entry_elsewhere (xs ∷ more) zero u x (suc n) v apart = refl
entry_elsewhere (xs ∷ more) (suc m) u x zero v apart = refl
entry_elsewhere (xs ∷ more) (suc m) u x (suc n) v apart = entry_elsewhere more m u x n v apart

-- an entry of another vector
pub entry_of_other : (vectors : List (List ℤ)) (written u : ℕ) (x : ℤ) (vector v : ℕ) → (written == vector) ≡ false → entry (with_entry vectors written u x) vector v ≡ entry vectors vector v
entry_of_other [] written u x vector v apart = refl
entry_of_other (xs ∷ more) zero u x zero v apart = absurd (grind (arith, nat_tests))
entry_of_other (xs ∷ more) zero u x (suc n) v apart = refl
entry_of_other (xs ∷ more) (suc m) u x zero v apart = refl
entry_of_other (xs ∷ more) (suc m) u x (suc n) v apart = let other : (m == n) ≡ false = grind (arith, nat_tests) in entry_of_other more m u x n v other

-- each vector keeps its length
pub length_stays : (vectors : List (List ℤ)) (written u : ℕ) (x : ℤ) (vector : ℕ) → length (slice_index_or (with_entry vectors written u x) vector []) ≡ length (slice_index_or vectors vector [])
length_stays [] written u x vector = refl
length_stays (xs ∷ more) zero u x zero = length-set xs u x
length_stays (xs ∷ more) zero u x (suc n) = refl
length_stays (xs ∷ more) (suc m) u x zero = refl
length_stays (xs ∷ more) (suc m) u x (suc n) = length_stays more m u x n
