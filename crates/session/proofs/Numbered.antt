-- Lists whose items are counted from 1.
use Rattle.std.proofs.Common.{◌≡◌, ◌≢◌, ℕ, zero, suc, List, [], ◌∷◌, ◌++◌, Some, None, slice_get, length, refl, ap}
use Rattle.std.specs.Prelude.{slice_set}
use Rattle.session.specs.World.{nth_from_one, with_numbered}

none_is : {A : Type 0} (x : A) → None ≡ Some x → ⊥
none_is x e = cc

some_is : {A : Type 0} (x y : A) → Some y ≡ Some x → x ≡ y
some_is x y is = cc

get_set_same : {A : Type 0} (xs : List A) (i : ℕ) (old x : A) → slice_get xs i ≡ Some old → slice_get (slice_set xs i x) i ≡ Some x
get_set_same [] i old x is = absurd (none_is old is)
get_set_same (y ∷ ys) zero old x is = refl
get_set_same (y ∷ ys) (suc i) old x is = get_set_same ys i old x is

get_set_other : {A : Type 0} (xs : List A) (i j : ℕ) (x : A) → i ≢ j → slice_get (slice_set xs i x) j ≡ slice_get xs j
get_set_other [] i j x apart = refl
get_set_other (y ∷ ys) zero zero x apart = absurd (apart refl)
get_set_other (y ∷ ys) zero (suc j) x apart = refl
get_set_other (y ∷ ys) (suc i) zero x apart = refl
get_set_other (y ∷ ys) (suc i) (suc j) x apart = get_set_other ys i j x (λ same. apart (ap suc same))

get_append : {A : Type 0} (xs more : List A) (i : ℕ) (x : A) → slice_get xs i ≡ Some x → slice_get (xs ++ more) i ≡ Some x
get_append [] more i x is = absurd (none_is x is)
get_append (y ∷ ys) more zero x is = is
get_append (y ∷ ys) more (suc i) x is = get_append ys more i x is

set_append : {A : Type 0} (xs more : List A) (i : ℕ) (old x : A) → slice_get xs i ≡ Some old → slice_set (xs ++ more) i x ≡ slice_set xs i x ++ more
set_append [] more i old x is = absurd (none_is old is)
set_append (y ∷ ys) more zero old x is = refl
set_append (y ∷ ys) more (suc i) old x is = ap (λ zs. y ∷ zs) (set_append ys more i old x is)

set_set : {A : Type 0} (xs : List A) (i j : ℕ) (x y : A) → i ≢ j → slice_set (slice_set xs i x) j y ≡ slice_set (slice_set xs j y) i x
set_set [] i j x y apart = refl
set_set (z ∷ zs) zero zero x y apart = absurd (apart refl)
set_set (z ∷ zs) zero (suc j) x y apart = refl
set_set (z ∷ zs) (suc i) zero x y apart = refl
set_set (z ∷ zs) (suc i) (suc j) x y apart = ap (λ ws. z ∷ ws) (set_set zs i j x y (λ same. apart (ap suc same)))

set_length : {A : Type 0} (xs : List A) (i : ℕ) (x : A) → length (slice_set xs i x) ≡ length xs
set_length [] i x = refl
set_length (y ∷ ys) zero x = refl
set_length (y ∷ ys) (suc i) x = ap suc (set_length ys i x)

set_same : {A : Type 0} (xs : List A) (i : ℕ) (x : A) → slice_get xs i ≡ Some x → slice_set xs i x ≡ xs
set_same [] i x is = refl
set_same (y ∷ ys) zero x is = ap (λ z. z ∷ ys) (some_is x y is)
set_same (y ∷ ys) (suc i) x is = ap (λ zs. y ∷ zs) (set_same ys i x is)

set_again : {A : Type 0} (xs : List A) (i : ℕ) (x y : A) → slice_set (slice_set xs i x) i y ≡ slice_set xs i y
set_again [] i x y = refl
set_again (z ∷ zs) zero x y = refl
set_again (z ∷ zs) (suc i) x y = ap (λ ws. z ∷ ws) (set_again zs i x y)

-- the item at a number is the one that was put there last
pub numbered_same : {A : Type 0} (xs : List A) (number : ℕ) (old x : A) → nth_from_one xs number ≡ Some old → nth_from_one (with_numbered xs number x) number ≡ Some x
numbered_same xs zero old x is = absurd (none_is old is)
numbered_same xs (suc index) old x is = get_set_same xs index old x is

-- the items at other numbers stay
pub numbered_other : {A : Type 0} (xs : List A) (number other : ℕ) (x : A) → number ≢ other → nth_from_one (with_numbered xs number x) other ≡ nth_from_one xs other
numbered_other xs zero other x apart = refl
numbered_other xs (suc index) zero x apart = refl
numbered_other xs (suc index) (suc other) x apart = get_set_other xs index other x (λ same. apart (ap suc same))

-- items that are appended change none at the numbers that were there
pub numbered_append : {A : Type 0} (xs more : List A) (number : ℕ) (x : A) → nth_from_one xs number ≡ Some x → nth_from_one (xs ++ more) number ≡ Some x
numbered_append xs more zero x is = absurd (none_is x is)
numbered_append xs more (suc index) x is = get_append xs more index x is

pub with_numbered_append : {A : Type 0} (xs more : List A) (number : ℕ) (old x : A) → nth_from_one xs number ≡ Some old → with_numbered (xs ++ more) number x ≡ with_numbered xs number x ++ more
with_numbered_append xs more zero old x is = absurd (none_is old is)
with_numbered_append xs more (suc index) old x is = set_append xs more index old x is

-- items at two numbers may be put in either order
pub with_numbered_twice : {A : Type 0} (xs : List A) (one other : ℕ) (x y : A) → one ≢ other → with_numbered (with_numbered xs one x) other y ≡ with_numbered (with_numbered xs other y) one x
with_numbered_twice xs zero other x y apart = refl
with_numbered_twice xs (suc index) zero x y apart = refl
with_numbered_twice xs (suc index) (suc other) x y apart = set_set xs index other x y (λ same. apart (ap suc same))

pub with_numbered_length : {A : Type 0} (xs : List A) (number : ℕ) (x : A) → length (with_numbered xs number x) ≡ length xs
with_numbered_length xs zero x = refl
with_numbered_length xs (suc index) x = set_length xs index x

-- an item that is there already changes nothing
pub with_numbered_same : {A : Type 0} (xs : List A) (number : ℕ) (x : A) → nth_from_one xs number ≡ Some x → with_numbered xs number x ≡ xs
with_numbered_same xs zero x is = refl
with_numbered_same xs (suc index) x is = set_same xs index x is

-- of two items at one number the last one stays
pub with_numbered_again : {A : Type 0} (xs : List A) (number : ℕ) (x y : A) → with_numbered (with_numbered xs number x) number y ≡ with_numbered xs number y
with_numbered_again xs zero x y = refl
with_numbered_again xs (suc index) x y = set_again xs index x y
