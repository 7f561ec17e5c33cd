-- Lists that loops go over.
use Rattle.std.proofs.Common.{◌≡◌, ℕ, zero, suc, ◌+◌, ◌-◌, ◌<◌, ℤ, Bool, true, false, cond, List, [], ◌∷◌, ◌++◌, length, slice_index_or, slice_set, ap, sym, ◌∙◌, refl, arith}
use Rattle.std.proofs.lemmas.List.Sorted.{IsPermutation-keeps}
use Rattle.std.specs.List.{filter, fold, range_with_len, swap}
use Rattle.std.specs.List.Sorted.{IsPermutation}
use Rattle.typed_tree.specs.declared.program.Vector.{Vector}
use Rattle.algorithm_meaning.specs.Meaning.{named_vectors}

-- a range begins with its first number
pub first_of_range : (v n : ℕ) → v < n → range_with_len v (n - v) ≡ v ∷ range_with_len (v + 1) (n - (v + 1))
first_of_range v n h =
    let e : n - v ≡ suc (n - (v + 1)) = omega arith in
    ap (range_with_len v) e

-- where there are no entries, no vector is shown
pub nothing_is_named : (names : List (List ℕ)) (vs : List Vector) (entries : List (List ℤ)) → length entries ≡ 0 → named_vectors names vs entries ≡ []
nothing_is_named names [] entries h = refl
nothing_is_named names (v ∷ vs) [] h = refl
nothing_is_named names (v ∷ vs) (x ∷ xs) h = absurd (omega (arith, h))

in_front : (b : Bool) (v : ℕ) (xs : List ℕ) → cond b (v ∷ []) [] ++ xs ≡ cond b (v ∷ xs) xs
in_front true v xs = refl
in_front false v xs = refl

-- of a range, the first number is kept where the test says so
pub first_kept : (test : ℕ → Bool) (v n : ℕ) (b : Bool) → b ≡ test v → v < n
    → cond b (v ∷ []) [] ++ filter test (range_with_len (v + 1) (n - (v + 1))) ≡ filter test (range_with_len v (n - v))
first_kept test v n b e h =
    let more = filter test (range_with_len (v + 1) (n - (v + 1))) in
    in_front b v more ∙ ap (λ (c : Bool). cond c (v ∷ more) more) e ∙ ap (filter test) (sym (first_of_range v n h))

-- a function may take its items in any order
abbrev pub Commutes : {A B : Type 0} → (B → A → B) → Type 0
Commutes {A} {B} f = (b : B) (x y : A) → f (f b x) y ≡ f (f b y) x

-- an item is replaced, and the other comes first
replaced : (A B : Type 0) (f : B → A → B) → Commutes f → (xs : List A) (i : ℕ) (y d : A) (b : B) → i < length xs
    → fold f (f b (slice_index_or xs i d)) (slice_set xs i y) ≡ fold f (f b y) xs
replaced A B f commutes [] i y d b h = absurd (omega (arith, h))
replaced A B f commutes (x ∷ xs) zero y d b h = ap (λ (a : B). fold f a xs) (commutes b x y)
replaced A B f commutes (x ∷ xs) (suc n) y d b h =
    ap (λ (a : B). fold f a (slice_set xs n y)) (commutes b (slice_index_or xs n d) x)
    ∙ replaced A B f commutes xs n y d (f b x) (omega (arith, h))
    ∙ ap (λ (a : B). fold f a xs) (commutes b x y)

exchanged : (A B : Type 0) (f : B → A → B) → Commutes f → (xs : List A) (i j : ℕ) (d : A) (b : B) → i < length xs → j < length xs
    → fold f b (slice_set (slice_set xs i (slice_index_or xs j d)) j (slice_index_or xs i d)) ≡ fold f b xs
exchanged A B f commutes [] i j d b h k = absurd (omega (arith, h))
exchanged A B f commutes (x ∷ xs) zero zero d b h k = refl
exchanged A B f commutes (x ∷ xs) zero (suc n) d b h k = replaced A B f commutes xs n x d b (omega (arith, k))
exchanged A B f commutes (x ∷ xs) (suc m) zero d b h k = replaced A B f commutes xs m x d b (omega (arith, h))
exchanged A B f commutes (x ∷ xs) (suc m) (suc n) d b h k = exchanged A B f commutes xs m n d (f b x) (omega (arith, h)) (omega (arith, k))

after_swap : (A B : Type 0) (f : B → A → B) → Commutes f → (b : B) (xs : List A) (i j : ℕ) → i < length xs → j < length xs → fold f b (swap xs i j) ≡ fold f b xs
after_swap A B f commutes b [] i j h k = refl
after_swap A B f commutes b (x ∷ xs) i j h k = exchanged A B f commutes (x ∷ xs) i j x b h k

pub fold-permutation : (A B : Type 0) (f : B → A → B) → Commutes f → (b : B) (xs ys : List A) → IsPermutation xs ys → fold f b xs ≡ fold f b ys
fold-permutation A B f commutes b xs ys same =
    sym (IsPermutation-keeps xs (λ (zs : List A). fold f b zs ≡ fold f b xs) refl (λ zs i j h k e. after_swap A B f commutes b zs i j h k ∙ e) ys same)
