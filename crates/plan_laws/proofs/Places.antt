-- Lists of lists, and their elements in a row.
use Rattle.std.proofs.Common.{◌≡◌, ℕ, zero, suc, ◌+◌, ◌<◌, nat_eq, true, false, List, [], ◌∷◌, ◌++◌, length, get_or, refl, ap, sym, ◌∙◌, arith}
use Rattle.std.proofs.lemmas.List.{length-append, get_or_append_left, get_or-append-add}
use Rattle.std.proofs.lemmas.Map.Keys.{apart_from_distinct}
use Rattle.std.specs.List.{concat, IsDistinct}

-- each number of a list is below
abbrev pub AllBelow : ℕ → List ℕ → Type 0
AllBelow n [] = Unit {0}
AllBelow n (x ∷ xs) = (x < n) × AllBelow n xs

pub below_joined : (n : ℕ) (xs ys : List ℕ) → AllBelow n xs → AllBelow n ys → AllBelow n (xs ++ ys)
below_joined n [] ys front back = back
below_joined n (x ∷ xs) ys front back = (front.0, below_joined n xs ys front.1 back)

below_at : (n : ℕ) (xs : List ℕ) (i : ℕ) → AllBelow n xs → i < length xs → get_or xs i 0 < n
below_at n [] i all inside = absurd (omega (arith, inside))
below_at n (x ∷ xs) zero all inside = all.0
below_at n (x ∷ xs) (suc i) all inside = let within : i < length xs = omega (arith, inside) in below_at n xs i all.1 within

-- the index of an element in the row
place : List (List ℕ) → (g h : ℕ) → ℕ
place [] g h = h
place (x ∷ xs) zero h = h
place (x ∷ xs) (suc g) h = length x + place xs g h

place_inside : (groups : List (List ℕ)) (g h : ℕ) → g < length groups → h < length (get_or groups g []) → place groups g h < length (concat groups)
unfolding place
place_inside [] g h some inside = absurd (omega (arith, some))
place_inside (x ∷ xs) zero h some inside = omega (arith, inside, length-append x (concat xs))
place_inside (x ∷ xs) (suc g) h some inside =
    let within : g < length xs = omega (arith, some) in
    let deep = place_inside xs g h within inside in
    omega (arith, deep, length-append x (concat xs))

place_is : (groups : List (List ℕ)) (g h : ℕ) → g < length groups → h < length (get_or groups g []) → get_or (concat groups) (place groups g h) 0 ≡ get_or (get_or groups g []) h 0
unfolding place
place_is [] g h some inside = absurd (omega (arith, some))
place_is (x ∷ xs) zero h some inside = get_or_append_left x (concat xs) 0 h inside
place_is (x ∷ xs) (suc g) h some inside =
    let within : g < length xs = omega (arith, some) in
    get_or-append-add x (concat xs) (place xs g h) 0 ∙ place_is xs g h within inside

place_one : (groups : List (List ℕ)) (g h i j : ℕ) → g < length groups → h < length (get_or groups g []) → i < length groups → j < length (get_or groups i [])
    → place groups g h ≡ place groups i j → (g ≡ i) × (h ≡ j)
unfolding place
place_one [] g h i j some inside other within same = absurd (omega (arith, some))
place_one (x ∷ xs) zero h zero j some inside other within same = (refl, same)
place_one (x ∷ xs) zero h (suc i) j some inside other within same = absurd (omega (arith, inside, same))
place_one (x ∷ xs) (suc g) h zero j some inside other within same = absurd (omega (arith, within, same))
place_one (x ∷ xs) (suc g) h (suc i) j some inside other within same =
    let a : g < length xs = omega (arith, some) in
    let b : i < length xs = omega (arith, other) in
    let rest : place xs g h ≡ place xs i j = omega (arith, same) in
    let deep = place_one xs g h i j a inside b within rest in
    (ap suc deep.0, deep.1)

same_test : (m n : ℕ) → m ≡ n → nat_eq m n ≡ true
same_test m n same = grind (arith, same)

unique : (xs : List ℕ) → IsDistinct nat_eq xs → (i j : ℕ) → i < length xs → j < length xs → get_or xs i 0 ≡ get_or xs j 0 → i ≡ j
unique xs distinct i j inside within same =
    let first : i < j → ⊥ = λ l. (let bad : true ≡ false = sym (same_test _ _ same) ∙ apart_from_distinct nat_eq xs i j 0 distinct l within in cc) in
    let second : j < i → ⊥ = λ l. (let bad : true ≡ false = sym (same_test _ _ (sym same)) ∙ apart_from_distinct nat_eq xs j i 0 distinct l inside in cc) in
    grind (arith, first, second)

-- an element of a list of lists whose elements differ has one place
pub one_place : (groups : List (List ℕ)) → IsDistinct nat_eq (concat groups) → (g h i j : ℕ) → g < length groups → h < length (get_or groups g []) → i < length groups
    → j < length (get_or groups i []) → get_or (get_or groups g []) h 0 ≡ get_or (get_or groups i []) j 0 → (g ≡ i) × (h ≡ j)
one_place groups distinct g h i j some inside other within same =
    place_one groups g h i j some inside other within
    (unique (concat groups) distinct (place groups g h) (place groups i j) (place_inside groups g h some inside) (place_inside groups i j other within)
    (place_is groups g h some inside ∙ same ∙ sym (place_is groups i j other within)))

-- and is below, if all in the row are
pub below_in_all : (n : ℕ) (groups : List (List ℕ)) → AllBelow n (concat groups) → (g h : ℕ) → g < length groups → h < length (get_or groups g [])
    → get_or (get_or groups g []) h 0 < n
below_in_all n groups all g h some inside =
    let there = below_at n (concat groups) (place groups g h) all (place_inside groups g h some inside) in
    let is = place_is groups g h some inside in
    omega (arith, there, is)
