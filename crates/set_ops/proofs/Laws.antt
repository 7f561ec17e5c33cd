-- Operations on two lists of entries that are cut at one entry of the first.
use Rattle.std.proofs.Common.{◌≡◌, ℕ, ℤ, ◌+◌, ◌^◌, ◌≤◌, Bool, if◌then◌else◌, inl, inr, Option, Some, None, List, [], ◌∷◌, ◌++◌, length, refl, sym, ◌∙◌, ap, length-append, arith}
use Rattle.std.specs.Map.{keys_of}
use Rattle.std.specs.Option.{is_some}
use Rattle.std.proofs.lemmas.Bool.{cases_order, cases_lt, cases_Bool, lt-ltb, le-ltb, eq-eqb, ne_eqb}
use Rattle.ascending_lists.specs.Operations.{most}
use Rattle.ascending_lists.specs.Sets.{has, below, above, union, difference}
use Rattle.ascending_lists.specs.Ascending.{AscendsFrom}
use Rattle.ascending_lists.specs.Maps.{lookup}
use Rattle.ascending_lists.specs.MapOperations.{entries_below, entries_above, union_keeping_first, without_keys}
use Rattle.ascending_lists.proofs.Differences.{difference_ascends}
use Rattle.ascending_lists.proofs.Unions.{union_ascends}
use Rattle.ascending_lists.proofs.MapCuts.{keys_below, keys_above}
use Rattle.ascending_lists.proofs.MapUnions.{keys_of_first, keys_of_second}
use Rattle.ascending_lists.proofs.MapDifferences.{keys_without}
use Rattle.tail_codec.specs.declared.operation.MapOperation.{MapOperation}
use Rattle.tail_codec.specs.declared.operation.MapOperation.TheVariants.{Union, UnionKeepingFirst, Difference}
use Rattle.tail_codec.specs.Operations.{combined_maps, on_keys}
use Rattle.tail_codec.proofs.MapPositions.{entries_below_none, entries_above_all, no_value}
use Rattle.tail_codec.proofs.MapMerging.{second_nothing, without_nothing}
use Rattle.tail_codec.proofs.Writing.{length_keys, few_entries}
use Rattle.set_ops.specs.inside.Answers.{kept, around}
use Rattle.set_ops.proofs.Cutting.{has_lookup, one_of, second_at, first_at, without_at}

-- how often a key counts
abbrev pub one : Option ℤ → ℕ
one o = if is_some o then 1 else 0

-- how many entries stand on either side of a key
pub cut_length : (k low : ℕ) (es : List (ℕ × ℤ)) → AscendsFrom low (keys_of es) → length (entries_below k es) + one (lookup k es) + length (entries_above k es) ≡ length es
cut_length k low [] s = refl
cut_length k low (e ∷ es) s =
    elim (cases_order e.0 k) [
      | inl is ↦ rw (eq-eqb e.0 k is, le-ltb e.0 k (omega arith), le-ltb k e.0 (omega arith), entries_below_none k (e.0 + 1) es (omega arith) s.2, entries_above_all k (e.0 + 1) es (omega arith) s.2)
          (omega arith)
      | inr other ↦ elim other [
        | inl lt ↦ rw (ne_eqb e.0 k (omega arith), lt-ltb e.0 k lt, le-ltb k e.0 (omega arith)) (omega (arith, cut_length k (e.0 + 1) es s.2))
        | inr gt ↦ rw (
          ne_eqb e.0 k (omega arith),
          le-ltb e.0 k (omega arith),
          lt-ltb k e.0 gt,
          entries_below_none k (e.0 + 1) es (omega arith) s.2,
          entries_above_all k (e.0 + 1) es (omega arith) s.2,
          no_value k (e.0 + 1) es (omega arith) s.2,
        ) (omega arith)
      ]
    ]

-- a difference has an entry where the second lacks the key
left_over : (k : ℕ) (w : ℤ) (front back : List (ℕ × ℤ)) (found : Option ℤ) (h : Bool) → h ≡ is_some found → front ++ one_of h (k, w) back ≡ around front k (kept Difference w found) back
left_over k w front back None h is = rw is refl
left_over k w front back (Some v) h is = rw is refl

-- the answer, from those for what is below an entry of the first list and for what is above it
pub combined_cut : (op : MapOperation) (k : ℕ) (w : ℤ) (low : ℕ) (l r ys : List (ℕ × ℤ)) → AscendsFrom low (keys_of (l ++ (k, w) ∷ r))
    → combined_maps op (l ++ (k, w) ∷ r) ys ≡ around (combined_maps op l (entries_below k ys)) k (kept op w (lookup k ys)) (combined_maps op r (entries_above k ys))
combined_cut Union k w low l r ys s = second_at (k, w) r low l ys s
combined_cut UnionKeepingFirst k w low l r ys s = first_at (k, w) r low l ys s
combined_cut Difference k w low l r ys s =
    without_at (k, w) r low l (keys_of ys) s
    ∙ ap (λ v. without_keys l v ++ one_of (has k (keys_of ys)) (k, w) (without_keys r (above k (keys_of ys)))) (sym (keys_below k ys))
    ∙ ap (λ v. without_keys l (keys_of (entries_below k ys)) ++ one_of (has k (keys_of ys)) (k, w) (without_keys r v)) (sym (keys_above k ys))
    ∙ left_over k w (without_keys l (keys_of (entries_below k ys))) (without_keys r (keys_of (entries_above k ys))) (lookup k ys) (has k (keys_of ys)) (has_lookup k ys)

pub combined_ascends : (op : MapOperation) (low : ℕ) (xs ys : List (ℕ × ℤ)) → AscendsFrom low (keys_of xs) → AscendsFrom low (keys_of ys) → AscendsFrom low (keys_of (combined_maps op xs ys))
combined_ascends Union low xs ys s t = rw (keys_of_second xs ys) (union_ascends low (keys_of xs) (keys_of ys) s t)
combined_ascends UnionKeepingFirst low xs ys s t = rw (keys_of_first xs ys) (union_ascends low (keys_of xs) (keys_of ys) s t)
combined_ascends Difference low xs ys s t = rw (keys_without xs (keys_of ys)) (difference_ascends low (keys_of xs) (keys_of ys) s)

around_length : (xs : List (ℕ × ℤ)) (k : ℕ) (o : Option ℤ) (ys : List (ℕ × ℤ)) → length (around xs k o ys) ≡ length xs + length ys + one o
around_length xs k None ys = omega (arith, length-append xs ys)
around_length xs k (Some w) ys = omega (arith, length-append xs ((k, w) ∷ ys))

-- how often an entry of the first list counts
abbrev counted : MapOperation → Option ℤ → ℕ
counted Union o = 1 + one o
counted UnionKeepingFirst o = 1 + one o
counted Difference o = 1

tally : (op : MapOperation) (w : ℤ) (o : Option ℤ) → one o + one (kept op w o) ≡ counted op o
tally Union w None = refl
tally Union w (Some v) = refl
tally UnionKeepingFirst w None = refl
tally UnionKeepingFirst w (Some v) = refl
tally Difference w None = refl
tally Difference w (Some v) = refl

most_cut : (op : MapOperation) (k : ℕ) (w : ℤ) (low : ℕ) (l r ys : List (ℕ × ℤ)) → AscendsFrom low (keys_of ys)
    → most (on_keys op) (length (l ++ (k, w) ∷ r)) (length ys) ≡ most (on_keys op) (length l) (length (entries_below k ys)) + most (on_keys op) (length r) (length (entries_above k ys)) + counted op
    (lookup k ys)
most_cut Union k w low l r ys t = omega (arith, length-append l ((k, w) ∷ r), cut_length k low ys t)
most_cut UnionKeepingFirst k w low l r ys t = omega (arith, length-append l ((k, w) ∷ r), cut_length k low ys t)
most_cut Difference k w low l r ys t = omega (arith, length-append l ((k, w) ∷ r))

pub combined_count : (op : MapOperation) (k : ℕ) (w : ℤ) (low low' : ℕ) (l r ys : List (ℕ × ℤ)) → AscendsFrom low (keys_of (l ++ (k, w) ∷ r)) → AscendsFrom low' (keys_of ys) → (c d : ℕ)
    → c + length (combined_maps op l (entries_below k ys)) ≡ most (on_keys op) (length l) (length (entries_below k ys))
    → d + length (combined_maps op r (entries_above k ys)) ≡ most (on_keys op) (length r) (length (entries_above k ys))
    → c + d + one (lookup k ys) + length (combined_maps op (l ++ (k, w) ∷ r) ys) ≡ most (on_keys op) (length (l ++ (k, w) ∷ r)) (length ys)
combined_count op k w low low' l r ys s t c d e f =
    let long = ap length (combined_cut op k w low l r ys s) in
    let parts = around_length (combined_maps op l (entries_below k ys)) k (kept op w (lookup k ys)) (combined_maps op r (entries_above k ys)) in
    omega (arith, long, parts, tally op w (lookup k ys), most_cut op k w low' l r ys t, e, f)

pub most_room : (op : MapOperation) (low : ℕ) (xs ys : List (ℕ × ℤ)) → AscendsFrom low (keys_of xs) → AscendsFrom low (keys_of ys) → most (on_keys op) (length xs) (length ys) ≤ 2 ^ 33
most_room op low xs ys s t =
    let a = few_entries low xs s in
    let b = few_entries low ys t in
    elim op as (λ o. most (on_keys o) (length xs) (length ys) ≤ 2 ^ 33) [ Union ↦ omega arith | UnionKeepingFirst ↦ omega arith | Difference ↦ omega arith ]

-- an answer has no more keys than the two lists
sides_length : (k : ℕ) (ys : List ℕ) → length (below k ys) + length (above k ys) ≤ length ys
sides_length k [] = omega arith
sides_length k (y ∷ ys) =
    elim (cases_lt y k) [
      | inl lt ↦ rw (lt-ltb y k lt, le-ltb k y (omega arith)) (omega (arith, sides_length k ys))
      | inr ge ↦ elim (cases_lt k y) [
        | inl lt ↦ rw (le-ltb y k ge, lt-ltb k y lt) (omega (arith, sides_length k ys))
        | inr le ↦ rw (le-ltb y k ge, le-ltb k y le) (omega (arith, sides_length k ys))
      ]
    ]

union_length : (xs ys : List ℕ) → length (union xs ys) ≤ length xs + length ys
union_length [] ys = omega arith
union_length (x ∷ xs) ys = omega (arith, length-append (below x ys) (x ∷ union xs (above x ys)), union_length xs (above x ys), sides_length x ys)

difference_length : (xs ys : List ℕ) → length (difference xs ys) ≤ length xs
difference_length [] ys = omega arith
difference_length (x ∷ xs) ys = elim (cases_Bool (has x ys)) [ inl h ↦ rw h (omega (arith, difference_length xs ys)) | inr h ↦ rw h (omega (arith, difference_length xs ys)) ]

by_union : (es xs ys : List (ℕ × ℤ)) → keys_of es ≡ union (keys_of xs) (keys_of ys) → length es ≤ length xs + length ys
by_union es xs ys is = omega (arith, length_keys es, length_keys xs, length_keys ys, ap length is, union_length (keys_of xs) (keys_of ys))

pub combined_length : (op : MapOperation) (xs ys : List (ℕ × ℤ)) → length (combined_maps op xs ys) ≤ most (on_keys op) (length xs) (length ys)
combined_length Union xs ys = by_union (combined_maps Union xs ys) xs ys (keys_of_second xs ys)
combined_length UnionKeepingFirst xs ys = by_union (combined_maps UnionKeepingFirst xs ys) xs ys (keys_of_first xs ys)
combined_length Difference xs ys = omega (arith, length_keys (combined_maps Difference xs ys), length_keys xs, ap length (keys_without xs (keys_of ys)), difference_length (keys_of xs) (keys_of ys))

first_nothing : (xs : List (ℕ × ℤ)) → union_keeping_first xs [] ≡ xs
first_nothing [] = refl
first_nothing (x ∷ xs) = ap (λ v. x ∷ v) (first_nothing xs)

-- nothing in the second list
pub with_no_second : (op : MapOperation) (xs ys : List (ℕ × ℤ)) → ys ≡ [] → combined_maps op xs ys ≡ xs
with_no_second Union xs ys e = ap (combined_maps Union xs) e ∙ second_nothing xs
with_no_second UnionKeepingFirst xs ys e = ap (combined_maps UnionKeepingFirst xs) e ∙ first_nothing xs
with_no_second Difference xs ys e = ap (combined_maps Difference xs) e ∙ without_nothing xs

pub most_no_second : (op : MapOperation) (xs ys : List (ℕ × ℤ)) → ys ≡ [] → most (on_keys op) (length xs) (length ys) ≡ length xs
most_no_second Union xs ys e = rw e (omega arith)
most_no_second UnionKeepingFirst xs ys e = rw e (omega arith)
most_no_second Difference xs ys e = refl
