-- Two lists that are merged element by element.
use Rattle.std.specs.Int.{from_bool}
use Rattle.std.proofs.Common.{◌≡◌, ℕ, ◌+◌, ◌<◌, ◌≤◌, Bool, true, false, ◌||◌, if◌then◌else◌, ltb, leb, ◌⊎◌, inl, inr, min, List, [], ◌∷◌, ◌++◌, length, take, drop, get_or, set, refl, sym, ◌∙◌, ap}
use Rattle.std.proofs.Common.{append_assoc, length-drop, arith}
use Rattle.std.proofs.Math.Seq.{take-append_seam}
use Rattle.std.proofs.lemmas.Bool.{cases_order, cases_lt, lt-ltb, le-ltb, le-leb, lt-leb}
use Rattle.std.proofs.lemmas.List.{append-nil, drop_more, take_more_set, take-set-le}
use Rattle.ascending_lists.specs.declared.set_operation.Operation.{Operation}
use Rattle.ascending_lists.specs.declared.set_operation.Operation.TheVariants.{Union, Difference}
use Rattle.ascending_lists.specs.Operations.{combined, most}
use Rattle.ascending_lists.specs.inside.Operations.{takes_second}
use Rattle.ascending_lists.specs.Sets.{union, difference}
use Rattle.ascending_lists.specs.Ascending.{AscendsFrom}
use Rattle.ascending_lists.proofs.Ascending.{ascends_from}
use Rattle.ascending_lists.proofs.Unions.{union_lesser, union_equal, union_greater, union_nothing}
use Rattle.ascending_lists.proofs.Differences.{difference_lesser, difference_skip, difference_equal, difference_nothing}

-- Two lists are partly merged: out was written, and xs and ys are left.
pub record IsMerging (op : Operation) (all out xs ys : List ℕ) : Type 0 where
  pub whole : out ++ combined op xs ys ≡ all
  pub left : AscendsFrom 0 xs
  pub right : AscendsFrom 0 ys

-- one element, or none
abbrev written : Bool → ℕ → List ℕ
written true x = x ∷ []
written false x = []

lesser : (op : Operation) (x y : ℕ) (xs ys : List ℕ) → x < y → AscendsFrom (y + 1) ys → combined op (x ∷ xs) (y ∷ ys) ≡ x ∷ combined op xs (y ∷ ys)
lesser Union x y xs ys lt s = union_lesser x y xs ys lt s
lesser Difference x y xs ys lt s = difference_lesser x y xs ys lt s

greater : (op : Operation) (x y : ℕ) (xs ys : List ℕ) → y < x → AscendsFrom 0 (x ∷ xs) → combined op (x ∷ xs) (y ∷ ys) ≡ written (takes_second op) y ++ combined op (x ∷ xs) ys
greater Union x y xs ys lt s = union_greater x y xs ys lt
greater Difference x y xs ys lt s = difference_skip y x (x ∷ xs) ys lt (omega arith, s.1, s.2)

equal : (op : Operation) (x y : ℕ) (xs ys : List ℕ) → x ≡ y → AscendsFrom (x + 1) xs → AscendsFrom (y + 1) ys → combined op (x ∷ xs) (y ∷ ys) ≡ written (takes_second op) x ++ combined op xs ys
equal Union x y xs ys e s t = union_equal x y xs ys e t
equal Difference x y xs ys e s t = difference_equal x y xs ys e s

or_false : (b : Bool) → (b || false) ≡ b
or_false true = refl
or_false false = refl

or_true : (b : Bool) → (b || true) ≡ true
or_true true = refl
or_true false = refl

-- how many elements are taken of each list, and whether one is written
module _ (op : Operation) (all : List ℕ) (xs ys list : List ℕ) (i j k : ℕ) (within : i < length xs) (within' : j < length ys) (room : k < length list)
    (m : IsMerging op all (take k list) (drop i xs) (drop j ys)) where
  abbrev x : ℕ
  x = get_or xs i 0

  abbrev y : ℕ
  y = get_or ys j 0

  cells : drop i xs ≡ x ∷ drop (i + 1) xs
  cells = drop_more xs i 0 within

  cells' : drop j ys ≡ y ∷ drop (j + 1) ys
  cells' = drop_more ys j 0 within'

  left : AscendsFrom 0 (x ∷ drop (i + 1) xs)
  left = rw cells at m.left

  right : AscendsFrom 0 (y ∷ drop (j + 1) ys)
  right = rw cells' at m.right

  whole : take k list ++ combined op (x ∷ drop (i + 1) xs) (y ∷ drop (j + 1) ys) ≡ all
  whole = ap (λ v. take k list ++ combined op v (y ∷ drop (j + 1) ys)) (sym cells) ∙ ap (λ v. take k list ++ combined op (drop i xs) v) (sym cells') ∙ m.whole

  later : (z : ℕ) (zs : List ℕ) → AscendsFrom 0 (z ∷ zs) → AscendsFrom 0 zs
  later z zs s = ascends_from 0 (z + 1) zs (omega arith) s.2

  none : (n : ℕ) → n + 0 ≡ n
  none n = omega arith

  -- what is written next
  put : (z : ℕ) (b : Bool) → take (k + from_bool b) (set list k z) ≡ take k list ++ written b z
  put z true = take_more_set list k z room
  put z false = ap (λ (n : ℕ). take n (set list k z)) (omega arith) ∙ take-set-le k list k z (omega arith) ∙ sym (append-nil (take k list))

  pub stepped : IsMerging op all (take (k + from_bool (takes_second op || ltb x y)) (set list k (min x y))) (drop (i + from_bool (leb x y)) xs) (drop (j + from_bool (leb y x)) ys)
  stepped =
      elim (cases_order x y) [
        | inl e ↦
            let low : min x y ≡ x = omega arith in
            rw (le-ltb x y (omega (arith, e)), le-leb x y (omega (arith, e)), le-leb y x (omega (arith, e)), low, or_false (takes_second op)) (record {
              whole = ap (λ v. v ++ combined op (drop (i + 1) xs) (drop (j + 1) ys)) (put x (takes_second op))
                  ∙ append_assoc (take k list) (written (takes_second op) x) (combined op (drop (i + 1) xs) (drop (j + 1) ys))
                  ∙ ap (λ v. take k list ++ v) (sym (equal op x y (drop (i + 1) xs) (drop (j + 1) ys) e left.2 right.2)) ∙ whole;
              left = later x (drop (i + 1) xs) left;
              right = later y (drop (j + 1) ys) right;
            })
        | inr other ↦ elim other [
          | inl lt ↦
              let low : min x y ≡ x = omega arith in
              rw (lt-ltb x y lt, le-leb x y (omega arith), lt-leb y x lt, low, or_true (takes_second op), none j, cells') (record {
                whole = ap (λ v. v ++ combined op (drop (i + 1) xs) (y ∷ drop (j + 1) ys)) (put x true) ∙ append_assoc (take k list) (x ∷ []) (combined op (drop (i + 1) xs) (y ∷ drop (j + 1) ys))
                    ∙ ap (λ v. take k list ++ v) (sym (lesser op x y (drop (i + 1) xs) (drop (j + 1) ys) lt right.2)) ∙ whole;
                left = later x (drop (i + 1) xs) left;
                right = right;
              })
          | inr gt ↦
              let low : min x y ≡ y = omega arith in
              rw (le-ltb x y (omega arith), lt-leb x y gt, le-leb y x (omega arith), low, or_false (takes_second op), none i, cells) (record {
                whole = ap (λ v. v ++ combined op (x ∷ drop (i + 1) xs) (drop (j + 1) ys)) (put y (takes_second op))
                    ∙ append_assoc (take k list) (written (takes_second op) y) (combined op (x ∷ drop (i + 1) xs) (drop (j + 1) ys))
                    ∙ ap (λ v. take k list ++ v) (sym (greater op x y (drop (i + 1) xs) (drop (j + 1) ys) gt left)) ∙ whole;
                left = left;
                right = later y (drop (j + 1) ys) right;
              })
        ]
      ]

  -- what is left to write
  pub less_left : k + from_bool (takes_second op || ltb x y) + most op (length (drop (i + from_bool (leb x y)) xs)) (length (drop (j + from_bool (leb y x)) ys)) ≤ k + most op (length (drop i xs))
      (length (drop j ys))
  less_left =
      let n = length-drop i xs in
      let n' = length-drop (i + 1) xs in
      let m = length-drop j ys in
      let m' = length-drop (j + 1) ys in
      elim op as (λ o. k + from_bool (takes_second o || ltb x y) + most o (length (drop (i + from_bool (leb x y)) xs)) (length (drop (j + from_bool (leb y x)) ys)) ≤ k + most o (length (drop i xs))
      (length (drop j ys))) [
        | Union ↦ elim (cases_lt y x) [
          | inl gt ↦ rw (lt-leb x y gt, le-leb y x (omega arith), none i) (omega (arith, n, m, m'))
          | inr le ↦ elim (cases_lt x y) [
            | inl lt ↦ rw (le-leb x y le, lt-leb y x lt, none j) (omega (arith, n, n', m))
            | inr ge ↦ rw (le-leb x y le, le-leb y x ge) (omega (arith, n, n', m, m'))
          ]
        ]
        | Difference ↦ elim (cases_lt x y) [
          | inl lt ↦ rw (lt-ltb x y lt, le-leb x y (omega arith)) (omega (arith, n, n'))
          | inr ge ↦ elim (cases_lt y x) [
            | inl gt ↦ rw (le-ltb x y ge, lt-leb x y gt, none i) (omega (arith, n))
            | inr le ↦ rw (le-ltb x y ge, le-leb x y le) (omega (arith, n, n'))
          ]
        ]
      ]

  pub further : (i + from_bool (leb x y) ≤ length xs) × (j + from_bool (leb y x) ≤ length ys) × (i + j < i + from_bool (leb x y) + (j + from_bool (leb y x)))
  further =
      elim (cases_lt y x) [
        | inl gt ↦ rw (lt-leb x y gt, le-leb y x (omega arith)) (omega arith, omega arith, omega arith)
        | inr le ↦ elim (cases_lt x y) [
          | inl lt ↦ rw (le-leb x y le, lt-leb y x lt) (omega arith, omega arith, omega arith)
          | inr ge ↦ rw (le-leb x y le, le-leb y x ge) (omega arith, omega arith, omega arith)
        ]
      ]

-- what is left once one of the lists is over
pub merged_whole : (op : Operation) (all out xs ys : List ℕ) → out ++ combined op xs ys ≡ all → (xs ≡ []) ⊎ (ys ≡ []) → (out ++ xs) ++ (if takes_second op then ys else []) ≡ all
merged_whole Union all out xs ys is (inl e) = append_assoc out xs ys ∙ ap (λ v. out ++ v) (ap (λ v. v ++ ys) e ∙ sym (ap (λ v. union v ys) e)) ∙ is
merged_whole Union all out xs ys is (inr e) = append_assoc out xs ys ∙ ap (λ v. out ++ v) (ap (λ v. xs ++ v) e ∙ append-nil xs ∙ sym (ap (λ v. union xs v) e ∙ union_nothing 0 xs)) ∙ is
merged_whole Difference all out xs ys is (inl e) = append-nil (out ++ xs) ∙ ap (λ v. out ++ v) (e ∙ sym (ap (λ v. difference v ys) e)) ∙ is
merged_whole Difference all out xs ys is (inr e) = append-nil (out ++ xs) ∙ ap (λ v. out ++ v) (sym (ap (λ v. difference xs v) e ∙ difference_nothing xs)) ∙ is

pub some_left : (op : Operation) (xs ys : List ℕ) (i j : ℕ) → i < length xs → j < length ys → 0 < most op (length (drop i xs)) (length (drop j ys))
some_left Union xs ys i j lt lt' = omega (arith, length-drop i xs)
some_left Difference xs ys i j lt lt' = omega (arith, length-drop i xs)

-- a vector whose elements were written anew
pub written_anew : (n : ℕ) (new old : List ℕ) → length new ≡ n → take n (new ++ drop (length new) old) ≡ new
written_anew n new old e = ap (λ (k : ℕ). take k (new ++ drop (length new) old)) (sym e) ∙ take-append_seam new (drop (length new) old)
