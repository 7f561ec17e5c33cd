-- Two lists of entries that are merged entry by entry.
use Rattle.std.specs.Int.{from_bool}
use Rattle.std.proofs.Common.{◌≡◌, ℕ, zero, suc, ◌+◌, ◌<◌, ◌≤◌, ℤ, pos, Bool, true, false, ◌||◌, if◌then◌else◌, nat_lt, leb, ◌⊎◌, inl, inr, None, min, List, [], ◌∷◌, ◌++◌, length, take, drop, get_or}
use Rattle.std.proofs.Common.{set, refl, sym, ◌∙◌, ap, append_assoc, arith}
use Rattle.std.specs.List.{zip}
use Rattle.std.specs.Map.{keys_of}
use Rattle.std.proofs.lemmas.Bool.{cases_order, cases_Bool, lt-ltb, le-ltb, le-leb, lt-leb, eq-eqb, ne_eqb}
use Rattle.std.proofs.lemmas.List.{append-nil, drop_more, take_more_set, take-set-le}
use Rattle.std.proofs.lemmas.Slice.Zip.{length-zip}
use Rattle.ascending_lists.specs.declared.set_operation.Operation.{Operation}
use Rattle.ascending_lists.specs.declared.set_operation.Operation.TheVariants.{Union, Difference}
use Rattle.ascending_lists.specs.Operations.{combined, most}
use Rattle.ascending_lists.specs.inside.Operations.{takes_second}
use Rattle.ascending_lists.specs.Sets.{has}
use Rattle.ascending_lists.specs.Ascending.{AscendsFrom}
use Rattle.ascending_lists.specs.Maps.{lookup}
use Rattle.ascending_lists.specs.MapOperations.{entries_below, entries_above, union_keeping_second, without_keys}
use Rattle.ascending_lists.proofs.Ascending.{ascends_from}
use Rattle.ascending_lists.proofs.Cutting.{has_none}
use Rattle.tail_codec.specs.inside.Merging.{merged}
use Rattle.ascending_lists.proofs.Merging as merging
use Rattle.tail_codec.proofs.Columns.{set_zip}
use Rattle.tail_codec.proofs.Writing.{key_of, length_keys}
use Rattle.tail_codec.proofs.MapPositions.{entries_below_none, entries_above_all, no_value}

module _ {V : Type 0} where
  -- first entries of a union
  second_lesser : (x y : ℕ × V) (xs ys : List (ℕ × V)) → x.0 < y.0 → AscendsFrom (y.0 + 1) (keys_of ys) → union_keeping_second (x ∷ xs) (y ∷ ys) ≡ x ∷ union_keeping_second xs (y ∷ ys)
  second_lesser x y xs ys lt s =
      let front : entries_below x.0 ys ≡ [] = entries_below_none x.0 (y.0 + 1) ys (omega arith) s in
      let none : lookup x.0 ys ≡ None = no_value x.0 (y.0 + 1) ys (omega arith) s in
      let back : entries_above x.0 ys ≡ ys = entries_above_all x.0 (y.0 + 1) ys (omega arith) s in
      rw (le-ltb y.0 x.0 (omega arith), ne_eqb y.0 x.0 (omega arith), lt-ltb x.0 y.0 lt, front, none, back) refl

  second_equal : (x y : ℕ × V) (xs ys : List (ℕ × V)) → x.0 ≡ y.0 → AscendsFrom (y.0 + 1) (keys_of ys) → union_keeping_second (x ∷ xs) (y ∷ ys) ≡ y ∷ union_keeping_second xs ys
  second_equal x y xs ys e s =
      let front : entries_below x.0 ys ≡ [] = entries_below_none x.0 (y.0 + 1) ys (omega arith) s in
      let back : entries_above x.0 ys ≡ ys = entries_above_all x.0 (y.0 + 1) ys (omega arith) s in
      rw (le-ltb y.0 x.0 (omega arith), eq-eqb y.0 x.0 (sym e), le-ltb x.0 y.0 (omega arith), front, back) (ap (λ (k : ℕ). (k, y.1) ∷ union_keeping_second xs ys) e)

  second_greater : (x y : ℕ × V) (xs ys : List (ℕ × V)) → y.0 < x.0 → union_keeping_second (x ∷ xs) (y ∷ ys) ≡ y ∷ union_keeping_second (x ∷ xs) ys
  second_greater x y xs ys lt = rw (lt-ltb y.0 x.0 lt, ne_eqb y.0 x.0 (omega arith), le-ltb x.0 y.0 (omega arith)) refl

  pub second_nothing : (xs : List (ℕ × V)) → union_keeping_second xs [] ≡ xs
  second_nothing [] = refl
  second_nothing (x ∷ xs) = ap (λ v. x ∷ v) (second_nothing xs)

  -- first entries of a difference
  one_left : Bool → ℕ × V → List (ℕ × V) → List (ℕ × V)
  one_left h x zs = if h then zs else x ∷ zs

  without_lesser : (x y : ℕ × V) (xs ys : List (ℕ × V)) → x.0 < y.0 → AscendsFrom (y.0 + 1) (keys_of ys) → without_keys (x ∷ xs) (keys_of (y ∷ ys)) ≡ x ∷ without_keys xs (keys_of (y ∷ ys))
  without_lesser x y xs ys lt s = rw (ne_eqb y.0 x.0 (omega arith), has_none x.0 (y.0 + 1) (keys_of ys) (omega arith) s) refl

  without_skip : (k low : ℕ) (xs : List (ℕ × V)) (ks : List ℕ) → k < low → AscendsFrom low (keys_of xs) → without_keys xs (k ∷ ks) ≡ without_keys xs ks
  without_skip k low [] ks lt s = refl
  without_skip k low (x ∷ xs) ks lt s =
      rw (ne_eqb k x.0 (omega (arith, s.0))) (elim (cases_Bool (has x.0 ks)) [
        | inl h ↦ rw h (without_skip k (x.0 + 1) xs ks (omega (arith, s.0)) s.2)
        | inr h ↦ rw h (ap (λ v. x ∷ v) (without_skip k (x.0 + 1) xs ks (omega (arith, s.0)) s.2))
      ])

  without_equal : (x y : ℕ × V) (xs ys : List (ℕ × V)) → x.0 ≡ y.0 → AscendsFrom (x.0 + 1) (keys_of xs) → without_keys (x ∷ xs) (keys_of (y ∷ ys)) ≡ without_keys xs (keys_of ys)
  without_equal x y xs ys e s = rw (eq-eqb y.0 x.0 (sym e)) (without_skip y.0 (x.0 + 1) xs (keys_of ys) (omega arith) s)

  pub without_nothing : (xs : List (ℕ × V)) → without_keys xs [] ≡ xs
  without_nothing [] = refl
  without_nothing (x ∷ xs) = ap (λ v. x ∷ v) (without_nothing xs)

-- Two lists are partly merged: out was written, and xs and ys are left.
pub record IsMerging (op : Operation) (all out xs ys : List (ℕ × ℤ)) : Type 0 where
  pub whole : out ++ merged op xs ys ≡ all
  pub left : AscendsFrom 0 (keys_of xs)
  pub right : AscendsFrom 0 (keys_of ys)

-- one entry, or none
abbrev written : Bool → ℕ × ℤ → List (ℕ × ℤ)
written true e = e ∷ []
written false e = []

lesser : (op : Operation) (x y : ℕ × ℤ) (xs ys : List (ℕ × ℤ)) → x.0 < y.0 → AscendsFrom (y.0 + 1) (keys_of ys) → merged op (x ∷ xs) (y ∷ ys) ≡ x ∷ merged op xs (y ∷ ys)
lesser Union x y xs ys lt s = second_lesser x y xs ys lt s
lesser Difference x y xs ys lt s = without_lesser x y xs ys lt s

greater : (op : Operation) (x y : ℕ × ℤ) (xs ys : List (ℕ × ℤ)) → y.0 < x.0 → AscendsFrom 0 (keys_of (x ∷ xs)) → merged op (x ∷ xs) (y ∷ ys) ≡ written (takes_second op) y ++ merged op (x ∷ xs) ys
greater Union x y xs ys lt s = second_greater x y xs ys lt
greater Difference x y xs ys lt s = without_skip y.0 x.0 (x ∷ xs) (keys_of ys) lt (omega arith, s.1, s.2)

equal : (op : Operation) (x y : ℕ × ℤ) (xs ys : List (ℕ × ℤ)) → x.0 ≡ y.0 → AscendsFrom (x.0 + 1) (keys_of xs) → AscendsFrom (y.0 + 1) (keys_of ys)
    → merged op (x ∷ xs) (y ∷ ys) ≡ written (takes_second op) y ++ merged op xs ys
equal Union x y xs ys e s t = second_equal x y xs ys e t
equal Difference x y xs ys e s t = without_equal x y xs ys e s

or_false : (b : Bool) → (b || false) ≡ b
or_false true = refl
or_false false = refl

or_true : (b : Bool) → (b || true) ≡ true
or_true true = refl
or_true false = refl

-- how many entries are taken of each list, and whether one is written
module _ (op : Operation) (all : List (ℕ × ℤ)) (xs ys list : List (ℕ × ℤ)) (i j k : ℕ) (within : i < length xs) (within' : j < length ys) (room : k < length list)
    (m : IsMerging op all (take k list) (drop i xs) (drop j ys)) where
  abbrev x : ℕ × ℤ
  x = get_or xs i (0, pos 0)

  abbrev y : ℕ × ℤ
  y = get_or ys j (0, pos 0)

  -- the entry with the lesser key, or the second's
  abbrev chosen : ℕ × ℤ
  chosen = (min x.0 y.0, if nat_lt x.0 y.0 then x.1 else y.1)

  cells : drop i xs ≡ x ∷ drop (i + 1) xs
  cells = drop_more xs i (0, pos 0) within

  cells' : drop j ys ≡ y ∷ drop (j + 1) ys
  cells' = drop_more ys j (0, pos 0) within'

  left : AscendsFrom 0 (keys_of (x ∷ drop (i + 1) xs))
  left = rw cells at m.left

  right : AscendsFrom 0 (keys_of (y ∷ drop (j + 1) ys))
  right = rw cells' at m.right

  whole : take k list ++ merged op (x ∷ drop (i + 1) xs) (y ∷ drop (j + 1) ys) ≡ all
  whole = ap (λ v. take k list ++ merged op v (y ∷ drop (j + 1) ys)) (sym cells) ∙ ap (λ v. take k list ++ merged op (drop i xs) v) (sym cells') ∙ m.whole

  later : (e : ℕ × ℤ) (es : List (ℕ × ℤ)) → AscendsFrom 0 (keys_of (e ∷ es)) → AscendsFrom 0 (keys_of es)
  later e es s = ascends_from 0 (e.0 + 1) (keys_of es) (omega arith) s.2

  none : (n : ℕ) → n + 0 ≡ n
  none n = omega arith

  -- what is written next
  put : (e : ℕ × ℤ) (b : Bool) → take (k + from_bool b) (set list k e) ≡ take k list ++ written b e
  put e true = take_more_set list k e room
  put e false = ap (λ (n : ℕ). take n (set list k e)) (omega arith) ∙ take-set-le k list k e (omega arith) ∙ sym (append-nil (take k list))

  stepped_equal : x.0 ≡ y.0 → IsMerging op all (take (k + from_bool (takes_second op)) (set list k y)) (drop (i + 1) xs) (drop (j + 1) ys)
  stepped_equal e = record {
    whole = ap (λ v. v ++ merged op (drop (i + 1) xs) (drop (j + 1) ys)) (put y (takes_second op))
        ∙ append_assoc (take k list) (written (takes_second op) y) (merged op (drop (i + 1) xs) (drop (j + 1) ys))
        ∙ ap (λ v. take k list ++ v) (sym (equal op x y (drop (i + 1) xs) (drop (j + 1) ys) e left.2 right.2)) ∙ whole;
    left = later x (drop (i + 1) xs) left;
    right = later y (drop (j + 1) ys) right;
  }

  stepped_lesser : x.0 < y.0 → IsMerging op all (take (k + 1) (set list k x)) (drop (i + 1) xs) (drop j ys)
  stepped_lesser lt = rw cells' (record {
    whole = ap (λ v. v ++ merged op (drop (i + 1) xs) (y ∷ drop (j + 1) ys)) (put x true) ∙ append_assoc (take k list) (x ∷ []) (merged op (drop (i + 1) xs) (y ∷ drop (j + 1) ys))
        ∙ ap (λ v. take k list ++ v) (sym (lesser op x y (drop (i + 1) xs) (drop (j + 1) ys) lt right.2)) ∙ whole;
    left = later x (drop (i + 1) xs) left;
    right = right;
  })

  stepped_greater : y.0 < x.0 → IsMerging op all (take (k + from_bool (takes_second op)) (set list k y)) (drop i xs) (drop (j + 1) ys)
  stepped_greater gt = rw cells (record {
    whole = ap (λ v. v ++ merged op (x ∷ drop (i + 1) xs) (drop (j + 1) ys)) (put y (takes_second op))
        ∙ append_assoc (take k list) (written (takes_second op) y) (merged op (x ∷ drop (i + 1) xs) (drop (j + 1) ys))
        ∙ ap (λ v. take k list ++ v) (sym (greater op x y (drop (i + 1) xs) (drop (j + 1) ys) gt left)) ∙ whole;
    left = left;
    right = later y (drop (j + 1) ys) right;
  })

  pub stepped : IsMerging op all (take (k + from_bool (takes_second op || nat_lt x.0 y.0)) (set list k chosen)) (drop (i + from_bool (leb x.0 y.0)) xs) (drop (j + from_bool (leb y.0 x.0)) ys)
  stepped =
      elim (cases_order x.0 y.0) [
        | inl e ↦
            let low : min x.0 y.0 ≡ y.0 = omega arith in
            rw (low, le-ltb x.0 y.0 (omega (arith, e)), le-leb x.0 y.0 (omega (arith, e)), le-leb y.0 x.0 (omega (arith, e)), or_false (takes_second op)) (stepped_equal e)
        | inr other ↦ elim other [
          | inl lt ↦
              let low : min x.0 y.0 ≡ x.0 = omega arith in
              rw (low, lt-ltb x.0 y.0 lt, le-leb x.0 y.0 (omega arith), lt-leb y.0 x.0 lt, or_true (takes_second op), none j) (stepped_lesser lt)
          | inr gt ↦
              let low : min x.0 y.0 ≡ y.0 = omega arith in
              rw (low, le-ltb x.0 y.0 (omega arith), lt-leb x.0 y.0 gt, le-leb y.0 x.0 (omega arith), or_false (takes_second op), none i) (stepped_greater gt)
        ]
      ]

-- what is left once one of the lists is over
pub merged_whole : (op : Operation) (all out xs ys : List (ℕ × ℤ)) → out ++ merged op xs ys ≡ all → (xs ≡ []) ⊎ (ys ≡ []) → (out ++ xs) ++ (if takes_second op then ys else []) ≡ all
merged_whole Union all out xs ys is (inl e) = append_assoc out xs ys ∙ ap (λ v. out ++ v) (ap (λ v. v ++ ys) e ∙ sym (ap (λ v. union_keeping_second v ys) e)) ∙ is
merged_whole Union all out xs ys is (inr e) = append_assoc out xs ys ∙ ap (λ v. out ++ v) (ap (λ v. xs ++ v) e ∙ append-nil xs ∙ sym (ap (λ v. union_keeping_second xs v) e ∙ second_nothing xs)) ∙ is
merged_whole Difference all out xs ys is (inl e) = append-nil (out ++ xs) ∙ ap (λ v. out ++ v) (e ∙ sym (ap (λ v. without_keys v (keys_of ys)) e)) ∙ is
merged_whole Difference all out xs ys is (inr e) = append-nil (out ++ xs) ∙ ap (λ v. out ++ v) (sym (ap (λ v. without_keys xs (keys_of v)) e ∙ without_nothing xs)) ∙ is

keys_dropped : (n : ℕ) (es : List (ℕ × ℤ)) → keys_of (drop n es) ≡ drop n (keys_of es)
keys_dropped zero es = refl
keys_dropped (suc n) [] = refl
keys_dropped (suc n) (e ∷ es) = keys_dropped n es

-- two columns after one turn
module _ (op : Operation) (all xs ys : List (ℕ × ℤ)) (keys : List ℕ) (weights : List ℤ) (i j k : ℕ) (within : i < length xs) (within' : j < length ys) (room : k < length keys)
    (same : length weights ≡ length keys) (m : IsMerging op all (take k (zip keys weights)) (drop i xs) (drop j ys)) where
  abbrev key : ℕ
  key = get_or (keys_of xs) i 0

  abbrev key' : ℕ
  key' = get_or (keys_of ys) j 0

  abbrev weight : ℤ
  weight = if nat_lt key key' then (get_or xs i (0, pos 0)).1 else (get_or ys j (0, pos 0)).1

  pub turned : IsMerging op all (take (k + from_bool (takes_second op || nat_lt key key')) (zip (set keys k (min key key')) (set weights k weight))) (drop (i + from_bool (leb key key')) xs)
      (drop (j + from_bool (leb key' key)) ys)
  turned =
      let room' : k < length (zip keys weights) = omega (arith, length-zip keys weights, room, same) in
      rw (set_zip k keys weights (min key key') weight, key_of i xs within, key_of j ys within') (stepped op all xs ys (zip keys weights) i j k within within' room' m)

  -- the keys alone
  on_keys : merging.IsMerging op (take k keys ++ combined op (drop i (keys_of xs)) (drop j (keys_of ys))) (take k keys) (drop i (keys_of xs)) (drop j (keys_of ys))
  on_keys = record {
    whole = refl;
    left = rw (keys_dropped i xs) at m.left;
    right = rw (keys_dropped j ys) at m.right;
  }

  key_within : i < length (keys_of xs)
  key_within = omega (arith, within, length_keys xs)

  key_within' : j < length (keys_of ys)
  key_within' = omega (arith, within', length_keys ys)

  pub less : k + from_bool (takes_second op || nat_lt key key') + most op (length (drop (i + from_bool (leb key key')) (keys_of xs)))
      (length (drop (j + from_bool (leb key' key)) (keys_of ys))) ≤ k + most op (length (drop i (keys_of xs))) (length (drop j (keys_of ys)))
  less = merging.less_left op _ (keys_of xs) (keys_of ys) keys i j k key_within key_within' room on_keys

  pub on : (i + from_bool (leb key key') ≤ length xs) × (j + from_bool (leb key' key) ≤ length ys) × (i + j < i + from_bool (leb key key') + (j + from_bool (leb key' key)))
  on = rw (length_keys xs, length_keys ys) at (merging.further op _ (keys_of xs) (keys_of ys) keys i j k key_within key_within' room on_keys)
