-- Blocks that are filled from a list, upward and downward.
use Rattle.std.proofs.Common.{◌≡◌, ℕ, ◌+◌, ◌-◌, ◌<◌, ◌≤◌, List, [], ◌∷◌, ◌++◌, map, reverse, length, get_or, slice_set, take, drop, refl, sym, ◌∙◌, ap, arith, get_or-drop, length-drop}
use borrow.Rule.Slice.PartMut.{put_mid}
use Rattle.std.proofs.lemmas.List.{append-nil, drop_all, drop_more, set_at, take_more, take_more_set, get_or-reverse, get_or-take, length-take, length-take-le, length-reverse, length-map, take-take}
use Rattle.std.proofs.lemmas.List.{take-append-drop, drop-take, reverse-append, map_push, take_at, drop_at, take-map, drop-map}

-- one element more of the list is in the block
pub written : (whole block : List ℕ) (n x : ℕ) → n < length whole → n < length block → x ≡ get_or whole n 0 → take n block ≡ take n whole → take (n + 1) (slice_set block n x) ≡ take (n + 1) whole
written whole block n x within room is same = take_more_set block n x room ∙ rw (is, same) (sym (take_more whole n 0 within))

pub up_at : (xs : List ℕ) (from i index : ℕ) → index + 1 ≡ from + i → get_or xs (index + 1) 0 ≡ get_or (drop from xs) i 0
up_at xs from i index is = ap (λ k. get_or xs k 0) is ∙ sym (get_or-drop from xs i 0)

pub down_at : (xs : List ℕ) (end i index : ℕ) → end ≤ length xs → index + 1 + i ≡ end → get_or xs index 0 ≡ get_or (reverse (take end xs)) i 0
down_at xs end i index within is =
    let all : length (take end xs) ≡ end = length-take-le end xs within in
    let position : length (take end xs) - 1 - i ≡ index = omega (arith, all) in
    sym (get_or-reverse (take end xs) i 0 (omega (arith, all)) ∙ ap (λ k. get_or (take end xs) k 0) position ∙ get_or-take end xs index 0 (omega arith))

-- the first element, and the others after it
pub first_filled : (block xs ys : List ℕ) (first : ℕ) → 0 < length block → length block ≤ length xs → first ≡ get_or xs 0 0
    → ys ≡ take (length (take (length (slice_set block 0 first) - 1) (drop 1 (slice_set block 0 first)))) (drop 1 xs)
    → put_mid 1 (length (slice_set block 0 first) - 1) (slice_set block 0 first) ys ≡ take (length block) xs
first_filled [] xs ys first some room is rest = absurd (omega arith)
first_filled (b ∷ bs) [] ys first some room is rest = absurd (omega arith)
first_filled (b ∷ bs) (x ∷ xs) ys first some room is rest =
    let count : length (first ∷ bs) - 1 ≡ length bs = omega arith in
    let all : length (take (length (first ∷ bs) - 1) bs) ≡ length bs = omega (arith, length-take (length (first ∷ bs) - 1) bs) in
    let none : drop (length (first ∷ bs) - 1) bs ≡ [] = drop_all (length (first ∷ bs) - 1) bs (omega arith) in
    let same : ys ≡ take (length bs) xs = rest ∙ ap (λ n. take n xs) all in
    rw (none, is, same) (ap (λ zs. x ∷ zs) (append-nil (take (length bs) xs)))

-- the first element, after the others
pub last_filled : (block ys zs : List ℕ) (n p x : ℕ) → length block ≡ n → 0 < n → length zs ≡ n → p ≡ n - 1 → ys ≡ take p zs → x ≡ get_or zs (n - 1) 0
    → slice_set (ys ++ drop (n - 1) block) (n - 1) x ≡ take n zs
last_filled block ys zs n p x long some all at is last =
    let rest : drop (n - 1) block ≡ get_or block (n - 1) 0 ∷ drop (n - 1 + 1) block = drop_more block (n - 1) 0 (omega arith) in
    let none : drop (n - 1 + 1) block ≡ [] = drop_all (n - 1 + 1) block (omega arith) in
    let front : ys ≡ take (n - 1) zs = is ∙ ap (λ k. take k zs) at in
    let count : length ys ≡ n - 1 = ap length front ∙ length-take-le (n - 1) zs (omega arith) in
    let up : n - 1 + 1 ≡ n = omega arith in
    ap (λ ds. slice_set (ys ++ ds) (n - 1) x) (rest ∙ ap (λ ds. get_or block (n - 1) 0 ∷ ds) none)
    ∙ set_at ys (get_or block (n - 1) 0) [] x (n - 1) count
    ∙ rw (last, front) (sym (take_more zs (n - 1) 0 (omega arith)))
    ∙ ap (λ k. take k zs) up

-- a list is cut in two, and mapped downward
apart : {X : Type 0} (list : List X) (left n : ℕ) → n ≤ left → take left list ≡ take (left - n) list ++ take n (drop (left - n) list)
apart list left n le =
    let whole : left - n + n ≡ left = omega arith in
    sym (take-append-drop (left - n) (take left list))
    ∙ ap (λ v. v ++ drop (left - n) (take left list)) (take-take (left - n) left list (omega arith))
    ∙ ap (λ k. take (left - n) list ++ drop (left - n) (take k list)) (sym whole)
    ∙ ap (λ v. take (left - n) list ++ v) (drop-take (left - n) n list)

apart_length : {X : Type 0} (list : List X) (left n : ℕ) → left ≤ length list → n ≤ left → length (reverse (take n (drop (left - n) list))) ≡ n
apart_length list left n within le = length-reverse (take n (drop (left - n) list)) ∙ length-take-le n (drop (left - n) list) (omega (arith, length-drop (left - n) list))

map_reverse : {X Y : Type 0} (f : X → Y) (xs : List X) → map f (reverse xs) ≡ reverse (map f xs)
map_reverse f [] = refl
map_reverse f (x ∷ xs) =
    ap (map f) (reverse-append (x ∷ []) xs) ∙ map_push f (reverse xs) x ∙ ap (λ v. v ++ f x ∷ []) (map_reverse f xs) ∙ sym (reverse-append (f x ∷ []) (map f xs))

-- a block that is filled upward and then turned is filled downward
pub turned : {X : Type 0} (list : List X) (left n : ℕ) → left ≤ length list → n ≤ left → reverse (take n (drop (left - n) list)) ≡ take n (reverse (take left list))
turned list left n within le =
    sym (ap (λ v. take n (reverse v)) (apart list left n le)
    ∙ ap (take n) (reverse-append (take (left - n) list) (take n (drop (left - n) list)))
    ∙ take_at (reverse (take n (drop (left - n) list))) (reverse (take (left - n) list)) n (apart_length list left n within le))

-- what is left of a list downward
pub left_down : {X : Type 0} (list now : List X) (left n : ℕ) → reverse (take left list) ≡ now → left ≤ length list → n ≤ left → reverse (take (left - n) list) ≡ drop n now
left_down list now left n seen within le =
    sym (ap (drop n) (sym seen ∙ ap reverse (apart list left n le) ∙ reverse-append (take (left - n) list) (take n (drop (left - n) list)))
    ∙ drop_at (reverse (take n (drop (left - n) list))) (reverse (take (left - n) list)) n (apart_length list left n within le))

-- blocks of a column of a list, upward and downward
module _ {X Y : Type 0} (f : X → Y) (list now : List X) (block part : List Y) (n : ℕ) (room : n ≤ length block) where
  column_filled : (whole : List Y) → n ≤ length whole → part ≡ take (length (take n block)) whole → take n (part ++ drop n block) ≡ take n whole
  column_filled whole within is =
      let front : part ≡ take n whole = is ∙ ap (λ k. take k whole) (length-take-le n block room) in
      take_at part (drop n block) n (ap length front ∙ length-take-le n whole within) ∙ front

  pub filled_up : (at : ℕ) → drop at list ≡ now → n ≤ length list - at → part ≡ take (length (take n block)) (drop at (map f list)) → take n (part ++ drop n block) ≡ take n (map f now)
  filled_up at seen within is =
      column_filled (drop at (map f list)) (omega (arith, within, length-drop at (map f list), length-map list f)) is
      ∙ ap (take n) (drop-map f at list ∙ ap (map f) seen)

  pub filled_down : (left : ℕ) → reverse (take left list) ≡ now → left ≤ length list → n ≤ left → part ≡ take (length (take n block)) (reverse (take left (map f list)))
      → take n (part ++ drop n block) ≡ take n (map f now)
  filled_down left seen within le is =
      let long : length (reverse (take left (map f list))) ≡ left = length-reverse (take left (map f list)) ∙ length-take-le left (map f list) (omega (arith, within, length-map list f)) in
      column_filled (reverse (take left (map f list))) (omega (arith, long)) is
      ∙ ap (λ v. take n (reverse v)) (take-map f left list) ∙ ap (take n) (sym (map_reverse f (take left list)) ∙ ap (map f) seen)
