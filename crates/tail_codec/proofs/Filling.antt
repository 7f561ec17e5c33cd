-- Entries whose keys, or whose weights, are read into the front of a block.
use Rattle.std.proofs.Common.{◌≡◌, ℕ, zero, suc, ◌+◌, ◌<◌, ℤ, pos, List, [], ◌∷◌, map, length, take, drop, get_or, slice_set, refl, sym, ◌∙◌, ap, arith}
use Rattle.std.proofs.lemmas.List.{length-drop, drop-drop, drop_more, drop-set-lt, take_more, take_more_set}

-- what one entry more says of the list that it was taken from
pub record Takes (whole rest : List (ℕ × ℤ)) (n : ℕ) (x : ℕ × ℤ) : Type 0 where
  pub within : n < length whole
  pub entry : x ≡ get_or whole n (0, pos 0)
  pub others : rest ≡ drop (n + 1) whole

pub taken : (whole rest now : List (ℕ × ℤ)) (n : ℕ) (x : ℕ × ℤ) → now ≡ drop n whole → now ≡ x ∷ rest → Takes whole rest n x
taken whole rest now n x is first =
    let same : drop n whole ≡ x ∷ rest = sym is ∙ first in
    let within : n < length whole = omega (arith, length-drop n whole, ap length same) in
    let cells : x ∷ rest ≡ get_or whole n (0, pos 0) ∷ drop (n + 1) whole = sym same ∙ drop_more whole n (0, pos 0) within in
    record { within = within; entry = cc; others = cc }

module _ {A : Type 0} (part : ℕ × ℤ → A) (none : A) where
  part_at : (n : ℕ) (es : List (ℕ × ℤ)) → n < length es → get_or (map part es) n none ≡ part (get_or es n (0, pos 0))
  part_at n [] lt = absurd (omega (arith, lt))
  part_at zero (e ∷ es) lt = refl
  part_at (suc n) (e ∷ es) lt = part_at n es (omega (arith, lt))

  parts_long : (es : List (ℕ × ℤ)) → length (map part es) ≡ length es
  parts_long [] = refl
  parts_long (e ∷ es) = ap suc (parts_long es)

  -- the block has a part of one entry more
  pub written : (whole : List (ℕ × ℤ)) (block : List A) (n : ℕ) (x : ℕ × ℤ) → n < length whole → n < length block → x ≡ get_or whole n (0, pos 0) → take n block ≡ take n (map part whole)
      → take (n + 1) (slice_set block n (part x)) ≡ take (n + 1) (map part whole)
  written whole block n x within room is same =
      let within' : n < length (map part whole) = omega (arith, within, parts_long whole) in
      let here : part x ≡ get_or (map part whole) n none = ap part is ∙ sym (part_at n whole within) in
      take_more_set block n (part x) room ∙ rw (here, same) (sym (take_more (map part whole) n none within'))

-- what stands after the position is as it was
pub untouched : {A : Type 0} (block old : List A) (n : ℕ) (x : A) → drop n block ≡ drop n old → drop (n + 1) (slice_set block n x) ≡ drop (n + 1) old
untouched block old n x same = drop-set-lt (n + 1) block n x (omega arith) ∙ sym (drop-drop 1 n block) ∙ ap (drop 1) same ∙ drop-drop 1 n old
