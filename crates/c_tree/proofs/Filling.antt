-- Blocks that are filled from the front, column by column.
use Rattle.std.proofs.Common.{◌≡◌, ℕ, ℤ, ◌+◌, ◌-◌, ◌<◌, ◌≤◌, inl, inr, min, List, [], ◌∷◌, ◌++◌, map, length, take, drop, set, refl, sym, ◌∙◌, ap, add-one, append_assoc, length-append, length-drop}
use Rattle.std.proofs.Common.{arith}
use Rattle.std.proofs.Math.Seq.{take-add}
use Rattle.std.proofs.lemmas.Bool.{cases_lt}
use Rattle.std.proofs.lemmas.List.{drop-drop, drop_at, take_at, drop_all, drop-append-le, take-append-le, length-take-le, length-map, map-append, drop-map, set_split}
use Rattle.c_tree.specs.inside.Blocks.{IsRead}

module _ {X : Type 0} (f : ℕ × ℤ → X) where
  -- What f gives of the first n entries of whole stands in block, which was old; rest is what is left.
  pub record IsFilled (n : ℕ) (whole rest : List (ℕ × ℤ)) (old block : List X) : Type 0 where
    pub is : block ≡ take n (map f whole) ++ drop n old
    pub left : rest ≡ drop n whole
    pub room : n ≤ length old
    pub within : n ≤ length whole

  module _ (n : ℕ) (whole rest : List (ℕ × ℤ)) (old block : List X) (filled : IsFilled n whole rest old block) where
    front_length : length (take n (map f whole)) ≡ n
    front_length = length-take-le n (map f whole) (omega (arith, filled.within, length-map whole f))

    pub same_length : length block ≡ length old
    same_length = ap length filled.is ∙ omega (arith, length-append (take n (map f whole)) (drop n old), front_length, length-drop n old, filled.room)

    pub filled_front : take n block ≡ take n (map f whole)
    filled_front = ap (take n) filled.is ∙ take_at (take n (map f whole)) (drop n old) n front_length

    pub filled_back : drop n block ≡ drop n old
    filled_back = ap (drop n) filled.is ∙ drop_at (take n (map f whole)) (drop n old) n front_length

    -- where the block is full or nothing is left, there are as many as fit
    pub filled_count : (n < length block → rest ≡ []) → n ≡ min (length old) (length whole)
    filled_count stopped =
        elim (cases_lt n (length block)) [
          | inl lt ↦ omega (arith, same_length, filled.room, filled.within, length-drop n whole, ap length (sym filled.left ∙ stopped lt))
          | inr ge ↦ omega (arith, same_length, filled.room, filled.within)
        ]

  -- more entries were read
  pub filled_more : (n : ℕ) (whole t others : List (ℕ × ℤ)) (old block : List X) (m : ℕ) (rest : List (ℕ × ℤ)) (new : List X) → IsFilled n whole (t ++ others) old block
      → m ≡ min (length block - n) (length t) → new ≡ take n block ++ (take m (map f t) ++ drop (n + m) block) → rest ≡ drop m t → IsFilled (n + m) whole (rest ++ others) old new
  filled_more n whole t others old block m rest new filled fits is left =
      let some : m ≤ length t = omega arith in
      let front : take n block ≡ take n (map f whole) = filled_front n whole (t ++ others) old block filled in
      let back : drop (n + m) block ≡ drop (n + m) old =
      sym (drop-drop m n block) ∙ ap (drop m) (filled_back n whole (t ++ others) old block filled) ∙ drop-drop m n old in
      let next : drop n (map f whole) ≡ map f t ++ map f others =
      drop-map f n whole ∙ ap (map f) (sym filled.left) ∙ map-append f t others in
      let more : take (n + m) (map f whole) ≡ take n (map f whole) ++ take m (map f t) =
      take-add n m (map f whole) ∙ ap (λ v. take n (map f whole) ++ take m v) next
      ∙ ap (λ v. take n (map f whole) ++ v) (take-append-le m (map f t) (map f others) (omega (arith, some, length-map t f))) in
      let after : rest ++ others ≡ drop (n + m) whole =
      ap (λ v. v ++ others) left ∙ sym (drop-append-le m t others some) ∙ ap (drop m) filled.left ∙ drop-drop m n whole in
      let long : length (t ++ others) ≡ length whole - n = ap length filled.left ∙ length-drop n whole in
      record {
        is = is ∙ rw (front, back, more) (sym (append_assoc (take n (map f whole)) (take m (map f t)) (drop (n + m) old)));
        left = after;
        room = omega (arith, same_length n whole (t ++ others) old block filled, filled.room);
        within = omega (arith, filled.within, length-append t others);
      }

  pub filled_one : (n : ℕ) (whole : List (ℕ × ℤ)) (e : ℕ × ℤ) (others : List (ℕ × ℤ)) (old block new : List X) → IsFilled n whole (e ∷ others) old block → n < length block → new ≡ set block n (f e)
      → IsFilled (n + 1) whole others old new
  filled_one n whole e others old block new filled lt is =
      filled_more n whole (e ∷ []) others old block 1 [] new filled (omega arith) (is ∙ set_split block n (f e) lt ∙ rw add-one refl) refl

  pub filled_read : (n : ℕ) (whole t others : List (ℕ × ℤ)) (old block : List X) (next : ℕ) (rest : List (ℕ × ℤ)) (new : List X) → IsFilled n whole (t ++ others) old block
      → IsRead f n t block next rest new → IsFilled next whole (rest ++ others) old new
  filled_read n whole t others old block next rest new filled r =
      rw r.after (filled_more n whole t others old block r.count rest new filled r.fits r.block r.left)

  -- where the block is not full, the tail was read whole
  pub read_whole : (n : ℕ) (t : List (ℕ × ℤ)) (old : List X) (next : ℕ) (rest : List (ℕ × ℤ)) (new : List X) → n ≤ length old → IsRead f n t old next rest new → length new ≡ length old
      → next < length new → rest ≡ []
  read_whole n t old next rest new room r same lt =
      let all : length t ≤ r.count = omega (arith, r.fits, r.after) in
      r.left ∙ drop_all r.count t all
