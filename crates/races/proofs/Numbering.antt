-- Texts of numbered items, sent one after another.
use Rattle.std.proofs.Common.{◌≡◌, ◌∙◌, ℕ, suc, ◌+◌, ◌<◌, List, [], ◌∷◌, ◌++◌, length, get_or, take, drop, sym, ap, subst, append_assoc, append-nil, arith}
use Rattle.std.proofs.lemmas.List.{take-append-drop, drop_more, take_more, length-take-le}
use Rattle.replies.specs.declared.send_error.SendError.{SendError}
use Rattle.replies.specs.Sending.{Output, Sends, Fails}
use Rattle.replies.proofs.SendingLaws.{sends_then, fails_then, fails_more}
use Rattle.races.specs.RaceText.{numbered}

module _ {A : Type 0} (f : ℕ → A → List ℕ) where
  numbered-append : (n : ℕ) (xs ys : List A) → numbered f n (xs ++ ys) ≡ numbered f n xs ++ numbered f (length xs + n) ys
  numbered-append n [] ys =
      let none : n ≡ 0 + n = omega arith in
      ap (λ (k : ℕ). numbered f k ys) none
  numbered-append n (x ∷ xs) ys =
      let counted : length xs + suc n ≡ length (x ∷ xs) + n = omega arith in
      ap (λ (t : List ℕ). f n x ++ t) (numbered-append (suc n) xs ys ∙ ap (λ (k : ℕ). numbered f (suc n) xs ++ numbered f k ys) counted)
      ∙ sym (append_assoc (f n x) (numbered f (suc n) xs) (numbered f (length (x ∷ xs) + n) ys))

  module _ (a b c : Output) (xs : List A) (index : ℕ) (x none : A) (within : index < length xs) (is : x ≡ get_or xs index none) where
    counted : length (take index xs) + 1 ≡ index + 1
    counted = ap (λ (n : ℕ). n + 1) (length-take-le index xs (omega (arith, within)))

    split_at : take index xs ++ x ∷ drop (index + 1) xs ≡ xs
    split_at = ap (λ ys. take index xs ++ ys) (ap (λ y. y ∷ drop (index + 1) xs) is ∙ sym (drop_more xs index none within)) ∙ take-append-drop index xs

    so_far : numbered f 1 (take index xs) ++ f (index + 1) x ≡ numbered f 1 (take (index + 1) xs)
    so_far =
        let more : take index xs ++ x ∷ [] ≡ take (index + 1) xs = ap (λ y. take index xs ++ y ∷ []) is ∙ sym (take_more xs index none within) in
        ap (λ (t : List ℕ). numbered f 1 (take index xs) ++ t) (ap (λ (k : ℕ). f k x) (sym counted) ∙ sym (append-nil (f (length (take index xs) + 1) x)))
        ∙ sym (numbered-append 1 (take index xs) (x ∷ [])) ∙ ap (numbered f 1) more

    pub sends_numbered : Sends a b (numbered f 1 (take index xs)) → Sends b c (f (index + 1) x) → Sends a c (numbered f 1 (take (index + 1) xs))
    sends_numbered one other = subst (Sends a c) so_far (sends_then a b c (numbered f 1 (take index xs)) (f (index + 1) x) one other)

    pub fails_numbered : (error : SendError) → Sends a b (numbered f 1 (take index xs)) → Fails b c (f (index + 1) x) error → Fails a c (numbered f 1 xs) error
    fails_numbered error one other =
        let rest = numbered f (suc (length (take index xs) + 1)) (drop (index + 1) xs) in
        let whole : (numbered f 1 (take index xs) ++ f (index + 1) x) ++ rest ≡ numbered f 1 xs =
        append_assoc (numbered f 1 (take index xs)) (f (index + 1) x) rest
        ∙ ap (λ (k : ℕ). numbered f 1 (take index xs) ++ (f k x ++ rest)) (sym counted)
        ∙ sym (numbered-append 1 (take index xs) (x ∷ drop (index + 1) xs)) ∙ ap (numbered f 1) split_at in
        subst (λ (t : List ℕ). Fails a c t error) whole
        (fails_more a c (numbered f 1 (take index xs) ++ f (index + 1) x) rest error (fails_then a b c (numbered f 1 (take index xs)) (f (index + 1) x) error one other))
