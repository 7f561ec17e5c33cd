-- Two lists that are gone over side by side, and the numbers that only one of them has.
use Rattle.std.proofs.Common.{◌≡◌, ℕ, ◌+◌, ◌-◌, ◌<◌, ◌≤◌, ◌==◌, Bool, true, false, ◌||◌, List, [], ◌∷◌, ◌++◌, length, take, drop, get_or, refl, ap, ap₂, sym, ◌∙◌, inl, inr, arith, append_assoc}
use Rattle.std.proofs.lemmas.Bool.{cases_lt}
use Rattle.std.proofs.lemmas.List.{length-drop, take-append-drop, take_all, take_more}
use Rattle.kernels.specs.EdgeApply.{is_member}
use Rattle.run_records.specs.inside.Ends.{IsApart}

or_assoc : (a b c : Bool) → a || (b || c) ≡ (a || b) || c
or_assoc true b c = refl
or_assoc false b c = refl

member_of_both : (v : ℕ) (xs ys : List ℕ) → is_member v (xs ++ ys) ≡ is_member v xs || is_member v ys
member_of_both v [] ys = refl
member_of_both v (x ∷ xs) ys = ap (λ (b : Bool). (x == v) || b) (member_of_both v xs ys) ∙ or_assoc (x == v) (is_member v xs) (is_member v ys)

first_off : (a b : Bool) → a || b ≡ false → a ≡ false
first_off true b off = off
first_off false b off = refl

second_off : (a b : Bool) → a || b ≡ false → b ≡ false
second_off true b off = let bad : true ≡ false = off in cc
second_off false b off = off

or_false : (a : Bool) → a || false ≡ a
or_false true = refl
or_false false = refl

-- a vertex that two lists together do not have
pub off_first : (v : ℕ) (xs ys : List ℕ) → is_member v (xs ++ ys) ≡ false → is_member v xs ≡ false
off_first v xs ys off = first_off (is_member v xs) (is_member v ys) (sym (member_of_both v xs ys) ∙ off)

pub off_second : (v : ℕ) (xs ys : List ℕ) → is_member v (xs ++ ys) ≡ false → is_member v ys ≡ false
off_second v xs ys off = second_off (is_member v xs) (is_member v ys) (sym (member_of_both v xs ys) ∙ off)

-- one more number of a list
member_more : (v : ℕ) (xs : List ℕ) (i : ℕ) → i < length xs → is_member v (take (i + 1) xs) ≡ is_member v (take i xs) || (get_or xs i 0 == v)
member_more v xs i l =
    ap (is_member v) (take_more xs i 0 l) ∙ member_of_both v (take i xs) (get_or xs i 0 ∷ []) ∙ ap (λ (b : Bool). is_member v (take i xs) || b) (or_false (get_or xs i 0 == v))

-- one more number that v is not
member_past : (v : ℕ) (xs : List ℕ) (i : ℕ) → i < length xs → (get_or xs i 0 == v) ≡ false → is_member v (take (i + 1) xs) ≡ is_member v (take i xs)
member_past v xs i l not = member_more v xs i l ∙ ap (λ (b : Bool). is_member v (take i xs) || b) not ∙ or_false (is_member v (take i xs))

-- the first numbers of two lists are the same, but for those that were found
abbrev pub AreAlikeSoFar : (first second found : List ℕ) → (i j : ℕ) → Type 0
AreAlikeSoFar first second found i j = (v : ℕ) → is_member v found ≡ false → is_member v (take i first) ≡ is_member v (take j second)

module _ (first second found more : List ℕ) (i j ni nj : ℕ) (l : i < length first) (m : j < length second)
    (on : get_or first i 0 ≤ get_or second j 0 → ni ≡ i + 1) (stay : get_or second j 0 < get_or first i 0 → ni ≡ i)
    (on_second : get_or second j 0 ≤ get_or first i 0 → nj ≡ j + 1) (stay_second : get_or first i 0 < get_or second j 0 → nj ≡ j) where
  abbrev one : ℕ
  one = get_or first i 0

  abbrev other : ℕ
  other = get_or second j 0

  -- both go on, or that with the lesser number
  pub alike_further : ((v : ℕ) → is_member v more ≡ false → IsApart one other v × (is_member v found ≡ false)) → AreAlikeSoFar first second found i j → AreAlikeSoFar first second more ni nj
  alike_further put alike v off =
      let apart = put v off in
      let before = alike v apart.1 in
      elim (cases_lt one other) [
        | inl less ↦
            ap (λ (n : ℕ). is_member v (take n first)) (on (omega (arith, less))) ∙ member_past v first i l (apart.0.0 less) ∙ before
            ∙ sym (ap (λ (n : ℕ). is_member v (take n second)) (stay_second less))
        | inr no_less ↦ elim (cases_lt other one) [
          | inl more ↦
              ap (λ (n : ℕ). is_member v (take n first)) (stay more) ∙ before ∙ sym (member_past v second j m (apart.0.1 more))
              ∙ sym (ap (λ (n : ℕ). is_member v (take n second)) (on_second (omega (arith, more))))
          | inr no_more ↦
              let same : one ≡ other = omega (arith, no_less, no_more) in
              ap (λ (n : ℕ). is_member v (take n first)) (on no_more) ∙ member_more v first i l ∙ ap₂ (λ (a b : Bool). a || b) before (ap (λ (n : ℕ). n == v) same)
              ∙ sym (member_more v second j m) ∙ sym (ap (λ (n : ℕ). is_member v (take n second)) (on_second no_less))
        ]
      ]

  pub further : ((length first - ni) + (length second - nj) < (length first - i) + (length second - j)) × (ni ≤ length first) × (nj ≤ length second)
  further = elim (cases_lt one other) [
    | inl less ↦ (let a = on (omega (arith, less)) in let b = stay_second less in (omega (arith, a, b, l, m), omega (arith, a, l), omega (arith, b, m)))
    | inr no_less ↦ elim (cases_lt other one) [
      | inl more ↦ (let a = stay more in let b = on_second (omega (arith, more)) in (omega (arith, a, b, l, m), omega (arith, a, l), omega (arith, b, m)))
      | inr no_more ↦ (let a = on no_more in let b = on_second no_less in (omega (arith, a, b, l, m), omega (arith, a, l), omega (arith, b, m)))
    ]
  ]

-- the rest of both are found
pub alike_at_end : (first second found all : List ℕ) (i j v : ℕ) → AreAlikeSoFar first second found i j → all ≡ (found ++ drop i first) ++ drop j second → is_member v all ≡ false
    → is_member v first ≡ is_member v second
alike_at_end first second found all i j v alike is off =
    let here : is_member v ((found ++ drop i first) ++ drop j second) ≡ false = sym (ap (is_member v) is) ∙ off in
    let front = off_first v (found ++ drop i first) (drop j second) here in
    whole first i (off_second v found (drop i first) front) ∙ alike v (off_first v found (drop i first) front)
    ∙ sym (whole second j (off_second v (found ++ drop i first) (drop j second) here))
  where
    whole : (xs : List ℕ) (k : ℕ) → is_member v (drop k xs) ≡ false → is_member v xs ≡ is_member v (take k xs)
    whole xs k past = ap (is_member v) (sym (take-append-drop k xs)) ∙ member_of_both v (take k xs) (drop k xs) ∙ ap (λ (b : Bool). is_member v (take k xs) || b) past ∙ or_false (is_member v (take k xs))

-- a number was put at the end
pub put_off : (v one : ℕ) (old new : List ℕ) → new ≡ old ++ one ∷ [] → is_member v new ≡ false → ((one == v) ≡ false) × (is_member v old ≡ false)
put_off v one old new is off =
    let both : is_member v (old ++ one ∷ []) ≡ false = sym (ap (is_member v) is) ∙ off in
    (sym (or_false (one == v)) ∙ off_second v old (one ∷ []) both, off_first v old (one ∷ []) both)

-- so many numbers as are left are all that are left
pub all_after : (xs : List ℕ) (k : ℕ) → take (length xs - k) (drop k xs) ≡ drop k xs
all_after xs k = take_all (length xs - k) (drop k xs) (omega (arith, length-drop k xs))

-- the next of the members was put at the end
pub listed_more : (found more rest left : List ℕ) (v : ℕ) → more ≡ found ++ v ∷ [] → left ≡ v ∷ rest → more ++ rest ≡ found ++ left
listed_more found more rest left v put is = ap (λ (us : List ℕ). us ++ rest) put ∙ append_assoc found (v ∷ []) rest ∙ ap (λ (us : List ℕ). found ++ us) (sym is)
