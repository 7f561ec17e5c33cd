-- Texts that are the same are the same up to the first byte that ends a part.
use Rattle.std.proofs.Common.{◌≡◌, ◌⊎◌, ℕ, zero, suc, ◌<◌, ◌≤◌, ◌%◌, ◌/◌, ◌==◌, ◌||◌, Bool, true, false, nat_lt, ℤ, pos, negsuc, List, [], ◌∷◌, ◌++◌, decimal, inl, inr, refl, sym, ap, ◌∙◌, arith}
use Rattle.std.proofs.Common.{append_assoc}
use Rattle.std.proofs.lemmas.Bool.{cases_Bool, false≢true, eq-eqb, ne_eqb, lt-ltb}
use Rattle.std.specs.Fmt.{digit_glyph, digits, digits_onto, signed_decimal}
use Rattle.std.specs.List.{AllByRecursion, flat_map}
use Rattle.scripts.specs.Commands.{HasNone}

-- the test stops at no byte of the text
abbrev pub Passes : (ℕ → Bool) → List ℕ → Type 0
Passes stop text = AllByRecursion (λ b. stop b ≡ false) text

-- fronts at which the test does not stop, before bytes at which it does
pub cut : (stop : ℕ → Bool) (front other : List ℕ) (a b : ℕ) (rest more : List ℕ) → Passes stop front → Passes stop other → stop a ≡ true → stop b ≡ true
    → front ++ a ∷ rest ≡ other ++ b ∷ more → (front ≡ other) × (a ∷ rest ≡ b ∷ more)
cut stop [] [] a b rest more first second at_a at_b same = (refl, same)
cut stop [] (y ∷ other) a b rest more first second at_a at_b same =
    let head : a ≡ y = cc in
    absurd (false≢true (sym second.0 ∙ ap stop (sym head) ∙ at_a))
cut stop (x ∷ front) [] a b rest more first second at_a at_b same =
    let head : x ≡ b = cc in
    absurd (false≢true (sym first.0 ∙ ap stop head ∙ at_b))
cut stop (x ∷ front) (y ∷ other) a b rest more first second at_a at_b same =
    let head : x ≡ y = cc in
    let tail : front ++ a ∷ rest ≡ other ++ b ∷ more = cc in
    let inner = cut stop front other a b rest more first.1 second.1 at_a at_b tail in
    (ap (λ (c : ℕ). c ∷ front) head ∙ ap (λ (l : List ℕ). y ∷ l) inner.0, inner.1)

-- the same at one byte
abbrev pub at_byte : ℕ → ℕ → Bool
at_byte c b = b == c

pub none_passes : (c : ℕ) (text : List ℕ) → HasNone c text → Passes (at_byte c) text
none_passes c [] none = tt
none_passes c (b ∷ text) none = (ne_eqb b c none.0, none_passes c text none.1)

pub cut_at_byte : (c : ℕ) (front other rest more : List ℕ) → HasNone c front → HasNone c other → front ++ c ∷ rest ≡ other ++ c ∷ more → (front ≡ other) × (rest ≡ more)
cut_at_byte c front other rest more first second same =
    let parts = cut (at_byte c) front other c c rest more (none_passes c front first) (none_passes c other second) (eq-eqb c c refl) (eq-eqb c c refl) same in
    let tail : c ∷ rest ≡ c ∷ more = parts.1 in
    (parts.0, cc)

-- a text of the bytes of digits
abbrev pub IsDigit : ℕ → Type 0
IsDigit b = (48 ≤ b) × (b ≤ 57)

glyph : (n : ℕ) → IsDigit (digit_glyph false (n % 10))
glyph n =
    let small : n % 10 < 10 = omega arith in
    let test : nat_lt (n % 10) 10 ≡ true = lt-ltb (n % 10) 10 small in
    rw (test) (omega arith, omega (arith, small))

digits_onto_are : (k n : ℕ) (more : List ℕ) → AllByRecursion IsDigit more → AllByRecursion IsDigit (digits_onto k 10 false n more)
digits_onto_are zero n more are = are
digits_onto_are (suc k) n more are = elim (cases_Bool (n / 10 == 0)) [
  | inl last ↦ rw (last) (glyph n, are)
  | inr goes ↦ rw (goes) (digits_onto_are k (n / 10) (digit_glyph false (n % 10) ∷ more) (glyph n, are))
]

pub decimal_digits : (n : ℕ) → AllByRecursion IsDigit (decimal n)
unfolding digits
decimal_digits n = digits_onto_are 64 n [] tt

-- digits are passed by a test that stops at none
pub digits_pass : (stop : ℕ → Bool) → ((b : ℕ) → IsDigit b → stop b ≡ false) → (text : List ℕ) → AllByRecursion IsDigit text → Passes stop text
digits_pass stop each [] are = tt
digits_pass stop each (b ∷ text) are = (each b are.0, digits_pass stop each text are.1)

pub integer_passes : (stop : ℕ → Bool) → ((b : ℕ) → IsDigit b → stop b ≡ false) → stop 45 ≡ false → (n : ℤ) → Passes stop (signed_decimal n)
integer_passes stop each minus (pos n) = digits_pass stop each (decimal n) (decimal_digits n)
integer_passes stop each minus (negsuc n) = (minus, digits_pass stop each (decimal (suc n)) (decimal_digits (suc n)))

pub digits_none : (c : ℕ) → (c < 48) ⊎ (57 < c) → (text : List ℕ) → AllByRecursion IsDigit text → HasNone c text
digits_none c other [] are = tt
digits_none c (inl below) (b ∷ text) are = ((λ same. absurd (omega (arith, same, below, are.0.0))), digits_none c (inl below) text are.1)
digits_none c (inr above) (b ∷ text) are = ((λ same. absurd (omega (arith, same, above, are.0.1))), digits_none c (inr above) text are.1)

-- numbers after spaces, up to a line feed
abbrev pub at_end : ℕ → Bool
at_end b = (b == 32) || (b == 10)

pub no_end : (b : ℕ) → IsDigit b → at_end b ≡ false
no_end b is =
    let space : b == 32 ≡ false = ne_eqb b 32 (λ same. absurd (omega (arith, same, is.0))) in
    let feed : b == 10 ≡ false = ne_eqb b 10 (λ same. absurd (omega (arith, same, is.0))) in
    rw (space, feed) refl

abbrev pub spaced : {A : Type 0} → (A → List ℕ) → List A → List ℕ
spaced show numbers = flat_map (λ n. 32 ∷ show n) numbers

-- a name before a colon, and numbers
abbrev pub line_of : {A : Type 0} → (A → List ℕ) → List ℕ → List A → List ℕ
line_of show name numbers = name ++ (58 ∷ (spaced show numbers ++ 10 ∷ []))

module _ {A : Type 0} (show : A → List ℕ) (Good : A → Type 0) (plain : (x : A) → Passes at_end (show x)) (same_number : (x y : A) → Good x → Good y → show x ≡ show y → x ≡ y) where
  begins : (numbers : List A) (rest : List ℕ) → (b : ℕ) × (more : List ℕ) × (at_end b ≡ true) × (spaced show numbers ++ 10 ∷ rest ≡ b ∷ more)
  begins [] rest = (10, rest, refl, refl)
  begins (n ∷ numbers) rest = (32, show n ++ (spaced show numbers ++ 10 ∷ rest), refl, ap (λ (l : List ℕ). 32 ∷ l) (append_assoc (show n) (spaced show numbers) (10 ∷ rest)))

  numbers_cut : (xs ys : List A) (rest more : List ℕ) → AllByRecursion Good xs → AllByRecursion Good ys → spaced show xs ++ 10 ∷ rest ≡ spaced show ys ++ 10 ∷ more → (xs ≡ ys) × (rest ≡ more)
  numbers_cut [] [] rest more first second same = (refl, cc)
  numbers_cut [] (y ∷ ys) rest more first second same = absurd cc
  numbers_cut (x ∷ xs) [] rest more first second same = absurd cc
  numbers_cut (x ∷ xs) (y ∷ ys) rest more first second same =
      let xb = begins xs rest in
      let yb = begins ys more in
      let tail : (show x ++ spaced show xs) ++ 10 ∷ rest ≡ (show y ++ spaced show ys) ++ 10 ∷ more = cc in
      let joined : show x ++ xb.0 ∷ xb.1 ≡ show y ++ yb.0 ∷ yb.1 =
      ap (λ (l : List ℕ). show x ++ l) (sym xb.3) ∙ sym (append_assoc (show x) (spaced show xs) (10 ∷ rest)) ∙ tail ∙ append_assoc (show y) (spaced show ys) (10 ∷ more)
      ∙ ap (λ (l : List ℕ). show y ++ l) yb.3 in
      let parts = cut at_end (show x) (show y) xb.0 yb.0 xb.1 yb.1 (plain x) (plain y) xb.2 yb.2 joined in
      let one : x ≡ y = same_number x y first.0 second.0 parts.0 in
      let inner = numbers_cut xs ys rest more first.1 second.1 (xb.3 ∙ parts.1 ∙ sym yb.3) in
      (ap (λ (z : A). z ∷ xs) one ∙ ap (λ (zs : List A). y ∷ zs) inner.0, inner.1)

  joined_line : (name : List ℕ) (numbers : List A) (rest : List ℕ) → line_of show name numbers ++ rest ≡ name ++ 58 ∷ (spaced show numbers ++ 10 ∷ rest)
  joined_line name numbers rest =
      append_assoc name (58 ∷ (spaced show numbers ++ 10 ∷ [])) rest ∙ ap (λ (l : List ℕ). name ++ 58 ∷ l) (append_assoc (spaced show numbers) (10 ∷ []) rest)

  pub line_cut : (name other : List ℕ) (xs ys : List A) (rest more : List ℕ) → HasNone 58 name → HasNone 58 other → AllByRecursion Good xs → AllByRecursion Good ys
      → line_of show name xs ++ rest ≡ line_of show other ys ++ more → (name ≡ other) × (xs ≡ ys) × (rest ≡ more)
  line_cut name other xs ys rest more first second good also same =
      let joined = sym (joined_line name xs rest) ∙ same ∙ joined_line other ys more in
      let parts = cut_at_byte 58 name other (spaced show xs ++ 10 ∷ rest) (spaced show ys ++ 10 ∷ more) first second joined in
      let inner = numbers_cut xs ys rest more good also parts.1 in
      (parts.0, inner.0, inner.1)
