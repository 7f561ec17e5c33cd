-- Laws of the numbers that digits stand for.
use Rattle.std.proofs.Common.{◌≡◌, ℕ, ℤ, pos, negsuc, neg_ℤ, drop, FitsSigned, sym, subst, inl, inr, ◌+◌, ◌-◌, ◌*◌, ◌^◌, ◌<◌, ◌≤◌, ◌&&◌, true, false, List, [], ◌∷◌, ◌++◌, Some, None, length, take}
use Rattle.std.proofs.Common.{replicate, get_or, decimal, zero, suc, refl, ◌∙◌, ap, arith, rules, length-append}
use Rattle.std.specs.Char.{is_ascii_digit}
use Rattle.std.specs.Fmt.{signed_decimal}
use Rattle.std.specs.Int.{w64}
use Rattle.std.specs.Option.{option_map}
use Rattle.std.specs.Str.{all_ascii_digits}
use Rattle.std.proofs.Math.Nat.{one-le-pow, mul-le-mul_left}
use Rattle.std.proofs.lemmas.Bool.{cases_eq, ne_eqb, false≢true}
use Rattle.std.proofs.lemmas.Fmt.{digits_decimal, digits_value-decimal, decimal_nonempty}
use Rattle.std.proofs.lemmas.List.{drop_more, take-append-drop, take_more}
use Rattle.std.proofs.lemmas.Nat.{pow-add}
use Rattle.std.proofs.lemmas.Str.Parse.{IsNumeralModel, numerals_by_weight, tells_all_ascii_digits}
use Rattle.decimal.specs.Numbers.{digits_number, number_of, integer_of, IsReadBack}
use Rattle.decimal.specs.Digits.{BeginsWithDigits, AreLeadingDigits}

-- the words of this crate are std's words for digits and their value
pub digits_model : IsNumeralModel (λ ds. all_ascii_digits ds ≡ true) digits_number
digits_model = numerals_by_weight _ tells_all_ascii_digits digits_number (search rules)

-- two words of digits make one
pub all_ascii_digits-append : (xs ys : List ℕ) → all_ascii_digits (xs ++ ys) ≡ (all_ascii_digits xs && all_ascii_digits ys)
all_ascii_digits-append [] ys = refl
all_ascii_digits-append (x ∷ xs) ys = grind (arith, all_ascii_digits-append xs ys)

-- digits that follow others shift those by as many places
pub value_of-append : (xs ys : List ℕ) → digits_number (xs ++ ys) ≡ digits_number xs * 10 ^ length ys + digits_number ys
value_of-append [] ys = omega arith
value_of-append (x ∷ xs) ys =
    let shift : 10 ^ (length xs + length ys) ≡ 10 ^ length xs * 10 ^ length ys = pow-add 10 (length xs) (length ys) in
    let wide : length (xs ++ ys) ≡ length xs + length ys = length-append xs ys in
    rw (wide, shift, value_of-append xs ys) (grind arith)

-- a front of digits, one byte longer
pub digits_more : (bytes : List ℕ) (i : ℕ) → i < length bytes → all_ascii_digits (take i bytes) ≡ true → is_ascii_digit (get_or bytes i 0) ≡ true → all_ascii_digits (take (i + 1) bytes) ≡ true
digits_more bytes i within digits digit =
    rw (take_more bytes i 0 within, all_ascii_digits-append) (grind arith)

pub value_more : (bytes : List ℕ) (i : ℕ) → i < length bytes → digits_number (take (i + 1) bytes) ≡ digits_number (take i bytes) * 10 + (get_or bytes i 0 - 48)
value_more bytes i within =
    ap digits_number (take_more bytes i 0 within) ∙ value_of-append (take i bytes) (get_or bytes i 0 ∷ []) ∙ omega arith

-- zeros before a word change neither that it is digits nor their value
all_ascii_digits-zeros : (n : ℕ) (word : List ℕ) → all_ascii_digits (replicate n 48 ++ word) ≡ all_ascii_digits word
all_ascii_digits-zeros zero word = refl
all_ascii_digits-zeros (suc n) word = all_ascii_digits-zeros n word

value_of-zeros : (n : ℕ) (word : List ℕ) → digits_number (replicate n 48 ++ word) ≡ digits_number word
value_of-zeros zero word = refl
value_of-zeros (suc n) word = omega (arith, value_of-zeros n word)

-- the number of a word whose bytes are known to be digits
pub number_of-digits : (limit : ℕ) (word : List ℕ) → 0 < length word → all_ascii_digits word ≡ true → digits_number word < limit → number_of limit word ≡ Some (digits_number word)
number_of-digits limit word some digits small = grind arith

-- a word is no number where it stands for the limit or more, or has another byte than digits
pub number_of-large : (limit : ℕ) (word : List ℕ) → limit ≤ digits_number word → number_of limit word ≡ None
number_of-large limit word large = grind arith

pub number_of-other : (limit b : ℕ) (front rest : List ℕ) → is_ascii_digit b ≡ false → number_of limit (front ++ b ∷ rest) ≡ None
number_of-other limit b front rest other =
    let digits : all_ascii_digits (front ++ b ∷ rest) ≡ false = all_ascii_digits-append front (b ∷ rest) ∙ grind arith in
    grind arith

-- more digits stand for no less
pub value_of-longer : (limit : ℕ) (front rest : List ℕ) → limit ≤ digits_number front → limit ≤ digits_number (front ++ rest)
value_of-longer limit front rest large =
    omega (arith, value_of-append front rest, mul-le-mul_left (digits_number front) (one-le-pow (length rest) 10 (omega arith)))

-- a word of digits that stands for n is read as n, after any zeros
number_of-zeros : (limit n : ℕ) (word : List ℕ) → n < limit → all_ascii_digits word ≡ true → digits_number word ≡ n → 0 < length word → (zeros : ℕ)
    → number_of limit (replicate zeros 48 ++ word) ≡ Some n
number_of-zeros limit n word below digits value some zeros =
    number_of-digits limit (replicate zeros 48 ++ word)
    (omega (arith, length-append (replicate zeros 48) word))
    (all_ascii_digits-zeros zeros word ∙ digits)
    (omega (arith, value_of-zeros zeros word))
    ∙ ap Some (value_of-zeros zeros word ∙ value)

-- and so are the digits that are written for n
pub decimal-IsReadBack : (limit n : ℕ) → n < limit → n < 2 ^ 64 → IsReadBack limit n
decimal-IsReadBack limit n below wide =
    number_of-zeros limit n (decimal n) below (digits_decimal digits_model n wide) (digits_value-decimal digits_model n wide) (decimal_nonempty n wide)

-- one digit more takes the number to 2 ^ 64 or past it
pub too_large : (bytes : List ℕ) (i number : ℕ) → i < length bytes → BeginsWithDigits bytes i × (digits_number (take i bytes) ≡ number) → is_ascii_digit (get_or bytes i 0) ≡ true
    → 2 ^ 64 ≤ number * 10 + (get_or bytes i 0 - 48) → AreLeadingDigits bytes None
too_large bytes i number within front digit large = (
  i + 1,
  (omega arith, digits_more bytes i within front.0.1 digit),
  omega (arith, value_more bytes i within),
)

-- a word that begins with digits for 2 ^ 64 or more is no number below it
pub number_of-overflow : (word : List ℕ) → AreLeadingDigits word None → number_of (2 ^ 64) word ≡ None
number_of-overflow word (len, begins, large) =
    number_of-large (2 ^ 64) word (subst (λ bytes. 2 ^ 64 ≤ digits_number bytes) (take-append-drop len word) (value_of-longer (2 ^ 64) (take len word) (drop len word) large))

-- nor is one with another byte after its digits
pub number_of-ended : (limit : ℕ) (word : List ℕ) (len : ℕ) → len < length word → is_ascii_digit (get_or word len 0) ≡ false → number_of limit word ≡ None
number_of-ended limit word len within other =
    ap (number_of limit) (sym (take-append-drop len word))
    ∙ ap (λ rest. number_of limit (take len word ++ rest)) (drop_more word len 0 within)
    ∙ number_of-other limit (get_or word len 0) (take len word) (drop (len + 1) word) other

-- nor is one that begins with no digit
pub number_of-begun : (limit : ℕ) (word : List ℕ) (len : ℕ) → len ≡ 0 → (len < length word → is_ascii_digit (get_or word len 0) ≡ false) → number_of limit word ≡ None
number_of-begun limit [] len none other = refl
number_of-begun limit (b ∷ word) len none other =
    let within : len < length (b ∷ word) = omega (arith, none) in
    number_of-ended limit (b ∷ word) len within (other within)

-- digits without a sign are read as a number
integer_of-digits : (word : List ℕ) → 0 < length word → all_ascii_digits word ≡ true → integer_of word ≡ option_map pos (number_of (2 ^ 63) word)
integer_of-digits [] some digits = absurd (omega (arith, some))
integer_of-digits (first ∷ rest) some digits = elim (cases_eq first 45) [
  | inl sign ↦ absurd (false≢true (rw sign at digits))
  | inr other ↦ rw (ne_eqb first 45 other) refl
]

-- digits that are written for an integer are read as it
pub integer-read_back : (n : ℤ) → FitsSigned w64 n → integer_of (signed_decimal n) ≡ Some n
integer-read_back (pos n) fits =
    let small : n < 2 ^ 63 = omega (arith, fits) in
    integer_of-digits (decimal n) (decimal_nonempty n (omega (arith, small))) (digits_decimal digits_model n (omega (arith, small)))
    ∙ ap (option_map pos) (decimal-IsReadBack (2 ^ 63) n small (omega (arith, small)) 0)
integer-read_back (negsuc n) fits =
    let small : suc n < 2 ^ 63 + 1 = omega (arith, fits) in
    ap (option_map (λ k. neg_ℤ (pos k))) (decimal-IsReadBack (2 ^ 63 + 1) (suc n) small (omega (arith, small)) 0)
