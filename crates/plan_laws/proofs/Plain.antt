-- Names of the language are taken for names.
use Rattle.std.proofs.Common.{◌≡◌, ◌≢◌, ℕ, ◌+◌, ◌^◌, ◌==◌, Bool, true, false, List, [], ◌∷◌, ◌++◌, length, None, codes, refl, sym, ap, ◌∙◌, arith, append_assoc, length-append}
use Rattle.std.specs.Option.{option_map}
use Rattle.std.specs.Char.{is_ascii_digit}
use Rattle.std.proofs.lemmas.Bool.{eq-eqb, ne_eqb, false≢true}
use Rattle.lexer.specs.declared.keyword.Keyword.TheVariants as keyword
use Rattle.lexer.specs.Spelling.{Every, is_letter, is_word_byte}
use Rattle.lexer.specs.Tokens.{IsName, IsWord}
use Rattle.decimal.specs.Numbers.{integer_of}
use Rattle.decimal.proofs.NumberLaws.{number_of-other}
use Rattle.plan_laws.specs.Machine.{last_byte}
use Rattle.plan_laws.specs.Given.{IsPlain}
use Rattle.plan_laws.specs.Brackets.{IsOneWord}
use Rattle.plan_laws.specs.Lines.{IsBare, is_bare}
use Rattle.plan_laws.specs.Names.{IsNoMark}
use Rattle.plan_laws.proofs.Machine.{last_of}

-- the first byte is no other than a letter
is_not : (test : ℕ → Bool) (b c : ℕ) → test b ≡ true → test c ≡ false → b ≢ c
is_not test b c passes other same = false≢true (sym other ∙ ap test (sym same) ∙ passes)

first_byte : (word : List ℕ) (c : ℕ) (rest : List ℕ) → IsWord word → is_letter c ≡ false → word ≢ c ∷ rest
first_byte [] c rest is other same = absurd is
first_byte (b ∷ bytes) c rest is other same = let head : b ≡ c = cc in is_not is_letter b c is.0 other head

letter_is_word : (b : ℕ) → is_letter b ≡ true → is_word_byte b ≡ true
letter_is_word b is = rw (is) refl

last_is_word : (b : ℕ) (bytes : List ℕ) → is_word_byte b ≡ true → Every is_word_byte bytes → is_word_byte (last_byte (b ∷ bytes)) ≡ true
last_is_word b [] first rest = first
last_is_word b (a ∷ bytes) first rest = last_is_word a bytes rest.0 rest.1

word_ends : (word : List ℕ) → IsWord word → is_word_byte (last_byte word) ≡ true
word_ends [] is = absurd is
word_ends (b ∷ bytes) is = last_is_word b bytes (letter_is_word b is.0) is.1

letter_is_no_digit : (b : ℕ) → is_letter b ≡ true → is_ascii_digit b ≡ false
letter_is_no_digit b is = grind (arith, is)

word_is_no_number : (word : List ℕ) → IsWord word → integer_of word ≡ None
word_is_no_number [] is = absurd is
word_is_no_number (b ∷ bytes) is =
    rw (ne_eqb b 45 (is_not is_letter b 45 is.0 refl)) (ap (option_map _) (number_of-other (2 ^ 63) b [] bytes (letter_is_no_digit b is.0)))

pub name_is_plain : (word : List ℕ) → IsName word → word ≢ codes "neg" → IsPlain word
name_is_plain word is other = record {
  entry = is_not is_word_byte (last_byte word) 64 (word_ends word is.0) refl;
  size = is_not is_word_byte (last_byte word) 35 (word_ends word is.0) refl;
  number = word_is_no_number word is.0;
  operator = (
    is.1 keyword.True,
    (
      is.1 keyword.False,
      (
        other,
        (
          is.1 keyword.Not,
          (
            first_byte word 43 [] is.0 refl,
            (
              first_byte word 45 [] is.0 refl,
              (
                first_byte word 42 [] is.0 refl,
                (
                  first_byte word 47 [] is.0 refl,
                  (
                    first_byte word 37 [] is.0 refl,
                    (
                      first_byte word 60 [] is.0 refl,
                      (
                        first_byte word 60 (61 ∷ []) is.0 refl,
                        (
                          first_byte word 62 [] is.0 refl,
                          (
                            first_byte word 62 (61 ∷ []) is.0 refl,
                            (first_byte word 61 (61 ∷ []) is.0 refl, (first_byte word 33 (61 ∷ []) is.0 refl, (is.1 keyword.And, (is.1 keyword.Or, tt)))),
                          ),
                        ),
                      ),
                    ),
                  ),
                ),
              ),
            ),
          ),
        ),
      ),
    ),
  );
}

-- the name that a `for` keeps beside its name
ends_in_d : (word : List ℕ) → last_byte (word ++ codes ".end") ≡ 100
ends_in_d word = ap last_byte (sym (append_assoc word (codes ".en") (100 ∷ []))) ∙ last_of (word ++ codes ".en") 100

other_end : (word other : List ℕ) → last_byte other == 100 ≡ false → word ++ codes ".end" ≢ other
other_end word other apart same = false≢true (sym apart ∙ eq-eqb (last_byte other) 100 (ap last_byte (sym same) ∙ ends_in_d word))

longer : (word : List ℕ) → word ++ codes ".end" ≢ codes "and"
longer word same =
    let long : length (word ++ codes ".end") ≡ length word + 4 = length-append word (codes ".end") in
    let short : length (word ++ codes ".end") ≡ 3 = ap length same in
    absurd (omega (arith, long, short))

bound_is_no_number : (word : List ℕ) → IsWord word → integer_of (word ++ codes ".end") ≡ None
bound_is_no_number [] is = absurd is
bound_is_no_number (b ∷ bytes) is =
    rw (ne_eqb b 45 (is_not is_letter b 45 is.0 refl)) (ap (option_map _) (number_of-other (2 ^ 63) b [] (bytes ++ codes ".end") (letter_is_no_digit b is.0)))

pub bound_is_plain : (word : List ℕ) → IsName word → IsPlain (word ++ codes ".end")
bound_is_plain word is =
    let other : (w : List ℕ) → last_byte w == 100 ≡ false → word ++ codes ".end" ≢ w = other_end word in
    record {
      entry = λ same. absurd (omega (arith, same, ends_in_d word));
      size = λ same. absurd (omega (arith, same, ends_in_d word));
      number = bound_is_no_number word is.0;
      operator = (
        other (codes "true") refl,
        (
          other (codes "false") refl,
          (
            other (codes "neg") refl,
            (
              other (codes "not") refl,
              (
                other (codes "+") refl,
                (
                  other (codes "-") refl,
                  (
                    other (codes "*") refl,
                    (
                      other (codes "/") refl,
                      (
                        other (codes "%") refl,
                        (
                          other (codes "<") refl,
                          (
                            other (codes "<=") refl,
                            (
                              other (codes ">") refl,
                              (
                                other (codes ">=") refl,
                                (other (codes "==") refl, (other (codes "!=") refl, (longer word, (other (codes "or") refl, tt)))),
                              ),
                            ),
                          ),
                        ),
                      ),
                    ),
                  ),
                ),
              ),
            ),
          ),
        ),
      );
    }

-- the bytes of names
word_bytes : (word : List ℕ) → IsWord word → Every is_word_byte word
word_bytes [] is = absurd is
word_bytes (b ∷ bytes) is = (letter_is_word b is.0, is.1)

no_space : (word : List ℕ) → Every is_word_byte word → IsOneWord word
no_space [] are = tt
no_space (b ∷ word) are = (is_not is_word_byte b 32 are.0 refl, no_space word are.1)

pub name_is_one_word : (word : List ℕ) → IsName word → IsOneWord word
name_is_one_word word is = no_space word (word_bytes word is.0)

byte_is_bare : (b : ℕ) → is_word_byte b ≡ true → is_bare b ≡ true
byte_is_bare b is =
    let space : b == 32 ≡ false = ne_eqb b 32 (is_not is_word_byte b 32 is refl) in
    let feed : b == 10 ≡ false = ne_eqb b 10 (is_not is_word_byte b 10 is refl) in
    let opens : b == 91 ≡ false = ne_eqb b 91 (is_not is_word_byte b 91 is refl) in
    let closes : b == 93 ≡ false = ne_eqb b 93 (is_not is_word_byte b 93 is refl) in
    rw (space, feed, opens, closes) refl

bytes_are_bare : (word : List ℕ) → Every is_word_byte word → IsBare word
bytes_are_bare [] are = tt
bytes_are_bare (b ∷ word) are = (byte_is_bare b are.0, bytes_are_bare word are.1)

pub name_is_bare : (word : List ℕ) → IsName word → IsBare word
name_is_bare word is = bytes_are_bare word (word_bytes word is.0)

pub name_is_no_mark : (word : List ℕ) → IsName word → IsNoMark word
name_is_no_mark word is = record {
  end = first_byte word 45 [] is.0 refl;
  arrow = first_byte word 45 (62 ∷ []) is.0 refl;
  colon = first_byte word 58 [] is.0 refl;
}
