-- An entry by its numbers.
use Rattle.std.proofs.Common.{◌≡◌, ◌≢◌, ℕ, ◌+◌, ◌-◌, ◌*◌, ◌/◌, ◌%◌, ◌^◌, ◌<◌, ◌≤◌, ◌⊎◌, ℤ, pos, Bool, true, false, inl, inr, List, [], ◌∷◌, ◌++◌, length, length-append, refl, sym, ◌∙◌, ap}
use Rattle.std.proofs.Common.{append_assoc, arith}
use Rattle.std.proofs.lemmas.Bool.{cases_Bool, false≢true}
use Rattle.std.proofs.lemmas.List.{append-nil, append_cancel_left}
use Rattle.tail_codec.specs.Spelling.{SpellsNumbers, SpellsFrom, weight_number, is_one, entry_numbers}
use Rattle.tail_codec.specs.inside.Decoding.{numbers_from, number_weight, decoded}
use Rattle.tail_codec.specs.inside.Reading.{BeginsWith, BeginsWithEntry}
use Rattle.tail_codec.proofs.Numbers.{number_first, same_number, number_some, one_number}
use Rattle.tail_codec.proofs.Lists.{known_begin}
use Rattle.tail_codec.proofs.Weights.{number_of, weight_of, one_is}

first_number : (j k : ℕ) (js ks : List ℕ) → j ∷ js ≡ k ∷ ks → j ≡ k
first_number j k js ks is = cc

-- Bytes begin with one number at most, and it ends at one position.
pub same_begin : (j k : ℕ) (rest other bytes : List ℕ) → BeginsWith j rest bytes → BeginsWith k other bytes → j ≡ k
same_begin j k rest other bytes a b =
    first_number j k (numbers_from 0 1 rest) (numbers_from 0 1 other)
    (sym (number_first j a.first rest a.spells) ∙ ap (numbers_from 0 1) (sym a.cut ∙ b.cut) ∙ number_first k b.first other b.spells)

pub same_end : (j k : ℕ) (rest other bytes : List ℕ) → BeginsWith j rest bytes → BeginsWith k other bytes → rest ≡ other
same_end j k rest other bytes a b =
    let same : a.first ≡ b.first = same_number j a.first b.first a.spells (rw (same_begin j k rest other bytes a b) b.spells) in
    append_cancel_left b.first rest other (ap (λ v. v ++ rest) (sym same) ∙ sym a.cut ∙ b.cut)

-- an entry of weight 1 is one number, another one two
pub entry_of_one : (low n : ℕ) (rest bytes : List ℕ) → BeginsWith n rest bytes → n % 2 ≡ 0 → low + n / 2 < 2 ^ 32 → BeginsWithEntry low (low + n / 2, pos 1) rest bytes
entry_of_one low n rest bytes b even small =
    let same : 2 * (low + n / 2 - low) ≡ n = omega (arith, even) in
    record {
      least = omega arith;
      small = small;
      weight = omega arith;
      first = b.first;
      cut = b.cut;
      spells = one_number (2 * (low + n / 2 - low)) b.first (rw same b.spells);
    }

pub entry_of_two : (low n m : ℕ) (between rest bytes : List ℕ) → BeginsWith n between bytes → BeginsWith m rest between → n % 2 ≡ 1 → low + n / 2 < 2 ^ 32 → is_one (number_weight m) ≡ false
    → BeginsWithEntry low (low + n / 2, number_weight m) rest bytes
entry_of_two low n m between rest bytes b d odd small other =
    let same : 2 * (low + n / 2 - low) + 1 ≡ n = omega (arith, odd) in
    record {
      least = omega arith;
      small = small;
      weight = rw (number_of m) d.fits;
      first = b.first ++ d.first;
      cut = b.cut ∙ ap (λ v. b.first ++ v) d.cut ∙ sym (append_assoc b.first d.first rest);
      spells = rw (other, same, number_of m) (b.first, d.first, refl, b.spells, one_number m d.first d.spells);
    }

-- what the numbers of an entry say
pub record HasNumbers (low : ℕ) (e : ℕ × ℤ) (rest bytes : List ℕ) : Type 0 where
  pub number : ℕ
  pub between : List ℕ
  pub begins : BeginsWith number between bytes
  pub key : low + number / 2 ≡ e.0
  pub weight : ((number % 2 ≡ 0) × (e.1 ≡ pos 1)) ⊎ ((number % 2 ≡ 1) × BeginsWith (weight_number e.1) rest between × (is_one e.1 ≡ false))

numbers_by : (low k : ℕ) (w : ℤ) (rest bytes : List ℕ) → BeginsWithEntry low (k, w) rest bytes → (one : Bool) → is_one w ≡ one → HasNumbers low (k, w) rest bytes
numbers_by low k w rest bytes b true h =
    let (first, nothing, cut, number, ends) = rw h at b.spells in
    record {
      number = 2 * (k - low);
      between = rest;
      begins = record {
        first = first;
        cut = b.cut ∙ ap (λ v. v ++ rest) (cut ∙ ap (λ v. first ++ v) ends ∙ append-nil first);
        spells = number;
        fits = omega (arith, b.small);
      };
      key = omega (arith, b.least);
      weight = inl (omega arith, one_is w h);
    }
numbers_by low k w rest bytes b false h =
    let (first, more, cut, number, (second, nothing, cut', number', ends)) = rw h at b.spells in
    record {
      number = 2 * (k - low) + 1;
      between = more ++ rest;
      begins = record {
        first = first;
        cut = b.cut ∙ ap (λ v. v ++ rest) cut ∙ append_assoc first more rest;
        spells = number;
        fits = omega (arith, b.small);
      };
      key = omega (arith, b.least);
      weight = inr (
        omega arith,
        record {
          first = second;
          cut = ap (λ v. v ++ rest) (cut' ∙ ap (λ v. second ++ v) ends ∙ append-nil second);
          spells = number';
          fits = b.weight;
        },
        h,
      );
    }

pub has_numbers : (low : ℕ) (e : ℕ × ℤ) (rest bytes : List ℕ) → BeginsWithEntry low e rest bytes → HasNumbers low e rest bytes
has_numbers low e rest bytes b = numbers_by low e.0 e.1 rest bytes b (is_one e.1) refl

-- each entry takes a byte
some_bytes : (k : ℕ) (ks bytes : List ℕ) → SpellsNumbers (k ∷ ks) bytes → 0 < length bytes
some_bytes k ks bytes (first, rest, cut, number, others) =
    omega (arith, ap length cut ∙ length-append first rest, number_some k first number)

some_entry : (g : ℕ) (w : ℤ) (bytes : List ℕ) → SpellsNumbers (entry_numbers g w) bytes → 0 < length bytes
some_entry g w bytes spells =
    elim (cases_Bool (is_one w)) [
      | inl h ↦ some_bytes (2 * g) [] bytes (rw h at spells)
      | inr h ↦ some_bytes (2 * g + 1) (weight_number w ∷ []) bytes (rw h at spells)
    ]

pub fewer_left : (low : ℕ) (e : ℕ × ℤ) (rest bytes : List ℕ) → BeginsWithEntry low e rest bytes → length rest < length bytes
fewer_left low e rest bytes b =
    omega (arith, ap length b.cut ∙ length-append b.first rest, some_entry (e.0 - low) e.1 b.first b.spells)

-- where the numbers of an entry do not stand
pub too_large : (low n : ℕ) (mid bytes : List ℕ) → BeginsWith n mid bytes → 2 ^ 32 ≤ low + n / 2 → (e : ℕ × ℤ) (rest : List ℕ) → BeginsWithEntry low e rest bytes → ⊥
too_large low n mid bytes b ge e rest begins =
    let h = has_numbers low e rest bytes begins in
    let same : n ≡ h.number = same_begin n h.number mid h.between bytes b h.begins in
    omega (arith, ge, same, h.key, begins.small)

pub second_number : (low n : ℕ) (mid bytes : List ℕ) → BeginsWith n mid bytes → n % 2 ≢ 0 → (e : ℕ × ℤ) (rest : List ℕ) → BeginsWithEntry low e rest bytes → BeginsWith (weight_number e.1) rest mid
    × (is_one e.1 ≡ false)
second_number low n mid bytes b odd e rest begins =
    let h = has_numbers low e rest bytes begins in
    let same : n ≡ h.number = same_begin n h.number mid h.between bytes b h.begins in
    elim h.weight [
      | inl one ↦ absurd (odd (rw same one.0))
      | inr other ↦ (rw (same_end n h.number mid h.between bytes b h.begins) other.1, other.2)
    ]

-- a spelled 1
pub spelled_one : (low n m : ℕ) (mid after bytes : List ℕ) → BeginsWith n mid bytes → n % 2 ≢ 0 → BeginsWith m after mid → number_weight m ≡ pos 1 → (e : ℕ × ℤ) (rest : List ℕ)
    → BeginsWithEntry low e rest bytes → ⊥
spelled_one low n m mid after bytes b odd d is e rest begins =
    let other = second_number low n mid bytes b odd e rest begins in
    let same : m ≡ weight_number e.1 = same_begin m (weight_number e.1) after rest mid d other.0 in
    let one : e.1 ≡ pos 1 = sym (weight_of e.1) ∙ ap number_weight (sym same) ∙ is in
    false≢true (sym other.1 ∙ ap is_one one)

one_number_is : (m : ℕ) → number_weight m ≡ pos 1 → m ≡ 2
one_number_is m is = sym (number_of m) ∙ ap weight_number is

pub not_one : (m : ℕ) → m ≢ 2 → is_one (number_weight m) ≡ false
not_one m other = elim (cases_Bool (is_one (number_weight m))) [ inl h ↦ absurd (other (one_number_is m (one_is (number_weight m) h))) | inr h ↦ h ]

-- a weight is 1 where its number is 2
pub is_one_by : (w : ℤ) → weight_number w ≡ 2 → is_one w ≡ true
is_one_by w is = ap is_one (sym (weight_of w) ∙ ap number_weight is)

pub is_other_by : (w : ℤ) → weight_number w ≢ 2 → is_one w ≡ false
is_other_by w other = elim (cases_Bool (is_one w)) [ inl h ↦ absurd (other (ap weight_number (one_is w h))) | inr h ↦ h ]

-- a first byte that is an entry of weight 1
one_byte : (b : ℕ) (rest : List ℕ) → b < 128 → BeginsWith b rest (b ∷ rest)
one_byte b rest lt = record { first = b ∷ []; cut = refl; spells = inl (lt, refl, refl); fits = omega (arith, lt) }

pub small_entry : (low b : ℕ) (rest : List ℕ) → b < 128 → b % 2 ≡ 0 → SpellsFrom low (decoded low (b ∷ rest)) (b ∷ rest) → BeginsWithEntry low (low + b / 2, pos 1) rest (b ∷ rest)
small_entry low b rest lt even spells =
    let (e, other, begins) = known_begin low (b ∷ rest) (omega arith) spells in
    let h = has_numbers low e other (b ∷ rest) begins in
    let same : b ≡ h.number = same_begin b h.number rest h.between (b ∷ rest) (one_byte b rest lt) h.begins in
    entry_of_one low b rest (b ∷ rest) (one_byte b rest lt) even (omega (arith, same, h.key, begins.small))
