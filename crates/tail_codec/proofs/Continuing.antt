-- A number that is read byte by byte.
use Rattle.std.proofs.Common.{◌≡◌, ℕ, ◌+◌, ◌-◌, ◌*◌, ◌/◌, ◌%◌, ◌^◌, ◌<◌, ◌≤◌, ◌⊎◌, inl, inr, List, [], ◌∷◌, ◌++◌, refl, sym, ◌∙◌, ap, arith}
use Rattle.std.proofs.Math.Nat.{mul-le-mul_left}
use Rattle.tail_codec.specs.Spelling.{SpellsNumber}
use Rattle.tail_codec.specs.inside.Reading.{BeginsWith}
use Rattle.tail_codec.proofs.Numbers.{joined}

-- The lower bytes of k have brought it up to from, its next seven bits count place each, and the bytes
-- are its upper bytes and then others.
pub record Continues (from place k : ℕ) (rest bytes : List ℕ) : Type 0 where
  pub high : ℕ
  pub first : List ℕ
  pub cut : bytes ≡ first ++ rest
  pub spells : SpellsNumber high first
  pub shortest : (place ≡ 1) ⊎ (0 < high)
  pub whole : k ≡ from + place * high
  pub fits : k < 2 ^ 64

pub continues_first : (k : ℕ) (rest bytes : List ℕ) → BeginsWith k rest bytes → Continues 0 1 k rest bytes
continues_first k rest bytes b = record {
  high = k;
  first = b.first;
  cut = b.cut;
  spells = b.spells;
  shortest = inl refl;
  whole = omega arith;
  fits = b.fits;
}

pub continued_first : (k : ℕ) (rest bytes : List ℕ) → Continues 0 1 k rest bytes → BeginsWith k rest bytes
continued_first k rest bytes c =
    let same : c.high ≡ k = omega (arith, c.whole) in
    record { first = c.first; cut = c.cut; spells = rw same at c.spells; fits = c.fits }

above_zero : (place high : ℕ) → (place * 128 ≡ 1) ⊎ (0 < high) → 0 < high
above_zero place high (inl one) = absurd (omega arith)
above_zero place high (inr some) = some

-- the number with seven bits more below it
raised : (from place b high : ℕ) → 128 ≤ b → from + place * (b - 128) + place * 128 * high ≡ from + place * (high * 128 + (b - 128))
raised from place b high ge = omega arith

-- at a byte before the last
pub continued : (from place b k : ℕ) (rest bytes : List ℕ) → 128 ≤ b → b < 256 → Continues (from + place * (b - 128)) (place * 128) k rest bytes → Continues from place k rest (b ∷ bytes)
continued from place b k rest bytes ge small c =
    let some : 0 < c.high = above_zero place c.high c.shortest in
    let up : (c.high * 128 + (b - 128)) / 128 ≡ c.high = omega arith in
    let low : b ≡ 128 + (c.high * 128 + (b - 128)) % 128 = omega arith in
    record {
      high = c.high * 128 + (b - 128);
      first = b ∷ c.first;
      cut = ap (λ (v : List ℕ). b ∷ v) c.cut;
      spells = inr (omega arith, low, rw up c.spells);
      shortest = inr (omega arith);
      whole = c.whole ∙ raised from place b c.high ge;
      fits = c.fits;
    }

-- what a first byte says
first_byte : (b c : ℕ) (bytes others : List ℕ) → b ∷ bytes ≡ c ∷ others → b ≡ c
first_byte b c bytes others is = cc

other_bytes : (b c : ℕ) (bytes others : List ℕ) → b ∷ bytes ≡ c ∷ others → bytes ≡ others
other_bytes b c bytes others is = cc

some_bytes : (b : ℕ) (bytes : List ℕ) → b ∷ bytes ≡ [] → ⊥
some_bytes b bytes is = cc

none : (high : ℕ) (first rest : List ℕ) → SpellsNumber high first → [] ≡ first ++ rest → ⊥
none high [] rest spells cut = spells
none high (c ∷ first) rest spells cut = some_bytes c (first ++ rest) (sym cut)

pub continues_none : (from place k : ℕ) (rest : List ℕ) → Continues from place k rest [] → ⊥
continues_none from place k rest c = none c.high c.first rest c.spells c.cut

-- a number that goes on after a byte
record GoesOn (high b : ℕ) (rest bytes : List ℕ) : Type 0 where
  large : 128 ≤ high
  low : b ≡ 128 + high % 128
  first : List ℕ
  cut : bytes ≡ first ++ rest
  spells : SpellsNumber (high / 128) first

goes_on : (high b : ℕ) (first rest bytes : List ℕ) → 128 ≤ b → SpellsNumber high first → b ∷ bytes ≡ first ++ rest → GoesOn high b rest bytes
goes_on high b [] rest bytes ge spells cut = absurd spells
goes_on high b (c ∷ first) rest bytes ge (inl h) cut =
    let same : b ≡ c = first_byte b c bytes (first ++ rest) cut in
    absurd (omega (arith, same, h.0, h.1))
goes_on high b (c ∷ first) rest bytes ge (inr h) cut =
    let same : b ≡ c = first_byte b c bytes (first ++ rest) cut in
    record { large = h.0; low = same ∙ h.1; first = first; cut = other_bytes b c bytes (first ++ rest) cut; spells = h.2 }

pub continues : (from place b k : ℕ) (rest bytes : List ℕ) → 128 ≤ b → Continues from place k rest (b ∷ bytes) → Continues (from + place * (b - 128)) (place * 128) k rest bytes
continues from place b k rest bytes ge c =
    let g = goes_on c.high b c.first rest bytes ge c.spells c.cut in
    record {
      high = c.high / 128;
      first = g.first;
      cut = g.cut;
      spells = g.spells;
      shortest = inr (omega (arith, g.large));
      whole = c.whole ∙ sym (joined from c.high place) ∙ ap (λ (n : ℕ). from + place * (n - 128) + place * 128 * (c.high / 128)) (sym g.low);
      fits = c.fits;
    }

-- so there is room for its next seven bits
pub continues_room : (from place b k : ℕ) (rest bytes : List ℕ) → 128 ≤ b → Continues from place k rest (b ∷ bytes) → place * 128 < 2 ^ 64
continues_room from place b k rest bytes ge c =
    let g = goes_on c.high b c.first rest bytes ge c.spells c.cut in
    let least : place * 128 ≤ place * c.high = mul-le-mul_left place g.large in
    omega (arith, least, c.whole, c.fits)

-- at the last byte
pub record Ends (from place b k : ℕ) (rest bytes : List ℕ) : Type 0 where
  pub whole : k ≡ from + place * b
  pub others : rest ≡ bytes
  pub shortest : (place ≡ 1) ⊎ (0 < b)
  pub fits : from + place * b < 2 ^ 64

ended : (high b : ℕ) (first rest bytes : List ℕ) → b < 128 → SpellsNumber high first → b ∷ bytes ≡ first ++ rest → (b ≡ high) × (rest ≡ bytes)
ended high b [] rest bytes lt spells cut = absurd spells
ended high b (c ∷ first) rest bytes lt (inl h) cut =
    let same : b ≡ c = first_byte b c bytes (first ++ rest) cut in
    (same ∙ h.1, ap (λ v. v ++ rest) (sym h.2) ∙ sym (other_bytes b c bytes (first ++ rest) cut))
ended high b (c ∷ first) rest bytes lt (inr h) cut =
    let same : b ≡ c = first_byte b c bytes (first ++ rest) cut in
    absurd (omega (arith, same, h.1))

pub continues_end : (from place b k : ℕ) (rest bytes : List ℕ) → b < 128 → Continues from place k rest (b ∷ bytes) → Ends from place b k rest bytes
continues_end from place b k rest bytes lt c =
    let e = ended c.high b c.first rest bytes lt c.spells c.cut in
    record {
      whole = rw e.0 c.whole;
      others = e.1;
      shortest = rw e.0 c.shortest;
      fits = rw e.0 (rw c.whole at c.fits);
    }

pub continued_end : (from place b : ℕ) (bytes : List ℕ) → b < 128 → (place ≡ 1) ⊎ (0 < b) → from + place * b < 2 ^ 64 → Continues from place (from + place * b) bytes (b ∷ bytes)
continued_end from place b bytes lt shortest fits = record {
  high = b;
  first = b ∷ [];
  cut = refl;
  spells = inl (lt, refl, refl);
  shortest = shortest;
  whole = refl;
  fits = fits;
}
