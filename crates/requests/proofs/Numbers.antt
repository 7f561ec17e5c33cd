-- Numbers that options have.
use Rattle.std.proofs.Common.{◌≡◌, ◌∙◌, ◌^◌, ◌<◌, ◌≤◌, ℕ, Bool, true, false, List, Option, Some, None, Result, Ok, Err, refl, sym, arith}
use Rattle.std.proofs.lemmas.Bool.{le-leb, leb-true, true≢false}
use Rattle.std.specs.Prelude.{nat_le}
use Rattle.std.specs.Option.{option_map_or}
use Rattle.std.specs.Str.Parse.{IsNumeral, ParsesUnsigned, digits_value, without_leading_plus}
use Rattle.clap.specs.Matches.{ReadsOne}
use Rattle.clap.specs.ValueTests.{accepts}
use Rattle.clap.specs.Words.{Row, Text, one_of}
use Rattle.clap.specs.declared.builder.value_parser.ValueParser.TheVariants.{Unsigned}
use Rattle.clap.proofs.ValueTestLemmas.{accepts-Accepts, Accepts-accepts}
use Rattle.requests.specs.Asked.{number_in, number_of}
use Rattle.requests.specs.inside.Numbers.{within}

-- the number that the text writes
abbrev value : Text → ℕ
value t = digits_value 10 (without_leading_plus t)

-- the text is a number below 2 ^ 64
abbrev IsNumber : Text → Type 0
IsNumber t = IsNumeral 10 (without_leading_plus t) × (value t < 2 ^ 64)

number_read : (least most default v : ℕ) (t : Text) → IsNumber t → v ≡ value t → number_in least most default t ≡ within least most default v
number_read least most default v t is same = go (accepts false (Unsigned least most) t) refl
  where
    outside : accepts false (Unsigned least most) t ≡ false → (a b : Bool) → nat_le least v ≡ a → nat_le v most ≡ b → default ≡ within least most default v
    outside fails true true above below =
        let a = leb-true least v above in
        let b = leb-true v most below in
        let fits = Accepts-accepts false (Unsigned least most) t (is.0, is.1, omega (arith, a, same), omega (arith, b, same)) in
        absurd (true≢false (sym fits ∙ fails))
    outside fails true false above below = rw (above, below) refl
    outside fails false b above below = rw above refl

    go : (b : Bool) → accepts false (Unsigned least most) t ≡ b → number_in least most default t ≡ within least most default v
    go true fits =
        let a = accepts-Accepts false (Unsigned least most) t fits in
        let above : nat_le least v ≡ true = le-leb least v (omega (arith, a.2, same)) in
        let below : nat_le v most ≡ true = le-leb v most (omega (arith, a.3, same)) in
        rw (fits, above, below) (sym same)
    go false fails = rw fails (outside fails (nat_le least v) (nat_le v most) refl refl)

no_number : (least most default : ℕ) (t : Text) → (IsNumber t → ⊥) → number_in least most default t ≡ default
no_number least most default t none = go (accepts false (Unsigned least most) t) refl
  where
    go : (b : Bool) → accepts false (Unsigned least most) t ≡ b → number_in least most default t ≡ default
    go true fits = let a = accepts-Accepts false (Unsigned least most) t fits in absurd (none (a.0, a.1))
    go false fails = rw fails refl

-- what `get_one` reads, in the range, is what the definition says of the text
pub number_found : {E : Type 0} (G : List ℕ → Result ℕ E → Type 0) → ((t : Text) (x : Result ℕ E) → G t x → ParsesUnsigned 64 10 t x)
    → (least most default : ℕ) (text : Option Text) (r : Option ℕ)
    → (text ≡ None → r ≡ None) → ((t : Text) → text ≡ Some t → ReadsOne G t r)
    → option_map_or (within least most default) r default ≡ option_map_or (number_in least most default) text default
number_found {E} G only least most default None r none some = rw (none refl) refl
number_found {E} G only least most default (Some t) None none some =
    let e = some t refl in
    sym (no_number least most default t (only t (Err e.0) e.1))
number_found {E} G only least most default (Some t) (Some v) none some =
    let p = only t (Ok v) (some t refl) in
    sym (number_read least most default v t p.0 p.1)

-- a number in a range with its default
pub number_is_in : (least most default : ℕ) (id : Text) (rows : List Row) → least ≤ default → default ≤ most
    → (least ≤ number_of id least most default rows) × (number_of id least most default rows ≤ most)
number_is_in least most default id rows above below = go (one_of id rows)
  where
    of_text : (t : Text) (b : Bool) → accepts false (Unsigned least most) t ≡ b → (least ≤ number_in least most default t) × (number_in least most default t ≤ most)
    of_text t true fits = let a = accepts-Accepts false (Unsigned least most) t fits in rw fits (a.2, a.3)
    of_text t false fails = rw fails (above, below)

    go : (o : Option Text) → (least ≤ option_map_or (number_in least most default) o default) × (option_map_or (number_in least most default) o default ≤ most)
    go None = (above, below)
    go (Some t) = of_text t (accepts false (Unsigned least most) t) refl
