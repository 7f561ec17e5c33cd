-- The spelling of a list of entries, against what its bytes stand for.
use Rattle.std.proofs.Common.{◌≡◌, ℕ, ◌+◌, ◌-◌, ◌<◌, ℤ, false, List, [], ◌∷◌, ◌++◌, length, refl, sym, ◌∙◌, ap, subst, arith}
use Rattle.std.specs.Map.{keys_of}
use Rattle.std.proofs.lemmas.List.{append_cancel_left}
use Rattle.ascending_lists.specs.Ascending.{AscendsFrom}
use Rattle.tail_codec.specs.Spelling.{SpellsFrom, AreWeights, entry_numbers, list_numbers}
use Rattle.tail_codec.specs.inside.Decoding.{numbers_from, entries_from, decoded}
use Rattle.tail_codec.specs.inside.Reading.{BeginsWithEntry}
use Rattle.tail_codec.proofs.Numbers.{numbers_first, numbers_whole, same_numbers, numbers_spelling, numbers_append, numbers_split}
use Rattle.tail_codec.proofs.Weights.{entry_first}

entries_listed : (low : ℕ) (es : List (ℕ × ℤ)) → AscendsFrom low (keys_of es) → entries_from false low (list_numbers low es) ≡ es
entries_listed low [] s = refl
entries_listed low (e ∷ es) s =
    entry_first low e.0 e.1 (list_numbers (e.0 + 1) es) s.0 ∙ ap (λ v. e ∷ v) (entries_listed (e.0 + 1) es s.2)

-- The bytes of a list stand for it.
pub decoded_list : (low : ℕ) (es : List (ℕ × ℤ)) (bytes : List ℕ) → SpellsFrom low es bytes → decoded low bytes ≡ es
decoded_list low es bytes spells =
    ap (entries_from false low) (numbers_whole (list_numbers low es) bytes spells.numbers) ∙ entries_listed low es spells.ascending

-- so they spell what they stand for
pub spells_decoded : (low : ℕ) (es : List (ℕ × ℤ)) (bytes : List ℕ) → SpellsFrom low es bytes → SpellsFrom low (decoded low bytes) bytes
spells_decoded low es bytes spells = subst (λ xs. SpellsFrom low xs bytes) (sym (decoded_list low es bytes spells)) spells

-- Bytes spell one list at most, and a list has one spelling at most.
pub same_list : (low : ℕ) (xs ys : List (ℕ × ℤ)) (bytes : List ℕ) → SpellsFrom low xs bytes → SpellsFrom low ys bytes → xs ≡ ys
same_list low xs ys bytes one other = sym (decoded_list low xs bytes one) ∙ decoded_list low ys bytes other

pub same_spelling : (low : ℕ) (es : List (ℕ × ℤ)) (s t : List ℕ) → SpellsFrom low es s → SpellsFrom low es t → s ≡ t
same_spelling low es s t one other = same_numbers (list_numbers low es) s t one.numbers other.numbers

-- Each list that ascends has a spelling.
pub list_spelling : (low : ℕ) (es : List (ℕ × ℤ)) → AscendsFrom low (keys_of es) → AreWeights es → (s : List ℕ) × SpellsFrom low es s
list_spelling low es ascends weights =
    let found = numbers_spelling (list_numbers low es) in
    (found.0, record { ascending = ascends; weights = weights; numbers = found.1 })

-- A first entry before others, and taken off.
pub begun : (low : ℕ) (e : ℕ × ℤ) (es : List (ℕ × ℤ)) (rest bytes : List ℕ) → BeginsWithEntry low e rest bytes → SpellsFrom (e.0 + 1) es rest → SpellsFrom low (e ∷ es) bytes
begun low e es rest bytes b spells = record {
  ascending = (b.least, b.small, spells.ascending);
  weights = (b.weight, spells.weights);
  numbers = rw b.cut (numbers_append (entry_numbers (e.0 - low) e.1) (list_numbers (e.0 + 1) es) b.first rest b.spells spells.numbers);
}

pub begins : (low : ℕ) (e : ℕ × ℤ) (es : List (ℕ × ℤ)) (bytes : List ℕ) → SpellsFrom low (e ∷ es) bytes → (rest : List ℕ) × BeginsWithEntry low e rest bytes × SpellsFrom (e.0 + 1) es rest
begins low e es bytes spells =
    let (s, t, cut, first, others) = numbers_split (entry_numbers (e.0 - low) e.1) (list_numbers (e.0 + 1) es) bytes spells.numbers in (
      t,
      record {
        least = spells.ascending.0;
        small = spells.ascending.1;
        weight = spells.weights.0;
        first = s;
        cut = cut;
        spells = first;
      },
      record { ascending = spells.ascending.2; weights = spells.weights.1; numbers = others },
    )

pub begins_decoded : (low : ℕ) (e : ℕ × ℤ) (rest bytes : List ℕ) → BeginsWithEntry low e rest bytes → decoded low bytes ≡ e ∷ decoded (e.0 + 1) rest
begins_decoded low e rest bytes b =
    ap (λ v. entries_from false low (numbers_from 0 1 v)) b.cut
    ∙ ap (entries_from false low) (numbers_first (entry_numbers (e.0 - low) e.1) b.first rest b.spells)
    ∙ entry_first low e.0 e.1 (numbers_from 0 1 rest) b.least

-- the same entry ends at the same position
same_rest : (low : ℕ) (e : ℕ × ℤ) (rest other bytes : List ℕ) → BeginsWithEntry low e rest bytes → BeginsWithEntry low e other bytes → rest ≡ other
same_rest low e rest other bytes a b =
    let same : a.first ≡ b.first = same_numbers (entry_numbers (e.0 - low) e.1) a.first b.first a.spells b.spells in
    append_cancel_left b.first rest other (ap (λ v. v ++ rest) (sym same) ∙ sym a.cut ∙ b.cut)

-- what bytes spell after their first entry
pub step : (low : ℕ) (e : ℕ × ℤ) (rest bytes : List ℕ) → BeginsWithEntry low e rest bytes → SpellsFrom low (decoded low bytes) bytes → SpellsFrom (e.0 + 1) (decoded (e.0 + 1) rest) rest
step low e rest bytes b spells =
    let (other, b', others) = begins low e (decoded (e.0 + 1) rest) bytes (subst (λ xs. SpellsFrom low xs bytes) (begins_decoded low e rest bytes b) spells) in
    subst (λ v. SpellsFrom (e.0 + 1) (decoded (e.0 + 1) rest) v) (sym (same_rest low e rest other bytes b b')) others

-- and before that
pub step_back : (low : ℕ) (e : ℕ × ℤ) (rest bytes : List ℕ) → BeginsWithEntry low e rest bytes → SpellsFrom (e.0 + 1) (decoded (e.0 + 1) rest) rest → SpellsFrom low (decoded low bytes) bytes
step_back low e rest bytes b spells =
    subst (λ xs. SpellsFrom low xs bytes) (sym (begins_decoded low e rest bytes b)) (begun low e (decoded (e.0 + 1) rest) rest bytes b spells)

-- bytes that spell a list begin with its first entry
nothing_spelled : (low : ℕ) (bytes : List ℕ) → SpellsFrom low [] bytes → bytes ≡ []
nothing_spelled low bytes spells = spells.numbers

first_spelled : (low : ℕ) (es : List (ℕ × ℤ)) (bytes : List ℕ) → 0 < length bytes → SpellsFrom low es bytes → (e : ℕ × ℤ) × (rest : List ℕ) × BeginsWithEntry low e rest bytes
first_spelled low [] bytes some spells = absurd (omega (arith, some, ap length (nothing_spelled low bytes spells)))
first_spelled low (e ∷ es) bytes some spells =
    let b = begins low e es bytes spells in
    (e, b.0, b.1)

pub known_begin : (low : ℕ) (bytes : List ℕ) → 0 < length bytes → SpellsFrom low (decoded low bytes) bytes → (e : ℕ × ℤ) × (rest : List ℕ) × BeginsWithEntry low e rest bytes
known_begin low bytes some spells = first_spelled low (decoded low bytes) bytes some spells
