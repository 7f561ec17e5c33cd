-- Changes that are found by words, a bit for each vertex of a block.
use Rattle.std.proofs.Common.{◌≡◌, ℕ, zero, suc, ◌+◌, ◌-◌, ◌*◌, ◌/◌, ◌%◌, ◌^◌, ◌<◌, ◌≤◌, ◌==◌, ℤ, Bool, true, false, cond, not, List, [], ◌∷◌, ◌++◌, bit_and, bit_or, drop, get_or, pos, take, refl}
use Rattle.std.proofs.Common.{sym, ap, ◌∙◌, append_assoc, arith}
use Rattle.std.specs.Int.{bit_at}
use Rattle.std.proofs.lemmas.List.{append-nil, get_or-drop, get_or-take}
use Rattle.std.proofs.lemmas.Nat.Bits.{bit_at_lowest, bit_at-suc}
use lib.Count.{count_trailing_zeros}
use Rattle.algorithm_meaning.specs.Arithmetic.{int_equal}
use Rattle.vectors.specs.declared.changes.EntryChange.{EntryChange}
use Rattle.vertex_sets.specs.inside.Words.{bit_members}
use Rattle.vertex_sets.proofs.BitMembers.{bits_lowest, bits_none}
use Rattle.vertex_sets.proofs.WordMembers.{next_bit}
use Rattle.edge_fold.specs.Changed.{change_at, changed_from}
use Rattle.edge_fold.specs.inside.Changed.{entries_at}
use Rattle.edge_fold.proofs.ChangedRows.{changed_from-append, one_change}

first_changed : (old new : ℕ → ℤ) (a : ℕ) (us : List ℕ) (cs : List EntryChange) (b e : Bool) → b ≡ not e → int_equal (old a) (new a) ≡ e → entries_at new us ≡ cs
    → entries_at new (cond b (a ∷ us) us) ≡ change_at old new a ++ cs
first_changed old new a us cs b true is same more =
    let change : EntryChange = record { vertex = a; number = new a } in
    ap (λ (c : Bool). entries_at new (cond c (a ∷ us) us)) is ∙ more ∙ sym (ap (λ (c : Bool). cond c [] (change ∷ []) ++ cs) same)
first_changed old new a us cs b false is same more =
    let change : EntryChange = record { vertex = a; number = new a } in
    ap (λ (c : Bool). entries_at new (cond c (a ∷ us) us)) is ∙ ap (λ ds. change ∷ ds) more ∙ sym (ap (λ (c : Bool). cond c [] (change ∷ []) ++ cs) same)

-- if the bits say which entries differ, the new entries at the set bits are the changes
pub word_changed : (old new : ℕ → ℤ) (k a word : ℕ) → ((i : ℕ) → i < k → (bit_at word i == 1) ≡ not (int_equal (old (a + i)) (new (a + i))))
    → entries_at new (bit_members k a word) ≡ changed_from old new a k
unfolding bit_members changed_from
word_changed old new zero a word bits = refl
word_changed old new (suc k) a word bits =
    let here : a + 0 ≡ a = omega arith in
    first_changed old new a (bit_members k (a + 1) (word / 2)) (changed_from old new (a + 1) k) (word % 2 == 1) (int_equal (old a) (new a))
    (ap (λ b. b == 1) (sym (bit_at_lowest word)) ∙ bits 0 (omega arith) ∙ ap (λ u. not (int_equal (old u) (new u))) here) refl
    (word_changed old new k (a + 1) (word / 2) (λ i l.
    let next : a + suc i ≡ a + 1 + i = omega arith in
    ap (λ b. b == 1) (sym (bit_at-suc word i)) ∙ bits (suc i) (omega (arith, l)) ∙ ap (λ u. not (int_equal (old u) (new u))) next))

-- the vertex of the lowest bit comes next
pub lowest_pushed : (new : ℕ → ℤ) (a left : ℕ) (found more all : List EntryChange) → 0 < left → left < 2 ^ 64 → more ≡ found ++ entries_at new ((a + count_trailing_zeros 64 left) ∷ [])
    → found ++ entries_at new (bit_members 64 a left) ≡ all → more ++ entries_at new (bit_members 64 a (bit_and left (left - 1))) ≡ all
lowest_pushed new a left found more all some fits is was =
    let rest = entries_at new (bit_members 64 a (bit_and left (left - 1))) in
    ap (λ cs. cs ++ rest) is ∙ append_assoc found (entries_at new ((a + count_trailing_zeros 64 left) ∷ [])) rest
    ∙ ap (λ us. found ++ entries_at new us) (sym (bits_lowest 64 a left some fits)) ∙ was

-- no bit is left
pub no_bit_left : (new : ℕ → ℤ) (a left : ℕ) (found all : List EntryChange) → left ≡ 0 → found ++ entries_at new (bit_members 64 a left) ≡ all → found ≡ all
no_bit_left new a left found all none was =
    sym (append-nil found) ∙ ap (λ us. found ++ entries_at new us) (sym (ap (bit_members 64 a) none ∙ bits_none 64 a)) ∙ was

pub no_vertices : (old new : ℕ → ℤ) (v : ℕ) → changed_from old new v 0 ≡ []
unfolding changed_from
no_vertices old new v = refl

-- one more vertex of those from one on
pub one_more_changed : (old new : ℕ → ℤ) (a k : ℕ) (first found more : List EntryChange) → found ≡ first ++ changed_from old new a k → more ≡ found ++ change_at old new (a + k)
    → more ≡ first ++ changed_from old new a (k + 1)
one_more_changed old new a k first found more was is =
    is ∙ ap (λ cs. cs ++ change_at old new (a + k)) was ∙ append_assoc first (changed_from old new a k) (change_at old new (a + k))
    ∙ ap (λ cs. first ++ cs) (sym (changed_from-append old new a k 1 ∙ ap (λ cs. changed_from old new a k ++ cs) (one_change old new (a + k) ∙ append-nil (change_at old new (a + k)))))

-- one more block
pub block_more : (old new : ℕ → ℤ) (m k p q : ℕ) (found more : List EntryChange) → found ≡ changed_from old new 0 p → p ≡ m → more ≡ found ++ changed_from old new m k → q ≡ m + k
    → more ≡ changed_from old new 0 q
block_more old new m k p q found more was at is next =
    let zero_first : 0 + m ≡ m = omega arith in
    is ∙ ap (λ cs. cs ++ changed_from old new m k) (was ∙ ap (λ j. changed_from old new 0 j) at)
    ∙ sym (changed_from-append old new 0 m k ∙ ap (λ j. changed_from old new 0 m ++ changed_from old new j k) zero_first)
    ∙ ap (λ j. changed_from old new 0 j) (sym next)

-- a number of a part of a list
pub part_at : (numbers : List ℤ) (first count i : ℕ) → i < count → get_or (take count (drop first numbers)) i (pos 0) ≡ get_or numbers (first + i) (pos 0)
part_at numbers first count i l = get_or-take count (drop first numbers) i (pos 0) l ∙ get_or-drop first numbers i (pos 0)

-- the bit of one more number
pub differs_more : (test : ℕ → Bool) (bit word next : ℕ) (b : Bool) → bit < 64 → next ≡ cond b (bit_or word (1 * 2 ^ bit % 2 ^ 64)) word → b ≡ test bit
    → ((i : ℕ) → i < bit → (bit_at word i == 1) ≡ test i) → ((i : ℕ) → bit ≤ i → bit_at word i ≡ 0)
    → ((i : ℕ) → i < bit + 1 → (bit_at next i == 1) ≡ test i) × ((i : ℕ) → bit + 1 ≤ i → bit_at next i ≡ 0)
differs_more test bit word next b lt e now bits others =
    let at : (i : ℕ) → 0 + i ≡ i = λ i. omega arith in
    let all = next_bit (λ v c. c ≡ test v) 0 bit word next b lt e (now ∙ ap test (sym (at bit))) (λ i l. bits i l ∙ ap test (sym (at i))) others in
    (λ i l. all.0 i l ∙ ap test (at i), all.1)
