-- Walks over those vertices of a block whose bits are set.
use Rattle.std.proofs.Common.{◌≡◌, inl, inr, ℕ, zero, suc, ◌+◌, ◌-◌, ◌*◌, ◌/◌, ◌%◌, ◌^◌, ◌<◌, ◌==◌, ℤ, Bool, true, false, cond, List, [], ◌∷◌, ◌++◌, bit_and, refl, sym, ap, ap₂, ◌∙◌, subst}
use Rattle.std.proofs.Common.{append_assoc, arith, mod-lt, zero-lt-suc}
use Rattle.std.specs.Int.{bit_at}
use Rattle.std.proofs.lemmas.List.{append-nil}
use Rattle.std.proofs.lemmas.Nat.Bits.{bit_at_lowest, bit_at-suc}
use lib.Count.{count_trailing_zeros}
use Rattle.weighted_edges.specs.Edge.{Edge}
use Rattle.apply_options.specs.declared.reduction.Reduction.{Reduction}
use Rattle.pages.specs.Vertices.{neighbours_of}
use Rattle.vectors.specs.declared.changes.EntryChange.{EntryChange}
use Rattle.vertex_sets.specs.inside.Words.{bit_members}
use Rattle.vertex_sets.proofs.BitMembers.{bits_lowest, bits_none}
use Rattle.flat_snapshot.specs.Neighbours.{sources_of}
use Rattle.edge_fold.specs.Changed.{change_at, changed_from}
use Rattle.edge_fold.specs.EntryNumbers.{reduced_over}
use Rattle.edge_fold.proofs.ChangedRows.{equal_itself, nothing_changed}
use Rattle.kernels.specs.Arithmetic.{int_equal}
use Rattle.pull_engine.specs.Columns.{passing}
use Rattle.pull_engine.specs.inside.Ranges.{changes_at, pulled, pulled_to}
use Rattle.pull_engine.specs.inside.Words.{in_word}
use Rattle.pull_engine.proofs.WordBits.{bit_of_block, set_in_first, clear_in_one, set_test, clear_test}

no_change : (old new : ℕ → ℤ) (v : ℕ) → new v ≡ old v → change_at old new v ≡ []
no_change old new v same =
    let change : EntryChange = record { vertex = v; number = new v } in
    ap (λ (b : Bool). cond b [] (change ∷ [])) (ap (λ (y : ℤ). int_equal (old v) y) same ∙ equal_itself (old v))

first_bit : (old new end : ℕ → ℤ) (a b : ℕ) (us : List ℕ) (cs : List EntryChange) → b < 2 → (b ≡ 1 → end a ≡ new a) → (b ≡ 0 → end a ≡ old a) → changes_at old new us ≡ cs
    → changes_at old new (cond (b == 1) (a ∷ us) us) ≡ change_at old end a ++ cs
first_bit old new end a zero us cs l on off more = more ∙ sym (ap (λ ds. ds ++ cs) (no_change old end a (off refl)))
first_bit old new end a (suc zero) us cs l on off more =
    ap (λ (y : ℤ). change_at old (λ _. y) a ++ changes_at old new us) (sym (on refl)) ∙ ap (λ ds. change_at old end a ++ ds) more
first_bit old new end a (suc (suc b)) us cs l on off more = absurd (omega arith)

-- the changes at the vertices of set bits are those of all vertices, where these have new entries and the others stay
pub block_changed : (old new end : ℕ → ℤ) (k a word : ℕ) → ((i : ℕ) → i < k → bit_at word i ≡ 1 → end (a + i) ≡ new (a + i)) → ((i : ℕ) → i < k → bit_at word i ≡ 0 → end (a + i) ≡ old (a + i))
    → changes_at old new (bit_members k a word) ≡ changed_from old end a k
unfolding bit_members changed_from
block_changed old new end zero a word on off = refl
block_changed old new end (suc k) a word on off =
    let here : a + 0 ≡ a = omega arith in
    first_bit old new end a (word % 2) (bit_members k (a + 1) (word / 2)) (changed_from old end (a + 1) k) (mod-lt word (zero-lt-suc 1))
    (λ is. subst (λ (u : ℕ). end u ≡ new u) here (on 0 (omega arith) (bit_at_lowest word ∙ is)))
    (λ is. subst (λ (u : ℕ). end u ≡ old u) here (off 0 (omega arith) (bit_at_lowest word ∙ is)))
    (block_changed old new end k (a + 1) (word / 2)
    (λ i l is. let next : a + suc i ≡ a + 1 + i = omega arith in subst (λ (u : ℕ). end u ≡ new u) next (on (suc i) (omega arith) (bit_at-suc word i ∙ is)))
    (λ i l is. let next : a + suc i ≡ a + 1 + i = omega arith in subst (λ (u : ℕ). end u ≡ old u) next (off (suc i) (omega arith) (bit_at-suc word i ∙ is))))

-- the vertex of the lowest bit comes next
pub lowest_changed : (old new : ℕ → ℤ) (a left : ℕ) (found more all : List EntryChange) → 0 < left → left < 2 ^ 64 → more ≡ found ++ change_at old new (a + count_trailing_zeros 64 left)
    → found ++ changes_at old new (bit_members 64 a left) ≡ all → more ++ changes_at old new (bit_members 64 a (bit_and left (left - 1))) ≡ all
lowest_changed old new a left found more all some fits is was =
    let rest = changes_at old new (bit_members 64 a (bit_and left (left - 1))) in
    let here = change_at old new (a + count_trailing_zeros 64 left) in
    ap (λ cs. cs ++ rest) is ∙ append_assoc found here rest
    ∙ ap (λ us. found ++ changes_at old new us) (sym (bits_lowest 64 a left some fits)) ∙ was

-- no bit is left
pub none_left : (old new : ℕ → ℤ) (a left : ℕ) (found all : List EntryChange) → left ≡ 0 → found ++ changes_at old new (bit_members 64 a left) ≡ all → found ≡ all
none_left old new a left found all none was =
    sym (append-nil found) ∙ ap (λ us. found ++ changes_at old new us) (sym (ap (λ w. bit_members 64 a w) none ∙ bits_none 64 a)) ∙ was

-- a vertex without sources stays, whether it passes or not
either_stays : (b : Bool) (x y : ℤ) → x ≡ y → cond b x y ≡ y
either_stays true x y e = e
either_stays false x y e = refl

stays : (r : Reduction) (number : ℕ → ℤ → ℤ) (old : ℕ → ℤ) (from to : ℕ → Bool) (es : List Edge) (v : ℕ) → sources_of v es ≡ [] → pulled_to r number old from to es v ≡ old v
stays r number old from to es v none =
    either_stays (to v) (pulled r number old from es v) (old v) (ap (λ (ss : List (ℕ × ℤ)). reduced_over r number (old v) (passing from ss)) none)

-- a graph without such a block
pub no_block : (r : Reduction) (number : ℕ → ℤ → ℤ) (old : ℕ → ℤ) (from to : ℕ → Bool) (es : List Edge) (k : ℕ) → ((v : ℕ) → v / 64 ≡ k → [] ≡ sources_of v es)
    → changed_from old (pulled_to r number old from to es) (64 * k) 64 ≡ []
no_block r number old from to es k none =
    nothing_changed old (pulled_to r number old from to es) (64 * k) 64 (λ v a b. stays r number old from to es v (sym (none v (omega (arith, a, b)))))

-- the vertices of a block whose bits are set in a word and that have sources are all that may change
pub block_begun : (r : Reduction) (number : ℕ → ℤ → ℤ) (old : ℕ → ℤ) (from : ℕ → Bool) (es : List Edge) (k word some : ℕ) (lists : List (ℕ × List (ℕ × ℤ)))
    → ((v : ℕ) → v / 64 ≡ k → neighbours_of (v % 64) lists ≡ sources_of v es) → ((u : ℕ) → u < 64 → bit_at some u ≡ 0 → neighbours_of u lists ≡ [])
    → changes_at old (pulled r number old from es) (bit_members 64 (64 * k) (bit_and word some)) ≡ changed_from old (pulled_to r number old from (in_word (64 * k) word) es) (64 * k) 64
block_begun r number old from es k word some lists at none =
    block_changed old (pulled r number old from es) (pulled_to r number old from (in_word (64 * k) word) es) 64 (64 * k) (bit_and word some)
    (λ i l is. ap (λ (b : Bool). cond b (pulled r number old from es (64 * k + i)) (old (64 * k + i))) (bit_of_block k word i ∙ set_test word i (set_in_first word some i is)))
    (λ i l is. elim (clear_in_one word some i is) [
      | inl out ↦ ap (λ (b : Bool). cond b (pulled r number old from es (64 * k + i)) (old (64 * k + i))) (bit_of_block k word i ∙ clear_test word i out)
      | inr empty ↦
          let place : (64 * k + i) / 64 ≡ k = omega (arith, l) in
          let rest : (64 * k + i) % 64 ≡ i = omega (arith, l) in
          stays r number old from (in_word (64 * k) word) es (64 * k + i) (sym (at (64 * k + i) place) ∙ ap (λ u. neighbours_of u lists) rest ∙ none i l empty)
    ])

-- the change of a vertex of a block
pub vertex_changed : (r : Reduction) (number : ℕ → ℤ → ℤ) (old : ℕ → ℤ) (from : ℕ → Bool) (es : List Edge) (k u v : ℕ) (lists : List (ℕ × List (ℕ × ℤ))) (before n : ℤ) → u < 64 → v ≡ 64 * k + u
    → ((w : ℕ) → w / 64 ≡ k → neighbours_of (w % 64) lists ≡ sources_of w es) → before ≡ old v → n ≡ reduced_over r number before (passing from (neighbours_of u lists))
    → change_at (λ _. before) (λ _. n) v ≡ change_at old (pulled r number old from es) (64 * k + u)
vertex_changed r number old from es k u v lists before n l is at begins gives =
    let place : v / 64 ≡ k = omega (arith, is, l) in
    let rest : v % 64 ≡ u = omega (arith, is, l) in
    let sources : neighbours_of u lists ≡ sources_of v es = ap (λ j. neighbours_of j lists) (sym rest) ∙ at v place in
    ap₂ (λ (x y : ℤ). change_at (λ _. x) (λ _. y) v) begins
    (gives ∙ ap₂ (λ (x : ℤ) (ss : List (ℕ × ℤ)). reduced_over r number x (passing from ss)) begins sources)
    ∙ ap (change_at old (pulled r number old from es)) is
