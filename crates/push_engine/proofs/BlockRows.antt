-- The edges from those vertices of blocks that pass.
use Rattle.std.proofs.Common.{◌≡◌, ◌⊎◌, inl, inr, ℕ, zero, suc, ◌+◌, ◌*◌, ◌/◌, ◌%◌, ◌<◌, ◌≤◌, ◌==◌, ◌&&◌, ℤ, Bool, true, false, cond, List, [], ◌∷◌, ◌++◌, bit_and, refl, sym, ap, ap₂, ◌∙◌, subst}
use Rattle.std.proofs.Common.{append_assoc, arith, mod-lt, zero-lt-suc}
use Rattle.std.specs.Int.{bit_at}
use Rattle.std.specs.List.{filter, range_with_len}
use Rattle.std.proofs.lemmas.Bool.{cases_lt, eq-eqb, ne_eqb}
use Rattle.std.proofs.lemmas.List.{append-nil}
use Rattle.std.proofs.lemmas.List.Elements.{filter-append}
use Rattle.std.proofs.lemmas.Nat.Bits.{bit_at_and, bit_at_lowest, bit_at-lt, bit_at-suc}
use Rattle.weighted_edges.specs.Edge.{Edge}
use Rattle.pages.specs.Vertices.{neighbours_of}
use Rattle.vertex_sets.specs.inside.Words.{bit_members}
use Rattle.flat_snapshot.specs.Digraph.{Digraph, IsDigraph}
use Rattle.flat_snapshot.specs.Neighbours.{destinations_of}
use Rattle.edge_fold.specs.declared.apply_context.ApplyContext.{ApplyContext}
use Rattle.edge_fold.specs.declared.scratch.Scratch.{Scratch}
use Rattle.edge_fold.specs.Contributions.{row}
use Rattle.edge_fold.proofs.Walks.{FoldsMore, folded_along}
use Rattle.push_engine.specs.Rows.{rows}
use Rattle.push_engine.specs.inside.Rows.{rows_to}
use Rattle.edge_apply.proofs.Listed.{member_filtered, member_of_range}
use Rattle.push_engine.proofs.RowFolds.{Agree, agree_on_rows, rows_to-append}
use Rattle.push_engine.proofs.SourceLists.{source_within}
use Rattle.push_engine.proofs.Walked.{row_to}

-- a vertex without destinations brings no edge, whether it passes or not
either_brings_none : (es : List Edge) (v : ℕ) (vs : List ℕ) (b : Bool) → destinations_of v es ≡ [] → rows es vs ≡ rows es (cond b (v ∷ vs) vs)
either_brings_none es v vs true none = ap (λ (ds : List (ℕ × ℤ)). row v ds ++ rows es vs) (sym none)
either_brings_none es v vs false none = refl

first_bit : (test : ℕ → Bool) (es : List Edge) (a b : ℕ) (us vs : List ℕ) → b < 2 → (b ≡ 1 → test a ≡ true) → (b ≡ 0 → (test a ≡ false) ⊎ (destinations_of a es ≡ [])) → rows es us ≡ rows es vs
    → rows es (cond (b == 1) (a ∷ us) us) ≡ rows es (cond (test a) (a ∷ vs) vs)
first_bit test es a zero us vs l on off more =
    more ∙ elim (off refl) [
      | inl out ↦ sym (ap (λ (c : Bool). rows es (cond c (a ∷ vs) vs)) out)
      | inr none ↦ either_brings_none es a vs (test a) none
    ]
first_bit test es a (suc zero) us vs l on off more =
    ap (λ (ks : List Edge). row a (destinations_of a es) ++ ks) more ∙ sym (ap (λ (c : Bool). rows es (cond c (a ∷ vs) vs)) (on refl))
first_bit test es a (suc (suc b)) us vs l on off more = absurd (omega arith)

-- the edges from the vertices of set bits are those from all that pass, if the others do not pass or have no destinations
rows_of_bits : (test : ℕ → Bool) (es : List Edge) (k a word : ℕ) → ((i : ℕ) → i < k → bit_at word i ≡ 1 → test (a + i) ≡ true)
    → ((i : ℕ) → i < k → bit_at word i ≡ 0 → (test (a + i) ≡ false) ⊎ (destinations_of (a + i) es ≡ []))
    → rows es (bit_members k a word) ≡ rows es (filter test (range_with_len a k))
unfolding bit_members
rows_of_bits test es zero a word on off = refl
rows_of_bits test es (suc k) a word on off =
    let here : a + 0 ≡ a = omega arith in
    first_bit test es a (word % 2) (bit_members k (a + 1) (word / 2)) (filter test (range_with_len (a + 1) k)) (mod-lt word (zero-lt-suc 1))
    (λ is. subst (λ (u : ℕ). test u ≡ true) here (on 0 (omega arith) (bit_at_lowest word ∙ is)))
    (λ is. subst (λ (u : ℕ). (test u ≡ false) ⊎ (destinations_of u es ≡ [])) here (off 0 (omega arith) (bit_at_lowest word ∙ is)))
    (rows_of_bits test es k (a + 1) (word / 2)
    (λ i l is. let next : a + suc i ≡ a + 1 + i = omega arith in subst (λ (u : ℕ). test u ≡ true) next (on (suc i) (omega arith) (bit_at-suc word i ∙ is)))
    (λ i l is. let next : a + suc i ≡ a + 1 + i = omega arith in subst (λ (u : ℕ). (test u ≡ false) ⊎ (destinations_of u es ≡ [])) next (off (suc i) (omega arith) (bit_at-suc word i ∙ is))))

-- bits of what two words have in common
set_in_first : (a b i : ℕ) → bit_at (bit_and a b) i ≡ 1 → bit_at a i ≡ 1
set_in_first a b i is = omega (arith, bit_at_and a b i, is, bit_at-lt a i)

clear_in_one : (a b i : ℕ) → bit_at (bit_and a b) i ≡ 0 → (bit_at a i ≡ 0) ⊎ (bit_at b i ≡ 0)
clear_in_one a b i is = elim (cases_lt (bit_at a i) 1) [
  | inl low ↦ inl (omega arith)
  | inr high ↦ inr (omega (arith, bit_at_and a b i, is, bit_at-lt b i))
]

-- the sources of a block
pub block_begun : (test : ℕ → Bool) (es : List Edge) (k word some : ℕ) (lists : List (ℕ × List (ℕ × ℤ))) → ((i : ℕ) → i < 64 → (bit_at word i == 1) ≡ test (64 * k + i))
    → ((v : ℕ) → v / 64 ≡ k → neighbours_of (v % 64) lists ≡ destinations_of v es) → ((u : ℕ) → u < 64 → bit_at some u ≡ 0 → neighbours_of u lists ≡ [])
    → rows es (bit_members 64 (64 * k) (bit_and word some)) ≡ rows es (filter test (range_with_len (64 * k) 64))
block_begun test es k word some lists bits at none =
    rows_of_bits test es 64 (64 * k) (bit_and word some)
    (λ i l is. sym (bits i l) ∙ eq-eqb (bit_at word i) 1 (set_in_first word some i is))
    (λ i l is. elim (clear_in_one word some i is) [
      | inl out ↦ inl (sym (bits i l) ∙ ne_eqb (bit_at word i) 1 (λ e. omega (arith, e, out)))
      | inr empty ↦
          let place : (64 * k + i) / 64 ≡ k = omega (arith, l) in
          let rest : (64 * k + i) % 64 ≡ i = omega (arith, l) in
          inr (sym (at (64 * k + i) place) ∙ ap (λ u. neighbours_of u lists) rest ∙ none i l empty)
    ])

-- a block without edges
pub no_rows_from : (test : ℕ → Bool) (es : List Edge) (a n : ℕ) → ((v : ℕ) → a ≤ v → v < a + n → destinations_of v es ≡ []) → [] ≡ rows es (filter test (range_with_len a n))
no_rows_from test es a zero none = refl
no_rows_from test es a (suc n) none =
    no_rows_from test es (a + 1) n (λ v l k. none v (omega (arith, l)) (omega (arith, k)))
    ∙ either_brings_none es a (filter test (range_with_len (a + 1) n)) (test a) (none a (omega arith) (omega arith))

-- numbers in a row, cut in two
row_append : (a m n : ℕ) → range_with_len a (m + n) ≡ range_with_len a m ++ range_with_len (a + m) n
row_append a zero n = let here : a ≡ a + 0 = omega arith in let count : 0 + n ≡ n = omega arith in ap₂ range_with_len here count
row_append a (suc m) n =
    let next : a + 1 + m ≡ a + suc m = omega arith in
    let count : suc m + n ≡ suc (m + n) = omega arith in
    ap (range_with_len a) count ∙ ap (λ (us : List ℕ). a ∷ us) (row_append (a + 1) m n ∙ ap (λ (s : ℕ). range_with_len (a + 1) m ++ range_with_len s n) next)

-- one more block
pub block_folded : (f : ApplyContext) (to test : ℕ → Bool) (es : List Edge) (k : ℕ) (s t u : Scratch)
    → FoldsMore f (rows_to to es (filter test (range_with_len (64 * k) 64))) t u → FoldsMore f (rows_to to es (filter test (range_with_len 0 (64 * k)))) s t
    → FoldsMore f (rows_to to es (filter test (range_with_len 0 (64 * (k + 1))))) s u
block_folded f to test es k s t u more was m steps edges are has =
    let before = range_with_len 0 (64 * k) in
    let here = range_with_len (64 * k) 64 in
    let begins : 64 * k ≡ 0 + 64 * k = omega arith in
    let whole : 64 * k + 64 ≡ 64 * (k + 1) = omega arith in
    folded_along f m steps _ (edges ++ rows_to to es (filter test (range_with_len 0 (64 * (k + 1))))) u
    (append_assoc edges (rows_to to es (filter test before)) (rows_to to es (filter test here))
    ∙ ap (λ (ks : List Edge). edges ++ ks)
    (sym (rows_to-append to es (filter test before) (filter test here))
    ∙ ap (rows_to to es)
    (sym (filter-append test before here)
    ∙ ap (filter test) (ap (λ (a : ℕ). before ++ range_with_len a 64) begins ∙ sym (row_append 0 (64 * k) 64) ∙ ap (range_with_len 0) whole))))
    (more m steps (edges ++ rows_to to es (filter test before)) are (was m steps edges are has))

-- nothing is folded before the first block
pub none_folded : (f : ApplyContext) (s : Scratch) → FoldsMore f [] s s
none_folded f s m steps edges are has = folded_along f m steps edges (edges ++ []) s (sym (append-nil edges)) has

-- a row that is read from a block
pub row_of_block : (f : ApplyContext) (to : ℕ → Bool) (es : List Edge) (u : ℕ) (lists : List (ℕ × List (ℕ × ℤ))) (s t : Scratch) → neighbours_of (u % 64) lists ≡ destinations_of u es
    → FoldsMore f (row_to to u (neighbours_of (u % 64) lists)) s t → FoldsMore f (row_to to u (destinations_of u es)) s t
row_of_block f to es u lists s t at more m steps edges are has =
    folded_along f m steps (edges ++ row_to to u (neighbours_of (u % 64) lists)) (edges ++ row_to to u (destinations_of u es)) t (ap (λ (ds : List (ℕ × ℤ)). edges ++ row_to to u ds) at)
    (more m steps edges are has)

-- those of all vertices that pass, of which the blocks have all that have edges
pub blocks_agree : (g : Digraph) (test : ℕ → Bool) (n : ℕ) → IsDigraph g → g.vertices ≤ n → Agree test (filter test (range_with_len 0 n)) g.edges
blocks_agree g test n is covered =
    agree_on_rows test (filter test (range_with_len 0 n)) g.edges
    (λ u some. let within : u < g.vertices = source_within g.vertices u g.edges is.within some in
    member_filtered test u (range_with_len 0 n) ∙ ap (λ (b : Bool). b && test u) (member_of_range u n (omega (arith, within, covered))))
