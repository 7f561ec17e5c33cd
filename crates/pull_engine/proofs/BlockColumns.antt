-- The edges into the vertices of blocks that pass.
use Rattle.std.proofs.Common.{◌≡◌, ◌⊎◌, inl, inr, ℕ, zero, suc, ◌+◌, ◌-◌, ◌*◌, ◌/◌, ◌%◌, ◌<◌, ◌≤◌, ◌==◌, ◌&&◌, ℤ, Bool, true, false, cond, List, [], ◌∷◌, ◌++◌, bit_and, refl, sym, ap, ap₂, ◌∙◌, subst}
use Rattle.std.proofs.Common.{append_assoc, arith, mod-lt, zero-lt-suc}
use Rattle.std.specs.Int.{bit_at}
use Rattle.std.specs.List.{filter, range_with_len}
use Rattle.std.proofs.lemmas.List.{append-nil}
use Rattle.std.proofs.lemmas.List.Elements.{filter-append}
use Rattle.std.proofs.lemmas.Nat.Bits.{bit_at_lowest, bit_at-suc}
use Rattle.weighted_edges.specs.Edge.{Edge}
use Rattle.pages.specs.Vertices.{neighbours_of}
use Rattle.vertex_sets.specs.inside.Words.{bit_members}
use Rattle.flat_snapshot.specs.Neighbours.{sources_of}
use Rattle.edge_fold.specs.declared.apply_context.ApplyContext.{ApplyContext}
use Rattle.edge_fold.specs.declared.scratch.Scratch.{Scratch}
use Rattle.edge_fold.specs.Contributions.{column}
use Rattle.edge_fold.specs.Gathered.{is_in_range}
use Rattle.edge_fold.proofs.Walks.{FoldsMore, folded_along}
use Rattle.pull_engine.specs.Columns.{columns, passing}
use Rattle.pull_engine.specs.inside.Words.{in_word}
use Rattle.pull_engine.proofs.ColumnFolds.{columns-append}
use Rattle.pull_engine.proofs.RangeCuts.{within}
use Rattle.pull_engine.proofs.WordBits.{before_is, behind_is, between_is, bit_of_block, clear_in_one, clear_test, in_both, set_in_first, set_test}

-- a vertex without sources brings no edge, whether it passes or not
either_brings_none : (from : ℕ → Bool) (es : List Edge) (v : ℕ) (vs : List ℕ) (b : Bool) → sources_of v es ≡ [] → columns from es vs ≡ columns from es (cond b (v ∷ vs) vs)
either_brings_none from es v vs true none = ap (λ (ss : List (ℕ × ℤ)). column v (passing from ss) ++ columns from es vs) (sym none)
either_brings_none from es v vs false none = refl

first_bit : (from p : ℕ → Bool) (es : List Edge) (a b : ℕ) (us vs : List ℕ) → b < 2 → (b ≡ 1 → p a ≡ true) → (b ≡ 0 → (p a ≡ false) ⊎ (sources_of a es ≡ [])) → columns from es us ≡ columns from es vs
    → columns from es (cond (b == 1) (a ∷ us) us) ≡ columns from es (cond (p a) (a ∷ vs) vs)
first_bit from p es a zero us vs l on off more =
    more ∙ elim (off refl) [
      | inl out ↦ sym (ap (λ (c : Bool). columns from es (cond c (a ∷ vs) vs)) out)
      | inr none ↦ either_brings_none from es a vs (p a) none
    ]
first_bit from p es a (suc zero) us vs l on off more =
    ap (λ (ks : List Edge). column a (passing from (sources_of a es)) ++ ks) more ∙ sym (ap (λ (c : Bool). columns from es (cond c (a ∷ vs) vs)) (on refl))
first_bit from p es a (suc (suc b)) us vs l on off more = absurd (omega arith)

-- the edges into the vertices of set bits are those into all that pass, where the others do not pass or have no sources
columns_of_word : (from p : ℕ → Bool) (es : List Edge) (k a word : ℕ) → ((i : ℕ) → i < k → bit_at word i ≡ 1 → p (a + i) ≡ true)
    → ((i : ℕ) → i < k → bit_at word i ≡ 0 → (p (a + i) ≡ false) ⊎ (sources_of (a + i) es ≡ []))
    → columns from es (bit_members k a word) ≡ columns from es (filter p (range_with_len a k))
unfolding bit_members
columns_of_word from p es zero a word on off = refl
columns_of_word from p es (suc k) a word on off =
    let here : a + 0 ≡ a = omega arith in
    first_bit from p es a (word % 2) (bit_members k (a + 1) (word / 2)) (filter p (range_with_len (a + 1) k)) (mod-lt word (zero-lt-suc 1))
    (λ is. subst (λ (u : ℕ). p u ≡ true) here (on 0 (omega arith) (bit_at_lowest word ∙ is)))
    (λ is. subst (λ (u : ℕ). (p u ≡ false) ⊎ (sources_of u es ≡ [])) here (off 0 (omega arith) (bit_at_lowest word ∙ is)))
    (columns_of_word from p es k (a + 1) (word / 2)
    (λ i l is. let next : a + suc i ≡ a + 1 + i = omega arith in subst (λ (u : ℕ). p u ≡ true) next (on (suc i) (omega arith) (bit_at-suc word i ∙ is)))
    (λ i l is. let next : a + suc i ≡ a + 1 + i = omega arith in subst (λ (u : ℕ). (p u ≡ false) ⊎ (sources_of u es ≡ [])) next (off (suc i) (omega arith) (bit_at-suc word i ∙ is))))

-- those of a block
pub columns_begun : (from : ℕ → Bool) (es : List Edge) (k word some : ℕ) (lists : List (ℕ × List (ℕ × ℤ)))
    → ((v : ℕ) → v / 64 ≡ k → neighbours_of (v % 64) lists ≡ sources_of v es) → ((u : ℕ) → u < 64 → bit_at some u ≡ 0 → neighbours_of u lists ≡ [])
    → columns from es (bit_members 64 (64 * k) (bit_and word some)) ≡ columns from es (filter (in_word (64 * k) word) (range_with_len (64 * k) 64))
columns_begun from es k word some lists at none =
    columns_of_word from (in_word (64 * k) word) es 64 (64 * k) (bit_and word some)
    (λ i l is. bit_of_block k word i ∙ set_test word i (set_in_first word some i is))
    (λ i l is. elim (clear_in_one word some i is) [
      | inl out ↦ inl (bit_of_block k word i ∙ clear_test word i out)
      | inr empty ↦
          let place : (64 * k + i) / 64 ≡ k = omega (arith, l) in
          let rest : (64 * k + i) % 64 ≡ i = omega (arith, l) in
          inr (sym (at (64 * k + i) place) ∙ ap (λ u. neighbours_of u lists) rest ∙ none i l empty)
    ])

-- a block without sources
pub no_columns : (from p : ℕ → Bool) (es : List Edge) (a n : ℕ) → ((v : ℕ) → a ≤ v → v < a + n → sources_of v es ≡ []) → [] ≡ columns from es (filter p (range_with_len a n))
no_columns from p es a zero none = refl
no_columns from p es a (suc n) none =
    no_columns from p es (a + 1) n (λ v l k. none v (omega (arith, l)) (omega (arith, k)))
    ∙ either_brings_none from es a (filter p (range_with_len (a + 1) n)) (p a) (none a (omega arith) (omega arith))

-- rows of numbers
row_append : (a m n : ℕ) → range_with_len a (m + n) ≡ range_with_len a m ++ range_with_len (a + m) n
row_append a zero n = let here : a ≡ a + 0 = omega arith in let count : 0 + n ≡ n = omega arith in ap₂ range_with_len here count
row_append a (suc m) n =
    let next : a + 1 + m ≡ a + suc m = omega arith in
    let count : suc m + n ≡ suc (m + n) = omega arith in
    ap (range_with_len a) count ∙ ap (λ (us : List ℕ). a ∷ us) (row_append (a + 1) m n ∙ ap (λ (s : ℕ). range_with_len (a + 1) m ++ range_with_len s n) next)

-- tests that agree on a row
pub rows_agree : (p q : ℕ → Bool) (a n : ℕ) → ((v : ℕ) → a ≤ v → v < a + n → p v ≡ q v) → filter p (range_with_len a n) ≡ filter q (range_with_len a n)
rows_agree p q a zero same = refl
rows_agree p q a (suc n) same =
    ap (λ (c : Bool). cond c (a ∷ filter p (range_with_len (a + 1) n)) (filter p (range_with_len (a + 1) n))) (same a (omega arith) (omega arith))
    ∙ ap (λ (us : List ℕ). cond (q a) (a ∷ us) us) (rows_agree p q (a + 1) n (λ v l k. same v (omega (arith, l)) (omega (arith, k))))

none_pass : (p : ℕ → Bool) (a n : ℕ) → ((v : ℕ) → a ≤ v → v < a + n → p v ≡ false) → filter p (range_with_len a n) ≡ []
none_pass p a zero none = refl
none_pass p a (suc n) none =
    ap (λ (c : Bool). cond c (a ∷ filter p (range_with_len (a + 1) n)) (filter p (range_with_len (a + 1) n))) (none a (omega arith) (omega arith))
    ∙ none_pass p (a + 1) n (λ v l k. none v (omega (arith, l)) (omega (arith, k)))

-- a range in whole blocks
pub cut_range : (lets : ℕ → Bool) (first low high total : ℕ) → first ≤ low → low ≤ high → high ≤ first + total
    → filter (within low high lets) (range_with_len first total) ≡ filter lets (range_with_len low (high - low))
cut_range lets first low high total a b c =
    let test = within low high lets in
    let parts : total ≡ low - first + (high - low + (first + total - high)) = omega (arith, a, b, c) in
    let begins : first + (low - first) ≡ low = omega (arith, a) in
    let rest = first + total - high in
    ap (λ (n : ℕ). filter test (range_with_len first n)) parts
    ∙ ap (filter test) (row_append first (low - first) (high - low + rest))
    ∙ filter-append test (range_with_len first (low - first)) (range_with_len (first + (low - first)) (high - low + rest))
    ∙ ap (λ (us : List ℕ). us ++ filter test (range_with_len (first + (low - first)) (high - low + rest)))
    (none_pass test first (low - first) (λ v l k. ap (λ (t : Bool). t && lets v) (before_is low high v (omega (arith, a, k)))))
    ∙ ap (λ (s : ℕ). filter test (range_with_len s (high - low + rest))) begins
    ∙ ap (filter test) (row_append low (high - low) rest)
    ∙ filter-append test (range_with_len low (high - low)) (range_with_len (low + (high - low)) rest)
    ∙ ap (λ (us : List ℕ). filter test (range_with_len low (high - low)) ++ us)
    (none_pass test (low + (high - low)) rest (λ v l k. ap (λ (t : Bool). t && lets v) (behind_is low high v (omega (arith, b, l)))))
    ∙ append-nil (filter test (range_with_len low (high - low)))
    ∙ rows_agree test lets low (high - low) (λ v l k. ap (λ (t : Bool). t && lets v) (between_is low high v l (omega (arith, b, k))))

-- one more block of a range
pub block_folded : (f : ApplyContext) (from lets : ℕ → Bool) (es : List Edge) (low high first k mask word : ℕ) (s t u : Scratch) → first ≤ k
    → ((v : ℕ) → v / 64 ≡ k → in_word (64 * k) mask v ≡ is_in_range low high v) → ((v : ℕ) → v / 64 ≡ k → in_word (64 * k) word v ≡ lets v)
    → FoldsMore f (columns from es (filter (in_word (64 * k) (bit_and mask word)) (range_with_len (64 * k) 64))) t u
    → FoldsMore f (columns from es (filter (within low high lets) (range_with_len (64 * first) (64 * (k - first))))) s t
    → FoldsMore f (columns from es (filter (within low high lets) (range_with_len (64 * first) (64 * (k + 1 - first))))) s u
block_folded f from lets es low high first k mask word s t u order masks words more was m steps edges are has =
    let test = within low high lets in
    let index : 64 * k ≡ 64 * first + 64 * (k - first) = omega (arith, order) in
    let whole : 64 * (k - first) + 64 ≡ 64 * (k + 1 - first) = omega (arith, order) in
    let before = range_with_len (64 * first) (64 * (k - first)) in
    let same =
    rows_agree (in_word (64 * k) (bit_and mask word)) test (64 * k) 64
    (λ v a b. let place : v / 64 ≡ k = omega (arith, a, b) in in_both (64 * k) mask word v ∙ ap₂ (λ x y. x && y) (masks v place) (words v place))
    ∙ ap (λ (a : ℕ). filter test (range_with_len a 64)) index in
    folded_along f m steps _ (edges ++ columns from es (filter test (range_with_len (64 * first) (64 * (k + 1 - first))))) u
    (append_assoc edges (columns from es (filter test before)) (columns from es (filter (in_word (64 * k) (bit_and mask word)) (range_with_len (64 * k) 64)))
    ∙ ap (λ (ks : List Edge). edges ++ ks)
    (ap (λ (us : List ℕ). columns from es (filter test before) ++ columns from es us) same
    ∙ sym (columns-append from es (filter test before) (filter test (range_with_len (64 * first + 64 * (k - first)) 64)))
    ∙ ap (columns from es) (sym (filter-append test before (range_with_len (64 * first + 64 * (k - first)) 64)) ∙ ap (filter test) (sym (row_append (64 * first) (64 * (k - first)) 64)))
    ∙ ap (λ (n : ℕ). columns from es (filter test (range_with_len (64 * first) n))) whole))
    (more m steps (edges ++ columns from es (filter test before)) are (was m steps edges are has))

-- a range that begins
pub range_begun : (f : ApplyContext) (from p : ℕ → Bool) (es : List Edge) (first v : ℕ) (s : Scratch) → FoldsMore f (columns from es (filter p (range_with_len first (64 * (v - v))))) s s
range_begun f from p es first v s m steps edges are has =
    let none : 0 ≡ 64 * (v - v) = omega arith in
    folded_along f m steps edges (edges ++ columns from es (filter p (range_with_len first (64 * (v - v))))) s
    (sym (append-nil edges) ∙ ap (λ (n : ℕ). edges ++ columns from es (filter p (range_with_len first n))) none) has

-- the edges into one destination
pub one_destination : (f : ApplyContext) (from : ℕ → Bool) (edges : List Edge) (v : ℕ) (s t : Scratch) → FoldsMore f (column v (passing from (sources_of v edges))) s t
    → FoldsMore f (columns from edges (v ∷ [])) s t
one_destination f from edges v s t more m steps es are has =
    let here = column v (passing from (sources_of v edges)) in
    folded_along f m steps (es ++ here) (es ++ columns from edges (v ∷ [])) t (ap (λ ks. es ++ ks) (sym (append-nil here))) (more m steps es are has)
