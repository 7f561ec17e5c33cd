-- Ranges of vertices that are gone over by blocks.
use Rattle.std.proofs.Common.{◌≡◌, ℕ, zero, suc, ◌+◌, ◌-◌, ◌*◌, ◌/◌, ◌<◌, ◌≤◌, ◌&&◌, ℤ, Bool, cond, List, [], ◌++◌, bit_and, refl, sym, ap, ap₂, ◌∙◌, arith}
use Rattle.std.proofs.lemmas.List.{append-nil}
use Rattle.weighted_edges.specs.Edge.{Edge}
use Rattle.apply_options.specs.declared.reduction.Reduction.{Reduction}
use Rattle.vectors.specs.declared.changes.EntryChange.{EntryChange}
use Rattle.flat_snapshot.specs.Neighbours.{sources_of}
use Rattle.edge_fold.specs.Changed.{change_at, changed_from}
use Rattle.edge_fold.specs.EntryNumbers.{reduced_over}
use Rattle.edge_fold.specs.Gathered.{is_in_range}
use Rattle.edge_fold.proofs.ChangedRows.{changed_from-append, nothing_changed}
use Rattle.pull_engine.specs.Columns.{passing}
use Rattle.pull_engine.specs.inside.Ranges.{pulled, pulled_to}
use Rattle.pull_engine.specs.inside.Words.{in_word}
use Rattle.pull_engine.proofs.WordBits.{before_is, behind_is, between_is, in_both}

-- those of a range that a test lets through
abbrev pub within : (low high : ℕ) → (ℕ → Bool) → ℕ → Bool
within low high lets v = is_in_range low high v && lets v

-- the changes of entries that agree in a row
agree_between : (a b c d : ℕ → ℤ) → ((v : ℕ) → a v ≡ b v) → (v n : ℕ) → ((u : ℕ) → v ≤ u → u < v + n → c u ≡ d u) → changed_from a c v n ≡ changed_from b d v n
unfolding changed_from
agree_between a b c d old v zero new = refl
agree_between a b c d old v (suc n) new =
    ap (λ (x : ℤ). change_at (λ _. x) (λ _. c v) v ++ changed_from a c (v + 1) n) (old v)
    ∙ ap (λ (x : ℤ). change_at (λ _. b v) (λ _. x) v ++ changed_from a c (v + 1) n) (new v (omega arith) (omega arith))
    ∙ ap (λ cs. change_at b d v ++ cs) (agree_between a b c d old (v + 1) n (λ u f l. new u (omega (arith, f)) (omega (arith, l))))

-- a range that begins
pub blocks_begun : (old new : ℕ → ℤ) (first v : ℕ) → [] ≡ changed_from old new first (64 * (v - v))
unfolding changed_from
blocks_begun old new first v = ap (λ n. changed_from old new first n) (let none : 0 ≡ 64 * (v - v) = omega arith in none)

-- one more block, whose word has the vertices of the range that pass
pub block_more : (r : Reduction) (number : ℕ → ℤ → ℤ) (old : ℕ → ℤ) (from lets : ℕ → Bool) (es : List Edge) (low high first k mask word : ℕ) (found more : List EntryChange) → first ≤ k
    → ((v : ℕ) → v / 64 ≡ k → in_word (64 * k) mask v ≡ is_in_range low high v) → ((v : ℕ) → v / 64 ≡ k → in_word (64 * k) word v ≡ lets v)
    → more ≡ found ++ changed_from old (pulled_to r number old from (in_word (64 * k) (bit_and mask word)) es) (64 * k) 64
    → found ≡ changed_from old (pulled_to r number old from (within low high lets) es) (64 * first) (64 * (k - first))
    → more ≡ changed_from old (pulled_to r number old from (within low high lets) es) (64 * first) (64 * (k + 1 - first))
block_more r number old from lets es low high first k mask word found more order masks words is was =
    let new = pulled_to r number old from (within low high lets) es in
    let index : 64 * k ≡ 64 * first + 64 * (k - first) = omega (arith, order) in
    let whole : 64 * (k - first) + 64 ≡ 64 * (k + 1 - first) = omega (arith, order) in
    is ∙ ap (λ cs. cs ++ changed_from old (pulled_to r number old from (in_word (64 * k) (bit_and mask word)) es) (64 * k) 64) was
    ∙ ap (λ cs. changed_from old new (64 * first) (64 * (k - first)) ++ cs)
    (agree_between old old (pulled_to r number old from (in_word (64 * k) (bit_and mask word)) es) new (λ v. refl) (64 * k) 64
    (λ v a b. let place : v / 64 ≡ k = omega (arith, a, b) in
    ap (λ (c : Bool). cond c (pulled r number old from es v) (old v)) (in_both (64 * k) mask word v ∙ ap₂ (λ x y. x && y) (masks v place) (words v place))))
    ∙ ap (λ u. changed_from old new (64 * first) (64 * (k - first)) ++ changed_from old new u 64) index
    ∙ sym (changed_from-append old new (64 * first) (64 * (k - first)) 64)
    ∙ ap (λ n. changed_from old new (64 * first) n) whole

-- where entries stay before a range and after it
cut_row : (old new : ℕ → ℤ) (first low high total : ℕ) → first ≤ low → low ≤ high → high ≤ first + total → ((v : ℕ) → v < low → new v ≡ old v) → ((v : ℕ) → high ≤ v → new v ≡ old v)
    → changed_from old new first total ≡ changed_from old new low (high - low)
cut_row old new first low high total a b c before behind =
    let parts : total ≡ low - first + (high - low + (first + total - high)) = omega (arith, a, b, c) in
    let begins : first + (low - first) ≡ low = omega (arith, a) in
    let ends : low + (high - low) ≡ high = omega (arith, b) in
    let rest = first + total - high in
    ap (λ n. changed_from old new first n) parts
    ∙ changed_from-append old new first (low - first) (high - low + rest)
    ∙ ap (λ cs. cs ++ changed_from old new (first + (low - first)) (high - low + rest)) (nothing_changed old new first (low - first) (λ v l k. before v (omega (arith, a, k))))
    ∙ ap (λ u. changed_from old new u (high - low + rest)) begins
    ∙ changed_from-append old new low (high - low) rest
    ∙ ap (λ cs. changed_from old new low (high - low) ++ cs) (nothing_changed old new (low + (high - low)) rest (λ v l k. behind v (omega (arith, b, l))))
    ∙ append-nil (changed_from old new low (high - low))

-- all blocks of a range
pub range_whole : (r : Reduction) (number : ℕ → ℤ → ℤ) (lane old : ℕ → ℤ) (from lets to : ℕ → Bool) (es : List Edge) (low high stop : ℕ) (found : List EntryChange) → low ≤ high → high ≤ 64 * stop
    → ((v : ℕ) → lane v ≡ old v) → ((v : ℕ) → low ≤ v → v < high → to v ≡ lets v)
    → found ≡ changed_from lane (pulled_to r number lane from (within low high lets) es) (64 * (low / 64)) (64 * (stop - low / 64))
    → found ≡ changed_from old (pulled_to r number old from to es) low (high - low)
range_whole r number lane old from lets to es low high stop found order covered same agree is =
    let new = pulled_to r number lane from (within low high lets) es in
    let first = 64 * (low / 64) in
    let begins : 64 * (low / 64) ≤ low = omega arith in
    let covers : high ≤ 64 * (low / 64) + 64 * (stop - low / 64) = omega (arith, covered) in
    is
    ∙ cut_row lane new first low high (64 * (stop - low / 64)) begins order covers
    (λ v l. ap (λ (b : Bool). cond (b && lets v) (pulled r number lane from es v) (lane v)) (before_is low high v l))
    (λ v l. ap (λ (b : Bool). cond (b && lets v) (pulled r number lane from es v) (lane v)) (behind_is low high v l))
    ∙ agree_between lane old new (pulled_to r number old from to es) same low (high - low)
    (λ v a b. let inside : v < high = omega (arith, order, b) in
    ap (λ (c : Bool). cond (c && lets v) (pulled r number lane from es v) (lane v)) (between_is low high v a inside)
    ∙ ap (λ (c : Bool). cond c (pulled r number lane from es v) (lane v)) (sym (agree v a inside))
    ∙ ap (λ (z : ℤ). cond (to v) (reduced_over r number z (passing from (sources_of v es))) z) (same v))
