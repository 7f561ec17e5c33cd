-- The changes of ranges of vertices, one range after the other.
use Rattle.std.proofs.Common.{◌≡◌, ◌⊎◌, inl, inr, ℕ, zero, suc, ◌+◌, ◌-◌, ◌<◌, ◌≤◌, ℤ, Bool, true, false, cond, List, [], ◌∷◌, ◌++◌, length, drop, get_or, slice_index_or, refl, sym, ap, ◌∙◌, arith}
use Rattle.std.proofs.lemmas.Bool.Decides.{nat_tests}
use Rattle.std.proofs.lemmas.List.{append-nil, drop-drop, get_or-drop}
use Rattle.std.specs.List.{filter, flat_map, range_with_len}
use Rattle.weighted_edges.specs.Edge.{Edge}
use Rattle.apply_options.specs.declared.reduction.Reduction.{Reduction}
use Rattle.kernels.specs.FunctionStatementTree.{FunctionStatementsTree}
use Rattle.kernels.specs.EdgeApply.{IsGivenBy, after_edges}
use Rattle.kernels.specs.State.{StateValue}
use Rattle.kernels.specs.Value.{entry}
use Rattle.vectors.specs.declared.changes.EntryChange.{EntryChange}
use Rattle.crew.specs.Partition.{AreEnds, end_of}
use Rattle.edge_fold.specs.Changed.{change_at, changed, changed_from}
use Rattle.edge_fold.specs.Gathered.{is_in_range}
use Rattle.edge_fold.specs.Contributions.{all_given, given_on, reduced_at}
use Rattle.edge_fold.proofs.Ascending.{within_test}
use Rattle.edge_fold.proofs.ChangedRows.{changed_from-append, nothing_changed}
use Rattle.edge_fold.proofs.Meaning.{entries_after}
use Rattle.edge_apply.proofs.Listed.{filter_all, last_end}

-- a range that begins
pub range_begun : (old new : ℕ → ℤ) (low : ℕ) → [] ≡ changed_from old new low (low - low)
unfolding changed_from
range_begun old new low = ap (λ n. changed_from old new low n) (let none : 0 ≡ low - low = omega arith in none)

-- the changes of the pieces, one after the other
abbrev pub told_in_piece : (old new : ℕ → ℤ) → (ends : List ℕ) → ℕ → List EntryChange
told_in_piece old new ends k = changed_from old new (end_of ends (k - 1)) (end_of ends k - end_of ends (k - 1))

told_from : (old new : ℕ → ℤ) (ends : List ℕ) (n j s : ℕ) (es : List ℕ) → drop j (0 ∷ ends) ≡ s ∷ es → AreEnds s n es
    → flat_map (told_in_piece old new ends) (range_with_len (j + 1) (length es)) ≡ changed_from old new s (n - s)
told_from old new ends n j s [] at are = range_begun old new s ∙ ap (λ k. changed_from old new s (k - s)) are
told_from old new ends n j s (e ∷ es) at are =
    let all = 0 ∷ ends in
    let start : end_of ends (j + 1 - 1) ≡ s = ap (λ k. get_or all k 0) (let q : j + 1 - 1 ≡ j + 0 = omega arith in q) ∙ sym (get_or-drop j all 0 0) ∙ ap (λ ys. get_or ys 0 0) at in
    let end : end_of ends (j + 1) ≡ e = sym (get_or-drop j all 1 0) ∙ ap (λ ys. get_or ys 1 0) at in
    let next : drop (j + 1) all ≡ e ∷ es = sym (drop-drop 1 j all) ∙ ap (drop 1) at in
    let low = are.0 in
    let high = last_end e n es are.1 in
    let whole : e - s + (n - e) ≡ n - s = omega (arith, low, high) in
    let index : e ≡ s + (e - s) = omega (arith, low) in
    ap (λ cs. cs ++ flat_map (told_in_piece old new ends) (range_with_len (j + 1 + 1) (length es)))
    (ap (λ k. changed_from old new k (end_of ends (j + 1) - k)) start ∙ ap (λ k. changed_from old new s (k - s)) end)
    ∙ ap (λ cs. changed_from old new s (e - s) ++ cs) (told_from old new ends n (j + 1) e es next are.1)
    ∙ ap (λ k. changed_from old new s (e - s) ++ changed_from old new k (n - e)) index
    ∙ sym (changed_from-append old new s (e - s) (n - e))
    ∙ ap (λ k. changed_from old new s k) whole

pub told_in_pieces : (old new : ℕ → ℤ) (ends : List ℕ) (n : ℕ) → AreEnds 0 n ends → flat_map (told_in_piece old new ends) (range_with_len 1 (length ends)) ≡ changed_from old new 0 n
told_in_pieces old new ends n are =
    let none : n - 0 ≡ n = omega arith in
    told_from old new ends n 0 0 ends refl are ∙ ap (λ k. changed_from old new 0 k) none

-- the entries after an apply to the edges of a range
changed_alike : (old a b : ℕ → ℤ) (v n : ℕ) → ((u : ℕ) → v ≤ u → u < v + n → a u ≡ b u) → changed_from old a v n ≡ changed_from old b v n
unfolding changed_from
changed_alike old a b v zero same = refl
changed_alike old a b v (suc n) same =
    ap (λ (y : ℤ). change_at old (λ _. y) v ++ changed_from old a (v + 1) n) (same v (omega arith) (omega arith))
    ∙ ap (λ cs. change_at old b v ++ cs) (changed_alike old a b (v + 1) n (λ u l k. same u (omega (arith, l)) (omega (arith, k))))

outside_test : (low high v : ℕ) → (v < low) ⊎ (high ≤ v) → is_in_range low high v ≡ false
outside_test low high v out = grind (arith, nat_tests)

three_ranges : (old new : ℕ → ℤ) (low high n : ℕ) → low ≤ high → high ≤ n
    → changed_from old new 0 n ≡ changed_from old new 0 low ++ (changed_from old new low (high - low) ++ changed_from old new high (n - high))
three_ranges old new low high n l k =
    let whole : n ≡ low + (high - low + (n - high)) = omega (arith, l, k) in
    let first : 0 + low ≡ low = omega arith in
    let second : low + (high - low) ≡ high = omega (arith, l) in
    ap (λ m. changed_from old new 0 m) whole
    ∙ changed_from-append old new 0 low (high - low + (n - high))
    ∙ ap (λ s. changed_from old new 0 low ++ changed_from old new s (high - low + (n - high))) first
    ∙ ap (λ cs. changed_from old new 0 low ++ cs) (changed_from-append old new low (high - low) (n - high)
    ∙ ap (λ s. changed_from old new low (high - low) ++ changed_from old new s (n - high)) second)

-- where the entries stay but in a range, the changes are those of the range
pub only_range : (old part new : ℕ → ℤ) (low high n : ℕ) → low ≤ high → high ≤ n → ((v : ℕ) → v < n → part v ≡ cond (is_in_range low high v) (new v) (old v))
    → changed n old part ≡ changed_from old new low (high - low)
only_range old part new low high n l k is =
    let out = λ (v : ℕ) (b : v < n) (o : (v < low) ⊎ (high ≤ v)). is v b ∙ ap (λ (c : Bool). cond c (new v) (old v)) (outside_test low high v o) in
    three_ranges old part low high n l k
    ∙ ap (λ cs. cs ++ (changed_from old part low (high - low) ++ changed_from old part high (n - high)))
    (nothing_changed old part 0 low (λ u a b. out u (omega (arith, b, l, k)) (inl (omega (arith, b)))))
    ∙ ap (λ cs. changed_from old part low (high - low) ++ cs) (nothing_changed old part high (n - high) (λ u a b. out u (omega (arith, b, k)) (inr a)))
    ∙ append-nil (changed_from old part low (high - low))
    ∙ changed_alike old part new low (high - low) (λ u a b. is u (omega (arith, b, l, k)) ∙ ap (λ (c : Bool). cond c (new u) (old u)) (within_test low high u a (omega (arith, b, l))))

-- an apply to the edges to the vertices of a range changes what one to all edges changes there
pub changed_between : (n low high x : ℕ) (r : Reduction) (m : StateValue) (steps : List FunctionStatementsTree) (es : List Edge) → IsGivenBy r x steps m.sets m.vectors
    → n ≤ length (slice_index_or m.vectors x []) → low ≤ high → high ≤ n
    → changed n (entry m.vectors x) (entry (after_edges steps m.sets m.vectors (filter (λ e. is_in_range low high e.1) es) m.vectors) x)
    ≡ changed_from (entry m.vectors x) (entry (after_edges steps m.sets m.vectors es m.vectors) x) low (high - low)
changed_between n low high x r m steps es by long l k =
    let old = entry m.vectors x in
    let new = entry (after_edges steps m.sets m.vectors es m.vectors) x in
    let reached = λ (v : ℕ). reduced_at r v (old v) (given_on x (all_given m steps) es) in
    let all = λ (v : ℕ) (b : v < n). entries_after r x v m steps (λ _. true) es by (omega (arith, b, long))
    ∙ ap (λ (fs : List Edge). entry (after_edges steps m.sets m.vectors fs m.vectors) x v) (filter_all (λ _. true) es (λ e. refl)) in
    only_range old (entry (after_edges steps m.sets m.vectors (filter (λ e. is_in_range low high e.1) es) m.vectors) x) new low high n l k
    (λ v b. sym (entries_after r x v m steps (is_in_range low high) es by (omega (arith, b, long))) ∙ ap (λ (y : ℤ). cond (is_in_range low high v) y (old v)) (all v b))

-- an apply to edges that give vertices the same
pub changed_by_alike : (n x : ℕ) (r : Reduction) (m : StateValue) (steps : List FunctionStatementsTree) (es fs : List Edge) → IsGivenBy r x steps m.sets m.vectors
    → n ≤ length (slice_index_or m.vectors x [])
    → ((v : ℕ) (k : ℤ) → reduced_at r v k (given_on x (all_given m steps) es) ≡ reduced_at r v k (given_on x (all_given m steps) fs))
    → changed n (entry m.vectors x) (entry (after_edges steps m.sets m.vectors es m.vectors) x) ≡ changed n (entry m.vectors x) (entry (after_edges steps m.sets m.vectors fs m.vectors) x)
changed_by_alike n x r m steps es fs by long alike =
    let old = entry m.vectors x in
    let new = λ (gs : List Edge). entry (after_edges steps m.sets m.vectors gs m.vectors) x in
    let all = λ (gs : List Edge) (v : ℕ) (b : v < n). entries_after r x v m steps (λ _. true) gs by (omega (arith, b, long))
    ∙ ap (λ (hs : List Edge). new hs v) (filter_all (λ _. true) gs (λ e. refl)) in
    changed_alike old (new es) (new fs) 0 n (λ v a b. let inside : v < n = omega (arith, b) in sym (all es v inside) ∙ alike v (old v) ∙ all fs v inside)
