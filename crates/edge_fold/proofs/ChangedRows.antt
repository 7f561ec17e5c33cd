-- Changes of vertices in a row.
use Rattle.std.proofs.Common.{◌≡◌, ℕ, zero, suc, ◌+◌, ◌-◌, ◌<◌, ◌≤◌, ℤ, Bool, true, false, cond, List, [], ◌∷◌, ◌++◌, length, get_or, nat_lt, Contains, ◌⊎◌, inl, inr, refl, sym, ap, ◌∙◌, arith}
use Rattle.std.proofs.Common.{append_assoc}
use Rattle.std.proofs.lemmas.List.{get_or_default, append-nil}
use Rattle.std.specs.List.Sorted.{IsNonDecreasing}
use Rattle.std.proofs.lemmas.Int.{ints}
use Rattle.std.proofs.lemmas.Bool.Decides.{nat_tests}
use Rattle.algorithm_meaning.specs.Arithmetic.{int_equal}
use Rattle.vectors.specs.declared.changes.EntryChange.{EntryChange}
use Rattle.edge_fold.specs.Changed.{change_at, changed_from}

below : (k i : ℕ) → nat_lt k i ≡ true → k < i
below k i t = grind (arith, nat_tests)

not_below : (k i : ℕ) → nat_lt k i ≡ false → i ≤ k
not_below k i t = grind (arith, nat_tests)

either : {A B : Type 0} → A ⊎ B → (A → ⊥) → (B → ⊥) → ⊥
either (inl a) f g = f a
either (inr b) f g = g b

next_index : (v n : ℕ) → v + 1 + n ≡ v + suc n
next_index v n = omega arith

zero_first : (n : ℕ) → 0 + n ≡ n
zero_first n = omega arith

zero_last : (n : ℕ) → n ≡ n + 0
zero_last n = omega arith

suc_first : (m n : ℕ) → suc m + n ≡ suc (m + n)
suc_first m n = omega arith

pub changed_from-append : (old new : ℕ → ℤ) (v m n : ℕ) → changed_from old new v (m + n) ≡ changed_from old new v m ++ changed_from old new (v + m) n
unfolding changed_from
changed_from-append old new v zero n = ap (λ k. changed_from old new v k) (zero_first n) ∙ ap (λ k. changed_from old new k n) (zero_last v)
changed_from-append old new v (suc m) n =
    ap (λ k. changed_from old new v k) (suc_first m n)
    ∙ ap (λ cs. change_at old new v ++ cs) (changed_from-append old new (v + 1) m n)
    ∙ sym (append_assoc (change_at old new v) (changed_from old new (v + 1) m) (changed_from old new (v + 1 + m) n))
    ∙ ap (λ k. (change_at old new v ++ changed_from old new (v + 1) m) ++ changed_from old new k n) (next_index v m)

pub equal_itself : (x : ℤ) → int_equal x x ≡ true
equal_itself x = grind (arith, ints, nat_tests)

-- where the entries stay there are no changes
pub nothing_changed : (old new : ℕ → ℤ) (v n : ℕ) → ((u : ℕ) → v ≤ u → u < v + n → new u ≡ old u) → changed_from old new v n ≡ []
unfolding changed_from
nothing_changed old new v zero same = refl
nothing_changed old new v (suc n) same =
    let quiet = ap (λ (y : ℤ). int_equal (old v) y) (same v (omega arith) (omega arith)) ∙ equal_itself (old v) in
    let change : EntryChange = record { vertex = v; number = new v } in
    ap (λ (b : Bool). cond b [] (change ∷ []) ++ changed_from old new (v + 1) n) quiet
    ∙ nothing_changed old new (v + 1) n (λ u a b. same u (omega (arith, a)) (omega (arith, b)))

pub one_change : (old new : ℕ → ℤ) (v : ℕ) → changed_from old new v 1 ≡ change_at old new v ++ []
unfolding changed_from
one_change old new v = refl

-- the next change after a row without any
pub changed_more : (old new : ℕ → ℤ) (next v : ℕ) → next ≤ v → ((u : ℕ) → next ≤ u → u < v → new u ≡ old u)
    → changed_from old new 0 next ++ change_at old new v ≡ changed_from old new 0 (v + 1)
changed_more old new next v l same =
    let m = v - next in
    let index : next + m ≡ v = omega (arith, l) in
    let whole : v + 1 ≡ next + (m + 1) = omega (arith, l) in
    let quiet = nothing_changed old new next m (λ u a b. same u a (omega (arith, l, b))) in
    let last = ap (λ k. changed_from old new k 1) index ∙ one_change old new v ∙ append-nil (change_at old new v) in
    sym (ap (λ k. changed_from old new 0 k) whole
    ∙ changed_from-append old new 0 next (m + 1)
    ∙ ap (λ k. changed_from old new 0 next ++ changed_from old new k (m + 1)) (zero_first next)
    ∙ ap (λ cs. changed_from old new 0 next ++ cs) (changed_from-append old new next m 1 ∙ ap (λ cs. cs ++ changed_from old new (next + m) 1) quiet ∙ last))

-- a row without changes at the end
pub changed_rest : (old new : ℕ → ℤ) (next n : ℕ) → next ≤ n → ((u : ℕ) → next ≤ u → u < n → new u ≡ old u)
    → changed_from old new 0 next ≡ changed_from old new 0 n
changed_rest old new next n l same =
    let m = n - next in
    let whole : n ≡ next + m = omega (arith, l) in
    let quiet = nothing_changed old new next m (λ u a b. same u a (omega (arith, l, b))) in
    sym (ap (λ k. changed_from old new 0 k) whole
    ∙ changed_from-append old new 0 next m
    ∙ ap (λ k. changed_from old new 0 next ++ changed_from old new k m) (zero_first next)
    ∙ ap (λ cs. changed_from old new 0 next ++ cs) quiet
    ∙ append-nil (changed_from old new 0 next))

pub none_yet : (old new : ℕ → ℤ) → changed_from old new 0 0 ≡ []
unfolding changed_from
none_yet old new = refl

not_there : (xs : List ℕ) (i next n u k : ℕ) (b : Bool) → nat_lt k i ≡ b → IsNonDecreasing xs → ((j : ℕ) → j < i → (get_or xs j 0 < next) ⊎ (n ≤ get_or xs j 0))
    → next ≤ u → u < n → (i < length xs → u < get_or xs i 0) → k < length xs → get_or xs k 0 ≡ u → ⊥
not_there xs i next n u k true t up passed a b last l e = either (passed k (below k i t)) (λ q. omega (arith, q, a, e)) (λ q. omega (arith, q, b, e))
not_there xs i next n u k false t up passed a b last l e =
    let p = not_below k i t in
    let most = up i k 0 p l in
    let less = last (omega (arith, p, l)) in
    omega (arith, most, less, e)

-- a number past those that have come, and below the next, is not in the list
pub between_kept : (xs : List ℕ) (i next n u : ℕ) → IsNonDecreasing xs → ((j : ℕ) → j < i → (get_or xs j 0 < next) ⊎ (n ≤ get_or xs j 0))
    → next ≤ u → u < n → (i < length xs → u < get_or xs i 0) → ¬ Contains xs u
between_kept xs i next n u up passed a b last (k, l, e) =
    not_there xs i next n u k (nat_lt k i) refl up passed a b last l (get_or_default xs k 0 u l ∙ e)
