-- Entries after one was joined.
use Rattle.std.proofs.Common.{◌≡◌, ℕ, ◌<◌, ◌==◌, ◌||◌, ℤ, pos, Bool, true, false, cond, List, length, set, get_or, refl, sym, ap, ◌∙◌, arith, if◌then◌else◌}
use Rattle.std.proofs.lemmas.Bool.Decides.{nat_tests}
use Rattle.std.proofs.lemmas.Bool.{false≢true}
use Rattle.std.proofs.lemmas.List.{get_or-set_same, get_or-set_other}
use Rattle.apply_options.specs.declared.reduction.Reduction.{Reduction}
use Rattle.algorithm_meaning.specs.Arithmetic.{reduced}

-- a number combined with the entry at a vertex that is marked, else the number
abbrev entry_in : (ℤ → ℤ → ℤ) → (values : List ℤ) (marked : ℕ → Bool) (v : ℕ) → ℤ → ℤ
entry_in combine values marked v h = if marked v then combine h (get_or values v (pos 0)) else h

same : (m n : ℕ) → (m == n) ≡ true → m ≡ n
same m n h = grind (arith, nat_tests)

apart : (m n : ℕ) → (m == n) ≡ false → m ≡ n → ⊥
apart m n h e = absurd (false≢true (sym h ∙ ap (λ k. k == n) e ∙ grind (arith, nat_tests)))

again_at : (r : Reduction) (combine : ℤ → ℤ → ℤ) (values : List ℤ) (marked : ℕ → Bool) (p v : ℕ) (x h n : ℤ) (b : Bool) → (p == v) ≡ b → p < length values → marked p ≡ true
    → combine h x ≡ reduced r (combine h (get_or values p (pos 0))) n
    → entry_in combine (set values p x) marked v h ≡ cond b (reduced r (entry_in combine values marked v h) n) (entry_in combine values marked v h)
again_at r combine values marked p v x h n true t l on e =
    let i = same p v t in
    let here : marked v ≡ true = ap marked (sym i) ∙ on in
    let new : get_or (set values p x) v (pos 0) ≡ x = ap (λ k. get_or (set values p x) k (pos 0)) (sym i) ∙ get_or-set_same values p x (pos 0) l in
    let old_here : get_or values p (pos 0) ≡ get_or values v (pos 0) = ap (λ k. get_or values k (pos 0)) i in
    ap (λ (c : Bool). if c then combine h (get_or (set values p x) v (pos 0)) else h) here ∙ ap (combine h) new ∙ e
    ∙ ap (λ (y : ℤ). reduced r y n) (ap (combine h) old_here ∙ ap (λ (c : Bool). if c then combine h (get_or values v (pos 0)) else h) (sym here))
again_at r combine values marked p v x h n false t l on e =
    ap (λ (y : ℤ). if marked v then combine h y else h) (get_or-set_other values p v x (pos 0) (λ e. apart p v t (sym e)))

-- the entry at a marked vertex
pub joined_again : (r : Reduction) (combine : ℤ → ℤ → ℤ) (values : List ℤ) (marked : ℕ → Bool) (p v : ℕ) (x h n : ℤ) → p < length values → marked p ≡ true
    → combine h x ≡ reduced r (combine h (get_or values p (pos 0))) n
    → entry_in combine (set values p x) marked v h ≡ if p == v then reduced r (entry_in combine values marked v h) n else entry_in combine values marked v h
joined_again r combine values marked p v x h n l on e = again_at r combine values marked p v x h n (p == v) refl l on e

new_at : (r : Reduction) (combine : ℤ → ℤ → ℤ) (o : ℕ → ℤ) (values : List ℤ) (marked after : ℕ → Bool) (p v : ℕ) (x n : ℤ) (b : Bool) → (p == v) ≡ b → p < length values → marked p ≡ false
    → ((u : ℕ) → after u ≡ (p == u) || marked u) → combine (o p) x ≡ reduced r (o p) n
    → entry_in combine (set values p x) after v (o v) ≡ cond b (reduced r (entry_in combine values marked v (o v)) n) (entry_in combine values marked v (o v))
new_at r combine o values marked after p v x n true t l off more e =
    let i = same p v t in
    let on : after v ≡ true = more v ∙ ap (λ (b : Bool). b || marked v) t in
    let new = ap (λ k. get_or (set values p x) k (pos 0)) (sym i) ∙ get_or-set_same values p x (pos 0) l in
    let was = ap (λ (c : Bool). if c then combine (o v) (get_or values v (pos 0)) else o v) (ap marked (sym i) ∙ off) in
    ap (λ (c : Bool). if c then combine (o v) (get_or (set values p x) v (pos 0)) else o v) on
    ∙ ap (combine (o v)) new ∙ ap (λ k. combine (o k) x) (sym i) ∙ e
    ∙ ap (λ k. reduced r (o k) n) i ∙ ap (λ (y : ℤ). reduced r y n) (sym was)
new_at r combine o values marked after p v x n false t l off more e =
    let stays : after v ≡ marked v = more v ∙ ap (λ (b : Bool). b || marked v) t in
    ap (λ (y : ℤ). if after v then combine (o v) y else o v) (get_or-set_other values p v x (pos 0) (λ (w : v ≡ p). apart p v t (sym w)))
    ∙ ap (λ (c : Bool). if c then combine (o v) (get_or values v (pos 0)) else o v) stays

-- the entry at a vertex that was not marked, and is marked after it
pub joined_new : (r : Reduction) (combine : ℤ → ℤ → ℤ) (o : ℕ → ℤ) (values : List ℤ) (marked after : ℕ → Bool) (p v : ℕ) (x n : ℤ) → p < length values → marked p ≡ false
    → ((u : ℕ) → after u ≡ (p == u) || marked u) → combine (o p) x ≡ reduced r (o p) n
    → entry_in combine (set values p x) after v (o v) ≡ if p == v then reduced r (entry_in combine values marked v (o v)) n else entry_in combine values marked v (o v)
joined_new r combine o values marked after p v x n l off more e = new_at r combine o values marked after p v x n (p == v) refl l off more e
