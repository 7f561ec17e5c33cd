-- Slots in a row.
use Rattle.std.proofs.Common.{◌≡◌, ℕ, suc, ◌+◌, ◌<◌, ◌≤◌, ◌==◌, ℤ, Bool, true, false, cond, List, [], ◌∷◌, ◌++◌, length, set, get_or, take, refl, sym, ap, ◌∙◌, arith, length-append}
use Rattle.std.proofs.lemmas.Bool.Decides.{nat_tests}
use Rattle.std.proofs.lemmas.List.{take_all, length-take-le, get_or-take}
use Rattle.std.proofs.Math.Seq.{take-set-lt}
use Rattle.apply_options.specs.declared.reduction.Reduction.{Reduction}
use Rattle.edge_fold.specs.declared.vector_accumulator.VectorAccumulator.{VectorAccumulator}
use Rattle.edge_fold.specs.Held.{held_with}
use Rattle.edge_fold.specs.VectorAccumulators.{held_in_with, of_slot, reduction_in}
use Rattle.edge_fold.specs.inside.VectorAccumulators.{index_in}

same : (m n : ℕ) → (m == n) ≡ true → m ≡ n
same m n h = grind (arith, nat_tests)

pub same_test : (n : ℕ) → (n == n) ≡ true
same_test n = grind (arith, nat_tests)

-- one more slot that has nothing else changes nothing
alike : {A : Type 0} (b : Bool) (y d : A) → (b ≡ true → y ≡ d) → cond b y d ≡ d
alike true y d e = e refl
alike false y d e = refl

of_slot-append : {A : Type 0} (of : VectorAccumulator → A) (ss : List VectorAccumulator) (s : VectorAccumulator) (x : ℕ) (d : A) → ((s.vector == x) ≡ true → of s ≡ d)
    → of_slot of (ss ++ s ∷ []) x d ≡ of_slot of ss x d
of_slot-append of [] s x d clean = alike (s.vector == x) (of s) d clean
of_slot-append of (t ∷ ts) s x d clean = ap (λ y. cond (t.vector == x) (of t) y) (of_slot-append of ts s x d clean)

-- a slot after the others has it only where there was none
pub of_slot-push : {A : Type 0} (of : VectorAccumulator → A) (ss : List VectorAccumulator) (s : VectorAccumulator) (x : ℕ) (d : A)
    → of_slot of (ss ++ s ∷ []) x d ≡ of_slot of ss x (cond (s.vector == x) (of s) d)
of_slot-push of [] s x d = refl
of_slot-push of (t ∷ ts) s x d = ap (λ y. cond (t.vector == x) (of t) y) (of_slot-push of ts s x d)

there_at : {A : Type 0} (n m : ℕ) (own a b : A) (q : Bool) → cond q 0 (suc m) < suc n → (m < n → a ≡ b) → cond q own a ≡ cond q own b
there_at n m own a b true l more = refl
there_at n m own a b false l more = more (omega (arith, l))

pub of_slot-there : {A : Type 0} (of : VectorAccumulator → A) (ss : List VectorAccumulator) (x : ℕ) (d e : A) → index_in x ss < length ss → of_slot of ss x d ≡ of_slot of ss x e
of_slot-there of [] x d e l = absurd (omega (arith, l))
of_slot-there of (s ∷ ss) x d e l = there_at (length ss) (index_in x ss) (of s) (of_slot of ss x d) (of_slot of ss x e) (s.vector == x) l (of_slot-there of ss x d e)

none_at : {A : Type 0} (n m : ℕ) (own a d : A) (q : Bool) → suc n ≤ cond q 0 (suc m) → (n ≤ m → a ≡ d) → cond q own a ≡ d
none_at n m own a d true l more = absurd (omega (arith, l))
none_at n m own a d false l more = more (omega (arith, l))

pub of_slot-none : {A : Type 0} (of : VectorAccumulator → A) (ss : List VectorAccumulator) (x : ℕ) (d : A) → length ss ≤ index_in x ss → of_slot of ss x d ≡ d
of_slot-none of [] x d l = refl
of_slot-none of (s ∷ ss) x d l = none_at (length ss) (index_in x ss) (of s) (of_slot of ss x d) d (s.vector == x) l (of_slot-none of ss x d)

-- it is the first of its vector, where there was none
none_here : (n m : ℕ) (b : Bool) → suc n ≤ cond b 0 (suc m) → b ≡ false
none_here n m true h = absurd (omega (arith, h))
none_here n m false h = refl

none_after : (n m : ℕ) (b : Bool) → suc n ≤ cond b 0 (suc m) → n ≤ m
none_after n m true h = absurd (omega (arith, h))
none_after n m false h = omega (arith, h)

pub index_in-append : (ss : List VectorAccumulator) (s : VectorAccumulator) (x : ℕ) → s.vector ≡ x → length ss ≤ index_in x ss → length ss ≡ index_in x (ss ++ s ∷ [])
index_in-append [] s x e none = sym (ap (λ (k : ℕ). cond (k == x) 0 1) e ∙ ap (λ (b : Bool). cond b 0 1) (same_test x))
index_in-append (t ∷ ts) s x e none =
    let off = none_here (length ts) (index_in x ts) (t.vector == x) none in
    ap suc (index_in-append ts s x e (none_after (length ts) (index_in x ts) (t.vector == x) none))
    ∙ sym (ap (λ (b : Bool). cond b 0 (suc (index_in x (ts ++ s ∷ [])))) off)

-- what a vector's slot has, after a change at the index of a slot
other_stays : (x k y : ℕ) (b : Bool) → (k == x) ≡ false → (k == y) ≡ true → (x == y) ≡ false
other_stays x k y b off on = grind (arith, nat_tests)

first_changed : {A : Type 0} (f : A → A) (x y : ℕ) (now was rest : A) (b : Bool) → (x == y) ≡ b → ((x == y) ≡ true → now ≡ f was) → ((x == y) ≡ false → (z : A) → f z ≡ z)
    → cond b now rest ≡ f (cond b was rest)
first_changed f x y now was rest true e here others = here e
first_changed f x y now was rest false e here others = sym (others e rest)

later_changed : {A : Type 0} (f : A → A) (x y k : ℕ) (own now was : A) (b : Bool) → (k == x) ≡ false → (k == y) ≡ b → now ≡ f was → ((x == y) ≡ false → (z : A) → f z ≡ z)
    → cond b own now ≡ f (cond b own was)
later_changed f x y k own now was true off e more others = sym (others (other_stays x k y true off e) own)
later_changed f x y k own now was false off e more others = more

-- by cases of whether the first slot is that of the index
set_at : {A : Type 0} (of : VectorAccumulator → A) (f : A → A) (dflt : A) (x y : ℕ) (s : VectorAccumulator) (ss : List VectorAccumulator) (t d : VectorAccumulator) (b : Bool) → (s.vector == x) ≡ b
    → cond b 0 (suc (index_in x ss)) < suc (length ss) → t.vector ≡ x
    → ((x == y) ≡ true → of t ≡ f (of (get_or (s ∷ ss) (cond b 0 (suc (index_in x ss))) d)))
    → ((x == y) ≡ false → (z : A) → f z ≡ z)
    → (index_in x ss < length ss → ((x == y) ≡ true → of t ≡ f (of (get_or ss (index_in x ss) d))) → of_slot of (set ss (index_in x ss) t) y dflt ≡ f (of_slot of ss y dflt))
    → of_slot of (set (s ∷ ss) (cond b 0 (suc (index_in x ss))) t) y dflt ≡ f (of_slot of (s ∷ ss) y dflt)
set_at of f dflt x y s ss t d true is l also here others more =
    let rest = of_slot of ss y dflt in
    ap (λ (k : ℕ). cond (k == y) (of t) rest) also
    ∙ first_changed f x y (of t) (of s) rest (x == y) refl here others
    ∙ ap (λ (k : ℕ). f (cond (k == y) (of s) rest)) (sym (same s.vector x is))
set_at of f dflt x y s ss t d false is l also here others more =
    later_changed f x y s.vector (of s) (of_slot of (set ss (index_in x ss) t) y dflt) (of_slot of ss y dflt) (s.vector == y) is refl (more (omega (arith, l)) here) others

of_slot-set : {A : Type 0} (of : VectorAccumulator → A) (f : A → A) (dflt : A) (x y : ℕ) (ss : List VectorAccumulator) (t d : VectorAccumulator) → index_in x ss < length ss → t.vector ≡ x
    → ((x == y) ≡ true → of t ≡ f (of (get_or ss (index_in x ss) d)))
    → ((x == y) ≡ false → (z : A) → f z ≡ z)
    → of_slot of (set ss (index_in x ss) t) y dflt ≡ f (of_slot of ss y dflt)
of_slot-set of f dflt x y [] t d l also here others = absurd (omega (arith, l))
of_slot-set of f dflt x y (s ∷ ss) t d l also here others =
    set_at of f dflt x y s ss t d (s.vector == x) refl l also here others
    (λ k at. of_slot-set of f dflt x y ss t d k also at others)

-- the slot at the index of a vector is its own
vector_at_first : (s : VectorAccumulator) (ss : List VectorAccumulator) (x : ℕ) (d : VectorAccumulator) (b : Bool) → (s.vector == x) ≡ b → cond b 0 (suc (index_in x ss)) < suc (length ss)
    → (index_in x ss < length ss → (get_or ss (index_in x ss) d).vector ≡ x) → (get_or (s ∷ ss) (cond b 0 (suc (index_in x ss))) d).vector ≡ x
vector_at_first s ss x d true e l more = same s.vector x e
vector_at_first s ss x d false e l more = more (omega (arith, l))

vector_there : (ss : List VectorAccumulator) (x : ℕ) (d : VectorAccumulator) → index_in x ss < length ss → (get_or ss (index_in x ss) d).vector ≡ x
vector_there [] x d l = absurd (omega (arith, l))
vector_there (s ∷ ss) x d l = vector_at_first s ss x d (s.vector == x) refl l (vector_there ss x d)

-- one more slot in use
pub added_index : (old new : List VectorAccumulator) (s : VectorAccumulator) (x k : ℕ) → new ≡ old ++ s ∷ [] → length old ≡ k → s.vector ≡ x → k ≤ index_in x old → k ≡ index_in x new
added_index old new s x k e l own none = sym l ∙ index_in-append old s x own (omega (arith, l, none)) ∙ ap (index_in x) (sym e)

pub added_held : (old new : List VectorAccumulator) (s : VectorAccumulator) → new ≡ old ++ s ∷ [] → ((combine : ℤ → ℤ → ℤ) (v : ℕ) (h : ℤ) → held_with combine s.entries v h ≡ h)
    → (combine : ℤ → ℤ → ℤ) (x v : ℕ) (h : ℤ) → held_in_with combine new x v h ≡ held_in_with combine old x v h
added_held old new s e clean combine x v h =
    ap (λ (ss : List VectorAccumulator). held_in_with combine ss x v h) e ∙ of_slot-append (λ s. held_with combine s.entries v h) old s x h (λ _. clean combine v h)

pub added_reduction : (old new : List VectorAccumulator) (s : VectorAccumulator) (y x : ℕ) (q r : Reduction) → new ≡ old ++ s ∷ [] → s.vector ≡ y → s.reduction ≡ q → (y ≡ x → q ≡ r)
    → reduction_in old x r ≡ r → reduction_in new x r ≡ r
added_reduction old new s y x q r e vector reduction own was =
    ap (λ (ss : List VectorAccumulator). reduction_in ss x r) e
    ∙ of_slot-append (λ s. s.reduction) old s x r (λ at. reduction ∙ own (sym vector ∙ same s.vector x at))
    ∙ was

pub pushed : (ss new : List VectorAccumulator) (k : ℕ) (s : VectorAccumulator) → k ≡ length ss → new ≡ ss ++ s ∷ [] → take (k + 1) new ≡ take k ss ++ s ∷ []
pushed ss new k s e is =
    let long = length-append ss (s ∷ []) in
    ap (take (k + 1)) is ∙ take_all (k + 1) (ss ++ s ∷ []) (omega (arith, e, long)) ∙ ap (λ (ts : List VectorAccumulator). ts ++ s ∷ []) (sym (take_all k ss (omega (arith, e))))

-- what a vector's slot has after a change at the index of a slot, if the first slots are in use
pub of_slot-change : {A : Type 0} (of : VectorAccumulator → A) (f : A → A) (dflt : A) (x y k p : ℕ) (ss : List VectorAccumulator) (t d : VectorAccumulator) → p ≡ index_in x (take k ss) → p < k
    → k ≤ length ss → t.vector ≡ x
    → ((x == y) ≡ true → of t ≡ f (of (get_or ss p d)))
    → ((x == y) ≡ false → (z : A) → f z ≡ z)
    → of_slot of (take k (set ss p t)) y dflt ≡ f (of_slot of (take k ss) y dflt)
of_slot-change of f dflt x y k p ss t d e l few also here others =
    let long = length-take-le k ss few in
    let index = index_in x (take k ss) in
    ap (λ (ts : List VectorAccumulator). of_slot of ts y dflt) (take-set-lt k ss p t l)
    ∙ ap (λ (q : ℕ). of_slot of (set (take k ss) q t) y dflt) e
    ∙ of_slot-set of f dflt x y (take k ss) t d (omega (arith, e, l, long)) also
    (λ at. here at ∙ ap (λ (s : VectorAccumulator). f (of s)) (sym (get_or-take k ss p d l) ∙ ap (λ (q : ℕ). get_or (take k ss) q d) e))
    others

pub first_vector : (ss : List VectorAccumulator) (x k p : ℕ) (d : VectorAccumulator) → p ≡ index_in x (take k ss) → p < k → k ≤ length ss → (get_or ss p d).vector ≡ x
first_vector ss x k p d e l few =
    let long = length-take-le k ss few in
    ap (λ (s : VectorAccumulator). s.vector) (sym (get_or-take k ss p d l) ∙ ap (λ (q : ℕ). get_or (take k ss) q d) e)
    ∙ vector_there (take k ss) x d (omega (arith, e, l, long))

-- what a vector has is what the slot at its index has
slot_at : {A : Type 0} (of : VectorAccumulator → A) (s : VectorAccumulator) (ss : List VectorAccumulator) (x : ℕ) (rest : A) (d : VectorAccumulator) (b : Bool)
    → cond b 0 (suc (index_in x ss)) < suc (length ss)
    → (index_in x ss < length ss → rest ≡ of (get_or ss (index_in x ss) d)) → cond b (of s) rest ≡ of (get_or (s ∷ ss) (cond b 0 (suc (index_in x ss))) d)
slot_at of s ss x rest d true l more = refl
slot_at of s ss x rest d false l more = more (omega (arith, l))

of_slot-index : {A : Type 0} (of : VectorAccumulator → A) (ss : List VectorAccumulator) (x : ℕ) (y : A) (d : VectorAccumulator) → index_in x ss < length ss
    → of_slot of ss x y ≡ of (get_or ss (index_in x ss) d)
of_slot-index of [] x y d l = absurd (omega (arith, l))
of_slot-index of (s ∷ ss) x y d l = slot_at of s ss x (of_slot of ss x y) d (s.vector == x) l (of_slot-index of ss x y d)

pub first_slot : {A : Type 0} (of : VectorAccumulator → A) (ss : List VectorAccumulator) (x k p : ℕ) (y : A) (d : VectorAccumulator) → p ≡ index_in x (take k ss) → p < k → k ≤ length ss
    → of_slot of (take k ss) x y ≡ of (get_or ss p d)
first_slot of ss x k p y d e l few =
    let long = length-take-le k ss few in
    of_slot-index of (take k ss) x y d (omega (arith, e, l, long))
    ∙ ap of (ap (λ (q : ℕ). get_or (take k ss) q d) (sym e) ∙ get_or-take k ss p d l)
