-- The fault that is told is the least.
use Rattle.std.proofs.Common.{◌≡◌, ◌≢◌, refl, sym, subst, ◌∙◌, ◌⊎◌, inl, inr, ℕ, zero, suc, ◌<◌, ◌≤◌, nat_lt, ◌==◌, arith, Bool, true, false, true≢false, ◌&&◌, ◌||◌, if◌then◌else◌, List, [], ◌∷◌}
use Rattle.std.proofs.Common.{length, None, Some}
use Rattle.std.specs.List.{AllByRecursion, Contains}
use Rattle.std.specs.Prelude.{slice_index_or}
use Rattle.std.proofs.lemmas.Bool.{eqb-true, eqb-false, ltb-true, ltb-false}
use Rattle.std.proofs.lemmas.Option.{none-some, same_Some}
use Rattle.expression_types.specs.declared.fault.Fault.{Fault}
use Rattle.expression_types.specs.Faults.{comes_before, least_of, number_of}
use Rattle.expression_types.specs.Least.{IsAtMost, IsLeast}

-- the order of pairs of numbers, by tests
less : (a p b q : ℕ) (x y z : Bool) → nat_lt a b ≡ x → (a == b) ≡ y → nat_lt p q ≡ z → (x || (y && z)) ≡ true → (a < b) ⊎ ((a ≡ b) × (p ≤ q))
less a p b q true y z at same number is = inl (ltb-true a b at)
less a p b q false true true at same number is = let lt : p < q = ltb-true p q number in inr (eqb-true a b same, omega (arith, lt))
less a p b q false true false at same number is = absurd (true≢false (sym is))
less a p b q false false z at same number is = absurd (true≢false (sym is))

not_less : (a p b q : ℕ) (x y z : Bool) → nat_lt a b ≡ x → (a == b) ≡ y → nat_lt p q ≡ z → (x || (y && z)) ≡ false → (b < a) ⊎ ((b ≡ a) × (q ≤ p))
not_less a p b q true y z at same number is = absurd (true≢false is)
not_less a p b q false true true at same number is = absurd (true≢false is)
not_less a p b q false true false at same number is = inr (sym (eqb-true a b same), ltb-false p q number)
not_less a p b q false false z at same number is =
    let le : b ≤ a = ltb-false a b at in let other : a ≢ b = eqb-false a b same in inl (omega (arith, le, other))

before : (f e : Fault) → comes_before f e ≡ true → IsAtMost f e
before f e is = less f.at (number_of f.rule) e.at (number_of e.rule) (nat_lt f.at e.at) (f.at == e.at) (nat_lt (number_of f.rule) (number_of e.rule)) refl refl refl is

not_before : (f e : Fault) → comes_before f e ≡ false → IsAtMost e f
not_before f e is = not_less f.at (number_of f.rule) e.at (number_of e.rule) (nat_lt f.at e.at) (f.at == e.at) (nat_lt (number_of f.rule) (number_of e.rule)) refl refl refl is

at_most_self : (f : Fault) → IsAtMost f f
at_most_self f = inr (refl, omega arith)

at_most_then : (f g h : Fault) → IsAtMost f g → IsAtMost g h → IsAtMost f h
at_most_then f g h (inl a) (inl b) = inl (omega (arith, a, b))
at_most_then f g h (inl a) (inr b) = let same : g.at ≡ h.at = b.0 in inl (omega (arith, a, same))
at_most_then f g h (inr a) (inl b) = let same : f.at ≡ g.at = a.0 in inl (omega (arith, same, b))
at_most_then f g h (inr a) (inr b) =
    let first : number_of f.rule ≤ number_of g.rule = a.1 in
    let other : number_of g.rule ≤ number_of h.rule = b.1 in
    inr (a.0 ∙ b.0, omega (arith, first, other))

-- one of several
is_first : (f : Fault) (faults : List Fault) → Contains (f ∷ faults) f
is_first f faults = (0, omega arith, refl)

one_more : (e f : Fault) (faults : List Fault) → Contains faults f → Contains (e ∷ faults) f
one_more e f faults there = let within : there.0 < length faults = there.1 in (suc there.0, omega (arith, within), there.2)

one_between : (first e f : Fault) (faults : List Fault) (k : ℕ) → k < length (first ∷ faults) → slice_index_or (first ∷ faults) k f ≡ f → Contains (first ∷ e ∷ faults) f
one_between first e f faults zero within is = (0, omega arith, is)
one_between first e f faults (suc k) within is =
    let less : suc k < suc (length faults) = within in (suc (suc k), omega (arith, less), is)

-- of a fault and others
abbrev LeastOf : Fault → List Fault → Fault → Type 0
LeastOf first faults f = Contains (first ∷ faults) f × IsAtMost f first × AllByRecursion (IsAtMost f) faults

one_step : (first e f : Fault) (faults : List Fault) (b : Bool) → comes_before e first ≡ b → (least_of (Some e) faults ≡ Some f → LeastOf e faults f)
    → (least_of (Some first) faults ≡ Some f → LeastOf first faults f) → least_of (Some (if b then e else first)) faults ≡ Some f → LeastOf first (e ∷ faults) f
one_step first e f faults true test new old is =
    let all = new is in (one_more first f (e ∷ faults) all.0, at_most_then f e first all.1 (before e first test), (all.1, all.2))
one_step first e f faults false test new old is =
    let all = old is in
    (one_between first e f faults all.0.0 all.0.1 all.0.2, all.1, (at_most_then f first e all.1 (not_before e first test), all.2))

least_among : (first : Fault) (faults : List Fault) (f : Fault) → least_of (Some first) faults ≡ Some f → LeastOf first faults f
least_among first [] f is =
    subst (λ f. LeastOf first [] f) (same_Some first f is) (is_first first [], at_most_self first, tt)
least_among first (e ∷ faults) f is = one_step first e f faults (comes_before e first) refl (least_among e faults f) (least_among first faults f) is

pub told_is_least : (faults : List Fault) (f : Fault) → least_of None faults ≡ Some f → IsLeast f faults
told_is_least [] f is = absurd (none-some f is)
told_is_least (e ∷ faults) f is = let all = least_among e faults f is in (all.0, (all.1, all.2))
