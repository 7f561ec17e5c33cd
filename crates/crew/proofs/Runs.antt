-- Runs of as many vertices each.
use Rattle.std.proofs.Common.{◌≡◌, ℕ, zero, suc, ◌+◌, ◌-◌, ◌*◌, ◌/◌, ◌%◌, ◌<◌, ◌≤◌, ◌==◌, min, Bool, true, false, cond, List, [], ◌∷◌, ◌++◌, length, replicate, refl, sym, ap, ◌∙◌, subst, arith}
use Rattle.std.proofs.Common.{append_assoc, length-append}
use Rattle.std.proofs.Math.Nat.{suc-mul, add-mul, mul-add, mul-one, one-mul, zero-mul, zero-div, zero-mod, mul_comm}
use Rattle.std.proofs.lemmas.Grind.{replicate_next, div_ceil_times}
use Rattle.std.proofs.lemmas.List.{append-nil, length-replicate}
use Rattle.std.proofs.lemmas.Nat.{div-add-mod', mod_below, le-div}
use Rattle.std.proofs.lemmas.Bool.Decides.{nat_tests}
use Rattle.std.specs.Int.{div_ceil}
use Rattle.crew.specs.Boundaries.{dynamic_ends, run_ends_from, rest_of, static_ends}
use Rattle.crew.specs.Partition.{AreEnds}

-- a run before others
one_run_on : (s n r : ℕ) → (s + r) + n * r ≡ s + suc n * r
one_run_on s n r = let e = suc-mul n r in omega (arith, e)

pub ends_of_runs-append : (s n r : ℕ) (more : List ℕ) → run_ends_from s (replicate n r ++ more) ≡ run_ends_from s (replicate n r) ++ run_ends_from (s + n * r) more
ends_of_runs-append s zero r more = ap (λ k. run_ends_from k more) (let e : s ≡ s + 0 * r = omega arith in e)
ends_of_runs-append s (suc n) r more =
    ap (λ es. (s + r) ∷ es) (ends_of_runs-append (s + r) n r more ∙ ap (λ k. run_ends_from (s + r) (replicate n r) ++ run_ends_from k more) (one_run_on s n r))

-- one run more
pub one_run_more : (s n r : ℕ) → run_ends_from s (replicate (n + 1) r) ≡ run_ends_from s (replicate n r) ++ (s + n * r + r) ∷ []
one_run_more s n r = ap (run_ends_from s) (replicate_next n r) ∙ ends_of_runs-append s n r (r ∷ [])

-- runs with a vertex each, before others
pub runs_are_ends : (s n r l : ℕ) (es : List ℕ) → 0 < r → AreEnds (s + n * r) l es → AreEnds s l (run_ends_from s (replicate n r) ++ es)
runs_are_ends s zero r l es some are = let e : s + 0 * r ≡ s = omega arith in subst (λ k. AreEnds k l es) e are
runs_are_ends s (suc n) r l es some are =
    (omega (arith, some), runs_are_ends (s + r) n r l es some (subst (λ k. AreEnds k l es) (sym (one_run_on s n r)) are))

-- what is left over
rest_is_end : (s n l : ℕ) (b : Bool) → (n == 0) ≡ b → s + n ≡ l → AreEnds s l (run_ends_from s (cond b [] (n ∷ [])))
rest_is_end s n l true none whole = grind (arith, nat_tests)
rest_is_end s n l false some whole = (grind (arith, nat_tests), whole)

pub rest_are_ends : (s n l : ℕ) → s + n ≡ l → AreEnds s l (run_ends_from s (rest_of n))
rest_are_ends s n l whole = rest_is_end s n l (n == 0) refl whole

-- runs of two lengths, of which the first are one longer
one_longer : (a r : ℕ) → a * (r + 1) ≡ a * r + a
one_longer a r = let e = mul-add a r 1 in let f = mul-one a in omega (arith, e, f)

two_lengths : (p a r c : ℕ) → a ≤ p → r * p + a ≡ c → 0 + a * (r + 1) + (p - a) * r ≡ c
two_lengths p a r c few whole =
    let e = add-mul a (p - a) r in
    let f = one_longer a r in
    let g : a + (p - a) ≡ p = omega (arith, few) in
    let h : (a + (p - a)) * r ≡ r * p = ap (λ k. k * r) g ∙ mul_comm p r in
    omega (arith, e, f, h, whole)

-- one piece for each worker
shared_ends : (pieces count : ℕ) → List ℕ
shared_ends pieces count = run_ends_from 0 (replicate (count % pieces) (count / pieces + 1) ++ replicate (pieces - count % pieces) (count / pieces))

some_each : (p c : ℕ) → 0 < p → p ≤ c → 0 < c / p
some_each p c some few = le-div 1 c p some (let e = one-mul p in omega (arith, e, few))

shared_are_ends : (p c : ℕ) → 0 < p → p ≤ c → AreEnds 0 c (shared_ends p c)
unfolding shared_ends
shared_are_ends p c some few =
    let a = c % p in
    let r = c / p in
    let middle = 0 + a * (r + 1) in
    let below : a < p = mod_below c p some in
    let whole : middle + (p - a) * r ≡ c = two_lengths p a r c (omega (arith, below)) (div-add-mod' c p) in
    let second : AreEnds middle c (run_ends_from middle (replicate (p - a) r)) =
    subst (AreEnds middle c) (append-nil (run_ends_from middle (replicate (p - a) r))) (runs_are_ends middle (p - a) r c [] (some_each p c some few) whole) in
    subst (AreEnds 0 c) (sym (ends_of_runs-append 0 a (r + 1) (replicate (p - a) r)))
    (runs_are_ends 0 a (r + 1) c (run_ends_from middle (replicate (p - a) r)) (omega arith) second)

shared_none : shared_ends 0 0 ≡ []
unfolding shared_ends
shared_none = refl

static_is : (w c : ℕ) → static_ends w c ≡ shared_ends (min w c) c
unfolding shared_ends
static_is w c = refl

pub static_none : (w : ℕ) → static_ends w 0 ≡ []
static_none w = static_is w 0 ∙ ap (λ p. shared_ends p 0) (let e : min w 0 ≡ 0 = omega arith in e) ∙ shared_none

pub static_are_ends : (w c : ℕ) → 0 < w → AreEnds 0 c (static_ends w c)
static_are_ends w zero some = subst (AreEnds 0 0) (sym (static_none w)) refl
static_are_ends w (suc c) some = subst (AreEnds 0 (suc c)) (sym (static_is w (suc c))) (shared_are_ends (min w (suc c)) (suc c) (omega (arith, some)) (omega arith))

-- how many pieces
length-ends_from : (s : ℕ) (ns : List ℕ) → length (run_ends_from s ns) ≡ length ns
length-ends_from s [] = refl
length-ends_from s (n ∷ ns) = ap suc (length-ends_from (s + n) ns)

length-shared_ends : (p c : ℕ) → 0 < p → length (shared_ends p c) ≡ p
unfolding shared_ends
length-shared_ends p c some =
    let a = c % p in
    let r = c / p in
    let below : a < p = mod_below c p some in
    length-ends_from 0 (replicate a (r + 1) ++ replicate (p - a) r)
    ∙ length-append (replicate a (r + 1)) (replicate (p - a) r)
    ∙ ap (λ n. n + length (replicate (p - a) r)) (length-replicate a (r + 1))
    ∙ ap (λ n. a + n) (length-replicate (p - a) r)
    ∙ (let e : a + (p - a) ≡ p = omega (arith, below) in e)

pub length-static_ends : (w c : ℕ) → 0 < w → length (static_ends w c) ≡ min w c
length-static_ends w zero some = ap length (static_none w) ∙ (let e : 0 ≡ min w 0 = omega arith in e)
length-static_ends w (suc c) some = ap length (static_is w (suc c)) ∙ length-shared_ends (min w (suc c)) (suc c) (omega (arith, some))

-- runs of one length
equal_ends : (run count : ℕ) → List ℕ
equal_ends run count = run_ends_from 0 (replicate (count / run) run ++ rest_of (count % run))

equal_are_ends : (r c : ℕ) → 0 < r → AreEnds 0 c (equal_ends r c)
unfolding equal_ends
equal_are_ends r c some =
    let q = c / r in
    let last = 0 + q * r in
    let whole : last + c % r ≡ c = (let e = div-add-mod' c r in omega (arith, e)) in
    subst (AreEnds 0 c) (sym (ends_of_runs-append 0 q r (rest_of (c % r))))
    (runs_are_ends 0 q r c (run_ends_from last (rest_of (c % r))) some (rest_are_ends last (c % r) c whole))

equal_none : equal_ends 0 0 ≡ []
unfolding equal_ends
equal_none = refl

dynamic_is : (w c : ℕ) → dynamic_ends w c ≡ equal_ends (div_ceil c (4 * w)) c
unfolding equal_ends
dynamic_is w c = refl

none_for_each : (w : ℕ) → div_ceil 0 w ≡ 0
none_for_each w = let a = zero-div w in let b = zero-mod w in omega (arith, a, b)

pub dynamic_none : (w : ℕ) → dynamic_ends w 0 ≡ []
dynamic_none w = dynamic_is w 0 ∙ ap (λ r. equal_ends r 0) (none_for_each (4 * w)) ∙ equal_none

positive_factor : (a b c : ℕ) → 0 < c → c ≤ a * b → 0 < a
positive_factor zero b c some fits = absurd (let e = zero-mul b in omega (arith, some, fits, e))
positive_factor (suc a) b c some fits = omega arith

pub part_is_some : (c n : ℕ) → 0 < c → 0 < n → 0 < div_ceil c n
part_is_some c n some also = positive_factor (div_ceil c n) n c some (div_ceil_times c n also).0

pub dynamic_are_ends : (w c : ℕ) → 0 < w → AreEnds 0 c (dynamic_ends w c)
dynamic_are_ends w zero some = subst (AreEnds 0 0) (sym (dynamic_none w)) refl
dynamic_are_ends w (suc c) some =
    subst (AreEnds 0 (suc c)) (sym (dynamic_is w (suc c))) (equal_are_ends (div_ceil (suc c) (4 * w)) (suc c) (part_is_some (suc c) (4 * w) (omega arith) (omega (arith, some))))

-- the same in parts, after others
parts_after : (before first second both part after : List ℕ) → part ≡ before ++ first → after ≡ part ++ second → first ++ second ≡ both → after ≡ before ++ both
parts_after before first second both part after d e f = e ∙ ap (λ es. es ++ second) d ∙ append_assoc before first second ∙ ap (λ es. before ++ es) f

shared_is : (p c : ℕ) → run_ends_from 0 (replicate (c % p) (c / p + 1) ++ replicate (p - c % p) (c / p)) ≡ shared_ends p c
unfolding shared_ends
shared_is p c = refl

pub static_in_parts : (w c p middle : ℕ) (before part after : List ℕ) → p ≡ min w c → middle ≡ 0 + c % p * (c / p + 1)
    → part ≡ before ++ run_ends_from 0 (replicate (c % p) (c / p + 1)) → after ≡ part ++ run_ends_from middle (replicate (p - c % p) (c / p)) → after ≡ before ++ static_ends w c
static_in_parts w c p middle before part after least at d e =
    let a = c % p in
    let r = c / p in
    parts_after before (run_ends_from 0 (replicate a (r + 1))) (run_ends_from middle (replicate (p - a) r)) (static_ends w c) part after d e
    (ap (λ k. run_ends_from 0 (replicate a (r + 1)) ++ run_ends_from k (replicate (p - a) r)) at
    ∙ sym (ends_of_runs-append 0 a (r + 1) (replicate (p - a) r))
    ∙ shared_is p c
    ∙ ap (λ k. shared_ends k c) least
    ∙ sym (static_is w c))

equal_is : (r c : ℕ) → run_ends_from 0 (replicate (c / r) r ++ rest_of (c % r)) ≡ equal_ends r c
unfolding equal_ends
equal_is r c = refl

pub dynamic_in_parts : (w c r last : ℕ) (before part after : List ℕ) → r ≡ div_ceil c (4 * w) → last ≡ 0 + c / r * r
    → part ≡ before ++ run_ends_from 0 (replicate (c / r) r) → after ≡ part ++ run_ends_from last (rest_of (c % r)) → after ≡ before ++ dynamic_ends w c
dynamic_in_parts w c r last before part after run at d e =
    parts_after before (run_ends_from 0 (replicate (c / r) r)) (run_ends_from last (rest_of (c % r))) (dynamic_ends w c) part after d e
    (ap (λ k. run_ends_from 0 (replicate (c / r) r) ++ run_ends_from k (rest_of (c % r))) at
    ∙ sym (ends_of_runs-append 0 (c / r) r (rest_of (c % r)))
    ∙ equal_is r c
    ∙ ap (λ k. equal_ends k c) run
    ∙ sym (dynamic_is w c))
