-- Loops, one turn at a time.
use Rattle.std.proofs.Common.{◌≡◌, ℕ, zero, suc, ◌-◌, ◌<◌, ◌≤◌, Bool, true, false, Option, Some, None, sym, ◌∙◌, ap, refl, arith}
use Rattle.algorithm_meaning.specs.declared.outcome.End.{End}
use Rattle.algorithm_meaning.specs.declared.outcome.End.TheVariants.{TurnsOver, Fault}
use Rattle.algorithm_meaning.specs.State.{StateValue}
use Rattle.algorithm_meaning.specs.Stand.{Stand, Live, Over, then_do, with_value, choose}
use Rattle.std.specs.Option.{is_some}
use Rattle.std.specs.Prelude.{IfNone}
use Rattle.std.proofs.lemmas.Bool.{false≢true}
use Rattle.plain_run.specs.inside.Seen.{stand}
use Rattle.algorithm_meaning.specs.Loop.{take_turn, loop}

-- where a turn is left, it is taken
pub turn_is_taken : (n : ℕ) (s : StateValue) (go : StateValue → Stand) → 0 < n → take_turn n s go ≡ go (record s { turns = n - 1 })
turn_is_taken zero s go h = absurd (omega (arith, h))
turn_is_taken (suc n) s go h = let e : n ≡ suc n - 1 = omega arith in ap (λ (m : ℕ). go (record s { turns = m })) e

take_turn-then_do : (n : ℕ) (s : StateValue) (body go : StateValue → Stand) → take_turn n s (λ t. then_do (body t) go) ≡ then_do (take_turn n s body) go
take_turn-then_do zero s body go = refl
take_turn-then_do (suc n) s body go = refl

-- a turn of a loop whose test holds
one_turn : (A : Type 0) (test : A → StateValue → Option Bool) (body : A → StateValue → Stand) (next : A → A) (number k : ℕ) (b : A) (u : StateValue)
    → test b u ≡ Some true → loop test body next number (suc k) b u ≡ then_do (take_turn u.turns u (body b)) (loop test body next number k (next b))
one_turn A test body next number k b u holds =
    ap (λ (o : Option Bool). with_value o number u (λ c. choose c (take_turn u.turns u (λ t. then_do (body b t) (loop test body next number k (next b)))) (Live u))) holds
    ∙ take_turn-then_do u.turns u (body b) (loop test body next number k (next b))

-- what is left of a loop that stands at b and u comes to the loop that began at a and s
pub record Again (A : Type 0) (test : A → StateValue → Option Bool) (body : A → StateValue → Stand) (next : A → A) (number : ℕ) (a : A) (s : StateValue) (b : A) (u : StateValue) : Type 0 where
  pub bound : ℕ
  pub enough : u.turns ≤ bound
  pub same : loop test body next number bound b u ≡ loop test body next number s.turns a s

pub again_first : (A : Type 0) (test : A → StateValue → Option Bool) (body : A → StateValue → Stand) (next : A → A) (number : ℕ) (a : A) (s : StateValue) → Again A test body next number a s a s
again_first A test body next number a s = record { bound = s.turns; enough = omega arith; same = refl }

turned : (A : Type 0) (test : A → StateValue → Option Bool) (body : A → StateValue → Stand) (next : A → A) (number : ℕ) (whole : Stand) (b : A) (u t : StateValue) (k : ℕ)
    → u.turns ≤ k → loop test body next number k b u ≡ whole → test b u ≡ Some true → take_turn u.turns u (body b) ≡ Live t → t.turns < u.turns
    → (m : ℕ) × (t.turns ≤ m) × (loop test body next number m (next b) t ≡ whole)
turned A test body next number whole b u t zero enough same holds ran fewer = absurd (omega (arith, enough, fewer))
turned A test body next number whole b u t (suc k) enough same holds ran fewer = (
  k,
  omega (arith, enough, fewer),
  sym (one_turn A test body next number k b u holds ∙ ap (λ (o : Stand). then_do o (loop test body next number k (next b))) ran) ∙ same,
)

-- after a turn that goes on
pub again_turn : (A : Type 0) (test : A → StateValue → Option Bool) (body : A → StateValue → Stand) (next : A → A) (number : ℕ) (a : A) (s : StateValue) (b : A) (u t : StateValue)
    → Again A test body next number a s b u → test b u ≡ Some true → take_turn u.turns u (body b) ≡ Live t → t.turns < u.turns → Again A test body next number a s (next b) t
again_turn A test body next number a s b u t r holds ran fewer =
    let m = turned A test body next number (loop test body next number s.turns a s) b u t r.bound r.enough r.same holds ran fewer in
    record { bound = m.0; enough = m.1; same = m.2 }

ended : (A : Type 0) (test : A → StateValue → Option Bool) (body : A → StateValue → Stand) (next : A → A) (number : ℕ) (b : A) (u t : StateValue) (end : End) (k : ℕ)
    → u.turns ≤ k → test b u ≡ Some true → take_turn u.turns u (body b) ≡ Over t end → loop test body next number k b u ≡ Over t end
ended A test body next number b u t end zero enough holds ran =
    let none : 0 ≡ u.turns = omega (arith, enough) in
    ap (λ (o : Option Bool). with_value o number u (λ c. choose c (Over u TurnsOver) (Live u))) holds
    ∙ ap (λ (n : ℕ). take_turn n u (body b)) none ∙ ran
ended A test body next number b u t end (suc k) enough holds ran =
    one_turn A test body next number k b u holds ∙ ap (λ (o : Stand). then_do o (loop test body next number k (next b))) ran

-- a turn in which the run ends
pub again_ends : (A : Type 0) (test : A → StateValue → Option Bool) (body : A → StateValue → Stand) (next : A → A) (number : ℕ) (a : A) (s : StateValue) (b : A) (u t : StateValue) (end : End)
    → Again A test body next number a s b u → test b u ≡ Some true → take_turn u.turns u (body b) ≡ Over t end → Over t end ≡ loop test body next number s.turns a s
again_ends A test body next number a s b u t end r holds ran = sym (ended A test body next number b u t end r.bound r.enough holds ran) ∙ r.same

stopped : (A : Type 0) (test : A → StateValue → Option Bool) (body : A → StateValue → Stand) (next : A → A) (number : ℕ) (b : A) (u : StateValue) (k : ℕ)
    → test b u ≡ Some false → loop test body next number k b u ≡ Live u
stopped A test body next number b u zero fails = ap (λ (o : Option Bool). with_value o number u (λ c. choose c (Over u TurnsOver) (Live u))) fails
stopped A test body next number b u (suc k) fails =
    ap (λ (o : Option Bool). with_value o number u (λ c. choose c (take_turn u.turns u (λ t. then_do (body b t) (loop test body next number k (next b)))) (Live u))) fails

-- the test fails
pub again_stops : (A : Type 0) (test : A → StateValue → Option Bool) (body : A → StateValue → Stand) (next : A → A) (number : ℕ) (a : A) (s : StateValue) (b : A) (u : StateValue)
    → Again A test body next number a s b u → test b u ≡ Some false → Live u ≡ loop test body next number s.turns a s
again_stops A test body next number a s b u r fails = sym (stopped A test body next number b u r.bound fails) ∙ r.same

faulted : (A : Type 0) (test : A → StateValue → Option Bool) (body : A → StateValue → Stand) (next : A → A) (number : ℕ) (b : A) (u : StateValue) (k : ℕ)
    → test b u ≡ None → loop test body next number k b u ≡ Over u (Fault 401 number)
faulted A test body next number b u zero none = ap (λ (o : Option Bool). with_value o number u (λ c. choose c (Over u TurnsOver) (Live u))) none
faulted A test body next number b u (suc k) none =
    ap (λ (o : Option Bool). with_value o number u (λ c. choose c (take_turn u.turns u (λ t. then_do (body b t) (loop test body next number k (next b)))) (Live u))) none

-- the test has no value
pub again_faults : (A : Type 0) (test : A → StateValue → Option Bool) (body : A → StateValue → Stand) (next : A → A) (number : ℕ) (a : A) (s : StateValue) (b : A) (u : StateValue)
    → Again A test body next number a s b u → test b u ≡ None → Over u (Fault 401 number) ≡ loop test body next number s.turns a s
again_faults A test body next number a s b u r none = sym (faulted A test body next number b u r.bound none) ∙ r.same

-- the same, told by an end
pub again_over : (A : Type 0) (test : A → StateValue → Option Bool) (body : A → StateValue → Stand) (next : A → A) (number : ℕ) (a : A) (s : StateValue) (b : A) (u t : StateValue) (end : Option End)
    → Again A test body next number a s b u → test b u ≡ Some true → stand end t ≡ take_turn u.turns u (body b) → is_some end ≡ true → stand end t ≡ loop test body next number s.turns a s
again_over A test body next number a s b u t None r holds ran some = absurd (false≢true some)
again_over A test body next number a s b u t (Some end) r holds ran some = again_ends A test body next number a s b u t end r holds (sym ran)

-- the same of a turn that goes on
pub again_goes : (A : Type 0) (test : A → StateValue → Option Bool) (body : A → StateValue → Stand) (next : A → A) (number : ℕ) (a : A) (s : StateValue) (b : A) (u t : StateValue) (end : Option End)
    → Again A test body next number a s b u → test b u ≡ Some true → stand end t ≡ take_turn u.turns u (body b) → is_some end ≡ false → IfNone end (t.turns < u.turns)
    → Again A test body next number a s (next b) t
again_goes A test body next number a s b u t None r holds ran goes fewer = again_turn A test body next number a s b u t r holds (sym ran) fewer
again_goes A test body next number a s b u t (Some end) r holds ran goes fewer = absurd (false≢true (sym goes))
