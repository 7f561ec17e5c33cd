-- Open tickets: which version each holds, and how many hold a version.
use Rattle.std.proofs.Common.{◌≡◌, ℕ, ◌+◌, ◌≤◌, ◌==◌, true, false, not, if◌then◌else◌, Some, None, is_some, List, [], ◌∷◌, ◌++◌, length, inl, inr, refl, sym, ap, ◌∙◌, zero-add, arith}
use Rattle.std.proofs.lemmas.Bool.{cases_Bool, eqb-true, eqb-false, eq-eqb, ne_eqb}
use Rattle.std.specs.List.{filter, list_any}
use Rattle.version_list.specs.Machine.{OpenTicket, ticket_version}
use Rattle.version_list.specs.inside.Held.{holder_count, AreDistinct}

-- the tickets but the one of this number
abbrev pub others : ℕ → List OpenTicket → List OpenTicket
others number tickets = filter (λ t. not (t.number == number)) tickets

pub is_open_is : (ts : List OpenTicket) (number : ℕ) → list_any (λ t. t.number == number) ts ≡ is_some (ticket_version ts number)
is_open_is [] number = refl
is_open_is (t ∷ ts) number = elim (cases_Bool (t.number == number)) [
  | inl here ↦ rw (here) refl
  | inr other ↦ rw (other) (is_open_is ts number)
]

pub is_held_is : (ts : List OpenTicket) (k : ℕ) → list_any (λ t. t.version == k) ts ≡ not (holder_count ts k == 0)
is_held_is [] k = refl
is_held_is (t ∷ ts) k = elim (cases_Bool (t.version == k)) [
  | inl here ↦ rw (here) (sym (ap not (ne_eqb (1 + holder_count ts k) 0 (λ e. absurd (omega arith)))))
  | inr other ↦ rw (other, zero-add (holder_count ts k)) (is_held_is ts k)
]

-- a ticket that is not the first
later : (t : OpenTicket) (ts : List OpenTicket) (number : ℕ) → ticket_version (t ∷ ts) number ≡ None → (t.number == number ≡ false) × (ticket_version ts number ≡ None)
later t ts number none = elim (cases_Bool (t.number == number)) [
  | inl here ↦ let is : Some t.version ≡ None = rw (here) at none in cc
  | inr other ↦ (other, rw (other) at none)
]

-- one more ticket, whose number is new
pub ticket_version-push : (ts : List OpenTicket) (x : OpenTicket) → ticket_version ts x.number ≡ None → (q : ℕ)
    → ticket_version (ts ++ x ∷ []) q ≡ (if x.number == q then Some x.version else ticket_version ts q)
ticket_version-push [] x none q = refl
ticket_version-push (t ∷ ts) x none q =
    let parts = later t ts x.number none in
    elim (cases_Bool (t.number == q)) [
      | inl here ↦
          let apart : x.number == q ≡ false = ne_eqb x.number q (λ e. eqb-false t.number x.number parts.0 (eqb-true t.number q here ∙ sym e)) in
          rw (here, apart) refl
      | inr other ↦ rw (other) (ticket_version-push ts x parts.1 q)
    ]

-- a ticket that is closed is open no more, and the others are
pub ticket_version-others : (ts : List OpenTicket) (number : ℕ) → (q : ℕ) → ticket_version (others number ts) q ≡ (if number == q then None else ticket_version ts q)
ticket_version-others [] number q = elim (cases_Bool (number == q)) [ inl is ↦ rw (is) refl | inr other ↦ rw (other) refl ]
ticket_version-others (t ∷ ts) number q = elim (cases_Bool (t.number == number)) [
  | inl closed ↦
      let same : t.number ≡ number = eqb-true t.number number closed in
      elim (cases_Bool (number == q)) [
        | inl is ↦ rw (closed, is) (ticket_version-others ts number q ∙ rw (is) refl)
        | inr other ↦
            let apart : t.number == q ≡ false = ap (λ n. n == q) same ∙ other in
            rw (closed, other, apart) (ticket_version-others ts number q ∙ rw (other) refl)
      ]
  | inr stays ↦ elim (cases_Bool (t.number == q)) [
    | inl here ↦
        let apart : number == q ≡ false = ne_eqb number q (λ e. eqb-false t.number number stays (eqb-true t.number q here ∙ sym e)) in
        rw (stays, apart, here) refl
    | inr other ↦ rw (stays, other) (ticket_version-others ts number q)
  ]
]

pub AreDistinct-push : (ts : List OpenTicket) (x : OpenTicket) → AreDistinct ts → ticket_version ts x.number ≡ None → AreDistinct (ts ++ x ∷ [])
AreDistinct-push [] x distinct none = (refl, tt)
AreDistinct-push (t ∷ ts) x distinct none =
    let parts = later t ts x.number none in
    let apart : x.number == t.number ≡ false = ne_eqb x.number t.number (λ e. eqb-false t.number x.number parts.0 (sym e)) in
    (ticket_version-push ts x parts.1 t.number ∙ rw (apart) distinct.0, AreDistinct-push ts x distinct.1 parts.1)

pub AreDistinct-others : (ts : List OpenTicket) (number : ℕ) → AreDistinct ts → AreDistinct (others number ts)
AreDistinct-others [] number distinct = tt
AreDistinct-others (t ∷ ts) number distinct = elim (cases_Bool (t.number == number)) [
  | inl closed ↦ rw (closed) (AreDistinct-others ts number distinct.1)
  | inr stays ↦
      let apart : number == t.number ≡ false = ne_eqb number t.number (λ e. eqb-false t.number number stays (sym e)) in
      rw (stays) (ticket_version-others ts number t.number ∙ rw (apart) distinct.0, AreDistinct-others ts number distinct.1)
]

-- where no ticket has the number, all stay
pub others_all : (ts : List OpenTicket) (number : ℕ) → ticket_version ts number ≡ None → others number ts ≡ ts
others_all [] number none = refl
others_all (t ∷ ts) number none =
    let parts = later t ts number none in
    rw (parts.0) (ap (λ l. t ∷ l) (others_all ts number parts.1))

-- where one ticket has it, one goes
pub length-others : (ts : List OpenTicket) (number version : ℕ) → AreDistinct ts → ticket_version ts number ≡ Some version → length (others number ts) + 1 ≡ length ts
length-others [] number version distinct is = absurd cc
length-others (t ∷ ts) number version distinct is = elim (cases_Bool (t.number == number)) [
  | inl closed ↦
      let same : t.number ≡ number = eqb-true t.number number closed in
      let rest : length (others number ts) ≡ length ts = ap length (others_all ts number (ap (ticket_version ts) (sym same) ∙ distinct.0)) in
      rw (closed) (omega arith)
  | inr stays ↦
      let is : ticket_version ts number ≡ Some version = rw (stays) at is in
      let rest = length-others ts number version distinct.1 is in
      rw (stays) (omega (arith, rest))
]

pub holder_count-push : (ts : List OpenTicket) (x : OpenTicket) (k : ℕ) → holder_count (ts ++ x ∷ []) k ≡ holder_count ts k + (if x.version == k then 1 else 0)
holder_count-push [] x k = omega arith
holder_count-push (t ∷ ts) x k =
    let rest = holder_count-push ts x k in
    omega (arith, rest)

pub holder_count-others : (ts : List OpenTicket) (number version : ℕ) (k : ℕ) → AreDistinct ts → ticket_version ts number ≡ Some version
    → holder_count (others number ts) k + (if version == k then 1 else 0) ≡ holder_count ts k
holder_count-others [] number version k distinct is = absurd cc
holder_count-others (t ∷ ts) number version k distinct is = elim (cases_Bool (t.number == number)) [
  | inl closed ↦
      let same : t.number ≡ number = eqb-true t.number number closed in
      let holds : Some t.version ≡ Some version = rw (closed) at is in
      let version_is : t.version ≡ version = cc in
      let rest : holder_count (others number ts) k ≡ holder_count ts k = ap (λ l. holder_count l k) (others_all ts number (ap (ticket_version ts) (sym same) ∙ distinct.0)) in
      rw (closed, ← version_is) (omega (arith, rest))
  | inr stays ↦
      let is : ticket_version ts number ≡ Some version = rw (stays) at is in
      let rest = holder_count-others ts number version k distinct.1 is in
      rw (stays) (omega (arith, rest))
]

-- the version that a ticket holds has a holder
pub ticket_holds : (ts : List OpenTicket) (number version : ℕ) → ticket_version ts number ≡ Some version → holder_count ts version ≡ 0 → ⊥
ticket_holds [] number version is none = cc
ticket_holds (t ∷ ts) number version is none = elim (cases_Bool (t.number == number)) [
  | inl here ↦
      let holds : Some t.version ≡ Some version = rw (here) at is in
      let version_is : t.version ≡ version = cc in
      let counts : t.version == version ≡ true = eq-eqb t.version version version_is in
      let one : 1 + holder_count ts version ≡ 0 = rw (counts) at none in
      absurd (omega arith)
  | inr other ↦
      let is : ticket_version ts number ≡ Some version = rw (other) at is in
      ticket_holds ts number version is (omega arith)
]

pub holder_count-le-length : (ts : List OpenTicket) (k : ℕ) → holder_count ts k ≤ length ts
holder_count-le-length [] k = omega arith
holder_count-le-length (t ∷ ts) k =
    let rest = holder_count-le-length ts k in
    elim (cases_Bool (t.version == k)) [ inl here ↦ rw (here) (omega (arith, rest)) | inr other ↦ rw (other) (omega (arith, rest)) ]
