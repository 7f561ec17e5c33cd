-- The vertices of flags that are true.
use Rattle.std.proofs.Common.{◌≡◌, ℕ, zero, suc, ◌+◌, ◌<◌, ◌≤◌, inl, inr, ◌↔◌, Bool, true, false, cond, List, [], ◌∷◌, ◌++◌, length, get_or, set, replicate, refl, sym, ◌∙◌, ap, subst, arith, Contains}
use Rattle.std.proofs.Common.{get_or-set_same, get_or-set_other}
use Rattle.std.specs.List.{range_with_len}
use Rattle.std.proofs.lemmas.Bool.{cases_eq, cases_lt}
use Rattle.std.proofs.lemmas.List.{get_or_push, get_or_append_left, get_or_past}
use Rattle.vertex_sets.specs.VertexSet.{IsAnswer}
use Rattle.vertex_sets.specs.inside.Words.{flag_members}
use Rattle.vertex_sets.proofs.Ascending.{Rises, contains_nothing, rises_choice, choice_cases, choice_later, choice_first, HasOneMore}

pub rises_flags : (a : ℕ) (flags : List Bool) → Rises a (flag_members a flags)
rises_flags a [] = tt
rises_flags a (flag ∷ flags) = rises_choice flag a (flag_members (a + 1) flags) (rises_flags (a + 1) flags)

flag_of : (a v : ℕ) (flags : List Bool) → Contains (flag_members a flags) v → (i : ℕ) × (v ≡ a + i) × (get_or flags i false ≡ true)
flag_of a v [] is = absurd (contains_nothing v is)
flag_of a v (flag ∷ flags) is =
    elim (choice_cases flag a v (flag_members (a + 1) flags) is) [
      | inl here ↦ (0, omega (arith, here.1), here.0)
      | inr later ↦ let h = flag_of (a + 1) v flags later in (suc h.0, omega (arith, h.1), h.2)
    ]

flag_in : (a i : ℕ) (flags : List Bool) → get_or flags i false ≡ true → Contains (flag_members a flags) (a + i)
flag_in a i [] is = absurd (cc)
flag_in a zero (flag ∷ flags) is =
    let e : a ≡ a + 0 = omega arith in
    subst (λ v. Contains (flag_members a (flag ∷ flags)) v) e (choice_first flag a (flag_members (a + 1) flags) is)
flag_in a (suc i) (flag ∷ flags) is =
    let e : a + 1 + i ≡ a + suc i = omega arith in
    choice_later flag a (a + suc i) (flag_members (a + 1) flags) (subst (λ v. Contains (flag_members (a + 1) flags) v) e (flag_in (a + 1) i flags is))

-- a vertex is among them exactly where its flag is true
pub flag_members_has : (flags : List Bool) (v : ℕ) → Contains (flag_members 0 flags) v ↔ (get_or flags v false ≡ true)
flag_members_has flags v = (
  λ is. let h = flag_of 0 v flags is in let e : h.0 ≡ v = omega (arith, h.1) in subst (λ i. get_or flags i false ≡ true) e h.2,
  λ is. let e : 0 + v ≡ v = omega arith in subst (λ u. Contains (flag_members 0 flags) u) e (flag_in 0 v flags is),
)

-- ---- how many there are

length_choice : (b : Bool) (a : ℕ) (xs : List ℕ) (n : ℕ) → length xs ≤ n → length (cond b (a ∷ xs) xs) ≤ suc n
length_choice true a xs n le = omega arith
length_choice false a xs n le = omega arith

pub length_flags : (a : ℕ) (flags : List Bool) → length (flag_members a flags) ≤ length flags
length_flags a [] = omega arith
length_flags a (flag ∷ flags) = length_choice flag a (flag_members (a + 1) flags) (length flags) (length_flags (a + 1) flags)

one_longer : (b : Bool) (a : ℕ) (xs ys : List ℕ) → length ys ≡ suc (length xs) → length (cond b (a ∷ ys) ys) ≡ suc (length (cond b (a ∷ xs) xs))
one_longer true a xs ys e = ap suc e
one_longer false a xs ys e = e

-- a flag that becomes true adds one
pub one_more_flag : (a i : ℕ) (flags : List Bool) → i < length flags → get_or flags i false ≡ false → length (flag_members a (set flags i true)) ≡ suc (length (flag_members a flags))
one_more_flag a i [] within off = absurd (omega arith)
one_more_flag a zero (flag ∷ flags) within off = ap (λ b. suc (length (cond b (a ∷ flag_members (a + 1) flags) (flag_members (a + 1) flags)))) (sym off)
one_more_flag a (suc i) (flag ∷ flags) within off =
    one_longer flag a (flag_members (a + 1) flags) (flag_members (a + 1) (set flags i true)) (one_more_flag (a + 1) i flags (omega arith) off)

-- one flag more at the end
pub flags_push : (a : ℕ) (flags : List Bool) (flag : Bool) → length (flag_members a (flags ++ flag ∷ [])) ≡ length (flag_members a flags) + cond flag 1 0
flags_push a [] true = refl
flags_push a [] false = refl
flags_push a (true ∷ flags) flag = omega (arith, flags_push (a + 1) flags flag)
flags_push a (false ∷ flags) flag = flags_push (a + 1) flags flag

pub flags_none : (a n : ℕ) → flag_members a (replicate n false) ≡ []
flags_none a zero = refl
flags_none a (suc n) = flags_none (a + 1) n

pub flags_all : (a n : ℕ) → flag_members a (replicate n true) ≡ range_with_len a n
flags_all a zero = refl
flags_all a (suc n) = ap (λ xs. a ∷ xs) (flags_all (a + 1) n)

-- a flag that becomes true makes its vertex a member
pub flags_set : (flags : List Bool) (v : ℕ) → v < length flags → HasOneMore v (flag_members 0 flags) (flag_members 0 (set flags v true))
flags_set flags v within u =
    elim (cases_eq u v) [
      | inl here ↦
          let on : get_or (set flags v true) u false ≡ true = ap (λ w. get_or (set flags v true) w false) here ∙ get_or-set_same flags v true false within in
          (λ is. inl here, λ or. (flag_members_has (set flags v true) u).1 on)
      | inr apart ↦
          let same : get_or (set flags v true) u false ≡ get_or flags u false = get_or-set_other flags v u true false apart in (
            λ is. inr ((flag_members_has flags u).1 (sym same ∙ (flag_members_has (set flags v true) u).0 is)),
            λ or. elim or [
              | inl here ↦ absurd (apart here)
              | inr is ↦ (flag_members_has (set flags v true) u).1 (same ∙ (flag_members_has flags u).0 is)
            ],
          )
    ]

-- what a test answered stands in the flag
pub flag_answer : (gives : ℕ → Bool → Type 0) (flags : List Bool) (v : ℕ) → gives v (get_or flags v false) → IsAnswer gives (flag_members 0 flags) v
flag_answer gives flags v is = by_flag (get_or flags v false) refl is
  where
    by_flag : (b : Bool) → get_or flags v false ≡ b → gives v b → IsAnswer gives (flag_members 0 flags) v
    by_flag true on is = inl ((flag_members_has flags v).1 on, is)
    by_flag false off is = inr (λ member. absurd (cc (off, (flag_members_has flags v).0 member)), is)

-- what a test answers for the next vertex, after those below it
pub next_flag : (gives : ℕ → Bool → Type 0) (n : ℕ) (flags : List Bool) (b : Bool) → length flags ≡ n → gives n b
    → ((v : ℕ) → v < n → gives v (get_or flags v false)) → (v : ℕ) → v < n + 1 → gives v (get_or (flags ++ b ∷ []) v false)
next_flag gives n flags b long now before v lt =
    elim (cases_eq v n) [
      | inl here ↦
          let is : get_or (flags ++ b ∷ []) v false ≡ b = get_or_push flags b false v (long ∙ sym here) in
          subst (λ t. gives v t) (sym is) (subst (λ u. gives u b) (sym here) now)
      | inr apart ↦
          let is : get_or (flags ++ b ∷ []) v false ≡ get_or flags v false = get_or_append_left flags (b ∷ []) false v (omega arith) in
          subst (λ t. gives v t) (sym is) (before v (omega arith))
    ]

pub flag_bound : (flags : List Bool) (v : ℕ) → Contains (flag_members 0 flags) v → v < length flags
flag_bound flags v is =
    elim (cases_lt v (length flags)) [
      | inl lt ↦ lt
      | inr le ↦ absurd (cc (get_or_past flags v false le, (flag_members_has flags v).0 is))
    ]
