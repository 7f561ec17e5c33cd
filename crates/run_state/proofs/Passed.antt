-- Members that pass, in ascending order.
use Rattle.std.proofs.Common.{◌≡◌, ℕ, zero, suc, ◌+◌, ◌<◌, ◌≤◌, ℤ, Bool, true, false, cond, List, [], ◌∷◌, ◌++◌, length, take, drop, get_or, ap, ap₂, sym, ◌∙◌, refl, inl, inr, arith, Contains}
use Rattle.std.proofs.lemmas.List.{take-append-drop}
use Rattle.std.specs.List.{filter}
use Rattle.typed_tree.specs.FunctionStatementTree.{FunctionStatementsTree}
use Rattle.algorithm_meaning.specs.State.{StateValue}
use Rattle.algorithm_meaning.specs.VertexSets.{after_vertex, after_vertices}
use Rattle.kernels.specs.declared.block.Block.{Block}
use Rattle.kernels.specs.Kernels.{passes_at}
use Rattle.vertex_sets.specs.VertexSet.{IsAscendingBelow}
use Rattle.vertex_sets.proofs.Ascending.{Rises, ascending_below, below, contains_first, contains_later, contains_nothing, first_or_later, rises, rises_from_lower}
use Rattle.run_state.specs.inside.Passing.{passing}

pub parts_of : (n : ℕ) (all part rest : List ℕ) → part ≡ take n all → rest ≡ drop n all → part ++ rest ≡ all
parts_of n all part rest first behind = ap₂ (λ (xs ys : List ℕ). xs ++ ys) first behind ∙ take-append-drop n all

pub rises_take : (low k : ℕ) (xs : List ℕ) → Rises low xs → Rises low (take k xs)
rises_take low zero xs up = tt
rises_take low (suc k) [] up = tt
rises_take low (suc k) (x ∷ xs) up = (up.0, rises_take (x + 1) k xs up.1)

pub rises_drop : (low k : ℕ) (xs : List ℕ) → Rises low xs → Rises low (drop k xs)
rises_drop low zero xs up = up
rises_drop low (suc k) [] up = tt
rises_drop low (suc k) (x ∷ xs) up = rises_from_lower low (x + 1) (drop k xs) (omega (arith, up.0)) (rises_drop (x + 1) k xs up.1)

pub after_vertices-append : (m : StateValue) (steps : FunctionStatementsTree) (us vs : List ℕ) (vectors : List (List ℤ))
    → after_vertices steps m.sets (us ++ vs) vectors ≡ after_vertices steps m.sets vs (after_vertices steps m.sets us vectors)
after_vertices-append m steps [] vs vectors = refl
after_vertices-append m steps (u ∷ us) vs vectors = after_vertices-append m steps us vs (after_vertex steps m.sets u vectors)

pub none_left : (n : ℕ) (xs : List ℕ) → length xs ≡ 0 → xs ≡ []
none_left n [] h = refl
none_left n (x ∷ xs) h = absurd (omega (arith, h))

-- each number is above the one before it and below n, and the first is low or more
abbrev pub Ascends : (n low : ℕ) → List ℕ → Type 0
Ascends n low [] = Unit {0}
Ascends n low (x ∷ xs) = (low ≤ x) × (x < n) × Ascends n (x + 1) xs

ascends_from : (n low : ℕ) (xs : List ℕ) → Rises low xs → ((v : ℕ) → Contains xs v → v < n) → Ascends n low xs
ascends_from n low [] up within = tt
ascends_from n low (x ∷ xs) up within = (up.0, within x (contains_first x xs), ascends_from n (x + 1) xs up.1 (λ v is. within v (contains_later x v xs is)))

pub ascends : (n : ℕ) (xs : List ℕ) → IsAscendingBelow n xs → Ascends n 0 xs
ascends n xs is = ascends_from n 0 xs (rises n xs is) (λ v member. below n v xs is member)

rises_of : (n low : ℕ) (xs : List ℕ) → Ascends n low xs → Rises low xs
rises_of n low [] up = tt
rises_of n low (x ∷ xs) up = (up.0, rises_of n (x + 1) xs up.2)

below_of : (n low v : ℕ) (xs : List ℕ) → Ascends n low xs → Contains xs v → v < n
below_of n low v [] up is = absurd (contains_nothing v is)
below_of n low v (x ∷ xs) up is =
    elim (first_or_later x v xs is) [
      | inl here ↦ let under : x < n = up.1 in omega arith
      | inr there ↦ below_of n (x + 1) v xs up.2 there
    ]

pub ascending_of : (n : ℕ) (xs : List ℕ) → Ascends n 0 xs → IsAscendingBelow n xs
ascending_of n xs up = ascending_below n xs (rises_of n 0 xs up) (λ v is. below_of n 0 v xs up is)

lower : (n low high : ℕ) (xs : List ℕ) → low ≤ high → Ascends n high xs → Ascends n low xs
lower n low high [] le up = tt
lower n low high (x ∷ xs) le up = (omega (arith, up.0), up.1, up.2)

either_first : (b : Bool) (n low v : ℕ) (ps rest : List ℕ) → low ≤ v → v < n → Ascends n (v + 1) (ps ++ rest) → Ascends n low (cond b (v ∷ ps) ps ++ rest)
either_first true n low v ps rest le lt up = (le, lt, up)
either_first false n low v ps rest le lt up = lower n low (v + 1) (ps ++ rest) (omega arith) up

passed_ascend : (block : Block) (n low i : ℕ) (part rest : List ℕ) → Ascends n low (part ++ rest) → Ascends n low (passing block i part ++ rest)
passed_ascend block n low i [] rest up = up
passed_ascend block n low i (v ∷ vs) rest up =
    either_first (passes_at block i) n low v (passing block (i + 1) vs) rest up.0 up.1 (passed_ascend block n (v + 1) (i + 1) vs rest up.2)

-- some of the next numbers after those that were kept
pub kept_ascend : (block : Block) (n low : ℕ) (kept part rest : List ℕ) → Ascends n low (kept ++ (part ++ rest)) → Ascends n low (kept ++ (passing block 0 part ++ rest))
kept_ascend block n low [] part rest up = passed_ascend block n low 0 part rest up
kept_ascend block n low (x ∷ xs) part rest up = (up.0, up.1, kept_ascend block n (x + 1) xs part rest up.2)

chosen : (b c : Bool) (v : ℕ) (ps fs : List ℕ) → b ≡ c → ps ≡ fs → cond b (v ∷ ps) ps ≡ cond c (v ∷ fs) fs
chosen b c v ps fs same more = ap (λ (xs : List ℕ). cond b (v ∷ xs) xs) more ∙ ap (λ (d : Bool). cond d (v ∷ fs) fs) same

-- what passes is what a filter lets through
pub passing_is : (block : Block) (test : ℕ → Bool) (i : ℕ) (vs : List ℕ) → ((k : ℕ) → k < length vs → passes_at block (i + k) ≡ test (get_or vs k 0)) → passing block i vs ≡ filter test vs
passing_is block test i [] same = refl
passing_is block test i (v ∷ vs) same =
    let here : i + 0 ≡ i = omega arith in
    chosen (passes_at block i) (test v) v (passing block (i + 1) vs) (filter test vs) (ap (passes_at block) (sym here) ∙ same 0 (omega arith))
    (passing_is block test (i + 1) vs (λ k h. let next : i + 1 + k ≡ i + suc k = omega arith in ap (passes_at block) next ∙ same (suc k) (omega (arith, h))))

in_front : (b : Bool) (v : ℕ) (xs : List ℕ) → cond b (v ∷ []) [] ++ xs ≡ cond b (v ∷ xs) xs
in_front true v xs = refl
in_front false v xs = refl

-- the next number, where it passes, comes before those after it
pub next_passing : (block : Block) (index i : ℕ) (part : List ℕ) (b : Bool) → b ≡ passes_at block index → i < length part
    → cond b (get_or part i 0 ∷ []) [] ++ passing block (index + 1) (drop (i + 1) part) ≡ passing block index (drop i part)
next_passing block index i [] b same h = absurd (omega (arith, h))
next_passing block index zero (x ∷ xs) b same h =
    in_front b x (passing block (index + 1) xs) ∙ ap (λ (d : Bool). cond d (x ∷ passing block (index + 1) xs) (passing block (index + 1) xs)) same
next_passing block index (suc i) (x ∷ xs) b same h =
    let more : suc i + 1 ≡ suc (i + 1) = omega arith in
    ap (λ (j : ℕ). cond b (get_or xs i 0 ∷ []) [] ++ passing block (index + 1) (drop j (x ∷ xs))) more ∙ next_passing block index i xs b same (omega (arith, h))
