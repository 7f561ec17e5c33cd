-- Entries of a list at the indices that are chosen.
use Rattle.std.proofs.Common.{◌≡◌, ℕ, zero, suc, pos, ◌+◌, ◌-◌, ◌<◌, ◌≤◌, ℤ, Bool, true, false, if◌then◌else◌, List, [], ◌∷◌, ◌++◌, length, set, map, take, drop, refl, sym, ap, ◌∙◌, subst, arith}
use Rattle.std.proofs.lemmas.List.{append-nil, drop-drop, get_or-drop, length-drop, map-append, take-set, take_more, take_more_set}
use Rattle.std.proofs.lemmas.List.Elements.{All-append, filter-append}
use Rattle.std.specs.List.{All}
use Rattle.pull_engine.specs.inside.Columns.{entry_at}
use Rattle.pull_engine.specs.Columns.{passing}

one_passes : (p : ℕ → Bool) (e : ℕ × ℤ) (b : Bool) → p e.0 ≡ b → passing p (e ∷ []) ≡ (if b then e ∷ [] else [])
one_passes p e b is = ap (λ (c : Bool). if c then e ∷ [] else []) is

-- the entries from one on up to another that pass, with the next one
passing_more : (p : ℕ → Bool) (es : List (ℕ × ℤ)) (i low : ℕ) (b : Bool) → low ≤ i → i < length es → p (entry_at es i).0 ≡ b
    → passing p (take (i + 1 - low) (drop low es)) ≡ passing p (take (i - low) (drop low es)) ++ (if b then entry_at es i ∷ [] else [])
passing_more p es i low b from inside is =
    let here : i - low < length (drop low es) = omega (arith, length-drop low es, from, inside) in
    let one : i + 1 - low ≡ (i - low) + 1 = omega (arith, from) in
    let same : low + (i - low) ≡ i = omega (arith, from) in
    ap (λ (m : ℕ). passing p (take m (drop low es))) one
    ∙ ap (passing p) (take_more (drop low es) (i - low) (0, pos 1) here)
    ∙ ap (λ (e : ℕ × ℤ). passing p (take (i - low) (drop low es) ++ e ∷ [])) (get_or-drop low es (i - low) (0, pos 1) ∙ ap (entry_at es) same)
    ∙ filter-append (λ (e : ℕ × ℤ). p e.0) (take (i - low) (drop low es)) (entry_at es i ∷ [])
    ∙ ap (λ (more : List (ℕ × ℤ)). passing p (take (i - low) (drop low es)) ++ more) (one_passes p (entry_at es i) b is)

-- an index is written after those that are chosen, and counts where its entry passes
pub chosen_more : (p : ℕ → Bool) (es : List (ℕ × ℤ)) (xs : List ℕ) (k i low n : ℕ) (b : Bool) → map (entry_at es) (take k xs) ≡ passing p (take (i - low) (drop low es)) → k < length xs → low ≤ i
    → i < length es
    → p (entry_at es i).0 ≡ b → (b ≡ true → n ≡ k + 1) → (b ≡ false → n ≡ k)
    → map (entry_at es) (take n (set xs k i)) ≡ passing p (take (i + 1 - low) (drop low es))
chosen_more p es xs k i low n true at room from inside is counts stays =
    ap (λ (m : ℕ). map (entry_at es) (take m (set xs k i))) (counts refl)
    ∙ ap (map (entry_at es)) (take_more_set xs k i room)
    ∙ map-append (entry_at es) (take k xs) (i ∷ [])
    ∙ ap (λ (front : List (ℕ × ℤ)). front ++ entry_at es i ∷ []) at
    ∙ sym (passing_more p es i low true from inside is)
chosen_more p es xs k i low n false at room from inside is counts stays =
    ap (λ (m : ℕ). map (entry_at es) (take m (set xs k i))) (stays refl)
    ∙ ap (map (entry_at es)) (take-set xs k i)
    ∙ at
    ∙ sym (passing_more p es i low false from inside is ∙ append-nil (passing p (take (i - low) (drop low es))))

all_of_one : (P : ℕ → Type 0) (i : ℕ) → P i → All P (i ∷ [])
all_of_one P i it zero d lt = it
all_of_one P i it (suc k) d lt = absurd (omega (arith, lt))

pub inside_more : (P : ℕ → Type 0) (xs : List ℕ) (k i n : ℕ) (b : Bool) → All P (take k xs) → P i → k < length xs → (b ≡ true → n ≡ k + 1) → (b ≡ false → n ≡ k) → All P (take n (set xs k i))
inside_more P xs k i n true at it room counts stays =
    subst (λ (front : List ℕ). All P front) (sym (ap (λ (m : ℕ). take m (set xs k i)) (counts refl) ∙ take_more_set xs k i room)) (All-append P (take k xs) (i ∷ []) at (all_of_one P i it))
inside_more P xs k i n false at it room counts stays =
    subst (λ (front : List ℕ). All P front) (sym (ap (λ (m : ℕ). take m (set xs k i)) (stays refl) ∙ take-set xs k i)) at

-- what is left after one index, seen from another
pub rest_after : {X : Type 0} (xs : List X) (low high : ℕ) → low ≤ high → drop high xs ≡ drop (high - low) (drop low xs)
rest_after xs low high order =
    let same : low + (high - low) ≡ high = omega (arith, order) in
    sym (drop-drop (high - low) low xs ∙ ap (λ (m : ℕ). drop m xs) same)
