-- Laws of words with spaces.
use Rattle.std.proofs.lemmas.List.{length-append}
use Rattle.std.proofs.Math.Seq.{take-append_seam}
use Rattle.std.proofs.Common.{Bool, true, false, arith, add-one, true≢false, ◌-◌, ◌≡◌, ◌≢◌, ℕ, zero, suc, ◌+◌, List, [], ◌∷◌, ◌++◌, length, take, refl, sym, ◌∙◌, ap, append_assoc}
use Rattle.plan_text.specs.inside.Rows.{times}
use Rattle.plan_text.specs.Expressions.{bracketed, spaced_words, spaced}

pub spaced_append : (vs ws : List (List ℕ)) → spaced (vs ++ ws) ≡ spaced vs ++ spaced ws
spaced_append [] ws = refl
spaced_append (v ∷ vs) ws =
    ap (λ t. v ++ 32 ∷ t) (spaced_append vs ws) ∙ sym (append_assoc v (32 ∷ spaced vs) (spaced ws))

-- words have a space after the last one
pub spaced_joined : (w : List ℕ) (ws : List (List ℕ)) → spaced (w ∷ ws) ≡ spaced_words (w ∷ ws) ++ 32 ∷ []
spaced_joined w [] = refl
spaced_joined w (v ∷ ws) =
    ap (λ t. w ++ 32 ∷ t) (spaced_joined v ws) ∙ sym (append_assoc w (32 ∷ spaced_words (v ∷ ws)) (32 ∷ []))

pub spaced_joined_some : (ws : List (List ℕ)) → ws ≢ [] → spaced ws ≡ spaced_words ws ++ 32 ∷ []
spaced_joined_some [] some = absurd (some refl)
spaced_joined_some (w ∷ ws) some = spaced_joined w ws

-- the last byte is that space
pub before_space : (before : List ℕ) (ws : List (List ℕ)) (bytes : List ℕ) → ws ≢ [] → bytes ≡ before ++ spaced ws → bytes ≡ (before ++ spaced_words ws) ++ 32 ∷ []
before_space before ws bytes some is =
    is ∙ ap (λ t. before ++ t) (spaced_joined_some ws some) ∙ sym (append_assoc before (spaced_words ws) (32 ∷ []))

-- one more word of a kind
pub times_suc : (n : ℕ) (w : List ℕ) → times (suc n) w ≡ times n w ++ w ∷ []
times_suc zero w = refl
times_suc (suc n) w = ap (λ t. w ∷ t) (times_suc n w)

pub times_more : (n : ℕ) (w : List ℕ) → times (n + 1) w ≡ times n w ++ w ∷ []
times_more n w = ap (λ k. times k w) (add-one n) ∙ times_suc n w

abbrev is_some_list : {A : Type 0} → List A → Bool
is_some_list [] = false
is_some_list (x ∷ xs) = true

pub absurd_cons : {A : Type 0} (x : A) (xs : List A) → x ∷ xs ≢ []
absurd_cons x xs none = absurd (true≢false (ap is_some_list none))

pub after_some : {A : Type 0} (xs : List A) (y : A) (ys : List A) → xs ++ y ∷ ys ≢ []
after_some [] y ys none = absurd_cons y ys none
after_some (x ∷ xs) y ys none = absurd_cons x (xs ++ y ∷ ys) none

-- words after words that are there
pub put_after : (old middle new : List ℕ) (vs ws : List (List ℕ)) → middle ≡ old ++ spaced vs → new ≡ middle ++ spaced ws → new ≡ old ++ spaced (vs ++ ws)
put_after old middle new vs ws first second =
    second ∙ ap (λ t. t ++ spaced ws) first ∙ append_assoc old (spaced vs) (spaced ws) ∙ ap (λ t. old ++ t) (sym (spaced_append vs ws))

-- an expression in brackets
pub bracket_closed : (old new : List ℕ) (ws : List (List ℕ)) → new ≡ (old ++ 91 ∷ []) ++ (spaced_words ws ++ 93 ∷ 32 ∷ []) → new ≡ old ++ spaced (bracketed ws ∷ [])
bracket_closed old new ws is =
    is ∙ append_assoc old (91 ∷ []) (spaced_words ws ++ 93 ∷ 32 ∷ []) ∙ ap (λ t. old ++ 91 ∷ t) (sym (append_assoc (spaced_words ws) (93 ∷ []) (32 ∷ [])))

-- the last byte goes, of a text of this size
pub popped : (xs : List ℕ) (y size : ℕ) (old new : List ℕ) → size ≡ length old → old ≡ xs ++ y ∷ [] → new ≡ take (size - 1) old → new ≡ xs
popped xs y size old new all is pops =
    let longer : length (xs ++ y ∷ []) ≡ length xs + 1 = length-append xs (y ∷ []) in
    let count : size - 1 ≡ length xs = ap (λ n. n - 1) (all ∙ ap length is ∙ longer) ∙ omega arith in
    pops ∙ ap (λ n. take n old) count ∙ ap (λ l. take (length xs) l) is ∙ take-append_seam xs (y ∷ [])

-- what is left to put after words that were put
pub still_left : (old middle new whole : List ℕ) (vs ws rest : List (List ℕ)) → middle ≡ old ++ spaced vs → new ≡ middle ++ spaced ws
    → old ++ spaced (vs ++ (ws ++ rest)) ≡ whole → new ++ spaced rest ≡ whole
still_left old middle new whole vs ws rest first second left =
    ap (λ t. t ++ spaced rest) (put_after old middle new vs ws first second)
    ∙ append_assoc old (spaced (vs ++ ws)) (spaced rest)
    ∙ ap (λ t. old ++ t) (sym (spaced_append (vs ++ ws) rest) ∙ ap spaced (append_assoc vs ws rest))
    ∙ left
