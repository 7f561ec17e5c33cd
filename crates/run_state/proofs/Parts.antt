-- Lists that are taken part by part.
use Rattle.std.proofs.Common.{◌≡◌, ℕ, zero, suc, ◌+◌, ◌<◌, List, [], ◌∷◌, ◌++◌, length, take, drop, set, ap, sym, ◌∙◌, arith}
use Rattle.std.proofs.lemmas.List.{take_more_set}

-- the next item is the first of what is left
pub next_taken : (all : List ℕ) (i v : ℕ) (rest : List ℕ) → drop i all ≡ v ∷ rest → take i all ++ v ∷ [] ≡ take (i + 1) all
next_taken [] zero v rest e = absurd (cc)
next_taken [] (suc i) v rest e = absurd (cc)
next_taken (a ∷ more_all) zero v rest e = ap (λ (ys : List ℕ). take 1 ys) (sym e)
next_taken (a ∷ more_all) (suc i) v rest e =
    let more : suc (i + 1) ≡ suc i + 1 = omega arith in
    ap (λ (ys : List ℕ). a ∷ ys) (next_taken more_all i v rest e) ∙ ap (λ (k : ℕ). take k (a ∷ more_all)) more

pub next_dropped : (all : List ℕ) (i v : ℕ) (rest : List ℕ) → drop i all ≡ v ∷ rest → rest ≡ drop (i + 1) all
next_dropped [] zero v rest e = absurd (cc)
next_dropped [] (suc i) v rest e = absurd (cc)
next_dropped (a ∷ more_all) zero v rest e = ap (λ (ys : List ℕ). drop 1 ys) (sym e)
next_dropped (a ∷ more_all) (suc i) v rest e =
    let more : suc (i + 1) ≡ suc i + 1 = omega arith in
    next_dropped more_all i v rest e ∙ ap (λ (k : ℕ). drop k (a ∷ more_all)) more

pub next_inside : (all : List ℕ) (i v : ℕ) (rest : List ℕ) → drop i all ≡ v ∷ rest → i < length all
next_inside [] zero v rest e = absurd (cc)
next_inside [] (suc i) v rest e = absurd (cc)
next_inside (a ∷ more_all) zero v rest e = omega arith
next_inside (a ∷ more_all) (suc i) v rest e = omega (arith, next_inside more_all i v rest e)

pub put_taken : (part all : List ℕ) (i v : ℕ) (rest : List ℕ) → i < length part → take i part ≡ take i all → drop i all ≡ v ∷ rest → take (i + 1) (set part i v) ≡ take (i + 1) all
put_taken part all i v rest within same e = take_more_set part i v within ∙ ap (λ (ys : List ℕ). ys ++ v ∷ []) same ∙ next_taken all i v rest e
