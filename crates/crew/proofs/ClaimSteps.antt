-- Each step at the claim word keeps its rule.
use Rattle.std.proofs.Common.{◌≡◌, ◌≢◌, ℕ, zero, suc, ◌+◌, ◌-◌, ◌%◌, ◌^◌, ◌<◌, ◌≤◌, List, [], ◌∷◌, ◌++◌, length, length-append, set, sym, refl, ap, ◌∙◌, subst, mod-eq_of_lt, ⊎_elim, arith}
use Rattle.std.proofs.Common.{slice_index, slice_set}
use Rattle.std.proofs.lemmas.Bool.Decides.{nat_tests}
use mathlib.Core.Option.{some, some-injective, some-ne-none}
use lib.ListN.{get_elem?}
use Rattle.atomic_table.specs.Table.{State, keeps, Allows, Splits, Joins}
use Rattle.atomic_table.proofs.Lists.{at_set, at_snoc}
use Rattle.crew.specs.declared.claim_word.ClaimView.{ClaimView}
use Rattle.crew.specs.inside.ClaimWord.{claim_view, times, once_below, total, AreClaimed, IsClaimWord, Claims}
use Rattle.crew.specs.inside.Claims.{worker_rights}

pub times-append : (x : ℕ) (xs ys : List ℕ) → times x (xs ++ ys) ≡ times x xs + times x ys
times-append x [] ys = omega arith
times-append x (y ∷ xs) ys = omega (arith, times-append x xs ys)

once_more : (x n : ℕ) → once_below x (n + 1) ≡ once_below x n + times x (n ∷ [])
once_more x n = grind (arith, nat_tests)

times-le-length : (x : ℕ) (xs : List ℕ) → times x xs ≤ length xs
times-le-length x [] = omega arith
times-le-length x (y ∷ xs) = let e = times-le-length x xs in grind (arith, nat_tests)

-- the total after a change of one view, and after a new one
total_set : (f : ClaimView → ℕ) (views : List ClaimView) (id : ℕ) (v w : ClaimView) → get_elem? views id ≡ some v → total f (set views id w) + f v ≡ total f views + f w
total_set f [] id v w at = absurd (some-ne-none v (sym at))
total_set f (u ∷ views) zero v w at = let e = ap f (some-injective u v at) in omega arith
total_set f (u ∷ views) (suc id) v w at = omega (arith, total_set f views id v w at)

total_snoc : (f : ClaimView → ℕ) (views : List ClaimView) (w : ClaimView) → total f (views ++ w ∷ []) ≡ total f views + f w
total_snoc f [] w = omega arith
total_snoc f (u ∷ views) w = omega (arith, total_snoc f views w)

total_le : (f g : ClaimView → ℕ) (views : List ClaimView) → ((id : ℕ) (v : ClaimView) → get_elem? views id ≡ some v → f v ≤ g v) → total f views ≤ total g views
total_le f g [] le = omega arith
total_le f g (u ∷ views) le = omega (arith, le 0 u refl, total_le f g views (λ id v at. le (suc id) v at))

-- where one view has all rights, a total that no view exceeds by its rights is that view's own
alone : (f : ClaimView → ℕ) (views : List ClaimView) (id : ℕ) (v : ClaimView) → get_elem? views id ≡ some v → total (λ u. u.rights) views ≡ v.rights
    → f (claim_view 0 [] 0) ≡ 0 → ((j : ℕ) (u : ClaimView) → get_elem? views j ≡ some u → f u ≤ u.rights) → total f views ≡ f v
alone f views id v at all none le =
    let z : ClaimView = claim_view 0 [] 0 in
    let rights = total_set (λ u. u.rights) views id v z at in
    let sum = total_set f views id v z at in
    let most = total_le f (λ u. u.rights) (set views id z)
    (λ j u e. ⊎_elim (λ (is : (j ≡ id) × (z ≡ u)). subst (λ (y : ClaimView). f y ≤ y.rights) is.1 (omega arith)) (λ (is : (j ≢ id) × (get_elem? views j ≡ some u)). le j u is.1)
    (at_set views id j z u e)) in
    omega arith

abbrev Fits : ℕ → ClaimView → Type 0
Fits n v = (v.next ≤ n) × (length v.claimed ≤ v.rights)

abbrev AllFit : ℕ → List ClaimView → Type 0
AllFit n views = (worker : ℕ) (v : ClaimView) → get_elem? views worker ≡ some v → Fits n v

fit_set : (n : ℕ) (views : List ClaimView) (id : ℕ) (w : ClaimView) → AllFit n views → Fits n w → AllFit n (set views id w)
fit_set n views id w all fits j u at =
    ⊎_elim (λ (is : (j ≡ id) × (w ≡ u)). subst (Fits n) is.1 fits) (λ (is : (j ≢ id) × (get_elem? views j ≡ some u)). all j u is.1) (at_set views id j w u at)

fit_snoc : (n : ℕ) (views : List ClaimView) (w : ClaimView) → AllFit n views → Fits n w → AllFit n (views ++ w ∷ [])
fit_snoc n views w all fits j u at =
    ⊎_elim (λ (old : get_elem? views j ≡ some u). all j u old) (λ (is : w ≡ u). subst (Fits n) is fits) (at_snoc views w u j at)

fit_more : (n : ℕ) (views : List ClaimView) → AllFit n views → AllFit (n + 1) views
fit_more n views all j u at = let h = all j u at in (omega arith, omega arith)

-- no more numbers are claimed than there are rights
few : (n : ℕ) (views : List ClaimView) → AreClaimed n views → n ≤ 2 ^ 40
few n views h = let most = total_le (λ v. length v.claimed) (λ v. v.rights) views (λ id v at. (h.3 id v at).1) in let a = h.0 in let b = h.1 in omega arith

claimed : (n : ℕ) (views : List ClaimView) (id : ℕ) (v : ClaimView) → AreClaimed n views → get_elem? views id ≡ some v → length v.claimed < v.rights
    → AreClaimed (n + 1) (set views id (claim_view v.rights (v.claimed ++ n ∷ []) (n + 1)))
claimed n views id v h at right =
    let w : ClaimView = claim_view v.rights (v.claimed ++ n ∷ []) (n + 1) in
    let rights = total_set (λ u. u.rights) views id v w at in
    let lengths = total_set (λ u. length u.claimed) views id v w at in
    let longer = length-append v.claimed (n ∷ []) in
    let a = h.0 in
    let b = h.1 in (
      omega arith,
      omega arith,
      (λ x.
          let sum = total_set (λ u. times x u.claimed) views id v w at in
          let c = h.2 x in
          let more = times-append x v.claimed (n ∷ []) in
          let once = once_more x n in
          omega arith),
      fit_set (n + 1) views id w (fit_more n views h.3) (omega arith, omega arith),
    )

pub draws : (slots id : ℕ) (v : ClaimView) (held : List (ℕ × Unit {0})) → length v.claimed < v.rights
    → Allows (λ s. IsClaimWord s.words s.views) slots id (v, held) 0 (λ n. (n + 1) % 2 ^ 64) (λ k m. Claims v k m.0 × (m.1 ≡ held))
draws slots id v held right s h homes at fits =
    let k : ℕ = slice_index s.words 0 in
    let is : k ≡ h.0 = ap (λ l. slice_index l 0) h.1 in
    let all : AreClaimed k s.views = subst (λ n. AreClaimed n s.views) (sym is) h.2 in
    let w : ClaimView = claim_view v.rights (v.claimed ++ k ∷ []) (k + 1) in
    let most = few k s.views all in
    let next : (k + 1) % 2 ^ 64 ≡ k + 1 = mod-eq_of_lt (omega arith) in
    let words : slice_set s.words 0 ((k + 1) % 2 ^ 64) ≡ (k + 1) ∷ [] = ap (λ l. slice_set l 0 ((k + 1) % 2 ^ 64)) h.1 ∙ ap (λ n. n ∷ []) next in (
      w,
      keeps,
      tt,
      (k + 1, words, claimed k s.views id v all at right),
      (
        (
          (all.3 id v at).0,
          refl,
          λ whole x. sym (alone (λ u. times x u.claimed) s.views id v at (all.0 ∙ sym whole) refl
              (λ j u e. let le = times-le-length x u.claimed in let f = (all.3 j u e).1 in omega arith)) ∙ all.2 x,
        ),
        refl,
      ),
    )

pub hires : (id : ℕ) (v : ClaimView) → v.claimed ≡ [] → worker_rights ≤ v.rights
    → Splits (λ (s : State (Unit {0}) ClaimView). IsClaimWord s.words s.views) id v (claim_view (v.rights - worker_rights) v.claimed v.next) (claim_view worker_rights [] 0)
hires id v idle rights s h at =
    let left : ClaimView = claim_view (v.rights - worker_rights) v.claimed v.next in
    let right : ClaimView = claim_view worker_rights [] 0 in
    let views : List ClaimView = set s.views id left in
    let all = h.2 in
    let total_left = λ (f : ClaimView → ℕ). total_set f s.views id v left at in
    let total_right = λ (f : ClaimView → ℕ). total_snoc f views right in
    let rs = total_left (λ u. u.rights) in
    let rt = total_right (λ u. u.rights) in
    let ls = total_left (λ u. length u.claimed) in
    let lt = total_right (λ u. length u.claimed) in
    let a = all.0 in
    let b = all.1 in
    let none = ap (λ (l : List ℕ). length l) idle in (
      h.0,
      h.1,
      (
        omega arith,
        omega arith,
        (λ x.
            let ts = total_left (λ u. times x u.claimed) in
            let tt' = total_right (λ u. times x u.claimed) in
            let c = all.2 x in
            omega arith),
        fit_snoc h.0 views right (fit_set h.0 s.views id left all.3 ((all.3 id v at).0, omega arith)) (omega arith, omega arith),
      ),
    )

pub dismisses : (id : ℕ) (v : ClaimView) (other : ℕ) (u : ClaimView)
    → Joins (λ (s : State (Unit {0}) ClaimView). IsClaimWord s.words s.views) id v other u (claim_view (v.rights + u.rights) (v.claimed ++ u.claimed) u.next) (claim_view 0 [] 0)
dismisses id v other u s h at apart there =
    let both : ClaimView = claim_view (v.rights + u.rights) (v.claimed ++ u.claimed) u.next in
    let spent : ClaimView = claim_view 0 [] 0 in
    let views : List ClaimView = set s.views id both in
    let all = h.2 in
    let was : get_elem? s.views other ≡ some u = ⊎_elim (λ (is : (other ≡ id) × (both ≡ u)). absurd (apart is.0)) (λ (is : (other ≢ id) × (get_elem? s.views other ≡ some u)). is.1)
    (at_set s.views id other both u there) in
    let mine = all.3 id v at in
    let theirs = all.3 other u was in
    let total_both = λ (f : ClaimView → ℕ). total_set f s.views id v both at in
    let total_spent = λ (f : ClaimView → ℕ). total_set f views other u spent there in
    let rs = total_both (λ y. y.rights) in
    let rt = total_spent (λ y. y.rights) in
    let ls = total_both (λ y. length y.claimed) in
    let lt = total_spent (λ y. length y.claimed) in
    let joined = length-append v.claimed u.claimed in
    let a = all.0 in
    let b = all.1 in (
      h.0,
      h.1,
      (
        omega arith,
        omega arith,
        (λ x.
            let ts = total_both (λ y. times x y.claimed) in
            let tu = total_spent (λ y. times x y.claimed) in
            let c = all.2 x in
            let more = times-append x v.claimed u.claimed in
            omega arith),
        fit_set h.0 views other spent (fit_set h.0 s.views id both all.3 (theirs.0, omega arith)) (omega arith, omega arith),
      ),
    )
