-- What workers claim, or have from the start, and what comes together of it.
use Rattle.std.proofs.Common.{◌≡◌, ℕ, ◌+◌, ◌-◌, ◌*◌, ◌^◌, ◌<◌, ◌≤◌, cond, Option, Some, None, IsSome, ◌↔◌, List, [], ◌∷◌, ◌++◌, length, length-append, sym, refl, ap, ◌∙◌, subst, arith}
use Rattle.std.proofs.lemmas.Bool.{lt-ltb}
use Rattle.std.proofs.lemmas.Bool.Decides.{nat_tests}
use mathlib.Core.Logic.{dite}
use native.Mathlib.Decide.{dec_lt}
use Rattle.crew.specs.declared.claim_word.ClaimView.{ClaimView}
use Rattle.crew.specs.inside.ClaimWord.{claim_view, times, once_below, all_rights, Claims}
use Rattle.crew.specs.inside.Claims.{worker_rights, pieces_at}
use Rattle.crew.proofs.Findings.{pieces_at-append, times-pieces_at}

piece_at : (pieces index : ℕ) → index < pieces → pieces_at pieces (index ∷ []) ≡ (index + 1) ∷ []
piece_at pieces index below = ap (λ b. cond {A = List ℕ} b ((index + 1) ∷ []) []) (lt-ltb index pieces below)

-- what a worker has claimed, of which the last number is index, and what it found
pub record IsClaiming (pieces index : ℕ) (v : ClaimView) (found : List ℕ) : Type 0 where
  pub rights : v.rights ≡ worker_rights
  pub next : v.next ≡ index + 1
  pub below_next : length v.claimed ≤ index + 1
  pub few : length v.claimed ≤ pieces + 1
  pub claimed : found ++ pieces_at pieces (index ∷ []) ≡ pieces_at pieces v.claimed

pub claims_more : (pieces index k : ℕ) (v w : ClaimView) (old new : List ℕ) → IsClaiming pieces index v old → index < pieces → new ≡ old ++ (index + 1) ∷ [] → Claims v k w → IsClaiming pieces k w new
claims_more pieces index k v w old new h below more claims =
    let z : ClaimView = claim_view v.rights (v.claimed ++ k ∷ []) (k + 1) in
    let longer = length-append v.claimed (k ∷ []) in
    let low = claims.0 in
    let next = h.next in
    let a = h.below_next in
    let rights = h.rights in
    let before : new ≡ pieces_at pieces v.claimed = more ∙ ap (λ (l : List ℕ). old ++ l) (sym (piece_at pieces index below)) ∙ h.claimed in
    subst (λ (u : ClaimView). IsClaiming pieces k u new) (sym claims.1) (record {
      rights = rights;
      next = refl;
      below_next = omega arith;
      few = omega arith;
      claimed = ap (λ (l : List ℕ). l ++ pieces_at pieces (k ∷ [])) before ∙ sym (pieces_at-append pieces v.claimed (k ∷ []));
    })

-- what is together where so many workers are still out
pub record IsGathered (pieces out : ℕ) (v : ClaimView) (found : List ℕ) : Type 0 where
  pub rights : v.rights + out * worker_rights ≡ all_rights
  pub few : length v.claimed + out * worker_rights ≤ 2 ^ 39
  pub next : out ≡ 0 → pieces ≤ v.next
  pub claimed : found ≡ pieces_at pieces v.claimed

pub gathers_more : (pieces out : ℕ) (v u w : ClaimView) (old theirs new : List ℕ) → IsGathered pieces (out + 1) v old → w ≡ claim_view (v.rights + u.rights) (v.claimed ++ u.claimed) u.next
    → u.rights ≡ worker_rights → pieces ≤ u.next → length u.claimed ≤ worker_rights → theirs ≡ pieces_at pieces u.claimed → new ≡ old ++ theirs → IsGathered pieces out w new
gathers_more pieces out v u w old theirs new h joined rights next few claimed more =
    let longer = length-append v.claimed u.claimed in
    let a = h.rights in
    let b = h.few in
    subst (λ (x : ClaimView). IsGathered pieces out x new) (sym joined) (record {
      rights = omega arith;
      few = omega arith;
      next = λ _. next;
      claimed = more ∙ ap (λ (l : List ℕ). l ++ theirs) h.claimed ∙ ap (λ (l : List ℕ). pieces_at pieces v.claimed ++ l) claimed ∙ sym (pieces_at-append pieces v.claimed u.claimed);
    })

once : (j n : ℕ) → j < n → 0 < once_below j n
once j n below = grind (arith, nat_tests)

-- who has all rights has, by the next claim, all pieces
pub gathered : (pieces k : ℕ) (v w : ClaimView) (found : List ℕ) → IsGathered pieces 0 v found → Claims v k w → (j : ℕ) → j < pieces → 0 < times (j + 1) found
gathered pieces k v w found h claims j below =
    let all : v.rights ≡ all_rights = let r = h.rights in omega arith in
    let each = claims.2 all j in
    let low = claims.0 in
    let high = h.next refl in
    let is = ap (λ (l : List ℕ). times (j + 1) l) h.claimed in
    let at = times-pieces_at pieces j v.claimed below in
    let some = once j k (omega arith) in
    omega arith

-- nothing was popped only where nothing was there
pub none_left : {X : Type 0} (r : Option X) (n : ℕ) → ((x : X) → r ≡ Some x → ⊥) → (IsSome r ↔ (0 < n)) → n ≡ 0
none_left None n not_some is = dite (dec_lt 0 n) (λ some. absurd (let e = is.1 some in cc)) (λ none. omega arith)
none_left (Some x) n not_some is = absurd (not_some x refl)

pub hired_more : (n : ℕ) (v w : ClaimView) → v ≡ claim_view (all_rights - n * worker_rights) [] 0 → w ≡ claim_view (v.rights - worker_rights) [] v.next
    → w ≡ claim_view (all_rights - (n + 1) * worker_rights) [] 0
hired_more n v w was is =
    let rights : (all_rights - n * worker_rights) - worker_rights ≡ all_rights - (n + 1) * worker_rights = omega arith in
    is ∙ ap (λ (u : ClaimView). claim_view (u.rights - worker_rights) [] u.next) was ∙ ap (λ (r : ℕ). claim_view r [] 0) rights
