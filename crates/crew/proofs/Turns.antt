-- Workers that have their pieces from the start.
use Rattle.std.proofs.Common.{◌≡◌, ℕ, ◌+◌, ◌%◌, ◌<◌, Option, Some, option_to_list, List, [], ◌∷◌, ◌++◌, length, length-append, sym, refl, ap, ◌∙◌, subst, arith}
use Rattle.std.proofs.lemmas.List.{get_or_append_left, get_or_push}
use Rattle.std.proofs.lemmas.Bool.Decides.{nat_tests}
use Rattle.std.proofs.Math.Nat.{add-mod_right}
use mathlib.Core.Logic.{dite}
use native.Mathlib.Decide.{dec_lt}
use Rattle.atomic_table.proofs.Lists.{one_turn}
use Rattle.crew.specs.inside.ClaimWord.{times}
use Rattle.crew.specs.inside.Workers.{EachAt}
use Rattle.crew.proofs.ClaimSteps.{times-append}

module _ {X : Type 0} (P : ℕ → X → Type 0) where
  pub each_more : (n : ℕ) (old new : List X) (x : X) → new ≡ old ++ x ∷ [] → length old ≡ n → EachAt P old → P n x → EachAt P new
  each_more n old new x is len all last = subst (λ (l : List X). EachAt P l) (sym is) (λ i y below at.
      let longer = length-append old (x ∷ []) in
      dite (dec_lt i n)
      (λ lt. all i y (omega arith) (at ∙ get_or_append_left old (x ∷ []) y i (omega arith)))
      (λ not_lt.
      let here : n ≡ i = omega arith in
      let same : y ≡ x = at ∙ get_or_push old x y i (len ∙ here) in
      subst (λ (m : ℕ). P m y) here (subst (λ (z : X). P n z) (sym same) last)))

  pub each_popped : (old new : List X) (r : Option X) → old ≡ new ++ option_to_list r → EachAt P old → EachAt P new
  each_popped old new r is all i y below at =
      let longer = length-append new (option_to_list r) in
      let whole = subst (λ (l : List X). EachAt P l) is all in
      whole i y (omega arith) (at ∙ sym (get_or_append_left new (option_to_list r) y i below))

  pub last_popped : (old new : List X) (r : Option X) (x : X) → old ≡ new ++ option_to_list r → r ≡ Some x → EachAt P old → P (length new) x
  last_popped old new r x is some all =
      let whole = subst (λ (l : List X). EachAt P l) (is ∙ ap (λ (o : Option X). new ++ option_to_list o) some) all in
      let longer = length-append new (x ∷ []) in
      whole (length new) x (omega arith) (sym (get_or_push new x x (length new) refl))

pub next_turn : (index workers worker : ℕ) → index % workers + 1 ≡ worker → (index + workers) % workers + 1 ≡ worker
next_turn index workers worker is = ap (λ (m : ℕ). m + 1) (add-mod_right index workers) ∙ is

one_there : (j : ℕ) → 0 < times (j + 1) ((j + 1) ∷ [])
one_there j = grind (arith, nat_tests)

-- one piece more of a worker, and then no other of it up to its next
pub every_more : (index workers worker pieces : ℕ) (old new : List ℕ) → index % workers + 1 ≡ worker → new ≡ old ++ (index + 1) ∷ []
    → ((j : ℕ) → j < index → j < pieces → j % workers + 1 ≡ worker → 0 < times (j + 1) old)
    → (j : ℕ) → j < index + workers → j < pieces → j % workers + 1 ≡ worker → 0 < times (j + 1) new
every_more index workers worker pieces old new turn more every j below within is =
    let sum = ap (λ (l : List ℕ). times (j + 1) l) more in
    let parts = times-append (j + 1) old ((index + 1) ∷ []) in
    dite (dec_lt j index)
    (λ lt. let before = every j lt within is in omega arith)
    (λ not_lt.
    let same : index ≡ j = one_turn index j workers (omega arith) below (omega arith) in
    let there : 0 < times (j + 1) ((index + 1) ∷ []) = subst (λ (p : ℕ). 0 < times (j + 1) ((p + 1) ∷ [])) (sym same) (one_there j) in
    omega arith)

-- the pieces of one worker more, where so many are still out
pub every_gathered : (n out pieces : ℕ) (old theirs new : List ℕ) → new ≡ old ++ theirs
    → ((j : ℕ) → j < pieces → j % n + (out + 1) < n → 0 < times (j + 1) old)
    → ((worker : ℕ) → worker + out ≡ n → (j : ℕ) → j < pieces → j % n + 1 ≡ worker → 0 < times (j + 1) theirs)
    → (j : ℕ) → j < pieces → j % n + out < n → 0 < times (j + 1) new
every_gathered n out pieces old theirs new more every mine j below back =
    let sum = ap (λ (l : List ℕ). times (j + 1) l) more in
    let parts = times-append (j + 1) old theirs in
    dite (dec_lt (j % n + (out + 1)) n)
    (λ lt. let before = every j below lt in omega arith)
    (λ not_lt. let now = mine (j % n + 1) (omega arith) j below refl in omega arith)
