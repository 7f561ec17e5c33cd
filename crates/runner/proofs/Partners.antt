-- Instructions at the same indices of two lists.
use Rattle.std.proofs.Common.{◌≡◌, ℕ, zero, suc, List, [], ◌∷◌, Option, Some, None, Bor, ◌<◌, ◌≤◌, length, get_or, slice_get, refl, sym, ap, ◌∙◌, subst}
use Rattle.std.specs.List.{HoldsAt}
use Rattle.std.specs.Option.{option_copied, unwrap_or, IfSome, MatchOption}
use Rattle.std.proofs.lemmas.Option.{slice_get_past, slice_get-get_or}
use Rattle.plans.specs.Operation.{ArePairwise}

-- there is one, and it is in the relation
pub record HasPartner {A B : Type 0} (R : A → B → Type 0) (x : A) (o : Option B) : Type 0 where
  pub partner : B
  pub is_there : o ≡ Some partner
  pub related : R x partner

pub some_is : {A : Type 0} (x y : A) → Some x ≡ Some y → x ≡ y
some_is {A} x y e = ap (λ (o : Option A). unwrap_or o x) e

abbrev is_there : {A : Type 0} → Option A → Type 0
is_there None = ⊥
is_there (Some x) = Unit {0}

none_is : {A : Type 0} (x : A) → None ≡ Some x → ⊥
none_is {A} x e = subst (λ (o : Option A). is_there o) (sym e) tt

pub partner_at : {A B : Type 0} (R : A → B → Type 0) (xs : List A) (ys : List B) (index : ℕ) (x : A) → ArePairwise R xs ys → slice_get xs index ≡ Some x → HasPartner R x (slice_get ys index)
partner_at R [] [] index x all is = absurd (none_is x is)
partner_at R [] (y ∷ ys) index x all is = absurd all
partner_at R (a ∷ xs) [] index x all is = absurd all
partner_at R (a ∷ xs) (y ∷ ys) zero x all is = record { partner = y; is_there = refl; related = subst (λ z. R z y) (some_is a x is) all.0 }
partner_at R (a ∷ xs) (y ∷ ys) (suc index) x all is = partner_at R xs ys index x all.1 is

-- and none where the other list has none
pub none_at : {A B : Type 0} (R : A → B → Type 0) (xs : List A) (ys : List B) (index : ℕ) → ArePairwise R xs ys → slice_get xs index ≡ None → slice_get ys index ≡ None
none_at R [] [] index all is = refl
none_at R [] (y ∷ ys) index all is = absurd all
none_at R (a ∷ xs) [] index all is = absurd all
none_at R (a ∷ xs) (y ∷ ys) zero all is = absurd (none_is a (sym is))
none_at R (a ∷ xs) (y ∷ ys) (suc index) all is = none_at R xs ys index all.1 is

-- what `get` finds is what stands at the index
pub found_at : {T : Type 0} (xs : List T) (index : ℕ) (found : Option (Bor T)) → IfSome found (λ x. x.now ≡ get_or xs index x.now)
    → MatchOption found (length xs ≤ index) (λ x. (index < length xs) × HoldsAt (λ y. x.now ≡ y) xs index) → option_copied found ≡ slice_get xs index
found_at xs index None value within = sym (slice_get_past xs index within)
found_at xs index (Some x) value within = ap Some value ∙ sym (slice_get-get_or xs index x.now within.0)

-- what was found in a list that lies in memory
pub found_some : {T : Type 0} (is xs : List T) (index : ℕ) (found : Option (Bor T)) (x : Bor T) → xs ≡ is → IfSome found (λ y. y.now ≡ get_or xs index y.now)
    → MatchOption found (length xs ≤ index) (λ y. (index < length xs) × HoldsAt (λ z. y.now ≡ z) xs index) → found ≡ Some x → slice_get is index ≡ Some x.now
found_some {T} is xs index found x lies value within got =
    ap (λ (ys : List T). slice_get ys index) (sym lies) ∙ (sym (found_at xs index found value within) ∙ ap option_copied got)

pub found_none : {T : Type 0} (is xs : List T) (index : ℕ) (found : Option (Bor T)) → xs ≡ is → IfSome found (λ y. y.now ≡ get_or xs index y.now)
    → MatchOption found (length xs ≤ index) (λ y. (index < length xs) × HoldsAt (λ z. y.now ≡ z) xs index) → found ≡ None → slice_get is index ≡ None
found_none {T} is xs index found lies value within got =
    ap (λ (ys : List T). slice_get ys index) (sym lies) ∙ (sym (found_at xs index found value within) ∙ ap option_copied got)
