-- Maps after a change at one key.
use Rattle.std.proofs.Common.{◌≡◌, ◌⊎◌, ◌∙◌, ℕ, nat_eq, cond, Bool, true, false, List, Option, Some, Result, Ok, Err, OnOk, OnErr, refl, sym, ap, inl, inr}
use Rattle.std.proofs.lemmas.Bool.{eqb-true}
use Rattle.std.specs.HashMap.{HashMap, get, IsUnchanged, Updates}
use Rattle.std.specs.Map.{lookup}

chosen : {X : Type 0} (b : Bool) (w old : Option X) (x : X) → cond b w old ≡ Some x → ((b ≡ true) × (w ≡ Some x)) ⊎ (old ≡ Some x)
chosen true w old x is = inl (refl, is)
chosen false w old x is = inr is

module _ {X S : Type 0} where
  -- what is there after a change was there, or it is what was put there
  pub changed_at : (k : ℕ) (w : Option X) (m n : HashMap ℕ X S) → Updates nat_eq m n k w → (q : ℕ) (x : X) → get nat_eq n q ≡ Some x
      → (get nat_eq m q ≡ Some x) ⊎ ((q ≡ k) × (w ≡ Some x))
  changed_at k w m n u q x is = elim (chosen (nat_eq k q) w (get nat_eq m q) x (sym (u.0 q) ∙ is)) [
    | inl here ↦ inr (sym (eqb-true k q here.0), here.1)
    | inr before ↦ inl before
  ]

  -- so it is after an insertion, also where that was refused
  pub inserted_at : {A E : Type 0} (r : Result A E) (k : ℕ) (w : X) (m n : HashMap ℕ X S) → OnOk r (Updates nat_eq m n k (Some w)) → OnErr r (IsUnchanged m n) → (q : ℕ) (x : X)
      → get nat_eq n q ≡ Some x → (get nat_eq m q ≡ Some x) ⊎ ((q ≡ k) × (Some w ≡ Some x))
  inserted_at (Ok a) k w m n u same q x is = changed_at k (Some w) m n u q x is
  inserted_at (Err e) k w m n u same q x is = inl (sym (ap (λ (es : List (ℕ × X)). lookup (nat_eq q) es) same) ∙ is)
