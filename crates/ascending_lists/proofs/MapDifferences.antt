-- Lists of entries without some keys: their keys, and what they give.
use Rattle.std.proofs.Common.{◌≡◌, ℕ, inl, inr, if◌then◌else◌, None, List, [], ◌∷◌, refl, ◌∙◌, ap, arith}
use Rattle.std.specs.Map.{keys_of}
use Rattle.std.proofs.lemmas.Bool.{cases_Bool, cases_eq, eq-eqb, ne_eqb}
use Rattle.ascending_lists.specs.Sets.{has, difference}
use Rattle.ascending_lists.specs.Maps.{IsMap, lookup}
use Rattle.ascending_lists.specs.MapOperations.{without_keys}
use Rattle.ascending_lists.proofs.Differences.{difference_ascends}
use Rattle.ascending_lists.proofs.MapKeys.{keys_ascend, entries_rise}

module _ {V : Type 0} where
  pub keys_without : (es : List (ℕ × V)) (ks : List ℕ) → keys_of (without_keys es ks) ≡ difference (keys_of es) ks
  keys_without [] ks = refl
  keys_without (e ∷ es) ks =
      elim (cases_Bool (has e.0 ks)) [
        | inl h ↦ rw h (keys_without es ks)
        | inr h ↦ rw h (ap (λ v. e.0 ∷ v) (keys_without es ks))
      ]

  or_nothing : (h : ℕ) (ks : List ℕ) → lookup {V = V} h [] ≡ (if has h ks then None else lookup {V = V} h [])
  or_nothing h ks = elim (cases_Bool (has h ks)) [ inl is ↦ rw is refl | inr is ↦ rw is refl ]

  pub value_without : (k : ℕ) (es : List (ℕ × V)) (ks : List ℕ) → lookup k (without_keys es ks) ≡ (if has k ks then None else lookup k es)
  value_without k [] ks = or_nothing k ks
  value_without k (e ∷ es) ks =
      elim (cases_eq e.0 k) [
        | inl is ↦ elim (cases_Bool (has k ks)) [
          | inl h ↦ rw (is, h) (value_without k es ks ∙ rw h refl)
          | inr h ↦ rw (is, h) (rw (eq-eqb k k refl) refl)
        ]
        | inr other ↦ elim (cases_Bool (has e.0 ks)) [
          | inl h ↦ rw (h, ne_eqb e.0 k other) (value_without k es ks)
          | inr h ↦ rw (h) (rw (ne_eqb e.0 k other) (value_without k es ks))
        ]
      ]

  pub map_without : (es : List (ℕ × V)) (ks : List ℕ) → IsMap es → IsMap (without_keys es ks)
  map_without es ks s =
      entries_rise 0 (without_keys es ks) (omega arith) (rw (keys_without es ks) (difference_ascends 0 (keys_of es) ks (keys_ascend 0 es s)))
