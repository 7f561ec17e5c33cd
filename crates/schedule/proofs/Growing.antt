-- A group while its names are read, one after the other.
use Rattle.std.proofs.Common.{◌≡◌, ap, sym, ◌∙◌, ℕ, suc, ◌+◌, ◌<◌, true, false, nat_eq, List, [], ◌∷◌, ◌++◌, length, drop, get_or, drop-cons, add-one}
use Rattle.std.specs.List.{list_any}
use Rattle.std.specs.Prelude.{Option, Some, None, if◌then◌else◌}
use Rattle.typed_tree.specs.ProgramTree.{ProgramTree}
use Rattle.schedule.specs.Calls.{grown, grown_by}
use Rattle.schedule.specs.Schedule.{vector_by_name}

module _ (p : ProgramTree) (taken group : List ℕ) (names : List (List ℕ)) (i : ℕ) (name : List ℕ) (inside : i < length names) (is : name ≡ get_or names i name) where
  -- the next name
  grown_next : (index : Option ℕ) → vector_by_name p name ≡ index
      → grown p taken group (drop i names) ≡ grown_by taken group index (λ more. grown p taken more (drop (suc i) names))
  grown_next index named =
      ap (grown p taken group) (drop-cons names i name inside ∙ ap (λ n. n ∷ drop (suc i) names) (sym is))
      ∙ ap (λ o. grown_by taken group o (λ more. grown p taken more (drop (suc i) names))) named

  -- a name that is no vector's makes no group
  pub grown_unknown : vector_by_name p name ≡ None → grown p taken group (drop i names) ≡ None
  grown_unknown named = grown_next None named

  -- nor does one that is taken, or stands there twice
  pub grown_taken : (v : ℕ) → vector_by_name p name ≡ Some v → list_any (nat_eq v) (taken ++ group) ≡ true → grown p taken group (drop i names) ≡ None
  grown_taken v named there =
      grown_next (Some v) named ∙ ap (λ b. if b then None else grown p taken (group ++ v ∷ []) (drop (suc i) names)) there

  -- any other is after the group
  pub grown_on : (v : ℕ) → vector_by_name p name ≡ Some v → list_any (nat_eq v) (taken ++ group) ≡ false
      → grown p taken group (drop i names) ≡ grown p taken (group ++ v ∷ []) (drop (i + 1) names)
  grown_on v named new =
      grown_next (Some v) named
      ∙ ap (λ b. if b then None else grown p taken (group ++ v ∷ []) (drop (suc i) names)) new
      ∙ ap (λ k. grown p taken (group ++ v ∷ []) (drop k names)) (sym (add-one i))
