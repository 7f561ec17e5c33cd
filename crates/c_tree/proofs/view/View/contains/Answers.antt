-- Proofs of `contains`, src/lookup.rt.
use Rattle.std.proofs.Common.{◌↔◌, ℕ, ℤ, inl, inr, List, [], ◌∷◌, IsTrue, refl}
use Rattle.std.specs.List.{Contains}
use Rattle.std.specs.Map.{keys_of}
use Rattle.std.specs.Option.{is_some}
use Rattle.std.proofs.lemmas.Bool.{false≢true, cases_eq, eq-eqb, ne_eqb}
use Rattle.ascending_lists.specs.Maps.{lookup}
use Rattle.ascending_lists.proofs.Ascending.{contains_head, contains_tail, contains_none, contains_cases}
use Rattle.c_tree.proofs.view.View.contains.Goals as goal

-- a key has a value just where it is among the keys
has_value : (k : ℕ) (es : List (ℕ × ℤ)) → IsTrue (is_some (lookup k es)) ↔ Contains (keys_of es) k
has_value k [] = (λ yes. absurd (false≢true yes), λ there. absurd (contains_none k there))
has_value k (e ∷ es) =
    elim (cases_eq e.0 k) [
      | inl is ↦ rw (eq-eqb e.0 k is) (λ _. rw (← is) (contains_head e.0 (keys_of es)), λ _. refl)
      | inr other ↦
          let rest = has_value k es in
          rw (ne_eqb e.0 k other) (
            λ yes. contains_tail e.0 k (keys_of es) (rest.0 yes),
            λ there. elim (contains_cases e.0 k (keys_of es) there) [ inl is ↦ absurd (other is) | inr later ↦ rest.1 later ],
          )
    ]

pub returns : goal.returns
returns c = rw (c.is_some.ensures, c.get.ensures) (has_value c.args.key c.args.self.now.entries)
