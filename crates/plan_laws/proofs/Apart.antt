-- Lists that have no number in common.
use Rattle.std.proofs.Common.{◌≡◌, ◌≢◌, refl, sym, ℕ, ◌==◌, ◌||◌, not, Bool, true, false, List, [], ◌∷◌, arith, Option, Some, None}
use Rattle.std.specs.List.{AllByRecursion, Contains, list_any}
use Rattle.std.proofs.lemmas.Bool.{and_from, ne_eqb, not_from_false, or_from}
use Rattle.std.proofs.lemmas.List.Elements.{Contains-append_right}
use Rattle.typed_tree.specs.FunctionStatementTree.{FunctionTree}
use Rattle.typed_tree.specs.Independence.{are_apart, is_none_of, are_independent, is_end_of_name}
use Rattle.typed_tree.specs.inside.Access.{steps_use_where, steps_write_where}
use Rattle.typed_tree.specs.ProgramTree.{ProgramTree}
use Rattle.typed_tree.specs.declared.apply.StatementApply.{StatementApply}
use Rattle.typed_tree.specs.declared.apply.StatementApply.TheVariants.{Vertices, Edges}
use Rattle.schedule.specs.Laws.{IsIndependent}
use Rattle.plans.proofs.GivenVectors.{writes_of_steps}

pub none_of : (x : ℕ) (ys : List ℕ) → (Contains ys x → ⊥) → is_none_of x ys ≡ true
none_of x [] not_in = refl
none_of x (y ∷ ys) not_in =
    let others : is_none_of x ys ≡ true = none_of x ys (λ is. not_in (Contains-append_right (y ∷ []) ys x is)) in
    both_not (y == x) (list_any (λ w. w == x) ys) (ne_eqb y x (λ same. not_in (0, omega arith, same))) others
  where
    both_not : (a b : Bool) → a ≡ false → not b ≡ true → not (a || b) ≡ true
    both_not true b first second = cc
    both_not false b first second = second

pub apart_from : (xs ys : List ℕ) → ((v : ℕ) → Contains xs v → Contains ys v → ⊥) → are_apart xs ys ≡ true
apart_from [] ys none = refl
apart_from (x ∷ xs) ys none =
    and_from (is_none_of x ys) (are_apart xs ys) (none_of x ys (λ is. none x (0, omega arith, refl) is))
    (apart_from xs ys (λ v first second. none v (Contains-append_right (x ∷ []) xs v first) second))

pub apart_from_none : (xs : List ℕ) → are_apart xs [] ≡ true
apart_from_none xs = apart_from xs [] (λ v first second. absurd (omega (arith, second.1)))

pub one_apart : (x : ℕ) (ys : List ℕ) → (Contains ys x → ⊥) → are_apart (x ∷ []) ys ≡ true
one_apart x ys none = and_from (is_none_of x ys) true (none_of x ys none) refl

pub apart_from_one : (y : ℕ) (xs : List ℕ) → AllByRecursion (λ x. x ≢ y) xs → are_apart xs (y ∷ []) ≡ true
apart_from_one y [] all = refl
apart_from_one y (x ∷ xs) all =
    and_from (is_none_of x (y ∷ [])) (are_apart xs (y ∷ []))
    (not_from_false (y == x || false) (or_from (y == x) false (ne_eqb y x (λ same. all.0 (sym same))) refl)) (apart_from_one y xs all.1)

-- what a function writes, it uses
pub writes_apart : (o : Option FunctionTree) (others : List ℕ) → are_apart (steps_use_where o) others ≡ true → are_apart (steps_write_where o) others ≡ true
writes_apart None others apart = refl
writes_apart (Some f) others apart = writes_of_steps (λ v. is_none_of v others) f.steps apart

-- two edge applies that share no vector are independent
pub independent : (p : ProgramTree) (one other : StatementApply) → IsIndependent p one other → are_independent p one other ≡ true
independent p (Edges a f r) (Edges b g s) is =
    and_from _ _ (not_from_false (is_end_of_name p.names r b.from || is_end_of_name p.names r b.to) (or_from _ _ is.changes_of_sources is.changes_of_destinations))
    (and_from _ _ (apart_from _ _ is.function) (and_from _ _ (apart_from _ _ is.sources) (apart_from _ _ is.destinations)))
independent p (Edges a f r) (Vertices set g) is = refl
independent p (Vertices set f) other is = refl
