-- Vectors whose entries are put one after another.
use Rattle.std.proofs.Common.{◌≡◌, ℕ, ◌+◌, ◌<◌, ℤ, pos, List, [], length, get_or, set, sym, ap, ◌∙◌, inl, inr, arith, get_or-set_same, get_or-set_other}
use Rattle.std.proofs.Math.ListN.{length-set}
use Rattle.std.proofs.lemmas.Bool.Decides.{eqb_tells}
use Rattle.algorithm_meaning.specs.Value.{with_entry}
use Rattle.vectors.proofs.Layouts.{same_lists}

-- a vector's entries below v are those of a list, and nothing else has changed
pub record IsLoaded (old : List (List ℤ)) (i : ℕ) (numbers : List ℤ) (v : ℕ) (vectors : List (List ℤ)) : Type 0 where
  pub others : vectors ≡ set old i (get_or vectors i [])
  pub even : length (get_or vectors i []) ≡ length numbers
  pub entries : (u : ℕ) → u < v → get_or (get_or vectors i []) u (pos 0) ≡ get_or numbers u (pos 0)

set_twice : {A : Type 0} (xs : List A) (i : ℕ) (x y : A) → set (set xs i x) i y ≡ set xs i y
set_twice xs i x y =
    let a = length-set (set xs i x) i y in
    let b = length-set xs i x in
    let c = length-set xs i y in
    same_lists (set (set xs i x) i y) (set xs i y) y (a ∙ b ∙ sym c) (λ k l. elim (eqb_tells k i) [
      | inl same ↦
          ap (λ (m : ℕ). get_or (set (set xs i x) i y) m y) same.1
          ∙ (let s = same.1 in get_or-set_same (set xs i x) i y y (omega arith) ∙ sym (get_or-set_same xs i y y (omega arith)))
          ∙ ap (λ (m : ℕ). get_or (set xs i y) m y) (sym same.1)
      | inr other ↦ get_or-set_other (set xs i x) i k y y other.1 ∙ get_or-set_other xs i k x y other.1 ∙ sym (get_or-set_other xs i k y y other.1)
    ])

pub one_loaded : (old : List (List ℤ)) (i : ℕ) (numbers : List ℤ) (v : ℕ) (vectors : List (List ℤ)) → i < length old → v < length numbers
    → IsLoaded old i numbers v vectors → IsLoaded old i numbers (v + 1) (with_entry vectors i v (get_or numbers v (pos 0)))
one_loaded old i numbers v vectors inside below done =
    let x = get_or numbers v (pos 0) in
    let before = get_or vectors i [] in
    let after = set vectors i (set before v x) in
    let n = ap (λ (xs : List (List ℤ)). length xs) done.others ∙ length-set old i before in
    let even = done.even in
    let here : get_or after i [] ≡ set before v x = get_or-set_same vectors i (set before v x) [] (omega arith) in
    record {
      others = ap (λ (xs : List (List ℤ)). set xs i (set before v x)) done.others ∙ set_twice old i before (set before v x) ∙ ap (set old i) (sym here);
      even = ap (λ (xs : List ℤ). length xs) here ∙ length-set before v x ∙ even;
      entries = λ u l. ap (λ (xs : List ℤ). get_or xs u (pos 0)) here ∙ elim (eqb_tells u v) [
        | inl same ↦ ap (λ (m : ℕ). get_or (set before v x) m (pos 0)) same.1 ∙ get_or-set_same before v x (pos 0) (omega arith) ∙ ap (λ (m : ℕ). get_or numbers m (pos 0)) (sym same.1)
        | inr other ↦ get_or-set_other before v u x (pos 0) other.1 ∙ done.entries u (let d = other.1 in omega arith)
      ];
    }

pub all_loaded : (old : List (List ℤ)) (i : ℕ) (numbers : List ℤ) (v : ℕ) (vectors : List (List ℤ)) → v ≡ length numbers → IsLoaded old i numbers v vectors → vectors ≡ set old i numbers
all_loaded old i numbers v vectors all done =
    done.others ∙ ap (set old i) (same_lists (get_or vectors i []) numbers (pos 0) done.even (λ k l. done.entries k (let e = done.even in omega arith)))
