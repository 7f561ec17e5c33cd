-- Updates of weight 1.
use Rattle.std.proofs.Common.{◌≡◌, ℕ, zero, suc, ℤ, pos, negsuc, ◌<◌, Bool, true, false, not, Some, None, List, [], ◌∷◌, length, map, get_or, refl, sym, ap, ◌∙◌}
use Rattle.std.proofs.Common.{arith}
use Rattle.std.proofs.lemmas.Bool.{eqb-true, false≢true, or_parts}
use Rattle.std.specs.List.{list_any}
use Rattle.edge_updates.specs.declared.edge_update.EdgeUpdate.{EdgeUpdate}
use Rattle.edge_updates.specs.EdgeUpdate.{vertex_of, neighbour_of, adds}
use Rattle.edge_updates.specs.Updates.{unit_pair, weight_said}
use Rattle.edge_updates.specs.Weighted.{weighted}
use Rattle.tail_codec.specs.Spelling.{is_one}
use Rattle.tree_batch.specs.declared.batch.Entry.{Entry}
use Rattle.tree_batch.specs.declared.batch.Entry.TheVariants.{Add, Remove, Grow}
use Rattle.tree_batch.specs.Edge.{Ends, has_weight}
use Rattle.tree_batch.specs.inside.Entry.{IsUpdateOf}

is_one_is : (w : ℤ) → is_one w ≡ true → w ≡ pos 1
is_one_is (pos n) e = ap pos (eqb-true n 1 e)
is_one_is (negsuc n) e = absurd (false≢true e)

not_not : (b : Bool) → not b ≡ false → b ≡ true
not_not true e = refl
not_not false e = absurd (false≢true (sym e))

some_weight : (w : ℤ) → Some w ≡ None → ⊥
some_weight w e = cc

no_ends : (p : Ends) → None ≡ Some p → ⊥
no_ends p e = cc

-- where all weights are 1 an update has its weight without it
pub unit_update : (x : Entry) (u : EdgeUpdate × ℤ) → has_weight x ≡ false → IsUpdateOf x (Some u) → IsUpdateOf x (Some (u.0, pos 1))
unit_update (Add s t w) u none says = (says.0, by_adding (adds u.0) refl)
  where
    by_adding : (b : Bool) → adds u.0 ≡ b → weight_said (u.0, pos 1) ≡ Some w
    by_adding true is = rw is (ap Some (sym (is_one_is w (not_not (is_one w) none))))
    by_adding false is = absurd (some_weight w (sym says.1 ∙ rw is refl))
unit_update (Remove s t) u none says = (says.0, by_adding (adds u.0) refl)
  where
    by_adding : (b : Bool) → adds u.0 ≡ b → weight_said (u.0, pos 1) ≡ None
    by_adding true is = let said : weight_said u ≡ Some u.1 = rw is refl in absurd (some_weight u.1 (sym said ∙ says.1))
    by_adding false is = rw is refl
unit_update (Grow n) u none says = absurd (no_ends (vertex_of u.0, neighbour_of u.0) says.0)

-- no entry has a weight where none of a list has
pub none_weighted : (xs : List Entry) (i : ℕ) (d : Entry) → list_any has_weight xs ≡ false → i < length xs → has_weight (get_or xs i d) ≡ false
none_weighted [] i d none lt = absurd (omega arith)
none_weighted (x ∷ xs) zero d none lt = let parts = or_parts (has_weight x) (list_any has_weight xs) none in parts.0
none_weighted (x ∷ xs) (suc i) d none lt = let parts = or_parts (has_weight x) (list_any has_weight xs) none in none_weighted xs i d parts.1 (omega arith)

-- updates whose column of weights is empty
pub no_weights : (us : List EdgeUpdate) → weighted us [] ≡ map unit_pair us
no_weights [] = refl
no_weights (u ∷ us) = ap (λ ps. (u, pos 1) ∷ ps) (no_weights us)
