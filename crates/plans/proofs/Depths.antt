-- What is visible in a state, and states without the rest.
use Rattle.std.proofs.Common.{◌≡◌, ℕ, zero, suc, ◌≤◌, List, [], ◌∷◌, take, ap, sym, ◌∙◌, refl, arith}
use Rattle.std.proofs.Math.Seq.{take-length}
use Rattle.std.proofs.lemmas.List.{length-take-le}
use Rattle.typed_tree.specs.BlockTree.{StatementKindTree, Simple, DeclareInt, DeclareBool, DeclareSet, BlockTree, Empty, Then}
use Rattle.algorithm_meaning.specs.State.{StateValue}
use Rattle.algorithm_meaning.specs.declared.state.Depth.{Depth}
use Rattle.plans.specs.inside.Plan.{IsWithin}
use Rattle.plans.specs.Plan.{depth_in_loop, depth_after, depth_after_all}
use Rattle.algorithm_meaning.specs.Loop.{depth_of, forget_beyond}

pub within_itself : (d : Depth) → IsWithin d d
within_itself d = record { integers = omega arith; conditions = omega arith; sets = omega arith }

pub within_both : (d e f : Depth) → IsWithin d e → IsWithin e f → IsWithin d f
within_both d e f h k = record {
  integers = omega (arith, h.integers, k.integers);
  conditions = omega (arith, h.conditions, k.conditions);
  sets = omega (arith, h.sets, k.sets);
}

pub within_loop : (d : Depth) → IsWithin d (depth_in_loop d)
within_loop d = record { integers = omega arith; conditions = omega arith; sets = omega arith }

pub within_after : (a : StatementKindTree) (d : Depth) → IsWithin d (depth_after a d)
within_after (Simple (DeclareInt name e)) d = record { integers = omega arith; conditions = omega arith; sets = omega arith }
within_after (Simple (DeclareBool name c)) d = record { integers = omega arith; conditions = omega arith; sets = omega arith }
within_after (Simple (DeclareSet name set)) d = record { integers = omega arith; conditions = omega arith; sets = omega arith }
within_after _ d = within_itself d

pub within_after_all : (b : BlockTree) (d : Depth) → IsWithin d (depth_after_all b d)
within_after_all Empty d = within_itself d
within_after_all (Then number label action rest) d =
    within_both d (depth_after action d) (depth_after_all rest (depth_after action d)) (within_after action d) (within_after_all rest (depth_after action d))

take_less : {A : Type 0} (m n : ℕ) (xs : List A) → m ≤ n → take m (take n xs) ≡ take m xs
take_less zero n xs h = refl
take_less (suc m) zero xs h = absurd (omega (arith, h))
take_less (suc m) (suc n) [] h = refl
take_less {A} (suc m) (suc n) (x ∷ xs) h = ap (λ (ys : List A). x ∷ ys) (take_less m n xs (omega (arith, h)))

-- nothing is forgotten
all_kept : (s : StateValue) → forget_beyond (depth_of s) s ≡ s
all_kept s = λ i. record s {
  sets = take-length s.sets i;
  scope = record s.scope { integers = take-length s.scope.integers i; conditions = take-length s.scope.conditions i };
}

pub forgotten-all : (d : Depth) (s : StateValue) → depth_of s ≡ d → forget_beyond d s ≡ s
forgotten-all d s e = ap (λ (d : Depth). forget_beyond d s) (sym e) ∙ all_kept s

-- to forget twice
pub forgotten-less : (d e : Depth) (s : StateValue) → IsWithin d e → forget_beyond d (forget_beyond e s) ≡ forget_beyond d s
forgotten-less d e s h = λ i. record s {
  sets = take_less d.sets e.sets s.sets h.sets i;
  scope = record s.scope {
    integers = take_less d.integers e.integers s.scope.integers h.integers i;
    conditions = take_less d.conditions e.conditions s.scope.conditions h.conditions i;
  };
}

visible-less : (d : Depth) (s : StateValue) → IsWithin d (depth_of s) → depth_of (forget_beyond d s) ≡ d
visible-less d s h = λ i. record {
  integers = length-take-le d.integers s.scope.integers h.integers i;
  conditions = length-take-le d.conditions s.scope.conditions h.conditions i;
  sets = length-take-le d.sets s.sets h.sets i;
}

pub visible-forgotten : (d e : Depth) (s : StateValue) → depth_of s ≡ e → IsWithin d e → depth_of (forget_beyond d s) ≡ d
visible-forgotten d e s deep h = visible-less d s (rw deep h)
