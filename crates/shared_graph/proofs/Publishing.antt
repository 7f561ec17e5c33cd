-- The steps of the publisher and of readers keep the rule of what is published.
use Rattle.std.proofs.Common.{◌≡◌, ◌≢◌, ℕ, Option, Some, None, List, [], ◌∷◌, ◌++◌, fold, set, refl, ◌∙◌, subst, ⊎_elim}
use mathlib.Core.Option.{some}
use lib.ListN.{get_elem?}
use Rattle.left_right.specs.Register.{Admits, TurnsAt, Turns, Forks, Merges}
use Rattle.atomic_table.proofs.Lists.{at_set, at_snoc}
use Rattle.shared_graph.specs.inside.Publishing.{Published, GoesOn, IsSeen, AreSeen, Sees, latest}
use Rattle.shared_graph.proofs.Prefixes.{prefix_self, prefix_trans}

pub goes_on_self : (x : Published) → GoesOn x x
goes_on_self x = record { book = refl; base = refl; log = prefix_self x.log }

-- what was seen of x was seen of what goes on where x ends
seen_on : (x y : Published) (v : Option Published) → GoesOn x y → IsSeen v x → IsSeen v y
seen_on x y None on seen = tt
seen_on x y (Some u) on seen = record { book = on.book ∙ seen.book; base = on.base ∙ seen.base; log = prefix_trans u.log x.log y.log seen.log on.log }

seen_set : (x : Published) (views : List (Option Published)) (seat : ℕ) (v : Option Published) → AreSeen x views → IsSeen v x → AreSeen x (set views seat v)
seen_set x views seat v are seen j u e = ⊎_elim (λ (t : (j ≡ seat) × (v ≡ u)). subst (λ z. IsSeen z x) t.1 seen) (λ (t : (j ≢ seat) × (get_elem? views j ≡ some u)). are j u t.1)
    (at_set views seat j v u e)

pub publishes : (seat : ℕ) (v : Option Published) (x y : Published) → GoesOn x y → TurnsAt AreSeen seat v x y Sees
publishes seat v x y on views are at =
    let now : AreSeen y views = λ j u e. seen_on x y u on (are j u e) in
    (Some y, seen_set y views seat (Some y) now (goes_on_self y), (are seat v at, refl))

pub enters : (seat : ℕ) (v : Option Published) → Turns AreSeen seat v (λ x. x) Sees
enters seat v x = publishes seat v x x (goes_on_self x)

pub admits : Admits AreSeen None
admits x views are seat v at = ⊎_elim (are seat v) (λ (e : None ≡ v). subst (λ z. IsSeen z x) e tt) (at_snoc views None v seat at)

pub forks : (seat : ℕ) (v : Option Published) → Forks AreSeen seat v v v
forks seat v x views are at j u e =
    ⊎_elim (seen_set x views seat v are (are seat v at) j u) (λ (same : v ≡ u). subst (λ z. IsSeen z x) same (are seat v at)) (at_snoc (set views seat v) v u j e)

pub merges : (seat : ℕ) (v : Option Published) (other : ℕ) (w : Option Published) → Merges AreSeen seat v other w w None
merges seat v other w x views are at apart there =
    let told : IsSeen w x = ⊎_elim (λ (t : (other ≡ seat) × (w ≡ w)). absurd (apart t.0)) (λ (t : (other ≢ seat) × (get_elem? views other ≡ some w)). are other w t.1)
    (at_set views seat other w w there) in
    seen_set x (set views seat w) other None (seen_set x views seat w are told) tt

-- the last of the values that are pending is the one that is published
pub last_pending : (x y : Published) (pending : List Published) → fold latest x (pending ++ y ∷ []) ≡ y
last_pending x y [] = refl
last_pending x y (z ∷ pending) = last_pending z y pending
