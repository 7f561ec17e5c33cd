-- The boundaries of each way.
use Rattle.std.proofs.Common.{◌≡◌, ℕ, ◌+◌, ◌*◌, ◌<◌, List, [], ◌∷◌, length, refl, arith}
use Rattle.std.specs.Int.{div_ceil}
use Rattle.apply_options.specs.declared.apply_schedule.Parallelization.{Parallelization}
use Rattle.apply_options.specs.declared.apply_schedule.Parallelization.TheVariants.{Serial, StaticVertex, DynamicVertex, EdgeAwareDynamicVertex}
use Rattle.crew.specs.Boundaries.{edge_aware_ends, boundaries}
use Rattle.crew.specs.Limits.{EachEndsAtLimit, weight}
use Rattle.crew.specs.Partition.{AreEnds}
use Rattle.crew.proofs.Runs.{dynamic_are_ends, dynamic_none, part_is_some, rest_are_ends, static_are_ends, static_none}
use Rattle.crew.proofs.Reaching.{begins_at_limit, limited_are_ends}

pub all_are_ends : (p : Parallelization) (w c : ℕ) (ds : List ℕ) → 0 < w → (p ≡ EdgeAwareDynamicVertex → length ds ≡ c) → AreEnds 0 c (boundaries p w c ds)
all_are_ends Serial w c ds some same = rest_are_ends 0 c c (let e : 0 + c ≡ c = omega arith in e)
all_are_ends StaticVertex w c ds some same = static_are_ends w c some
all_are_ends DynamicVertex w c ds some same = dynamic_are_ends w c some
all_are_ends EdgeAwareDynamicVertex w c ds some same =
    let e = same refl in
    limited_are_ends (div_ceil (weight ds) (4 * w)) 0 0 0 c ds (λ h. refl) (λ h. absurd (omega (arith, h))) (omega arith) (omega (arith, e))

pub runs_end_at_limit : (w : ℕ) (ds : List ℕ) → 0 < w → EachEndsAtLimit (div_ceil (weight ds) (4 * w)) 0 (edge_aware_ends w ds) ds
runs_end_at_limit w ds some = begins_at_limit (div_ceil (weight ds) (4 * w)) ds (λ h. part_is_some (weight ds) (4 * w) h (omega (arith, some)))

-- of no vertex
pub none_of_none : (p : Parallelization) (w : ℕ) (ds : List ℕ) → (p ≡ EdgeAwareDynamicVertex → length ds ≡ 0) → boundaries p w 0 ds ≡ []
none_of_none Serial w ds same = refl
none_of_none StaticVertex w ds same = static_none w
none_of_none DynamicVertex w ds same = dynamic_none w
none_of_none EdgeAwareDynamicVertex w [] same = refl
none_of_none EdgeAwareDynamicVertex w (d ∷ ds) same = let e = same refl in absurd (omega (arith, e))
