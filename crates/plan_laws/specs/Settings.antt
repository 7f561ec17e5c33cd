-- By what an edge apply goes, by its words and by the schedule.
use Rattle.std.specs.Prelude.{ℕ, ◌-◌, List, [], ◌∷◌, Option, Some, None, codes, drop, length}
use Rattle.std.specs.Map.{lookup}
use Rattle.std.specs.Option.{unwrap_or}
use Rattle.std.specs.Str.{bytes_eq}
use Rattle.apply_options.specs.declared.apply_schedule.ApplySchedule.{ApplySchedule}
use Rattle.apply_options.specs.declared.apply_schedule.DenseVertexSet.{DenseVertexSet}
use Rattle.apply_options.specs.declared.apply_schedule.DenseVertexSet.TheVariants as dense
use Rattle.apply_options.specs.declared.apply_schedule.Direction.{Direction}
use Rattle.apply_options.specs.declared.apply_schedule.Direction.TheVariants as direction
use Rattle.apply_options.specs.declared.apply_schedule.Parallelization.{Parallelization}
use Rattle.apply_options.specs.declared.apply_schedule.Parallelization.TheVariants as parallelization

pub record ApplySettings : Type 0 where
  pub direction : Direction
  pub parallelization : Parallelization
  pub dense_vertex_set : DenseVertexSet

-- by what an engine goes: what the schedule says, and where it says nothing `SparsePush`, `serial` and `bool-array`
abbrev pub settings_used : ApplySchedule → ApplySettings
settings_used apply_schedule = record {
  direction = unwrap_or apply_schedule.direction direction.SparsePush;
  parallelization = unwrap_or apply_schedule.parallelization parallelization.Serial;
  dense_vertex_set = unwrap_or apply_schedule.dense_vertex_set dense.BoolArray;
}

-- how each is spelled
abbrev pub directions : List (List ℕ × Direction)
directions =
    (codes "SparsePush", direction.SparsePush) ∷ (codes "DensePush", direction.DensePush)
    ∷ (codes "DensePull", direction.DensePull) ∷ (codes "DensePull-SparsePush", direction.Hybrid) ∷ []

abbrev pub parallelizations : List (List ℕ × Parallelization)
parallelizations =
    (codes "serial", parallelization.Serial) ∷ (codes "static-vertex-parallel", parallelization.StaticVertex)
    ∷ (codes "dynamic-vertex-parallel", parallelization.DynamicVertex)
    ∷ (codes "edge-aware-dynamic-vertex-parallel", parallelization.EdgeAwareDynamicVertex) ∷ []

abbrev pub dense_vertex_sets : List (List ℕ × DenseVertexSet)
dense_vertex_sets = (codes "bool-array", dense.BoolArray) ∷ (codes "bitvector", dense.Bitvector) ∷ []

abbrev pub settings_with : Option Direction → Option Parallelization → Option DenseVertexSet → Option ApplySettings
settings_with (Some d) (Some p) (Some v) = Some (record { direction = d; parallelization = p; dense_vertex_set = v })
settings_with _ _ _ = None

abbrev pub settings_of : List (List ℕ) → Option ApplySettings
settings_of (d ∷ p ∷ v ∷ []) = settings_with (lookup (bytes_eq d) directions) (lookup (bytes_eq p) parallelizations) (lookup (bytes_eq v) dense_vertex_sets)
settings_of _ = None

-- the last three words of an edge apply
abbrev pub settings_in : List (List ℕ) → Option ApplySettings
settings_in words = settings_of (drop (length words - 3) words)
