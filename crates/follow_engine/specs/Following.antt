-- What an apply may take from the record of another.
use Rattle.std.specs.Prelude.{◌≡◌, ℕ, ◌≤◌, true, false, Option, Some, None, List, [], length, slice_index_or}
use Rattle.kernels.specs.FunctionStatementTree.{FunctionStatementsTree}
use Rattle.kernels.specs.EdgeApply.{is_member}
use Rattle.kernels.specs.Local.{is_local_code}
use Rattle.kernels.specs.declared.endpoint_filter.EndpointFilter.{EndpointFilter}
use Rattle.kernels.specs.declared.endpoint_filter.EndpointFilter.TheVariants as end
use Rattle.edge_fold.specs.Changed.{AreApart}
use Rattle.edge_fold.specs.Folded.{AreKernels}
use Rattle.edge_differences.specs.Listed.{AreSameBut}
use Rattle.edge_apply.specs.declared.apply.Apply.{Apply}
use Rattle.follow_engine.specs.declared.differences.Differences.{Differences}
use Rattle.follow_engine.specs.declared.differences.FormerApply.{FormerApply}
use Rattle.follow_engine.specs.Local.{AgreeAt, are_local}
use Rattle.follow_engine.specs.Reduced.{AreChangesReduced}

-- the ends let the same vertices through but for the listed ones, or are the same filter, which reads no other vertex
abbrev pub AreEndsBut : (listed : List ℕ) → Option EndpointFilter → Option EndpointFilter → Type 0
AreEndsBut listed None None = Unit {0}
AreEndsBut listed (Some (end.Members a)) (Some (end.Members b)) = (v : ℕ) → is_member v listed ≡ false → is_member v a.now.members ≡ is_member v b.now.members
AreEndsBut listed (Some (end.Filter a)) (Some (end.Filter b)) = (a.now ≡ b.now) × (is_local_code a.now.code.items ≡ true)
AreEndsBut listed a b = ⊥

-- what is named is all in which two applies of the same functions differ; more may be named
pub record DifferOnlyIn (d : Differences) (now was : Apply) : Type 0 where
  pub vertices : was.flat.now.vertices ≡ now.flat.now.vertices
  pub edges : AreSameBut d.edges.now now.flat.now.edges was.flat.now.edges
  pub entries : (v : ℕ) → is_member v d.entries.now ≡ false → AgreeAt now.vectors.now.vectors was.vectors.now.vectors v
  pub sources : AreEndsBut d.sources.now now.from was.from
  pub destinations : AreEndsBut d.destinations.now now.to was.to
  pub kernels : (steps : List FunctionStatementsTree) → AreKernels now.first.now now.second steps → AreKernels was.first.now was.second steps
  pub local : are_local now.first.now now.second ≡ true
  pub long : (x : ℕ) → now.flat.now.vertices ≤ length (slice_index_or now.vectors.now.vectors x [])
      → was.flat.now.vertices ≤ length (slice_index_or was.vectors.now.vectors x [])

-- an apply may follow the record of a former one
pub record CanFollow (now : Apply) (former : FormerApply) (d : Differences) : Type 0 where
  pub differ : DifferOnlyIn d now former.apply
  pub once : AreApart former.changes.now.vectors.items
  pub changes : AreChangesReduced former.apply former.changes.now.vectors.items
