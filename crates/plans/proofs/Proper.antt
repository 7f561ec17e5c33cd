-- Statements without blocks: what is visible after them, and that vertex sets stay ascending.
use Rattle.std.proofs.Common.{◌≡◌, ℕ, zero, suc, ◌+◌, ◌≤◌, ℤ, pos, List, [], ◌∷◌, ◌++◌, length, take, Option, Some, None, slice_get, slice_index_or, ap, ◌∙◌, refl, arith}
use Rattle.std.proofs.lemmas.List.{length-append, length-set}
use Rattle.typed_tree.specs.declared.statement.SetValue.{SetValue}
use Rattle.typed_tree.specs.declared.statement.SetValue.TheVariants as set
use Rattle.typed_tree.specs.BlockTree.{SimpleStatementTree, DeclareInt, DeclareBool, SetInt, SetBool, ReduceInt, SetEntry, ReduceEntry, DeclareSet, AssignSet, AddVertex}
use Rattle.typed_tree.specs.BlockTree.{PrintInt, PrintBool, ApplyVertex, ApplyEdges, Simple}
use Rattle.typed_tree.specs.ProgramTree.{ProgramTree}
use Rattle.algorithm_meaning.specs.State.{GraphValue, StateValue}
use Rattle.algorithm_meaning.specs.Value.{members_of}
use Rattle.algorithm_meaning.specs.Stand.{Stand, Live, Over, with_value, int_value_in, bool_value_in, vertex_in}
use Rattle.algorithm_meaning.specs.Function.{lets_through}
use Rattle.algorithm_meaning.specs.EdgeApply.{is_modified, after_edge_apply}
use Rattle.algorithm_meaning.specs.VertexSets.{members_for, set_members, inserted, vectors_after, with_new_set, with_members}
use Rattle.algorithm_meaning.specs.Statements.{with_vectors}
use Rattle.algorithm_meaning.specs.Arithmetic.{reduced}
use Rattle.algorithm_meaning.specs.Meaning.{after_simple}
use Rattle.algorithm_meaning.specs.declared.state.Depth.{Depth}
use Rattle.plans.specs.inside.Plan.{IsWithin}
use Rattle.plans.specs.Plan.{depth_after, depth_with_set}
use Rattle.algorithm_meaning.specs.Loop.{forget_beyond, depth_of}
use Rattle.plans.proofs.Depths.{visible-forgotten}
use Rattle.plans.proofs.Ascending.{AscendsFrom, AreAscending, ascends_range, ascends_filter, ascends_inserted}

-- what a run keeps at a depth with no more turns left than these
pub record IsProper (d : Depth) (turns : ℕ) (s : StateValue) : Type 0 where
  pub deep : depth_of s ≡ d
  pub sets : AreAscending s
  pub fewer : s.turns ≤ turns

pub length-set_members : (sets : _) (index : ℕ) (members : List ℕ) → length (set_members sets index members) ≡ length sets
length-set_members [] index members = refl
length-set_members (x ∷ xs) zero members = refl
length-set_members (x ∷ xs) (suc n) members = ap suc (length-set_members xs n members)

-- the members at an index of a list with one more set
new_members : (P : List ℕ → Type 0) (sets : _) (x : _) (index : ℕ) → P [] → P (members_of (Some x)) → ((index : ℕ) → P (members_of (slice_get sets index)))
    → P (members_of (slice_get (sets ++ x ∷ []) index))
new_members P [] x zero none here all = here
new_members P [] x (suc n) none here all = none
new_members P (y ∷ ys) x zero none here all = all zero
new_members P (y ∷ ys) x (suc n) none here all = new_members P ys x n none here (λ index. all (suc index))

-- of a list in which one set has others
put_members : (P : List ℕ → Type 0) (sets : _) (at : ℕ) (members : List ℕ) (index : ℕ) → P members → ((index : ℕ) → P (members_of (slice_get sets index)))
    → P (members_of (slice_get (set_members sets at members) index))
put_members P [] at members index here all = all index
put_members P (y ∷ ys) zero members zero here all = here
put_members P (y ∷ ys) zero members (suc n) here all = all (suc n)
put_members P (y ∷ ys) (suc m) members zero here all = all zero
put_members P (y ∷ ys) (suc m) members (suc n) here all = put_members P ys m members n here (λ index. all (suc index))

-- of the first ones
first_members : (P : List ℕ → Type 0) (sets : _) (count index : ℕ) → P [] → ((index : ℕ) → P (members_of (slice_get sets index)))
    → P (members_of (slice_get (take count sets) index))
first_members P sets zero index none all = none
first_members P [] (suc n) index none all = none
first_members P (y ∷ ys) (suc n) zero none all = all zero
first_members P (y ∷ ys) (suc n) (suc m) none all = first_members P ys n m none (λ index. all (suc index))

pub proper-forgotten : (d e : Depth) (turns : ℕ) (s : StateValue) → IsWithin d e → IsProper e turns s → IsProper d turns (forget_beyond d s)
proper-forgotten d e turns s h k = record {
  deep = visible-forgotten d e s k.deep h;
  sets = λ index. first_members (AscendsFrom 0) s.sets d.sets index tt k.sets;
  fewer = k.fewer;
}

members-ascend : (p : ProgramTree) (g : GraphValue) (set : SetValue) (s : StateValue) → AreAscending s → AscendsFrom 0 (members_for p g set s)
members-ascend p g set.Empty s h = tt
members-ascend p g set.All s h = ascends_range 0 g.vertices
members-ascend p g (set.Copy slot) s h = h slot.index
members-ascend p g (set.Filter slot function) s h =
    ascends_filter (lets_through p.filters function s.sets s.vectors) 0 (members_of (slice_get s.sets slot.index)) (h slot.index)
members-ascend p g (set.Modified ends function vector) s h =
    ascends_filter (is_modified vector s.vectors (after_edge_apply p.filters p.edge_functions g ends (function ∷ []) s)) 0 _ (ascends_range 0 g.vertices)

-- where a statement leaves a run: it goes on at the second depth, or it has ended at the first
abbrev pub Leaves : (d e : Depth) → (turns : ℕ) → Stand → Type 0
Leaves d e turns (Live t) = IsProper e turns t
Leaves d e turns (Over t end) = depth_of t ≡ d

by_value : {A : Type 0} (o : Option A) (d e : Depth) (turns number : ℕ) (s : StateValue) (go : A → Stand) → depth_of s ≡ d → ((x : A) → Leaves d e turns (go x))
    → Leaves d e turns (with_value o number s go)
by_value None d e turns number s go deep h = deep
by_value (Some x) d e turns number s go deep h = h x

one_more : {A : Type 0} (xs : List A) (x : A) (n : ℕ) → length xs ≡ n → length (xs ++ x ∷ []) ≡ n + 1
one_more xs x n e = length-append xs (x ∷ []) ∙ ap (λ (m : ℕ). m + 1) e

-- a set that is declared, and one that is assigned, with other vectors
pub declared-proper : (d : Depth) (turns : ℕ) (s : StateValue) → IsProper d turns s → (name : ℕ) (members : List ℕ) (vectors : List (List ℤ)) → AscendsFrom 0 members
    → IsProper (depth_with_set d) turns (with_new_set (with_vectors s vectors) name members)
declared-proper d turns s proper name members vectors ascending = record {
  deep = λ i. record {
    integers = ap (λ (d : Depth). d.integers) proper.deep i;
    conditions = ap (λ (d : Depth). d.conditions) proper.deep i;
    sets = one_more s.sets (record { name = name; members = members }) d.sets (ap (λ (d : Depth). d.sets) proper.deep) i;
  };
  sets = λ index. new_members (AscendsFrom 0) s.sets (record { name = name; members = members }) index tt ascending proper.sets;
  fewer = proper.fewer;
}

pub assigned-proper : (d : Depth) (turns : ℕ) (s : StateValue) → IsProper d turns s → (index : ℕ) (members : List ℕ) (vectors : List (List ℤ)) → AscendsFrom 0 members
    → IsProper d turns (with_members (with_vectors s vectors) index members)
assigned-proper d turns s proper index members vectors ascending = record {
  deep = λ i. record {
    integers = ap (λ (d : Depth). d.integers) proper.deep i;
    conditions = ap (λ (d : Depth). d.conditions) proper.deep i;
    sets = (length-set_members s.sets index members ∙ ap (λ (d : Depth). d.sets) proper.deep) i;
  };
  sets = λ at. put_members (AscendsFrom 0) s.sets index members at ascending proper.sets;
  fewer = proper.fewer;
}

module _ (p : ProgramTree) (g : GraphValue) (number : ℕ) (d : Depth) (turns : ℕ) (s : StateValue) (proper : IsProper d turns s) where
  integers_here : length s.scope.integers ≡ d.integers
  integers_here = ap (λ (d : Depth). d.integers) proper.deep

  conditions_here : length s.scope.conditions ≡ d.conditions
  conditions_here = ap (λ (d : Depth). d.conditions) proper.deep

  sets_here : length s.sets ≡ d.sets
  sets_here = ap (λ (d : Depth). d.sets) proper.deep

  pub simple-leaves : (a : SimpleStatementTree) → Leaves d (depth_after (Simple a) d) turns (after_simple p g number a s)
  simple-leaves (DeclareInt name e) =
      by_value (int_value_in g.vertices e s) d (depth_after (Simple (DeclareInt name e)) d) turns number s _ proper.deep (λ n. record {
        deep = λ i. record { integers = one_more s.scope.integers n d.integers integers_here i; conditions = conditions_here i; sets = sets_here i };
        sets = proper.sets;
        fewer = proper.fewer;
      })
  simple-leaves (DeclareBool name c) =
      by_value (bool_value_in g.vertices c s) d (depth_after (Simple (DeclareBool name c)) d) turns number s _ proper.deep (λ b. record {
        deep = λ i. record { integers = integers_here i; conditions = one_more s.scope.conditions b d.conditions conditions_here i; sets = sets_here i };
        sets = proper.sets;
        fewer = proper.fewer;
      })
  simple-leaves (SetInt slot e) =
      by_value (int_value_in g.vertices e s) d d turns number s _ proper.deep (λ n. record {
        deep = λ i. record { integers = (length-set s.scope.integers slot.index n ∙ integers_here) i; conditions = conditions_here i; sets = sets_here i };
        sets = proper.sets;
        fewer = proper.fewer;
      })
  simple-leaves (SetBool slot c) =
      by_value (bool_value_in g.vertices c s) d d turns number s _ proper.deep (λ b. record {
        deep = λ i. record { integers = integers_here i; conditions = (length-set s.scope.conditions slot.index b ∙ conditions_here) i; sets = sets_here i };
        sets = proper.sets;
        fewer = proper.fewer;
      })
  simple-leaves (ReduceInt slot reduction e) =
      by_value (int_value_in g.vertices e s) d d turns number s _ proper.deep (λ n.
      let x : ℤ = reduced reduction (slice_index_or s.scope.integers slot.index (pos 0)) n in record {
        deep = λ i. record { integers = (length-set s.scope.integers slot.index x ∙ integers_here) i; conditions = conditions_here i; sets = sets_here i };
        sets = proper.sets;
        fewer = proper.fewer;
      })
  simple-leaves (SetEntry vector subscript e) =
      by_value (vertex_in g.vertices subscript s) d d turns number s _ proper.deep (λ v.
      by_value (int_value_in g.vertices e s) d d turns number s _ proper.deep (λ n.
      record { deep = proper.deep; sets = proper.sets; fewer = proper.fewer }))
  simple-leaves (ReduceEntry vector subscript reduction e) =
      by_value (vertex_in g.vertices subscript s) d d turns number s _ proper.deep (λ v.
      by_value (int_value_in g.vertices e s) d d turns number s _ proper.deep (λ n.
      record { deep = proper.deep; sets = proper.sets; fewer = proper.fewer }))
  simple-leaves (DeclareSet name set) = declared-proper d turns s proper name (members_for p g set s) (vectors_after p g set s) (members-ascend p g set s proper.sets)
  simple-leaves (AssignSet slot set) = assigned-proper d turns s proper slot.index (members_for p g set s) (vectors_after p g set s) (members-ascend p g set s proper.sets)
  simple-leaves (AddVertex slot e) =
      by_value (vertex_in g.vertices e s) d d turns number s _ proper.deep (λ v.
      assigned-proper d turns s proper slot.index (inserted v (members_of (slice_get s.sets slot.index))) s.vectors
      (ascends_inserted v 0 (members_of (slice_get s.sets slot.index)) (omega arith) (proper.sets slot.index)))
  simple-leaves (PrintInt e) =
      by_value (int_value_in g.vertices e s) d d turns number s _ proper.deep (λ n.
      record { deep = proper.deep; sets = proper.sets; fewer = proper.fewer })
  simple-leaves (PrintBool c) =
      by_value (bool_value_in g.vertices c s) d d turns number s _ proper.deep (λ b.
      record { deep = proper.deep; sets = proper.sets; fewer = proper.fewer })
  simple-leaves (ApplyVertex set function) = record { deep = proper.deep; sets = proper.sets; fewer = proper.fewer }
  simple-leaves (ApplyEdges ends function) = record { deep = proper.deep; sets = proper.sets; fewer = proper.fewer }
