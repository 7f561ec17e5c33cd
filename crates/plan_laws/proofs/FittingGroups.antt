-- The groups of an accepted schedule fit the vectors of its program.
use Rattle.std.proofs.Common.{◌≡◌, ℕ, suc, zero, ◌+◌, ◌<◌, pos, Bool, true, false, nat_eq, List, [], ◌∷◌, ◌++◌, length, map, get_or, refl, sym, ◌∙◌, subst, arith}
use Rattle.std.proofs.lemmas.List.{length-map, length-replicate}
use Rattle.std.proofs.lemmas.List.FromFn.{length-range_with_len}
use Rattle.std.specs.List.{concat, list_any}
use Rattle.std.specs.Prelude.{Option, Some, None, Ok, if◌then◌else◌}
use Rattle.std.specs.Str.{bytes_eq}
use Rattle.typed_tree.specs.declared.program.InitialValue.{InitialValue}
use Rattle.typed_tree.specs.declared.program.InitialValue.TheVariants as beginning
use Rattle.typed_tree.specs.declared.program.Vector.{Vector}
use Rattle.typed_tree.specs.Independence.{name_at}
use Rattle.typed_tree.specs.ProgramTree.{ProgramTree}
use Rattle.apply_options.specs.ScheduleTree.{ScheduleTree}
use Rattle.algorithm_meaning.specs.State.{GraphValue}
use Rattle.algorithm_meaning.specs.VertexSets.{all_below}
use Rattle.algorithm_meaning.specs.Arithmetic.{wrapped}
use Rattle.algorithm_meaning.specs.Meaning.{initial_state, initial_entries, out_degree}
use Rattle.schedule.specs.Calls.{grown, grown_by, schedule_of}
use Rattle.schedule.specs.Schedule.{index_from, vector_by_name, vector_names, empty_schedule}
use Rattle.schedule.proofs.CallSteps.{Step, GivesValue, Fuses, PutsGroup, kept_by_calls}
use Rattle.schedule.proofs.Groups.{accepted_groups_are_distinct}
use Rattle.schedule.proofs.Indices.{concat_last}
use Rattle.vectors.specs.Vectors.{IsGrouping}
use Rattle.plan_laws.proofs.Places.{AllBelow, below_joined, below_in_all, one_place}

some_is : {A : Type 0} (o : Option A) (a b : A) → o ≡ Some a → o ≡ Some b → a ≡ b
some_is o a b is e = cc

-- an index of a name is below the number of names
either_index : (b : Bool) (at v n : ℕ) (rest : Option ℕ) → (rest ≡ Some v → v < suc at + n) → (if b then Some at else rest) ≡ Some v → v < at + suc n
either_index true at v n rest further is = let e : at ≡ v = some_is _ _ _ refl is in omega (arith, e)
either_index false at v n rest further is = let l = further is in omega (arith, l)

index_below : (at : ℕ) (name : List ℕ) (names : List (List ℕ)) (v : ℕ) → index_from at name names ≡ Some v → v < at + length names
index_below at name [] v is = let bad : None ≡ Some v = is in cc
index_below at name (n ∷ names) v is =
    either_index (bytes_eq name n) at v (length names) (index_from (suc at) name names) (λ e. index_below (suc at) name names v e) is

vector_below : (p : ProgramTree) (name : List ℕ) (v : ℕ) → vector_by_name p name ≡ Some v → v < length p.vectors
vector_below p name v is =
    let l = index_below 0 name (vector_names p.names p.vectors) v is in
    let e = length-map p.vectors (λ (x : Vector). name_at p.names x.name) in
    omega (arith, l, e)

-- a group grows by vectors that are there
grown_below : (p : ProgramTree) (taken group end : List ℕ) (names : List (List ℕ)) → AllBelow (length p.vectors) group → grown p taken group names ≡ Some end
    → AllBelow (length p.vectors) end
grown_below p taken group end [] all e = subst (AllBelow (length p.vectors)) (some_is _ _ _ refl e) all
grown_below p taken group end (name ∷ names) all e =
    at_index (vector_by_name p name) refl (λ more before. grown_below p taken more end names before) e
  where
    untaken : (v : ℕ) (any : Bool) → v < length p.vectors
        → ((more : List ℕ) → AllBelow (length p.vectors) more → grown p taken more names ≡ Some end → AllBelow (length p.vectors) end)
        → (if any then None else grown p taken (group ++ v ∷ []) names) ≡ Some end → AllBelow (length p.vectors) end
    untaken v true l others e = cc
    untaken v false l others e = others (group ++ v ∷ []) (below_joined (length p.vectors) group (v ∷ []) all (l, tt)) e

    at_index : (index : Option ℕ) → vector_by_name p name ≡ index
        → ((more : List ℕ) → AllBelow (length p.vectors) more → grown p taken more names ≡ Some end → AllBelow (length p.vectors) end)
        → grown_by taken group index (λ more. grown p taken more names) ≡ Some end → AllBelow (length p.vectors) end
    at_index None is others e = cc
    at_index (Some v) is others e = untaken v (list_any (nat_eq v) (taken ++ group)) (vector_below p name v is) others e

-- the vectors of the groups are vectors of the program
abbrev GroupsAreThere : ProgramTree → ScheduleTree → Type 0
GroupsAreThere p s = AllBelow (length p.vectors) (concat s.groups)

step_keeps_groups : (p : ProgramTree) (s new : ScheduleTree) → GroupsAreThere p s → Step p s new → GroupsAreThere p new
step_keeps_groups p s new old (GivesValue setting text label c is after) = subst (GroupsAreThere p) after old
step_keeps_groups p s new old (Fuses a b none after) = subst (GroupsAreThere p) after old
step_keeps_groups p s new old (PutsGroup names group is after) =
    subst (GroupsAreThere p) after
    (subst (AllBelow (length p.vectors)) (sym (concat_last s.groups group))
    (below_joined (length p.vectors) (concat s.groups) group old (grown_below p (concat s.groups) [] group names tt is)))

groups_are_there : (p : ProgramTree) (s : ScheduleTree) → schedule_of p ≡ Ok s → GroupsAreThere p s
groups_are_there p s e = kept_by_calls p (GroupsAreThere p) (step_keeps_groups p) p.schedule empty_schedule s tt e

-- each vector begins with an entry for each vertex
entry_count : (g : GraphValue) (b : InitialValue) → length (initial_entries g b) ≡ g.vertices
entry_count g (beginning.Number n) = length-replicate g.vertices n
entry_count g beginning.OutDegrees =
    length-map (all_below g.vertices) (λ (v : ℕ). wrapped (pos (out_degree v g.edges))) ∙ length-range_with_len 0 g.vertices

entries_at : (g : GraphValue) (vs : List Vector) (x : ℕ) → x < length vs → length (get_or (map (λ v. initial_entries g v.beginning) vs) x []) ≡ g.vertices
entries_at g [] x inside = absurd (omega (arith, inside))
entries_at g (v ∷ vs) zero inside = entry_count g v.beginning
entries_at g (v ∷ vs) (suc x) inside = let within : x < length vs = omega (arith, inside) in entries_at g vs x within

pub groups_fit : (p : ProgramTree) (s : ScheduleTree) → schedule_of p ≡ Ok s → (g : GraphValue) (turns : ℕ) → IsGrouping (initial_state p g turns).vectors s.groups
groups_fit p s accepted g turns =
    let there = groups_are_there p s accepted in
    let distinct = accepted_groups_are_distinct p s accepted in
    let count = length-map p.vectors (λ (v : Vector). initial_entries g v.beginning) in
    let below = below_in_all (length p.vectors) s.groups there in
    record {
      known = λ a h some inside. (let l = below a h some inside in omega (arith, l, count));
      group = λ a h i j some inside other within same. (one_place s.groups distinct a h i j some inside other within same).0;
      index = λ a h i j some inside other within same. (one_place s.groups distinct a h i j some inside other within same).1;
      even = λ a h some inside.
          entries_at g p.vectors _ (below a h some inside) ∙ sym (entries_at g p.vectors _ (below a 0 some (omega (arith, inside))));
    }
