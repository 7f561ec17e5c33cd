-- What a run has printed are lines, and its sets have vertices, statement by statement.
use Rattle.std.proofs.Common.{◌≡◌, ℕ, zero, suc, ◌<◌, nat_lt, Bool, true, false, ℤ, pos, negsuc, List, [], ◌∷◌, ◌++◌, map, take, Option, Some, None, slice_get, is_some, inl, inr, refl, sym, ap, ◌∙◌}
use Rattle.std.proofs.Common.{arith, append_assoc}
use Rattle.std.proofs.lemmas.Bool.{cases_Bool, false≢true, ltb-true}
use Rattle.std.proofs.lemmas.List.{append-nil}
use Rattle.std.specs.Option.{option_and_then}
use Rattle.std.specs.List.{AllByRecursion, concat}
use Rattle.typed_tree.specs.declared.statement.SetValue.{SetValue}
use Rattle.typed_tree.specs.declared.statement.SetValue.TheVariants as set
use Rattle.typed_tree.specs.BlockTree.{SimpleStatementTree, DeclareInt, DeclareBool, SetInt, SetBool, ReduceInt, SetEntry, ReduceEntry, DeclareSet, AssignSet, AddVertex}
use Rattle.typed_tree.specs.BlockTree.{PrintInt, PrintBool, ApplyVertex, ApplyEdges, StatementKindTree, Simple, If, IfElse, While, For, BlockTree, Empty, Then}
use Rattle.typed_tree.specs.ProgramTree.{ProgramTree}
use Rattle.algorithm_meaning.specs.declared.outcome.End.TheVariants.{TurnsOver}
use Rattle.algorithm_meaning.specs.declared.state.Depth.{Depth}
use Rattle.algorithm_meaning.specs.declared.state.SetBinding.{SetBinding}
use Rattle.algorithm_meaning.specs.State.{GraphValue, StateValue}
use Rattle.algorithm_meaning.specs.Value.{members_of}
use Rattle.algorithm_meaning.specs.Stand.{Stand, Live, Over, then_do, int_value_in, vertex_in, vertex_number, bool_value_in, with_value, choose}
use Rattle.algorithm_meaning.specs.Function.{lets_through}
use Rattle.algorithm_meaning.specs.Statements.{condition_line, integer_line}
use Rattle.algorithm_meaning.specs.VertexSets.{inserted, members_for, set_members}
use Rattle.algorithm_meaning.specs.Loop.{bounds_in, depth_of, for_body, for_test, leave, loop, next_of, take_turn, while_body, while_test}
use Rattle.algorithm_meaning.specs.Meaning.{after, after_simple, after_all, full_set, initial_state, meaning, named_set, outcome_of}
use Rattle.meaning_laws.specs.Members.{AreVertices}
use Rattle.meaning_laws.specs.Printing.{IsPrinted, IsPrintedLine}
use Rattle.meaning_laws.proofs.Ascending.{inserted_vertices, no_vertices}
use Rattle.meaning_laws.proofs.SetMembers.{filtered_vertices, modified_vertices, whole_vertices}

-- the text is lines, and each set has vertices
abbrev AreSets : ℕ → List SetBinding → Type 0
AreSets n sets = AllByRecursion (λ set. AreVertices n set.members) sets

record IsSound (n : ℕ) (s : StateValue) : Type 0 where
  printed : IsPrinted s.text
  sets : AreSets n s.sets

abbrev Sound : ℕ → Stand → Type 0
Sound n (Live s) = IsSound n s
Sound n (Over s end) = IsSound n s

-- one more line
pushed_lines : (lines : List (List ℕ)) (line : List ℕ) → AllByRecursion IsPrintedLine lines → IsPrintedLine line → AllByRecursion IsPrintedLine (lines ++ line ∷ [])
pushed_lines [] line are is = (is, tt)
pushed_lines (first ∷ lines) line are is = (are.0, pushed_lines lines line are.1 is)

pushed_text : (lines : List (List ℕ)) (line : List ℕ) → concat (lines ++ line ∷ []) ≡ concat lines ++ line
pushed_text [] line = append-nil line
pushed_text (first ∷ lines) line = ap (λ (l : List ℕ). first ++ l) (pushed_text lines line) ∙ sym (append_assoc first (concat lines) line)

printed_line : (text line : List ℕ) → IsPrinted text → IsPrintedLine line → IsPrinted (text ++ line)
printed_line text line are is =
    (are.0 ++ line ∷ [], pushed_lines are.0 line are.1 is, ap (λ (l : List ℕ). l ++ line) are.2 ∙ sym (pushed_text are.0 line))

-- sets, and one of them
members_are : (n : ℕ) (sets : List SetBinding) (index : ℕ) → AreSets n sets → AreVertices n (members_of (slice_get sets index))
members_are n [] index are = no_vertices n
members_are n (x ∷ xs) zero are = are.0
members_are n (x ∷ xs) (suc index) are = members_are n xs index are.1

pushed_sets : (n : ℕ) (sets : List SetBinding) (name : ℕ) (members : List ℕ) → AreSets n sets → AreVertices n members → AreSets n (sets ++ record { name = name; members = members } ∷ [])
pushed_sets n [] name members are is = (is, tt)
pushed_sets n (x ∷ xs) name members are is = (are.0, pushed_sets n xs name members are.1 is)

changed_sets : (n : ℕ) (sets : List SetBinding) (index : ℕ) (members : List ℕ) → AreSets n sets → AreVertices n members → AreSets n (set_members sets index members)
changed_sets n [] index members are is = tt
changed_sets n (x ∷ xs) zero members are is = (is, are.1)
changed_sets n (x ∷ xs) (suc index) members are is = (are.0, changed_sets n xs index members are.1 is)

first_sets : (n k : ℕ) (sets : List SetBinding) → AreSets n sets → AreSets n (take k sets)
first_sets n zero sets are = tt
first_sets n (suc k) [] are = tt
first_sets n (suc k) (x ∷ xs) are = (are.0, first_sets n k xs are.1)

value_members : (p : ProgramTree) (g : GraphValue) (value : SetValue) (s : StateValue) → AreSets g.vertices s.sets → AreVertices g.vertices (members_for p g value s)
value_members p g set.Empty s are = no_vertices g.vertices
value_members p g set.All s are = whole_vertices g.vertices
value_members p g (set.Copy slot) s are = members_are g.vertices s.sets slot.index are
value_members p g (set.Filter slot function) s are =
    filtered_vertices g.vertices (lets_through p.filters function s.sets s.vectors) (members_of (slice_get s.sets slot.index)) (members_are g.vertices s.sets slot.index are)
value_members p g (set.Modified ends function vector) s are = modified_vertices p g ends function vector s

-- a number that is a vertex is below their count
vertex_below : (n v : ℕ) (z : ℤ) → vertex_number n z ≡ Some v → v < n
vertex_below n v (pos m) is = elim (cases_Bool (nat_lt m n)) [
  | inl below ↦ let found : Some m ≡ Some v = rw (below) at is in let same : m ≡ v = cc in omega (arith, same, ltb-true m n below)
  | inr past ↦ let none : None ≡ Some v = rw (past) at is in absurd (false≢true (ap is_some none))
]
vertex_below n v (negsuc m) is = absurd (false≢true (ap is_some is))

found_below : (n v : ℕ) (o : Option ℤ) → option_and_then (vertex_number n) o ≡ Some v → v < n
found_below n v None is = absurd (false≢true (ap is_some is))
found_below n v (Some z) is = vertex_below n v z is

module _ (n : ℕ) where
  found_sound : {A : Type 0} (o : Option A) (number : ℕ) (s : StateValue) (go : A → Stand) → IsSound n s → ((x : A) → o ≡ Some x → Sound n (go x)) → Sound n (with_value o number s go)
  found_sound None number s go is each = is
  found_sound (Some x) number s go is each = each x refl

  value_sound : {A : Type 0} (o : Option A) (number : ℕ) (s : StateValue) (go : A → Stand) → IsSound n s → ((x : A) → Sound n (go x)) → Sound n (with_value o number s go)
  value_sound o number s go is each = found_sound o number s go is (λ x found. each x)

  choice_sound : (b : Bool) (x y : Stand) → Sound n x → Sound n y → Sound n (choose b x y)
  choice_sound true x y first second = first
  choice_sound false x y first second = second

  then_sound : (x : Stand) (go : StateValue → Stand) → Sound n x → ((s : StateValue) → IsSound n s → Sound n (go s)) → Sound n (then_do x go)
  then_sound (Live s) go is each = each s is
  then_sound (Over s end) go is each = is

  leave_sound : (depth : Depth) (x : Stand) → Sound n x → Sound n (leave depth x)
  leave_sound depth (Live s) is = record { printed = is.printed; sets = first_sets n depth.sets s.sets is.sets }
  leave_sound depth (Over s end) is = is

  turn_sound : (k : ℕ) (s : StateValue) (go : StateValue → Stand) → IsSound n s → ((t : StateValue) → IsSound n t → Sound n (go t)) → Sound n (take_turn k s go)
  turn_sound zero s go is each = is
  turn_sound (suc k) s go is each = each (record s { turns = k }) (record { printed = is.printed; sets = is.sets })

  module _ {A : Type 0} (test : A → StateValue → Option Bool) (body : A → StateValue → Stand) (next : A → A) (number : ℕ) (each : (a : A) (s : StateValue) → IsSound n s → Sound n (body a s)) where
    loop_sound : (k : ℕ) (a : A) (s : StateValue) → IsSound n s → Sound n (loop test body next number k a s)
    loop_sound zero a s is = value_sound (test a s) number s (λ b. choose b (Over s TurnsOver) (Live s)) is (λ b. choice_sound b (Over s TurnsOver) (Live s) is is)
    loop_sound (suc k) a s is =
        let turn = take_turn s.turns s (λ t. then_do (body a t) (loop test body next number k (next a))) in
        value_sound (test a s) number s (λ b. choose b turn (Live s)) is
        (λ b. choice_sound b turn (Live s)
        (turn_sound s.turns s (λ t. then_do (body a t) (loop test body next number k (next a))) is
        (λ t sound. then_sound (body a t) (loop test body next number k (next a)) (each a t sound) (λ u also. loop_sound k (next a) u also))) is)

module _ (p : ProgramTree) (g : GraphValue) where
  simple_sound : (a : SimpleStatementTree) (number : ℕ) (s : StateValue) → IsSound g.vertices s → Sound g.vertices (after_simple p g number a s)
  simple_sound (DeclareInt name e) number s is = value_sound g.vertices (int_value_in g.vertices e s) number s _ is (λ x. record { printed = is.printed; sets = is.sets })
  simple_sound (DeclareBool name c) number s is = value_sound g.vertices (bool_value_in g.vertices c s) number s _ is (λ b. record { printed = is.printed; sets = is.sets })
  simple_sound (SetInt slot e) number s is = value_sound g.vertices (int_value_in g.vertices e s) number s _ is (λ x. record { printed = is.printed; sets = is.sets })
  simple_sound (SetBool slot c) number s is = value_sound g.vertices (bool_value_in g.vertices c s) number s _ is (λ b. record { printed = is.printed; sets = is.sets })
  simple_sound (ReduceInt slot reduction e) number s is = value_sound g.vertices (int_value_in g.vertices e s) number s _ is (λ x. record { printed = is.printed; sets = is.sets })
  simple_sound (SetEntry vector subscript e) number s is =
      value_sound g.vertices (vertex_in g.vertices subscript s) number s _ is
      (λ v. value_sound g.vertices (int_value_in g.vertices e s) number s _ is (λ x. record { printed = is.printed; sets = is.sets }))
  simple_sound (ReduceEntry vector subscript reduction e) number s is =
      value_sound g.vertices (vertex_in g.vertices subscript s) number s _ is
      (λ v. value_sound g.vertices (int_value_in g.vertices e s) number s _ is (λ x. record { printed = is.printed; sets = is.sets }))
  simple_sound (DeclareSet name value) number s is =
      record { printed = is.printed; sets = pushed_sets g.vertices s.sets name (members_for p g value s) is.sets (value_members p g value s is.sets) }
  simple_sound (AssignSet slot value) number s is =
      record { printed = is.printed; sets = changed_sets g.vertices s.sets slot.index (members_for p g value s) is.sets (value_members p g value s is.sets) }
  simple_sound (AddVertex slot e) number s is =
      found_sound g.vertices (vertex_in g.vertices e s) number s _ is
      (λ v found. record {
        printed = is.printed;
        sets = changed_sets g.vertices s.sets slot.index (inserted v (members_of (slice_get s.sets slot.index))) is.sets
            (inserted_vertices g.vertices v (members_of (slice_get s.sets slot.index)) (found_below g.vertices v (int_value_in g.vertices e s) found)
            (members_are g.vertices s.sets slot.index is.sets));
      })
  simple_sound (PrintInt e) number s is =
      value_sound g.vertices (int_value_in g.vertices e s) number s _ is (λ x. record { printed = printed_line s.text (integer_line x) is.printed (inl (x, refl)); sets = is.sets })
  simple_sound (PrintBool c) number s is =
      value_sound g.vertices (bool_value_in g.vertices c s) number s _ is (λ b. record { printed = printed_line s.text (condition_line b) is.printed (inr (b, refl)); sets = is.sets })
  simple_sound (ApplyVertex set function) number s is = record { printed = is.printed; sets = is.sets }
  simple_sound (ApplyEdges ends function) number s is = record { printed = is.printed; sets = is.sets }

  mutual
    action_sound : (a : StatementKindTree) (number : ℕ) (s : StateValue) → IsSound g.vertices s → Sound g.vertices (after p g number a s)
    action_sound (Simple a) number s is = simple_sound a number s is
    action_sound (If c body) number s is =
        value_sound g.vertices (bool_value_in g.vertices c s) number s _ is
        (λ b. choice_sound g.vertices b _ _ (leave_sound g.vertices (depth_of s) _ (block_sound body s is)) is)
    action_sound (IfElse c body other) number s is =
        value_sound g.vertices (bool_value_in g.vertices c s) number s _ is
        (λ b. choice_sound g.vertices b _ _ (leave_sound g.vertices (depth_of s) _ (block_sound body s is)) (leave_sound g.vertices (depth_of s) _ (block_sound other s is)))
    action_sound (While c body) number s is =
        loop_sound g.vertices (while_test g.vertices c) (while_body (after_all p g body)) (λ (m : ℕ). m) number
        (λ a t sound. leave_sound g.vertices (depth_of t) _ (block_sound body t sound)) s.turns 0 s is
    action_sound (For name first end body) number s is =
        value_sound g.vertices (bounds_in g.vertices first end s) number s _ is
        (λ r. loop_sound g.vertices for_test (for_body (after_all p g body)) next_of number
        (λ a t sound. leave_sound g.vertices (depth_of t) _ (block_sound body _ (record { printed = sound.printed; sets = sound.sets }))) s.turns r s is)

    block_sound : (b : BlockTree) (s : StateValue) → IsSound g.vertices s → Sound g.vertices (after_all p g b s)
    block_sound Empty s is = is
    block_sound (Then number label a rest) s is = then_sound g.vertices (after p g number a s) (after_all p g rest) (action_sound a number s is) (λ t sound. block_sound rest t sound)

  first_constants : (names : List ℕ) → AreSets g.vertices (map (full_set g) names)
  first_constants [] = tt
  first_constants (name ∷ names) = (whole_vertices g.vertices, first_constants names)

  initial_state_sound : (turns : ℕ) → IsSound g.vertices (initial_state p g turns)
  initial_state_sound turns = record { printed = ([], tt, refl); sets = first_constants p.sets }

  named_sets : (sets : List SetBinding) → AreSets g.vertices sets → AllByRecursion (λ set. AreVertices g.vertices set.members) (map (named_set p.names) sets)
  named_sets [] are = tt
  named_sets (x ∷ xs) are = (are.0, named_sets xs are.1)

  outcome_prints : (turns : ℕ) (x : Stand) → Sound g.vertices x → IsPrinted (outcome_of p turns x).text
  outcome_prints turns (Live s) is = is.printed
  outcome_prints turns (Over s end) is = is.printed

  outcome_sets : (turns : ℕ) (x : Stand) → Sound g.vertices x → AllByRecursion (λ set. AreVertices g.vertices set.members) (outcome_of p turns x).sets
  outcome_sets turns (Live s) is = named_sets s.sets is.sets
  outcome_sets turns (Over s end) is = named_sets s.sets is.sets

pub prints : (p : ProgramTree) (g : GraphValue) (turns : ℕ) → IsPrinted (meaning p g turns).text
prints p g turns = outcome_prints p g turns (after_all p g p.main (initial_state p g turns)) (block_sound p g p.main (initial_state p g turns) (initial_state_sound p g turns))

pub shows_vertices : (p : ProgramTree) (g : GraphValue) (turns : ℕ) → AllByRecursion (λ set. AreVertices g.vertices set.members) (meaning p g turns).sets
shows_vertices p g turns = outcome_sets p g turns (after_all p g p.main (initial_state p g turns)) (block_sound p g p.main (initial_state p g turns) (initial_state_sound p g turns))
