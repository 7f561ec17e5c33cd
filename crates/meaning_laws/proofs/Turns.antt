-- A run with more turns goes the same way, until its turns run out.
use Rattle.std.proofs.Common.{◌≡◌, ◌≢◌, ℕ, zero, suc, ◌+◌, ◌-◌, ◌≤◌, Bool, true, false, ◌&&◌, ℤ, List, [], ◌∷◌, map, Option, Some, None, slice_get, refl, sym, ap, ◌∙◌, subst, arith, suc-add}
use Rattle.std.proofs.lemmas.List.Elements.{filter_agree}
use Rattle.weighted_edges.specs.Edge.{Edge}
use Rattle.typed_tree.specs.declared.statement.ApplyEnds.{ApplyEnds}
use Rattle.typed_tree.specs.declared.statement.SetValue.{SetValue}
use Rattle.typed_tree.specs.declared.statement.SetValue.TheVariants as set
use Rattle.typed_tree.specs.declared.statement.VertexFilter.{VertexFilter}
use Rattle.typed_tree.specs.declared.statement.VertexFilter.TheVariants.{Members, Function}
use Rattle.typed_tree.specs.FunctionStatementTree.{FunctionTree}
use Rattle.typed_tree.specs.BlockTree.{SimpleStatementTree, DeclareInt, DeclareBool, SetInt, SetBool, ReduceInt, SetEntry, ReduceEntry, DeclareSet, AssignSet, AddVertex}
use Rattle.typed_tree.specs.BlockTree.{PrintInt, PrintBool, ApplyVertex, ApplyEdges, StatementKindTree, Simple, If, IfElse, While, For, BlockTree, Empty, Then}
use Rattle.typed_tree.specs.ProgramTree.{ProgramTree}
use Rattle.algorithm_meaning.specs.declared.outcome.End.{End}
use Rattle.algorithm_meaning.specs.declared.outcome.End.TheVariants.{Finished, TurnsOver, Fault}
use Rattle.algorithm_meaning.specs.declared.state.Depth.{Depth}
use Rattle.algorithm_meaning.specs.State.{GraphValue, StateValue}
use Rattle.algorithm_meaning.specs.Stand.{Stand, Live, Over, then_do, int_value_in, vertex_in, bool_value_in, with_value, choose}
use Rattle.algorithm_meaning.specs.Function.{steps_of}
use Rattle.algorithm_meaning.specs.EdgeApply.{after_edge_apply, after_edges, is_end, matching, modified, passes}
use Rattle.algorithm_meaning.specs.Statements.{with_vectors}
use Rattle.algorithm_meaning.specs.VertexSets.{after_assign_set, after_declare_set, with_members, with_new_set}
use Rattle.algorithm_meaning.specs.Loop.{bounds_in, depth_of, for_body, for_test, leave, loop, next_of, take_turn, while_body, while_test}
use Rattle.algorithm_meaning.specs.Meaning.{after, after_simple, after_all, initial_state, meaning, outcome_of, shown}

-- the state with so many more turns left
abbrev pub plus : ℕ → StateValue → StateValue
plus d s = record s { turns = s.turns + d }

-- the second stand is the first with so many more turns left; of one whose turns ran out nothing is said
abbrev pub Follows : ℕ → Stand → Stand → Type 0
Follows d (Live s) x = x ≡ Live (plus d s)
Follows d (Over s Finished) x = x ≡ Over (plus d s) Finished
Follows d (Over s TurnsOver) x = Unit {0}
Follows d (Over s (Fault number statement)) x = x ≡ Over (plus d s) (Fault number statement)

module _ (d : ℕ) where
  value_follows : {A : Type 0} (o : Option A) (number : ℕ) (s : StateValue) (go more : A → Stand) → ((x : A) → Follows d (go x) (more x))
      → Follows d (with_value o number s go) (with_value o number (plus d s) more)
  value_follows None number s go more each = refl
  value_follows (Some x) number s go more each = each x

  choice_follows : (b : Bool) (x y x' y' : Stand) → Follows d x x' → Follows d y y' → Follows d (choose b x y) (choose b x' y')
  choice_follows true x y x' y' first second = first
  choice_follows false x y x' y' first second = second

  then_follows : (x y : Stand) (go more : StateValue → Stand) → Follows d x y → ((s : StateValue) → Follows d (go s) (more (plus d s))) → Follows d (then_do x go) (then_do y more)
  then_follows (Live s) y go more is each = subst (λ (z : Stand). Follows d (go s) (then_do z more)) (sym is) (each s)
  then_follows (Over s Finished) y go more is each = ap (λ (z : Stand). then_do z more) is
  then_follows (Over s TurnsOver) y go more is each = tt
  then_follows (Over s (Fault number statement)) y go more is each = ap (λ (z : Stand). then_do z more) is

  leave_follows : (depth : Depth) (x y : Stand) → Follows d x y → Follows d (leave depth x) (leave depth y)
  leave_follows depth (Live s) y is = ap (leave depth) is
  leave_follows depth (Over s Finished) y is = ap (leave depth) is
  leave_follows depth (Over s TurnsOver) y is = tt
  leave_follows depth (Over s (Fault number statement)) y is = ap (leave depth) is

  turn_follows : (n : ℕ) (s : StateValue) (go more : StateValue → Stand) → ((t : StateValue) → Follows d (go t) (more (plus d t))) → Follows d (take_turn n s go) (take_turn (n + d) (plus d s) more)
  turn_follows zero s go more each = tt
  turn_follows (suc n) s go more each = subst (λ (m : ℕ). Follows d (go (record s { turns = n })) (take_turn m (plus d s) more)) (sym (suc-add n d)) (each (record s { turns = n }))

  -- a loop at its test
  stops : (number : ℕ) (s : StateValue) (o : Option Bool) (x : Stand) → Follows d (with_value o number s (λ b. choose b (Over s TurnsOver) (Live s)))
      (with_value o number (plus d s) (λ b. choose b x (Live (plus d s))))
  stops number s None x = refl
  stops number s (Some true) x = tt
  stops number s (Some false) x = refl

  goes : (number : ℕ) (s : StateValue) (o : Option Bool) (x y : Stand) → Follows d x y
      → Follows d (with_value o number s (λ b. choose b x (Live s))) (with_value o number (plus d s) (λ b. choose b y (Live (plus d s))))
  goes number s None x y is = refl
  goes number s (Some true) x y is = is
  goes number s (Some false) x y is = refl

  module _ {A : Type 0} (test : A → StateValue → Option Bool) (body : A → StateValue → Stand) (next : A → A) (number : ℕ)
      (same : (a : A) (s : StateValue) → test a (plus d s) ≡ test a s) (each : (a : A) (s : StateValue) → Follows d (body a s) (body a (plus d s))) where
    loop_follows : (k l : ℕ) → k ≤ l → (a : A) (s : StateValue) → Follows d (loop test body next number k a s) (loop test body next number l a (plus d s))
    loop_follows zero zero le a s =
        subst (λ (o : Option Bool). Follows d (loop test body next number zero a s) (with_value o number (plus d s) (λ b. choose b (Over (plus d s) TurnsOver) (Live (plus d s)))))
        (sym (same a s)) (stops number s (test a s) (Over (plus d s) TurnsOver))
    loop_follows zero (suc l) le a s =
        let turn = take_turn (s.turns + d) (plus d s) (λ t. then_do (body a t) (loop test body next number l (next a))) in
        subst (λ (o : Option Bool). Follows d (loop test body next number zero a s) (with_value o number (plus d s) (λ b. choose b turn (Live (plus d s)))))
        (sym (same a s)) (stops number s (test a s) turn)
    loop_follows (suc k) zero le a s = absurd (omega (arith, le))
    loop_follows (suc k) (suc l) le a s =
        let go : StateValue → Stand = λ t. then_do (body a t) (loop test body next number k (next a)) in
        let more : StateValue → Stand = λ t. then_do (body a t) (loop test body next number l (next a)) in
        let each_turn = λ (t : StateValue). then_follows (body a t) (body a (plus d t)) (loop test body next number k (next a)) (loop test body next number l (next a)) (each a t)
        (loop_follows k l (omega (arith, le)) (next a)) in
        subst (λ (o : Option Bool). Follows d (loop test body next number (suc k) a s) (with_value o number (plus d s) (λ b. choose b (take_turn (s.turns + d) (plus d s) more) (Live (plus d s)))))
        (sym (same a s)) (goes number s (test a s) (take_turn s.turns s go) (take_turn (s.turns + d) (plus d s) more) (turn_follows s.turns s go more each_turn))

  -- the turns decide nothing of an apply
  passes_same : (filters : List FunctionTree) (s : StateValue) (end : Option VertexFilter) (v : ℕ) → passes filters (plus d s) end v ≡ passes filters s end v
  passes_same filters s None v = refl
  passes_same filters s (Some (Members slot)) v = refl
  passes_same filters s (Some (Function function)) v = refl

  end_same : (filters : List FunctionTree) (g : GraphValue) (s : StateValue) (end : Option VertexFilter) (v : ℕ) → is_end filters g (plus d s) end v ≡ is_end filters g s end v
  end_same filters g s end v = rw (passes_same filters s end v) refl

  matching_same : (filters : List FunctionTree) (g : GraphValue) (s : StateValue) (ends : ApplyEnds) → matching filters g (plus d s) ends ≡ matching filters g s ends
  matching_same filters g s ends =
      filter_agree (λ (e : Edge). is_end filters g (plus d s) ends.from e.0 && is_end filters g (plus d s) ends.to e.1)
      (λ (e : Edge). is_end filters g s ends.from e.0 && is_end filters g s ends.to e.1)
      (λ (e : Edge). ap (λ (b : Bool). b && is_end filters g (plus d s) ends.to e.1) (end_same filters g s ends.from e.0)
      ∙ ap (λ (b : Bool). is_end filters g s ends.from e.0 && b) (end_same filters g s ends.to e.1))
      g.edges

  apply_same : (filters functions : List FunctionTree) (g : GraphValue) (ends : ApplyEnds) (indices : List ℕ) (s : StateValue)
      → after_edge_apply filters functions g ends indices (plus d s) ≡ after_edge_apply filters functions g ends indices s
  apply_same filters functions g ends indices s =
      ap (λ (es : List Edge). after_edges (map (λ index. steps_of (slice_get functions index)) indices) s.sets s.vectors es s.vectors) (matching_same filters g s ends)

  declared_same : (p : ProgramTree) (g : GraphValue) (name : ℕ) (value : SetValue) (s : StateValue) → after_declare_set p g name value (plus d s) ≡ plus d (after_declare_set p g name value s)
  declared_same p g name set.Empty s = refl
  declared_same p g name set.All s = refl
  declared_same p g name (set.Copy slot) s = refl
  declared_same p g name (set.Filter slot function) s = refl
  declared_same p g name (set.Modified ends function vector) s =
      ap (λ (after : List (List ℤ)). with_new_set (with_vectors (plus d s) after) name (modified g.vertices vector s.vectors after)) (apply_same p.filters p.edge_functions g ends (function ∷ []) s)

  assigned_same : (p : ProgramTree) (g : GraphValue) (index : ℕ) (value : SetValue) (s : StateValue) → after_assign_set p g index value (plus d s) ≡ plus d (after_assign_set p g index value s)
  assigned_same p g index set.Empty s = refl
  assigned_same p g index set.All s = refl
  assigned_same p g index (set.Copy slot) s = refl
  assigned_same p g index (set.Filter slot function) s = refl
  assigned_same p g index (set.Modified ends function vector) s =
      ap (λ (after : List (List ℤ)). with_members (with_vectors (plus d s) after) index (modified g.vertices vector s.vectors after)) (apply_same p.filters p.edge_functions g ends (function ∷ []) s)

  module _ (p : ProgramTree) (g : GraphValue) where
    simple_follows : (a : SimpleStatementTree) (number : ℕ) (s : StateValue) → Follows d (after_simple p g number a s) (after_simple p g number a (plus d s))
    simple_follows (DeclareInt name e) number s = value_follows (int_value_in g.vertices e s) number s _ _ (λ n. refl)
    simple_follows (DeclareBool name c) number s = value_follows (bool_value_in g.vertices c s) number s _ _ (λ b. refl)
    simple_follows (SetInt slot e) number s = value_follows (int_value_in g.vertices e s) number s _ _ (λ n. refl)
    simple_follows (SetBool slot c) number s = value_follows (bool_value_in g.vertices c s) number s _ _ (λ b. refl)
    simple_follows (ReduceInt slot reduction e) number s = value_follows (int_value_in g.vertices e s) number s _ _ (λ n. refl)
    simple_follows (SetEntry vector subscript e) number s =
        value_follows (vertex_in g.vertices subscript s) number s _ _ (λ v. value_follows (int_value_in g.vertices e s) number s _ _ (λ n. refl))
    simple_follows (ReduceEntry vector subscript reduction e) number s =
        value_follows (vertex_in g.vertices subscript s) number s _ _ (λ v. value_follows (int_value_in g.vertices e s) number s _ _ (λ n. refl))
    simple_follows (DeclareSet name value) number s = ap Live (declared_same p g name value s)
    simple_follows (AssignSet slot value) number s = ap Live (assigned_same p g slot.index value s)
    simple_follows (AddVertex slot e) number s = value_follows (vertex_in g.vertices e s) number s _ _ (λ v. refl)
    simple_follows (PrintInt e) number s = value_follows (int_value_in g.vertices e s) number s _ _ (λ n. refl)
    simple_follows (PrintBool c) number s = value_follows (bool_value_in g.vertices c s) number s _ _ (λ b. refl)
    simple_follows (ApplyVertex set function) number s = refl
    simple_follows (ApplyEdges ends function) number s = ap (λ (after : List (List ℤ)). Live (with_vectors (plus d s) after)) (apply_same p.filters p.edge_functions g ends (function ∷ []) s)

    mutual
      action_follows : (a : StatementKindTree) (number : ℕ) (s : StateValue) → Follows d (after p g number a s) (after p g number a (plus d s))
      action_follows (Simple a) number s = simple_follows a number s
      action_follows (If c body) number s =
          value_follows (bool_value_in g.vertices c s) number s _ _ (λ b. choice_follows b _ _ _ _ (leave_follows (depth_of s) _ _ (block_follows body s)) refl)
      action_follows (IfElse c body other) number s =
          value_follows (bool_value_in g.vertices c s) number s _ _
          (λ b. choice_follows b _ _ _ _ (leave_follows (depth_of s) _ _ (block_follows body s)) (leave_follows (depth_of s) _ _ (block_follows other s)))
      action_follows (While c body) number s =
          loop_follows (while_test g.vertices c) (while_body (after_all p g body)) (λ (n : ℕ). n) number (λ a t. refl)
          (λ a t. leave_follows (depth_of t) _ _ (block_follows body t)) s.turns (s.turns + d) (omega arith) 0 s
      action_follows (For name first end body) number s =
          value_follows (bounds_in g.vertices first end s) number s _ _
          (λ r. loop_follows for_test (for_body (after_all p g body)) next_of number (λ a t. refl)
          (λ a t. leave_follows (depth_of t) _ _ (block_follows body _)) s.turns (s.turns + d) (omega arith) r s)

      block_follows : (b : BlockTree) (s : StateValue) → Follows d (after_all p g b s) (after_all p g b (plus d s))
      block_follows Empty s = refl
      block_follows (Then number label a rest) s = then_follows (after p g number a s) (after p g number a (plus d s)) (after_all p g rest) (after_all p g rest) (action_follows a number s)
          (block_follows rest)

    shown_same : (turns : ℕ) (s : StateValue) (end : End) → shown p (turns + d) (plus d s) end ≡ shown p turns s end
    shown_same turns s end = let left : turns + d - (s.turns + d) ≡ turns - s.turns = omega arith in ap (λ (n : ℕ). record (shown p turns s end) { turns = n }) left

    outcome_follows : (turns : ℕ) (x y : Stand) → Follows d x y → (outcome_of p turns x).end ≢ TurnsOver → outcome_of p (turns + d) y ≡ outcome_of p turns x
    outcome_follows turns (Live s) y is suffices = ap (outcome_of p (turns + d)) is ∙ shown_same turns s Finished
    outcome_follows turns (Over s Finished) y is suffices = ap (outcome_of p (turns + d)) is ∙ shown_same turns s Finished
    outcome_follows turns (Over s TurnsOver) y is suffices = absurd (suffices refl)
    outcome_follows turns (Over s (Fault number statement)) y is suffices = ap (outcome_of p (turns + d)) is ∙ shown_same turns s (Fault number statement)

pub more_turns : (p : ProgramTree) (g : GraphValue) (turns more : ℕ) → turns ≤ more → (meaning p g turns).end ≢ TurnsOver → meaning p g more ≡ meaning p g turns
more_turns p g turns more le suffices =
    let d = more - turns in
    let sum : turns + d ≡ more = omega (arith, le) in
    subst (λ (n : ℕ). meaning p g n ≡ meaning p g turns) sum
    (outcome_follows d p g turns (after_all p g p.main (initial_state p g turns)) (after_all p g p.main (initial_state p g (turns + d))) (block_follows d p g p.main
    (initial_state p g turns)) suffices)
