-- The loops around the instructions of a plan.
use Rattle.std.proofs.Common.{◌≡◌, ℕ, zero, suc, ◌+◌, ◌≤◌, Bool, true, false, List, [], ◌∷◌, ◌++◌, length, if◌then◌else◌, Option, Some, None, slice_get, refl, arith, subst}
use Rattle.typed_tree.specs.BlockTree.{StatementKindTree, Simple, DeclareInt, BlockTree, Empty, Then}
use Rattle.typed_tree.specs.ProgramTree.{ProgramTree}
use Rattle.apply_options.specs.ScheduleTree.{ScheduleTree, apply_schedule_at}
use Rattle.algorithm_meaning.specs.declared.state.Depth.{Depth}
use Rattle.plans.specs.Instruction.{OperationTree, Do, ApplyEdgesTogether, ApplyVerticesTogether, Unless, Enter, UnlessBelow, Advance, Turn, Jump, End, InstructionTree}
use Rattle.plans.specs.Fusing.{EdgeApplyTree, VertexApplyTree, edge_apply_of, vertex_apply_of, edges_fit, vertices_fit, fused_edges, fused_vertices, either, together, is_with, FusionRole, Alone}
use Rattle.plans.specs.Fusing.{WithNext, WithPrevious, with_next, fusion_role_of, takes_next}
use Rattle.plans.specs.Plan.{depth_after}
use Rattle.type_laws.specs.LoopVariables.{KeepsInside}
use Rattle.type_laws.proofs.LoopStatements.{AreBelow}

-- an instruction is at an index, inside these loops, and keeps no more integers than these
pub record Entry (code : List InstructionTree) (table : List (List ℕ)) (index : ℕ) (is : List ℕ) (n : ℕ) : Type 0 where
  pub instruction : InstructionTree
  pub stands : slice_get code index ≡ Some instruction
  pub around : slice_get table index ≡ Some is
  pub keeps : instruction.keep.integers ≤ n

module _ (code : List InstructionTree) (table : List (List ℕ)) where
  pub entry_more : (index : ℕ) (is : List ℕ) (m n : ℕ) → m ≤ n → Entry code table index is m → Entry code table index is n
  entry_more index is m n l e =
      let here : e.instruction.keep.integers ≤ m = e.keeps in
      record { instruction = e.instruction; stands = e.stands; around = e.around; keeps = omega (arith, l, here) }

  pub entry_along : (a b : ℕ) (is : List ℕ) (n : ℕ) → a ≡ b → Entry code table a is n → Entry code table b is n
  entry_along a b is n e entry = subst (λ (x : ℕ). Entry code table x is n) e entry

  -- the test of a loop: of its first loop, and where it is left for
  abbrev pub TestsInnermost : (index to : ℕ) → List ℕ → (keep shown : ℕ) → Type 0
  TestsInnermost index to [] keep shown = ⊥
  TestsInnermost index to (m ∷ is) keep shown = (shown ≡ m) × Entry code table (index + 1) (m ∷ is) keep × Entry code table to is keep × AreBelow (m ∷ is) keep

  abbrev pub AdvancesInnermost : (index : ℕ) → List ℕ → (keep shown : ℕ) → Type 0
  AdvancesInnermost index [] keep shown = ⊥
  AdvancesInnermost index (m ∷ is) keep shown = (shown ≡ m) × (keep ≡ m) × Entry code table (index + 1) (m ∷ is) (m + 2) × AreBelow is m

  -- what holds of an instruction inside these loops
  abbrev pub Local : (index : ℕ) → List ℕ → (keep shown : Depth) → OperationTree → Type 0
  Local index is keep shown (Do a) = KeepsInside keep.integers is (Simple a) × Entry code table (index + 1) is (depth_after (Simple a) keep).integers × AreBelow is keep.integers
  Local index is keep shown (ApplyEdgesTogether ends a b) = Entry code table (index + 1) is keep.integers × AreBelow is keep.integers
  Local index is keep shown (ApplyVerticesTogether set a b) = Entry code table (index + 1) is keep.integers × AreBelow is keep.integers
  Local index is keep shown (Unless c to) = Entry code table (index + 1) is keep.integers × Entry code table to is keep.integers × AreBelow is keep.integers
  Local index is keep shown (Enter name e) =
      (keep.integers ≡ shown.integers + 1) × Entry code table (index + 1) (shown.integers ∷ is) (shown.integers + 2) × AreBelow is shown.integers
  Local index is keep shown (UnlessBelow name to) = TestsInnermost index to is keep.integers shown.integers
  Local index is keep shown (Advance name) = AdvancesInnermost index is keep.integers shown.integers
  Local index is keep shown Turn = Entry code table (index + 1) is keep.integers × AreBelow is keep.integers
  Local index is keep shown (Jump to) = Entry code table to is keep.integers × AreBelow is keep.integers
  Local index is keep shown End = Unit {0}

  abbrev pub AllLocal : (index : ℕ) → List InstructionTree → List (List ℕ) → Type 0
  AllLocal index [] [] = Unit {0}
  AllLocal index [] (t ∷ ts) = ⊥
  AllLocal index (i ∷ xs) [] = ⊥
  AllLocal index (i ∷ xs) (t ∷ ts) = Local index t i.keep i.shown i.operation × AllLocal (index + 1) xs ts

  pub local_append : (index n : ℕ) (a b : List InstructionTree) (s t : List (List ℕ)) → length a ≡ n → AllLocal index a s → AllLocal (index + n) b t → AllLocal index (a ++ b) (s ++ t)
  local_append index n [] b [] t e h k =
      let same : index + n ≡ index = omega (arith, e) in
      subst (λ (x : ℕ). AllLocal x b t) same k
  local_append index n [] b (x ∷ s) t e h k = absurd h
  local_append index n (i ∷ a) b [] t e h k = absurd h
  local_append index n (i ∷ a) b (x ∷ s) t e h k =
      let same : index + n ≡ index + 1 + length a = omega (arith, e) in
      (h.0, local_append (index + 1) (length a) a b s t refl h.1 (subst (λ (x : ℕ). AllLocal x b t) same k))

  pub local_at : (index : ℕ) (xs : List InstructionTree) (ts : List (List ℕ)) → AllLocal index xs ts → (k : ℕ) (i : InstructionTree) (is : List ℕ) → slice_get xs k ≡ Some i → slice_get ts k ≡ Some is
      → Local (index + k) is i.keep i.shown i.operation
  local_at index [] ts all k i is e f = let bad : None ≡ Some i = e in cc
  local_at index (x ∷ xs) [] all k i is e f = absurd all
  local_at index (x ∷ xs) (t ∷ ts) all zero i is e f =
      let same : x ≡ i = (let s : Some x ≡ Some i = e in cc) in
      let around : t ≡ is = (let s : Some t ≡ Some is = f in cc) in
      let here : index ≡ index + 0 = omega arith in
      subst (λ (n : ℕ). Local n is i.keep i.shown i.operation) here
      (subst (λ (l : List ℕ). Local index l i.keep i.shown i.operation) around
      (subst (λ (y : InstructionTree). Local index t y.keep y.shown y.operation) same all.0))
  local_at index (x ∷ xs) (t ∷ ts) all (suc k) i is e f =
      let here : index + 1 + k ≡ index + suc k = omega arith in
      subst (λ (n : ℕ). Local n is i.keep i.shown i.operation) here (local_at (index + 1) xs ts all.1 k i is e f)

-- the table has these rows at an index
abbrev pub HasRows : List (List ℕ) → ℕ → List (List ℕ) → Type 0
HasRows table index [] = Unit {0}
HasRows table index (t ∷ ts) = (slice_get table index ≡ Some t) × HasRows table (index + 1) ts

pub rows_front : (table : List (List ℕ)) (index : ℕ) (a b : List (List ℕ)) → HasRows table index (a ++ b) → HasRows table index a
rows_front table index [] b h = tt
rows_front table index (t ∷ a) b h = (h.0, rows_front table (index + 1) a b h.1)

pub rows_behind : (table : List (List ℕ)) (index n to : ℕ) (a b : List (List ℕ)) → length a ≡ n → index + n ≡ to → HasRows table index (a ++ b) → HasRows table to b
rows_behind table index n to [] b e same h =
    let there : index ≡ to = omega (arith, e, same) in
    subst (λ (x : ℕ). HasRows table x b) there h
rows_behind table index n to (t ∷ a) b e same h =
    let there : index + 1 + length a ≡ to = omega (arith, e, same) in
    rows_behind table (index + 1) (length a) to a b refl there h.1

-- an operation that does two applies
abbrev pub IsForTwo : OperationTree → Type 0
IsForTwo (ApplyEdgesTogether ends a b) = Unit {0}
IsForTwo (ApplyVerticesTogether set a b) = Unit {0}
IsForTwo _ = ⊥

-- the statement declares no integer
abbrev pub DeclaresNone : StatementKindTree → Type 0
DeclaresNone a = (d : Depth) → (depth_after a d).integers ≡ d.integers

abbrev pub FirstDeclaresNone : BlockTree → Type 0
FirstDeclaresNone Empty = Unit {0}
FirstDeclaresNone (Then number label a rest) = DeclaresNone a

-- the first statement of the block is done already
abbrev pub IsDone : (is_done : Bool) → BlockTree → Type 0
IsDone false b = Unit {0}
IsDone true b = FirstDeclaresNone b

abbrev pub FitsCompany : FusionRole → StatementKindTree → BlockTree → Type 0
FitsCompany Alone a rest = Unit {0}
FitsCompany (WithNext operation) a rest = IsForTwo operation × DeclaresNone a × FirstDeclaresNone rest
FitsCompany WithPrevious a rest = DeclaresNone a

edge_declares_none : (a : StatementKindTree) (x : EdgeApplyTree) → edge_apply_of a ≡ Some x → DeclaresNone a
edge_declares_none (Simple (DeclareInt name e)) x is = let bad : None ≡ Some x = is in cc
edge_declares_none _ x is = λ d. refl

vertex_declares_none : (a : StatementKindTree) (x : VertexApplyTree) → vertex_apply_of a ≡ Some x → DeclaresNone a
vertex_declares_none (Simple (DeclareInt name e)) x is = let bad : None ≡ Some x = is in cc
vertex_declares_none _ x is = λ d. refl

-- what holds of an operation that does both
abbrev FitsBoth : (a b : StatementKindTree) → Option OperationTree → Type 0
FitsBoth a b None = Unit {0}
FitsBoth a b (Some operation) = IsForTwo operation × DeclaresNone a × DeclaresNone b

edges_fit_both : (p : ProgramTree) (d : Depth) (a b : StatementKindTree) (x y : Option EdgeApplyTree) → edge_apply_of a ≡ x → edge_apply_of b ≡ y → FitsBoth a b (fused_edges p d x y)
edges_fit_both p d a b None y e f = tt
edges_fit_both p d a b (Some x) None e f = tt
edges_fit_both p d a b (Some x) (Some y) e f = by_test (edges_fit p d x y)
  where
    by_test : (t : Bool) → FitsBoth a b (if t then Some (ApplyEdgesTogether x.ends x.part y.part) else None)
    by_test true = (tt, edge_declares_none a x e, edge_declares_none b y f)
    by_test false = tt

vertices_fit_both : (p : ProgramTree) (a b : StatementKindTree) (x y : Option VertexApplyTree) → vertex_apply_of a ≡ x → vertex_apply_of b ≡ y → FitsBoth a b (fused_vertices p x y)
vertices_fit_both p a b None y e f = tt
vertices_fit_both p a b (Some x) None e f = tt
vertices_fit_both p a b (Some x) (Some y) e f = by_test (vertices_fit p x y)
  where
    by_test : (t : Bool) → FitsBoth a b (if t then Some (ApplyVerticesTogether x.set x.function y.function) else None)
    by_test true = (tt, vertex_declares_none a x e, vertex_declares_none b y f)
    by_test false = tt

either_fits_both : (a b : StatementKindTree) (x y : Option OperationTree) → FitsBoth a b x → FitsBoth a b y → FitsBoth a b (either x y)
either_fits_both a b None y h k = k
either_fits_both a b (Some operation) y h k = h

fused_fits : (fused : Bool) (a b : StatementKindTree) (number : ℕ) (label : Option ℕ) (rest : BlockTree) (o : Option OperationTree) → FitsBoth a b o
    → FitsCompany (if fused then with_next o else Alone) a (Then number label b rest)
fused_fits true a b number label rest None h = tt
fused_fits true a b number label rest (Some operation) h = h
fused_fits false a b number label rest o h = tt

pub company_fits : (p : ProgramTree) (s : ScheduleTree) (d : Depth) (is_done : Bool) (number : ℕ) (label : Option ℕ) (a : StatementKindTree) (rest : BlockTree)
    → IsDone is_done (Then number label a rest)
    → FitsCompany (fusion_role_of p s d is_done label a rest) a rest
company_fits p s d true number label a rest done = done
company_fits p s d false number label a Empty done = tt
company_fits p s d false number label a (Then second other b rest) done =
    fused_fits (is_with (apply_schedule_at label s).fused other) a b second other rest (together p d a b)
    (either_fits_both a b (fused_edges p d (edge_apply_of a) (edge_apply_of b)) (fused_vertices p (vertex_apply_of a) (vertex_apply_of b))
    (edges_fit_both p d a b (edge_apply_of a) (edge_apply_of b) refl refl) (vertices_fit_both p a b (vertex_apply_of a) (vertex_apply_of b) refl refl))

pub next_done : (company : FusionRole) (a : StatementKindTree) (rest : BlockTree) → FitsCompany company a rest → IsDone (takes_next company) rest
next_done Alone a rest fits = tt
next_done (WithNext operation) a rest fits = fits.2
next_done WithPrevious a rest fits = tt
