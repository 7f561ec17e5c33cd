-- What the blocks of `main` and those of functions have in common: definitions that no public contract cites.
use Rattle.std.specs.Prelude.{◌≡◌, ℕ, Option, List, [], ◌∷◌, ◌++◌}
use Rattle.apply_options.specs.declared.reduction.Reduction.{Reduction}
use Rattle.syntax.specs.Terminals.{Identifier}
use Rattle.syntax.specs.declared.declaration.DeclaredType.{DeclaredType}
use Rattle.syntax.specs.SourceTrees.{ExpressionTree, InitialTree, ParameterTree, StatementKindTree}
use Rattle.syntax.specs.SourceTrees as source
use Rattle.typed_tree.specs.BoolExpressionTree.{BoolExpressionTree, bool_expression_tree}
use Rattle.typed_tree.specs.IntExpressionTree.{IntExpressionTree, int_expression_tree}
use Rattle.expression_types.specs.declared.fault.Fault.{Fault}
use Rattle.expression_types.specs.declared.scope.Entity.{Entity}
use Rattle.expression_types.specs.declared.scope.Entity.TheVariants as entity
use Rattle.expression_types.specs.Expression.{used_name, value_of}
use Rattle.expression_types.specs.Faults.{WithFaults, sure, ◌>>=◌}
use Rattle.expression_types.specs.ValueTree.{ValueTree}
use Rattle.types.specs.declared.block_kind.Compound.{Compound}
use Rattle.types.specs.declared.block_kind.Compound.TheVariants as rust
use Rattle.initializer_types.specs.Checker.{CheckerTree, condition_in, declared_in, in_scope, integer_in, integer_slot, with_label}
use Rattle.initializer_types.specs.Initial.{InitializerTree, initializer_of}

-- a statement that holds blocks, with its parts typed
pub data CompoundTree (Row : Type 0) : Type 0 where
  While : BoolExpressionTree → Row → CompoundTree Row
  If : BoolExpressionTree → Row → CompoundTree Row
  IfElse : BoolExpressionTree → (body other : Row) → CompoundTree Row
  For : (name : ℕ) → (first limit : IntExpressionTree) → Row → CompoundTree Row

abbrev pub compound_tree : {Statement Row : Type 0} → (List Statement → Row) → Compound Statement → CompoundTree Row
compound_tree row (rust.While test body) = While (bool_expression_tree test) (row body.items)
compound_tree row (rust.If test body) = If (bool_expression_tree test) (row body.items)
compound_tree row (rust.IfElse test body other) = IfElse (bool_expression_tree test) (row body.items) (row other.items)
compound_tree row (rust.For name first limit body) = For name (int_expression_tree first) (int_expression_tree limit) (row body.items)

-- What statements mean in one kind of blocks: the trees that Rust trees are; typing of an action, and of statements after those so far;
-- what is known after a statement was counted, its number, and a statement of a number, a label and an action; a row with one more statement;
-- the fault of a loop, if no loop may be; the action that a statement with blocks is; the variable that a declaration makes, and the
-- statement for it; what an assignment and a reduction of a name do.
pub record BlockMeaning (RustAction RustStatement Action Statement Row : Type 0) : Type 0 where
  pub action_tree : RustAction → Action
  pub statement_tree : RustStatement → Statement
  pub row_tree : List RustStatement → Row
  pub action_typed : CheckerTree → StatementKindTree → WithFaults (Action × CheckerTree)
  pub row_typed : CheckerTree → Row → source.BlockTree → WithFaults (Row × CheckerTree)
  pub counted : CheckerTree → CheckerTree
  pub number : CheckerTree → ℕ
  pub labelled : ℕ → Option ℕ → Action → Statement
  pub with_next : Row → Statement → Row
  pub loop_faults : ℕ → List Fault
  pub compound : CompoundTree Row → Action
  pub variable_as : CheckerTree → ℕ → InitializerTree → DeclaredType → WithFaults (Entity × Action)
  pub assigned : ℕ → InitializerTree → Entity → WithFaults Action
  pub reduced : ℕ → Reduction → ValueTree → Entity → WithFaults Action

-- faults alone
abbrev pub noted : List Fault → WithFaults (Unit {0})
noted faults = record { faults = faults; value = tt }

-- an action that declares nothing
abbrev pub undeclaring : {Action : Type 0} → CheckerTree → WithFaults Action → WithFaults (Action × CheckerTree)
undeclaring c action = action >>= λ a. sure (a, c)

-- the name becomes visible after what the variable is
abbrev pub visible_then : {A : Type 0} → CheckerTree → Identifier → Entity × A → WithFaults (A × CheckerTree)
visible_then c name v = declared_in c name v.0 >>= λ d. sure (v.1, d)

-- the statements of a block, from its first
abbrev pub block_typed : {P Q A S R : Type 0} → BlockMeaning P Q A S R → CheckerTree → source.BlockTree → WithFaults (R × CheckerTree)
block_typed m c block = m.row_typed c (m.row_tree []) block

-- a block of its own, after which the names that became visible in it are forgotten
abbrev pub inner_typed : {P Q A S R : Type 0} → BlockMeaning P Q A S R → CheckerTree → source.BlockTree → WithFaults (R × CheckerTree)
inner_typed m c block = block_typed m c block >>= λ b. sure (b.0, in_scope b.1 c.scope)

-- one statement, with its label
abbrev pub statement_typed : {P Q A S R : Type 0} → BlockMeaning P Q A S R → CheckerTree → Option Identifier → StatementKindTree → WithFaults (S × CheckerTree)
statement_typed m c label action =
    with_label c label >>= λ l. m.action_typed (m.counted l.1) action >>= λ a. sure (m.labelled (m.number l.1) l.0 a.0, a.1)

-- the statements after those so far
abbrev pub row_then : {P Q A S R : Type 0} → BlockMeaning P Q A S R → CheckerTree → R → Option Identifier → StatementKindTree → source.BlockTree
    → WithFaults (R × CheckerTree)
row_then m c so_far label action others =
    with_label c label >>= λ l. m.action_typed (m.counted l.1) action >>= λ a.
    m.row_typed a.1 (m.with_next so_far (m.labelled (m.number l.1) l.0 a.0)) others

abbrev pub while_typed : {P Q A S R : Type 0} → BlockMeaning P Q A S R → CheckerTree → ℕ → ExpressionTree → source.BlockTree → WithFaults (A × CheckerTree)
while_typed m c at test body =
    noted (m.loop_faults at) >>= λ n. condition_in c.scope at test >>= λ t. block_typed m c body >>= λ b.
    sure (m.compound (While t b.0), in_scope b.1 c.scope)

abbrev pub if_typed : {P Q A S R : Type 0} → BlockMeaning P Q A S R → CheckerTree → ℕ → ExpressionTree → source.BlockTree → WithFaults (A × CheckerTree)
if_typed m c at test body =
    condition_in c.scope at test >>= λ t. block_typed m c body >>= λ b. sure (m.compound (If t b.0), in_scope b.1 c.scope)

abbrev pub if_else_typed : {P Q A S R : Type 0} → BlockMeaning P Q A S R → CheckerTree → ℕ → ExpressionTree → (body otherwise : source.BlockTree)
    → WithFaults (A × CheckerTree)
if_else_typed m c at test body otherwise =
    condition_in c.scope at test >>= λ t. block_typed m c body >>= λ b. block_typed m (in_scope b.1 c.scope) otherwise >>= λ o.
    sure (m.compound (IfElse t b.0 o.0), in_scope o.1 c.scope)

-- the name of a `for` is visible in its body alone, and its bounds are looked at before
abbrev pub for_typed : {P Q A S R : Type 0} → BlockMeaning P Q A S R → CheckerTree → ℕ → Identifier → (first limit : ExpressionTree) → source.BlockTree
    → WithFaults (A × CheckerTree)
for_typed m c at name first limit body =
    noted (m.loop_faults at) >>= λ n. integer_in c.scope at first >>= λ a. integer_in c.scope at limit >>= λ z.
    declared_in c name (entity.LoopVariable (integer_slot c)) >>= λ d. block_typed m d body >>= λ b.
    sure (m.compound (For (integer_slot c).name a z b.0), in_scope b.1 c.scope)

abbrev pub declared_from : {P Q A S R : Type 0} → BlockMeaning P Q A S R → CheckerTree → ℕ → ParameterTree → InitializerTree → WithFaults (A × CheckerTree)
declared_from m c at p initializer = m.variable_as c at initializer p.declared >>= visible_then c p.name

abbrev pub declare_typed : {P Q A S R : Type 0} → BlockMeaning P Q A S R → CheckerTree → ℕ → ParameterTree → InitialTree → WithFaults (A × CheckerTree)
declare_typed m c at p initial = initializer_of c at initial >>= declared_from m c at p

abbrev pub assign_typed : {P Q A S R : Type 0} → BlockMeaning P Q A S R → CheckerTree → Identifier → InitialTree → WithFaults (A × CheckerTree)
assign_typed m c name initial =
    undeclaring c (used_name c.scope name >>= λ e. initializer_of c name.at initial >>= λ i. m.assigned name.at i e)

abbrev pub reduce_typed : {P Q A S R : Type 0} → BlockMeaning P Q A S R → CheckerTree → Identifier → Reduction → ExpressionTree → WithFaults (A × CheckerTree)
reduce_typed m c name by e = undeclaring c (used_name c.scope name >>= λ n. value_of c.scope name.at e >>= λ v. m.reduced name.at by v n)

-- what the walk over blocks takes for granted
pub record IsWalked {P Q A S R : Type 0} (m : BlockMeaning P Q A S R) : Type 0 where
  pub pushed : (xs : List Q) (s : Q) → m.row_tree (xs ++ s ∷ []) ≡ m.with_next (m.row_tree xs) (m.statement_tree s)
  pub ends : (c : CheckerTree) (so_far : R) → m.row_typed c so_far source.Empty ≡ sure (so_far, c)
  pub goes_on : (c : CheckerTree) (so_far : R) (label : Option Identifier) (action : StatementKindTree) (others : source.BlockTree)
      → m.row_typed c so_far (source.Then label action others) ≡ row_then m c so_far label action others
  pub whiles : (c : CheckerTree) (at : ℕ) (test : ExpressionTree) (body : source.BlockTree)
      → m.action_typed c (source.While at test body) ≡ while_typed m c at test body
  pub ifs : (c : CheckerTree) (at : ℕ) (test : ExpressionTree) (body : source.BlockTree) → m.action_typed c (source.If at test body) ≡ if_typed m c at test body
  pub if_elses : (c : CheckerTree) (at : ℕ) (test : ExpressionTree) (body otherwise : source.BlockTree)
      → m.action_typed c (source.IfElse at test body otherwise) ≡ if_else_typed m c at test body otherwise
  pub fors : (c : CheckerTree) (at : ℕ) (name : Identifier) (first limit : ExpressionTree) (body : source.BlockTree)
      → m.action_typed c (source.For at name first limit body) ≡ for_typed m c at name first limit body
  pub declares : (c : CheckerTree) (at : ℕ) (p : ParameterTree) (initial : InitialTree)
      → m.action_typed c (source.Declare at p initial) ≡ declare_typed m c at p initial
  pub assigns : (c : CheckerTree) (name : Identifier) (initial : InitialTree) → m.action_typed c (source.Assign name initial) ≡ assign_typed m c name initial
  pub reduces : (c : CheckerTree) (name : Identifier) (by : Reduction) (e : ExpressionTree)
      → m.action_typed c (source.Reduce name by e) ≡ reduce_typed m c name by e
