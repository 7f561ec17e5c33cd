-- Blocks of main: its statements, in the order of the text.
use Rattle.std.specs.Prelude.{ℕ, suc, length, Option}
use Rattle.syntax.specs.Terminals.{Identifier}
use Rattle.syntax.specs.SourceTrees.{ExpressionTree}
use Rattle.syntax.specs.SourceTrees as source
use Rattle.typed_tree.specs.BlockTree.{StatementKindTree, BlockTree, If, IfElse, While, For, Empty, Then}
use Rattle.expression_types.specs.Faults.{WithFaults, sure, ◌>>=◌}
use Rattle.expression_types.specs.declared.scope.Entity.TheVariants as entity
use Rattle.initializer_types.specs.Checker.{CheckerTree, integer_slot, in_scope, declared_in, with_label, counted, integer_in, condition_in}
use Rattle.types.specs.Statement.{declare_variable, assign, reduce, set_entry, reduce_entry, add_vertex, print, apply}

-- a statement that declares nothing
abbrev pub in_place : CheckerTree → WithFaults StatementKindTree → WithFaults (StatementKindTree × CheckerTree)
in_place c action = action >>= λ a. sure (a, c)

-- the statements so far, with one more after them
abbrev pub then_statement : BlockTree → (number : ℕ) → (label : Option ℕ) → StatementKindTree → BlockTree
then_statement Empty number label action = Then number label action Empty
then_statement (Then n l a others) number label action = Then n l a (then_statement others number label action)

-- after a block the names that became visible in it are forgotten
abbrev pub closed : CheckerTree → CheckerTree → CheckerTree
closed c d = in_scope d c.scope

-- The name of a `for` is visible in its body alone, and its bounds are looked at before.
abbrev pub for_typed : CheckerTree → ℕ → Identifier → (first limit : ExpressionTree) → (CheckerTree → WithFaults (BlockTree × CheckerTree))
    → WithFaults (StatementKindTree × CheckerTree)
for_typed c at name first limit body =
    integer_in c.scope at first >>= λ a. integer_in c.scope at limit >>= λ z.
    declared_in c name (entity.LoopVariable (integer_slot c)) >>= λ d. body d >>= λ b. sure (For (length c.names) a z b.0, closed c b.1)

abbrev mutual
  -- a statement's action at its first token, its label aside
  pub action_typed : CheckerTree → source.StatementKindTree → WithFaults (StatementKindTree × CheckerTree)
  action_typed c (source.Declare at p initial) = declare_variable c at p.name p.declared initial
  action_typed c (source.While at test body) =
      condition_in c.scope at test >>= λ t. statements_typed c Empty body >>= λ b. sure (While t b.0, closed c b.1)
  action_typed c (source.For at name first limit body) =
      for_typed c at name first limit (λ d. statements_typed d Empty body)
  action_typed c (source.If at test body) =
      condition_in c.scope at test >>= λ t. statements_typed c Empty body >>= λ b. sure (If t b.0, closed c b.1)
  action_typed c (source.IfElse at test body otherwise) =
      condition_in c.scope at test >>= λ t. statements_typed c Empty body >>= λ b.
      statements_typed (closed c b.1) Empty otherwise >>= λ o. sure (IfElse t b.0 o.0, closed (closed c b.1) o.1)
  action_typed c (source.Print at e) = in_place c (print c.scope at e)
  action_typed c (source.Assign name initial) = in_place c (assign c name.at name initial)
  action_typed c (source.Reduce name by e) = in_place c (reduce c.scope name.at name by e)
  action_typed c (source.SetEntry vector index e) = in_place c (set_entry c.scope vector.at vector index e)
  action_typed c (source.ReduceEntry vector index by e) = in_place c (reduce_entry c.scope vector.at vector index by e)
  action_typed c (source.AddVertex set e) = in_place c (add_vertex c.scope set.at set e)
  action_typed c (source.Apply target ends function) = in_place c (apply c.scope target.at target ends function)

  -- Statements after those so far. Each is labelled and numbered before what it does is looked at, so a block comes before its body; the
  -- first number is 1.
  pub statements_typed : CheckerTree → BlockTree → source.BlockTree → WithFaults (BlockTree × CheckerTree)
  statements_typed c so_far source.Empty = sure (so_far, c)
  statements_typed c so_far (source.Then label action others) =
      with_label c label >>= λ l. action_typed (counted l.1) action >>= λ a.
      statements_typed a.1 (then_statement so_far (suc l.1.statements) l.0 a.0) others
