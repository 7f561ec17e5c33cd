-- Beside `Block`: the blocks of `main` as the walk over blocks sees them. No public contract cites these definitions.
use Rattle.std.proofs.Common.{◌≡◌, refl, ap, sym, ℕ, List, [], ◌∷◌, ◌++◌, length, Option, suc}
use Rattle.syntax.specs.Terminals.{Identifier}
use Rattle.syntax.specs.declared.declaration.DeclaredType.{DeclaredType}
use Rattle.syntax.specs.declared.declaration.DeclaredType.TheVariants as declared
use Rattle.typed_tree.specs.BlockTree.{BlockTree, StatementKindTree, Simple, DeclareInt, DeclareBool, DeclareSet, Then, block_tree, statement_kind_tree}
use Rattle.typed_tree.specs.BlockTree as typed
use Rattle.typed_tree.specs.declared.statement.MainStatement.{MainStatement}
use Rattle.typed_tree.specs.declared.statement.StatementKind.{StatementKind}
use Rattle.expression_types.specs.declared.scope.Entity.TheVariants as entity
use Rattle.expression_types.specs.Faults.{sure, ◌>>=◌}
use Rattle.expression_types.proofs.Steps.{bind-bind}
use Rattle.initializer_types.specs.Checker.{CheckerTree, condition_slot, counted, integer_slot, set_slot}
use Rattle.types.specs.Block.{action_typed, statements_typed, then_statement}
use Rattle.initializer_types.specs.Initial.{InitializerTree, initializer_condition, initializer_integer, initializer_members, initializer_of}
use Rattle.types.specs.Statement.{assigned, declare_as, reduced}
use Rattle.types.specs.inside.BlockMeaning.{BlockMeaning, CompoundTree, For, If, IfElse, IsWalked, While, visible_then}
use Rattle.types.specs.inside.Variables.{variable_as}

-- a statement with its number and its label
pub record StatementTree : Type 0 where
  pub number : ℕ
  pub label : Option ℕ
  pub action : StatementKindTree

-- the tree that a Rust tree is
abbrev pub statement_tree : MainStatement → StatementTree
statement_tree s = record { number = s.number; label = s.label; action = statement_kind_tree s.action }

abbrev pub main_compound : CompoundTree BlockTree → StatementKindTree
main_compound (While test body) = typed.While test body
main_compound (If test body) = typed.If test body
main_compound (IfElse test body other) = typed.IfElse test body other
main_compound (For name first limit body) = typed.For name first limit body

abbrev pub main_meaning : BlockMeaning StatementKind MainStatement StatementKindTree StatementTree BlockTree
main_meaning = record {
  action_tree = statement_kind_tree;
  statement_tree = statement_tree;
  row_tree = block_tree;
  action_typed = action_typed;
  row_typed = statements_typed;
  counted = counted;
  number = λ c. suc c.statements;
  labelled = λ number label action. record { number = number; label = label; action = action };
  with_next = λ so_far s. then_statement so_far s.number s.label s.action;
  loop_faults = λ at. [];
  compound = main_compound;
  variable_as = variable_as;
  assigned = assigned;
  reduced = reduced;
}

pushed : (xs : List MainStatement) (s : MainStatement)
    → block_tree (xs ++ s ∷ []) ≡ then_statement (block_tree xs) s.number s.label (statement_kind_tree s.action)
pushed [] s = refl
pushed (x ∷ xs) s = ap (Then x.number x.label (statement_kind_tree x.action)) (pushed xs s)

declared_so : (c : CheckerTree) (at : ℕ) (name : Identifier) (i : InitializerTree) (type : DeclaredType)
    → declare_as c at name i type ≡ (variable_as c at i type >>= visible_then c name)
declared_so c at name i declared.Int =
    sym (bind-bind (initializer_integer at i) (λ e. sure (entity.IntVariable (integer_slot c), Simple (DeclareInt (length c.names) e))) (visible_then c name))
declared_so c at name i declared.Bool =
    sym (bind-bind (initializer_condition at i) (λ e. sure (entity.BoolVariable (condition_slot c), Simple (DeclareBool (length c.names) e)))
    (visible_then c name))
declared_so c at name i declared.VertexSet =
    sym (bind-bind (initializer_members at i) (λ s. sure (entity.SetVariable (set_slot c), Simple (DeclareSet (length c.names) s))) (visible_then c name))
declared_so c at name i declared.Vertex = refl
declared_so c at name i declared.Vector = refl
declared_so c at name i declared.EdgeSet = refl
declared_so c at name i declared.WeightedEdgeSet = refl

-- the blocks of main are as the walk takes them to be
pub main_walked : IsWalked main_meaning
main_walked = record {
  pushed = pushed;
  ends = λ c so_far. refl;
  goes_on = λ c so_far label action others. refl;
  whiles = λ c at test body. refl;
  ifs = λ c at test body. refl;
  if_elses = λ c at test body otherwise. refl;
  fors = λ c at name first limit body. refl;
  declares = λ c at p initial. (λ j. initializer_of c at initial >>= λ i. declared_so c at p.name i p.declared j);
  assigns = λ c name initial. refl;
  reduces = λ c name by e. refl;
}
