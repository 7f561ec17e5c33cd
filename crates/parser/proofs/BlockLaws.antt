-- The trees of statements that hold blocks, and what reading statements comes to by their first terminal.
use Rattle.std.proofs.Common.{◌≡◌, sym, ◌∙◌, ℕ, zero, suc, true, false, List, [], ◌∷◌, map, Option, Some, None, ap, refl, rules}
use Rattle.std.specs.Global.{Vec}
use Rattle.std.proofs.lemmas.Bool.{false≢true}
use Rattle.std.specs.Option.{is_some}
use Rattle.lexer.specs.declared.keyword.Keyword.{Keyword}
use Rattle.lexer.specs.declared.keyword.Keyword.TheVariants as keyword
use Rattle.lexer.specs.declared.symbol.Symbol.TheVariants as symbol
use Rattle.syntax.specs.Terminals.{Terminal, Identifier, LeadingKeyword, OfKeyword, OfSymbol, keyword_terminal}
use Rattle.syntax.specs.ExpressionReading.{Reader}
use Rattle.syntax.specs.Nesting.{◌>>=◌}
use Rattle.syntax.specs.SourceTrees.{ExpressionTree, BlockTree, StatementKindTree, While, For, If, IfElse, Then}
use Rattle.syntax.specs.declared.statement.ForLoop.{ForLoop, ForLoop', out-ForLoop, roll-ForLoop}
use Rattle.syntax.specs.declared.statement.Statement.{Statement}
use Rattle.syntax.specs.declared.statement.Action.{Row_of-Statement, end_of-Statement, more_of-Statement, items-the_row-Statement}
use Rattle.syntax.specs.declared.statement.Action.TheViews as views
use Rattle.syntax.specs.declared.statement.Action.TheViews.{the_lemmas}
use Rattle.syntax.proofs.Loops.{Goes, goes_end, goes_fails}
use Rattle.syntax.specs.SourceViews.{statement_kind_tree, for_loop_tree, rows_tree, block_tree}
use Rattle.syntax.specs.inside.SourceViews.{statement_of}
use Rattle.syntax.specs.SourceReading.{expression, name_reader, after_terminal, after_terminals, closed_by, else_by, action_by, block_by, block_at, block_from, next_statement, statement_by}
use Rattle.syntax.specs.SourceReading.{begins_statement, where_begins}
use Rattle.parser.proofs.Steps.{bind_bind, bind_same}
use Rattle.parser.specs.declared.block.StatementKeyword.{StatementKeyword as Begun}
use Rattle.parser.specs.declared.block.StatementKeyword.TheVariants as statement_keyword
use Rattle.parser.specs.inside.Blocks.{action_at, to_end_by, otherwise_by, statement_keyword_of, opened_by}

pub rows_tree-items : {m : _} (rows : Row_of-Statement m) → rows_tree rows ≡ block_tree (items-the_row-Statement m rows)
rows_tree-items end_of-Statement = refl
rows_tree-items (more_of-Statement label action rest) = ap (Then label (statement_kind_tree action)) (rows_tree-items rest)

pub statement_kind_tree-While : (at : ℕ) (test : ExpressionTree) (body : Vec Statement) → statement_kind_tree (views.While at test body) ≡ While at test (block_tree body.items)
statement_kind_tree-While at test body = search (rules, the_lemmas, rows_tree-items)

pub for_loop_tree-block : (f : ForLoop) → for_loop_tree f
    ≡ For (out-ForLoop f).at (out-ForLoop f).name (out-ForLoop f).first (out-ForLoop f).limit (block_tree (out-ForLoop f).body.items)
for_loop_tree-block (ForLoop' at name first limit m body) = search (rules, the_lemmas, rows_tree-items)

pub for_loop_tree-rolled : (at : ℕ) (name : Identifier) (first limit : ExpressionTree) (body : Vec Statement)
    → for_loop_tree (roll-ForLoop (record { at = at; name = name; first = first; limit = limit; body = body })) ≡ For at name first limit (block_tree body.items)
for_loop_tree-rolled at name first limit body = search (rules, the_lemmas, rows_tree-items)

pub statement_kind_tree-If : (at : ℕ) (test : ExpressionTree) (body : Vec Statement) → statement_kind_tree (views.If at test body) ≡ If at test (block_tree body.items)
statement_kind_tree-If at test body = search (rules, the_lemmas, rows_tree-items)

pub statement_kind_tree-IfElse : (at : ℕ) (test : ExpressionTree) (body other : Vec Statement)
    → statement_kind_tree (views.IfElse at test body other) ≡ IfElse at test (block_tree body.items) (block_tree other.items)
statement_kind_tree-IfElse at test body other = search (rules, the_lemmas, rows_tree-items)

-- the block of statements in order
pub block_from-map : (items : List Statement) → block_from (map statement_of items) ≡ block_tree items
block_from-map [] = refl
block_from-map (s ∷ items) = ap (Then s.label (statement_kind_tree s.action)) (block_from-map items)

pub block_at-is : (depth : ℕ) (ws : List Terminal) → block_at depth ws ≡ block_by (action_at depth) ws
block_at-is zero ws = refl
block_at-is (suc depth) ws = refl

module _ (depth : ℕ) {start : List Terminal} {front : List (Option Identifier × StatementKindTree)} {left : List Terminal} where
  pub block_ends : Goes (next_statement (action_at depth)) start front left → begins_statement left ≡ false → block_at depth start ≡ Some (block_from front, left)
  block_ends goes begins =
      block_at-is depth start
      ∙ ap (λ r. r >>= λ b. Some (block_from b.0, b.1)) (goes_end goes (ap (λ b. where_begins b (statement_by (action_at depth) left)) begins))

  pub block_fails : Goes (next_statement (action_at depth)) start front left → begins_statement left ≡ true → statement_by (action_at depth) left ≡ None → block_at depth start ≡ None
  block_fails goes begins none =
      block_at-is depth start
      ∙ ap (λ r. r >>= λ b. Some (block_from b.0, b.1))
      (goes_fails goes (ap (λ b. where_begins b (statement_by (action_at depth) left)) begins ∙ ap (λ (r : Option ((Option Identifier × StatementKindTree) × List Terminal)). Some r) none))

-- `end` after a block, and the statement of the block
closed_is : (block : Reader BlockTree) (ws : List Terminal) (action : BlockTree → StatementKindTree)
    → (to_end_by block ws >>= λ b. Some (action b.0, b.1)) ≡ (block ws >>= λ b. closed_by (OfKeyword keyword.End ∷ []) (action b.0, b.1))
closed_is block ws action =
    bind_bind (block ws) _ _ _ (λ b. bind_bind (after_terminals (OfKeyword keyword.End ∷ []) b.1) _ _ _ (λ rest. refl))

while_is : (block : Reader BlockTree) (at : ℕ) (ws : List Terminal) → action_by block (LeadingKeyword keyword.While at ∷ ws) ≡ opened_by block statement_keyword.While at ws
while_is block at ws = bind_same (expression ws) _ _ (λ e. sym (closed_is block e.1 (While at e.0)))

else_is : (block : Reader BlockTree) (at : ℕ) (test : ExpressionTree) (body : BlockTree × List Terminal) (after : Option (List Terminal))
    → else_by block at test body after ≡ otherwise_by block at test body after
else_is block at test body None = refl
else_is block at test body (Some after) = sym (closed_is block after (IfElse at test body.0))

if_is : (block : Reader BlockTree) (at : ℕ) (ws : List Terminal) → action_by block (LeadingKeyword keyword.If at ∷ ws) ≡ opened_by block statement_keyword.If at ws
if_is block at ws =
    bind_same (expression ws) _ _ (λ e.
    bind_same (block e.1) _ _ (λ b. else_is block at e.0 b (after_terminal (OfKeyword keyword.Else) b.1)))

for_is : (block : Reader BlockTree) (at : ℕ) (ws : List Terminal) → action_by block (LeadingKeyword keyword.For at ∷ ws) ≡ opened_by block statement_keyword.For at ws
for_is block at ws =
    sym (bind_bind (name_reader ws) _ _ _ (λ n.
    bind_bind (after_terminal (OfKeyword keyword.In) n.1) _ _ _ (λ a.
    bind_bind (expression a) _ _ _ (λ e.
    bind_bind (after_terminal (OfSymbol symbol.Colon) e.1) _ _ _ (λ c.
    bind_bind (expression c) _ _ _ (λ f. closed_is block f.1 (For at n.0 e.0 f.0)))))))

same_statement_keyword : (o p : Begun) → Some o ≡ Some p → o ≡ p
same_statement_keyword o p is = cc is

-- what a statement does that begins with such a keyword
pub opened_is : (block : Reader BlockTree) (terminal : Keyword) (at : ℕ) (statement_keyword : Begun) (ws : List Terminal) → statement_keyword_of terminal ≡ Some statement_keyword
    → action_by block (keyword_terminal terminal at ∷ ws) ≡ opened_by block statement_keyword at ws
opened_is block keyword.Var at o ws is = ap (λ o. opened_by block o at ws) (same_statement_keyword statement_keyword.Var o is)
opened_is block keyword.While at o ws is = while_is block at ws ∙ ap (λ o. opened_by block o at ws) (same_statement_keyword statement_keyword.While o is)
opened_is block keyword.For at o ws is = for_is block at ws ∙ ap (λ o. opened_by block o at ws) (same_statement_keyword statement_keyword.For o is)
opened_is block keyword.If at o ws is = if_is block at ws ∙ ap (λ o. opened_by block o at ws) (same_statement_keyword statement_keyword.If o is)
opened_is block keyword.Print at o ws is = ap (λ o. opened_by block o at ws) (same_statement_keyword statement_keyword.Print o is)
opened_is block _ at o ws is = absurd (false≢true (ap is_some is))

pub next_is : (depth : ℕ) (left rest : List Terminal) (s : Option Identifier × StatementKindTree) → begins_statement left ≡ true → statement_by (action_at depth) left ≡ Some (s, rest)
    → next_statement (action_at depth) left ≡ Some (Some (s, rest))
next_is depth left rest s begins is =
    ap (λ b. where_begins b (statement_by (action_at depth) left)) begins ∙ ap (λ (r : Option ((Option Identifier × StatementKindTree) × List Terminal)). Some r) is
