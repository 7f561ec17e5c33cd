-- What is spelled is read: values, statements and blocks.
use Rattle.std.proofs.Common.{◌≡◌, refl, sym, ◌∙◌, ap, arith, Bool, true, false, List, [], ◌∷◌, ◌++◌, Option, Some, None, ℕ, zero, suc, ◌<◌, ◌≤◌, length, length-append}
use Rattle.lexer.specs.declared.keyword.Keyword.TheVariants as keyword
use Rattle.lexer.specs.declared.symbol.Symbol.TheVariants as symbol
use Rattle.syntax.specs.Terminals.{Terminal, Identifier, Name, OfKeyword, OfSymbol}
use Rattle.syntax.specs.SourceTrees.{ExpressionTree, ParameterTree, EndsTree, InitialTree, NewSet, Load, Vertices, OutDegrees, Filter, ApplyModified, Value, StatementKindTree, Declare, While, For, If}
use Rattle.syntax.specs.SourceTrees.{IfElse, Print, Assign, Reduce, SetEntry, ReduceEntry, AddVertex, Apply, BlockTree, Empty, Then}
use Rattle.syntax.specs.ExpressionReading.{Reader}
use Rattle.syntax.specs.Nesting.{◌>>=◌}
use Rattle.syntax.specs.ExpressionSpelling.{expression_terminals}
use Rattle.apply_options.specs.declared.reduction.Reduction.{Reduction}
use Rattle.apply_options.specs.declared.reduction.Reduction.TheVariants as reduction
use Rattle.syntax.specs.SourceSpelling.{ends_before, initial_before, assigned_before, ended_before, end_terminals, reduction_terminal, label_terminals, action_before, block_before, each_before}
use Rattle.syntax.specs.SourceSpelling.{typed_before, argument_terminals, type_terminals}
use Rattle.syntax.specs.SourceReading.{expression, ends_at, method_at, initial_at, named_initial, modified_at, assigned_at, ended_at, entry_by, applied_at, argument_at, named_action, else_by}
use Rattle.syntax.specs.SourceReading.{action_by, block_at, no_block, next_statement, statement_by, begins_statement, label_at, block_from, where_begins, each_at, closed_by, after_terminal}
use Rattle.syntax.specs.SourceReading.{after_terminals, name_reader}
use Rattle.syntax.specs.inside.Fits.{Fits, FitsInitial, FitsAction, FitsBlock}
use Rattle.syntax.proofs.Complete.{typed_complete, Each, IsRead, each_complete}

apply_ends : (from to : Option Identifier) (rest : List Terminal)
    → ends_at (end_terminals (OfKeyword keyword.From) from ++ (end_terminals (OfKeyword keyword.To) to ++ OfSymbol symbol.Dot ∷ OfKeyword keyword.Apply ∷ rest))
    ≡ Some (record { from = from; to = to }, OfSymbol symbol.Dot ∷ OfKeyword keyword.Apply ∷ rest)
apply_ends None None rest = refl
apply_ends None (Some t) rest = refl
apply_ends (Some f) None rest = refl
apply_ends (Some f) (Some t) rest = refl

modified_ends : (from to : Option Identifier) (rest : List Terminal)
    → ends_at (end_terminals (OfKeyword keyword.From) from ++ (end_terminals (OfKeyword keyword.To) to ++ OfSymbol symbol.Dot ∷ OfKeyword keyword.ApplyModified ∷ rest))
    ≡ Some (record { from = from; to = to }, OfSymbol symbol.Dot ∷ OfKeyword keyword.ApplyModified ∷ rest)
modified_ends None None rest = refl
modified_ends None (Some t) rest = refl
modified_ends (Some f) None rest = refl
modified_ends (Some f) (Some t) rest = refl

-- a name and the ends of what is applied to it decide that it is no expression
modified_initial : (name : Identifier) (from to : Option Identifier) (rest : List Terminal)
    → initial_at (Name name ∷ (end_terminals (OfKeyword keyword.From) from ++ (end_terminals (OfKeyword keyword.To) to ++ OfSymbol symbol.Dot ∷ OfKeyword keyword.ApplyModified ∷ rest)))
    ≡ modified_at name (end_terminals (OfKeyword keyword.From) from ++ (end_terminals (OfKeyword keyword.To) to ++ OfSymbol symbol.Dot ∷ OfKeyword keyword.ApplyModified ∷ rest))
modified_initial name None None rest = refl
modified_initial name None (Some t) rest = refl
modified_initial name (Some f) to rest = refl

-- an expression after which these terminals stand is read as a value
value_named : (name : Identifier) (ws rest : List Terminal) (e : ExpressionTree) → expression (Name name ∷ ws) ≡ Some (e, rest)
    → named_initial name ws (method_at ws) ≡ Some (Value e, rest)
unfolding expression
value_named name (OfSymbol symbol.Dot ∷ OfKeyword keyword.GetVertices ∷ ws) rest e is = cc is
value_named name (OfSymbol symbol.Dot ∷ OfKeyword keyword.GetOutDegrees ∷ ws) rest e is = cc is
value_named name (OfSymbol symbol.Dot ∷ OfKeyword keyword.Filter ∷ ws) rest e is = cc is
value_named name (OfSymbol symbol.Dot ∷ OfKeyword keyword.From ∷ ws) rest e is = cc is
value_named name (OfSymbol symbol.Dot ∷ OfKeyword keyword.To ∷ ws) rest e is = cc is
value_named name (OfSymbol symbol.Dot ∷ OfKeyword keyword.ApplyModified ∷ ws) rest e is = cc is
value_named name _ rest e is = ap (λ r. r >>= λ x. Some (Value x.0, x.1)) is

value_initial : (ws rest : List Terminal) (e : ExpressionTree) → expression ws ≡ Some (e, rest) → initial_at ws ≡ Some (Value e, rest)
unfolding expression
value_initial (OfKeyword keyword.New ∷ ws) rest e is = cc is
value_initial (OfKeyword keyword.Load ∷ ws) rest e is = cc is
value_initial (Name name ∷ ws) rest e is = value_named name ws rest e is
value_initial _ rest e is = ap (λ r. r >>= λ x. Some (Value x.0, x.1)) is

-- whether an expression may go on with these terminals
abbrev pub goes_on : List Terminal → Bool
goes_on (OfSymbol symbol.Plus ∷ ws) = true
goes_on (OfSymbol symbol.Minus ∷ ws) = true
goes_on (OfSymbol symbol.Star ∷ ws) = true
goes_on (OfSymbol symbol.Slash ∷ ws) = true
goes_on (OfSymbol symbol.Percent ∷ ws) = true
goes_on (OfSymbol symbol.Equal ∷ ws) = true
goes_on (OfSymbol symbol.NotEqual ∷ ws) = true
goes_on (OfSymbol symbol.Less ∷ ws) = true
goes_on (OfSymbol symbol.LessOrEqual ∷ ws) = true
goes_on (OfSymbol symbol.Greater ∷ ws) = true
goes_on (OfSymbol symbol.GreaterOrEqual ∷ ws) = true
goes_on (OfSymbol symbol.OpenBracket ∷ ws) = true
goes_on (OfSymbol symbol.Dot ∷ ws) = true
goes_on (OfKeyword keyword.And ∷ ws) = true
goes_on (OfKeyword keyword.Or ∷ ws) = true
goes_on _ = false

-- no expression goes on with a block, where it does not with what is after the block
block_ends : (b : BlockTree) (rest : List Terminal) → goes_on rest ≡ false → goes_on (block_before b rest) ≡ false
block_ends Empty rest ends = ends
block_ends (Then (Some label) action others) rest ends = refl
block_ends (Then None (Declare at p initial) others) rest ends = refl
block_ends (Then None _ others) rest ends = refl

abbrev pub LabelledAction : Type 0
LabelledAction = Option Identifier × StatementKindTree

abbrev pub statement_before : LabelledAction → List Terminal → List Terminal
statement_before s rest = label_terminals s.0 ++ action_before s.1 rest

abbrev pub items_of : BlockTree → List LabelledAction
items_of Empty = []
items_of (Then label action others) = (label, action) ∷ items_of others

pub block_from-items : (b : BlockTree) → block_from (items_of b) ≡ b
block_from-items Empty = refl
block_from-items (Then label action others) = ap (Then label action) (block_from-items others)

block_before-items : (b : BlockTree) (rest : List Terminal) → each_before statement_before (items_of b) rest ≡ block_before b rest
block_before-items Empty rest = refl
block_before-items (Then label action others) rest = ap (λ r. label_terminals label ++ action_before action r) (block_before-items others rest)

-- a label before what a statement does, and what a statement begins with
label_complete : (label : Option Identifier) (action : StatementKindTree) (rest : List Terminal) → label_at (label_terminals label ++ action_before action rest) ≡ (label, action_before action rest)
label_complete (Some label) action rest = refl
label_complete None (Declare at p initial) rest = refl
label_complete None _ rest = refl

begins_complete : (label : Option Identifier) (action : StatementKindTree) (rest : List Terminal) → begins_statement (label_terminals label ++ action_before action rest) ≡ true
begins_complete (Some label) action rest = refl
begins_complete None (Declare at p initial) rest = refl
begins_complete None _ rest = refl

append_longer : (ws rest : List Terminal) → length rest ≤ length (ws ++ rest)
append_longer ws rest = omega (arith, length-append ws rest)

ends_longer : (ends : EndsTree) (rest : List Terminal) → length rest ≤ length (ends_before ends rest)
ends_longer ends rest =
    let h : length rest ≤ length (end_terminals (OfKeyword keyword.From) ends.from ++ (end_terminals (OfKeyword keyword.To) ends.to ++ rest)) =
    omega (
      arith,
      append_longer (end_terminals (OfKeyword keyword.From) ends.from) (end_terminals (OfKeyword keyword.To) ends.to ++ rest),
      append_longer (end_terminals (OfKeyword keyword.To) ends.to) rest,
    ) in
    h

pub initial_longer : (i : InitialTree) (rest : List Terminal) → length rest ≤ length (initial_before i rest)
initial_longer (NewSet size) rest = omega arith
initial_longer (Load argument) rest = omega arith
initial_longer (Vertices edges) rest = omega arith
initial_longer (OutDegrees edges) rest = omega arith
initial_longer (Filter set test) rest = omega arith
initial_longer (ApplyModified edges ends function vector) rest =
    omega (
      arith,
      ends_longer ends (OfSymbol symbol.Dot ∷ OfKeyword keyword.ApplyModified ∷ OfSymbol symbol.OpenParenthesis
          ∷ Name function ∷ OfSymbol symbol.Comma ∷ Name vector ∷ OfSymbol symbol.CloseParenthesis ∷ rest),
    )
initial_longer (Value e) rest = append_longer (expression_terminals e) rest

pub typed_longer : (p : ParameterTree) (rest : List Terminal) → length rest ≤ length (typed_before p rest)
typed_longer p rest = omega (arith, append_longer (type_terminals p.declared) rest)

ended_longer : (e : ExpressionTree) (rest : List Terminal) → length rest ≤ length (ended_before e rest)
ended_longer e rest = omega (arith, append_longer (expression_terminals e) (OfSymbol symbol.Semicolon ∷ rest))

mutual
  action_longer : (action : StatementKindTree) (rest : List Terminal) → length rest < length (action_before action rest)
  action_longer (Declare at p initial) rest =
      omega (arith, typed_longer p (assigned_before initial rest), initial_longer initial (OfSymbol symbol.Semicolon ∷ rest))
  action_longer (While at test body) rest =
      omega (arith, append_longer (expression_terminals test) (block_before body (OfKeyword keyword.End ∷ rest)), block_longer body (OfKeyword keyword.End ∷ rest))
  action_longer (For at name first last body) rest =
      omega (
        arith,
        append_longer (expression_terminals first) (OfSymbol symbol.Colon ∷ (expression_terminals last ++ block_before body (OfKeyword keyword.End ∷ rest))),
        append_longer (expression_terminals last) (block_before body (OfKeyword keyword.End ∷ rest)),
        block_longer body (OfKeyword keyword.End ∷ rest),
      )
  action_longer (If at test body) rest =
      omega (arith, append_longer (expression_terminals test) (block_before body (OfKeyword keyword.End ∷ rest)), block_longer body (OfKeyword keyword.End ∷ rest))
  action_longer (IfElse at test body otherwise) rest =
      let behind : List Terminal = OfKeyword keyword.Else ∷ block_before otherwise (OfKeyword keyword.End ∷ rest) in
      omega (
        arith,
        append_longer (expression_terminals test) (block_before body behind),
        block_longer body behind,
        block_longer otherwise (OfKeyword keyword.End ∷ rest),
      )
  action_longer (Print at value) rest = omega (arith, ended_longer value rest)
  action_longer (Assign name value) rest = omega (arith, initial_longer value (OfSymbol symbol.Semicolon ∷ rest))
  action_longer (Reduce name reduction value) rest = omega (arith, ended_longer value rest)
  action_longer (SetEntry vector index value) rest =
      omega (arith, append_longer (expression_terminals index) (OfSymbol symbol.CloseBracket ∷ OfSymbol symbol.Assign ∷ ended_before value rest), ended_longer value rest)
  action_longer (ReduceEntry vector index reduction value) rest =
      omega (arith, append_longer (expression_terminals index) (OfSymbol symbol.CloseBracket ∷ reduction_terminal reduction ∷ ended_before value rest), ended_longer value rest)
  action_longer (AddVertex set vertex) rest =
      omega (arith, append_longer (expression_terminals vertex) (OfSymbol symbol.CloseParenthesis ∷ OfSymbol symbol.Semicolon ∷ rest))
  action_longer (Apply target ends function) rest =
      omega (arith, ends_longer ends (OfSymbol symbol.Dot ∷ OfKeyword keyword.Apply ∷ (argument_terminals function ++ OfSymbol symbol.Semicolon ∷ rest)))

  pub block_longer : (b : BlockTree) (rest : List Terminal) → length rest ≤ length (block_before b rest)
  block_longer Empty rest = omega arith
  block_longer (Then label action others) rest =
      omega (
        arith,
        append_longer (label_terminals label) (action_before action (block_before others rest)),
        action_longer action (block_before others rest),
        block_longer others rest,
      )

statement_longer : (s : LabelledAction) (rest : List Terminal) → length rest < length (statement_before s rest)
statement_longer s rest = omega (arith, append_longer (label_terminals s.0) (action_before s.1 rest), action_longer s.1 rest)

-- the readers of the blocks in a statement of a block at this depth
abbrev pub inner : ℕ → Reader BlockTree
inner zero = no_block
inner (suc d) = block_at d

pub block_at-by : (d : ℕ) (ws : List Terminal) → block_at d ws ≡ (each_at (next_statement (action_by (inner d))) ws >>= λ b. Some (block_from b.0, b.1))
block_at-by zero ws = refl
block_at-by (suc d) ws = refl

next_ends : (action : Reader StatementKindTree) (rest : List Terminal) → begins_statement rest ≡ false → next_statement action rest ≡ None
next_ends action rest ends = ap (λ b. where_begins b (statement_by action rest)) ends

module _ (complete : (e : ExpressionTree) (rest : List Terminal) → Fits e → goes_on rest ≡ false → expression (expression_terminals e ++ rest) ≡ Some (e, rest)) where
  ended_complete : (e : ExpressionTree) (rest : List Terminal) → Fits e → ended_at (ended_before e rest) ≡ Some (e, rest)
  ended_complete e rest fits = ap (λ r. r >>= closed_by (OfSymbol symbol.Semicolon ∷ [])) (complete e (OfSymbol symbol.Semicolon ∷ rest) fits refl)

  initial_complete : (i : InitialTree) (rest : List Terminal) → FitsInitial i → initial_at (initial_before i (OfSymbol symbol.Semicolon ∷ rest)) ≡ Some (i, OfSymbol symbol.Semicolon ∷ rest)
  initial_complete (NewSet size) rest fits = refl
  initial_complete (Load argument) rest fits = refl
  initial_complete (Vertices edges) rest fits = refl
  initial_complete (OutDegrees edges) rest fits = refl
  initial_complete (Filter set test) rest fits = refl
  initial_complete (ApplyModified edges ends function vector) rest fits =
      let behind : List Terminal = OfSymbol symbol.OpenParenthesis ∷ Name function ∷ OfSymbol symbol.Comma ∷ Name vector ∷ OfSymbol symbol.CloseParenthesis ∷ OfSymbol symbol.Semicolon ∷ rest in
      modified_initial edges ends.from ends.to behind
      ∙ ap (λ r. r >>= λ e. after_terminals (OfSymbol symbol.Dot ∷ OfKeyword keyword.ApplyModified ∷ OfSymbol symbol.OpenParenthesis ∷ []) e.1 >>= λ a.
      name_reader a >>= λ f. after_terminal (OfSymbol symbol.Comma) f.1 >>= λ b. name_reader b >>= λ v.
      closed_by (OfSymbol symbol.CloseParenthesis ∷ []) (ApplyModified edges e.0 f.0 v.0, v.1)) (modified_ends ends.from ends.to behind)
  initial_complete (Value e) rest fits = value_initial (expression_terminals e ++ OfSymbol symbol.Semicolon ∷ rest) (OfSymbol symbol.Semicolon ∷ rest) e
      (complete e (OfSymbol symbol.Semicolon ∷ rest) fits refl)

  pub assigned_complete : (i : InitialTree) (rest : List Terminal) → FitsInitial i → assigned_at (assigned_before i rest) ≡ Some (i, rest)
  assigned_complete i rest fits = ap (λ r. r >>= closed_by (OfSymbol symbol.Semicolon ∷ [])) (initial_complete i rest fits)

  reduction_step : (name : Identifier) (r : Reduction) (ws : List Terminal)
      → named_action name (reduction_terminal r ∷ ws) ≡ (ended_at ws >>= λ e. Some (Reduce name r e.0, e.1))
  reduction_step name reduction.Min ws = refl
  reduction_step name _ ws = refl

  entry_step : (vector : Identifier) (index : ExpressionTree) (r : Reduction) (ws : List Terminal)
      → entry_by vector index (reduction_terminal r ∷ ws) (after_terminal (OfSymbol symbol.Assign) (reduction_terminal r ∷ ws)) ≡ (ended_at ws >>= λ e. Some (ReduceEntry vector index r e.0, e.1))
  entry_step vector index reduction.Min ws = refl
  entry_step vector index _ ws = refl

  apply_step : (name : Identifier) (from to : Option Identifier) (ws : List Terminal)
      → named_action name (end_terminals (OfKeyword keyword.From) from ++ (end_terminals (OfKeyword keyword.To) to ++ OfSymbol symbol.Dot ∷ OfKeyword keyword.Apply ∷ ws))
      ≡ applied_at name (end_terminals (OfKeyword keyword.From) from ++ (end_terminals (OfKeyword keyword.To) to ++ OfSymbol symbol.Dot ∷ OfKeyword keyword.Apply ∷ ws))
  apply_step name None None ws = refl
  apply_step name None (Some t) ws = refl
  apply_step name (Some f) to ws = refl

  -- a statement, if what it does is read
  statement_complete : (action : Reader StatementKindTree) (label : Option Identifier) (a : StatementKindTree) (rest : List Terminal)
      → action (action_before a rest) ≡ Some (a, rest) → next_statement action (statement_before (label, a) rest) ≡ Some (Some ((label, a), rest))
  statement_complete action label a rest is =
      ap (λ b. where_begins b (statement_by action (statement_before (label, a) rest))) (begins_complete label a rest)
      ∙ ap (λ l. Some (action l.1 >>= λ x. Some ((l.0, x.0), x.1))) (label_complete label a rest)
      ∙ ap (λ r. Some (r >>= λ x. Some ((label, x.0), x.1))) is

  pub block_items : (d : ℕ) (b : BlockTree) (rest : List Terminal) → Each (IsRead (next_statement (action_by (inner d))) statement_before) (items_of b)
      → begins_statement rest ≡ false → block_at d (block_before b rest) ≡ Some (b, rest)
  block_items d b rest read ends =
      block_at-by d (block_before b rest)
      ∙ ap (λ r. r >>= λ x. Some (block_from x.0, x.1))
      (ap (each_at (next_statement (action_by (inner d)))) (sym (block_before-items b rest))
      ∙ each_complete (next_statement (action_by (inner d))) statement_before statement_longer (items_of b) rest read
      (next_ends (action_by (inner d)) rest ends))
      ∙ ap (λ x. Some (x, rest)) (block_from-items b)

  mutual
    action_complete : (d : ℕ) (a : StatementKindTree) (rest : List Terminal) → FitsAction d a → action_by (inner d) (action_before a rest) ≡ Some (a, rest)
    action_complete d (Declare at p initial) rest fits =
        ap (λ r. r >>= λ n. assigned_at n.1 >>= λ i. Some (Declare at n.0 i.0, i.1)) (typed_complete p (assigned_before initial rest))
        ∙ ap (λ r. r >>= λ i. Some (Declare at p i.0, i.1)) (assigned_complete initial rest fits)
    action_complete zero (While at test body) rest fits = absurd fits
    action_complete (suc d) (While at test body) rest fits =
        let behind : List Terminal = OfKeyword keyword.End ∷ rest in
        ap (λ r. r >>= λ e. block_at d e.1 >>= λ b. closed_by (OfKeyword keyword.End ∷ []) (While at e.0 b.0, b.1))
        (complete test (block_before body behind) fits.0 (block_ends body behind refl))
        ∙ ap (λ r. r >>= λ b. closed_by (OfKeyword keyword.End ∷ []) (While at test b.0, b.1)) (block_items d body behind (items_complete d body fits.1) refl)
    action_complete zero (For at name first last body) rest fits = absurd fits
    action_complete (suc d) (For at name first last body) rest fits =
        let behind : List Terminal = OfKeyword keyword.End ∷ rest in
        ap (λ r. r >>= λ e. after_terminal (OfSymbol symbol.Colon) e.1 >>= λ c. expression c >>= λ f. block_at d f.1 >>= λ b.
        closed_by (OfKeyword keyword.End ∷ []) (For at name e.0 f.0 b.0, b.1))
        (complete first (OfSymbol symbol.Colon ∷ (expression_terminals last ++ block_before body behind)) fits.0 refl)
        ∙ ap (λ r. r >>= λ f. block_at d f.1 >>= λ b. closed_by (OfKeyword keyword.End ∷ []) (For at name first f.0 b.0, b.1))
        (complete last (block_before body behind) fits.1 (block_ends body behind refl))
        ∙ ap (λ r. r >>= λ b. closed_by (OfKeyword keyword.End ∷ []) (For at name first last b.0, b.1))
        (block_items d body behind (items_complete d body fits.2) refl)
    action_complete zero (If at test body) rest fits = absurd fits
    action_complete (suc d) (If at test body) rest fits =
        let behind : List Terminal = OfKeyword keyword.End ∷ rest in
        ap (λ r. r >>= λ e. block_at d e.1 >>= λ b. else_by (block_at d) at e.0 b (after_terminal (OfKeyword keyword.Else) b.1))
        (complete test (block_before body behind) fits.0 (block_ends body behind refl))
        ∙ ap (λ r. r >>= λ b. else_by (block_at d) at test b (after_terminal (OfKeyword keyword.Else) b.1))
        (block_items d body behind (items_complete d body fits.1) refl)
    action_complete zero (IfElse at test body otherwise) rest fits = absurd fits
    action_complete (suc d) (IfElse at test body otherwise) rest fits =
        let behind : List Terminal = OfKeyword keyword.End ∷ rest in
        let after : List Terminal = OfKeyword keyword.Else ∷ block_before otherwise behind in
        ap (λ r. r >>= λ e. block_at d e.1 >>= λ b. else_by (block_at d) at e.0 b (after_terminal (OfKeyword keyword.Else) b.1))
        (complete test (block_before body after) fits.0 (block_ends body after refl))
        ∙ ap (λ r. r >>= λ b. else_by (block_at d) at test b (after_terminal (OfKeyword keyword.Else) b.1))
        (block_items d body after (items_complete d body fits.1) refl)
        ∙ ap (λ r. r >>= λ b. closed_by (OfKeyword keyword.End ∷ []) (IfElse at test body b.0, b.1))
        (block_items d otherwise behind (items_complete d otherwise fits.2) refl)
    action_complete d (Print at value) rest fits = ap (λ r. r >>= λ e. Some (Print at e.0, e.1)) (ended_complete value rest fits)
    action_complete d (Assign name value) rest fits = ap (λ r. r >>= λ i. Some (Assign name i.0, i.1)) (assigned_complete value rest fits)
    action_complete d (Reduce name reduction value) rest fits =
        reduction_step name reduction (ended_before value rest)
        ∙ ap (λ r. r >>= λ e. Some (Reduce name reduction e.0, e.1)) (ended_complete value rest fits)
    action_complete d (SetEntry vector index value) rest fits =
        ap (λ r. r >>= λ i. after_terminal (OfSymbol symbol.CloseBracket) i.1 >>= λ ws. entry_by vector i.0 ws (after_terminal (OfSymbol symbol.Assign) ws))
        (complete index (OfSymbol symbol.CloseBracket ∷ OfSymbol symbol.Assign ∷ ended_before value rest) fits.0 refl)
        ∙ ap (λ r. r >>= λ e. Some (SetEntry vector index e.0, e.1)) (ended_complete value rest fits.1)
    action_complete d (ReduceEntry vector index reduction value) rest fits =
        ap (λ r. r >>= λ i. after_terminal (OfSymbol symbol.CloseBracket) i.1 >>= λ ws. entry_by vector i.0 ws (after_terminal (OfSymbol symbol.Assign) ws))
        (complete index (OfSymbol symbol.CloseBracket ∷ reduction_terminal reduction ∷ ended_before value rest) fits.0 refl)
        ∙ entry_step vector index reduction (ended_before value rest)
        ∙ ap (λ r. r >>= λ e. Some (ReduceEntry vector index reduction e.0, e.1)) (ended_complete value rest fits.1)
    action_complete d (AddVertex set vertex) rest fits =
        ap (λ r. r >>= λ e. closed_by (OfSymbol symbol.CloseParenthesis ∷ OfSymbol symbol.Semicolon ∷ []) (AddVertex set e.0, e.1))
        (complete vertex (OfSymbol symbol.CloseParenthesis ∷ OfSymbol symbol.Semicolon ∷ rest) fits refl)
    action_complete d (Apply target ends function) rest fits =
        let behind : List Terminal = OfSymbol symbol.OpenParenthesis ∷ Name function ∷ OfSymbol symbol.CloseParenthesis ∷ OfSymbol symbol.Semicolon ∷ rest in
        apply_step target ends.from ends.to behind
        ∙ ap (λ r. r >>= λ e. after_terminals (OfSymbol symbol.Dot ∷ OfKeyword keyword.Apply ∷ []) e.1 >>= λ a. argument_at a >>= λ f.
        closed_by (OfSymbol symbol.Semicolon ∷ []) (Apply target e.0 f.0, f.1)) (apply_ends ends.from ends.to behind)

    pub items_complete : (d : ℕ) (b : BlockTree) → FitsBlock d b → Each (IsRead (next_statement (action_by (inner d))) statement_before) (items_of b)
    items_complete d Empty fits = tt
    items_complete d (Then label action others) fits =
        ((λ rest. statement_complete (action_by (inner d)) label action rest (action_complete d action rest fits.0)), items_complete d others fits.1)
