-- Terminals that are those of a source but for their offsets are those of a source.
use Rattle.std.proofs.Common.{◌≡◌, ℕ, true, List, [], ◌∷◌, ◌++◌, Option, Some, None, refl, ◌∙◌, ap}
use Rattle.lexer.specs.declared.keyword.Keyword.TheVariants as keyword
use Rattle.lexer.specs.declared.symbol.Symbol.TheVariants as symbol
use Rattle.syntax.specs.Terminals.{Terminal, Identifier, Name, Number, Text, LeadingKeyword, OfKeyword, OfSymbol}
use Rattle.syntax.specs.ExpressionSpelling.{expression_terminals}
use Rattle.syntax.specs.declared.declaration.DeclaredType.{DeclaredType}
use Rattle.syntax.specs.declared.declaration.DeclaredType.TheVariants as type
use Rattle.apply_options.specs.declared.reduction.Reduction.{Reduction}
use Rattle.apply_options.specs.declared.reduction.Reduction.TheVariants as reduction
use Rattle.syntax.specs.SourceTrees.{EndsTree, InitialTree, NewSet, Load, Vertices, OutDegrees, Filter, ApplyModified, Value, StatementKindTree, Declare, While, For, If, IfElse, Print, Assign, Reduce}
use Rattle.syntax.specs.SourceTrees.{SetEntry, ReduceEntry, AddVertex, Apply, BlockTree, Empty, Then, ParameterTree, DeclarationTree, Constant, Function, CallTree, ChainTree, SourceTree}
use Rattle.syntax.specs.SourceSpelling.{each_before, type_terminals, reduction_terminal, argument_terminals, end_terminals, ends_before, initial_before, typed_before, assigned_before, label_terminals}
use Rattle.syntax.specs.SourceSpelling.{action_before, block_before, next_parameter_before, parameters_before, result_before, declaration_before, setting_keyword, next_text_before, call_before}
use Rattle.syntax.specs.SourceSpelling.{next_call_before, chain_before, schedule_before, source_terminals}
use Rattle.source_text.specs.Text.{AreAlike}
use Rattle.source_text.proofs.Moves.{all_fixed, take_fixed, take_name, take_label, take_leading_keyword, Moves, MovesTerminals, move_expression}

fixed_type : (d : DeclaredType) → all_fixed (type_terminals d) ≡ true
fixed_type type.Int = refl
fixed_type _ = refl

fixed_reduction : (r : Reduction) → all_fixed (reduction_terminal r ∷ []) ≡ true
fixed_reduction reduction.Min = refl
fixed_reduction _ = refl

move_argument : (name : Identifier) → MovesTerminals argument_terminals name
move_argument name rest ws same =
    let m0 = take_fixed (OfSymbol symbol.OpenParenthesis ∷ []) (Name (name) ∷ OfSymbol symbol.CloseParenthesis ∷ rest) ws refl same in
    let m1 = take_name (name) (OfSymbol symbol.CloseParenthesis ∷ rest) m0.0 m0.2 in
    let m2 = take_fixed (OfSymbol symbol.CloseParenthesis ∷ []) (rest) m1.1 refl m1.3 in
    (m1.0, m2.0, (m0.1) ∙ ap (λ o. OfSymbol symbol.OpenParenthesis ∷ o) (m1.2) ∙ ap (λ o. OfSymbol symbol.OpenParenthesis ∷ Name (m1.0) ∷ o) (m2.1), m2.2)

move_from : (name : Option Identifier) → MovesTerminals (end_terminals (OfKeyword keyword.From)) name
move_from None rest ws same = (None, ws, refl, same)
move_from (Some name) rest ws same =
    let m0 = take_fixed (OfSymbol symbol.Dot ∷ OfKeyword keyword.From ∷ []) ((argument_terminals (name) ++ (rest))) ws refl same in
    let m1 = move_argument (name) (rest) m0.0 m0.2 in
    (Some m1.0, m1.1, (m0.1) ∙ ap (λ o. OfSymbol symbol.Dot ∷ OfKeyword keyword.From ∷ o) (m1.2), m1.3)

move_to : (name : Option Identifier) → MovesTerminals (end_terminals (OfKeyword keyword.To)) name
move_to None rest ws same = (None, ws, refl, same)
move_to (Some name) rest ws same =
    let m0 = take_fixed (OfSymbol symbol.Dot ∷ OfKeyword keyword.To ∷ []) ((argument_terminals (name) ++ (rest))) ws refl same in
    let m1 = move_argument (name) (rest) m0.0 m0.2 in
    (Some m1.0, m1.1, (m0.1) ∙ ap (λ o. OfSymbol symbol.Dot ∷ OfKeyword keyword.To ∷ o) (m1.2), m1.3)

move_ends : (ends : EndsTree) → Moves ends_before ends
move_ends ends rest ws same =
    let m0 = move_from (ends.from) ((end_terminals (OfKeyword keyword.To) (ends.to) ++ (rest))) ws same in
    let m1 = move_to (ends.to) (rest) m0.1 m0.3 in
    (record { from = m0.0; to = m1.0 }, m1.1, (m0.2) ∙ ap (λ o. (end_terminals (OfKeyword keyword.From) (m0.0) ++ (o))) (m1.2), m1.3)

move_initial : (initial : InitialTree) → Moves initial_before initial
move_initial (NewSet size) rest ws same =
    let m0 = take_fixed
    (OfKeyword keyword.New ∷ OfKeyword keyword.VertexSet ∷ OfSymbol symbol.OpenBrace ∷ OfKeyword keyword.Vertex ∷ OfSymbol symbol.CloseBrace ∷ OfSymbol symbol.OpenParenthesis ∷ Number size ∷ OfSymbol
    symbol.CloseParenthesis ∷ []) (rest) ws refl same in
    (NewSet size, m0.0, (m0.1), m0.2)
move_initial (Load argument) rest ws same =
    let m0 = take_fixed
    (OfKeyword keyword.Load ∷ OfSymbol symbol.OpenParenthesis ∷ OfKeyword keyword.Argv ∷ OfSymbol symbol.OpenBracket ∷ Number argument ∷ OfSymbol symbol.CloseBracket ∷ OfSymbol symbol.CloseParenthesis
    ∷ []) (rest) ws refl same in
    (Load argument, m0.0, (m0.1), m0.2)
move_initial (Vertices edges) rest ws same =
    let m0 = take_name (edges) (OfSymbol symbol.Dot ∷ OfKeyword keyword.GetVertices ∷ OfSymbol symbol.OpenParenthesis ∷ OfSymbol symbol.CloseParenthesis ∷ rest) ws same in
    let m1 = take_fixed (OfSymbol symbol.Dot ∷ OfKeyword keyword.GetVertices ∷ OfSymbol symbol.OpenParenthesis ∷ OfSymbol symbol.CloseParenthesis ∷ []) (rest) m0.1 refl m0.3 in
    (Vertices m0.0, m1.0, (m0.2) ∙ ap (λ o. Name (m0.0) ∷ o) (m1.1), m1.2)
move_initial (OutDegrees edges) rest ws same =
    let m0 = take_name (edges) (OfSymbol symbol.Dot ∷ OfKeyword keyword.GetOutDegrees ∷ OfSymbol symbol.OpenParenthesis ∷ OfSymbol symbol.CloseParenthesis ∷ rest) ws same in
    let m1 = take_fixed (OfSymbol symbol.Dot ∷ OfKeyword keyword.GetOutDegrees ∷ OfSymbol symbol.OpenParenthesis ∷ OfSymbol symbol.CloseParenthesis ∷ []) (rest) m0.1 refl m0.3 in
    (OutDegrees m0.0, m1.0, (m0.2) ∙ ap (λ o. Name (m0.0) ∷ o) (m1.1), m1.2)
move_initial (Filter set test) rest ws same =
    let m0 = take_name (set) (OfSymbol symbol.Dot ∷ OfKeyword keyword.Filter ∷ (argument_terminals (test) ++ (rest))) ws same in
    let m1 = take_fixed (OfSymbol symbol.Dot ∷ OfKeyword keyword.Filter ∷ []) ((argument_terminals (test) ++ (rest))) m0.1 refl m0.3 in
    let m2 = move_argument (test) (rest) m1.0 m1.2 in
    (Filter m0.0 m2.0, m2.1, (m0.2) ∙ ap (λ o. Name (m0.0) ∷ o) (m1.1) ∙ ap (λ o. Name (m0.0) ∷ OfSymbol symbol.Dot ∷ OfKeyword keyword.Filter ∷ o) (m2.2), m2.3)
move_initial (ApplyModified edges ends function vector) rest ws same =
    let m0 = take_name (edges) ((ends_before (ends) (OfSymbol symbol.Dot ∷ OfKeyword keyword.ApplyModified ∷ OfSymbol symbol.OpenParenthesis ∷ Name (function) ∷ OfSymbol symbol.Comma ∷ Name
    (vector) ∷ OfSymbol symbol.CloseParenthesis ∷ rest))) ws same in
    let m1 = move_ends (ends) (OfSymbol symbol.Dot ∷ OfKeyword keyword.ApplyModified ∷ OfSymbol symbol.OpenParenthesis ∷ Name (function) ∷ OfSymbol symbol.Comma ∷ Name
    (vector) ∷ OfSymbol symbol.CloseParenthesis ∷ rest) m0.1 m0.3 in
    let m2 = take_fixed (OfSymbol symbol.Dot ∷ OfKeyword keyword.ApplyModified ∷ OfSymbol symbol.OpenParenthesis ∷ [])
    (Name (function) ∷ OfSymbol symbol.Comma ∷ Name (vector) ∷ OfSymbol symbol.CloseParenthesis ∷ rest) m1.1 refl m1.3 in
    let m3 = take_name (function) (OfSymbol symbol.Comma ∷ Name (vector) ∷ OfSymbol symbol.CloseParenthesis ∷ rest) m2.0 m2.2 in
    let m4 = take_fixed (OfSymbol symbol.Comma ∷ []) (Name (vector) ∷ OfSymbol symbol.CloseParenthesis ∷ rest) m3.1 refl m3.3 in
    let m5 = take_name (vector) (OfSymbol symbol.CloseParenthesis ∷ rest) m4.0 m4.2 in
    let m6 = take_fixed (OfSymbol symbol.CloseParenthesis ∷ []) (rest) m5.1 refl m5.3 in (
      ApplyModified m0.0 m1.0 m3.0 m5.0,
      m6.0,
      (m0.2) ∙ ap (λ o. Name (m0.0) ∷ o) (m1.2) ∙ ap (λ o. Name (m0.0) ∷ (ends_before (m1.0) (o))) (m2.1)
          ∙ ap (λ o. Name (m0.0) ∷ (ends_before (m1.0) (OfSymbol symbol.Dot ∷ OfKeyword keyword.ApplyModified ∷ OfSymbol symbol.OpenParenthesis ∷ o))) (m3.2)
          ∙ ap (λ o. Name (m0.0) ∷ (ends_before (m1.0) (OfSymbol symbol.Dot ∷ OfKeyword keyword.ApplyModified ∷ OfSymbol symbol.OpenParenthesis ∷ Name (m3.0) ∷ o))) (m4.1)
          ∙ ap (λ o. Name (m0.0) ∷ (ends_before (m1.0) (OfSymbol symbol.Dot ∷ OfKeyword keyword.ApplyModified ∷ OfSymbol symbol.OpenParenthesis ∷ Name (m3.0) ∷ OfSymbol symbol.Comma ∷ o))) (m5.2)
          ∙ ap (λ o. Name (m0.0) ∷ (ends_before (m1.0) (OfSymbol symbol.Dot ∷ OfKeyword keyword.ApplyModified ∷ OfSymbol symbol.OpenParenthesis ∷ Name (m3.0) ∷ OfSymbol symbol.Comma ∷ Name
          (m5.0) ∷ o)))
          (m6.1),
      m6.2,
    )
move_initial (Value e) rest ws same =
    let m0 = move_expression (e) (rest) ws same in
    (Value m0.0, m0.1, (m0.2), m0.3)

move_typed : (p : ParameterTree) → Moves typed_before p
move_typed p rest ws same =
    let m0 = take_name (p.name) (OfSymbol symbol.Colon ∷ (type_terminals p.declared ++ rest)) ws same in
    let m1 = take_fixed (OfSymbol symbol.Colon ∷ []) ((type_terminals p.declared ++ rest)) m0.1 refl m0.3 in
    let m2 = take_fixed (type_terminals p.declared) (rest) m1.0 (fixed_type p.declared) m1.2 in
    (record { name = m0.0; declared = p.declared }, m2.0, (m0.2) ∙ ap (λ o. Name (m0.0) ∷ o) (m1.1) ∙ ap (λ o. Name (m0.0) ∷ OfSymbol symbol.Colon ∷ o) (m2.1), m2.2)

move_assigned : (initial : InitialTree) → Moves assigned_before initial
move_assigned initial rest ws same =
    let m0 = take_fixed (OfSymbol symbol.Assign ∷ []) ((initial_before (initial) (OfSymbol symbol.Semicolon ∷ rest))) ws refl same in
    let m1 = move_initial (initial) (OfSymbol symbol.Semicolon ∷ rest) m0.0 m0.2 in
    let m2 = take_fixed (OfSymbol symbol.Semicolon ∷ []) (rest) m1.1 refl m1.3 in
    (m1.0, m2.0, (m0.1) ∙ ap (λ o. OfSymbol symbol.Assign ∷ o) (m1.2) ∙ ap (λ o. OfSymbol symbol.Assign ∷ (initial_before (m1.0) (o))) (m2.1), m2.2)

move_label : (label : Option Identifier) → MovesTerminals label_terminals label
move_label None rest ws same = (None, ws, refl, same)
move_label (Some label) rest ws same =
    let m0 = take_label (label) (rest) ws same in
    (Some m0.0, m0.1, (m0.2), m0.3)

mutual
  move_action : (action : StatementKindTree) → Moves action_before action
  move_action (Declare at p initial) rest ws same =
      let m0 = take_leading_keyword (keyword.Var) (at) ((typed_before (p) ((assigned_before (initial) (rest))))) ws same in
      let m1 = move_typed (p) ((assigned_before (initial) (rest))) m0.1 m0.3 in
      let m2 = move_assigned (initial) (rest) m1.1 m1.3 in
      (Declare m0.0 m1.0 m2.0, m2.1, (m0.2) ∙ ap (λ o. LeadingKeyword (keyword.Var) (m0.0) ∷ o) (m1.2) ∙ ap (λ o. LeadingKeyword (keyword.Var) (m0.0) ∷ (typed_before (m1.0) (o))) (m2.2), m2.3)
  move_action (While at test body) rest ws same =
      let m0 = take_leading_keyword (keyword.While) (at) ((expression_terminals (test) ++ ((block_before (body) (OfKeyword keyword.End ∷ rest))))) ws same in
      let m1 = move_expression (test) ((block_before (body) (OfKeyword keyword.End ∷ rest))) m0.1 m0.3 in
      let m2 = move_block (body) (OfKeyword keyword.End ∷ rest) m1.1 m1.3 in
      let m3 = take_fixed (OfKeyword keyword.End ∷ []) (rest) m2.1 refl m2.3 in (
        While m0.0 m1.0 m2.0,
        m3.0,
        (m0.2) ∙ ap (λ o. LeadingKeyword (keyword.While) (m0.0) ∷ o) (m1.2) ∙ ap (λ o. LeadingKeyword (keyword.While) (m0.0) ∷ (expression_terminals (m1.0) ++ (o))) (m2.2)
            ∙ ap (λ o. LeadingKeyword (keyword.While) (m0.0) ∷ (expression_terminals (m1.0) ++ ((block_before (m2.0) (o))))) (m3.1),
        m3.2,
      )
  move_action (For at name first limit body) rest ws same =
      let m0 = take_leading_keyword (keyword.For) (at) (Name (name) ∷ OfKeyword keyword.In ∷
      (expression_terminals (first) ++ (OfSymbol symbol.Colon ∷ (expression_terminals (limit) ++ ((block_before (body) (OfKeyword keyword.End ∷ rest))))))) ws same in
      let m1 = take_name (name) (OfKeyword keyword.In ∷ (expression_terminals (first)
      ++ (OfSymbol symbol.Colon ∷ (expression_terminals (limit) ++ ((block_before (body) (OfKeyword keyword.End ∷ rest))))))) m0.1 m0.3 in
      let m2 = take_fixed (OfKeyword keyword.In ∷ []) ((expression_terminals (first)
      ++ (OfSymbol symbol.Colon ∷ (expression_terminals (limit) ++ ((block_before (body) (OfKeyword keyword.End ∷ rest))))))) m1.1 refl m1.3 in
      let m3 = move_expression (first) (OfSymbol symbol.Colon ∷ (expression_terminals (limit) ++ ((block_before (body) (OfKeyword keyword.End ∷ rest))))) m2.0 m2.2 in
      let m4 = take_fixed (OfSymbol symbol.Colon ∷ []) ((expression_terminals (limit) ++ ((block_before (body) (OfKeyword keyword.End ∷ rest))))) m3.1 refl m3.3 in
      let m5 = move_expression (limit) ((block_before (body) (OfKeyword keyword.End ∷ rest))) m4.0 m4.2 in
      let m6 = move_block (body) (OfKeyword keyword.End ∷ rest) m5.1 m5.3 in
      let m7 = take_fixed (OfKeyword keyword.End ∷ []) (rest) m6.1 refl m6.3 in (
        For m0.0 m1.0 m3.0 m5.0 m6.0,
        m7.0,
        (m0.2) ∙ ap (λ o. LeadingKeyword (keyword.For) (m0.0) ∷ o) (m1.2) ∙ ap (λ o. LeadingKeyword (keyword.For) (m0.0) ∷ Name (m1.0) ∷ o) (m2.1)
            ∙ ap (λ o. LeadingKeyword (keyword.For) (m0.0) ∷ Name (m1.0) ∷ OfKeyword keyword.In ∷ o) (m3.2)
            ∙ ap (λ o. LeadingKeyword (keyword.For) (m0.0) ∷ Name (m1.0) ∷ OfKeyword keyword.In ∷ (expression_terminals (m3.0) ++ (o))) (m4.1)
            ∙ ap (λ o. LeadingKeyword (keyword.For) (m0.0) ∷ Name (m1.0) ∷ OfKeyword keyword.In ∷ (expression_terminals (m3.0) ++ (OfSymbol symbol.Colon ∷ o))) (m5.2)
            ∙ ap (λ o. LeadingKeyword (keyword.For) (m0.0) ∷ Name (m1.0) ∷ OfKeyword keyword.In ∷ (expression_terminals (m3.0) ++ (OfSymbol symbol.Colon ∷ (expression_terminals (m5.0) ++
            (o))))) (m6.2)
            ∙ ap (λ o. LeadingKeyword (keyword.For) (m0.0) ∷ Name (m1.0) ∷ OfKeyword keyword.In ∷
            (expression_terminals (m3.0) ++ (OfSymbol symbol.Colon ∷ (expression_terminals (m5.0) ++ ((block_before (m6.0) (o))))))) (m7.1),
        m7.2,
      )
  move_action (If at test body) rest ws same =
      let m0 = take_leading_keyword (keyword.If) (at) ((expression_terminals (test) ++ ((block_before (body) (OfKeyword keyword.End ∷ rest))))) ws same in
      let m1 = move_expression (test) ((block_before (body) (OfKeyword keyword.End ∷ rest))) m0.1 m0.3 in
      let m2 = move_block (body) (OfKeyword keyword.End ∷ rest) m1.1 m1.3 in
      let m3 = take_fixed (OfKeyword keyword.End ∷ []) (rest) m2.1 refl m2.3 in (
        If m0.0 m1.0 m2.0,
        m3.0,
        (m0.2) ∙ ap (λ o. LeadingKeyword (keyword.If) (m0.0) ∷ o) (m1.2) ∙ ap (λ o. LeadingKeyword (keyword.If) (m0.0) ∷ (expression_terminals (m1.0) ++ (o))) (m2.2)
            ∙ ap (λ o. LeadingKeyword (keyword.If) (m0.0) ∷ (expression_terminals (m1.0) ++ ((block_before (m2.0) (o))))) (m3.1),
        m3.2,
      )
  move_action (IfElse at test body otherwise) rest ws same =
      let m0 =
      take_leading_keyword (keyword.If) (at) ((expression_terminals (test) ++ ((block_before (body) (OfKeyword keyword.Else ∷ (block_before (otherwise) (OfKeyword keyword.End ∷ rest))))))) ws same in
      let m1 = move_expression (test) ((block_before (body) (OfKeyword keyword.Else ∷ (block_before (otherwise) (OfKeyword keyword.End ∷ rest))))) m0.1 m0.3 in
      let m2 = move_block (body) (OfKeyword keyword.Else ∷ (block_before (otherwise) (OfKeyword keyword.End ∷ rest))) m1.1 m1.3 in
      let m3 = take_fixed (OfKeyword keyword.Else ∷ []) ((block_before (otherwise) (OfKeyword keyword.End ∷ rest))) m2.1 refl m2.3 in
      let m4 = move_block (otherwise) (OfKeyword keyword.End ∷ rest) m3.0 m3.2 in
      let m5 = take_fixed (OfKeyword keyword.End ∷ []) (rest) m4.1 refl m4.3 in (
        IfElse m0.0 m1.0 m2.0 m4.0,
        m5.0,
        (m0.2) ∙ ap (λ o. LeadingKeyword (keyword.If) (m0.0) ∷ o) (m1.2) ∙ ap (λ o. LeadingKeyword (keyword.If) (m0.0) ∷ (expression_terminals (m1.0) ++ (o))) (m2.2)
            ∙ ap (λ o. LeadingKeyword (keyword.If) (m0.0) ∷ (expression_terminals (m1.0) ++ ((block_before (m2.0) (o))))) (m3.1)
            ∙ ap (λ o. LeadingKeyword (keyword.If) (m0.0) ∷ (expression_terminals (m1.0) ++ ((block_before (m2.0) (OfKeyword keyword.Else ∷ o))))) (m4.2)
            ∙ ap (λ o. LeadingKeyword (keyword.If) (m0.0) ∷ (expression_terminals (m1.0) ++ ((block_before (m2.0) (OfKeyword keyword.Else ∷ (block_before (m4.0) (o))))))) (m5.1),
        m5.2,
      )
  move_action (Print at value) rest ws same =
      let m0 = take_leading_keyword (keyword.Print) (at) ((expression_terminals (value) ++ (OfSymbol symbol.Semicolon ∷ rest))) ws same in
      let m1 = move_expression (value) (OfSymbol symbol.Semicolon ∷ rest) m0.1 m0.3 in
      let m2 = take_fixed (OfSymbol symbol.Semicolon ∷ []) (rest) m1.1 refl m1.3 in
      (Print m0.0 m1.0, m2.0, (m0.2) ∙ ap (λ o. LeadingKeyword (keyword.Print) (m0.0) ∷ o) (m1.2) ∙ ap (λ o. LeadingKeyword (keyword.Print) (m0.0) ∷ (expression_terminals (m1.0) ++ (o))) (m2.1), m2.2)
  move_action (Assign name value) rest ws same =
      let m0 = take_name (name) ((assigned_before (value) (rest))) ws same in
      let m1 = move_assigned (value) (rest) m0.1 m0.3 in
      (Assign m0.0 m1.0, m1.1, (m0.2) ∙ ap (λ o. Name (m0.0) ∷ o) (m1.2), m1.3)
  move_action (Reduce name reduction value) rest ws same =
      let m0 = take_name (name) (reduction_terminal reduction ∷ (expression_terminals (value) ++ (OfSymbol symbol.Semicolon ∷ rest))) ws same in
      let m1 = take_fixed (reduction_terminal reduction ∷ []) ((expression_terminals (value) ++ (OfSymbol symbol.Semicolon ∷ rest))) m0.1 (fixed_reduction reduction) m0.3 in
      let m2 = move_expression (value) (OfSymbol symbol.Semicolon ∷ rest) m1.0 m1.2 in
      let m3 = take_fixed (OfSymbol symbol.Semicolon ∷ []) (rest) m2.1 refl m2.3 in (
        Reduce m0.0 reduction m2.0,
        m3.0,
        (m0.2) ∙ ap (λ o. Name (m0.0) ∷ o) (m1.1) ∙ ap (λ o. Name (m0.0) ∷ reduction_terminal reduction ∷ o) (m2.2)
            ∙ ap (λ o. Name (m0.0) ∷ reduction_terminal reduction ∷ (expression_terminals (m2.0) ++ (o))) (m3.1),
        m3.2,
      )
  move_action (SetEntry vector index value) rest ws same =
      let m0 = take_name (vector) (OfSymbol symbol.OpenBracket ∷ (expression_terminals (index)
      ++ (OfSymbol symbol.CloseBracket ∷ OfSymbol symbol.Assign ∷ (expression_terminals (value) ++ (OfSymbol symbol.Semicolon ∷ rest))))) ws same in
      let m1 = take_fixed (OfSymbol symbol.OpenBracket ∷ []) ((expression_terminals (index)
      ++ (OfSymbol symbol.CloseBracket ∷ OfSymbol symbol.Assign ∷ (expression_terminals (value) ++ (OfSymbol symbol.Semicolon ∷ rest))))) m0.1 refl m0.3 in
      let m2 = move_expression (index) (OfSymbol symbol.CloseBracket ∷ OfSymbol symbol.Assign ∷ (expression_terminals (value) ++ (OfSymbol symbol.Semicolon ∷ rest))) m1.0 m1.2 in
      let m3 = take_fixed (OfSymbol symbol.CloseBracket ∷ OfSymbol symbol.Assign ∷ []) ((expression_terminals (value) ++ (OfSymbol symbol.Semicolon ∷ rest))) m2.1 refl m2.3 in
      let m4 = move_expression (value) (OfSymbol symbol.Semicolon ∷ rest) m3.0 m3.2 in
      let m5 = take_fixed (OfSymbol symbol.Semicolon ∷ []) (rest) m4.1 refl m4.3 in (
        SetEntry m0.0 m2.0 m4.0,
        m5.0,
        (m0.2) ∙ ap (λ o. Name (m0.0) ∷ o) (m1.1) ∙ ap (λ o. Name (m0.0) ∷ OfSymbol symbol.OpenBracket ∷ o) (m2.2)
            ∙ ap (λ o. Name (m0.0) ∷ OfSymbol symbol.OpenBracket ∷ (expression_terminals (m2.0) ++ (o))) (m3.1)
            ∙ ap (λ o. Name (m0.0) ∷ OfSymbol symbol.OpenBracket ∷ (expression_terminals (m2.0) ++ (OfSymbol symbol.CloseBracket ∷ OfSymbol symbol.Assign ∷ o))) (m4.2)
            ∙ ap (λ o. Name (m0.0) ∷ OfSymbol symbol.OpenBracket ∷ (expression_terminals (m2.0) ++ (OfSymbol symbol.CloseBracket ∷ OfSymbol symbol.Assign ∷ (expression_terminals (m4.0) ++ (o)))))
            (m5.1),
        m5.2,
      )
  move_action (ReduceEntry vector index reduction value) rest ws same =
      let m0 = take_name (vector) (OfSymbol symbol.OpenBracket ∷ (expression_terminals (index)
      ++ (OfSymbol symbol.CloseBracket ∷ reduction_terminal reduction ∷ (expression_terminals (value) ++ (OfSymbol symbol.Semicolon ∷ rest))))) ws same in
      let m1 = take_fixed (OfSymbol symbol.OpenBracket ∷ []) ((expression_terminals (index)
      ++ (OfSymbol symbol.CloseBracket ∷ reduction_terminal reduction ∷ (expression_terminals (value) ++ (OfSymbol symbol.Semicolon ∷ rest))))) m0.1 refl m0.3 in
      let m2 = move_expression (index) (OfSymbol symbol.CloseBracket ∷ reduction_terminal reduction ∷ (expression_terminals (value) ++ (OfSymbol symbol.Semicolon ∷ rest))) m1.0 m1.2 in
      let m3 = take_fixed (OfSymbol symbol.CloseBracket ∷ []) (reduction_terminal reduction ∷ (expression_terminals (value) ++ (OfSymbol symbol.Semicolon ∷ rest))) m2.1 refl m2.3 in
      let m4 = take_fixed (reduction_terminal reduction ∷ []) ((expression_terminals (value) ++ (OfSymbol symbol.Semicolon ∷ rest))) m3.0 (fixed_reduction reduction) m3.2 in
      let m5 = move_expression (value) (OfSymbol symbol.Semicolon ∷ rest) m4.0 m4.2 in
      let m6 = take_fixed (OfSymbol symbol.Semicolon ∷ []) (rest) m5.1 refl m5.3 in (
        ReduceEntry m0.0 m2.0 reduction m5.0,
        m6.0,
        (m0.2) ∙ ap (λ o. Name (m0.0) ∷ o) (m1.1) ∙ ap (λ o. Name (m0.0) ∷ OfSymbol symbol.OpenBracket ∷ o) (m2.2)
            ∙ ap (λ o. Name (m0.0) ∷ OfSymbol symbol.OpenBracket ∷ (expression_terminals (m2.0) ++ (o))) (m3.1)
            ∙ ap (λ o. Name (m0.0) ∷ OfSymbol symbol.OpenBracket ∷ (expression_terminals (m2.0) ++ (OfSymbol symbol.CloseBracket ∷ o))) (m4.1)
            ∙ ap (λ o. Name (m0.0) ∷ OfSymbol symbol.OpenBracket ∷ (expression_terminals (m2.0) ++ (OfSymbol symbol.CloseBracket ∷ reduction_terminal reduction ∷ o))) (m5.2)
            ∙ ap (λ o. Name (m0.0) ∷ OfSymbol symbol.OpenBracket ∷ (expression_terminals (m2.0)
            ++ (OfSymbol symbol.CloseBracket ∷ reduction_terminal reduction ∷ (expression_terminals (m5.0) ++ (o)))))
            (m6.1),
        m6.2,
      )
  move_action (AddVertex set vertex) rest ws same =
      let m0 = take_name (set) (OfSymbol symbol.Dot ∷ OfKeyword keyword.AddVertex ∷ OfSymbol symbol.OpenParenthesis ∷
      (expression_terminals (vertex) ++ (OfSymbol symbol.CloseParenthesis ∷ OfSymbol symbol.Semicolon ∷ rest))) ws same in
      let m1 = take_fixed (OfSymbol symbol.Dot ∷ OfKeyword keyword.AddVertex ∷ OfSymbol symbol.OpenParenthesis ∷ [])
      ((expression_terminals (vertex) ++ (OfSymbol symbol.CloseParenthesis ∷ OfSymbol symbol.Semicolon ∷ rest))) m0.1 refl m0.3 in
      let m2 = move_expression (vertex) (OfSymbol symbol.CloseParenthesis ∷ OfSymbol symbol.Semicolon ∷ rest) m1.0 m1.2 in
      let m3 = take_fixed (OfSymbol symbol.CloseParenthesis ∷ OfSymbol symbol.Semicolon ∷ []) (rest) m2.1 refl m2.3 in (
        AddVertex m0.0 m2.0,
        m3.0,
        (m0.2) ∙ ap (λ o. Name (m0.0) ∷ o) (m1.1) ∙ ap (λ o. Name (m0.0) ∷ OfSymbol symbol.Dot ∷ OfKeyword keyword.AddVertex ∷ OfSymbol symbol.OpenParenthesis ∷ o) (m2.2)
            ∙ ap (λ o. Name (m0.0) ∷ OfSymbol symbol.Dot ∷ OfKeyword keyword.AddVertex ∷ OfSymbol symbol.OpenParenthesis ∷ (expression_terminals (m2.0) ++ (o))) (m3.1),
        m3.2,
      )
  move_action (Apply target ends function) rest ws same =
      let m0 = take_name (target) ((ends_before (ends) (OfSymbol symbol.Dot ∷ OfKeyword keyword.Apply ∷ (argument_terminals (function) ++ (OfSymbol symbol.Semicolon ∷ rest))))) ws same in
      let m1 = move_ends (ends) (OfSymbol symbol.Dot ∷ OfKeyword keyword.Apply ∷ (argument_terminals (function) ++ (OfSymbol symbol.Semicolon ∷ rest))) m0.1 m0.3 in
      let m2 = take_fixed (OfSymbol symbol.Dot ∷ OfKeyword keyword.Apply ∷ []) ((argument_terminals (function) ++ (OfSymbol symbol.Semicolon ∷ rest))) m1.1 refl m1.3 in
      let m3 = move_argument (function) (OfSymbol symbol.Semicolon ∷ rest) m2.0 m2.2 in
      let m4 = take_fixed (OfSymbol symbol.Semicolon ∷ []) (rest) m3.1 refl m3.3 in (
        Apply m0.0 m1.0 m3.0,
        m4.0,
        (m0.2) ∙ ap (λ o. Name (m0.0) ∷ o) (m1.2) ∙ ap (λ o. Name (m0.0) ∷ (ends_before (m1.0) (o))) (m2.1)
            ∙ ap (λ o. Name (m0.0) ∷ (ends_before (m1.0) (OfSymbol symbol.Dot ∷ OfKeyword keyword.Apply ∷ o))) (m3.2)
            ∙ ap (λ o. Name (m0.0) ∷ (ends_before (m1.0) (OfSymbol symbol.Dot ∷ OfKeyword keyword.Apply ∷ (argument_terminals (m3.0) ++ (o))))) (m4.1),
        m4.2,
      )

  move_block : (block : BlockTree) → Moves block_before block
  move_block Empty rest ws same = (Empty, ws, refl, same)
  move_block (Then label action others) rest ws same =
      let m0 = move_label (label) ((action_before (action) ((block_before (others) (rest))))) ws same in
      let m1 = move_action (action) ((block_before (others) (rest))) m0.1 m0.3 in
      let m2 = move_block (others) (rest) m1.1 m1.3 in
      (Then m0.0 m1.0 m2.0, m2.1, (m0.2) ∙ ap (λ o. (label_terminals (m0.0) ++ (o))) (m1.2) ∙ ap (λ o. (label_terminals (m0.0) ++ ((action_before (m1.0) (o))))) (m2.2), m2.3)

move_each : {A : Type 0} (before : A → List Terminal → List Terminal) → ((a : A) → Moves before a) → (items : List A) → Moves (each_before before) items
move_each before every [] rest ws same = ([], ws, refl, same)
move_each before every (x ∷ items) rest ws same =
    let m = every x (each_before before items rest) ws same in
    let n = move_each before every items rest m.1 m.3 in
    (m.0 ∷ n.0, n.1, m.2 ∙ ap (before m.0) (n.2), n.3)

move_next_parameter : (p : ParameterTree) → Moves next_parameter_before p
move_next_parameter p rest ws same =
    let m0 = take_fixed (OfSymbol symbol.Comma ∷ []) ((typed_before (p) (rest))) ws refl same in
    let m1 = move_typed (p) (rest) m0.0 m0.2 in
    (m1.0, m1.1, (m0.1) ∙ ap (λ o. OfSymbol symbol.Comma ∷ o) (m1.2), m1.3)

move_parameters : (ps : List ParameterTree) → Moves parameters_before ps
move_parameters [] rest ws same = ([], ws, refl, same)
move_parameters (p ∷ ps) rest ws same =
    let m0 = move_typed (p) ((each_before next_parameter_before (ps) (rest))) ws same in
    let m1 = move_each next_parameter_before move_next_parameter (ps) (rest) m0.1 m0.3 in
    ((m0.0 ∷ m1.0), m1.1, (m0.2) ∙ ap (λ o. (typed_before (m0.0) (o))) (m1.2), m1.3)

move_result : (result : Option ParameterTree) → Moves result_before result
move_result None rest ws same = (None, ws, refl, same)
move_result (Some p) rest ws same =
    let m0 = take_fixed (OfSymbol symbol.Arrow ∷ []) ((typed_before (p) (rest))) ws refl same in
    let m1 = move_typed (p) (rest) m0.0 m0.2 in
    (Some m1.0, m1.1, (m0.1) ∙ ap (λ o. OfSymbol symbol.Arrow ∷ o) (m1.2), m1.3)

move_declaration : (d : DeclarationTree) → Moves declaration_before d
move_declaration (Constant at p initial) rest ws same =
    let m0 = take_leading_keyword (keyword.Const) (at) ((typed_before (p) ((assigned_before (initial) (rest))))) ws same in
    let m1 = move_typed (p) ((assigned_before (initial) (rest))) m0.1 m0.3 in
    let m2 = move_assigned (initial) (rest) m1.1 m1.3 in
    (Constant m0.0 m1.0 m2.0, m2.1, (m0.2) ∙ ap (λ o. LeadingKeyword (keyword.Const) (m0.0) ∷ o) (m1.2) ∙ ap (λ o. LeadingKeyword (keyword.Const) (m0.0) ∷ (typed_before (m1.0) (o))) (m2.2), m2.3)
move_declaration (Function at name parameters result body) rest ws same =
    let m0 = take_leading_keyword (keyword.Func) (at) (Name (name) ∷ OfSymbol symbol.OpenParenthesis ∷
    (parameters_before (parameters) (OfSymbol symbol.CloseParenthesis ∷ (result_before (result) ((block_before (body) (OfKeyword keyword.End ∷ rest))))))) ws same in
    let m1 = take_name (name) (OfSymbol symbol.OpenParenthesis ∷ (parameters_before (parameters)
    (OfSymbol symbol.CloseParenthesis ∷ (result_before (result) ((block_before (body) (OfKeyword keyword.End ∷ rest))))))) m0.1 m0.3 in
    let m2 = take_fixed (OfSymbol symbol.OpenParenthesis ∷ []) ((parameters_before (parameters)
    (OfSymbol symbol.CloseParenthesis ∷ (result_before (result) ((block_before (body) (OfKeyword keyword.End ∷ rest))))))) m1.1 refl m1.3 in
    let m3 = move_parameters (parameters) (OfSymbol symbol.CloseParenthesis ∷ (result_before (result) ((block_before (body) (OfKeyword keyword.End ∷ rest))))) m2.0 m2.2 in
    let m4 = take_fixed (OfSymbol symbol.CloseParenthesis ∷ []) ((result_before (result) ((block_before (body) (OfKeyword keyword.End ∷ rest))))) m3.1 refl m3.3 in
    let m5 = move_result (result) ((block_before (body) (OfKeyword keyword.End ∷ rest))) m4.0 m4.2 in
    let m6 = move_block (body) (OfKeyword keyword.End ∷ rest) m5.1 m5.3 in
    let m7 = take_fixed (OfKeyword keyword.End ∷ []) (rest) m6.1 refl m6.3 in (
      Function m0.0 m1.0 m3.0 m5.0 m6.0,
      m7.0,
      (m0.2) ∙ ap (λ o. LeadingKeyword (keyword.Func) (m0.0) ∷ o) (m1.2) ∙ ap (λ o. LeadingKeyword (keyword.Func) (m0.0) ∷ Name (m1.0) ∷ o) (m2.1)
          ∙ ap (λ o. LeadingKeyword (keyword.Func) (m0.0) ∷ Name (m1.0) ∷ OfSymbol symbol.OpenParenthesis ∷ o) (m3.2)
          ∙ ap (λ o. LeadingKeyword (keyword.Func) (m0.0) ∷ Name (m1.0) ∷ OfSymbol symbol.OpenParenthesis ∷ (parameters_before (m3.0) (o))) (m4.1)
          ∙ ap (λ o. LeadingKeyword (keyword.Func) (m0.0) ∷ Name (m1.0) ∷ OfSymbol symbol.OpenParenthesis ∷ (parameters_before (m3.0) (OfSymbol symbol.CloseParenthesis ∷ o))) (m5.2)
          ∙ ap (λ o. LeadingKeyword (keyword.Func) (m0.0) ∷ Name (m1.0) ∷ OfSymbol symbol.OpenParenthesis ∷ (parameters_before (m3.0) (OfSymbol symbol.CloseParenthesis ∷ (result_before
          (m5.0) (o))))) (m6.2)
          ∙ ap (λ o. LeadingKeyword (keyword.Func) (m0.0) ∷ Name (m1.0) ∷ OfSymbol symbol.OpenParenthesis ∷
          (parameters_before (m3.0) (OfSymbol symbol.CloseParenthesis ∷ (result_before (m5.0) ((block_before (m6.0) (o))))))) (m7.1),
      m7.2,
    )

move_next_text : (text : List ℕ) → Moves next_text_before text
move_next_text text rest ws same =
    let m0 = take_fixed (OfSymbol symbol.Comma ∷ Text text ∷ []) (rest) ws refl same in
    (text, m0.0, (m0.1), m0.2)

move_call : (call : CallTree) → Moves call_before call
move_call call rest ws same =
    let m0 = take_leading_keyword (setting_keyword call.setting) (call.at) (OfSymbol symbol.OpenParenthesis ∷ Text call.first ∷
    (each_before next_text_before (call.more) (OfSymbol symbol.CloseParenthesis ∷ rest))) ws same in
    let m1 = take_fixed (OfSymbol symbol.OpenParenthesis ∷ Text call.first ∷ []) ((each_before next_text_before (call.more) (OfSymbol symbol.CloseParenthesis ∷ rest))) m0.1 refl m0.3 in
    let m2 = move_each next_text_before move_next_text (call.more) (OfSymbol symbol.CloseParenthesis ∷ rest) m1.0 m1.2 in
    let m3 = take_fixed (OfSymbol symbol.CloseParenthesis ∷ []) (rest) m2.1 refl m2.3 in (
      record { at = m0.0; setting = call.setting; first = call.first; more = m2.0 },
      m3.0,
      (m0.2) ∙ ap (λ o. LeadingKeyword (setting_keyword call.setting) (m0.0) ∷ o) (m1.1)
          ∙ ap (λ o. LeadingKeyword (setting_keyword call.setting) (m0.0) ∷ OfSymbol symbol.OpenParenthesis ∷ Text call.first ∷ o) (m2.2)
          ∙ ap (λ o. LeadingKeyword (setting_keyword call.setting) (m0.0) ∷ OfSymbol symbol.OpenParenthesis ∷ Text call.first ∷ (each_before next_text_before (m2.0) (o))) (m3.1),
      m3.2,
    )

move_next_call : (call : CallTree) → Moves next_call_before call
move_next_call call rest ws same =
    let m0 = take_fixed (OfSymbol symbol.Arrow ∷ []) ((call_before (call) (rest))) ws refl same in
    let m1 = move_call (call) (rest) m0.0 m0.2 in
    (m1.0, m1.1, (m0.1) ∙ ap (λ o. OfSymbol symbol.Arrow ∷ o) (m1.2), m1.3)

move_chain : (chain : ChainTree) → Moves chain_before chain
move_chain chain rest ws same =
    let m0 = take_fixed (OfKeyword keyword.Program ∷ []) ((next_call_before (chain.first) ((each_before next_call_before (chain.more) (OfSymbol symbol.Semicolon ∷ rest))))) ws refl same in
    let m1 = move_next_call (chain.first) ((each_before next_call_before (chain.more) (OfSymbol symbol.Semicolon ∷ rest))) m0.0 m0.2 in
    let m2 = move_each next_call_before move_next_call (chain.more) (OfSymbol symbol.Semicolon ∷ rest) m1.1 m1.3 in
    let m3 = take_fixed (OfSymbol symbol.Semicolon ∷ []) (rest) m2.1 refl m2.3 in (
      record { first = m1.0; more = m2.0 },
      m3.0,
      (m0.1) ∙ ap (λ o. OfKeyword keyword.Program ∷ o) (m1.2) ∙ ap (λ o. OfKeyword keyword.Program ∷ (next_call_before (m1.0) (o))) (m2.2)
          ∙ ap (λ o. OfKeyword keyword.Program ∷ (next_call_before (m1.0) ((each_before next_call_before (m2.0) (o))))) (m3.1),
      m3.2,
    )

move_schedule : (schedule : Option (List ChainTree)) → Moves schedule_before schedule
move_schedule None rest ws same = (None, ws, refl, same)
move_schedule (Some chains) rest ws same =
    let m0 = take_fixed (OfKeyword keyword.Schedule ∷ OfSymbol symbol.Colon ∷ []) ((each_before chain_before (chains) (rest))) ws refl same in
    let m1 = move_each chain_before move_chain (chains) (rest) m0.0 m0.2 in
    (Some m1.0, m1.1, (m0.1) ∙ ap (λ o. OfKeyword keyword.Schedule ∷ OfSymbol symbol.Colon ∷ o) (m1.2), m1.3)

nothing : (ws : List Terminal) → AreAlike ws [] → ws ≡ []
nothing [] same = refl
nothing (w ∷ ws) same = cc (same)

pub move_source : (source : SourceTree) (ws : List Terminal) → AreAlike ws (source_terminals source) → (other : SourceTree) × (ws ≡ source_terminals other)
move_source source ws same =
    let elements : List Terminal = OfKeyword keyword.Element ∷ OfKeyword keyword.Vertex ∷ OfKeyword keyword.End ∷ OfKeyword keyword.Element ∷ OfKeyword keyword.Edge ∷ OfKeyword keyword.End ∷ [] in
    let behind : List Terminal = schedule_before source.schedule [] in
    let e = take_fixed elements (each_before declaration_before source.declarations behind) ws refl same in
    let d = move_each declaration_before move_declaration source.declarations behind e.0 e.2 in
    let t = move_schedule source.schedule [] d.1 d.3 in
    let other : SourceTree = record { declarations = d.0; schedule = t.0 } in (
      other,
      e.1 ∙ ap (λ o. elements ++ o) (d.2) ∙ ap (λ o. elements ++ each_before declaration_before d.0 o) (t.2)
          ∙ ap (λ o. elements ++ each_before declaration_before d.0 (schedule_before t.0 o)) (nothing t.1 t.3),
    )
