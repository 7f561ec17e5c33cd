-- What is read is spelled so: values, statements, blocks, declarations and sources.
use Rattle.std.proofs.Common.{◌≡◌, refl, ◌∙◌, ap, Bool, true, false, List, [], ◌∷◌, ◌++◌, Option, Some, None, ℕ, zero, suc}
use Rattle.lexer.specs.declared.keyword.Keyword.TheVariants as keyword
use Rattle.lexer.specs.declared.symbol.Symbol.TheVariants as symbol
use Rattle.syntax.specs.Terminals.{Terminal, Identifier, Name, Number, Label, LeadingKeyword, OfKeyword, OfSymbol}
use Rattle.syntax.specs.SourceTrees.{ExpressionTree, InitialTree, NewSet, Load, Vertices, OutDegrees, Filter, ApplyModified, Value, StatementKindTree, Declare, While, For, If, IfElse, Print, Assign}
use Rattle.syntax.specs.SourceTrees.{Reduce, SetEntry, ReduceEntry, AddVertex, Apply, BlockTree, DeclarationTree, Constant, Function, ChainTree, SourceTree}
use Rattle.syntax.specs.ExpressionReading.{Reader}
use Rattle.syntax.specs.ExpressionSpelling.{expression_terminals}
use Rattle.apply_options.specs.declared.reduction.Reduction.TheVariants as reduction
use Rattle.syntax.specs.SourceSpelling.{ends_before, initial_before, assigned_before, ended_before, end_terminals, reduction_terminal, label_terminals, action_before, block_before, each_before}
use Rattle.syntax.specs.SourceSpelling.{typed_before, argument_terminals, parameters_before, result_before, declaration_before, chain_before, schedule_before, source_terminals}
use Rattle.syntax.specs.SourceReading.{expression, initial_reader, name_reader, number_at, end_at, end_by, ends_at, method_at, initial_at, named_initial, modified_at, assigned_at, ended_at}
use Rattle.syntax.specs.SourceReading.{reduction_at, entry_by, added_at, applied_at, argument_at, read_reduction_at, named_action, method_by, else_by, action_by, block_by, block_at, block, no_block}
use Rattle.syntax.specs.SourceReading.{next_statement, statement_by, begins_statement, label_at, block_from, where_begins, each_at, after_terminal, after_terminals, in_braces, in_parentheses}
use Rattle.syntax.specs.SourceReading.{typed_at, parameters_at, result_by, declaration_by, next_declaration, begins_declaration, next_chain, schedule_by, whole_tree, source_at, elements}
use Rattle.syntax.specs.Nesting.{limit}
use Rattle.syntax.proofs.TerminalLaws.{bind_some, after_terminal-sound, after_terminals-sound}
use Rattle.syntax.proofs.Sound.{IsSound, same_before, same_found, closed-sound, name_sound, number_sound, typed_sound, each_sound, parameters_sound, result_sound, next_chain_sound}
use Rattle.syntax.proofs.Actions.{LabelledAction, statement_before}

end_by-sound : (terminal : Terminal) (ws : List Terminal) (found : Option (List Terminal)) → after_terminals (OfSymbol symbol.Dot ∷ terminal ∷ []) ws ≡ found
    → (name : Option Identifier) (rest : List Terminal) → end_by ws found ≡ Some (name, rest) → ws ≡ end_terminals terminal name ++ rest
end_by-sound terminal ws None there name rest is = same_before (λ n r. end_terminals terminal n ++ r) None name ws rest is
end_by-sound terminal ws (Some after) there name rest is =
    let a = bind_some (after_terminal (OfSymbol symbol.OpenParenthesis) after) _ _ is in
    let n = bind_some (name_reader a.0) _ _ a.2 in
    let b = bind_some (after_terminal (OfSymbol symbol.CloseParenthesis) n.0.1) _ _ n.2 in
    after_terminals-sound (OfSymbol symbol.Dot ∷ terminal ∷ []) ws after there
    ∙ ap (λ r. OfSymbol symbol.Dot ∷ terminal ∷ r) (after_terminal-sound (OfSymbol symbol.OpenParenthesis) after a.0 a.1)
    ∙ ap (λ r. OfSymbol symbol.Dot ∷ terminal ∷ OfSymbol symbol.OpenParenthesis ∷ r) (name_sound a.0 n.0.0 n.0.1 n.1)
    ∙ ap (λ r. OfSymbol symbol.Dot ∷ terminal ∷ OfSymbol symbol.OpenParenthesis ∷ Name n.0.0 ∷ r) (after_terminal-sound (OfSymbol symbol.CloseParenthesis) n.0.1 b.0 b.1)
    ∙ same_before (λ n r. end_terminals terminal n ++ r) (Some n.0.0) name b.0 rest b.2

end_sound : (terminal : Terminal) → IsSound (end_at terminal) (λ n rest. end_terminals terminal n ++ rest)
end_sound terminal ws = end_by-sound terminal ws (after_terminals (OfSymbol symbol.Dot ∷ terminal ∷ []) ws) refl

ends_sound : IsSound ends_at ends_before
ends_sound ws ends rest is =
    let f = bind_some (end_at (OfKeyword keyword.From) ws) _ _ is in
    let t = bind_some (end_at (OfKeyword keyword.To) f.0.1) _ _ f.2 in
    end_sound (OfKeyword keyword.From) ws f.0.0 f.0.1 f.1
    ∙ ap (λ r. end_terminals (OfKeyword keyword.From) f.0.0 ++ r) (end_sound (OfKeyword keyword.To) f.0.1 t.0.0 t.0.1 t.1)
    ∙ same_before ends_before (record { from = f.0.0; to = t.0.0 }) ends t.0.1 rest t.2

argument_sound : IsSound argument_at (λ n rest. argument_terminals n ++ rest)
argument_sound ws name rest is =
    let a = bind_some (after_terminal (OfSymbol symbol.OpenParenthesis) ws) _ _ is in
    let n = bind_some (name_reader a.0) _ _ a.2 in
    after_terminal-sound (OfSymbol symbol.OpenParenthesis) ws a.0 a.1
    ∙ ap (λ r. OfSymbol symbol.OpenParenthesis ∷ r) (name_sound a.0 n.0.0 n.0.1 n.1)
    ∙ closed-sound (λ n r. argument_terminals n ++ r) (λ r. OfSymbol symbol.OpenParenthesis ∷ Name n.0.0 ∷ r) (OfSymbol symbol.CloseParenthesis ∷ [])
    n.0.0 name n.0.1 rest (λ r. refl) n.2

modified_sound : (name : Identifier) (ws : List Terminal) (i : InitialTree) (rest : List Terminal) → modified_at name ws ≡ Some (i, rest) → Name name ∷ ws ≡ initial_before i rest
modified_sound name ws i rest is =
    let e = bind_some (ends_at ws) _ _ is in
    let a = bind_some (after_terminals (OfSymbol symbol.Dot ∷ OfKeyword keyword.ApplyModified ∷ OfSymbol symbol.OpenParenthesis ∷ []) e.0.1) _ _ e.2 in
    let f = bind_some (name_reader a.0) _ _ a.2 in
    let b = bind_some (after_terminal (OfSymbol symbol.Comma) f.0.1) _ _ f.2 in
    let v = bind_some (name_reader b.0) _ _ b.2 in
    let front : List Terminal → List Terminal = λ r. Name name ∷ ends_before e.0.0 (OfSymbol symbol.Dot ∷ OfKeyword keyword.ApplyModified ∷ OfSymbol symbol.OpenParenthesis ∷ r) in
    ap (λ r. Name name ∷ r) (ends_sound ws e.0.0 e.0.1 e.1)
    ∙ ap (λ r. Name name ∷ ends_before e.0.0 r) (after_terminals-sound (OfSymbol symbol.Dot ∷ OfKeyword keyword.ApplyModified ∷ OfSymbol symbol.OpenParenthesis ∷ []) e.0.1 a.0 a.1)
    ∙ ap front (name_sound a.0 f.0.0 f.0.1 f.1)
    ∙ ap (λ r. front (Name f.0.0 ∷ r)) (after_terminal-sound (OfSymbol symbol.Comma) f.0.1 b.0 b.1)
    ∙ ap (λ r. front (Name f.0.0 ∷ OfSymbol symbol.Comma ∷ r)) (name_sound b.0 v.0.0 v.0.1 v.1)
    ∙ closed-sound initial_before (λ r. front (Name f.0.0 ∷ OfSymbol symbol.Comma ∷ Name v.0.0 ∷ r)) (OfSymbol symbol.CloseParenthesis ∷ [])
    (ApplyModified name e.0.0 f.0.0 v.0.0) i v.0.1 rest (λ r. refl) v.2

reduction_sound : IsSound reduction_at (λ r rest. reduction_terminal r ∷ rest)
reduction_sound (OfSymbol symbol.MinAssign ∷ ws) r rest is = same_before (λ r rest. reduction_terminal r ∷ rest) reduction.Min r ws rest is
reduction_sound (OfSymbol symbol.MaxAssign ∷ ws) r rest is = same_before (λ r rest. reduction_terminal r ∷ rest) reduction.Max r ws rest is
reduction_sound (OfSymbol symbol.PlusAssign ∷ ws) r rest is = same_before (λ r rest. reduction_terminal r ∷ rest) reduction.Plus r ws rest is
reduction_sound _ r rest is = cc is

label_sound : (ws : List Terminal) → ws ≡ label_terminals (label_at ws).0 ++ (label_at ws).1
label_sound [] = refl
label_sound (Label label ∷ ws) = refl
label_sound _ = refl

block_from-before : (items : List LabelledAction) (rest : List Terminal) → each_before statement_before items rest ≡ block_before (block_from items) rest
block_from-before [] rest = refl
block_from-before (s ∷ others) rest = ap (λ r. label_terminals s.0 ++ action_before s.1 r) (block_from-before others rest)

module _ (sound : IsSound expression (λ e rest. expression_terminals e ++ rest)) where
  value_sound : IsSound initial_reader initial_before
  value_sound ws i rest is =
      let e = bind_some (expression ws) _ _ is in
      sound ws e.0.0 e.0.1 e.1 ∙ same_before initial_before (Value e.0.0) i e.0.1 rest e.2

  named_sound : (name : Identifier) (ws : List Terminal) (i : InitialTree) (rest : List Terminal) → named_initial name ws (method_at ws) ≡ Some (i, rest) → Name name ∷ ws ≡ initial_before i rest
  named_sound name (OfSymbol symbol.Dot ∷ OfKeyword keyword.GetVertices ∷ ws) i rest is =
      closed-sound initial_before (λ r. Name name ∷ r) (OfSymbol symbol.Dot ∷ OfKeyword keyword.GetVertices ∷ in_parentheses []) (Vertices name) i _ rest (λ r. refl) is
  named_sound name (OfSymbol symbol.Dot ∷ OfKeyword keyword.GetOutDegrees ∷ ws) i rest is =
      closed-sound initial_before (λ r. Name name ∷ r) (OfSymbol symbol.Dot ∷ OfKeyword keyword.GetOutDegrees ∷ in_parentheses []) (OutDegrees name) i _ rest (λ r. refl) is
  named_sound name (OfSymbol symbol.Dot ∷ OfKeyword keyword.Filter ∷ ws) i rest is =
      let n = bind_some (argument_at ws) _ _ is in
      ap (λ r. Name name ∷ OfSymbol symbol.Dot ∷ OfKeyword keyword.Filter ∷ r) (argument_sound ws n.0.0 n.0.1 n.1)
      ∙ same_before initial_before (Filter name n.0.0) i n.0.1 rest n.2
  named_sound name (OfSymbol symbol.Dot ∷ OfKeyword keyword.From ∷ ws) i rest is = modified_sound name _ i rest is
  named_sound name (OfSymbol symbol.Dot ∷ OfKeyword keyword.To ∷ ws) i rest is = modified_sound name _ i rest is
  named_sound name (OfSymbol symbol.Dot ∷ OfKeyword keyword.ApplyModified ∷ ws) i rest is = modified_sound name _ i rest is
  named_sound name ws i rest is = value_sound (Name name ∷ ws) i rest is

  initial_sound : IsSound initial_at initial_before
  initial_sound (OfKeyword keyword.New ∷ ws) i rest is =
      let a = bind_some (after_terminals (OfKeyword keyword.VertexSet ∷ (in_braces (OfKeyword keyword.Vertex) ++ OfSymbol symbol.OpenParenthesis ∷ [])) ws) _ _ is in
      let n = bind_some (number_at a.0) _ _ a.2 in
      let front : List Terminal → List Terminal = λ r. OfKeyword keyword.New ∷ OfKeyword keyword.VertexSet ∷ OfSymbol symbol.OpenBrace ∷ OfKeyword keyword.Vertex
      ∷ OfSymbol symbol.CloseBrace ∷ OfSymbol symbol.OpenParenthesis ∷ r in
      ap (λ r. OfKeyword keyword.New ∷ r) (after_terminals-sound (OfKeyword keyword.VertexSet ∷ (in_braces (OfKeyword keyword.Vertex) ++ OfSymbol symbol.OpenParenthesis ∷ [])) ws a.0 a.1)
      ∙ ap front (number_sound a.0 n.0.0 n.0.1 n.1)
      ∙ closed-sound initial_before (λ r. front (Number n.0.0 ∷ r)) (OfSymbol symbol.CloseParenthesis ∷ []) (NewSet n.0.0) i n.0.1 rest (λ r. refl) n.2
  initial_sound (OfKeyword keyword.Load ∷ ws) i rest is =
      let a = bind_some (after_terminals (OfSymbol symbol.OpenParenthesis ∷ OfKeyword keyword.Argv ∷ OfSymbol symbol.OpenBracket ∷ []) ws) _ _ is in
      let n = bind_some (number_at a.0) _ _ a.2 in
      let front : List Terminal → List Terminal = λ r. OfKeyword keyword.Load ∷ OfSymbol symbol.OpenParenthesis ∷ OfKeyword keyword.Argv ∷ OfSymbol symbol.OpenBracket ∷ r in
      ap (λ r. OfKeyword keyword.Load ∷ r) (after_terminals-sound (OfSymbol symbol.OpenParenthesis ∷ OfKeyword keyword.Argv ∷ OfSymbol symbol.OpenBracket ∷ []) ws a.0 a.1)
      ∙ ap front (number_sound a.0 n.0.0 n.0.1 n.1)
      ∙ closed-sound initial_before (λ r. front (Number n.0.0 ∷ r)) (OfSymbol symbol.CloseBracket ∷ OfSymbol symbol.CloseParenthesis ∷ []) (Load n.0.0) i n.0.1 rest (λ r. refl) n.2
  initial_sound (Name name ∷ ws) i rest is = named_sound name ws i rest is
  initial_sound ws i rest is = value_sound ws i rest is

  assigned_sound : IsSound assigned_at assigned_before
  assigned_sound ws i rest is =
      let a = bind_some (after_terminal (OfSymbol symbol.Assign) ws) _ _ is in
      let x = bind_some (initial_at a.0) _ _ a.2 in
      after_terminal-sound (OfSymbol symbol.Assign) ws a.0 a.1 ∙ ap (λ r. OfSymbol symbol.Assign ∷ r) (initial_sound a.0 x.0.0 x.0.1 x.1)
      ∙ closed-sound assigned_before (λ r. OfSymbol symbol.Assign ∷ initial_before x.0.0 r) (OfSymbol symbol.Semicolon ∷ []) x.0.0 i x.0.1 rest (λ r. refl) x.2

  ended_sound : IsSound ended_at ended_before
  ended_sound ws e rest is =
      let x = bind_some (expression ws) _ _ is in
      sound ws x.0.0 x.0.1 x.1
      ∙ closed-sound ended_before (λ r. expression_terminals x.0.0 ++ r) (OfSymbol symbol.Semicolon ∷ []) x.0.0 e x.0.1 rest (λ r. refl) x.2

  entry_sound : (vector : Identifier) (index : ExpressionTree) (ws : List Terminal) (found : Option (List Terminal)) → after_terminal (OfSymbol symbol.Assign) ws ≡ found
      → (a : StatementKindTree) (rest : List Terminal) → entry_by vector index ws found ≡ Some (a, rest)
      → Name vector ∷ OfSymbol symbol.OpenBracket ∷ (expression_terminals index ++ OfSymbol symbol.CloseBracket ∷ ws) ≡ action_before a rest
  entry_sound vector index ws (Some after) there a rest is =
      let e = bind_some (ended_at after) _ _ is in
      let front : List Terminal → List Terminal = λ r. Name vector ∷ OfSymbol symbol.OpenBracket ∷ (expression_terminals index ++ OfSymbol symbol.CloseBracket ∷ r) in
      ap front (after_terminal-sound (OfSymbol symbol.Assign) ws after there ∙ ap (λ r. OfSymbol symbol.Assign ∷ r) (ended_sound after e.0.0 e.0.1 e.1))
      ∙ same_before action_before (SetEntry vector index e.0.0) a e.0.1 rest e.2
  entry_sound vector index ws None there a rest is =
      let r = bind_some (reduction_at ws) _ _ is in
      let e = bind_some (ended_at r.0.1) _ _ r.2 in
      let front : List Terminal → List Terminal = λ r. Name vector ∷ OfSymbol symbol.OpenBracket ∷ (expression_terminals index ++ OfSymbol symbol.CloseBracket ∷ r) in
      ap front (reduction_sound ws r.0.0 r.0.1 r.1 ∙ ap (λ ws. reduction_terminal r.0.0 ∷ ws) (ended_sound r.0.1 e.0.0 e.0.1 e.1))
      ∙ same_before action_before (ReduceEntry vector index r.0.0 e.0.0) a e.0.1 rest e.2

  added_sound : (set : Identifier) (ws : List Terminal) (a : StatementKindTree) (rest : List Terminal) → added_at set ws ≡ Some (a, rest)
      → Name set ∷ OfSymbol symbol.Dot ∷ OfKeyword keyword.AddVertex ∷ ws ≡ action_before a rest
  added_sound set ws a rest is =
      let o = bind_some (after_terminal (OfSymbol symbol.OpenParenthesis) ws) _ _ is in
      let e = bind_some (expression o.0) _ _ o.2 in
      let front : List Terminal → List Terminal = λ r. Name set ∷ OfSymbol symbol.Dot ∷ OfKeyword keyword.AddVertex ∷ r in
      ap front (after_terminal-sound (OfSymbol symbol.OpenParenthesis) ws o.0 o.1 ∙ ap (λ r. OfSymbol symbol.OpenParenthesis ∷ r) (sound o.0 e.0.0 e.0.1 e.1))
      ∙ closed-sound action_before (λ r. front (OfSymbol symbol.OpenParenthesis ∷ (expression_terminals e.0.0 ++ r)))
      (OfSymbol symbol.CloseParenthesis ∷ OfSymbol symbol.Semicolon ∷ []) (AddVertex set e.0.0) a e.0.1 rest (λ r. refl) e.2

  applied_sound : (target : Identifier) (ws : List Terminal) (a : StatementKindTree) (rest : List Terminal) → applied_at target ws ≡ Some (a, rest) → Name target ∷ ws ≡ action_before a rest
  applied_sound target ws a rest is =
      let e = bind_some (ends_at ws) _ _ is in
      let d = bind_some (after_terminals (OfSymbol symbol.Dot ∷ OfKeyword keyword.Apply ∷ []) e.0.1) _ _ e.2 in
      let f = bind_some (argument_at d.0) _ _ d.2 in
      let front : List Terminal → List Terminal = λ r. Name target ∷ ends_before e.0.0 (OfSymbol symbol.Dot ∷ OfKeyword keyword.Apply ∷ r) in
      ap (λ r. Name target ∷ r) (ends_sound ws e.0.0 e.0.1 e.1)
      ∙ ap (λ r. Name target ∷ ends_before e.0.0 r) (after_terminals-sound (OfSymbol symbol.Dot ∷ OfKeyword keyword.Apply ∷ []) e.0.1 d.0 d.1)
      ∙ ap front (argument_sound d.0 f.0.0 f.0.1 f.1)
      ∙ closed-sound action_before (λ r. front (argument_terminals f.0.0 ++ r)) (OfSymbol symbol.Semicolon ∷ []) (Apply target e.0.0 f.0.0) a f.0.1 rest (λ r. refl) f.2

  method_sound : (name : Identifier) (ws : List Terminal) (found : Option (List Terminal)) → after_terminals (OfSymbol symbol.Dot ∷ OfKeyword keyword.AddVertex ∷ []) ws ≡ found
      → (a : StatementKindTree) (rest : List Terminal) → method_by name ws found ≡ Some (a, rest) → Name name ∷ ws ≡ action_before a rest
  method_sound name ws (Some after) there a rest is =
      ap (λ r. Name name ∷ r) (after_terminals-sound (OfSymbol symbol.Dot ∷ OfKeyword keyword.AddVertex ∷ []) ws after there) ∙ added_sound name after a rest is
  method_sound name ws None there a rest is = applied_sound name ws a rest is

  reduce_sound : (name : Identifier) (ws : List Terminal) (a : StatementKindTree) (rest : List Terminal)
      → read_reduction_at name ws ≡ Some (a, rest) → Name name ∷ ws ≡ action_before a rest
  reduce_sound name ws a rest is =
      let r = bind_some (reduction_at ws) _ _ is in
      let e = bind_some (ended_at r.0.1) _ _ r.2 in
      ap (λ ws. Name name ∷ ws) (reduction_sound ws r.0.0 r.0.1 r.1 ∙ ap (λ ws. reduction_terminal r.0.0 ∷ ws) (ended_sound r.0.1 e.0.0 e.0.1 e.1))
      ∙ same_before action_before (Reduce name r.0.0 e.0.0) a e.0.1 rest e.2

  named_action_sound : (name : Identifier) (ws : List Terminal) (a : StatementKindTree) (rest : List Terminal) → named_action name ws ≡ Some (a, rest) → Name name ∷ ws ≡ action_before a rest
  named_action_sound name (OfSymbol symbol.Assign ∷ ws) a rest is =
      let i = bind_some (assigned_at (OfSymbol symbol.Assign ∷ ws)) _ _ is in
      ap (λ r. Name name ∷ r) (assigned_sound (OfSymbol symbol.Assign ∷ ws) i.0.0 i.0.1 i.1) ∙ same_before action_before (Assign name i.0.0) a i.0.1 rest i.2
  named_action_sound name (OfSymbol symbol.OpenBracket ∷ ws) a rest is =
      let i = bind_some (expression ws) _ _ is in
      let c = bind_some (after_terminal (OfSymbol symbol.CloseBracket) i.0.1) _ _ i.2 in
      ap (λ r. Name name ∷ OfSymbol symbol.OpenBracket ∷ r)
      (sound ws i.0.0 i.0.1 i.1 ∙ ap (λ r. expression_terminals i.0.0 ++ r) (after_terminal-sound (OfSymbol symbol.CloseBracket) i.0.1 c.0 c.1))
      ∙ entry_sound name i.0.0 c.0 (after_terminal (OfSymbol symbol.Assign) c.0) refl a rest c.2
  named_action_sound name (OfSymbol symbol.Dot ∷ ws) a rest is =
      method_sound name (OfSymbol symbol.Dot ∷ ws) (after_terminals (OfSymbol symbol.Dot ∷ OfKeyword keyword.AddVertex ∷ []) (OfSymbol symbol.Dot ∷ ws)) refl a rest is
  named_action_sound name ws a rest is = reduce_sound name ws a rest is

  module _ (inside : Reader BlockTree) (inside_sound : IsSound inside block_before) where
    else_sound : (at : ℕ) (test : ExpressionTree) (body : BlockTree) (ws : List Terminal) (found : Option (List Terminal)) → after_terminal (OfKeyword keyword.Else) ws ≡ found
        → (a : StatementKindTree) (rest : List Terminal) → else_by inside at test (body, ws) found ≡ Some (a, rest)
        → LeadingKeyword keyword.If at ∷ (expression_terminals test ++ block_before body ws) ≡ action_before a rest
    else_sound at test body ws None there a rest is =
        closed-sound action_before (λ r. LeadingKeyword keyword.If at ∷ (expression_terminals test ++ block_before body r)) (OfKeyword keyword.End ∷ []) (If at test body) a ws rest (λ r. refl) is
    else_sound at test body ws (Some after) there a rest is =
        let b = bind_some (inside after) _ _ is in
        let front : List Terminal → List Terminal = λ r. LeadingKeyword keyword.If at ∷ (expression_terminals test ++ block_before body r) in
        ap front (after_terminal-sound (OfKeyword keyword.Else) ws after there ∙ ap (λ r. OfKeyword keyword.Else ∷ r) (inside_sound after b.0.0 b.0.1 b.1))
        ∙ closed-sound action_before (λ r. front (OfKeyword keyword.Else ∷ block_before b.0.0 r)) (OfKeyword keyword.End ∷ []) (IfElse at test body b.0.0) a b.0.1 rest (λ r. refl) b.2

    action_sound : IsSound (action_by inside) action_before
    action_sound (LeadingKeyword keyword.Var at ∷ ws) a rest is =
        let p = bind_some (typed_at ws) _ _ is in
        let i = bind_some (assigned_at p.0.1) _ _ p.2 in
        ap (λ r. LeadingKeyword keyword.Var at ∷ r) (typed_sound ws p.0.0 p.0.1 p.1 ∙ ap (typed_before p.0.0) (assigned_sound p.0.1 i.0.0 i.0.1 i.1))
        ∙ same_before action_before (Declare at p.0.0 i.0.0) a i.0.1 rest i.2
    action_sound (LeadingKeyword keyword.While at ∷ ws) a rest is =
        let e = bind_some (expression ws) _ _ is in
        let b = bind_some (inside e.0.1) _ _ e.2 in
        ap (λ r. LeadingKeyword keyword.While at ∷ r) (sound ws e.0.0 e.0.1 e.1 ∙ ap (λ r. expression_terminals e.0.0 ++ r) (inside_sound e.0.1 b.0.0 b.0.1 b.1))
        ∙ closed-sound action_before (λ r. LeadingKeyword keyword.While at ∷ (expression_terminals e.0.0 ++ block_before b.0.0 r)) (OfKeyword keyword.End ∷ [])
        (While at e.0.0 b.0.0) a b.0.1 rest (λ r. refl) b.2
    action_sound (LeadingKeyword keyword.For at ∷ ws) a rest is =
        let n = bind_some (name_reader ws) _ _ is in
        let i = bind_some (after_terminal (OfKeyword keyword.In) n.0.1) _ _ n.2 in
        let e = bind_some (expression i.0) _ _ i.2 in
        let c = bind_some (after_terminal (OfSymbol symbol.Colon) e.0.1) _ _ e.2 in
        let f = bind_some (expression c.0) _ _ c.2 in
        let b = bind_some (inside f.0.1) _ _ f.2 in
        let front : List Terminal → List Terminal = λ r. LeadingKeyword keyword.For at ∷ Name n.0.0 ∷ OfKeyword keyword.In ∷ r in
        let last : List Terminal → List Terminal = λ r. front (expression_terminals e.0.0 ++ OfSymbol symbol.Colon ∷ r) in
        ap (λ r. LeadingKeyword keyword.For at ∷ r) (name_sound ws n.0.0 n.0.1 n.1 ∙ ap (λ r. Name n.0.0 ∷ r) (after_terminal-sound (OfKeyword keyword.In) n.0.1 i.0 i.1))
        ∙ ap front (sound i.0 e.0.0 e.0.1 e.1 ∙ ap (λ r. expression_terminals e.0.0 ++ r) (after_terminal-sound (OfSymbol symbol.Colon) e.0.1 c.0 c.1))
        ∙ ap last (sound c.0 f.0.0 f.0.1 f.1 ∙ ap (λ r. expression_terminals f.0.0 ++ r) (inside_sound f.0.1 b.0.0 b.0.1 b.1))
        ∙ closed-sound action_before (λ r. last (expression_terminals f.0.0 ++ block_before b.0.0 r)) (OfKeyword keyword.End ∷ [])
        (For at n.0.0 e.0.0 f.0.0 b.0.0) a b.0.1 rest (λ r. refl) b.2
    action_sound (LeadingKeyword keyword.If at ∷ ws) a rest is =
        let e = bind_some (expression ws) _ _ is in
        let b = bind_some (inside e.0.1) _ _ e.2 in
        ap (λ r. LeadingKeyword keyword.If at ∷ r) (sound ws e.0.0 e.0.1 e.1 ∙ ap (λ r. expression_terminals e.0.0 ++ r) (inside_sound e.0.1 b.0.0 b.0.1 b.1))
        ∙ else_sound at e.0.0 b.0.0 b.0.1 (after_terminal (OfKeyword keyword.Else) b.0.1) refl a rest b.2
    action_sound (LeadingKeyword keyword.Print at ∷ ws) a rest is =
        let e = bind_some (ended_at ws) _ _ is in
        ap (λ r. LeadingKeyword keyword.Print at ∷ r) (ended_sound ws e.0.0 e.0.1 e.1) ∙ same_before action_before (Print at e.0.0) a e.0.1 rest e.2
    action_sound (Name name ∷ ws) a rest is = named_action_sound name ws a rest is
    action_sound _ a rest is = cc is

    statement_sound : IsSound (statement_by (action_by inside)) statement_before
    statement_sound ws s rest is =
        let l = label_at ws in
        let a = bind_some (action_by inside l.1) _ _ is in
        label_sound ws ∙ ap (λ r. label_terminals l.0 ++ r) (action_sound l.1 a.0.0 a.0.1 a.1) ∙ same_before statement_before (l.0, a.0.0) s a.0.1 rest a.2

    where_sound : (begins : Bool) (ws : List Terminal) (s : LabelledAction) (rest : List Terminal) → where_begins begins (statement_by (action_by inside) ws) ≡ Some (Some (s, rest))
        → ws ≡ statement_before s rest
    where_sound false ws s rest is = cc is
    where_sound true ws s rest is = statement_sound ws s rest (same_found is)

    block_by-sound : (ws : List Terminal) (b : BlockTree) (rest : List Terminal)
        → block_by (action_by inside) ws ≡ Some (b, rest) → ws ≡ block_before b rest
    block_by-sound ws b rest is =
        let x = bind_some (each_at (next_statement (action_by inside)) ws) _ _ is in
        each_sound (next_statement (action_by inside)) statement_before (λ ws. where_sound (begins_statement ws) ws) ws x.0.0 x.0.1 x.1
        ∙ block_from-before x.0.0 x.0.1 ∙ same_before block_before (block_from x.0.0) b x.0.1 rest x.2

  no_block-sound : IsSound no_block block_before
  no_block-sound ws b rest is = cc is

  block_at-sound : (d : ℕ) → IsSound (block_at d) block_before
  block_at-sound zero ws b rest is = block_by-sound no_block no_block-sound ws b rest is
  block_at-sound (suc d) ws b rest is = block_by-sound (block_at d) (block_at-sound d) ws b rest is

  declaration_sound : IsSound declaration_by declaration_before
  unfolding block
  declaration_sound (LeadingKeyword keyword.Const at ∷ ws) d rest is =
      let p = bind_some (typed_at ws) _ _ is in
      let i = bind_some (assigned_at p.0.1) _ _ p.2 in
      ap (λ r. LeadingKeyword keyword.Const at ∷ r) (typed_sound ws p.0.0 p.0.1 p.1 ∙ ap (typed_before p.0.0) (assigned_sound p.0.1 i.0.0 i.0.1 i.1))
      ∙ same_before declaration_before (Constant at p.0.0 i.0.0) d i.0.1 rest i.2
  declaration_sound (LeadingKeyword keyword.Func at ∷ ws) d rest is =
      let n = bind_some (name_reader ws) _ _ is in
      let p = bind_some (parameters_at n.0.1) _ _ n.2 in
      let t = bind_some (result_by p.0.1 (after_terminal (OfSymbol symbol.Arrow) p.0.1)) _ _ p.2 in
      let b = bind_some (block t.0.1) _ _ t.2 in
      let front : List Terminal → List Terminal = λ r. LeadingKeyword keyword.Func at ∷ Name n.0.0 ∷ r in
      let behind : List Terminal → List Terminal = λ r. front (OfSymbol symbol.OpenParenthesis ∷ parameters_before p.0.0 (OfSymbol symbol.CloseParenthesis ∷ r)) in
      ap (λ r. LeadingKeyword keyword.Func at ∷ r) (name_sound ws n.0.0 n.0.1 n.1)
      ∙ ap front (parameters_sound n.0.1 p.0.0 p.0.1 p.1)
      ∙ ap behind (result_sound p.0.1 (after_terminal (OfSymbol symbol.Arrow) p.0.1) refl t.0.0 t.0.1 t.1)
      ∙ ap (λ r. behind (result_before t.0.0 r)) (block_at-sound limit t.0.1 b.0.0 b.0.1 b.1)
      ∙ closed-sound declaration_before (λ r. behind (result_before t.0.0 (block_before b.0.0 r))) (OfKeyword keyword.End ∷ [])
      (Function at n.0.0 p.0.0 t.0.0 b.0.0) d b.0.1 rest (λ r. refl) b.2
  declaration_sound _ d rest is = cc is

  next_declaration_sound : (begins : Bool) (ws : List Terminal) (d : DeclarationTree) (rest : List Terminal) → where_begins begins (declaration_by ws) ≡ Some (Some (d, rest))
      → ws ≡ declaration_before d rest
  next_declaration_sound false ws d rest is = cc is
  next_declaration_sound true ws d rest is = declaration_sound ws d rest (same_found is)

  schedule_sound : (ws : List Terminal) (found : Option (List Terminal)) → after_terminal (OfKeyword keyword.Schedule) ws ≡ found
      → (s : Option (List ChainTree)) (rest : List Terminal) → schedule_by ws found ≡ Some (s, rest) → ws ≡ schedule_before s rest
  schedule_sound ws None there s rest is = same_before schedule_before None s ws rest is
  schedule_sound ws (Some after) there s rest is =
      let a = bind_some (after_terminal (OfSymbol symbol.Colon) after) _ _ is in
      let c = bind_some (each_at next_chain a.0) _ _ a.2 in
      after_terminal-sound (OfKeyword keyword.Schedule) ws after there
      ∙ ap (λ r. OfKeyword keyword.Schedule ∷ r) (after_terminal-sound (OfSymbol symbol.Colon) after a.0 a.1)
      ∙ ap (λ r. OfKeyword keyword.Schedule ∷ OfSymbol symbol.Colon ∷ r) (each_sound next_chain chain_before next_chain_sound a.0 c.0.0 c.0.1 c.1)
      ∙ same_before schedule_before (Some c.0.0) s c.0.1 rest c.2

  whole_sound : (s t : SourceTree) (rest : List Terminal) → whole_tree (s, rest) ≡ Some t → (rest ≡ []) × (s ≡ t)
  whole_sound s t [] is = (refl, cc is)
  whole_sound s t (terminal ∷ rest) is = cc is

  pub source_sound : (ws : List Terminal) (s : SourceTree) → source_at ws ≡ Some s → ws ≡ source_terminals s
  source_sound ws s is =
      let a = bind_some (after_terminals elements ws) _ _ is in
      let d = bind_some (each_at next_declaration a.0) _ _ a.2 in
      let t = bind_some (schedule_by d.0.1 (after_terminal (OfKeyword keyword.Schedule) d.0.1)) _ _ d.2 in
      let w = whole_sound (record { declarations = d.0.0; schedule = t.0.0 }) s t.0.1 t.2 in
      after_terminals-sound elements ws a.0 a.1
      ∙ ap (λ r. elements ++ r) (each_sound next_declaration declaration_before (λ ws. next_declaration_sound (begins_declaration ws) ws) a.0 d.0.0 d.0.1 d.1)
      ∙ ap (λ r. elements ++ each_before declaration_before d.0.0 r)
      (schedule_sound d.0.1 (after_terminal (OfKeyword keyword.Schedule) d.0.1) refl t.0.0 t.0.1 t.1 ∙ ap (schedule_before t.0.0) w.0)
      ∙ ap source_terminals w.1
