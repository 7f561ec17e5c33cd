-- What is read is spelled so: simple classes.
use Rattle.std.proofs.Common.{◌≡◌, refl, ◌∙◌, ap, List, [], ◌∷◌, ◌++◌, Option, Some, None, ℕ, zero, suc, length}
use Rattle.lexer.specs.declared.keyword.Keyword.TheVariants as keyword
use Rattle.lexer.specs.declared.symbol.Symbol.TheVariants as symbol
use Rattle.syntax.specs.Terminals.{Terminal, Name, Number, Text, LeadingKeyword, OfKeyword, OfSymbol}
use Rattle.syntax.specs.ExpressionReading.{Reader, links_by, linked, after_by}
use Rattle.syntax.specs.declared.declaration.DeclaredType.{DeclaredType}
use Rattle.syntax.specs.declared.declaration.DeclaredType.TheVariants as type
use Rattle.apply_options.specs.declared.setting.Setting.TheVariants as setting
use Rattle.syntax.specs.SourceTrees.{ParameterTree, CallTree, ChainTree}
use Rattle.syntax.specs.SourceSpelling.{type_terminals, typed_before, each_before, next_parameter_before, next_text_before, call_before, next_call_before, chain_before, parameters_before}
use Rattle.syntax.specs.SourceSpelling.{result_before, setting_keyword}
use Rattle.syntax.specs.SourceReading.{name_reader, number_at, text_at, edge_ends, edgeset_at, edgeset_by, type_at, typed_at, each_at, next_parameter, parameters_at, parameters_by, result_by}
use Rattle.syntax.specs.SourceReading.{next_text, call_at, next_call, chain_at, next_chain, closed_by, setting_at, after_terminal, after_terminals, in_braces, in_parentheses}
use Rattle.syntax.proofs.TerminalLaws.{bind_some, after_terminal-sound, after_terminals-sound}

-- the reader gives a tree only where its terminals stand
abbrev pub IsSound : {A : Type 0} → Reader A → (A → List Terminal → List Terminal) → Type 0
IsSound {A = A} read before = (ws : List Terminal) (x : A) (rest : List Terminal) → read ws ≡ Some (x, rest) → ws ≡ before x rest

abbrev some_or : {A : Type 0} → Option A → A → A
some_or None other = other
some_or (Some x) other = x

abbrev found_or : {A : Type 0} → Option (Option A) → Option A → Option A
found_or None other = other
found_or (Some x) other = x

pub same_found : {A : Type 0} {read : Option A} {x : A} → Some read ≡ Some (Some x) → read ≡ Some x
same_found {read = read} is = ap (λ o. found_or o read) is

-- the same tree before the same terminals
pub same_before : {A : Type 0} (before : A → List Terminal → List Terminal) (a x : A) (r rest : List Terminal)
    → ◌≡◌ {A = Option (A × List Terminal)} (Some (a, r)) (Some (x, rest)) → before a r ≡ before x rest
same_before {A = A} before a x r rest is = ap (λ o. let p : A × List Terminal = some_or o (a, r) in before p.0 p.1) is

-- terminals that are closed by others: front is what stands before them
pub closed-sound : {A : Type 0} (before : A → List Terminal → List Terminal) (front : List Terminal → List Terminal) (terminals : List Terminal) (a x : A) (ws rest : List Terminal)
    → ((r : List Terminal) → front (terminals ++ r) ≡ before a r) → closed_by terminals (a, ws) ≡ Some (x, rest) → front ws ≡ before x rest
closed-sound before front terminals a x ws rest same is =
    let b = bind_some (after_terminals terminals ws) (λ r. Some (a, r)) (x, rest) is in
    ap front (after_terminals-sound terminals ws b.0 b.1) ∙ same b.0 ∙ same_before before a x b.0 rest b.2

pub name_sound : IsSound name_reader (λ n rest. Name n ∷ rest)
name_sound (Name n ∷ ws) x rest is = same_before (λ n rest. Name n ∷ rest) n x ws rest is
name_sound _ x rest is = cc is

pub number_sound : IsSound number_at (λ n rest. Number n ∷ rest)
number_sound (Number n ∷ ws) x rest is = same_before (λ n rest. Number n ∷ rest) n x ws rest is
number_sound _ x rest is = cc is

pub text_sound : IsSound text_at (λ t rest. Text t ∷ rest)
text_sound (Text t ∷ ws) x rest is = same_before (λ t rest. Text t ∷ rest) t x ws rest is
text_sound _ x rest is = cc is

-- what begins an edgeset's type, with what stands after it
abbrev edges_front : List Terminal → List Terminal
edges_front rest = OfKeyword keyword.EdgeSet ∷ (edge_ends ++ rest)

edgeset_sound : (ws : List Terminal) (found : Option (List Terminal)) → after_terminal (OfSymbol symbol.Comma) ws ≡ found → (t : DeclaredType) (rest : List Terminal)
    → edgeset_by ws found ≡ Some (t, rest) → edges_front ws ≡ type_terminals t ++ rest
edgeset_sound ws None there t rest is =
    closed-sound (λ t r. type_terminals t ++ r) edges_front (OfSymbol symbol.CloseParenthesis ∷ []) type.EdgeSet t ws rest (λ r. refl) is
edgeset_sound ws (Some after) there t rest is =
    ap edges_front (after_terminal-sound (OfSymbol symbol.Comma) ws after there)
    ∙ closed-sound (λ t r. type_terminals t ++ r) (λ r. edges_front (OfSymbol symbol.Comma ∷ r)) (OfKeyword keyword.Int ∷ OfSymbol symbol.CloseParenthesis ∷ [])
    type.WeightedEdgeSet t after rest (λ r. refl) is

type_sound : IsSound type_at (λ t rest. type_terminals t ++ rest)
type_sound (OfKeyword keyword.Int ∷ ws) t rest is = same_before (λ t r. type_terminals t ++ r) type.Int t ws rest is
type_sound (OfKeyword keyword.Bool ∷ ws) t rest is = same_before (λ t r. type_terminals t ++ r) type.Bool t ws rest is
type_sound (OfKeyword keyword.Vertex ∷ ws) t rest is = same_before (λ t r. type_terminals t ++ r) type.Vertex t ws rest is
type_sound (OfKeyword keyword.VertexSet ∷ ws) t rest is =
    closed-sound (λ t r. type_terminals t ++ r) (λ r. OfKeyword keyword.VertexSet ∷ r) (in_braces (OfKeyword keyword.Vertex)) type.VertexSet t ws rest (λ r. refl) is
type_sound (OfKeyword keyword.Vector ∷ ws) t rest is =
    closed-sound (λ t r. type_terminals t ++ r) (λ r. OfKeyword keyword.Vector ∷ r) (in_braces (OfKeyword keyword.Vertex) ++ in_parentheses (OfKeyword keyword.Int ∷ [])) type.Vector t ws rest
    (λ r. refl) is
type_sound (OfKeyword keyword.EdgeSet ∷ ws) t rest is =
    let b = bind_some (after_terminals edge_ends ws) edgeset_at (t, rest) is in
    ap (λ r. OfKeyword keyword.EdgeSet ∷ r) (after_terminals-sound edge_ends ws b.0 b.1) ∙ edgeset_sound b.0 (after_terminal (OfSymbol symbol.Comma) b.0) refl t rest b.2
type_sound _ t rest is = cc is

pub typed_sound : IsSound typed_at typed_before
typed_sound ws p rest is =
    let n = bind_some (name_reader ws) _ _ is in
    let c = bind_some (after_terminal (OfSymbol symbol.Colon) n.0.1) _ _ n.2 in
    let t = bind_some (type_at c.0) _ _ c.2 in
    name_sound ws n.0.0 n.0.1 n.1
    ∙ ap (λ r. Name n.0.0 ∷ r) (after_terminal-sound (OfSymbol symbol.Colon) n.0.1 c.0 c.1 ∙ ap (λ r. OfSymbol symbol.Colon ∷ r) (type_sound c.0 t.0.0 t.0.1 t.1))
    ∙ same_before typed_before (record { name = n.0.0; declared = t.0.0 }) p t.0.1 rest t.2

-- as many as follow one another
module _ {A : Type 0} (next : List Terminal → Option (Option (A × List Terminal))) (before : A → List Terminal → List Terminal)
    (one : (ws : List Terminal) (x : A) (rest : List Terminal) → next ws ≡ Some (Some (x, rest)) → ws ≡ before x rest) where
  linked_sound : (fuel : ℕ) → IsSound (links_by next fuel) (each_before before) → (ws : List Terminal) (xs : List A) (rest : List Terminal) (found : Option (Option (A × List Terminal)))
      → next ws ≡ found → linked next (links_by next fuel) ws found ≡ Some (xs, rest) → ws ≡ each_before before xs rest
  linked_sound fuel others ws xs rest None there is = same_before (each_before before) [] xs ws rest is
  linked_sound fuel others ws xs rest (Some None) there is = cc is
  linked_sound fuel others ws xs rest (Some (Some x)) there is =
      let y = bind_some (links_by next fuel x.1) _ _ is in
      one ws x.0 x.1 there ∙ ap (before x.0) (others x.1 y.0.0 y.0.1 y.1) ∙ same_before (each_before before) (x.0 ∷ y.0.0) xs y.0.1 rest y.2

  links_sound : (fuel : ℕ) → IsSound (links_by next fuel) (each_before before)
  links_sound zero ws xs rest is = cc is
  links_sound (suc fuel) ws xs rest is = linked_sound fuel (links_sound fuel) ws xs rest (next ws) refl is

  pub each_sound : IsSound (each_at next) (each_before before)
  each_sound ws xs rest is = links_sound (suc (length ws)) ws xs rest is

-- what stands after a terminal
behind-sound : {A : Type 0} (item : Reader A) (before : A → List Terminal → List Terminal) → IsSound item before → (terminal : Terminal) (ws : List Terminal) (found : Option (List Terminal))
    → after_terminal terminal ws ≡ found → (x : A) (rest : List Terminal) → after_by item found ≡ Some (Some (x, rest)) → ws ≡ terminal ∷ before x rest
behind-sound item before sound terminal ws None there x rest is = cc is
behind-sound item before sound terminal ws (Some after) there x rest is =
    after_terminal-sound terminal ws after there ∙ ap (λ r. terminal ∷ r) (sound after x rest (same_found is))

next_parameter_sound : (ws : List Terminal) (p : ParameterTree) (rest : List Terminal) → next_parameter ws ≡ Some (Some (p, rest)) → ws ≡ next_parameter_before p rest
next_parameter_sound ws = behind-sound typed_at typed_before typed_sound (OfSymbol symbol.Comma) ws (after_terminal (OfSymbol symbol.Comma) ws) refl

parameters_by-sound : (ws : List Terminal) (found : Option (List Terminal)) → after_terminal (OfSymbol symbol.CloseParenthesis) ws ≡ found
    → (ps : List ParameterTree) (rest : List Terminal) → parameters_by ws found ≡ Some (ps, rest) → ws ≡ parameters_before ps (OfSymbol symbol.CloseParenthesis ∷ rest)
parameters_by-sound ws (Some after) there ps rest is =
    after_terminal-sound (OfSymbol symbol.CloseParenthesis) ws after there ∙ same_before (λ ps r. parameters_before ps (OfSymbol symbol.CloseParenthesis ∷ r)) [] ps after rest is
parameters_by-sound ws None there ps rest is =
    let p = bind_some (typed_at ws) _ _ is in
    let more = bind_some (each_at next_parameter p.0.1) _ _ p.2 in
    typed_sound ws p.0.0 p.0.1 p.1 ∙ ap (typed_before p.0.0) (each_sound next_parameter next_parameter_before next_parameter_sound p.0.1 more.0.0 more.0.1 more.1)
    ∙ closed-sound (λ ps r. parameters_before ps (OfSymbol symbol.CloseParenthesis ∷ r)) (λ r. typed_before p.0.0 (each_before next_parameter_before more.0.0 r))
    (OfSymbol symbol.CloseParenthesis ∷ []) (p.0.0 ∷ more.0.0) ps more.0.1 rest (λ r. refl) more.2

pub parameters_sound : IsSound parameters_at (λ ps rest. OfSymbol symbol.OpenParenthesis ∷ parameters_before ps (OfSymbol symbol.CloseParenthesis ∷ rest))
parameters_sound ws ps rest is =
    let a = bind_some (after_terminal (OfSymbol symbol.OpenParenthesis) ws) _ _ is in
    after_terminal-sound (OfSymbol symbol.OpenParenthesis) ws a.0 a.1
    ∙ ap (λ r. OfSymbol symbol.OpenParenthesis ∷ r) (parameters_by-sound a.0 (after_terminal (OfSymbol symbol.CloseParenthesis) a.0) refl ps rest a.2)

pub result_sound : (ws : List Terminal) (found : Option (List Terminal)) → after_terminal (OfSymbol symbol.Arrow) ws ≡ found
    → (p : Option ParameterTree) (rest : List Terminal) → result_by ws found ≡ Some (p, rest) → ws ≡ result_before p rest
result_sound ws None there p rest is = same_before result_before None p ws rest is
result_sound ws (Some after) there p rest is =
    let t = bind_some (typed_at after) _ _ is in
    after_terminal-sound (OfSymbol symbol.Arrow) ws after there ∙ ap (λ r. OfSymbol symbol.Arrow ∷ r) (typed_sound after t.0.0 t.0.1 t.1)
    ∙ same_before result_before (Some t.0.0) p t.0.1 rest t.2

setting_sound : IsSound setting_at (λ s rest. LeadingKeyword (setting_keyword s.1) s.0 ∷ rest)
setting_sound (LeadingKeyword keyword.ConfigApplyDirection at ∷ ws) s rest is = same_before (λ s rest. LeadingKeyword (setting_keyword s.1) s.0 ∷ rest) (at, setting.Direction) s ws rest is
setting_sound (LeadingKeyword keyword.ConfigApplyParallelization at ∷ ws) s rest is = same_before (λ s rest. LeadingKeyword (setting_keyword s.1) s.0 ∷ rest) (at, setting.Parallelization) s ws rest is
setting_sound (LeadingKeyword keyword.ConfigApplyDenseVertexSet at ∷ ws) s rest is = same_before (λ s rest. LeadingKeyword (setting_keyword s.1) s.0 ∷ rest) (at, setting.DenseVertexSet) s ws rest is
setting_sound (LeadingKeyword keyword.FuseApplyFunctions at ∷ ws) s rest is = same_before (λ s rest. LeadingKeyword (setting_keyword s.1) s.0 ∷ rest) (at, setting.FuseFunctions) s ws rest is
setting_sound (LeadingKeyword keyword.FuseFields at ∷ ws) s rest is = same_before (λ s rest. LeadingKeyword (setting_keyword s.1) s.0 ∷ rest) (at, setting.FuseFields) s ws rest is
setting_sound _ s rest is = cc is

next_text_sound : (ws : List Terminal) (t : List ℕ) (rest : List Terminal) → next_text ws ≡ Some (Some (t, rest)) → ws ≡ next_text_before t rest
next_text_sound ws = behind-sound text_at (λ t rest. Text t ∷ rest) text_sound (OfSymbol symbol.Comma) ws (after_terminal (OfSymbol symbol.Comma) ws) refl

pub call_sound : IsSound call_at call_before
call_sound ws call rest is =
    let s = bind_some (setting_at ws) _ _ is in
    let a = bind_some (after_terminal (OfSymbol symbol.OpenParenthesis) s.0.1) _ _ s.2 in
    let t = bind_some (text_at a.0) _ _ a.2 in
    let more = bind_some (each_at next_text t.0.1) _ _ t.2 in
    let front : List Terminal → List Terminal = λ r. LeadingKeyword (setting_keyword s.0.0.1) s.0.0.0 ∷ OfSymbol symbol.OpenParenthesis ∷ Text t.0.0 ∷ r in
    setting_sound ws s.0.0 s.0.1 s.1
    ∙ ap (λ r. LeadingKeyword (setting_keyword s.0.0.1) s.0.0.0 ∷ r) (after_terminal-sound (OfSymbol symbol.OpenParenthesis) s.0.1 a.0 a.1)
    ∙ ap (λ r. LeadingKeyword (setting_keyword s.0.0.1) s.0.0.0 ∷ OfSymbol symbol.OpenParenthesis ∷ r) (text_sound a.0 t.0.0 t.0.1 t.1)
    ∙ ap front (each_sound next_text next_text_before next_text_sound t.0.1 more.0.0 more.0.1 more.1)
    ∙ closed-sound call_before (λ r. front (each_before next_text_before more.0.0 r)) (OfSymbol symbol.CloseParenthesis ∷ [])
    (record { at = s.0.0.0; setting = s.0.0.1; first = t.0.0; more = more.0.0 }) call more.0.1 rest (λ r. refl) more.2

next_call_sound : (ws : List Terminal) (c : CallTree) (rest : List Terminal) → next_call ws ≡ Some (Some (c, rest)) → ws ≡ next_call_before c rest
next_call_sound ws = behind-sound call_at call_before call_sound (OfSymbol symbol.Arrow) ws (after_terminal (OfSymbol symbol.Arrow) ws) refl

chain_sound : IsSound chain_at (λ chain rest. next_call_before chain.first (each_before next_call_before chain.more (OfSymbol symbol.Semicolon ∷ rest)))
chain_sound ws chain rest is =
    let a = bind_some (after_terminal (OfSymbol symbol.Arrow) ws) _ _ is in
    let c = bind_some (call_at a.0) _ _ a.2 in
    let more = bind_some (each_at next_call c.0.1) _ _ c.2 in
    after_terminal-sound (OfSymbol symbol.Arrow) ws a.0 a.1
    ∙ ap (λ r. OfSymbol symbol.Arrow ∷ r) (call_sound a.0 c.0.0 c.0.1 c.1)
    ∙ ap (next_call_before c.0.0) (each_sound next_call next_call_before next_call_sound c.0.1 more.0.0 more.0.1 more.1)
    ∙ closed-sound (λ chain rest. next_call_before chain.first (each_before next_call_before chain.more (OfSymbol symbol.Semicolon ∷ rest)))
    (λ r. next_call_before c.0.0 (each_before next_call_before more.0.0 r)) (OfSymbol symbol.Semicolon ∷ [])
    (record { first = c.0.0; more = more.0.0 }) chain more.0.1 rest (λ r. refl) more.2

pub next_chain_sound : (ws : List Terminal) (c : ChainTree) (rest : List Terminal) → next_chain ws ≡ Some (Some (c, rest)) → ws ≡ chain_before c rest
next_chain_sound ws = behind-sound chain_at _ chain_sound (OfKeyword keyword.Program) ws (after_terminal (OfKeyword keyword.Program) ws) refl
