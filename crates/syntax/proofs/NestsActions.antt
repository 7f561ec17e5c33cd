-- Where the nesting of its terminals stays within the limit, a source is no deeper than readers go.
use Rattle.std.proofs.Common.{◌≡◌, refl, subst, arith, List, [], ◌∷◌, ◌++◌, Option, Some, None, ℕ, zero, suc, ◌≤◌, ◌+◌}
use Rattle.lexer.specs.declared.keyword.Keyword.TheVariants as keyword
use Rattle.lexer.specs.declared.symbol.Symbol.TheVariants as symbol
use Rattle.syntax.specs.Terminals.{Terminal, Identifier, Name, OfKeyword, OfSymbol}
use Rattle.syntax.specs.SourceTrees.{ExpressionTree, ParameterTree, InitialTree, NewSet, Load, Vertices, OutDegrees, Filter, ApplyModified, Value, StatementKindTree, Declare, While, For, If, IfElse}
use Rattle.syntax.specs.SourceTrees.{Print, Assign, Reduce, SetEntry, ReduceEntry, AddVertex, Apply, BlockTree, Empty, Then, DeclarationTree, Constant, Function, SourceTree}
use Rattle.syntax.specs.ExpressionDepth.{expression_depth}
use Rattle.syntax.specs.ExpressionSpelling.{expression_terminals}
use Rattle.syntax.specs.declared.declaration.DeclaredType.{DeclaredType}
use Rattle.syntax.specs.declared.declaration.DeclaredType.TheVariants as type
use Rattle.apply_options.specs.declared.reduction.Reduction.{Reduction}
use Rattle.apply_options.specs.declared.reduction.Reduction.TheVariants as reduction
use Rattle.syntax.specs.SourceSpelling.{type_terminals, initial_before, assigned_before, ended_before, end_terminals, reduction_terminal, label_terminals, action_before, block_before, each_before}
use Rattle.syntax.specs.SourceSpelling.{typed_before, argument_terminals, parameters_before, next_parameter_before, result_before, declaration_before, schedule_before, source_terminals}
use Rattle.syntax.specs.inside.Fits.{Fits, FitsInitial, FitsAction, FitsBlock, FitsDeclaration, FitDeclarations, FitsSource}
use Rattle.syntax.specs.Nesting.{limit, nesting_after, StaysWithin}
use Rattle.syntax.proofs.Nests.{expression_balanced, expression_deep, within-front, within-behind}

-- the nesting stays within the limit
abbrev Within : ℕ → List Terminal → Type 0
Within n ws = StaysWithin limit n ws

expression_fits : (e : ExpressionTree) (n : ℕ) (rest : List Terminal) → n ≤ limit → Within n (expression_terminals e ++ rest) → Fits e × Within n rest
expression_fits e n rest small within =
    let deep = expression_deep limit e n small (within-front limit n (expression_terminals e) rest within) in
    let fits : expression_depth e ≤ limit = omega (arith, deep) in
    (fits, subst (λ m. Within m rest) (expression_balanced e n) (within-behind limit n (expression_terminals e) rest within))

type_within : (t : DeclaredType) (n : ℕ) (rest : List Terminal) → Within n (type_terminals t ++ rest) → Within n rest
type_within type.Int n rest within = within.1
type_within type.Bool n rest within = within.1
type_within type.Vertex n rest within = within.1
type_within type.VertexSet n rest within = within.1.1.1.1
type_within type.Vector n rest within = within.1.1.1.1.1.1.1
type_within type.EdgeSet n rest within = within.1.1.1.1.1.1.1.1.1
type_within type.WeightedEdgeSet n rest within = within.1.1.1.1.1.1.1.1.1.1.1

typed_within : (p : ParameterTree) (n : ℕ) (rest : List Terminal) → Within n (typed_before p rest) → Within n rest
typed_within p n rest within = type_within p.declared n rest within.1.1

ends_within : (from to : Option Identifier) (n : ℕ) (rest : List Terminal)
    → Within n (end_terminals (OfKeyword keyword.From) from ++ (end_terminals (OfKeyword keyword.To) to ++ rest)) → Within n rest
ends_within None None n rest within = within
ends_within None (Some t) n rest within = within.1.1.1.1.1
ends_within (Some f) None n rest within = within.1.1.1.1.1
ends_within (Some f) (Some t) n rest within = within.1.1.1.1.1.1.1.1.1.1

initial_fits : (i : InitialTree) (n : ℕ) (rest : List Terminal) → n ≤ limit → Within n (initial_before i rest) → FitsInitial i × Within n rest
initial_fits (NewSet size) n rest small within = (tt, within.1.1.1.1.1.1.1.1)
initial_fits (Load argument) n rest small within = (tt, within.1.1.1.1.1.1.1)
initial_fits (Vertices edges) n rest small within = (tt, within.1.1.1.1.1)
initial_fits (OutDegrees edges) n rest small within = (tt, within.1.1.1.1.1)
initial_fits (Filter set test) n rest small within = (tt, within.1.1.1.1.1.1)
initial_fits (ApplyModified edges ends function vector) n rest small within =
    let behind = ends_within ends.from ends.to n (OfSymbol symbol.Dot ∷ OfKeyword keyword.ApplyModified ∷ OfSymbol symbol.OpenParenthesis
    ∷ Name function ∷ OfSymbol symbol.Comma ∷ Name vector ∷ OfSymbol symbol.CloseParenthesis ∷ rest) within.1 in
    (tt, behind.1.1.1.1.1.1.1)
initial_fits (Value e) n rest small within = expression_fits e n rest small within

assigned_fits : (i : InitialTree) (n : ℕ) (rest : List Terminal) → n ≤ limit → Within n (assigned_before i rest) → FitsInitial i × Within n rest
assigned_fits i n rest small within = let x = initial_fits i n (OfSymbol symbol.Semicolon ∷ rest) small within.1 in (x.0, x.1.1)

ended_fits : (e : ExpressionTree) (n : ℕ) (rest : List Terminal) → n ≤ limit → Within n (ended_before e rest) → Fits e × Within n rest
ended_fits e n rest small within = let x = expression_fits e n (OfSymbol symbol.Semicolon ∷ rest) small within in (x.0, x.1.1)

reduction_flat : (r : Reduction) (n : ℕ) → nesting_after (reduction_terminal r) n ≡ n
reduction_flat reduction.Min n = refl
reduction_flat _ n = refl

label_within : (label : Option Identifier) (n : ℕ) (rest : List Terminal) → Within n (label_terminals label ++ rest) → Within n rest
label_within None n rest within = within
label_within (Some label) n rest within = within.1

mutual
  action_fits : (a : StatementKindTree) (d n : ℕ) (rest : List Terminal) → limit ≤ n + d → n ≤ limit → Within n (action_before a rest) → FitsAction d a × Within n rest
  action_fits (Declare at p initial) d n rest room small within =
      assigned_fits initial n rest small (typed_within p n (assigned_before initial rest) within.1)
  action_fits (While at test body) zero n rest room small within = absurd (omega (arith, within.0))
  action_fits (While at test body) (suc d) n rest room small within =
      let e = expression_fits test (suc n) (block_before body (OfKeyword keyword.End ∷ rest)) within.0 within.1 in
      let b = block_fits body d (suc n) (OfKeyword keyword.End ∷ rest) (omega arith) within.0 e.1 in
      ((e.0, b.0), b.1.1)
  action_fits (For at name first last body) zero n rest room small within = absurd (omega (arith, within.0))
  action_fits (For at name first last body) (suc d) n rest room small within =
      let e = expression_fits first (suc n) (OfSymbol symbol.Colon ∷ (expression_terminals last ++ block_before body (OfKeyword keyword.End ∷ rest))) within.0 within.1.1.1 in
      let f = expression_fits last (suc n) (block_before body (OfKeyword keyword.End ∷ rest)) within.0 e.1.1 in
      let b = block_fits body d (suc n) (OfKeyword keyword.End ∷ rest) (omega arith) within.0 f.1 in
      ((e.0, f.0, b.0), b.1.1)
  action_fits (If at test body) zero n rest room small within = absurd (omega (arith, within.0))
  action_fits (If at test body) (suc d) n rest room small within =
      let e = expression_fits test (suc n) (block_before body (OfKeyword keyword.End ∷ rest)) within.0 within.1 in
      let b = block_fits body d (suc n) (OfKeyword keyword.End ∷ rest) (omega arith) within.0 e.1 in
      ((e.0, b.0), b.1.1)
  action_fits (IfElse at test body otherwise) zero n rest room small within = absurd (omega (arith, within.0))
  action_fits (IfElse at test body otherwise) (suc d) n rest room small within =
      let after : List Terminal = OfKeyword keyword.Else ∷ block_before otherwise (OfKeyword keyword.End ∷ rest) in
      let e = expression_fits test (suc n) (block_before body after) within.0 within.1 in
      let b = block_fits body d (suc n) after (omega arith) within.0 e.1 in
      let o = block_fits otherwise d (suc n) (OfKeyword keyword.End ∷ rest) (omega arith) within.0 b.1.1 in
      ((e.0, b.0, o.0), o.1.1)
  action_fits (Print at value) d n rest room small within = ended_fits value n rest small within.1
  action_fits (Assign name value) d n rest room small within = assigned_fits value n rest small within.1
  action_fits (Reduce name reduction value) d n rest room small within =
      ended_fits value n rest small (subst (λ m. Within m (ended_before value rest)) (reduction_flat reduction n) within.1.1)
  action_fits (SetEntry vector index value) d n rest room small within =
      let i = expression_fits index (suc n) (OfSymbol symbol.CloseBracket ∷ OfSymbol symbol.Assign ∷ ended_before value rest) within.1.0 within.1.1 in
      let e = ended_fits value n rest small i.1.1.1 in
      ((i.0, e.0), e.1)
  action_fits (ReduceEntry vector index reduction value) d n rest room small within =
      let i = expression_fits index (suc n) (OfSymbol symbol.CloseBracket ∷ reduction_terminal reduction ∷ ended_before value rest) within.1.0 within.1.1 in
      let e = ended_fits value n rest small (subst (λ m. Within m (ended_before value rest)) (reduction_flat reduction n) i.1.1.1) in
      ((i.0, e.0), e.1)
  action_fits (AddVertex set vertex) d n rest room small within =
      let e = expression_fits vertex (suc n) (OfSymbol symbol.CloseParenthesis ∷ OfSymbol symbol.Semicolon ∷ rest) within.1.1.1.0 within.1.1.1.1 in
      (e.0, e.1.1.1)
  action_fits (Apply target ends function) d n rest room small within =
      let behind = ends_within ends.from ends.to n (OfSymbol symbol.Dot ∷ OfKeyword keyword.Apply ∷ (argument_terminals function ++ OfSymbol symbol.Semicolon ∷ rest)) within.1 in
      (tt, behind.1.1.1.1.1.1)

  block_fits : (b : BlockTree) (d n : ℕ) (rest : List Terminal) → limit ≤ n + d → n ≤ limit → Within n (block_before b rest) → FitsBlock d b × Within n rest
  block_fits Empty d n rest room small within = (tt, within)
  block_fits (Then label action others) d n rest room small within =
      let a = action_fits action d n (block_before others rest) room small (label_within label n (action_before action (block_before others rest)) within) in
      let b = block_fits others d n rest room small a.1 in
      ((a.0, b.0), b.1)

more_within : (ps : List ParameterTree) (n : ℕ) (rest : List Terminal) → Within n (each_before next_parameter_before ps rest) → Within n rest
more_within [] n rest within = within
more_within (p ∷ others) n rest within = more_within others n rest (typed_within p n (each_before next_parameter_before others rest) within.1)

parameters_within : (ps : List ParameterTree) (n : ℕ) (rest : List Terminal) → Within n (parameters_before ps rest) → Within n rest
parameters_within [] n rest within = within
parameters_within (p ∷ others) n rest within = more_within others n rest (typed_within p n (each_before next_parameter_before others rest) within)

result_within : (result : Option ParameterTree) (n : ℕ) (rest : List Terminal) → Within n (result_before result rest) → Within n rest
result_within None n rest within = within
result_within (Some p) n rest within = typed_within p n rest within.1

declaration_fits : (d : DeclarationTree) (rest : List Terminal) → Within 0 (declaration_before d rest) → FitsDeclaration d × Within 0 rest
declaration_fits (Constant at p initial) rest within = assigned_fits initial 0 rest (omega arith) (typed_within p 0 (assigned_before initial rest) within.1)
declaration_fits (Function at name parameters result body) rest within =
    let behind : List Terminal = block_before body (OfKeyword keyword.End ∷ rest) in
    let p = parameters_within parameters 2 (OfSymbol symbol.CloseParenthesis ∷ result_before result behind) within.1.1.1 in
    let b = block_fits body limit 1 (OfKeyword keyword.End ∷ rest) (omega arith) (omega arith) (result_within result 1 behind p.1) in
    (b.0, b.1.1)

declarations_fit : (ds : List DeclarationTree) (rest : List Terminal) → Within 0 (each_before declaration_before ds rest) → FitDeclarations ds
declarations_fit [] rest within = tt
declarations_fit (d ∷ others) rest within =
    let x = declaration_fits d (each_before declaration_before others rest) within in
    (x.0, declarations_fit others rest x.1)

-- a source whose nesting stays within the limit fits
pub source_fits : (s : SourceTree) → StaysWithin limit 0 (source_terminals s) → FitsSource s
source_fits s within = declarations_fit s.declarations (schedule_before s.schedule []) within.1.1.1.1.1.1
