-- What is spelled is read: declarations and sources.
use Rattle.std.proofs.Common.{◌≡◌, refl, ◌∙◌, ap, arith, false, List, [], ◌∷◌, ◌++◌, Option, Some, None, ◌<◌, length}
use Rattle.lexer.specs.declared.keyword.Keyword.TheVariants as keyword
use Rattle.lexer.specs.declared.symbol.Symbol.TheVariants as symbol
use Rattle.syntax.specs.Terminals.{Terminal, OfKeyword, OfSymbol}
use Rattle.syntax.specs.SourceTrees.{ExpressionTree, ParameterTree, Declare, BlockTree, Empty, Then, DeclarationTree, Constant, Function, ChainTree, SourceTree}
use Rattle.syntax.specs.Nesting.{◌>>=◌, limit}
use Rattle.syntax.specs.ExpressionSpelling.{expression_terminals}
use Rattle.syntax.specs.SourceSpelling.{assigned_before, block_before, result_before, declaration_before, chain_before, schedule_before, source_terminals}
use Rattle.syntax.specs.SourceReading.{expression, assigned_at, block, result_by, next_declaration, closed_by, after_terminal, next_chain, schedule_by, whole_tree, source_at}
use Rattle.syntax.specs.inside.Fits.{Fits, FitsDeclaration, FitDeclarations, FitsSource}
use Rattle.syntax.proofs.Complete.{typed_complete, parameters_complete, next_chain_complete, parameters_longer, result_longer, chain_longer, Each, IsRead, every, each_complete}
use Rattle.syntax.proofs.Actions.{goes_on, assigned_complete, block_items, items_complete, typed_longer, initial_longer, block_longer}

result_complete : (result : Option ParameterTree) (b : BlockTree) (rest : List Terminal)
    → (let ws = result_before result (block_before b (OfKeyword keyword.End ∷ rest)) in result_by ws (after_terminal (OfSymbol symbol.Arrow) ws)) ≡ Some
    (result, block_before b (OfKeyword keyword.End ∷ rest))
result_complete (Some p) b rest = ap (λ r. r >>= λ p. Some (Some p.0, p.1)) (typed_complete p (block_before b (OfKeyword keyword.End ∷ rest)))
result_complete None Empty rest = refl
result_complete None (Then (Some label) action others) rest = refl
result_complete None (Then None (Declare at p initial) others) rest = refl
result_complete None (Then None _ others) rest = refl

schedule_complete : (schedule : Option (List ChainTree))
    → (let ws = schedule_before schedule [] in schedule_by ws (after_terminal (OfKeyword keyword.Schedule) ws)) ≡ Some (schedule, [])
schedule_complete None = refl
schedule_complete (Some chains) =
    ap (λ r. r >>= λ c. Some (Some c.0, c.1)) (each_complete next_chain chain_before chain_longer chains [] (every next_chain_complete chains) refl)

no_declaration : (schedule : Option (List ChainTree)) → next_declaration (schedule_before schedule []) ≡ None
no_declaration None = refl
no_declaration (Some chains) = refl

module _ (complete : (e : ExpressionTree) (rest : List Terminal) → Fits e → goes_on rest ≡ false → expression (expression_terminals e ++ rest) ≡ Some (e, rest)) where
  declaration_complete : (d : DeclarationTree) → FitsDeclaration d → IsRead next_declaration declaration_before d
  unfolding block
  declaration_complete (Constant at p initial) fits rest =
      ap (λ r. Some (r >>= λ n. assigned_at n.1 >>= λ i. Some (Constant at n.0 i.0, i.1))) (typed_complete p (assigned_before initial rest))
      ∙ ap (λ r. Some (r >>= λ i. Some (Constant at p i.0, i.1))) (assigned_complete complete initial rest fits)
  declaration_complete (Function at name parameters result body) fits rest =
      let behind : List Terminal = block_before body (OfKeyword keyword.End ∷ rest) in
      ap (λ r. Some (r >>= λ p. result_by p.1 (after_terminal (OfSymbol symbol.Arrow) p.1) >>= λ t. block t.1 >>= λ b.
      closed_by (OfKeyword keyword.End ∷ []) (Function at name p.0 t.0 b.0, b.1))) (parameters_complete parameters (result_before result behind))
      ∙ ap (λ r. Some (r >>= λ t. block t.1 >>= λ b. closed_by (OfKeyword keyword.End ∷ []) (Function at name parameters t.0 b.0, b.1))) (result_complete result body rest)
      ∙ ap (λ r. Some (r >>= λ b. closed_by (OfKeyword keyword.End ∷ []) (Function at name parameters result b.0, b.1)))
      (block_items complete limit body (OfKeyword keyword.End ∷ rest) (items_complete complete limit body fits) refl)

  declarations_complete : (ds : List DeclarationTree) → FitDeclarations ds → Each (IsRead next_declaration declaration_before) ds
  declarations_complete [] fits = tt
  declarations_complete (d ∷ ds) fits = (declaration_complete d fits.0, declarations_complete ds fits.1)

  declaration_longer : (d : DeclarationTree) (rest : List Terminal) → length rest < length (declaration_before d rest)
  declaration_longer (Constant at p initial) rest = omega (arith, typed_longer p (assigned_before initial rest), initial_longer initial (OfSymbol symbol.Semicolon ∷ rest))
  declaration_longer (Function at name parameters result body) rest =
      let behind : List Terminal = block_before body (OfKeyword keyword.End ∷ rest) in
      omega (arith, parameters_longer parameters (OfSymbol symbol.CloseParenthesis ∷ result_before result behind), result_longer result behind, block_longer body (OfKeyword keyword.End ∷ rest))

  pub source_complete : (s : SourceTree) → FitsSource s → source_at (source_terminals s) ≡ Some s
  source_complete s fits =
      let behind : List Terminal = schedule_before s.schedule [] in
      ap (λ r. r >>= λ d. schedule_by d.1 (after_terminal (OfKeyword keyword.Schedule) d.1) >>= λ t. whole_tree (record { declarations = d.0; schedule = t.0 }, t.1))
      (each_complete next_declaration declaration_before declaration_longer s.declarations behind (declarations_complete s.declarations fits) (no_declaration s.schedule))
      ∙ ap (λ r. r >>= λ t. whole_tree (record { declarations = s.declarations; schedule = t.0 }, t.1)) (schedule_complete s.schedule)
