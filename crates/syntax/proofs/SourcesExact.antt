-- Sources are read exactly, and in one way.
use Rattle.std.proofs.Common.{◌≡◌, refl, sym, ◌∙◌, ap, subst, false, List, [], ◌∷◌, ◌++◌, Some}
use Rattle.lexer.specs.declared.keyword.Keyword.TheVariants as keyword
use Rattle.lexer.specs.declared.symbol.Symbol.TheVariants as symbol
use Rattle.syntax.specs.Terminals.{Terminal, OfKeyword, OfSymbol}
use Rattle.syntax.specs.SourceTrees.{ExpressionTree, SourceTree}
use Rattle.syntax.specs.ExpressionSpelling.{expression_terminals}
use Rattle.syntax.specs.ExpressionEnds.{IsExpressionEnd}
use Rattle.syntax.specs.ExpressionBeginnings.{Begins}
use Rattle.syntax.proofs.ExpressionsExact.{At}
use Rattle.syntax.proofs.FirstTerminals.{ends_expression}
use Rattle.syntax.proofs.ExpressionReadings.{expressions_sound, expressions_complete}
use Rattle.syntax.specs.SourceSpelling.{source_terminals}
use Rattle.syntax.specs.Nesting.{limit, StaysWithin}
use Rattle.syntax.specs.inside.Fits.{Fits}
use Rattle.syntax.specs.SourceReading.{expression, source_at}
use Rattle.syntax.proofs.Sound.{IsSound}
use Rattle.syntax.proofs.Actions.{goes_on}
use Rattle.syntax.proofs.Sources.{source_complete}
use Rattle.syntax.proofs.SoundActions.{source_sound}
use Rattle.syntax.proofs.NestsActions.{source_fits}

ends : IsExpressionEnd []
ends = record { bracket = refl; dot = refl; multiplies = refl; adds = refl; relates = refl; conjoins = refl; disjoins = refl }

end_where : (rest : List Terminal) → goes_on rest ≡ false → IsExpressionEnd rest
end_where [] is = ends
end_where (OfSymbol symbol.Plus ∷ ws) is = cc is
end_where (OfSymbol symbol.Minus ∷ ws) is = cc is
end_where (OfSymbol symbol.Star ∷ ws) is = cc is
end_where (OfSymbol symbol.Slash ∷ ws) is = cc is
end_where (OfSymbol symbol.Percent ∷ ws) is = cc is
end_where (OfSymbol symbol.Equal ∷ ws) is = cc is
end_where (OfSymbol symbol.NotEqual ∷ ws) is = cc is
end_where (OfSymbol symbol.Less ∷ ws) is = cc is
end_where (OfSymbol symbol.LessOrEqual ∷ ws) is = cc is
end_where (OfSymbol symbol.Greater ∷ ws) is = cc is
end_where (OfSymbol symbol.GreaterOrEqual ∷ ws) is = cc is
end_where (OfSymbol symbol.OpenBracket ∷ ws) is = cc is
end_where (OfSymbol symbol.Dot ∷ ws) is = cc is
end_where (OfKeyword keyword.And ∷ ws) is = cc is
end_where (OfKeyword keyword.Or ∷ ws) is = cc is
end_where _ is = record { bracket = refl; dot = refl; multiplies = refl; adds = refl; relates = refl; conjoins = refl; disjoins = refl }

complete : (e : ExpressionTree) (rest : List Terminal) → Fits e → goes_on rest ≡ false → expression (expression_terminals e ++ rest) ≡ Some (e, rest)
unfolding expression
complete e rest fits is =
    expressions_complete limit (expression_terminals e ++ rest) e rest (record { whole = refl; within = fits; ends = ends_expression e rest (end_where rest is) })

sound : IsSound expression (λ e rest. expression_terminals e ++ rest)
unfolding expression
sound ws e rest is = let begins : Begins limit ws e rest = subst (At (Begins limit) ws) is (expressions_sound limit ws) in begins.whole

pub sources_sound : (terminals : List Terminal) (source : SourceTree) → source_at terminals ≡ Some source → terminals ≡ source_terminals source
sources_sound = source_sound sound

pub sources_complete : (source : SourceTree) → StaysWithin limit 0 (source_terminals source) → source_at (source_terminals source) ≡ Some source
sources_complete source within = source_complete complete source (source_fits source within)

pub one_source : (source other : SourceTree) → StaysWithin limit 0 (source_terminals source) → source_terminals source ≡ source_terminals other → source ≡ other
one_source source other within same =
    let read : source_at (source_terminals source) ≡ Some source = sources_complete source within in
    let read_other : source_at (source_terminals other) ≡ Some other = sources_complete other (subst (StaysWithin limit 0) same within) in
    let e : Some source ≡ Some other = sym read ∙ ap source_at same ∙ read_other in
    cc
