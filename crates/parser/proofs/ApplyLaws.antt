-- An apply is read in steps, and at once.
use Rattle.std.proofs.Common.{◌≡◌, refl, [], ◌∷◌, List, Some}
use Rattle.lexer.specs.declared.keyword.Keyword.TheVariants as keyword
use Rattle.lexer.specs.declared.symbol.Symbol.TheVariants as symbol
use Rattle.syntax.specs.Terminals.{Terminal, Identifier, OfKeyword, OfSymbol}
use Rattle.syntax.specs.SourceTrees.{Apply}
use Rattle.syntax.specs.SourceReading.{after_terminals, applied_at, argument_at, ends_at}
use Rattle.parser.specs.inside.Fronts.{applied_by}
use Rattle.parser.proofs.Steps.{bind_bind, bind_same}

pub applied_is : (target : Identifier) (ws : List Terminal) → applied_by target ws ≡ applied_at target ws
applied_is target ws =
    bind_same (ends_at ws) _ _ (λ e.
    bind_bind (after_terminals (OfSymbol symbol.Dot ∷ OfKeyword keyword.Apply ∷ []) e.1) _ _ _ (λ a.
    bind_bind (argument_at a) _ _ _ (λ f.
    bind_bind (after_terminals (OfSymbol symbol.Semicolon ∷ []) f.1) _ _ (λ rest. Some (Apply target e.0 f.0, rest)) (λ rest. refl))))
