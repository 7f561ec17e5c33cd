-- What reading declarations comes to, by their first terminal.
use Rattle.std.proofs.Common.{◌≡◌, ◌∙◌, refl, sym, ap, ℕ, Bool, true, false, List, ◌∷◌, Some, None}
use Rattle.std.proofs.lemmas.Bool.{false≢true}
use Rattle.std.specs.Option.{is_some}
use Rattle.lexer.specs.declared.keyword.Keyword.{Keyword}
use Rattle.lexer.specs.declared.keyword.Keyword.TheVariants as keyword
use Rattle.lexer.specs.declared.symbol.Symbol.TheVariants as symbol
use Rattle.syntax.specs.Terminals.{Terminal, LeadingKeyword, OfSymbol, keyword_terminal}
use Rattle.syntax.specs.SourceTrees.{DeclarationTree}
use Rattle.syntax.specs.SourceReading.{name_reader, parameters_at, result_by, after_terminal, declaration_by, next_declaration, begins_declaration, where_begins}
use Rattle.parser.specs.declared.declaration.Beginning.{Beginning}
use Rattle.parser.specs.declared.declaration.Beginning.TheVariants as beginning
use Rattle.parser.specs.inside.Declarations.{beginning_of, declared_by, function_at}
use Rattle.parser.proofs.Steps.{bind_bind}

begins_is : (left : List Terminal) (begins : Bool) → begins_declaration left ≡ begins → next_declaration left ≡ where_begins begins (declaration_by left)
begins_is left begins is = ap (λ b. where_begins b (declaration_by left)) is

pub next_found : (left rest : List Terminal) (d : DeclarationTree) → begins_declaration left ≡ true → declaration_by left ≡ Some (d, rest) → next_declaration left ≡ Some (Some (d, rest))
next_found left rest d begins is = begins_is left true begins ∙ ap (where_begins true) is

pub next_fails : (left : List Terminal) → begins_declaration left ≡ true → declaration_by left ≡ None → next_declaration left ≡ Some None
next_fails left begins is = begins_is left true begins ∙ ap (where_begins true) is

pub next_none : (left : List Terminal) → begins_declaration left ≡ false → next_declaration left ≡ None
next_none left begins = begins_is left false begins

function_is : (at : ℕ) (ws : List Terminal) → declaration_by (LeadingKeyword keyword.Func at ∷ ws) ≡ function_at at ws
function_is at ws =
    sym (bind_bind (name_reader ws) _ _ _ (λ n.
    bind_bind (parameters_at n.1) _ _ _ (λ p.
    bind_bind (result_by p.1 (after_terminal (OfSymbol symbol.Arrow) p.1)) _ _ _ (λ r. refl))))

same_beginning : (b c : Beginning) → Some b ≡ Some c → b ≡ c
same_beginning b c is = cc is

-- the declaration that begins with such a keyword
pub declared_is : (terminal : Keyword) (at : ℕ) (b : Beginning) (ws : List Terminal) → beginning_of terminal ≡ Some b
    → declaration_by (keyword_terminal terminal at ∷ ws) ≡ declared_by b at ws
declared_is keyword.Const at b ws is = ap (λ b. declared_by b at ws) (same_beginning beginning.Constant b is)
declared_is keyword.Func at b ws is = function_is at ws ∙ ap (λ b. declared_by b at ws) (same_beginning beginning.Function b is)
declared_is _ at b ws is = absurd (false≢true (ap is_some is))
