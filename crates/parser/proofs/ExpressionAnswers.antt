-- What reading gives is what the grammar says.
use Rattle.std.proofs.Common.{◌≡◌, sym, ◌∙◌, subst, ℕ, List, Option, Some, None, Ok, Err, Result}
use Rattle.syntax.specs.Terminals.{Terminal}
use Rattle.syntax.specs.SourceTrees.{ExpressionTree}
use Rattle.syntax.specs.ExpressionBeginnings.{Begins}
use Rattle.syntax.specs.ExpressionReading.{expression_at}
use Rattle.syntax.proofs.ExpressionsExact.{At}
use Rattle.syntax.proofs.ExpressionReadings.{expressions_sound, expressions_complete}
use Rattle.parser.specs.declared.cursor.Cursor.{Cursor}
use Rattle.parser.specs.declared.syntax_error.SyntaxError.{SyntaxError}
use Rattle.parser.specs.declared.syntax_error.SyntaxError.TheVariants.{Unexpected, NoMemory}
use Rattle.parser.specs.inside.Readers.{Gives, AnswersBegins}

pub answers : (depth : ℕ) (ws : List Terminal) (answer : Result (ExpressionTree × Cursor) SyntaxError)
    → Gives (λ (e : ExpressionTree). e) answer (expression_at depth ws) → AnswersBegins depth ws answer
answers depth ws (Ok x) gives = subst (At (Begins depth) ws) gives (expressions_sound depth ws)
answers depth ws (Err (Unexpected at)) gives = λ tree rest begins.
    let found : ◌≡◌ {A = Option (ExpressionTree × List Terminal)} None (Some (tree, rest)) = sym gives ∙ expressions_complete depth ws tree rest begins in
    cc
answers depth ws (Err NoMemory) gives = tt
