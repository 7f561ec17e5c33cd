-- What the readers answer.
use Rattle.std.specs.Prelude.{List, ◌≡◌, Option, option_map, ◌≢◌, ◌∷◌, MatchOption, Some, None, Result, Ok, Err, ℕ}
use Rattle.lexer.specs.declared.token.Token.{Token}
use Rattle.lexer.specs.Tokens.{slice_of}
use Rattle.syntax.specs.Terminals.{Terminal, terminals_of, terminal_of, Name, Identifier}
use Rattle.syntax.specs.SourceTrees.{ExpressionTree}
use Rattle.syntax.specs.ExpressionBeginnings.{Begins}
use Rattle.parser.specs.declared.cursor.Cursor.{Cursor}
use Rattle.parser.specs.declared.syntax_error.SyntaxError.{SyntaxError}
use Rattle.parser.specs.declared.syntax_error.SyntaxError.TheVariants.{Unexpected, NoMemory}

-- the terminals that are left
abbrev pub terminals : Cursor → List Terminal
terminals cursor = terminals_of cursor.text.now cursor.tokens.now

-- the terminal that a token is where the cursor stands
abbrev pub terminal_at : Cursor → Token → Terminal
terminal_at cursor token = terminal_of token.kind (slice_of cursor.text.now token.span) token.span.start

-- the value found at the front and the terminals after it
abbrev pub Finds : {A : Type 0} → Option (A × Cursor) → Option (A × List Terminal) → Type 0
Finds found wanted = option_map (λ x. (x.0, terminals x.1)) found ≡ wanted

-- the terminals after this one, if it is the first
abbrev pub IsAfter : Terminal → List Terminal → Option Cursor → Type 0
IsAfter terminal ws found = MatchOption found
    ((rest : List Terminal) → ws ≢ terminal ∷ rest)
    (λ after. ws ≡ terminal ∷ terminals after)

-- what reading gives: a tree, as view sees it, and the terminals after it, or none; nothing is said if memory runs out
abbrev pub Gives : {T A : Type 0} → (T → A) → Result (T × Cursor) SyntaxError → Option (A × List Terminal) → Type 0
Gives view (Ok x) read = read ≡ Some (view x.0, terminals x.1)
Gives view (Err (Unexpected left)) read = read ≡ None
Gives view (Err NoMemory) read = Unit {0}

-- the terminals after this one, or that it is not the first
abbrev pub IsExpected : Terminal → List Terminal → Result Cursor SyntaxError → Type 0
IsExpected terminal ws (Ok after) = ws ≡ terminal ∷ terminals after
IsExpected terminal ws (Err (Unexpected left)) = (rest : List Terminal) → ws ≢ terminal ∷ rest
IsExpected terminal ws (Err NoMemory) = ⊥

-- the name at the front, and the terminals after it, or that there is none; nothing is said if memory runs out
abbrev pub IsName : List Terminal → Result (Identifier × Cursor) SyntaxError → Type 0
IsName ws (Ok x) = ws ≡ Name x.0 ∷ terminals x.1
IsName ws (Err (Unexpected left)) = (name : Identifier) (rest : List Terminal) → ws ≢ Name name ∷ rest
IsName ws (Err NoMemory) = Unit {0}

-- the terminals after a piece of the text, or that it is not there
abbrev pub Passes : Result Cursor SyntaxError → Option (List Terminal) → Type 0
Passes (Ok behind) read = read ≡ Some (terminals behind)
Passes (Err (Unexpected left)) read = read ≡ None
Passes (Err NoMemory) read = ⊥

-- the answer is the expression with which the terminals begin, and the terminals after it, or that they begin with none so deep;
-- nothing is said if memory runs out
abbrev pub AnswersBegins : ℕ → List Terminal → Result (ExpressionTree × Cursor) SyntaxError → Type 0
AnswersBegins depth ws (Ok x) = Begins depth ws x.0 (terminals x.1)
AnswersBegins depth ws (Err (Unexpected left)) = (tree : ExpressionTree) (rest : List Terminal) → Begins depth ws tree rest → ⊥
AnswersBegins depth ws (Err NoMemory) = Unit {0}
