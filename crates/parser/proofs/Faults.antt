-- A fault that is passed on.
use Rattle.std.proofs.Common.{◌≡◌, sym, subst, ℕ, List, Option, None, Err}
use Rattle.parser.specs.declared.syntax_error.SyntaxError.{SyntaxError}
use Rattle.parser.specs.declared.syntax_error.SyntaxError.TheVariants.{Unexpected, NoMemory}
use Rattle.syntax.specs.Terminals.{Terminal}
use Rattle.parser.specs.inside.Readers.{Gives}

pub passed_on : {T U A B : Type 0} (view : T → A) (view' : U → B) (e : SyntaxError) (read : Option (A × List Terminal)) (read' : Option (B × List Terminal))
    → Gives view (Err e) read → (read ≡ None → read' ≡ None) → Gives view' (Err e) read'
passed_on view view' (Unexpected at) read read' gives then = then gives
passed_on view view' NoMemory read read' gives then = tt

pub refused : {T A : Type 0} (view : T → A) (e : SyntaxError) (at : ℕ) (read : Option (A × List Terminal)) → e ≡ Unexpected at → read ≡ None → Gives view (Err e) read
refused view e at read is none = subst (λ d. Gives view (Err d) read) (sym is) none
