-- Sources that declare the function which is run.
use Rattle.std.specs.Prelude.{◌≡◌, ◌⊎◌, ℕ, suc, List, [], ◌∷◌, Option, None, if◌then◌else◌}
use Rattle.std.specs.Str.{bytes_eq}
use Rattle.syntax.specs.Terminals.{Identifier}
use Rattle.syntax.specs.SourceTrees.{ParameterTree, DeclarationTree, Constant, Function}
use Rattle.initializer_types.specs.DeclarationForms.{main_bytes}

-- the name is `main`, and there are neither parameters nor a result
abbrev pub IsMain : Identifier → List ParameterTree → Option ParameterTree → Type 0
IsMain name parameters result = (name.bytes ≡ main_bytes) × (parameters ≡ []) × (result ≡ None)

-- one of the functions is
abbrev pub DeclaresMain : List DeclarationTree → Type 0
DeclaresMain [] = ⊥
DeclaresMain (Constant at p initial ∷ others) = DeclaresMain others
DeclaresMain (Function at name parameters result body ∷ others) = IsMain name parameters result ⊎ DeclaresMain others

-- how many functions have the name
abbrev pub functions_named : List ℕ → List DeclarationTree → ℕ
functions_named name [] = 0
functions_named name (Constant at p initial ∷ others) = functions_named name others
functions_named name (Function at own parameters result body ∷ others) =
    if bytes_eq own.bytes name then suc (functions_named name others) else functions_named name others
