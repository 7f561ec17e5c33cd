-- What is spelled is read: simple classes.
use Rattle.std.proofs.Common.{◌≡◌, refl, ◌∙◌, ap, arith, List, [], ◌∷◌, ◌++◌, Option, Some, None, ℕ, zero, suc, ◌<◌, ◌≤◌, ◌+◌, length}
use Rattle.lexer.specs.declared.symbol.Symbol.TheVariants as symbol
use Rattle.syntax.specs.Terminals.{Terminal, Text, LeadingKeyword, OfSymbol}
use Rattle.syntax.specs.Nesting.{◌>>=◌}
use Rattle.syntax.specs.ExpressionReading.{links_by, linked}
use Rattle.syntax.specs.declared.declaration.DeclaredType.{DeclaredType}
use Rattle.syntax.specs.declared.declaration.DeclaredType.TheVariants as type
use Rattle.apply_options.specs.declared.setting.Setting.{Setting}
use Rattle.apply_options.specs.declared.setting.Setting.TheVariants as setting
use Rattle.syntax.specs.SourceTrees.{ParameterTree, CallTree, ChainTree}
use Rattle.syntax.specs.SourceSpelling.{type_terminals, typed_before, each_before, next_parameter_before, next_text_before, call_before, next_call_before, chain_before, parameters_before}
use Rattle.syntax.specs.SourceSpelling.{result_before, setting_keyword}
use Rattle.syntax.specs.SourceReading.{type_at, typed_at, each_at, next_parameter, parameters_at, next_text, call_at, next_call, next_chain, closed_by}

type_complete : (t : DeclaredType) (rest : List Terminal) → type_at (type_terminals t ++ rest) ≡ Some (t, rest)
type_complete type.Int rest = refl
type_complete _ rest = refl

pub typed_complete : (p : ParameterTree) (rest : List Terminal) → typed_at (typed_before p rest) ≡ Some (p, rest)
typed_complete p rest = ap (λ t. t >>= λ x. Some (record { name = p.name; declared = x.0 }, x.1)) (type_complete p.declared rest)

-- a fact of each of a list
abbrev pub Each : {A : Type 0} → (A → Type 0) → List A → Type 0
Each fact [] = Unit {0}
Each fact (x ∷ xs) = fact x × Each fact xs

pub every : {A : Type 0} {fact : A → Type 0} → ((x : A) → fact x) → (xs : List A) → Each fact xs
every all [] = tt
every all (x ∷ xs) = (all x, every all xs)

-- as many as follow one another
module _ {A : Type 0} (next : List Terminal → Option (Option (A × List Terminal))) (before : A → List Terminal → List Terminal) where
  -- the tree is read where it is spelled
  abbrev pub IsRead : A → Type 0
  IsRead x = (rest : List Terminal) → next (before x rest) ≡ Some (Some (x, rest))

  links_complete : (xs : List A) (rest : List Terminal) → Each IsRead xs → next rest ≡ None → (fuel : ℕ) → length xs < fuel
      → links_by next fuel (each_before before xs rest) ≡ Some (xs, rest)
  links_complete xs rest read ends zero enough = absurd (omega arith)
  links_complete [] rest read ends (suc fuel) enough = ap (λ r. linked next (links_by next fuel) rest r) ends
  links_complete (x ∷ xs) rest read ends (suc fuel) enough =
      ap (λ r. linked next (links_by next fuel) (each_before before (x ∷ xs) rest) r) (read.0 (each_before before xs rest))
      ∙ ap (λ r. r >>= λ y. Some (x ∷ y.0, y.1)) (links_complete xs rest read.1 ends fuel (omega arith))

  pub longer : ((x : A) (rest : List Terminal) → length rest < length (before x rest))
      → (xs : List A) (rest : List Terminal) → length xs + length rest ≤ length (each_before before xs rest)
  longer grows [] rest = omega arith
  longer grows (x ∷ xs) rest = omega (arith, grows x (each_before before xs rest), longer grows xs rest)

  pub each_complete : ((x : A) (rest : List Terminal) → length rest < length (before x rest))
      → (xs : List A) (rest : List Terminal) → Each IsRead xs → next rest ≡ None → each_at next (each_before before xs rest) ≡ Some (xs, rest)
  each_complete grows xs rest read ends =
      links_complete xs rest read ends (suc (length (each_before before xs rest))) (omega (arith, longer grows xs rest))

next_parameter_complete : (p : ParameterTree) (rest : List Terminal) → next_parameter (next_parameter_before p rest) ≡ Some (Some (p, rest))
next_parameter_complete p rest = ap Some (typed_complete p rest)

next_text_complete : (t : List ℕ) (rest : List Terminal) → next_text (next_text_before t rest) ≡ Some (Some (t, rest))
next_text_complete t rest = refl

pub type_terminals-longer : (t : DeclaredType) (rest : List Terminal) → length rest < length (type_terminals t ++ rest)
type_terminals-longer type.Int rest = omega arith
type_terminals-longer _ rest = omega arith

next_parameter_longer : (p : ParameterTree) (rest : List Terminal) → length rest < length (next_parameter_before p rest)
next_parameter_longer p rest = omega (arith, type_terminals-longer p.declared rest)

pub parameters_longer : (ps : List ParameterTree) (rest : List Terminal) → length rest ≤ length (parameters_before ps rest)
parameters_longer [] rest = omega arith
parameters_longer (p ∷ others) rest =
    omega (
      arith,
      type_terminals-longer p.declared (each_before next_parameter_before others rest),
      longer next_parameter next_parameter_before next_parameter_longer others rest,
    )

pub result_longer : (result : Option ParameterTree) (rest : List Terminal) → length rest ≤ length (result_before result rest)
result_longer None rest = omega arith
result_longer (Some p) rest = omega (arith, type_terminals-longer p.declared rest)

pub parameters_complete : (ps : List ParameterTree) (rest : List Terminal)
    → parameters_at (OfSymbol symbol.OpenParenthesis ∷ parameters_before ps (OfSymbol symbol.CloseParenthesis ∷ rest)) ≡ Some (ps, rest)
parameters_complete [] rest = refl
parameters_complete (p ∷ others) rest =
    ap (λ r. r >>= λ x. each_at next_parameter x.1 >>= λ more. closed_by (OfSymbol symbol.CloseParenthesis ∷ []) (x.0 ∷ more.0, more.1))
    (typed_complete p (each_before next_parameter_before others (OfSymbol symbol.CloseParenthesis ∷ rest)))
    ∙ ap (λ r. r >>= λ more. closed_by (OfSymbol symbol.CloseParenthesis ∷ []) (p ∷ more.0, more.1))
    (each_complete next_parameter next_parameter_before next_parameter_longer others (OfSymbol symbol.CloseParenthesis ∷ rest) (every next_parameter_complete others) refl)

-- the first terminals of a call
setting_step : (setting : Setting) (at : ℕ) (first : List ℕ) (rest : List Terminal)
    → call_at (LeadingKeyword (setting_keyword setting) at ∷ OfSymbol symbol.OpenParenthesis ∷ Text first ∷ rest)
    ≡ (each_at next_text rest >>= λ more. closed_by (OfSymbol symbol.CloseParenthesis ∷ []) (record { at = at; setting = setting; first = first; more = more.0 }, more.1))
setting_step setting.Direction at first rest = refl
setting_step _ at first rest = refl

pub call_complete : (call : CallTree) (rest : List Terminal) → call_at (call_before call rest) ≡ Some (call, rest)
call_complete call rest =
    setting_step call.setting call.at call.first (each_before next_text_before call.more (OfSymbol symbol.CloseParenthesis ∷ rest))
    ∙ ap (λ r. r >>= λ more. closed_by (OfSymbol symbol.CloseParenthesis ∷ []) (record { at = call.at; setting = call.setting; first = call.first; more = more.0 }, more.1))
    (each_complete next_text next_text_before (λ t r. omega arith) call.more (OfSymbol symbol.CloseParenthesis ∷ rest)
    (every next_text_complete call.more) refl)

call_longer : (call : CallTree) (rest : List Terminal) → length rest < length (next_call_before call rest)
call_longer call rest = omega (arith, longer next_text next_text_before (λ t q. omega arith) call.more (OfSymbol symbol.CloseParenthesis ∷ rest))

next_call_complete : (call : CallTree) (rest : List Terminal) → next_call (next_call_before call rest) ≡ Some (Some (call, rest))
next_call_complete call rest = ap Some (call_complete call rest)

pub next_chain_complete : (chain : ChainTree) (rest : List Terminal) → next_chain (chain_before chain rest) ≡ Some (Some (chain, rest))
next_chain_complete chain rest =
    ap (λ r. Some (r >>= λ c. each_at next_call c.1 >>= λ more. closed_by (OfSymbol symbol.Semicolon ∷ []) (record { first = c.0; more = more.0 }, more.1)))
    (call_complete chain.first (each_before next_call_before chain.more (OfSymbol symbol.Semicolon ∷ rest)))
    ∙ ap (λ r. Some (r >>= λ more. closed_by (OfSymbol symbol.Semicolon ∷ []) (record { first = chain.first; more = more.0 }, more.1)))
    (each_complete next_call next_call_before call_longer chain.more (OfSymbol symbol.Semicolon ∷ rest) (every next_call_complete chain.more) refl)

pub chain_longer : (chain : ChainTree) (rest : List Terminal) → length rest < length (chain_before chain rest)
chain_longer chain rest =
    let behind : List Terminal = OfSymbol symbol.Semicolon ∷ rest in
    omega (arith, call_longer chain.first (each_before next_call_before chain.more behind), longer next_call next_call_before call_longer chain.more behind)
