-- Primaries, and signs before them, are read exactly, if the expressions in them are.
use Rattle.std.proofs.Common.{◌≡◌, refl, sym, ◌∙◌, ap, ℕ, zero, suc, ◌<◌, ◌≤◌, arith, length, true, false, List, [], ◌∷◌, ◌++◌, Option, Some, None}
use Rattle.std.proofs.lemmas.List.{append_assoc}
use Rattle.lexer.specs.declared.keyword.Keyword.{Keyword}
use Rattle.lexer.specs.declared.keyword.Keyword.TheVariants as keyword
use Rattle.lexer.specs.declared.symbol.Symbol.TheVariants as symbol
use Rattle.syntax.specs.declared.operators.Prefix.{Prefix}
use Rattle.syntax.specs.Terminals.{Terminal, Name, Number, OfKeyword, OfSymbol, Identifier}
use Rattle.syntax.specs.SourceTrees.{ExpressionTree, UnaryTree, PrimaryTree, Bare, Signed, Literal, Truth, Variable, Entry, Size, Parentheses}
use Rattle.syntax.specs.ExpressionSpelling.{prefix_terminal, expression_terminals, unary_terminals, primary_terminals}
use Rattle.syntax.specs.ExpressionDepth.{expression_depth, primary_depth}
use Rattle.syntax.specs.ExpressionEnds.{EndsExpression, EndsPrimary}
use Rattle.syntax.specs.ExpressionBeginnings.{IsReading}
use Rattle.syntax.specs.Nesting.{◌>>=◌}
use Rattle.syntax.specs.ExpressionReading.{Reader, prefix, truth_of, after_open_bracket, after_close_bracket, after_open_parenthesis, after_close_parenthesis, after_dot, after_size, after_size_call}
use Rattle.syntax.specs.ExpressionReading.{name_begins, primary_by, signs_by, signed_by, unary_by}
use Rattle.syntax.proofs.FirstTerminals.{FrontAt, TerminalAt, prefix_at, prefix_found, bracket_ends, parenthesis_ends}
use Rattle.syntax.proofs.ExpressionsExact.{At, Sound, Complete, then_at}
use Rattle.syntax.proofs.Levels.{UnaryIs}

abbrev pub PrimaryIs : ℕ → List Terminal → PrimaryTree → List Terminal → Type 0
PrimaryIs = IsReading primary_terminals primary_depth EndsPrimary

-- an expression in parentheses or brackets
abbrev pub InnerIs : ℕ → List Terminal → ExpressionTree → List Terminal → Type 0
InnerIs = IsReading expression_terminals (λ e. suc (expression_depth e)) EndsExpression

close_bracket_at : (ws : List Terminal) → TerminalAt (OfSymbol symbol.CloseBracket) ws (after_close_bracket ws)
close_bracket_at (OfSymbol symbol.CloseBracket ∷ rest) = refl
close_bracket_at _ = tt

pub open_bracket_at : (ws : List Terminal) → TerminalAt (OfSymbol symbol.OpenBracket) ws (after_open_bracket ws)
open_bracket_at (OfSymbol symbol.OpenBracket ∷ rest) = refl
open_bracket_at _ = tt

close_parenthesis_at : (ws : List Terminal) → TerminalAt (OfSymbol symbol.CloseParenthesis) ws (after_close_parenthesis ws)
close_parenthesis_at (OfSymbol symbol.CloseParenthesis ∷ rest) = refl
close_parenthesis_at _ = tt

open_parenthesis_at : (ws : List Terminal) → TerminalAt (OfSymbol symbol.OpenParenthesis) ws (after_open_parenthesis ws)
open_parenthesis_at (OfSymbol symbol.OpenParenthesis ∷ rest) = refl
open_parenthesis_at _ = tt

pub dot_at : (ws : List Terminal) → TerminalAt (OfSymbol symbol.Dot) ws (after_dot ws)
dot_at (OfSymbol symbol.Dot ∷ rest) = refl
dot_at _ = tt

size_at : (ws : List Terminal) → TerminalAt (OfKeyword keyword.GetVertexSetSize) ws (after_size ws)
size_at (OfKeyword keyword.GetVertexSetSize ∷ rest) = refl
size_at _ = tt

-- what stands after one terminal that is found
at_terminal : {A : Type 0} (Is : List Terminal → A → List Terminal → Type 0) (w : Terminal) (ws₀ ws : List Terminal) (f : List Terminal → Option (A × List Terminal))
    → (o : Option (List Terminal)) → TerminalAt w ws o → ((after : List Terminal) → ws ≡ w ∷ after → At Is ws₀ (f after)) → At Is ws₀ (o >>= f)
at_terminal Is w ws₀ ws f None front then = tt
at_terminal Is w ws₀ ws f (Some after) front then = then after front

abbrev CallAt : List Terminal → Option (List Terminal) → Type 0
CallAt ws None = Unit {0}
CallAt ws (Some after) = ws ≡ OfKeyword keyword.GetVertexSetSize ∷ OfSymbol symbol.OpenParenthesis ∷ OfSymbol symbol.CloseParenthesis ∷ after

call_by_terminal : (w : Terminal) (ws₀ ws : List Terminal) (f : List Terminal → Option (List Terminal))
    → (o : Option (List Terminal)) → TerminalAt w ws o → ((after : List Terminal) → ws ≡ w ∷ after → CallAt ws₀ (f after)) → CallAt ws₀ (o >>= f)
call_by_terminal w ws₀ ws f None front then = tt
call_by_terminal w ws₀ ws f (Some after) front then = then after front

closes_call : (ws a b : List Terminal) → ws ≡ OfKeyword keyword.GetVertexSetSize ∷ a → a ≡ OfSymbol symbol.OpenParenthesis ∷ b
    → (o : Option (List Terminal)) → TerminalAt (OfSymbol symbol.CloseParenthesis) b o → CallAt ws o
closes_call ws a b is then None front = tt
closes_call ws a b is then (Some after) front =
    is ∙ ap (λ z. OfKeyword keyword.GetVertexSetSize ∷ z) (then ∙ ap (λ z. OfSymbol symbol.OpenParenthesis ∷ z) front)

call_at : (ws : List Terminal) → CallAt ws (after_size_call ws)
call_at ws =
    call_by_terminal (OfKeyword keyword.GetVertexSetSize) ws ws (λ call. after_open_parenthesis call >>= after_close_parenthesis) (after_size ws) (size_at ws)
    (λ a is. call_by_terminal (OfSymbol symbol.OpenParenthesis) ws a after_close_parenthesis (after_open_parenthesis a) (open_parenthesis_at a)
    (λ b then. closes_call ws a b is then (after_close_parenthesis b) (close_parenthesis_at b)))

module _ (depth : ℕ) (e : Reader ExpressionTree) where
  closed : (w : Terminal) (front : List Terminal) (inside : ExpressionTree) (after mid behind : List Terminal)
      → after ≡ expression_terminals inside ++ mid → mid ≡ w ∷ behind
      → front ++ after ≡ (front ++ (expression_terminals inside ++ w ∷ [])) ++ behind
  closed w front inside after mid behind is closes =
      ap (λ z. front ++ z) (is ∙ ap (λ z. expression_terminals inside ++ z) closes ∙ sym (append_assoc (expression_terminals inside) (w ∷ []) behind))
      ∙ sym (append_assoc front (expression_terminals inside ++ w ∷ []) behind)

  size_read : (name : Identifier) (ws rest after : List Terminal) → rest ≡ OfSymbol symbol.Dot ∷ after → (o : Option (List Terminal)) → CallAt after o
      → At (PrimaryIs depth) (Name name ∷ rest) (o >>= λ behind. Some (Size name, behind))
  size_read name ws rest after dot None call = tt
  size_read name ws rest after dot (Some behind) call = record {
    whole = ap (λ z. Name name ∷ z) (dot ∙ ap (λ z. OfSymbol symbol.Dot ∷ z) call);
    within = omega arith;
    ends = tt;
  }

  named_sound : Sound (InnerIs depth) e → (name : Identifier) (rest : List Terminal)
      → (bracket dot : Option (List Terminal)) → TerminalAt (OfSymbol symbol.OpenBracket) rest bracket → TerminalAt (OfSymbol symbol.Dot) rest dot
      → after_open_bracket rest ≡ bracket → after_dot rest ≡ dot
      → At (PrimaryIs depth) (Name name ∷ rest) (name_begins e name rest bracket dot)
  named_sound sound name rest (Some after) dot opens dots is is' =
      then_at (InnerIs depth) (PrimaryIs depth) after (Name name ∷ rest) (λ x. after_close_bracket x.1 >>= λ behind. Some (Entry name x.0, behind)) (e after) (sound after)
      (λ x inside. at_terminal (PrimaryIs depth) (OfSymbol symbol.CloseBracket) (Name name ∷ rest) x.1 (λ behind. Some (Entry name x.0, behind)) (after_close_bracket x.1) (close_bracket_at x.1)
      (λ behind closes. record {
        whole = ap (λ z. Name name ∷ z) opens ∙ closed (OfSymbol symbol.CloseBracket) (Name name ∷ OfSymbol symbol.OpenBracket ∷ []) x.0 after x.1 behind inside.whole closes;
        within = inside.within;
        ends = tt;
      }))
  named_sound sound name rest None (Some after) opens dots is is' = size_read name rest rest after dots (after_size_call after) (call_at after)
  named_sound sound name rest None None opens dots is is' = record { whole = refl; within = omega arith; ends = (is, is') }

  truth_read : (terminal : Keyword) (rest : List Terminal) → At (PrimaryIs depth) (OfKeyword terminal ∷ rest) (truth_of terminal >>= λ b. Some (Truth b, rest))
  truth_read keyword.True rest = record { whole = refl; within = omega arith; ends = tt }
  truth_read keyword.False rest = record { whole = refl; within = omega arith; ends = tt }
  truth_read _ rest = tt

  pub primary_sound : Sound (InnerIs depth) e → Sound (PrimaryIs depth) (primary_by e)
  primary_sound sound (Number n ∷ rest) = record { whole = refl; within = omega arith; ends = tt }
  primary_sound sound (Name name ∷ rest) = named_sound sound name rest (after_open_bracket rest) (after_dot rest) (open_bracket_at rest) (dot_at rest) refl refl
  primary_sound sound (OfKeyword terminal ∷ rest) = truth_read terminal rest
  primary_sound sound (OfSymbol symbol.OpenParenthesis ∷ rest) =
      then_at (InnerIs depth) (PrimaryIs depth) rest (OfSymbol symbol.OpenParenthesis ∷ rest) (λ x. after_close_parenthesis x.1 >>= λ behind. Some (Parentheses x.0, behind)) (e rest) (sound rest)
      (λ x inside. at_terminal (PrimaryIs depth) (OfSymbol symbol.CloseParenthesis) (OfSymbol symbol.OpenParenthesis ∷ rest) x.1 (λ behind. Some (Parentheses x.0, behind))
      (after_close_parenthesis x.1) (close_parenthesis_at x.1)
      (λ behind closes. record {
        whole = closed (OfSymbol symbol.CloseParenthesis) (OfSymbol symbol.OpenParenthesis ∷ []) x.0 rest x.1 behind inside.whole closes;
        within = inside.within;
        ends = tt;
      }))
  primary_sound sound _ = tt

  -- what is in brackets, with what stands around it
  inside_is : (w : Terminal) (inside : ExpressionTree) (rest : List Terminal) → suc (expression_depth inside) ≤ depth → EndsExpression inside (w ∷ rest)
      → InnerIs depth ((expression_terminals inside ++ w ∷ []) ++ rest) inside (w ∷ rest)
  inside_is w inside rest within ends = record { whole = append_assoc (expression_terminals inside) (w ∷ []) rest; within = within; ends = ends }

  pub primary_complete : Complete (InnerIs depth) e → Complete (PrimaryIs depth) (primary_by e)
  primary_complete complete ws (Literal n) rest is = ap (primary_by e) is.whole
  primary_complete complete ws (Truth true) rest is = ap (primary_by e) is.whole
  primary_complete complete ws (Truth false) rest is = ap (primary_by e) is.whole
  primary_complete complete ws (Variable name) rest is =
      ap (primary_by e) is.whole
      ∙ ap (λ b. name_begins e name rest b (after_dot rest)) is.ends.0
      ∙ ap (name_begins e name rest None) is.ends.1
  primary_complete complete ws (Entry name index) rest is =
      ap (primary_by e) is.whole
      ∙ ap (λ r. r >>= λ x. after_close_bracket x.1 >>= λ behind. Some (Entry name x.0, behind))
      (complete ((expression_terminals index ++ OfSymbol symbol.CloseBracket ∷ []) ++ rest) index (OfSymbol symbol.CloseBracket ∷ rest)
      (inside_is (OfSymbol symbol.CloseBracket) index rest is.within (bracket_ends index rest)))
  primary_complete complete ws (Size name) rest is = ap (primary_by e) is.whole
  primary_complete complete ws (Parentheses inside) rest is =
      ap (primary_by e) is.whole
      ∙ ap (λ r. r >>= λ x. after_close_parenthesis x.1 >>= λ behind. Some (Parentheses x.0, behind))
      (complete ((expression_terminals inside ++ OfSymbol symbol.CloseParenthesis ∷ []) ++ rest) inside (OfSymbol symbol.CloseParenthesis ∷ rest)
      (inside_is (OfSymbol symbol.CloseParenthesis) inside rest is.within (parenthesis_ends inside rest)))

no_prefix : (p : PrimaryTree) (rest : List Terminal) → prefix (primary_terminals p ++ rest) ≡ None
no_prefix (Literal n) rest = refl
no_prefix (Truth true) rest = refl
no_prefix (Truth false) rest = refl
no_prefix (Variable name) rest = refl
no_prefix (Entry name index) rest = refl
no_prefix (Size name) rest = refl
no_prefix (Parentheses inside) rest = refl

module _ (depth : ℕ) (p : Reader PrimaryTree) where
  signed_sound : Sound (PrimaryIs depth) p → (others : Reader UnaryTree) → Sound (UnaryIs depth) others
      → (ws : List Terminal) (m : Option (Prefix × List Terminal)) → FrontAt prefix_terminal ws m → At (UnaryIs depth) ws (signed_by p others ws m)
  signed_sound sound others again ws None front =
      then_at (PrimaryIs depth) (UnaryIs depth) ws ws (λ x. Some (Bare x.0, x.1)) (p ws) (sound ws)
      (λ x is. record { whole = is.whole; within = is.within; ends = is.ends })
  signed_sound sound others again ws (Some sign) front =
      then_at (UnaryIs depth) (UnaryIs depth) sign.1 ws (λ x. Some (Signed sign.0 x.0, x.1)) (others sign.1) (again sign.1)
      (λ x is. record { whole = front ∙ ap (λ z. prefix_terminal sign.0 ∷ z) is.whole; within = is.within; ends = is.ends })

  signs_sound : Sound (PrimaryIs depth) p → (n : ℕ) → Sound (UnaryIs depth) (signs_by p n)
  signs_sound sound zero ws = tt
  signs_sound sound (suc n) ws = signed_sound sound (signs_by p n) (signs_sound sound n) ws (prefix ws) (prefix_at ws)

  pub unary_sound : Sound (PrimaryIs depth) p → Sound (UnaryIs depth) (unary_by p)
  unary_sound sound ws = signs_sound sound (suc (length ws)) ws

  signs_complete : Complete (PrimaryIs depth) p → (u : UnaryTree) (ws rest : List Terminal) → UnaryIs depth ws u rest → (n : ℕ) → length ws < n
      → ◌≡◌ {A = Option (UnaryTree × List Terminal)} (signs_by p n ws) (Some (u, rest))
  signs_complete complete (Bare x) ws rest is zero enough = absurd (omega arith)
  signs_complete complete (Bare x) ws rest is (suc n) enough =
      ap (signed_by p (signs_by p n) ws) (ap prefix is.whole ∙ no_prefix x rest)
      ∙ ap (λ r. r >>= λ y. Some (Bare y.0, y.1)) (complete ws x rest (record { whole = is.whole; within = is.within; ends = is.ends }))
  signs_complete complete (Signed sign u) ws rest is zero enough = absurd (omega arith)
  signs_complete complete (Signed sign u) ws rest is (suc n) enough =
      let ws' = unary_terminals u ++ rest in
      let shorter : length ws ≡ length (prefix_terminal sign ∷ ws') = ap length is.whole in
      ap (signed_by p (signs_by p n) ws) (ap prefix is.whole ∙ prefix_found sign ws')
      ∙ ap (λ r. r >>= λ y. Some (Signed sign y.0, y.1))
      (signs_complete complete u ws' rest (record { whole = refl; within = is.within; ends = is.ends }) n (omega arith))

  pub unary_complete : Complete (PrimaryIs depth) p → Complete (UnaryIs depth) (unary_by p)
  unary_complete complete ws u rest is = signs_complete complete u ws rest is (suc (length ws)) (omega arith)
