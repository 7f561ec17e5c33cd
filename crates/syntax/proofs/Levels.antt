-- Each level of the grammar is read exactly, if the level below it is.
use Rattle.std.proofs.Common.{◌≡◌, refl, sym, ◌∙◌, ap, subst, ℕ, ◌<◌, ◌≤◌, max, arith, length, length-append, List, ◌∷◌, ◌++◌, Option, Some, None}
use Rattle.lexer.specs.declared.keyword.Keyword.TheVariants as keyword
use Rattle.syntax.specs.declared.operators.Addition.{Addition}
use Rattle.syntax.specs.declared.operators.Multiplication.{Multiplication}
use Rattle.syntax.specs.declared.operators.Relation.{Relation}
use Rattle.syntax.specs.Terminals.{Terminal, OfKeyword}
use Rattle.syntax.specs.SourceTrees.{ExpressionTree, ConjunctionTree, ComparisonTree, SumTree, TermTree, UnaryTree, LastConjunction, ConjunctionThen, LastComparison, ComparisonThen, OneSum, TwoSums}
use Rattle.syntax.specs.SourceTrees.{LastTerm, TermThen, LastUnary, UnaryThen}
use Rattle.syntax.specs.ExpressionSpelling.{addition_terminal, multiplication_terminal, relation_terminal, expression_terminals, conjunction_terminals, comparison_terminals, sum_terminals}
use Rattle.syntax.specs.ExpressionSpelling.{term_terminals, unary_terminals}
use Rattle.syntax.specs.ExpressionDepth.{expression_depth, conjunction_depth, comparison_depth, sum_depth, term_depth, unary_depth}
use Rattle.syntax.specs.ExpressionEnds.{EndsExpression, EndsConjunction, EndsComparison, EndsSum, EndsTerm, EndsUnary}
use Rattle.syntax.specs.ExpressionBeginnings.{IsReading}
use Rattle.syntax.specs.ExpressionViews.{term_from, sum_from, conjunction_from, expression_from}
use Rattle.syntax.specs.Nesting.{◌>>=◌}
use Rattle.syntax.specs.ExpressionReading.{Reader, addition, multiplication, relation, after_or, after_and, operand_by, after_by, term_by, sum_by, compared_by, comparison_by, conjunction_by}
use Rattle.syntax.specs.ExpressionReading.{expression_by}
use Rattle.syntax.proofs.Loops.{operand_found, after_found}
use Rattle.syntax.proofs.FirstTerminals.{FrontAt, TerminalAt, addition_at, multiplication_at, relation_at, or_at, and_at, addition_found, multiplication_found, relation_found, multiplication_ends}
use Rattle.syntax.proofs.FirstTerminals.{addition_ends, relation_ends, and_ends, or_ends, joined, parted}
use Rattle.syntax.proofs.ExpressionsExact.{At, Sound, Complete, then_at, Lasts, Steps, chain_sound, Parts, last_part, more_parts, parts_read}

-- what is read of each level, at most so deep
abbrev pub UnaryIs : ℕ → List Terminal → UnaryTree → List Terminal → Type 0
UnaryIs = IsReading unary_terminals unary_depth EndsUnary

abbrev pub TermIs : ℕ → List Terminal → TermTree → List Terminal → Type 0
TermIs = IsReading term_terminals term_depth EndsTerm

abbrev pub SumIs : ℕ → List Terminal → SumTree → List Terminal → Type 0
SumIs = IsReading sum_terminals sum_depth EndsSum

abbrev pub ComparisonIs : ℕ → List Terminal → ComparisonTree → List Terminal → Type 0
ComparisonIs = IsReading comparison_terminals comparison_depth EndsComparison

abbrev pub ConjunctionIs : ℕ → List Terminal → ConjunctionTree → List Terminal → Type 0
ConjunctionIs = IsReading conjunction_terminals conjunction_depth EndsConjunction

abbrev pub ExpressionIs : ℕ → List Terminal → ExpressionTree → List Terminal → Type 0
ExpressionIs = IsReading expression_terminals expression_depth EndsExpression

-- a link that is an operator and its operand
module _ {A O : Type 0} (Is : List Terminal → A → List Terminal → Type 0) (item : Reader A) (terminal : O → Terminal) where
  abbrev pub OperandAt : List Terminal → Option (Option ((O × A) × List Terminal)) → Type 0
  OperandAt ws None = Unit {0}
  OperandAt ws (Some None) = Unit {0}
  OperandAt ws (Some (Some y)) = (after : List Terminal) × (ws ≡ terminal y.0.0 ∷ after) × Is after y.0.1 y.1

  operand_is : (ws : List Terminal) (o : O × List Terminal) → ws ≡ terminal o.0 ∷ o.1 → (r : Option (A × List Terminal)) → At Is o.1 r
      → OperandAt ws (Some (r >>= λ x. Some ((o.0, x.0), x.1)))
  operand_is ws o is None reads = tt
  operand_is ws o is (Some x) reads = (o.1, is, reads)

  pub operand_at : Sound Is item → (ws : List Terminal) (m : Option (O × List Terminal)) → FrontAt terminal ws m → OperandAt ws (operand_by item m)
  operand_at sound ws None is = tt
  operand_at sound ws (Some o) is = operand_is ws o is (item o.1) (sound o.1)

-- a link that is the operand after a terminal
module _ {A : Type 0} (Is : List Terminal → A → List Terminal → Type 0) (item : Reader A) (terminal : Terminal) where
  abbrev pub BehindAt : List Terminal → Option (Option (A × List Terminal)) → Type 0
  BehindAt ws None = Unit {0}
  BehindAt ws (Some None) = Unit {0}
  BehindAt ws (Some (Some y)) = (after : List Terminal) × (ws ≡ terminal ∷ after) × Is after y.0 y.1

  behind_is : (ws after : List Terminal) → ws ≡ terminal ∷ after → (r : Option (A × List Terminal)) → At Is after r → BehindAt ws (Some r)
  behind_is ws after is None reads = tt
  behind_is ws after is (Some x) reads = (after, is, reads)

  pub behind_at : Sound Is item → (ws : List Terminal) (m : Option (List Terminal)) → TerminalAt terminal ws m → BehindAt ws (after_by item m)
  behind_at sound ws None is = tt
  behind_at sound ws (Some after) is = behind_is ws after is (item after) (sound after)

-- the rest is no longer than the whole
pub rest_within : (ws front rest : List Terminal) → ws ≡ front ++ rest → length rest ≤ length ws
rest_within ws front rest whole = omega (arith, ap length whole, length-append front rest)

-- nor is what is after one terminal more
pub behind_within : (w : Terminal) (ws : List Terminal) → length ws < length (w ∷ ws)
behind_within w ws = omega arith

module _ (depth : ℕ) (u : Reader UnaryTree) where
  abbrev unary_link : List Terminal → Option (Option ((Multiplication × UnaryTree) × List Terminal))
  unary_link ws = operand_by u (multiplication ws)

  no_multiplication : (m : Option (Multiplication × List Terminal)) → operand_by u m ≡ None → m ≡ None
  no_multiplication None is = refl
  no_multiplication (Some o) is = cc

  term_lasts : Lasts (UnaryIs depth) (TermIs depth) u unary_link term_from
  term_lasts ws₀ a ws is none = record { whole = is.whole; within = is.within; ends = (is.ends, no_multiplication (multiplication ws) none) }

  term_steps : Sound (UnaryIs depth) u → Steps (UnaryIs depth) (TermIs depth) u unary_link term_from
  term_steps sound ws₀ a ws x rest is linked =
      let found = subst (OperandAt (UnaryIs depth) u multiplication_terminal ws) linked (operand_at (UnaryIs depth) u multiplication_terminal sound ws (multiplication ws) (multiplication_at ws)) in
      record {
        operand = x.1;
        terminals = found.0;
        is = found.2;
        lift = λ xs end others. record {
          whole = joined ws₀ (unary_terminals a) found.0 (term_terminals (term_from x.1 xs)) end (multiplication_terminal x.0) ws is.whole found.1 others.whole;
          within = let h : unary_depth a ≤ depth = is.within in let g : term_depth (term_from x.1 xs) ≤ depth = others.within in omega arith;
          ends = others.ends;
        };
      }

  pub term_sound : Sound (UnaryIs depth) u → Sound (TermIs depth) (term_by u)
  term_sound sound = chain_sound (UnaryIs depth) (TermIs depth) u unary_link term_from term_lasts (term_steps sound) sound

  term_parts : Complete (UnaryIs depth) u → (t : TermTree) (ws rest : List Terminal) → TermIs depth ws t rest
      → Parts (UnaryIs depth) (TermIs depth) u unary_link term_from ws t rest
  term_parts complete (LastUnary a) ws rest is =
      last_part (UnaryIs depth) (TermIs depth) u unary_link term_from ws a rest
      (complete ws a rest (record { whole = is.whole; within = is.within; ends = is.ends.0 }))
      (rest_within ws (unary_terminals a) rest is.whole)
      (ap (operand_by u) is.ends.1)
  term_parts complete (UnaryThen a o others) ws rest is =
      let ws' = term_terminals others ++ rest in
      let mid = multiplication_terminal o ∷ ws' in
      let h : max (unary_depth a) (term_depth others) ≤ depth = is.within in
      let whole = parted ws (unary_terminals a) (term_terminals others) rest (multiplication_terminal o) is.whole in
      more_parts (UnaryIs depth) (TermIs depth) u unary_link term_from ws a mid ws' others rest (λ b. (o, b)) (UnaryThen a o)
      (complete ws a mid (record { whole = whole; within = omega arith; ends = multiplication_ends o a ws' }))
      (rest_within ws (unary_terminals a) mid whole)
      (behind_within (multiplication_terminal o) ws')
      (λ b r begins. operand_found u o ws' r b (multiplication mid) (sym (multiplication_found o ws')) begins)
      (λ b xs. refl)
      (term_parts complete others ws' rest (record { whole = refl; within = omega arith; ends = is.ends }))

  pub term_complete : Complete (UnaryIs depth) u → Complete (TermIs depth) (term_by u)
  term_complete complete ws t rest is =
      parts_read (UnaryIs depth) (TermIs depth) u unary_link term_from ws t rest (term_parts complete t ws rest is)

module _ (depth : ℕ) (t : Reader TermTree) where
  abbrev term_link : List Terminal → Option (Option ((Addition × TermTree) × List Terminal))
  term_link ws = operand_by t (addition ws)

  no_addition : (m : Option (Addition × List Terminal)) → operand_by t m ≡ None → m ≡ None
  no_addition None is = refl
  no_addition (Some o) is = cc

  sum_lasts : Lasts (TermIs depth) (SumIs depth) t term_link sum_from
  sum_lasts ws₀ a ws is none = record { whole = is.whole; within = is.within; ends = (is.ends, no_addition (addition ws) none) }

  sum_steps : Sound (TermIs depth) t → Steps (TermIs depth) (SumIs depth) t term_link sum_from
  sum_steps sound ws₀ a ws x rest is linked =
      let found = subst (OperandAt (TermIs depth) t addition_terminal ws) linked (operand_at (TermIs depth) t addition_terminal sound ws (addition ws) (addition_at ws)) in
      record {
        operand = x.1;
        terminals = found.0;
        is = found.2;
        lift = λ xs end others. record {
          whole = joined ws₀ (term_terminals a) found.0 (sum_terminals (sum_from x.1 xs)) end (addition_terminal x.0) ws is.whole found.1 others.whole;
          within = let h : term_depth a ≤ depth = is.within in let g : sum_depth (sum_from x.1 xs) ≤ depth = others.within in omega arith;
          ends = others.ends;
        };
      }

  pub sum_sound : Sound (TermIs depth) t → Sound (SumIs depth) (sum_by t)
  sum_sound sound = chain_sound (TermIs depth) (SumIs depth) t term_link sum_from sum_lasts (sum_steps sound) sound

  sum_parts : Complete (TermIs depth) t → (s : SumTree) (ws rest : List Terminal) → SumIs depth ws s rest
      → Parts (TermIs depth) (SumIs depth) t term_link sum_from ws s rest
  sum_parts complete (LastTerm a) ws rest is =
      last_part (TermIs depth) (SumIs depth) t term_link sum_from ws a rest
      (complete ws a rest (record { whole = is.whole; within = is.within; ends = is.ends.0 }))
      (rest_within ws (term_terminals a) rest is.whole)
      (ap (operand_by t) is.ends.1)
  sum_parts complete (TermThen a o others) ws rest is =
      let ws' = sum_terminals others ++ rest in
      let mid = addition_terminal o ∷ ws' in
      let h : max (term_depth a) (sum_depth others) ≤ depth = is.within in
      let whole = parted ws (term_terminals a) (sum_terminals others) rest (addition_terminal o) is.whole in
      more_parts (TermIs depth) (SumIs depth) t term_link sum_from ws a mid ws' others rest (λ b. (o, b)) (TermThen a o)
      (complete ws a mid (record { whole = whole; within = omega arith; ends = addition_ends o a ws' }))
      (rest_within ws (term_terminals a) mid whole)
      (behind_within (addition_terminal o) ws')
      (λ b r begins. operand_found t o ws' r b (addition mid) (sym (addition_found o ws')) begins)
      (λ b xs. refl)
      (sum_parts complete others ws' rest (record { whole = refl; within = omega arith; ends = is.ends }))

  pub sum_complete : Complete (TermIs depth) t → Complete (SumIs depth) (sum_by t)
  sum_complete complete ws s rest is =
      parts_read (TermIs depth) (SumIs depth) t term_link sum_from ws s rest (sum_parts complete s ws rest is)

module _ (depth : ℕ) (s : Reader SumTree) where
  compared_at : Sound (SumIs depth) s → (ws : List Terminal) (left : SumTree) (mid : List Terminal) → SumIs depth ws left mid
      → (m : Option (Relation × List Terminal)) → relation mid ≡ m → FrontAt relation_terminal mid m → At (ComparisonIs depth) ws (compared_by s left mid m)
  compared_at sound ws left mid is None none front = record { whole = is.whole; within = is.within; ends = (is.ends, none) }
  compared_at sound ws left mid is (Some o) some front =
      then_at (SumIs depth) (ComparisonIs depth) o.1 ws (λ x. Some (TwoSums left o.0 x.0, x.1)) (s o.1) (sound o.1)
      (λ x right. record {
        whole = joined ws (sum_terminals left) o.1 (sum_terminals x.0) x.1 (relation_terminal o.0) mid is.whole front right.whole;
        within = let h : sum_depth left ≤ depth = is.within in let g : sum_depth x.0 ≤ depth = right.within in omega arith;
        ends = right.ends;
      })

  pub comparison_sound : Sound (SumIs depth) s → Sound (ComparisonIs depth) (comparison_by s)
  comparison_sound sound ws =
      then_at (SumIs depth) (ComparisonIs depth) ws ws (λ x. compared_by s x.0 x.1 (relation x.1)) (s ws) (sound ws)
      (λ x is. compared_at sound ws x.0 x.1 is (relation x.1) refl (relation_at x.1))

  pub comparison_complete : Complete (SumIs depth) s → Complete (ComparisonIs depth) (comparison_by s)
  comparison_complete complete ws (OneSum a) rest is =
      ap (λ r. r >>= λ x. compared_by s x.0 x.1 (relation x.1)) (complete ws a rest (record { whole = is.whole; within = is.within; ends = is.ends.0 }))
      ∙ ap (compared_by s a rest) is.ends.1
  comparison_complete complete ws (TwoSums a o b) rest is =
      let ws' = sum_terminals b ++ rest in
      let mid = relation_terminal o ∷ ws' in
      let h : max (sum_depth a) (sum_depth b) ≤ depth = is.within in
      let whole = parted ws (sum_terminals a) (sum_terminals b) rest (relation_terminal o) is.whole in
      ap (λ r. r >>= λ x. compared_by s x.0 x.1 (relation x.1)) (complete ws a mid (record { whole = whole; within = omega arith; ends = relation_ends o a ws' }))
      ∙ ap (compared_by s a mid) (relation_found o ws')
      ∙ ap (λ r. r >>= λ x. Some (TwoSums a o x.0, x.1)) (complete ws' b rest (record { whole = refl; within = omega arith; ends = is.ends }))

module _ (depth : ℕ) (c : Reader ComparisonTree) where
  abbrev comparison_link : List Terminal → Option (Option (ComparisonTree × List Terminal))
  comparison_link ws = after_by c (after_and ws)

  no_and : (m : Option (List Terminal)) → after_by c m ≡ None → m ≡ None
  no_and None is = refl
  no_and (Some after) is = cc

  conjunction_lasts : Lasts (ComparisonIs depth) (ConjunctionIs depth) c comparison_link conjunction_from
  conjunction_lasts ws₀ a ws is none = record { whole = is.whole; within = is.within; ends = (is.ends, no_and (after_and ws) none) }

  conjunction_steps : Sound (ComparisonIs depth) c → Steps (ComparisonIs depth) (ConjunctionIs depth) c comparison_link conjunction_from
  conjunction_steps sound ws₀ a ws x rest is linked =
      let found = subst (BehindAt (ComparisonIs depth) c (OfKeyword keyword.And) ws) linked (behind_at (ComparisonIs depth) c (OfKeyword keyword.And) sound ws (after_and ws) (and_at ws)) in
      record {
        operand = x;
        terminals = found.0;
        is = found.2;
        lift = λ xs end others. record {
          whole = joined ws₀ (comparison_terminals a) found.0 (conjunction_terminals (conjunction_from x xs)) end (OfKeyword keyword.And) ws is.whole found.1 others.whole;
          within = let h : comparison_depth a ≤ depth = is.within in let g : conjunction_depth (conjunction_from x xs) ≤ depth = others.within in omega arith;
          ends = others.ends;
        };
      }

  pub conjunction_sound : Sound (ComparisonIs depth) c → Sound (ConjunctionIs depth) (conjunction_by c)
  conjunction_sound sound = chain_sound (ComparisonIs depth) (ConjunctionIs depth) c comparison_link conjunction_from conjunction_lasts (conjunction_steps sound) sound

  conjunction_parts : Complete (ComparisonIs depth) c → (e : ConjunctionTree) (ws rest : List Terminal) → ConjunctionIs depth ws e rest
      → Parts (ComparisonIs depth) (ConjunctionIs depth) c comparison_link conjunction_from ws e rest
  conjunction_parts complete (LastComparison a) ws rest is =
      last_part (ComparisonIs depth) (ConjunctionIs depth) c comparison_link conjunction_from ws a rest
      (complete ws a rest (record { whole = is.whole; within = is.within; ends = is.ends.0 }))
      (rest_within ws (comparison_terminals a) rest is.whole)
      (ap (after_by c) is.ends.1)
  conjunction_parts complete (ComparisonThen a others) ws rest is =
      let ws' = conjunction_terminals others ++ rest in
      let mid = OfKeyword keyword.And ∷ ws' in
      let h : max (comparison_depth a) (conjunction_depth others) ≤ depth = is.within in
      let whole = parted ws (comparison_terminals a) (conjunction_terminals others) rest (OfKeyword keyword.And) is.whole in
      more_parts (ComparisonIs depth) (ConjunctionIs depth) c comparison_link conjunction_from ws a mid ws' others rest (λ b. b) (ComparisonThen a)
      (complete ws a mid (record { whole = whole; within = omega arith; ends = and_ends a ws' }))
      (rest_within ws (comparison_terminals a) mid whole)
      (behind_within (OfKeyword keyword.And) ws')
      (λ b r begins. after_found c ws' r b (after_and mid) refl begins)
      (λ b xs. refl)
      (conjunction_parts complete others ws' rest (record { whole = refl; within = omega arith; ends = is.ends }))

  pub conjunction_complete : Complete (ComparisonIs depth) c → Complete (ConjunctionIs depth) (conjunction_by c)
  conjunction_complete complete ws e rest is =
      parts_read (ComparisonIs depth) (ConjunctionIs depth) c comparison_link conjunction_from ws e rest (conjunction_parts complete e ws rest is)

module _ (depth : ℕ) (c : Reader ConjunctionTree) where
  abbrev conjunction_link : List Terminal → Option (Option (ConjunctionTree × List Terminal))
  conjunction_link ws = after_by c (after_or ws)

  no_or : (m : Option (List Terminal)) → after_by c m ≡ None → m ≡ None
  no_or None is = refl
  no_or (Some after) is = cc

  expression_lasts : Lasts (ConjunctionIs depth) (ExpressionIs depth) c conjunction_link expression_from
  expression_lasts ws₀ a ws is none = record { whole = is.whole; within = is.within; ends = (is.ends, no_or (after_or ws) none) }

  expression_steps : Sound (ConjunctionIs depth) c → Steps (ConjunctionIs depth) (ExpressionIs depth) c conjunction_link expression_from
  expression_steps sound ws₀ a ws x rest is linked =
      let found = subst (BehindAt (ConjunctionIs depth) c (OfKeyword keyword.Or) ws) linked (behind_at (ConjunctionIs depth) c (OfKeyword keyword.Or) sound ws (after_or ws) (or_at ws)) in
      record {
        operand = x;
        terminals = found.0;
        is = found.2;
        lift = λ xs end others. record {
          whole = joined ws₀ (conjunction_terminals a) found.0 (expression_terminals (expression_from x xs)) end (OfKeyword keyword.Or) ws is.whole found.1 others.whole;
          within = let h : conjunction_depth a ≤ depth = is.within in let g : expression_depth (expression_from x xs) ≤ depth = others.within in omega arith;
          ends = others.ends;
        };
      }

  pub expression_sound : Sound (ConjunctionIs depth) c → Sound (ExpressionIs depth) (expression_by c)
  expression_sound sound = chain_sound (ConjunctionIs depth) (ExpressionIs depth) c conjunction_link expression_from expression_lasts (expression_steps sound) sound

  expression_parts : Complete (ConjunctionIs depth) c → (e : ExpressionTree) (ws rest : List Terminal) → ExpressionIs depth ws e rest
      → Parts (ConjunctionIs depth) (ExpressionIs depth) c conjunction_link expression_from ws e rest
  expression_parts complete (LastConjunction a) ws rest is =
      last_part (ConjunctionIs depth) (ExpressionIs depth) c conjunction_link expression_from ws a rest
      (complete ws a rest (record { whole = is.whole; within = is.within; ends = is.ends.0 }))
      (rest_within ws (conjunction_terminals a) rest is.whole)
      (ap (after_by c) is.ends.1)
  expression_parts complete (ConjunctionThen a others) ws rest is =
      let ws' = expression_terminals others ++ rest in
      let mid = OfKeyword keyword.Or ∷ ws' in
      let h : max (conjunction_depth a) (expression_depth others) ≤ depth = is.within in
      let whole = parted ws (conjunction_terminals a) (expression_terminals others) rest (OfKeyword keyword.Or) is.whole in
      more_parts (ConjunctionIs depth) (ExpressionIs depth) c conjunction_link expression_from ws a mid ws' others rest (λ b. b) (ConjunctionThen a)
      (complete ws a mid (record { whole = whole; within = omega arith; ends = or_ends a ws' }))
      (rest_within ws (conjunction_terminals a) mid whole)
      (behind_within (OfKeyword keyword.Or) ws')
      (λ b r begins. after_found c ws' r b (after_or mid) refl begins)
      (λ b xs. refl)
      (expression_parts complete others ws' rest (record { whole = refl; within = omega arith; ends = is.ends }))

  pub expression_complete : Complete (ConjunctionIs depth) c → Complete (ExpressionIs depth) (expression_by c)
  expression_complete complete ws e rest is =
      parts_read (ConjunctionIs depth) (ExpressionIs depth) c conjunction_link expression_from ws e rest (expression_parts complete e ws rest is)
