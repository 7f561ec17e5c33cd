-- Expressions are read exactly, and in one way.
use Rattle.std.proofs.Common.{◌≡◌, refl, sym, ◌∙◌, ℕ, zero, suc, ◌≤◌, max, arith, List, [], ◌++◌, Option, Some, None}
use Rattle.std.proofs.lemmas.List.{append-nil}
use Rattle.std.proofs.lemmas.Option.{some_pair_parts}
use Rattle.syntax.specs.Terminals.{Terminal}
use Rattle.syntax.specs.SourceTrees.{ExpressionTree}
use Rattle.syntax.specs.ExpressionSpelling.{expression_terminals}
use Rattle.syntax.specs.ExpressionDepth.{expression_depth}
use Rattle.syntax.specs.ExpressionEnds.{EndsExpression}
use Rattle.syntax.specs.ExpressionBeginnings.{Begins}
use Rattle.syntax.specs.ExpressionReading.{no_expression, primary_at, unary_at, term_at, sum_at, comparison_at, conjunction_at, expression_at}
use Rattle.syntax.proofs.ExpressionsExact.{At, Sound, Complete}
use Rattle.syntax.proofs.FirstTerminals.{ends_expression}
use Rattle.syntax.proofs.Levels.{ExpressionIs, term_sound, term_complete, sum_sound, sum_complete, comparison_sound, comparison_complete, conjunction_sound, conjunction_complete, expression_sound}
use Rattle.syntax.proofs.Levels.{expression_complete}
use Rattle.syntax.proofs.Operands.{PrimaryIs, InnerIs, primary_sound, primary_complete, unary_sound, unary_complete}

sound_above : (depth : ℕ) → Sound (PrimaryIs depth) (primary_at depth) → Sound (ExpressionIs depth) (expression_at depth)
sound_above depth sound =
    expression_sound depth (conjunction_at depth) (conjunction_sound depth (comparison_at depth) (comparison_sound depth (sum_at depth)
    (sum_sound depth (term_at depth) (term_sound depth (unary_at depth) (unary_sound depth (primary_at depth) sound)))))

complete_above : (depth : ℕ) → Complete (PrimaryIs depth) (primary_at depth) → Complete (ExpressionIs depth) (expression_at depth)
complete_above depth complete =
    expression_complete depth (conjunction_at depth) (conjunction_complete depth (comparison_at depth) (comparison_complete depth (sum_at depth)
    (sum_complete depth (term_at depth) (term_complete depth (unary_at depth) (unary_complete depth (primary_at depth) complete)))))

deeper_at : (depth : ℕ) (ws : List Terminal) (o : Option (ExpressionTree × List Terminal)) → At (ExpressionIs depth) ws o → At (InnerIs (suc depth)) ws o
deeper_at depth ws None is = tt
deeper_at depth ws (Some x) is = record { whole = is.whole; within = let h : expression_depth x.0 ≤ depth = is.within in omega arith; ends = is.ends }

primaries_sound : (depth : ℕ) → Sound (PrimaryIs depth) (primary_at depth)
primaries_sound zero = primary_sound zero no_expression (λ ws. tt)
primaries_sound (suc depth) =
    primary_sound (suc depth) (expression_at depth) (λ ws. deeper_at depth ws (expression_at depth ws) (sound_above depth (primaries_sound depth) ws))

none_within : Complete (InnerIs zero) no_expression
none_within ws x rest is = let h : suc (expression_depth x) ≤ 0 = is.within in absurd (omega arith)

complete_deeper : (depth : ℕ) → Complete (ExpressionIs depth) (expression_at depth) → Complete (InnerIs (suc depth)) (expression_at depth)
complete_deeper depth complete ws x rest is =
    let h : suc (expression_depth x) ≤ suc depth = is.within in
    complete ws x rest (record { whole = is.whole; within = omega arith; ends = is.ends })

primaries_complete : (depth : ℕ) → Complete (PrimaryIs depth) (primary_at depth)
primaries_complete zero = primary_complete zero no_expression none_within
primaries_complete (suc depth) =
    primary_complete (suc depth) (expression_at depth) (complete_deeper depth (complete_above depth (primaries_complete depth)))

pub expressions_sound : (depth : ℕ) → Sound (Begins depth) (expression_at depth)
expressions_sound depth = sound_above depth (primaries_sound depth)

pub expressions_complete : (depth : ℕ) → Complete (Begins depth) (expression_at depth)
expressions_complete depth = complete_above depth (primaries_complete depth)

deepen : (depth more : ℕ) (ws : List Terminal) (e : ExpressionTree) (rest : List Terminal) → depth ≤ more → Begins depth ws e rest → Begins more ws e rest
deepen depth more ws e rest less is = record { whole = is.whole; within = let h : expression_depth e ≤ depth = is.within in omega arith; ends = is.ends }

-- terminals begin with one expression
pub one_reading : (depth depth' : ℕ) (ws : List Terminal) (d e : ExpressionTree) (rest rest' : List Terminal)
    → Begins depth ws d rest → Begins depth' ws e rest' → (d ≡ e) × (rest ≡ rest')
one_reading depth depth' ws d e rest rest' is is' =
    let most = max depth depth' in
    some_pair_parts d e rest rest'
    (sym (expressions_complete most ws d rest (deepen depth most ws d rest (omega arith) is))
    ∙ expressions_complete most ws e rest' (deepen depth' most ws e rest' (omega arith) is'))

pub nothing_follows : (e : ExpressionTree) → EndsExpression e []
nothing_follows e = ends_expression e [] (record { bracket = refl; dot = refl; multiplies = refl; adds = refl; relates = refl; conjoins = refl; disjoins = refl })

all_of : (e : ExpressionTree) → Begins (expression_depth e) (expression_terminals e) e []
all_of e = record { whole = sym (append-nil (expression_terminals e)); within = omega arith; ends = nothing_follows e }

-- no two trees have the same terminals
pub one_tree : (d e : ExpressionTree) → expression_terminals d ≡ expression_terminals e → d ≡ e
one_tree d e same =
    (one_reading (expression_depth d) (expression_depth e) (expression_terminals d) d e [] [] (all_of d)
    (record { whole = same ∙ sym (append-nil (expression_terminals e)); within = omega arith; ends = nothing_follows e })).0

-- no expression goes on after another that ends
pub none_longer : (e longer : ExpressionTree) (rest : List Terminal) → EndsExpression e rest → expression_terminals longer ≡ expression_terminals e ++ rest → rest ≡ []
none_longer e longer rest ends same =
    (one_reading (expression_depth e) (expression_depth longer) (expression_terminals longer) e longer rest []
    (record { whole = same; within = omega arith; ends = ends }) (all_of longer)).1
