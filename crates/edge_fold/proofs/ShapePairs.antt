-- Statements of a shape, and functions of two.
use Rattle.std.proofs.Common.{◌≡◌, ℕ, ℤ, ◌==◌, pos, cond, None, List, [], ◌∷◌, ◌++◌, length, refl, sym, ap, ◌∙◌, subst, arith}
use Rattle.std.proofs.lemmas.List.{append-nil}
use Rattle.weighted_edges.specs.Edge.{Edge}
use Rattle.apply_options.specs.declared.reduction.Reduction.{Reduction}
use Rattle.typed_tree.specs.FunctionStatementTree.{FunctionStatementsTree}
use Rattle.algorithm_meaning.specs.Arithmetic.{arithmetic}
use Rattle.algorithm_meaning.specs.State.{StateValue}
use Rattle.algorithm_meaning.specs.Value.{entry}
use Rattle.kernels.specs.declared.shape.Shape.{Shape}
use Rattle.kernels.specs.declared.shape.Shape.TheVariants as shape
use Rattle.kernels.specs.declared.shape_pair.ShapePair.{ShapePair}
use Rattle.kernels.specs.Kernels.{IsEdgeKernel}
use Rattle.kernels.specs.Meaning.{given_in}
use Rattle.kernels.specs.ShapePairs.{shape_given}
use Rattle.kernels.specs.Shapes.{HasShape}
use Rattle.edge_fold.specs.declared.apply_context.ApplyContext.{ApplyContext}
use Rattle.edge_fold.specs.declared.apply_context.EntryContribution.{EntryContribution}
use Rattle.edge_fold.specs.declared.apply_context.SourceContribution.{SourceContribution}
use Rattle.edge_fold.specs.declared.scratch.Scratch.{Scratch}
use Rattle.edge_fold.specs.declared.statements.ContributionPair.{ContributionPair}
use Rattle.edge_fold.specs.declared.vector_accumulator.VectorAccumulators.{VectorAccumulators}
use Rattle.edge_fold.specs.Between.{firsts}
use Rattle.edge_fold.specs.Contributions.{IsBy, all_given, column, weighted_entries, given_on, reduced_at, row}
use Rattle.edge_fold.specs.inside.Contributions.{each_given}
use Rattle.edge_fold.specs.inside.EntryNumbers.{IsEntryContribution, each_weighed, entry_numbers_given}
use Rattle.edge_fold.specs.Folded.{HasFolded, IsContextOf, waiting}
use Rattle.edge_fold.specs.inside.ReducedContributions.{IsReducedContribution, numbers_given}
use Rattle.edge_fold.specs.inside.Statements.{ArePairContributions, IsEntryOf}
use Rattle.edge_fold.specs.inside.VectorAccumulators.{HaveJoined}
use Rattle.edge_fold.proofs.Edges.{on_in_rounds, on_same, one_function, contribution_row}
use Rattle.edge_fold.proofs.EntryRows.{weighed_row, weighed_together}
use Rattle.edge_fold.proofs.Folds.{reduced_at-append}
use Rattle.edge_fold.proofs.JoinedSlots.{folded_before, joined_alike, joined_more, joined_nothing}
use Rattle.edge_fold.proofs.Rows.{IsBy-left, IsBy-right}

-- what a function gives whose shape gives one number
pub shaped_given : (t : Shape) (m : StateValue) (edge : Edge) (given : List (ℕ × Reduction × ℤ)) (g : ℕ × Reduction × ℤ) → HasShape t m edge given → shape_given t m edge ≡ g ∷ [] → given ≡ g ∷ []
shaped_given shape.Other m edge given g has e = absurd (omega (arith, ap (λ (gs : List (ℕ × Reduction × ℤ)). length gs) e))
shaped_given (shape.Source x r) m edge given g has e = has ∙ e
shaped_given (shape.Entry x r y) m edge given g has e = has ∙ e
shaped_given (shape.EntryPlus x r y n) m edge given g has e = has ∙ e
shaped_given (shape.Constant x r n) m edge given g has e = has ∙ e
shaped_given (shape.EntryWith x r y o) m edge given g has e = has ∙ e

-- what one function gives on an edge
pub one_given : (f : ApplyContext) (m : StateValue) (steps : List FunctionStatementsTree) (edge : Edge) (gs : List (ℕ × Reduction × ℤ)) → IsContextOf f m steps → f.second ≡ None
    → ((a : FunctionStatementsTree) → IsEdgeKernel f.first.now a → given_in m a edge ≡ gs) → all_given m steps edge ≡ gs
one_given f m steps edge gs are alone gives =
    let one = one_function f.first.now f.second steps alone are.kernels in
    ap (λ (ss : List FunctionStatementsTree). all_given m ss edge) one.alone ∙ append-nil (given_in m one.a edge) ∙ gives one.a one.kernel

-- what a statement gives along a row
pub joined_contribution : (f : ApplyContext) (x : ℕ) (r : Reduction) (a b : VectorAccumulators) (source : ℕ) (contribution : SourceContribution) (gives : Edge → List (ℕ × Reduction × ℤ))
    (es : List (ℕ × ℤ))
    → ((d : ℕ) (w : ℤ) → gives (source, d, w) ≡ (contribution.vector, contribution.reduction, contribution.number) ∷ []) → ((edge : Edge) → IsBy r x (gives edge))
    → ((contribution.vector ≡ x → contribution.reduction ≡ r) → HaveJoined f x r a b (cond (contribution.vector == x) (each_given contribution.number (firsts es)) []))
    → HaveJoined f x r a b (given_on x gives (row source es))
joined_contribution f x r a b source contribution gives es each by joined =
    let own : IsBy r x ((contribution.vector, contribution.reduction, contribution.number) ∷ []) = subst (λ (gs : List (ℕ × Reduction × ℤ)). IsBy r x gs) (each 0 (pos 0)) (by (source, 0, pos 0)) in
    joined_alike f x r a b (cond (contribution.vector == x) (each_given contribution.number (firsts es)) []) (given_on x gives (row source es))
    (λ v n. sym (ap (λ gs. reduced_at r v n gs) (contribution_row x contribution.vector source contribution.reduction contribution.number gives each es)))
    (joined own.0)

pub joined_weighed : (f : ApplyContext) (m : StateValue) (x : ℕ) (r : Reduction) (a b : VectorAccumulators) (source : ℕ) (given : EntryContribution) (gives : Edge → List (ℕ × Reduction × ℤ))
    (es : List (ℕ × ℤ))
    → f.vectors.now.vectors ≡ m.vectors → IsEntryOf m given gives → ((edge : Edge) → IsBy r x (gives edge))
    → ((given.vector ≡ x → given.reduction ≡ r) → HaveJoined f x r a b (cond (given.vector == x)
    (each_weighed (λ w. arithmetic given.operator (entry f.vectors.now.vectors given.from source) w) es) []))
    → HaveJoined f x r a b (given_on x gives (row source es))
joined_weighed f m x r a b source given gives es vectors is by joined =
    let number = λ (w : ℤ). arithmetic given.operator (entry f.vectors.now.vectors given.from source) w in
    let each = λ (d : ℕ) (w : ℤ). is (source, d, w) ∙ ap (λ (vs : List (List ℤ)).
    (let gs : List (ℕ × Reduction × ℤ) = (given.vector, given.reduction, arithmetic given.operator (entry vs given.from source) w) ∷ [] in gs)) (sym vectors) in
    let own : IsBy r x ((given.vector, given.reduction, number (pos 0)) ∷ []) = subst (λ (gs : List (ℕ × Reduction × ℤ)). IsBy r x gs) (each 0 (pos 0)) (by (source, 0, pos 0)) in
    joined_alike f x r a b (cond (given.vector == x) (each_weighed number es) []) (given_on x gives (row source es))
    (λ v n. sym (ap (λ gs. reduced_at r v n gs) (weighed_row x given.vector source given.reduction number gives each es)))
    (joined own.0)

-- what a statement gives along a column
joined_together : (f : ApplyContext) (x : ℕ) (r : Reduction) (a b : VectorAccumulators) (d : ℕ) (contribution : SourceContribution) (gives : Edge → List (ℕ × Reduction × ℤ)) (es : List (ℕ × ℤ))
    → IsEntryContribution contribution gives es → ((edge : Edge) → IsBy r x (gives edge))
    → ((contribution.vector ≡ x → contribution.reduction ≡ r) → HaveJoined f x r a b (cond (contribution.vector == x) (each_given contribution.number (d ∷ [])) []))
    → HaveJoined f x r a b (given_on x gives (column d es))
joined_together f x r a b d contribution gives es is by joined =
    let own : IsBy r x ((contribution.vector, contribution.reduction, is.number 0 (pos 0)) ∷ []) = subst (λ (gs : List (ℕ × Reduction × ℤ)). IsBy r x gs) (is.each 0 d (pos 0)) (by (0, d, pos 0)) in
    joined_alike f x r a b (cond (contribution.vector == x) (each_given contribution.number (d ∷ [])) []) (given_on x gives (column d es))
    (λ v n. weighed_together r x d v n contribution gives es is own.0)
    (joined own.0)

-- one statement after the other
joined_pair : (f : ApplyContext) (x : ℕ) (r : Reduction) (a b c : VectorAccumulators) (all first second : Edge → List (ℕ × Reduction × ℤ)) (es : List Edge)
    → ((edge : Edge) → all edge ≡ first edge ++ second edge)
    → HaveJoined f x r a b (given_on x first es) → HaveJoined f x r b c (given_on x second es) → HaveJoined f x r a c (given_on x all es)
joined_pair f x r a b c all first second es each one other =
    let ones = given_on x first es in
    let others = given_on x second es in
    joined_alike f x r a c (ones ++ others) (given_on x all es)
    (λ v n. reduced_at-append r v n ones others ∙ sym (on_in_rounds r v x n first second es)
    ∙ ap (λ gs. reduced_at r v n gs) (sym (on_same x all (λ edge. first edge ++ second edge) each es)))
    (joined_more f x r a b c ones others one other)

by_first : (r : Reduction) (x : ℕ) (all first second : Edge → List (ℕ × Reduction × ℤ)) → ((edge : Edge) → all edge ≡ first edge ++ second edge) → ((edge : Edge) → IsBy r x (all edge)) → (edge : Edge)
    → IsBy r x (first edge)
by_first r x all first second each by edge = IsBy-left r x (first edge) (second edge) (subst (λ (gs : List (ℕ × Reduction × ℤ)). IsBy r x gs) (each edge) (by edge))

by_second : (r : Reduction) (x : ℕ) (all first second : Edge → List (ℕ × Reduction × ℤ)) → ((edge : Edge) → all edge ≡ first edge ++ second edge) → ((edge : Edge) → IsBy r x (all edge))
    → (edge : Edge) → IsBy r x (second edge)
by_second r x all first second each by edge = IsBy-right r x (first edge) (second edge) (subst (λ (gs : List (ℕ × Reduction × ℤ)). IsBy r x gs) (each edge) (by edge))

-- what is sent was joined to slots, at a destination
abbrev pub HasJoinedContribution : ApplyContext → SourceContribution → (d : ℕ) → (before after : VectorAccumulators) → Type 0
HasJoinedContribution f contribution d a b = (x : ℕ) (r : Reduction) → (contribution.vector ≡ x → contribution.reduction ≡ r)
    → HaveJoined f x r a b (cond (contribution.vector == x) (each_given contribution.number (d ∷ [])) [])

pub folded_pair_into : (f : ApplyContext) (m : StateValue) (steps : List FunctionStatementsTree) (p : ContributionPair) (d : ℕ) (es : List (ℕ × ℤ)) (edges : List Edge) (a b : Scratch)
    (between : VectorAccumulators)
    → b.pairs ≡ a.pairs → ArePairContributions p (all_given m steps) es
    → HasJoinedContribution f p.first d a.slots between → HasJoinedContribution f p.second d between b.slots
    → HasFolded f m steps edges a → HasFolded f m steps (edges ++ column d es) b
folded_pair_into f m steps p d es edges a b between same are one other has x r by =
    let all = all_given m steps in
    folded_before f m steps edges (column d es) a b x r (ap (λ ps. waiting f.weighted ps) same)
    (joined_pair f x r a.slots between b.slots all are.first are.second (column d es) are.each
    (joined_together f x r a.slots between d p.first are.first es are.of_first (by_first r x all are.first are.second are.each by) (one x r))
    (joined_together f x r between b.slots d p.second are.second es are.of_second (by_second r x all are.first are.second are.each by) (other x r)))
    (has x r by)

-- numbers of sources with any weights
any_weights : (number : ℕ → ℤ) (d : ℕ) (ss : List ℕ) (ws : List ℤ) → entry_numbers_given (λ s w. number s) d (weighted_entries ss ws) ≡ numbers_given number d ss
any_weights number d [] ws = refl
any_weights number d (s ∷ ss) [] = ap (λ (gs : List (ℕ × ℤ)). (d, number s) ∷ gs) (any_weights number d ss [])
any_weights number d (s ∷ ss) (w ∷ ws) = ap (λ (gs : List (ℕ × ℤ)). (d, number s) ∷ gs) (any_weights number d ss ws)

pub of_sources : (contribution : SourceContribution) (gives : Edge → List (ℕ × Reduction × ℤ)) (ss : List ℕ) (ws : List ℤ) → IsReducedContribution contribution gives ss
    → IsEntryContribution contribution gives (weighted_entries ss ws)
of_sources contribution gives ss ws is = record {
  number = λ s w. is.number s;
  each = is.each;
  all = λ d v h. is.all d v h ∙ sym (ap (λ (gs : List (ℕ × ℤ)). reduced_at contribution.reduction v h gs) (any_weights is.number d ss ws));
}
