-- What edges give where destinations are tested twice, or by tests that agree.
use Rattle.std.proofs.Common.{◌≡◌, ℕ, ◌<◌, Bool, true, cond, List, refl, sym, ap, ◌∙◌, subst}
use Rattle.std.specs.List.{filter}
use Rattle.weighted_edges.specs.Edge.{Edge}
use Rattle.kernels.specs.FunctionStatementTree.{FunctionStatementsTree}
use Rattle.kernels.specs.State.{StateValue}
use Rattle.edge_fold.specs.declared.gathered.Gathered.{Gathered}
use Rattle.edge_fold.specs.Gathered.{AreGathered}
use Rattle.edge_fold.specs.Contributions.{all_given, given_on, reduced_at}
use Rattle.edge_fold.proofs.Meaning.{filtered_edges}
use Rattle.edge_apply.proofs.Listed.{filter_all}

-- tests that agree on the vertices of a graph
pub gathered_where : (n : ℕ) (m : StateValue) (steps : List FunctionStatementsTree) (p q : ℕ → Bool) (es : List Edge) (g : Gathered) → ((v : ℕ) → v < n → p v ≡ q v)
    → AreGathered n m steps (filter (λ e. p e.1) es) g → AreGathered n m steps (filter (λ e. q e.1) es) g
gathered_where n m steps p q es g same are x r by =
    let of = all_given m steps in
    let at = are x r by in
    record {
      reduction = at.reduction;
      numbers = λ v h l.
          at.numbers v h l
          ∙ filtered_edges r x v h p of es
          ∙ ap (λ (b : Bool). cond b (reduced_at r v h (given_on x of es)) h) (same v l)
          ∙ sym (filtered_edges r x v h q of es);
    }

-- all pass the second test, or the first
pub gathered_first : (n : ℕ) (m : StateValue) (steps : List FunctionStatementsTree) (p : ℕ → Bool) (es : List Edge) (g : Gathered)
    → AreGathered n m steps (filter (λ e. true) (filter (λ e. p e.1) es)) g → AreGathered n m steps (filter (λ e. p e.1) es) g
gathered_first n m steps p es g are = subst (λ (ks : List Edge). AreGathered n m steps ks g) (filter_all (λ _. true) (filter (λ e. p e.1) es) (λ e. refl)) are

pub gathered_second : (n : ℕ) (m : StateValue) (steps : List FunctionStatementsTree) (p : ℕ → Bool) (es : List Edge) (g : Gathered)
    → AreGathered n m steps (filter (λ e. p e.1) (filter (λ e. true) es)) g → AreGathered n m steps (filter (λ e. p e.1) es) g
gathered_second n m steps p es g are = subst (λ (ks : List Edge). AreGathered n m steps (filter (λ e. p e.1) ks) g) (filter_all (λ _. true) es (λ e. refl)) are
