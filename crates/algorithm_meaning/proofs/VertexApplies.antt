-- Vertex applies leave other vertices alone.
use Rattle.std.proofs.Common.{◌≡◌, ℕ, ◌==◌, ℤ, Bool, true, false, cond, ◌||◌, List, [], ◌∷◌, ap, sym, ◌∙◌, refl}
use Rattle.std.proofs.lemmas.Bool.{false≢true}
use Rattle.typed_tree.specs.FunctionStatementTree.{FunctionStatementTree, DeclareInt, DeclareBool, SetInt, SetBool, ReduceInt, SetEntry, ReduceEntry, If, IfElse}
use Rattle.typed_tree.specs.FunctionStatementTree.{FunctionStatementsTree, NoStep, StepThen}
use Rattle.algorithm_meaning.specs.declared.contribution.Writing.TheVariants.{AtOnce}
use Rattle.algorithm_meaning.specs.declared.state.SetBinding.{SetBinding}
use Rattle.algorithm_meaning.specs.Arithmetic.{reduced}
use Rattle.algorithm_meaning.specs.State.{vertex_scope}
use Rattle.algorithm_meaning.specs.Value.{entry, value, truth}
use Rattle.algorithm_meaning.specs.Function.{WorkValue, first_work, after_step, after_steps, after_block}
use Rattle.algorithm_meaning.specs.EdgeApply.{is_member}
use Rattle.algorithm_meaning.specs.VertexSets.{after_vertex, after_vertices}
use Rattle.algorithm_meaning.proofs.WrittenEntries.{entry_elsewhere}

either_source : (b : Bool) (x y : WorkValue) (u : ℕ) → x.scope.source ≡ u → y.scope.source ≡ u → (cond b x y).scope.source ≡ u
either_source true x y u h k = h
either_source false x y u h k = k

mutual
  -- the vertex stays
  source_after_step : (sets : List SetBinding) (step : FunctionStatementTree) (w : WorkValue) → (after_step AtOnce sets step w).scope.source ≡ w.scope.source
  source_after_step sets (DeclareInt name e) w = refl
  source_after_step sets (DeclareBool name c) w = refl
  source_after_step sets (SetInt slot e) w = refl
  source_after_step sets (SetBool slot c) w = refl
  source_after_step sets (ReduceInt slot reduction e) w = refl
  source_after_step sets (SetEntry vector e) w = refl
  source_after_step sets (ReduceEntry vector reduction e) w = refl
  source_after_step sets (If c body) w =
      either_source (truth w.vectors sets w.scope c) (after_block w (after_steps AtOnce sets body w)) w w.scope.source (source_after_steps sets body w) refl
  source_after_step sets (IfElse c body other) w =
      either_source (truth w.vectors sets w.scope c) (after_block w (after_steps AtOnce sets body w)) (after_block w (after_steps AtOnce sets other w)) w.scope.source (source_after_steps sets body w)
      (source_after_steps sets other w)

  source_after_steps : (sets : List SetBinding) (steps : FunctionStatementsTree) (w : WorkValue) → (after_steps AtOnce sets steps w).scope.source ≡ w.scope.source
  source_after_steps sets NoStep w = refl
  source_after_steps sets (StepThen step rest) w = source_after_steps sets rest (after_step AtOnce sets step w) ∙ source_after_step sets step w

either_entry : (b : Bool) (x y : WorkValue) (vector v : ℕ) (n : ℤ) → entry x.vectors vector v ≡ n → entry y.vectors vector v ≡ n → entry (cond b x y).vectors vector v ≡ n
either_entry true x y vector v n h k = h
either_entry false x y vector v n h k = k

mutual
  -- the entries of other vertices stay
  entry_after_step : (sets : List SetBinding) (step : FunctionStatementTree) (w : WorkValue) (vector v : ℕ) → (w.scope.source == v) ≡ false
      → entry (after_step AtOnce sets step w).vectors vector v ≡ entry w.vectors vector v
  entry_after_step sets (DeclareInt name e) w vector v apart = refl
  entry_after_step sets (DeclareBool name c) w vector v apart = refl
  entry_after_step sets (SetInt slot e) w vector v apart = refl
  entry_after_step sets (SetBool slot c) w vector v apart = refl
  entry_after_step sets (ReduceInt slot reduction e) w vector v apart = refl
  entry_after_step sets (SetEntry written e) w vector v apart =
      entry_elsewhere w.vectors written w.scope.source (value w.vectors sets w.scope e) vector v apart
  entry_after_step sets (ReduceEntry written reduction e) w vector v apart =
      entry_elsewhere w.vectors written w.scope.source (reduced reduction (entry w.vectors written w.scope.source) (value w.vectors sets w.scope e)) vector v apart
  entry_after_step sets (If c body) w vector v apart =
      either_entry (truth w.vectors sets w.scope c) (after_block w (after_steps AtOnce sets body w)) w vector v (entry w.vectors vector v) (entry_after_steps sets body w vector v apart) refl
  entry_after_step sets (IfElse c body other) w vector v apart =
      either_entry (truth w.vectors sets w.scope c) (after_block w (after_steps AtOnce sets body w)) (after_block w (after_steps AtOnce sets other w)) vector v (entry w.vectors vector v)
      (entry_after_steps sets body w vector v apart) (entry_after_steps sets other w vector v apart)

  entry_after_steps : (sets : List SetBinding) (steps : FunctionStatementsTree) (w : WorkValue) (vector v : ℕ) → (w.scope.source == v) ≡ false
      → entry (after_steps AtOnce sets steps w).vectors vector v ≡ entry w.vectors vector v
  entry_after_steps sets NoStep w vector v apart = refl
  entry_after_steps sets (StepThen step rest) w vector v apart =
      entry_after_steps sets rest (after_step AtOnce sets step w) vector v (ap (λ (u : ℕ). u == v) (source_after_step sets step w) ∙ apart)
      ∙ entry_after_step sets step w vector v apart

neither_first : (a b : Bool) → a || b ≡ false → a ≡ false
neither_first true b h = h
neither_first false b h = refl

neither_second : (a b : Bool) → a || b ≡ false → b ≡ false
neither_second true b h = absurd (false≢true (sym h))
neither_second false b h = h

pub entry_after_vertices : (steps : FunctionStatementsTree) (sets : List SetBinding) (vertices : List ℕ) (vectors : List (List ℤ)) (vector v : ℕ) → is_member v vertices ≡ false
    → entry (after_vertices steps sets vertices vectors) vector v ≡ entry vectors vector v
entry_after_vertices steps sets [] vectors vector v h = refl
entry_after_vertices steps sets (u ∷ us) vectors vector v h =
    entry_after_vertices steps sets us (after_vertex steps sets u vectors) vector v (neither_second (u == v) (is_member v us) h)
    ∙ entry_after_steps sets steps (first_work vectors (vertex_scope u)) vector v (neither_first (u == v) (is_member v us) h)
