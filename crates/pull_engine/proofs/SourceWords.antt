-- The words of a set in bits let its members through.
use Rattle.std.proofs.Common.{◌≡◌, ℕ, List, Option, Some, None, IsSome, IfSome}
use Rattle.std.proofs.lemmas.Bool.{false≢true}
use Rattle.std.specs.Borrow.{Bor}
use Rattle.kernels.specs.EdgeApply.{is_member}
use Rattle.vertex_sets.specs.VertexSet.{AreWordsOf, VertexSubset}
use Rattle.edge_apply.specs.Words.{passes_words}
use Rattle.edge_apply.proofs.Bits.{words_have_members}

pub words_pass : (s : VertexSubset) (o : Option (Bor (List ℕ))) → IsSome o → IfSome o (λ words. AreWordsOf s words.now) → (v : ℕ) → passes_words o v ≡ is_member v s.members
words_pass s None some are v = absurd (false≢true some)
words_pass s (Some words) some are v = words_have_members s words.now are v
