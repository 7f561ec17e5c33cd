-- Which vertices the words of sources let through.
use Rattle.std.specs.Prelude.{ℕ, Bool, true, ◌≡◌}
use Rattle.vertex_sets.specs.declared.form.Form.TheVariants as Form
use Rattle.kernels.specs.EdgeApply.{is_member}
use Rattle.edge_apply.specs.Words.{is_set}
use Rattle.pull_engine.specs.declared.source_words.SourceWords.{SourceWords}
use Rattle.pull_engine.specs.declared.source_words.SourceWords.TheVariants as words

abbrev pub is_source : SourceWords → ℕ → Bool
is_source words.All v = true
is_source (words.Given given) v = is_set given.now v
is_source (words.Members set) v = is_member v set.members

-- a set is kept as bits
abbrev pub AreInBits : SourceWords → Type 0
AreInBits words.All = Unit {0}
AreInBits (words.Given given) = Unit {0}
AreInBits (words.Members set) = set.form ≡ Form.Bits
