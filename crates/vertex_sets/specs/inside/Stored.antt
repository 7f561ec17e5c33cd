-- How a set lies in memory.
use Rattle.std.specs.Prelude.{◌≡◌, ℕ, ◌<◌, List, length, All}
use Rattle.vertex_sets.specs.declared.form.Form.{Form}
use Rattle.vertex_sets.specs.declared.form.Form.TheVariants.{List as AsList, Flags as AsFlags, Bits as AsBits}
use Rattle.vertex_sets.specs.declared.set.Members.{Members}
use Rattle.vertex_sets.specs.declared.set.Members.TheVariants.{Listed, Flagged, Worded}
use Rattle.vertex_sets.specs.VertexSet.{IsAscendingBelow, word_count}
use Rattle.vertex_sets.specs.inside.Words.{flag_members, word_members}

abbrev pub members_of : Members → List ℕ
members_of (Listed list) = list.items
members_of (Flagged set) = flag_members 0 set.flags.items
members_of (Worded set) = word_members 0 set.words.items

abbrev pub form_of : Members → Form
form_of (Listed list) = AsList
form_of (Flagged set) = AsFlags
form_of (Worded set) = AsBits

-- the parts are those of a set of vertices below n
abbrev pub IsStored : ℕ → Members → Type 0
IsStored n (Listed list) = IsAscendingBelow n list.items
IsStored n (Flagged set) = length set.flags.items ≡ n
IsStored n (Worded set) = (length set.words.items ≡ word_count n) × All (λ v. v < n) (word_members 0 set.words.items)
