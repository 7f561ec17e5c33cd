-- The ends of a push: the vertices that they let through by bits, and by an end that is still to be tested.
use Rattle.std.specs.Prelude.{ℕ, Bool, true, Option, Some, None, false, ◌≡◌, ◌&&◌, ◌<◌}
use Rattle.vertex_sets.specs.declared.form.Form.TheVariants as Form
use Rattle.kernels.specs.EdgeApply.{is_member}
use Rattle.kernels.specs.declared.endpoint_filter.EndpointFilter.{EndpointFilter}
use Rattle.kernels.specs.State.{StateValue}
use Rattle.edge_fold.specs.Ends.{IsEndTest}
use Rattle.edge_apply.specs.Words.{is_set}
use Rattle.push_engine.specs.declared.push_end.PushEnd.{PushEnd}
use Rattle.push_engine.specs.declared.push_end.PushEnd.TheVariants as tested

-- the test by bits
abbrev pub passes_bits : PushEnd → ℕ → Bool
passes_bits tested.All v = true
passes_bits (tested.Given words) v = is_set words.now v
passes_bits (tested.Members set) v = is_member v set.members
passes_bits (tested.Untested end) v = true

-- the end that is still to be tested
abbrev pub untested_end : PushEnd → Option EndpointFilter
untested_end tested.All = None
untested_end (tested.Given words) = None
untested_end (tested.Members set) = None
untested_end (tested.Untested end) = Some end

-- its test, if the apply's end has this one
abbrev pub passes_untested : PushEnd → (test : ℕ → Bool) → ℕ → Bool
passes_untested tested.All test v = true
passes_untested (tested.Given words) test v = true
passes_untested (tested.Members set) test v = true
passes_untested (tested.Untested end) test v = test v

abbrev pub is_untested : PushEnd → Bool
is_untested tested.All = false
is_untested (tested.Given words) = false
is_untested (tested.Members set) = false
is_untested (tested.Untested end) = true

-- a set is kept as bits
abbrev pub IsInBits : PushEnd → Type 0
IsInBits tested.All = Unit {0}
IsInBits (tested.Given words) = Unit {0}
IsInBits (tested.Members set) = set.form ≡ Form.Bits
IsInBits (tested.Untested end) = Unit {0}

-- both tests together are that of the apply's end, on the first n vertices
pub record AreTests (n : ℕ) (m : StateValue) (test : ℕ → Bool) (e : PushEnd) : Type 0 where
  pub untested : IsEndTest (untested_end e) m (passes_untested e test)
  pub both : (v : ℕ) → v < n → passes_bits e v && passes_untested e test v ≡ test v
