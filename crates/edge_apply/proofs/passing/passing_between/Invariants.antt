use Rattle.std.proofs.Common.{◌≡◌, ℕ, ◌-◌, ◌<◌, ◌≤◌, ◌&&◌, nat_lt, Bool}
use Rattle.kernels.specs.EdgeApply.{is_member}
use Rattle.kernels.specs.State.{StateValue}
use Rattle.edge_fold.specs.Ends.{IsTest}
use Rattle.kernels.specs.Registers.{HasSizes}
use Rattle.vertex_sets.specs.declared.form.Form.TheVariants as form
use Rattle.edge_apply.proofs.passing.passing_between.Given as goal

-- those that pass among the numbers below the next are members
abbrev pub invariant-parts : goal.invariant-parts
invariant-parts l = record {
  vertices : l.set.vertices ≡ l.stop;
  form : l.set.form ≡ form.Bits;
  begun : l.first ≤ l.next;
  below : l.next ≤ l.stop;
  members : (m : StateValue) (test : ℕ → Bool) → l.context.vectors.now.vectors ≡ m.vectors → HasSizes l.context.sizes.now m → IsTest l.end m test
      → (v : ℕ) → l.first ≤ v → v < l.stop → is_member v l.set.members ≡ test v && nat_lt v l.next;
}

abbrev pub decreases-parts : goal.decreases-parts
decreases-parts l = l.stop - l.next
