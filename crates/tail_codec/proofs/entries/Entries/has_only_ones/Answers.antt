-- Proofs of `has_only_ones`, src/entries.rt.
use Rattle.std.proofs.Common.{◌≡◌, Bool, true, not, None, Some, Option, refl, ◌∙◌}
use Rattle.std.specs.Option.{is_some}
use Rattle.std.proofs.lemmas.Bool.{true≢false, not_from_true}
use Rattle.tail_codec.proofs.Columns.{only_ones}
use Rattle.tail_codec.proofs.entries.Entries.has_only_ones.Goals as goal

none_from : {A : Type 0} (o : Option A) (b : Bool) → is_some o ≡ not b → b ≡ true → o ≡ None
none_from None b is holds = refl
none_from (Some x) b is holds = absurd (true≢false (is ∙ not_from_true b holds))

pub returns : goal.returns
returns c = λ holds.
    let e = c.self.inside in
    only_ones e.keys.now e.weights c.args.self.now c.self.invariant c.self.view_is (none_from e.weights c.is_none.result c.is_none.ensures holds)
