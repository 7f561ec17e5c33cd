-- Proofs of `reduced_entries`, src/entry_contributions.rt.
use Rattle.std.proofs.lemmas.Option.{IfSome_then}
use Rattle.edge_fold.specs.Contributions.{all_given}
use Rattle.edge_fold.proofs.apply_context.ApplyContext.reduced_entries.Goals as goal

pub returns : goal.returns
returns c = IfSome_then c.weighed_by.result c.weighed_by.ensures (λ s is m steps are. is m (all_given m steps) are.vectors (c.in_ok-given.ensures m steps are))
