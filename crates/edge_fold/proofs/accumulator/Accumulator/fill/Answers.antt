-- Proofs of `fill`, src/old_entries.rt.
use Rattle.std.proofs.Common.{[], sym, subst}
use Rattle.edge_fold.specs.inside.Held.{AreJoined}
use Rattle.edge_fold.specs.declared.initial_entries.InitialEntries.{InitialEntries}
use Rattle.edge_fold.proofs.accumulator.Accumulator.fill.Goals as goal

pub returns-in-Entries : goal.returns-in-Entries
returns-in-Entries c r = subst (λ (o : InitialEntries). AreJoined o r c.args.self.now c.fill_from.new.self []) (sym c.in-Entries.is) (c.fill_from.ensures r)
