-- Proofs of `is_apart`, src/fusing/fits.rt.
use Rattle.std.proofs.Common.{◌∙◌}
use Rattle.typed_tree.specs.ProgramTree.{program_tree}
use Rattle.plans.specs.inside.Parts.{edge_apply_tree}
use Rattle.lowering.proofs.SetsRead.{edges_are_apart}
use Rattle.lowering.proofs.fusing.fits.is_apart.Goals as goal

pub returns-in-Some : goal.returns-in-Some
returns-in-Some c = rw (c.in-Some.is) (c.edges_do_omit.ensures ∙ edges_are_apart c.in-Some.set (program_tree c.args.program.now) (edge_apply_tree c.args.edges.now))
