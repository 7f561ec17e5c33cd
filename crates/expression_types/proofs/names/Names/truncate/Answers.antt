-- Proofs of `truncate`, src/names.rt.
use Rattle.std.proofs.Common.{ap, ◌∙◌, take}
use Rattle.expression_types.specs.inside.Names.{shown}
use Rattle.expression_types.proofs.NamesLaws.{take-shown}
use Rattle.expression_types.proofs.names.Names.truncate.Goals as goal

pub returns : goal.returns
returns g c = ap shown c.truncate.ensures.entries ∙ take-shown c.args.len c.self.inside.entries.entries ∙ ap (take c.args.len) c.self.view_is
