-- Proofs of `get`, src/names.rt.
use Rattle.std.proofs.Common.{ap, ◌∙◌}
use Rattle.expression_types.specs.ScopeTree.{found}
use Rattle.expression_types.proofs.NamesLaws.{found-shown}
use Rattle.expression_types.proofs.names.Names.get.Goals as goal

pub returns : goal.returns
returns g c = c.copied.ensures ∙ c.get.ensures.value ∙ found-shown c.args.name.now c.self.inside.entries.entries ∙ ap (found c.args.name.now) c.self.view_is
