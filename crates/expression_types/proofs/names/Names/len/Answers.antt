-- Proofs of `len`, src/names.rt.
use Rattle.std.proofs.Common.{ap, sym, ◌∙◌, length}
use Rattle.expression_types.proofs.NamesLaws.{length-shown}
use Rattle.expression_types.proofs.names.Names.len.Goals as goal

pub returns-clause-len : goal.returns-clause-len
returns-clause-len g c = c.len.ensures.len ∙ sym (length-shown c.self.inside.entries.entries) ∙ ap length c.self.view_is
