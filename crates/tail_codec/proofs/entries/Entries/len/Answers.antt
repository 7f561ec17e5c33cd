-- Proofs of `len`, src/entries.rt.
use Rattle.std.proofs.Common.{length, sym, ◌∙◌, ap}
use Rattle.std.specs.Option.{option_copied}
use Rattle.tail_codec.proofs.Columns.{length_in}
use Rattle.tail_codec.proofs.entries.Entries.len.Goals as goal

pub returns : goal.returns
returns c =
    let e = c.self.inside in
    sym (length_in e.keys.now (option_copied e.weights) c.self.invariant) ∙ ap length c.self.view_is
