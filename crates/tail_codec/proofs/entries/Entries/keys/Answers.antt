-- Proofs of `keys`, src/entries.rt.
use Rattle.std.proofs.Common.{sym, ◌∙◌, ap}
use Rattle.std.specs.Map.{keys_of}
use Rattle.std.specs.Option.{option_copied}
use Rattle.tail_codec.proofs.Columns.{keys_in}
use Rattle.tail_codec.proofs.entries.Entries.keys.Goals as goal

pub returns : goal.returns
returns c =
    let e = c.self.inside in
    sym (keys_in e.keys.now (option_copied e.weights) c.self.invariant) ∙ ap keys_of c.self.view_is
