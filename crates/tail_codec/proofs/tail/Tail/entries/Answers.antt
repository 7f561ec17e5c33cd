-- Proofs of `entries`, src/tail.rt.
use Rattle.std.proofs.Common.{sym, ◌∙◌, arith}
use Rattle.std.specs.List.{zip}
use Rattle.std.proofs.lemmas.List.{take_all}
use Rattle.std.proofs.lemmas.Slice.Zip.{length-zip}
use Rattle.tail_codec.proofs.Writing.{columns_anew}
use Rattle.tail_codec.proofs.tail.Tail.entries.Goals as goal

pub returns : goal.returns
returns c =
    let r = c.read_into in
    let keys = r.new.keys in
    let weights = r.new.weights in
    c.new.ensures
    ∙ columns_anew _ _ keys _ weights _ (r.auto.keys ∙ c.deref_mut.ensures.len) (r.auto.weights ∙ c.deref_mut-2.ensures.len)
    ∙ sym (take_all r.result (zip keys weights) (omega (arith, length-zip keys weights, r.ensures.position, r.auto.keys, c.deref_mut.ensures.len, c.in_ok-resize.ensures.len, c.len.ensures.len)))
    ∙ r.ensures.read
