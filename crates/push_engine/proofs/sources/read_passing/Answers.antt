-- Proofs of `read_passing`, src/sources.rt.
use Rattle.std.proofs.Common.{◌≡◌, ◌+◌, ◌<◌, drop, length, length-drop, true, false, sym, ◌∙◌, arith}
use Rattle.std.specs.Map.{keys_of}
use Rattle.std.proofs.lemmas.List.{get_or-drop, length-set}
use Rattle.std.proofs.lemmas.Map.Entries.{length-keys_of}
use Rattle.edge_apply.specs.Words.{passes_words}
use Rattle.push_engine.proofs.Blocks.{one_at_most, one_read}
use Rattle.push_engine.proofs.sources.read_passing.Goals as goal

pub indices-preserved : goal.indices-preserved
indices-preserved c =
    let a = c.args in
    let i = c.indices.index in
    let k = c.indices.kept in
    let all = keys_of a.list.now in
    let n = k + c.from-kept.result in
    let long = length-keys_of a.list.now in
    let within = c.requires.inside in
    let inside : i < length (drop a.first all) = omega (arith, length-drop a.first all, long, within, c.indices-test.true) in
    let fits : k < length c.indices.keys = omega (arith, c.indices.invariant.few, c.indices.invariant.room, c.requires.room, c.indices-test.true) in
    let on : c.passes.result ≡ true → n ≡ k + 1 = λ e. let one : c.from-kept.result ≡ 1 = rw e at c.from-kept.ensures in omega (arith, one) in
    let off : c.passes.result ≡ false → n ≡ k = λ e. let none : c.from-kept.result ≡ 0 = rw e at c.from-kept.ensures in omega (arith, none) in
    record {
      few = omega (arith, c.indices.invariant.few, one_at_most k n c.passes.result on off);
      room = length-set c.indices.keys k c.neighbour-vertex.result ∙ c.indices.invariant.room;
      passing = one_read (passes_words a.words) (drop a.first all) c.indices.keys k i c.neighbour-vertex.result n c.passes.result inside fits (sym c.passes.ensures)
          (c.neighbour-vertex.ensures ∙ sym (get_or-drop a.first all i 0)) on off c.indices.invariant.passing;
    }
