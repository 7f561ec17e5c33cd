-- Proofs of `up_to`, src/entries.rt.
use Rattle.std.proofs.Common.{None, Some, take, sym, ◌∙◌, ap, arith}
use Rattle.tail_codec.proofs.Columns.{keys_long, seen_zip, seen_ones, take_in}
use Rattle.tail_codec.proofs.entries.Entries.up_to.Goals as goal

pub prove-unreachable-requires : goal.prove-unreachable-requires
prove-unreachable-requires c =
    let e = c.self.inside in
    omega (arith, c.requires, c.if-prove.true, keys_long e.keys.now e.weights c.args.self.now c.self.invariant c.self.view_is)

pub returns-in-None : goal.returns-in-None
returns-in-None c =
    let e = c.self.inside in
    let n = c.args.position in
    c.of_keys.ensures ∙ sym (take_in n e.keys.now None) ∙ ap (take n) (seen_ones e.keys.now e.weights c.args.self.now c.self.invariant c.self.view_is c.in-None.is)

pub returns-in-Some : goal.returns-in-Some
returns-in-Some c =
    let e = c.self.inside in
    let n = c.args.position in
    let ws = c.in-Some.weights in
    c.new.ensures ∙ sym (take_in n e.keys.now (Some ws.now)) ∙ ap (take n) (seen_zip e.keys.now e.weights c.args.self.now c.self.invariant c.self.view_is ws c.in-Some.is)
