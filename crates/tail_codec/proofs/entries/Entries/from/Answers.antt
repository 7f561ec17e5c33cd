-- Proofs of `from`, src/entries.rt.
use Rattle.std.proofs.Common.{◌-◌, None, Some, length, take, drop, sym, ◌∙◌, ap, arith}
use Rattle.std.specs.List.{zip}
use Rattle.std.proofs.lemmas.List.{take_rest}
use Rattle.tail_codec.specs.Columns.{entries_in}
use Rattle.tail_codec.proofs.Columns.{keys_long, seen_zip, seen_ones, drop_in}
use Rattle.tail_codec.proofs.entries.Entries.from.Goals as goal

pub prove-unreachable-requires : goal.prove-unreachable-requires
prove-unreachable-requires c =
    let e = c.self.inside in
    omega (arith, c.requires, c.if-prove.true, keys_long e.keys.now e.weights c.args.self.now c.self.invariant c.self.view_is)

pub returns-in-None : goal.returns-in-None
returns-in-None c =
    let e = c.self.inside in
    let n = c.args.position in
    c.of_keys.ensures ∙ ap (λ v. entries_in v None) (take_rest e.keys.now n) ∙ sym (drop_in n e.keys.now None)
    ∙ ap (drop n) (seen_ones e.keys.now e.weights c.args.self.now c.self.invariant c.self.view_is c.in-None.is)

pub returns-in-Some : goal.returns-in-Some
returns-in-Some c =
    let e = c.self.inside in
    let n = c.args.position in
    let ws = c.in-Some.weights in
    c.new.ensures
    ∙ ap (λ v. zip v (take (length ws.now - n) (drop n ws.now))) (take_rest e.keys.now n)
    ∙ ap (λ v. zip (drop n e.keys.now) v) (take_rest ws.now n)
    ∙ sym (drop_in n e.keys.now (Some ws.now)) ∙ ap (drop n) (seen_zip e.keys.now e.weights c.args.self.now c.self.invariant c.self.view_is ws c.in-Some.is)
