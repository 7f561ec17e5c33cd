-- Proofs of `weight`, src/entries.rt.
use Rattle.std.proofs.Common.{ℕ, ◌<◌, ℤ, pos, List, length, get_or, sym, ◌∙◌, ap, arith, rules}
use Rattle.tail_codec.proofs.Columns.{keys_long, weights_long, some_long, seen_zip, seen_ones, weight_one, weight_in}
use Rattle.tail_codec.proofs.entries.Entries.weight.Goals as goal

pub prove-unreachable-requires : goal.prove-unreachable-requires
prove-unreachable-requires c =
    let e = c.self.inside in
    omega (arith, c.requires, c.if-prove.true, weights_long e.keys.now e.weights c.args.self.now c.self.invariant c.self.view_is c.in-Some.weights c.in-Some.is)

pub returns-in-None : goal.returns-in-None
returns-in-None c =
    let e = c.self.inside in
    let i = c.args.position in
    let within : i < length e.keys.now = omega (arith, c.requires, keys_long e.keys.now e.weights c.args.self.now c.self.invariant c.self.view_is) in
    sym (weight_one e.keys.now i within) ∙ ap (λ (v : List (ℕ × ℤ)). (get_or v i (0, pos 0)).1) (seen_ones e.keys.now e.weights c.args.self.now c.self.invariant c.self.view_is c.in-None.is)

pub returns-in-Some : goal.returns-in-Some
returns-in-Some c =
    let e = c.self.inside in
    let i = c.args.position in
    let ws = c.in-Some.weights in
    let within : i < length e.keys.now = omega (arith, c.requires, keys_long e.keys.now e.weights c.args.self.now c.self.invariant c.self.view_is) in
    let long = some_long e.keys.now e.weights c.args.self.now c.self.invariant c.self.view_is ws c.in-Some.is in
    rw (← seen_zip e.keys.now e.weights c.args.self.now c.self.invariant c.self.view_is ws c.in-Some.is, weight_in e.keys.now ws.now i long within) (search rules)
