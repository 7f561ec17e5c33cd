-- Proofs of `push_named`, src/named.rt.
use Rattle.std.proofs.Common.{◌≡◌, ◌<◌, ◌++◌, List, Option, option_to_list, Vec, Global, length, get_or, sym, ap, ◌∙◌, arith}
use Rattle.tree_batch.specs.declared.batch.Entry.{Entry}
use Rattle.tree_batch.specs.Edge.{Ends, named_by}
use Rattle.edge_differences.proofs.Naming.{named_more, none_more}
use Rattle.edge_differences.proofs.named.push_named.Goals as goal
use Rattle.edge_differences.proofs.named.push_named.Goals.{in-Some+in_ok-push-in-Some, in-None}

pub entries-preserved : goal.entries-preserved
entries-preserved c =
    let xs : List Entry = c.args.batch.now in
    let i = c.entries.index in
    let x : Entry = c.entry.result in
    let before = c.entries.ends.items in
    let inside : i < length xs = omega (arith, c.entries-test.true, c.len-index-end.ensures) in
    let named : c.ends.result ≡ named_by (get_or xs i x) = c.ends.ensures ∙ ap named_by (c.entry.ensures x) in
    named_more xs i x c.ends.result c.args.ends.now.items before c.match-ends.ends.items inside named c.entries.invariant (elim c.match-ends.branch [
      | in-Some+in_ok-push-in-Some w ↦
          ap (λ (v : Vec Ends Global). v.items) w.ends-is ∙ w.in_ok-push-in-Some.ensures.items ∙ ap (λ (o : Option Ends). before ++ option_to_list o) (sym w.in-Some.is)
      | in-None w ↦ ap (λ (v : Vec Ends Global). v.items) w.ends-is ∙ none_more before ∙ ap (λ (o : Option Ends). before ++ option_to_list o) (sym w.in-None.is)
    ])
