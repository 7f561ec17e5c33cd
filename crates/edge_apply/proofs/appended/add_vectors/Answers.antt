-- Proofs of `add_vectors`, src/appended.rt.
use Rattle.std.proofs.Common.{◌≤◌, length, sym, ap, ◌∙◌}
use Rattle.std.proofs.lemmas.List.{take_all}
use Rattle.edge_fold.specs.Changed.{changes_of}
use Rattle.edge_apply.proofs.PartChanges.{others_next}
use Rattle.edge_apply.proofs.appended.add_vectors.Goals as goal

pub vectors-preserved : goal.vectors-preserved
vectors-preserved c =
    let ds = c.args.part.now in
    let d = c.of_vector-item.result in
    let added = c.in_ok-add_vector.ensures in
    record {
      once = λ apart. added.once (c.vectors.invariant.once apart);
      all = λ x have. added.all x (c.vectors.invariant.all x have);
      named = λ x off.
          let now = added.named x off in
          let was = c.vectors.invariant.named x now.0 in
          (was.0, others_next x ds c.vectors.of_vector-index d c.vectors-test.true c.of_vector-item.is now.1 was.1);
    }

pub returns-clause-named : goal.returns-clause-named
returns-clause-named c x off =
    let ds = c.args.part.now in
    let all : length ds ≤ c.vectors.of_vector-index = c.vectors-test.false in
    let was = c.vectors.invariant.named x off in
    (was.0, ap (changes_of x) (sym (take_all c.vectors.of_vector-index ds all)) ∙ was.1)
