-- Proofs of `add_vectors`, src/vector_splices.rt.
use Rattle.std.proofs.Common.{◌≤◌, length, sym, ap, ◌∙◌}
use Rattle.std.proofs.lemmas.List.{take_all}
use Rattle.edge_fold.specs.Changed.{changes_of}
use Rattle.edge_apply.proofs.PartChanges.{others_next}
use Rattle.follow_engine.proofs.vector_splices.add_vectors.Goals as goal

pub listed-preserved : goal.listed-preserved
listed-preserved c =
    let ds = c.args.listed.now in
    let d = c.of_vector-item.result in
    let added = c.in_ok-add_vector.ensures in
    record {
      once = λ apart. added.once (c.listed.invariant.once apart);
      all = λ x have. added.all x (c.listed.invariant.all x have);
      named = λ x off.
          let now = added.named x off in
          let was = c.listed.invariant.named x now.0 in
          (was.0, others_next x ds c.listed.of_vector-index d c.listed-test.true c.of_vector-item.is now.1 was.1);
    }

pub returns-clause-named : goal.returns-clause-named
returns-clause-named c x off =
    let ds = c.args.listed.now in
    let all : length ds ≤ c.listed.of_vector-index = c.listed-test.false in
    let was = c.listed.invariant.named x off in
    (was.0, ap (changes_of x) (sym (take_all c.listed.of_vector-index ds all)) ∙ was.1)
