-- Proofs of `insert`, src/set.rt.
use Rattle.std.proofs.Common.{◌≡◌, ◌<◌, length, refl, ◌∙◌, ap, subst, arith}
use Rattle.vertex_sets.specs.declared.set.Members.TheVariants.{Listed, Flagged, Worded}
use Rattle.vertex_sets.specs.inside.Words.{word_members}
use Rattle.vertex_sets.specs.VertexSet.{IsAscendingBelow}
use Rattle.vertex_sets.specs.inside.Stored.{IsStored}
use Rattle.vertex_sets.proofs.StoredSets.{valid_members, added, on_ok, still_below, inserted_list}
use Rattle.vertex_sets.proofs.set.VertexSet.insert.Goals as goal
use Rattle.vertex_sets.proofs.set.VertexSet.insert.Goals.{in-Listed, in-Flagged, in-Worded}

pub invariant_of-self : goal.invariant_of-self
invariant_of-self c =
    let n = c.self.inside.vertices in
    let lt : c.args.vertex < n = omega (arith, c.requires, ap (λ s. s.vertices) c.self.view_is) in
    elim c.match-self.branch [
      | in-Listed w ↦
          let was : IsAscendingBelow n w.in-Listed.members.items = subst (λ m. IsStored n m) w.in-Listed.is c.self.invariant in
          rw w.self-inside-is (
          inserted_list n c.args.vertex w.in-Listed.members.items w.insert.new.list.items w.insert.result lt was w.insert.ensures.ascending w.insert.ensures.added
          w.insert.ensures.err
          )
      | in-Flagged w ↦
          let was : length w.in-Flagged.set.flags.items ≡ n = subst (λ m. IsStored n m) w.in-Flagged.is c.self.invariant in
          rw w.self-inside-is (w.insert-in-Flagged.ensures.vertices ∙ was)
      | in-Worded w ↦
          let was : IsStored n (Worded w.in-Worded.set) = subst (λ m. IsStored n m) w.in-Worded.is c.self.invariant in
          let words = w.in-Worded.set.words.items in
          let next = w.insert-in-Worded.new.self.words.items in
          rw w.self-inside-is (w.insert-in-Worded.ensures.vertices ∙ was.0, still_below n c.args.vertex (word_members 0 words) (word_members 0 next) lt was.1 w.insert-in-Worded.ensures.added)
    ]

pub returns-clause-added : goal.returns-clause-added
returns-clause-added c =
    let n = c.self.inside.vertices in
    let m = c.self.inside.members in
    let s = c.args.self.now in
    let v = c.args.vertex in
    elim c.match-self.branch [
      | in-Listed w ↦
          rw (w.result-is, w.self-inside-is) (
          on_ok w.insert.result _ _
          (λ more. added n m s c.self.invariant c.self.view_is v (Listed w.in-Listed.members) (Listed w.insert.new.list) w.in-Listed.is refl more) w.insert.ensures.added
          )
      | in-Flagged w ↦
          rw (w.result-is, w.self-inside-is)
          (added n m s c.self.invariant c.self.view_is v (Flagged w.in-Flagged.set) (Flagged w.insert-in-Flagged.new.self) w.in-Flagged.is refl w.insert-in-Flagged.ensures.added)
      | in-Worded w ↦
          rw (w.result-is, w.self-inside-is)
          (added n m s c.self.invariant c.self.view_is v (Worded w.in-Worded.set) (Worded w.insert-in-Worded.new.self) w.in-Worded.is refl w.insert-in-Worded.ensures.added)
    ]

pub returns-clause-valid : goal.returns-clause-valid
returns-clause-valid c = valid_members c.match-self.self-inside.vertices c.match-self.self-inside.members (invariant_of-self c)
