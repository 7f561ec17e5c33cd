-- Proofs of `group_of`, src/calls.rt.
use Rattle.std.proofs.Common.{◌≡◌, ap, sym, ◌∙◌, ℕ, ◌+◌, Bool, false, nat_eq, List, [], ◌∷◌, ◌++◌, drop, Some}
use Rattle.std.proofs.lemmas.Bool.{not-false, not-true}
use Rattle.std.proofs.lemmas.List.{append_assoc, at_drop_all}
use Rattle.std.specs.List.{list_any}
use Rattle.std.specs.Prelude.{if◌then◌else◌}
use Rattle.typed_tree.specs.ProgramTree.{program_tree}
use Rattle.schedule.specs.Calls.{grown}
use Rattle.schedule.specs.Schedule.{vector_by_name}
use Rattle.schedule.proofs.Growing.{grown_on, grown_taken, grown_unknown}
use Rattle.schedule.proofs.calls.Tables.group_of.Goals as goal

pub returns-in_default : goal.returns-in_default
returns-in_default c =
    let p = program_tree c.args.self.now.program.now in
    sym c.names.invariant.group
    ∙ grown_unknown p c.args.taken.now.keys c.names.group.items c.args.names.now c.names.name-index c.name-item.result c.names-test.true c.name-item.is
    (ap (vector_by_name p) (sym c.as_slice.ensures) ∙ sym c.vector.ensures ∙ c.in_default.is)

pub returns-then-not-branch : goal.returns-then-not-branch
returns-then-not-branch c =
    let p = program_tree c.args.self.now.program.now in
    let v = c.in-Some.vector in
    sym c.names.invariant.group
    ∙ grown_taken p c.args.taken.now.keys c.names.group.items c.args.names.now c.names.name-index c.name-item.result c.names-test.true c.name-item.is v
    (ap (vector_by_name p) (sym c.as_slice.ensures) ∙ sym c.vector.ensures ∙ c.in-Some.is)
    (ap (list_any (nat_eq v)) (sym c.names.invariant.taken) ∙ not-false _ (sym c.in_ok-insert.ensures.added ∙ c.if-not-branch.true))

pub names-preserved : goal.names-preserved
names-preserved c =
    let p = program_tree c.args.self.now.program.now in
    let taken = c.args.taken.now.keys in
    let before = c.names.taken.keys in
    let v = c.in-Some.vector in
    let new : list_any (nat_eq v) before ≡ false = not-true _ (sym c.in_ok-insert.ensures.added ∙ c.if-not-branch.false) in
    record {
      group =
          ap (λ (group : List ℕ). grown p taken group (drop (c.names.name-index + 1) c.args.names.now)) c.in_ok-push.ensures.items
          ∙ sym (grown_on p taken c.names.group.items c.args.names.now c.names.name-index c.name-item.result c.names-test.true c.name-item.is v
          (ap (vector_by_name p) (sym c.as_slice.ensures) ∙ sym c.vector.ensures ∙ c.in-Some.is)
          (ap (list_any (nat_eq v)) (sym c.names.invariant.taken) ∙ new))
          ∙ c.names.invariant.group;
      taken =
          c.in_ok-insert.ensures.keys
          ∙ ap (λ (there : Bool). if there then before else before ++ v ∷ []) new
          ∙ ap (λ (keys : List ℕ). keys ++ v ∷ []) c.names.invariant.taken
          ∙ append_assoc taken c.names.group.items (v ∷ [])
          ∙ ap (λ (group : List ℕ). taken ++ group) (sym c.in_ok-push.ensures.items);
    }

pub returns : goal.returns
returns c =
    let p = program_tree c.args.self.now.program.now in
    let taken = c.args.taken.now.keys in
    let group = c.names.group.items in (
      sym c.names.invariant.group ∙ at_drop_all (grown p taken group) c.args.names.now c.names.name-index c.names-test.false ∙ ap (λ (g : List ℕ). Some g) (sym c.new.ensures),
      c.names.invariant.taken ∙ ap (λ (g : List ℕ). taken ++ g) (sym c.new.ensures),
    )
