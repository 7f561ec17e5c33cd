-- Proofs of `put_fields`, src/calls.rt.
use Rattle.std.proofs.Common.{ℕ, List, ap, sym, ◌∙◌, ◌++◌}
use Rattle.std.specs.List.{concat}
use Rattle.apply_options.specs.ScheduleTree.{ScheduleTree}
use Rattle.schedule.proofs.Indices.{concat_last}
use Rattle.schedule.proofs.calls.Tables.put_fields.Goals as goal

pub returns-in_ok-push_group-in-Some-clause-taken : goal.returns-in_ok-push_group-in-Some-clause-taken
returns-in_ok-push_group-in-Some-clause-taken c =
    let group = c.in-Some.group in
    let told = rw c.in-Some.is at c.in_ok-group.ensures in
    told.1
    ∙ (ap (λ (keys : List ℕ). keys ++ group) c.requires
    ∙ (sym (concat_last c.args.schedule.now.groups group)
    ∙ ap (λ (s : ScheduleTree). concat s.groups) (sym c.in_ok-push_group-in-Some.ensures)))
