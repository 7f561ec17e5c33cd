-- Proofs of `listed`, src/differences.rt.
use Rattle.std.proofs.Common.{ℕ, List, ◌++◌, ◌∙◌, ap, sym, append-nil}
use Rattle.run_records.proofs.SideBySide.{listed_more}
use Rattle.run_records.proofs.differences.listed.Goals as goal

pub members-preserved : goal.members-preserved
members-preserved c =
    listed_more c.members.list.items _ c.next.new.self _ c.in-Some.member c.in_ok-push.ensures.items c.in-Some.ensures.steps ∙ c.members.invariant

pub returns : goal.returns
returns c = sym (append-nil c.members.list.items) ∙ sym (ap (λ (us : List ℕ). c.members.list.items ++ us) c.in-None.ensures.steps.0) ∙ c.members.invariant
