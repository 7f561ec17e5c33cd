-- Proofs of `have_same_members`, src/differences.rt.
use Rattle.std.proofs.Common.{◌≡◌, ℕ, ◌/◌, ◌%◌, Bool, true, false, List, slice_index, slice_index_or, sym, subst, ◌∙◌}
use Rattle.std.specs.Int.{bit_at}
use Rattle.std.specs.Cmp.{booleans_Decides}
use Rattle.std.specs.Cmp.Lexicographic.{pointwise_decides, same_text}
use Rattle.run_records.proofs.SameMembers.{same_member}
use Rattle.run_records.proofs.differences.have_same_members.Goals as goal

pub returns-in-Some-Some : goal.returns-in-Some-Some
returns-in-Some-Some c same v =
    let is = same_text c.in-Some-Some.words.now c.in-Some-Some.others.now (sym same ∙ c.eq.ensures) in
    let set = c.in-Some-Some.ensures.members.members v in
    let other = c.in-Some-Some.ensures'.members.members v in
    let IsSet = λ (ws : List ℕ). bit_at (slice_index ws (v / 64)) (v % 64) ≡ 1 in
    same_member v c.args.set.now.members c.args.other.now.members
    (λ h. other.1 (subst IsSet is (set.0 h))) (λ h. set.1 (subst IsSet (sym is) (other.0 h)))

pub returns-in-Some-Some-3 : goal.returns-in-Some-Some-3
returns-in-Some-Some-3 c same v =
    let is = (pointwise_decides booleans_Decides c.in-Some-Some-3.flags.now c.in-Some-Some-3.others.now).0 (sym c.eq-in-Some-Some-3.ensures ∙ same) in
    let set = c.in-Some-Some-3.ensures.members.members v in
    let other = c.in-Some-Some-3.ensures'.members.members v in
    let IsSet = λ (flags : List Bool). slice_index_or flags v false ≡ true in
    same_member v c.args.set.now.members c.args.other.now.members
    (λ h. other.1 (subst IsSet is (set.0 h))) (λ h. set.1 (subst IsSet (sym is) (other.0 h)))
