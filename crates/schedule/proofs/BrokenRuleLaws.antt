-- A call that is accepted breaks no rule, and one that is not is told by the least rule that it breaks.
use Rattle.std.proofs.Common.{◌≡◌, ◌⊎◌, ◌<◌, ◌≤◌, ◌↔◌, inl, inr, refl, sym, ap, subst, ◌∙◌, arith, lit≤, ℕ, nat_eq, nat_lt, Bool, true, false, not, ◌||◌, if◌then◌else◌, length, List, [], ◌∷◌, ◌++◌}
use Rattle.std.proofs.Common.{Option, Some, None, Result, Ok, Err}
use Rattle.std.specs.Prelude.{IsOk, IsSome}
use Rattle.std.specs.Cmp.{nat_eq_equiv}
use Rattle.std.specs.List.{concat, Contains, list_any}
use Rattle.std.proofs.lemmas.Bool.Decides.{nat_tests}
use Rattle.std.proofs.lemmas.List.{append_assoc, append-nil}
use Rattle.std.proofs.lemmas.List.Elements.{Contains-append_left, Contains-push, Contains-push_cases}
use Rattle.std.proofs.lemmas.Map.Views.{Contains-from_any, list_any-from_Contains}
use Rattle.apply_options.specs.declared.apply_schedule.ApplySchedule.{ApplySchedule}
use Rattle.apply_options.specs.declared.setting.Setting.{Setting}
use Rattle.apply_options.specs.declared.setting.Setting.TheVariants as setting
use Rattle.apply_options.specs.ScheduleTree.{ScheduleTree, apply_schedule_of}
use Rattle.typed_tree.specs.declared.apply.StatementApply.{StatementApply}
use Rattle.typed_tree.specs.declared.apply.StatementApply.TheVariants.{Vertices, Edges}
use Rattle.typed_tree.specs.Independence.{are_independent, have_same_sets}
use Rattle.typed_tree.specs.ProgramTree.{ProgramTree, ScheduleCallTree}
use Rattle.schedule.specs.declared.error.ScheduleRule.{ScheduleRule}
use Rattle.schedule.specs.declared.error.ScheduleRule.TheVariants as rule
use Rattle.schedule.specs.BrokenRules.{AppliesNoEdges, BreakNoRule, BreaksConfigRule, BreaksFields, BreaksFieldsRule, BreaksFuseRule, BreaksRule, BreaksRuleOf, HasNoVector, HasValueOf, InGroup}
use Rattle.schedule.specs.BrokenRules.{IsFusedTwice, IsLeastBroken, IsNoValue, IsRefused, NamedTwice, NamesOneTwice, NamesVector, NoVector, OnApplies, OnLabel, OnLabels, TooFew, WithTwo}
use Rattle.schedule.specs.Calls.{after_call, and_then, apply_at, first_given, fuse_at, fuse_or, fusing_fault_of, fusing_of_two, given, grown, grown_by, is_followed_by, schedule_of, two_of, value_at}
use Rattle.schedule.specs.Calls.{value_of_two, value_on, with_call, with_call_of, with_calls, with_group}
use Rattle.schedule.specs.Schedule.{label_index, vector_by_name, empty_schedule, is_fused, with_apply_schedule, dense_vertex_set_of, direction_of, parallelization_of}
use Rattle.schedule.specs.Refusal.{number_of_rule}
use Rattle.schedule.proofs.CallSteps.{ok_is}

-- what a call comes to tells which rules it breaks
abbrev Tells : {A : Type 0} → (ScheduleRule → Type 0) → Result A ScheduleRule → Type 0
Tells Breaks (Ok new) = (r : ScheduleRule) → Breaks r → ⊥
Tells Breaks (Err r) = IsLeastBroken Breaks r

two_indices : (o : Option ℕ) (a b : ℕ) → o ≡ Some a → o ≡ Some b → a ≡ b
two_indices o a b is e = cc

two_applies : (o : Option StatementApply) (a b : StatementApply) → o ≡ Some a → o ≡ Some b → a ≡ b
two_applies o a b is e = cc

nowhere : {A : Type 0} (o : Option A) (a : A) → o ≡ None → o ≡ Some a → ⊥
nowhere o a none some = cc

true_is_false : (b : Bool) → b ≡ true → b ≡ false → ⊥
true_is_false b one other = cc

-- no rule has a lesser number than 301, and none but that of labels a lesser than 302
least_number : (r : ScheduleRule) → 301 ≤ number_of_rule r
least_number rule.UnknownLabel = lit≤ tt
least_number rule.NoApply = lit≤ tt
least_number rule.BadArgument = lit≤ tt
least_number rule.GivenTwice = lit≤ tt
least_number rule.NotAdjacent = lit≤ tt
least_number rule.DifferentSets = lit≤ tt
least_number rule.NotIndependent = lit≤ tt
least_number rule.BadFields = lit≤ tt

-- a `config` call
label_is : (p : ProgramTree) (name : List ℕ) (label : ℕ) (P : ℕ → Type 0) → label_index p name ≡ Some label → OnLabel p name P → P label
label_is p name label P is on = subst P (two_indices (label_index p name) on.label label on.named is) on.holds

no_label : (p : ProgramTree) (name : List ℕ) (P : ℕ → Type 0) → label_index p name ≡ None → OnLabel p name P → ⊥
no_label p name P is on = nowhere (label_index p name) on.label is on.named

unknown_label : (p : ProgramTree) (s : ScheduleTree) (which : Setting) (name text : List ℕ) → label_index p name ≡ None → IsLeastBroken (BreaksConfigRule p s which name text) rule.UnknownLabel
unknown_label p s which name text is = record { broken = is; least = λ other breaks. least_number other }

no_edges_least : (p : ProgramTree) (s : ScheduleTree) (which : Setting) (name text : List ℕ) (label : ℕ) → label_index p name ≡ Some label
    → (other : ScheduleRule) → BreaksConfigRule p s which name text other → 302 ≤ number_of_rule other
no_edges_least p s which name text label is rule.UnknownLabel breaks = absurd (nowhere (label_index p name) label breaks is)
no_edges_least p s which name text label is rule.NoApply breaks = lit≤ tt
no_edges_least p s which name text label is rule.BadArgument breaks = lit≤ tt
no_edges_least p s which name text label is rule.GivenTwice breaks = lit≤ tt
no_edges_least p s which name text label is rule.NotAdjacent breaks = absurd breaks
no_edges_least p s which name text label is rule.DifferentSets breaks = absurd breaks
no_edges_least p s which name text label is rule.NotIndependent breaks = absurd breaks
no_edges_least p s which name text label is rule.BadFields breaks = absurd breaks

no_edges : (p : ProgramTree) (s : ScheduleTree) (which : Setting) (name text : List ℕ) (label : ℕ) → label_index p name ≡ Some label → AppliesNoEdges (apply_at p label)
    → IsLeastBroken (BreaksConfigRule p s which name text) rule.NoApply
no_edges p s which name text label is none = record {
  broken = record { label = label; named = is; holds = none };
  least = no_edges_least p s which name text label is;
}

-- what is known of a `config` call on an edge apply, of which only its value and the one before are open
record OnEdges (p : ProgramTree) (s : ScheduleTree) (which : Setting) (name text : List ℕ) (label : ℕ) : Type 0 where
  named : label_index p name ≡ Some label
  edges : AppliesNoEdges (apply_at p label) → ⊥

config_breaks_none : (p : ProgramTree) (s : ScheduleTree) (which : Setting) (name text : List ℕ) (label : ℕ) → OnEdges p s which name text label
    → (IsNoValue which text → ⊥) → (HasValueOf which (apply_schedule_of label s) → ⊥) → (r : ScheduleRule) → BreaksConfigRule p s which name text r → ⊥
config_breaks_none p s which name text label on value before rule.UnknownLabel breaks = nowhere (label_index p name) label breaks on.named
config_breaks_none p s which name text label on value before rule.NoApply breaks = on.edges (label_is p name label (λ label. AppliesNoEdges (apply_at p label)) on.named breaks)
config_breaks_none p s which name text label on value before rule.BadArgument breaks = value breaks
config_breaks_none p s which name text label on value before rule.GivenTwice breaks = before (label_is p name label (λ label. HasValueOf which (apply_schedule_of label s)) on.named breaks)
config_breaks_none p s which name text label on value before rule.NotAdjacent breaks = breaks
config_breaks_none p s which name text label on value before rule.DifferentSets breaks = breaks
config_breaks_none p s which name text label on value before rule.NotIndependent breaks = breaks
config_breaks_none p s which name text label on value before rule.BadFields breaks = breaks

bad_value_least : (p : ProgramTree) (s : ScheduleTree) (which : Setting) (name text : List ℕ) (label : ℕ) → OnEdges p s which name text label
    → (other : ScheduleRule) → BreaksConfigRule p s which name text other → 303 ≤ number_of_rule other
bad_value_least p s which name text label on rule.UnknownLabel breaks = absurd (nowhere (label_index p name) label breaks on.named)
bad_value_least p s which name text label on rule.NoApply breaks = absurd (on.edges (label_is p name label (λ label. AppliesNoEdges (apply_at p label)) on.named breaks))
bad_value_least p s which name text label on rule.BadArgument breaks = lit≤ tt
bad_value_least p s which name text label on rule.GivenTwice breaks = lit≤ tt
bad_value_least p s which name text label on rule.NotAdjacent breaks = lit≤ tt
bad_value_least p s which name text label on rule.DifferentSets breaks = lit≤ tt
bad_value_least p s which name text label on rule.NotIndependent breaks = lit≤ tt
bad_value_least p s which name text label on rule.BadFields breaks = lit≤ tt

given_twice_least : (p : ProgramTree) (s : ScheduleTree) (which : Setting) (name text : List ℕ) (label : ℕ) → OnEdges p s which name text label → (IsNoValue which text → ⊥)
    → (other : ScheduleRule) → BreaksConfigRule p s which name text other → 304 ≤ number_of_rule other
given_twice_least p s which name text label on value rule.UnknownLabel breaks = absurd (nowhere (label_index p name) label breaks on.named)
given_twice_least p s which name text label on value rule.NoApply breaks = absurd (on.edges (label_is p name label (λ label. AppliesNoEdges (apply_at p label)) on.named breaks))
given_twice_least p s which name text label on value rule.BadArgument breaks = absurd (value breaks)
given_twice_least p s which name text label on value rule.GivenTwice breaks = lit≤ tt
given_twice_least p s which name text label on value rule.NotAdjacent breaks = lit≤ tt
given_twice_least p s which name text label on value rule.DifferentSets breaks = lit≤ tt
given_twice_least p s which name text label on value rule.NotIndependent breaks = lit≤ tt
given_twice_least p s which name text label on value rule.BadFields breaks = lit≤ tt

not_some : {X : Type 0} (o : Option X) → o ≡ None → IsSome o → ⊥
not_some None is some = cc
not_some (Some x) is some = cc

-- the value of the call, and the one that the label had before
value_tells : {X : Type 0} (p : ProgramTree) (s : ScheduleTree) (which : Setting) (name text : List ℕ) (label : ℕ) (f : Option X → ApplySchedule) (before value : Option X)
    → OnEdges p s which name text label → (IsNoValue which text ↔ (value ≡ None)) → (HasValueOf which (apply_schedule_of label s) ↔ IsSome before)
    → Tells (BreaksConfigRule p s which name text) (and_then (and_then (first_given before value) f) (λ c. with_apply_schedule label c s))
value_tells p s which name text label f before None on no_value has = record {
  broken = no_value.1 refl;
  least = bad_value_least p s which name text label on;
}
value_tells {X = X} p s which name text label f None (Some v) on no_value has =
    config_breaks_none p s which name text label on (λ is. nowhere (Some v) v (no_value.0 is) refl) (λ is. not_some {X = X} None refl (has.0 is))
value_tells p s which name text label f (Some w) (Some v) on no_value has = record {
  broken = record { label = label; named = on.named; holds = has.1 refl };
  least = given_twice_least p s which name text label on (λ is. nowhere (Some v) v (no_value.0 is) refl);
}

same_none : {A : Type 0} (o : Option A) → (o ≡ None) ↔ (o ≡ None)
same_none o = (λ is. is, λ is. is)

same_some : {A : Type 0} (o : Option A) → IsSome o ↔ IsSome o
same_some o = (λ is. is, λ is. is)

abbrev IsConfigSetting : Setting → Type 0
IsConfigSetting setting.Direction = Unit {0}
IsConfigSetting setting.Parallelization = Unit {0}
IsConfigSetting setting.DenseVertexSet = Unit {0}
IsConfigSetting setting.FuseFunctions = ⊥
IsConfigSetting setting.FuseFields = ⊥

given_tells : (p : ProgramTree) (s : ScheduleTree) (which : Setting) (name text : List ℕ) (label : ℕ) → IsConfigSetting which → OnEdges p s which name text label
    → Tells (BreaksConfigRule p s which name text) (and_then (given which text (apply_schedule_of label s)) (λ c. with_apply_schedule label c s))
given_tells p s setting.Direction name text label config on =
    let c = apply_schedule_of label s in
    value_tells p s setting.Direction name text label (λ value. record c { direction = value }) c.direction (direction_of text) on (same_none (direction_of text)) (same_some c.direction)
given_tells p s setting.Parallelization name text label config on =
    let c = apply_schedule_of label s in
    value_tells p s setting.Parallelization name text label (λ value. record c { parallelization = value }) c.parallelization (parallelization_of text) on
    (same_none (parallelization_of text)) (same_some c.parallelization)
given_tells p s setting.DenseVertexSet name text label config on =
    let c = apply_schedule_of label s in
    value_tells p s setting.DenseVertexSet name text label (λ value. record c { dense_vertex_set = value }) c.dense_vertex_set (dense_vertex_set_of text) on
    (same_none (dense_vertex_set_of text)) (same_some c.dense_vertex_set)
given_tells p s setting.FuseFunctions name text label config on = absurd config
given_tells p s setting.FuseFields name text label config on = absurd config

apply_tells : (p : ProgramTree) (s : ScheduleTree) (which : Setting) (name text : List ℕ) (label : ℕ) → IsConfigSetting which → label_index p name ≡ Some label
    → (apply : Option StatementApply) → apply_at p label ≡ apply → Tells (BreaksConfigRule p s which name text) (value_on which text s label apply)
apply_tells p s which name text label config named None is = no_edges p s which name text label named (subst AppliesNoEdges (sym is) tt)
apply_tells p s which name text label config named (Some (Vertices set function)) is = no_edges p s which name text label named (subst AppliesNoEdges (sym is) tt)
apply_tells p s which name text label config named (Some (Edges ends function changes)) is =
    given_tells p s which name text label config (record { named = named; edges = λ none. subst AppliesNoEdges is none })

index_tells : (p : ProgramTree) (s : ScheduleTree) (which : Setting) (name text : List ℕ) → IsConfigSetting which → (index : Option ℕ) → label_index p name ≡ index
    → Tells (BreaksConfigRule p s which name text) (value_at p which text s index)
index_tells p s which name text config None is = unknown_label p s which name text is
index_tells p s which name text config (Some label) is = apply_tells p s which name text label config is (apply_at p label) refl

wrong_count : (Breaks : List ℕ → List ℕ → ScheduleRule → Type 0) → IsLeastBroken (WithTwo Breaks None) rule.BadArgument
wrong_count Breaks = record { broken = refl; least = λ other is. subst (λ r. 303 ≤ number_of_rule r) (sym is) (lit≤ tt) }

config_tells : (p : ProgramTree) (s : ScheduleTree) (which : Setting) → IsConfigSetting which → (two : Option (List ℕ × List ℕ))
    → Tells (WithTwo (BreaksConfigRule p s which) two) (value_of_two p which two s)
config_tells p s which config None = wrong_count (BreaksConfigRule p s which)
config_tells p s which config (Some two) = index_tells p s which two.0 two.1 config (label_index p two.0) refl

-- a fusing
record OnIndices (p : ProgramTree) (first second : List ℕ) (a b : ℕ) : Type 0 where
  one : label_index p first ≡ Some a
  other : label_index p second ≡ Some b

both_are : (p : ProgramTree) (first second : List ℕ) (a b : ℕ) (P : ℕ → ℕ → Type 0) → OnIndices p first second a b → OnLabels p first second P → P a b
both_are p first second a b P at on =
    subst (P a) (two_indices (label_index p second) on.holds.label b on.holds.named at.other)
    (subst (λ x. P x on.holds.label) (two_indices (label_index p first) on.label a on.named at.one) on.holds.holds)

both_on : (p : ProgramTree) (first second : List ℕ) (a b : ℕ) (P : ℕ → ℕ → Type 0) → OnIndices p first second a b → P a b → OnLabels p first second P
both_on p first second a b P at holds = record { label = a; named = at.one; holds = record { label = b; named = at.other; holds = holds } }

first_unknown : (p : ProgramTree) (s : ScheduleTree) (first second : List ℕ) → (label_index p first ≡ None) ⊎ (label_index p second ≡ None)
    → IsLeastBroken (BreaksFuseRule p s first second) rule.UnknownLabel
first_unknown p s first second is = record { broken = is; least = λ other breaks. least_number other }

-- both labels are there, so the rule on labels is kept
labels_kept : (p : ProgramTree) (first second : List ℕ) (a b : ℕ) → OnIndices p first second a b → (label_index p first ≡ None) ⊎ (label_index p second ≡ None) → ⊥
labels_kept p first second a b at none =
    elim none [ inl is ↦ nowhere (label_index p first) a is at.one | inr is ↦ nowhere (label_index p second) b is at.other ]

nothing_applied_least : (p : ProgramTree) (s : ScheduleTree) (first second : List ℕ) (a b : ℕ) → OnIndices p first second a b
    → (other : ScheduleRule) → BreaksFuseRule p s first second other → 302 ≤ number_of_rule other
nothing_applied_least p s first second a b at rule.UnknownLabel breaks = absurd (labels_kept p first second a b at breaks)
nothing_applied_least p s first second a b at rule.NoApply breaks = lit≤ tt
nothing_applied_least p s first second a b at rule.BadArgument breaks = lit≤ tt
nothing_applied_least p s first second a b at rule.GivenTwice breaks = lit≤ tt
nothing_applied_least p s first second a b at rule.NotAdjacent breaks = lit≤ tt
nothing_applied_least p s first second a b at rule.DifferentSets breaks = lit≤ tt
nothing_applied_least p s first second a b at rule.NotIndependent breaks = lit≤ tt
nothing_applied_least p s first second a b at rule.BadFields breaks = lit≤ tt

-- both labels are there, and their statements apply something
record OnBoth (p : ProgramTree) (first second : List ℕ) (a b : ℕ) (x y : StatementApply) : Type 0 where
  indices : OnIndices p first second a b
  one : apply_at p a ≡ Some x
  other : apply_at p b ≡ Some y

applies_kept : (p : ProgramTree) (first second : List ℕ) (a b : ℕ) (x y : StatementApply) → OnBoth p first second a b x y
    → OnLabel p first (λ label. apply_at p label ≡ None) ⊎ OnLabel p second (λ label. apply_at p label ≡ None) → ⊥
applies_kept p first second a b x y on none =
    elim none [
      | inl is ↦ nowhere (apply_at p a) x (label_is p first a (λ label. apply_at p label ≡ None) on.indices.one is) on.one
      | inr is ↦ nowhere (apply_at p b) y (label_is p second b (λ label. apply_at p label ≡ None) on.indices.other is) on.other
    ]

twice_least : (p : ProgramTree) (s : ScheduleTree) (first second : List ℕ) (a b : ℕ) (x y : StatementApply) → OnBoth p first second a b x y
    → (other : ScheduleRule) → BreaksFuseRule p s first second other → 304 ≤ number_of_rule other
twice_least p s first second a b x y on rule.UnknownLabel breaks = absurd (labels_kept p first second a b on.indices breaks)
twice_least p s first second a b x y on rule.NoApply breaks = absurd (applies_kept p first second a b x y on breaks)
twice_least p s first second a b x y on rule.BadArgument breaks = absurd breaks
twice_least p s first second a b x y on rule.GivenTwice breaks = lit≤ tt
twice_least p s first second a b x y on rule.NotAdjacent breaks = lit≤ tt
twice_least p s first second a b x y on rule.DifferentSets breaks = lit≤ tt
twice_least p s first second a b x y on rule.NotIndependent breaks = lit≤ tt
twice_least p s first second a b x y on rule.BadFields breaks = lit≤ tt

adjacent_least : (p : ProgramTree) (s : ScheduleTree) (first second : List ℕ) (a b : ℕ) (x y : StatementApply) → OnBoth p first second a b x y → (IsFusedTwice s a b → ⊥)
    → (other : ScheduleRule) → BreaksFuseRule p s first second other → 305 ≤ number_of_rule other
adjacent_least p s first second a b x y on once rule.UnknownLabel breaks = absurd (labels_kept p first second a b on.indices breaks)
adjacent_least p s first second a b x y on once rule.NoApply breaks = absurd (applies_kept p first second a b x y on breaks)
adjacent_least p s first second a b x y on once rule.BadArgument breaks = absurd breaks
adjacent_least p s first second a b x y on once rule.GivenTwice breaks = absurd (once (both_are p first second a b (IsFusedTwice s) on.indices breaks))
adjacent_least p s first second a b x y on once rule.NotAdjacent breaks = lit≤ tt
adjacent_least p s first second a b x y on once rule.DifferentSets breaks = lit≤ tt
adjacent_least p s first second a b x y on once rule.NotIndependent breaks = lit≤ tt
adjacent_least p s first second a b x y on once rule.BadFields breaks = lit≤ tt

-- what two fused applies keep: they are fused once, and stand after each other
record Neighbours (p : ProgramTree) (s : ScheduleTree) (first second : List ℕ) (a b : ℕ) (x y : StatementApply) : Type 0 where
  on : OnBoth p first second a b x y
  once : IsFusedTwice s a b → ⊥
  adjacent : is_followed_by p a b ≡ true

sets_least : (p : ProgramTree) (s : ScheduleTree) (first second : List ℕ) (a b : ℕ) (x y : StatementApply) → Neighbours p s first second a b x y
    → (other : ScheduleRule) → BreaksFuseRule p s first second other → 306 ≤ number_of_rule other
sets_least p s first second a b x y n rule.UnknownLabel breaks = absurd (labels_kept p first second a b n.on.indices breaks)
sets_least p s first second a b x y n rule.NoApply breaks = absurd (applies_kept p first second a b x y n.on breaks)
sets_least p s first second a b x y n rule.BadArgument breaks = absurd breaks
sets_least p s first second a b x y n rule.GivenTwice breaks = absurd (n.once (both_are p first second a b (IsFusedTwice s) n.on.indices breaks))
sets_least p s first second a b x y n rule.NotAdjacent breaks =
    absurd (true_is_false (is_followed_by p a b) n.adjacent (both_are p first second a b (λ a b. is_followed_by p a b ≡ false) n.on.indices breaks))
sets_least p s first second a b x y n rule.DifferentSets breaks = lit≤ tt
sets_least p s first second a b x y n rule.NotIndependent breaks = lit≤ tt
sets_least p s first second a b x y n rule.BadFields breaks = lit≤ tt

-- a fact on what the statements apply, at those applies
applies_are : (p : ProgramTree) (first second : List ℕ) (a b : ℕ) (x y : StatementApply) (P : StatementApply → StatementApply → Type 0) → OnBoth p first second a b x y
    → OnLabels p first second (λ a b. OnApplies p a b P) → P x y
applies_are p first second a b x y P on breaks =
    let at = both_are p first second a b (λ a b. OnApplies p a b P) on.indices breaks in
    subst (P x) (two_applies (apply_at p b) at.other y at.second_applies on.other) (subst (λ z. P z at.other) (two_applies (apply_at p a) at.one x at.first_applies on.one) at.holds)

applies_on : (p : ProgramTree) (first second : List ℕ) (a b : ℕ) (x y : StatementApply) (P : StatementApply → StatementApply → Type 0) → OnBoth p first second a b x y → P x y
    → OnLabels p first second (λ a b. OnApplies p a b P)
applies_on p first second a b x y P on holds =
    both_on p first second a b (λ a b. OnApplies p a b P) on.indices (record { one = x; other = y; first_applies = on.one; second_applies = on.other; holds = holds })

dependence_least : (p : ProgramTree) (s : ScheduleTree) (first second : List ℕ) (a b : ℕ) (x y : StatementApply) → Neighbours p s first second a b x y → have_same_sets p.names x y ≡ true
    → (other : ScheduleRule) → BreaksFuseRule p s first second other → 307 ≤ number_of_rule other
dependence_least p s first second a b x y n same rule.UnknownLabel breaks = absurd (labels_kept p first second a b n.on.indices breaks)
dependence_least p s first second a b x y n same rule.NoApply breaks = absurd (applies_kept p first second a b x y n.on breaks)
dependence_least p s first second a b x y n same rule.BadArgument breaks = absurd breaks
dependence_least p s first second a b x y n same rule.GivenTwice breaks = absurd (n.once (both_are p first second a b (IsFusedTwice s) n.on.indices breaks))
dependence_least p s first second a b x y n same rule.NotAdjacent breaks =
    absurd (true_is_false (is_followed_by p a b) n.adjacent (both_are p first second a b (λ a b. is_followed_by p a b ≡ false) n.on.indices breaks))
dependence_least p s first second a b x y n same rule.DifferentSets breaks =
    absurd (true_is_false (have_same_sets p.names x y) same (applies_are p first second a b x y (λ x y. have_same_sets p.names x y ≡ false) n.on breaks))
dependence_least p s first second a b x y n same rule.NotIndependent breaks = lit≤ tt
dependence_least p s first second a b x y n same rule.BadFields breaks = lit≤ tt

fuse_breaks_none : (p : ProgramTree) (s : ScheduleTree) (first second : List ℕ) (a b : ℕ) (x y : StatementApply) → Neighbours p s first second a b x y → have_same_sets p.names x y ≡ true
    → are_independent p x y ≡ true → (r : ScheduleRule) → BreaksFuseRule p s first second r → ⊥
fuse_breaks_none p s first second a b x y n same apart rule.UnknownLabel breaks = labels_kept p first second a b n.on.indices breaks
fuse_breaks_none p s first second a b x y n same apart rule.NoApply breaks = applies_kept p first second a b x y n.on breaks
fuse_breaks_none p s first second a b x y n same apart rule.BadArgument breaks = breaks
fuse_breaks_none p s first second a b x y n same apart rule.GivenTwice breaks = n.once (both_are p first second a b (IsFusedTwice s) n.on.indices breaks)
fuse_breaks_none p s first second a b x y n same apart rule.NotAdjacent breaks =
    true_is_false (is_followed_by p a b) n.adjacent (both_are p first second a b (λ a b. is_followed_by p a b ≡ false) n.on.indices breaks)
fuse_breaks_none p s first second a b x y n same apart rule.DifferentSets breaks =
    true_is_false (have_same_sets p.names x y) same (applies_are p first second a b x y (λ x y. have_same_sets p.names x y ≡ false) n.on breaks)
fuse_breaks_none p s first second a b x y n same apart rule.NotIndependent breaks =
    true_is_false (are_independent p x y) apart (applies_are p first second a b x y (λ x y. are_independent p x y ≡ false) n.on breaks)
fuse_breaks_none p s first second a b x y n same apart rule.BadFields breaks = breaks

same_number : (a b : ℕ) → nat_eq a b ≡ true → a ≡ b
same_number a b is = grind (arith, nat_tests)

own_number : (a : ℕ) → nat_eq a a ≡ true
own_number a = grind (arith, nat_tests)

either_true : (x y : Bool) → (x || y) ≡ true → (x ≡ true) ⊎ (y ≡ true)
either_true true y is = inl refl
either_true false y is = inr is

left_true : (x y : Bool) → x ≡ true → (x || y) ≡ true
left_true true y is = refl
left_true false y is = cc

right_true : (x y : Bool) → y ≡ true → (x || y) ≡ true
right_true true y is = refl
right_true false y is = is

is_twice : (s : ScheduleTree) (a b : ℕ) → (nat_eq a b || (is_fused a s || is_fused b s)) ≡ true → IsFusedTwice s a b
is_twice s a b is =
    elim (either_true (nat_eq a b) (is_fused a s || is_fused b s) is) [
      | inl same ↦ inl (same_number a b same)
      | inr fused ↦ inr (either_true (is_fused a s) (is_fused b s) fused)
    ]

twice_is : (s : ScheduleTree) (a b : ℕ) → IsFusedTwice s a b → (nat_eq a b || (is_fused a s || is_fused b s)) ≡ true
twice_is s a b is =
    elim is [
      | inl same ↦ left_true (nat_eq a b) (is_fused a s || is_fused b s) (subst (λ c. nat_eq a c ≡ true) same (own_number a))
      | inr fused ↦ right_true (nat_eq a b) (is_fused a s || is_fused b s) (elim fused [
        | inl first ↦ left_true (is_fused a s) (is_fused b s) first
        | inr second ↦ right_true (is_fused a s) (is_fused b s) second
      ])
    ]

dependence_tells : (p : ProgramTree) (s : ScheduleTree) (first second : List ℕ) (a b : ℕ) (x y : StatementApply) → Neighbours p s first second a b x y → have_same_sets p.names x y ≡ true
    → (apart : Bool) → are_independent p x y ≡ apart → Tells (BreaksFuseRule p s first second) (fuse_or (if not apart then Some rule.NotIndependent else None) a b s)
dependence_tells p s first second a b x y n same true is = fuse_breaks_none p s first second a b x y n same is
dependence_tells p s first second a b x y n same false is = record {
  broken = applies_on p first second a b x y (λ x y. are_independent p x y ≡ false) n.on is;
  least = dependence_least p s first second a b x y n same;
}

sets_tell : (p : ProgramTree) (s : ScheduleTree) (first second : List ℕ) (a b : ℕ) (x y : StatementApply) → Neighbours p s first second a b x y
    → (same : Bool) → have_same_sets p.names x y ≡ same
    → Tells (BreaksFuseRule p s first second) (fuse_or (if not same then Some rule.DifferentSets else if not (are_independent p x y) then Some rule.NotIndependent else None) a b s)
sets_tell p s first second a b x y n true is = dependence_tells p s first second a b x y n is (are_independent p x y) refl
sets_tell p s first second a b x y n false is = record {
  broken = applies_on p first second a b x y (λ x y. have_same_sets p.names x y ≡ false) n.on is;
  least = sets_least p s first second a b x y n;
}

adjacent_tells : (p : ProgramTree) (s : ScheduleTree) (first second : List ℕ) (a b : ℕ) (x y : StatementApply) → OnBoth p first second a b x y → (IsFusedTwice s a b → ⊥)
    → (next : Bool) → is_followed_by p a b ≡ next
    → Tells (BreaksFuseRule p s first second) (fuse_or (if not next then Some rule.NotAdjacent else
    if not (have_same_sets p.names x y) then Some rule.DifferentSets else if not (are_independent p x y) then Some rule.NotIndependent else None) a b s)
adjacent_tells p s first second a b x y on once true is = sets_tell p s first second a b x y (record { on = on; once = once; adjacent = is }) (have_same_sets p.names x y) refl
adjacent_tells p s first second a b x y on once false is = record {
  broken = both_on p first second a b (λ a b. is_followed_by p a b ≡ false) on.indices is;
  least = adjacent_least p s first second a b x y on once;
}

twice_tells : (p : ProgramTree) (s : ScheduleTree) (first second : List ℕ) (a b : ℕ) (x y : StatementApply) → OnBoth p first second a b x y
    → (twice : Bool) → (nat_eq a b || (is_fused a s || is_fused b s)) ≡ twice
    → Tells (BreaksFuseRule p s first second) (fuse_or (if twice then Some rule.GivenTwice else if not (is_followed_by p a b) then Some rule.NotAdjacent else
    if not (have_same_sets p.names x y) then Some rule.DifferentSets else if not (are_independent p x y) then Some rule.NotIndependent else None) a b s)
twice_tells p s first second a b x y on true is = record {
  broken = both_on p first second a b (IsFusedTwice s) on.indices (is_twice s a b is);
  least = twice_least p s first second a b x y on;
}
twice_tells p s first second a b x y on false is =
    adjacent_tells p s first second a b x y on (λ twice. true_is_false (nat_eq a b || (is_fused a s || is_fused b s)) (twice_is s a b twice) is) (is_followed_by p a b) refl

second_applies_tells : (p : ProgramTree) (s : ScheduleTree) (first second : List ℕ) (a b : ℕ) (x : StatementApply) → OnIndices p first second a b → apply_at p a ≡ Some x
    → (apply : Option StatementApply) → apply_at p b ≡ apply → Tells (BreaksFuseRule p s first second) (fuse_or (fusing_fault_of p s a b (Some x) apply) a b s)
second_applies_tells p s first second a b x at one None is = record {
  broken = inr (record { label = b; named = at.other; holds = is });
  least = nothing_applied_least p s first second a b at;
}
second_applies_tells p s first second a b x at one (Some y) is =
    twice_tells p s first second a b x y (record { indices = at; one = one; other = is }) (nat_eq a b || (is_fused a s || is_fused b s)) refl

first_applies_tells : (p : ProgramTree) (s : ScheduleTree) (first second : List ℕ) (a b : ℕ) → OnIndices p first second a b → (apply : Option StatementApply) → apply_at p a ≡ apply
    → Tells (BreaksFuseRule p s first second) (fuse_or (fusing_fault_of p s a b apply (apply_at p b)) a b s)
first_applies_tells p s first second a b at None is = record {
  broken = inl (record { label = a; named = at.one; holds = is });
  least = nothing_applied_least p s first second a b at;
}
first_applies_tells p s first second a b at (Some x) is = second_applies_tells p s first second a b x at is (apply_at p b) refl

indices_tell : (p : ProgramTree) (s : ScheduleTree) (first second : List ℕ) (one other : Option ℕ) → label_index p first ≡ one → label_index p second ≡ other
    → Tells (BreaksFuseRule p s first second) (fuse_at p s one other)
indices_tell p s first second None other is also = first_unknown p s first second (inl is)
indices_tell p s first second (Some a) None is also = first_unknown p s first second (inr also)
indices_tell p s first second (Some a) (Some b) is also = first_applies_tells p s first second a b (record { one = is; other = also }) (apply_at p a) refl

fusing_tells : (p : ProgramTree) (s : ScheduleTree) (two : Option (List ℕ × List ℕ)) → Tells (WithTwo (BreaksFuseRule p s) two) (fusing_of_two p two s)
fusing_tells p s None = wrong_count (BreaksFuseRule p s)
fusing_tells p s (Some two) = indices_tell p s two.0 two.1 (label_index p two.0) (label_index p two.1) refl refl

-- fields
taken_in : (v : ℕ) (taken : List ℕ) → list_any (nat_eq v) taken ≡ true → Contains taken v
taken_in v taken is = Contains-from_any {eq = nat_eq} same_number v taken is

in_taken : (v : ℕ) (taken : List ℕ) → Contains taken v → list_any (nat_eq v) taken ≡ true
in_taken v taken is = list_any-from_Contains {eq = nat_eq} nat_eq_equiv v taken is

-- what is wrong with names, of which there may be few, where some vectors are taken
abbrev AreBad : ProgramTree → List ℕ → List (List ℕ) → Type 0
AreBad p taken names = HasNoVector p names ⊎ (((v : ℕ) × Contains taken v × NamesVector p v names) ⊎ NamesOneTwice p names)

further_bad : (p : ProgramTree) (taken : List ℕ) (v : ℕ) (name : List ℕ) (names : List (List ℕ)) → vector_by_name p name ≡ Some v → AreBad p (taken ++ v ∷ []) names → AreBad p taken (name ∷ names)
further_bad p taken v name names is bad =
    elim bad [
      | inl none ↦ inl (inr none)
      | inr other ↦ elim other [
        | inl named ↦ elim (Contains-push_cases taken v named.0 named.1) [
          | inl before ↦ inr (inl (named.0, before, inr named.2))
          | inr same ↦ inr (inr (inl (v, is, subst (λ w. NamesVector p w names) (sym same) named.2)))
        ]
        | inr twice ↦ inr (inr (inr twice))
      ]
    ]

first_bad : (p : ProgramTree) (taken : List ℕ) (v : ℕ) (name : List ℕ) (names : List (List ℕ)) → vector_by_name p name ≡ Some v → AreBad p taken (name ∷ names)
    → Contains taken v ⊎ AreBad p (taken ++ v ∷ []) names
first_bad p taken v name names is bad =
    elim bad [
      | inl none ↦ elim none [ inl here ↦ absurd (nowhere (vector_by_name p name) v here is) | inr there ↦ inr (inl there) ]
      | inr other ↦ elim other [
        | inl named ↦ elim named.2 [
          | inl here ↦ inl (subst (Contains taken) (two_indices (vector_by_name p name) named.0 v here is) named.1)
          | inr there ↦ inr (inr (inl (named.0, Contains-append_left taken (v ∷ []) named.0 named.1, there)))
        ]
        | inr twice ↦ elim twice [
          | inl here ↦ inr (inr (inl (v, Contains-push taken v, subst (λ w. NamesVector p w names) (two_indices (vector_by_name p name) here.0 v here.1 is) here.2)))
          | inr there ↦ inr (inr (inr there))
        ]
      ]
    ]

grown_none : (p : ProgramTree) (taken group : List ℕ) (names : List (List ℕ)) → grown p taken group names ≡ None → AreBad p (taken ++ group) names
grown_none p taken group [] none = cc
grown_none p taken group (name ∷ names) none = at_index (vector_by_name p name) refl (λ more none. grown_none p taken more names none) none
  where
    untaken : (v : ℕ) (any : Bool) → list_any (nat_eq v) (taken ++ group) ≡ any → vector_by_name p name ≡ Some v
        → ((more : List ℕ) → grown p taken more names ≡ None → AreBad p (taken ++ more) names)
        → (if any then None else grown p taken (group ++ v ∷ []) names) ≡ None → AreBad p (taken ++ group) (name ∷ names)
    untaken v true any is others none = inr (inl (v, taken_in v (taken ++ group) any, inl is))
    untaken v false any is others none =
        further_bad p (taken ++ group) v name names is
        (subst (λ t. AreBad p t names) (sym (append_assoc taken group (v ∷ []))) (others (group ++ v ∷ []) none))

    at_index : (index : Option ℕ) → vector_by_name p name ≡ index → ((more : List ℕ) → grown p taken more names ≡ None → AreBad p (taken ++ more) names)
        → grown_by taken group index (λ more. grown p taken more names) ≡ None → AreBad p (taken ++ group) (name ∷ names)
    at_index None is others none = inl (inl is)
    at_index (Some v) is others none = untaken v (list_any (nat_eq v) (taken ++ group)) refl is others none

grown_some : (p : ProgramTree) (taken group end : List ℕ) (names : List (List ℕ)) → grown p taken group names ≡ Some end → AreBad p (taken ++ group) names → ⊥
grown_some p taken group end [] some bad = elim bad [ inl none ↦ none | inr other ↦ elim other [ inl named ↦ named.2 | inr twice ↦ twice ] ]
grown_some p taken group end (name ∷ names) some bad = at_index (vector_by_name p name) refl (λ more some bad. grown_some p taken more end names some bad) some
  where
    untaken : (v : ℕ) (any : Bool) → list_any (nat_eq v) (taken ++ group) ≡ any → vector_by_name p name ≡ Some v
        → ((more : List ℕ) → grown p taken more names ≡ Some end → AreBad p (taken ++ more) names → ⊥)
        → (if any then None else grown p taken (group ++ v ∷ []) names) ≡ Some end → ⊥
    untaken v true any is others some = nowhere {A = List ℕ} None end refl some
    untaken v false any is others some =
        elim (first_bad p (taken ++ group) v name names is bad) [
          | inl in_group ↦ true_is_false (list_any (nat_eq v) (taken ++ group)) (in_taken v (taken ++ group) in_group) any
          | inr further ↦ others (group ++ v ∷ []) some (subst (λ t. AreBad p t names) (append_assoc taken group (v ∷ [])) further)
        ]

    at_index : (index : Option ℕ) → vector_by_name p name ≡ index → ((more : List ℕ) → grown p taken more names ≡ Some end → AreBad p (taken ++ more) names → ⊥)
        → grown_by taken group index (λ more. grown p taken more names) ≡ Some end → ⊥
    at_index None is others some = nowhere {A = List ℕ} None end refl some
    at_index (Some v) is others some = untaken v (list_any (nat_eq v) (taken ++ group)) refl is others some

bad_fields : (p : ProgramTree) (taken : List ℕ) (names : List (List ℕ)) → AreBad p taken names → BreaksFields p taken names
bad_fields p taken names bad =
    elim bad [ inl none ↦ NoVector none | inr other ↦ elim other [ inl named ↦ InGroup named.0 named.1 named.2 | inr twice ↦ NamedTwice twice ] ]

few_or_bad : (p : ProgramTree) (taken : List ℕ) (names : List (List ℕ)) → BreaksFields p taken names → (length names < 2) ⊎ AreBad p taken names
few_or_bad p taken names (TooFew few) = inl few
few_or_bad p taken names (NoVector none) = inr (inl none)
few_or_bad p taken names (InGroup v in_group named) = inr (inr (inl (v, in_group, named)))
few_or_bad p taken names (NamedTwice twice) = inr (inr (inr twice))

fields_least : (p : ProgramTree) (s : ScheduleTree) (names : List (List ℕ)) (other : ScheduleRule) → BreaksFieldsRule p s names other → 308 ≤ number_of_rule other
fields_least p s names rule.UnknownLabel breaks = absurd breaks
fields_least p s names rule.NoApply breaks = absurd breaks
fields_least p s names rule.BadArgument breaks = absurd breaks
fields_least p s names rule.GivenTwice breaks = absurd breaks
fields_least p s names rule.NotAdjacent breaks = absurd breaks
fields_least p s names rule.DifferentSets breaks = absurd breaks
fields_least p s names rule.NotIndependent breaks = absurd breaks
fields_least p s names rule.BadFields breaks = lit≤ tt

fields_break_none : (p : ProgramTree) (s : ScheduleTree) (names : List (List ℕ)) → (BreaksFields p (concat s.groups) names → ⊥) → (r : ScheduleRule) → BreaksFieldsRule p s names r → ⊥
fields_break_none p s names fit rule.UnknownLabel breaks = breaks
fields_break_none p s names fit rule.NoApply breaks = breaks
fields_break_none p s names fit rule.BadArgument breaks = breaks
fields_break_none p s names fit rule.GivenTwice breaks = breaks
fields_break_none p s names fit rule.NotAdjacent breaks = breaks
fields_break_none p s names fit rule.DifferentSets breaks = breaks
fields_break_none p s names fit rule.NotIndependent breaks = breaks
fields_break_none p s names fit rule.BadFields breaks = fit breaks

few_names : (n : ℕ) → nat_lt n 2 ≡ true → n < 2
few_names n is = grind (arith, nat_tests)

many_names : (n : ℕ) → nat_lt n 2 ≡ false → n < 2 → ⊥
many_names n is few = grind (arith, nat_tests)

group_tells : (p : ProgramTree) (s : ScheduleTree) (names : List (List ℕ)) → nat_lt (length names) 2 ≡ false → (group : Option (List ℕ)) → grown p (concat s.groups) [] names ≡ group
    → Tells (BreaksFieldsRule p s names) (with_group group s)
group_tells p s names many None is = record {
  broken = bad_fields p (concat s.groups) names (subst (λ t. AreBad p t names) (append-nil (concat s.groups)) (grown_none p (concat s.groups) [] names is));
  least = fields_least p s names;
}
group_tells p s names many (Some group) is = fields_break_none p s names (λ breaks. elim (few_or_bad p (concat s.groups) names breaks) [
  | inl few ↦ many_names (length names) many few
  | inr bad ↦ grown_some p (concat s.groups) [] group names is (subst (λ t. AreBad p t names) (sym (append-nil (concat s.groups))) bad)
])

fields_tell : (p : ProgramTree) (s : ScheduleTree) (names : List (List ℕ)) (few : Bool) → nat_lt (length names) 2 ≡ few
    → Tells (BreaksFieldsRule p s names) (if few then Err rule.BadFields else with_group (grown p (concat s.groups) [] names) s)
fields_tell p s names true is = record { broken = TooFew (few_names (length names) is); least = fields_least p s names }
fields_tell p s names false is = group_tells p s names is (grown p (concat s.groups) [] names) refl

-- each call
call_of_tells : (p : ProgramTree) (s : ScheduleTree) (which : Setting) (arguments : List (List ℕ)) → Tells (BreaksRuleOf p s which arguments) (with_call_of p which arguments s)
call_of_tells p s setting.Direction arguments = config_tells p s setting.Direction tt (two_of arguments)
call_of_tells p s setting.Parallelization arguments = config_tells p s setting.Parallelization tt (two_of arguments)
call_of_tells p s setting.DenseVertexSet arguments = config_tells p s setting.DenseVertexSet tt (two_of arguments)
call_of_tells p s setting.FuseFunctions arguments = fusing_tells p s (two_of arguments)
call_of_tells p s setting.FuseFields arguments = fields_tell p s arguments (nat_lt (length arguments) 2) refl

call_tells : (p : ProgramTree) (s : ScheduleTree) (call : ScheduleCallTree) → Tells (BreaksRule p s call) (with_call p call s)
call_tells p s call = call_of_tells p s call.setting call.arguments

-- a rule is known by its number
rule_of : ℕ → ScheduleRule
rule_of n =
    if nat_eq n 301 then rule.UnknownLabel else if nat_eq n 302 then rule.NoApply else if nat_eq n 303 then rule.BadArgument else if nat_eq n 304 then rule.GivenTwice else
    if nat_eq n 305 then rule.NotAdjacent else if nat_eq n 306 then rule.DifferentSets else if nat_eq n 307 then rule.NotIndependent else rule.BadFields

rule_of-number : (r : ScheduleRule) → rule_of (number_of_rule r) ≡ r
unfolding rule_of
rule_of-number rule.UnknownLabel = refl
rule_of-number rule.NoApply = refl
rule_of-number rule.BadArgument = refl
rule_of-number rule.GivenTwice = refl
rule_of-number rule.NotAdjacent = refl
rule_of-number rule.DifferentSets = refl
rule_of-number rule.NotIndependent = refl
rule_of-number rule.BadFields = refl

same_least : (Breaks : ScheduleRule → Type 0) (r q : ScheduleRule) → IsLeastBroken Breaks r → IsLeastBroken Breaks q → r ≡ q
same_least Breaks r q one other =
    let below = one.least q other.broken in
    let above = other.least r one.broken in
    let same : number_of_rule r ≡ number_of_rule q = omega (arith, below, above) in
    sym (rule_of-number r) ∙ ap rule_of same ∙ rule_of-number q

err_is : (x : Result ScheduleTree (ScheduleRule × ℕ)) (e f : ScheduleRule × ℕ) → x ≡ Err e → x ≡ Err f → e ≡ f
err_is x e f is also = cc

ok_is_not : (x : Result ScheduleTree (ScheduleRule × ℕ)) (a : ScheduleTree) (e : ScheduleRule × ℕ) → x ≡ Ok a → x ≡ Err e → ⊥
ok_is_not x a e is also = cc

-- all calls
refused : (p : ProgramTree) (s : ScheduleTree) (calls : List ScheduleCallTree) (r : ScheduleRule) (at : ℕ) → with_calls p calls s ≡ Err (r, at) → IsRefused p s calls r at
refused p s [] r at is = absurd (ok_is_not (Ok s) s (r, at) refl is)
refused p s (call ∷ calls) r at is = after (with_call p call s) refl (call_tells p s call) (λ new. refused p new calls r at) is
  where
    after : (outcome : Result ScheduleTree ScheduleRule) → with_call p call s ≡ outcome → Tells (BreaksRule p s call) outcome
        → ((new : ScheduleTree) → with_calls p calls new ≡ Err (r, at) → IsRefused p new calls r at)
        → after_call call.at outcome (λ new. with_calls p calls new) ≡ Err (r, at) → IsRefused p s (call ∷ calls) r at
    after (Ok new) made tells rest is = inr (tells, (new, made, rest new is))
    after (Err q) made tells rest is =
        let both = err_is (Err (q, call.at)) (q, call.at) (r, at) refl is in
        inl (ap (λ (e : ScheduleRule × ℕ). e.1) both, subst (λ (e : ScheduleRule × ℕ). IsLeastBroken (BreaksRule p s call) e.0) both tells)

refused_back : (p : ProgramTree) (s : ScheduleTree) (calls : List ScheduleCallTree) (r : ScheduleRule) (at : ℕ) → IsRefused p s calls r at → with_calls p calls s ≡ Err (r, at)
refused_back p s [] r at is = absurd is
refused_back p s (call ∷ calls) r at is = after (with_call p call s) refl (call_tells p s call) (λ new. refused_back p new calls r at) is
  where
    after : (outcome : Result ScheduleTree ScheduleRule) → with_call p call s ≡ outcome → Tells (BreaksRule p s call) outcome
        → ((new : ScheduleTree) → IsRefused p new calls r at → with_calls p calls new ≡ Err (r, at))
        → IsRefused p s (call ∷ calls) r at → after_call call.at outcome (λ new. with_calls p calls new) ≡ Err (r, at)
    after (Ok new) made tells rest is =
        elim is [
          | inl here ↦ absurd (tells r here.1.broken)
          | inr further ↦ rest new (subst (λ s. IsRefused p s calls r at) (ok_is (with_call p call s) further.1.0 new further.1.1 made) further.1.2)
        ]
    after (Err q) made tells rest is =
        elim is [
          | inl here ↦ ap Err (λ i. (same_least (BreaksRule p s call) q r tells here.1 i, here.0 i))
          | inr further ↦ absurd (further.0 q tells.broken)
        ]

pub refused_exactly : (p : ProgramTree) (r : ScheduleRule) (at : ℕ) → (schedule_of p ≡ Err (r, at)) ↔ IsRefused p empty_schedule p.schedule r at
refused_exactly p r at = (refused p empty_schedule p.schedule r at, refused_back p empty_schedule p.schedule r at)

accepted : (p : ProgramTree) (s : ScheduleTree) (calls : List ScheduleCallTree) → IsOk (with_calls p calls s) → BreakNoRule p s calls
accepted p s [] is = tt
accepted p s (call ∷ calls) is = after (with_call p call s) refl (call_tells p s call) (λ new. accepted p new calls) is
  where
    after : (outcome : Result ScheduleTree ScheduleRule) → with_call p call s ≡ outcome → Tells (BreaksRule p s call) outcome
        → ((new : ScheduleTree) → IsOk (with_calls p calls new) → BreakNoRule p new calls)
        → IsOk (after_call call.at outcome (λ new. with_calls p calls new)) → BreakNoRule p s (call ∷ calls)
    after (Ok new) made tells rest is = (tells, λ other also. subst (λ s. BreakNoRule p s calls) (ok_is (with_call p call s) new other made also) (rest new is))
    after (Err q) made tells rest is = cc

accepted_back : (p : ProgramTree) (s : ScheduleTree) (calls : List ScheduleCallTree) → BreakNoRule p s calls → IsOk (with_calls p calls s)
accepted_back p s [] none = refl
accepted_back p s (call ∷ calls) none = after (with_call p call s) refl (call_tells p s call) (λ new. accepted_back p new calls)
  where
    after : (outcome : Result ScheduleTree ScheduleRule) → with_call p call s ≡ outcome → Tells (BreaksRule p s call) outcome
        → ((new : ScheduleTree) → BreakNoRule p new calls → IsOk (with_calls p calls new))
        → IsOk (after_call call.at outcome (λ new. with_calls p calls new))
    after (Ok new) made tells rest = rest new (none.1 new made)
    after (Err q) made tells rest = absurd (none.0 q tells.broken)

pub accepted_exactly : (p : ProgramTree) → IsOk (schedule_of p) ↔ BreakNoRule p empty_schedule p.schedule
accepted_exactly p = (accepted p empty_schedule p.schedule, accepted_back p empty_schedule p.schedule)
