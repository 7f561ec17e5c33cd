-- Broken rules of schedules: which rules a call breaks after the calls that made a schedule so far, one case for each rule.
use Rattle.std.specs.Prelude.{◌≡◌, ◌⊎◌, ◌<◌, ◌≤◌, ℕ, false, IsTrue, List, [], ◌∷◌, length, Option, Some, None, Ok, IsSome}
use Rattle.std.specs.List.{concat, Contains}
use Rattle.apply_options.specs.declared.apply_schedule.ApplySchedule.{ApplySchedule}
use Rattle.apply_options.specs.declared.setting.Setting.{Setting}
use Rattle.apply_options.specs.declared.setting.Setting.TheVariants as setting
use Rattle.apply_options.specs.ScheduleTree.{ScheduleTree, apply_schedule_of}
use Rattle.typed_tree.specs.declared.apply.StatementApply.{StatementApply}
use Rattle.typed_tree.specs.declared.apply.StatementApply.TheVariants.{Vertices, Edges}
use Rattle.typed_tree.specs.Independence.{are_independent, have_same_sets}
use Rattle.typed_tree.specs.ProgramTree.{ProgramTree, ScheduleCallTree}
use Rattle.schedule.specs.declared.error.ScheduleRule.{ScheduleRule}
use Rattle.schedule.specs.declared.error.ScheduleRule.TheVariants as rule
use Rattle.schedule.specs.Calls.{apply_at, is_followed_by, two_of, with_call}
use Rattle.schedule.specs.Schedule.{label_index, vector_by_name, is_fused, dense_vertex_set_of, direction_of, parallelization_of}
use Rattle.schedule.specs.Refusal.{number_of_rule}

-- the text is no value of the kind that a `config` call gives
abbrev pub IsNoValue : Setting → List ℕ → Type 0
IsNoValue setting.Direction text = direction_of text ≡ None
IsNoValue setting.Parallelization text = parallelization_of text ≡ None
IsNoValue setting.DenseVertexSet text = dense_vertex_set_of text ≡ None
IsNoValue setting.FuseFunctions text = ⊥
IsNoValue setting.FuseFields text = ⊥

-- a label has a value of this kind
abbrev pub HasValueOf : Setting → ApplySchedule → Type 0
HasValueOf setting.Direction c = IsSome c.direction
HasValueOf setting.Parallelization c = IsSome c.parallelization
HasValueOf setting.DenseVertexSet c = IsSome c.dense_vertex_set
HasValueOf setting.FuseFunctions c = ⊥
HasValueOf setting.FuseFields c = ⊥

-- the statement with a label is no edge apply
abbrev pub AppliesNoEdges : Option StatementApply → Type 0
AppliesNoEdges None = Unit {0}
AppliesNoEdges (Some (Edges ends function name)) = ⊥
AppliesNoEdges (Some (Vertices set function)) = Unit {0}

-- what holds of a name's label, where the program has it
pub record OnLabel (p : ProgramTree) (name : List ℕ) (P : ℕ → Type 0) : Type 0 where
  pub label : ℕ
  pub named : label_index p name ≡ Some label
  pub holds : P label

-- a `config` call with two arguments
abbrev pub BreaksConfigRule : ProgramTree → ScheduleTree → Setting → (name text : List ℕ) → ScheduleRule → Type 0
BreaksConfigRule p s which name text rule.UnknownLabel = label_index p name ≡ None
BreaksConfigRule p s which name text rule.NoApply = OnLabel p name (λ label. AppliesNoEdges (apply_at p label))
BreaksConfigRule p s which name text rule.BadArgument = IsNoValue which text
BreaksConfigRule p s which name text rule.GivenTwice = OnLabel p name (λ label. HasValueOf which (apply_schedule_of label s))
BreaksConfigRule p s which name text rule.NotAdjacent = ⊥
BreaksConfigRule p s which name text rule.DifferentSets = ⊥
BreaksConfigRule p s which name text rule.NotIndependent = ⊥
BreaksConfigRule p s which name text rule.BadFields = ⊥

-- what holds of the labels of two names, and of what their statements apply
abbrev pub OnLabels : ProgramTree → (first second : List ℕ) → (ℕ → ℕ → Type 0) → Type 0
OnLabels p first second P = OnLabel p first (λ a. OnLabel p second (λ b. P a b))

pub record OnApplies (p : ProgramTree) (a b : ℕ) (P : StatementApply → StatementApply → Type 0) : Type 0 where
  pub one : StatementApply
  pub other : StatementApply
  pub first_applies : apply_at p a ≡ Some one
  pub second_applies : apply_at p b ≡ Some other
  pub holds : P one other

-- two labels are one, or one of them is in a fusing already
abbrev pub IsFusedTwice : ScheduleTree → ℕ → ℕ → Type 0
IsFusedTwice s a b = (a ≡ b) ⊎ (IsTrue (is_fused a s) ⊎ IsTrue (is_fused b s))

-- a call of `fuseApplyFunctions` with two arguments
abbrev pub BreaksFuseRule : ProgramTree → ScheduleTree → (first second : List ℕ) → ScheduleRule → Type 0
BreaksFuseRule p s first second rule.UnknownLabel = (label_index p first ≡ None) ⊎ (label_index p second ≡ None)
BreaksFuseRule p s first second rule.NoApply = OnLabel p first (λ label. apply_at p label ≡ None) ⊎ OnLabel p second (λ label. apply_at p label ≡ None)
BreaksFuseRule p s first second rule.BadArgument = ⊥
BreaksFuseRule p s first second rule.GivenTwice = OnLabels p first second (IsFusedTwice s)
BreaksFuseRule p s first second rule.NotAdjacent = OnLabels p first second (λ a b. is_followed_by p a b ≡ false)
BreaksFuseRule p s first second rule.DifferentSets =
    OnLabels p first second (λ a b. OnApplies p a b (λ one other. have_same_sets p.names one other ≡ false))
BreaksFuseRule p s first second rule.NotIndependent =
    OnLabels p first second (λ a b. OnApplies p a b (λ one other. are_independent p one other ≡ false))
BreaksFuseRule p s first second rule.BadFields = ⊥

-- one of the names is that of no vector
abbrev pub HasNoVector : ProgramTree → List (List ℕ) → Type 0
HasNoVector p [] = ⊥
HasNoVector p (name ∷ names) = (vector_by_name p name ≡ None) ⊎ HasNoVector p names

-- one of the names is that of this vector
abbrev pub NamesVector : ProgramTree → ℕ → List (List ℕ) → Type 0
NamesVector p v [] = ⊥
NamesVector p v (name ∷ names) = (vector_by_name p name ≡ Some v) ⊎ NamesVector p v names

-- two of the names are those of one vector
abbrev pub NamesOneTwice : ProgramTree → List (List ℕ) → Type 0
NamesOneTwice p [] = ⊥
NamesOneTwice p (name ∷ names) = ((v : ℕ) × (vector_by_name p name ≡ Some v) × NamesVector p v names) ⊎ NamesOneTwice p names

-- fused fields are two vectors at least, each in no group yet, and once
pub data BreaksFields (p : ProgramTree) (taken : List ℕ) (names : List (List ℕ)) : Type 0 where
  TooFew : length names < 2 → BreaksFields p taken names
  NoVector : HasNoVector p names → BreaksFields p taken names
  InGroup : (v : ℕ) → Contains taken v → NamesVector p v names → BreaksFields p taken names
  NamedTwice : NamesOneTwice p names → BreaksFields p taken names

-- a call of `fuseFields`
abbrev pub BreaksFieldsRule : ProgramTree → ScheduleTree → List (List ℕ) → ScheduleRule → Type 0
BreaksFieldsRule p s names rule.UnknownLabel = ⊥
BreaksFieldsRule p s names rule.NoApply = ⊥
BreaksFieldsRule p s names rule.BadArgument = ⊥
BreaksFieldsRule p s names rule.GivenTwice = ⊥
BreaksFieldsRule p s names rule.NotAdjacent = ⊥
BreaksFieldsRule p s names rule.DifferentSets = ⊥
BreaksFieldsRule p s names rule.NotIndependent = ⊥
BreaksFieldsRule p s names rule.BadFields = BreaksFields p (concat s.groups) names

-- of a call that takes two arguments and has another number of them no other rule is asked
abbrev pub WithTwo : (List ℕ → List ℕ → ScheduleRule → Type 0) → Option (List ℕ × List ℕ) → ScheduleRule → Type 0
WithTwo Breaks None r = r ≡ rule.BadArgument
WithTwo Breaks (Some two) r = Breaks two.0 two.1 r

abbrev pub BreaksRuleOf : ProgramTree → ScheduleTree → Setting → List (List ℕ) → ScheduleRule → Type 0
BreaksRuleOf p s setting.FuseFunctions arguments r = WithTwo (BreaksFuseRule p s) (two_of arguments) r
BreaksRuleOf p s setting.FuseFields arguments r = BreaksFieldsRule p s arguments r
BreaksRuleOf p s which arguments r = WithTwo (BreaksConfigRule p s which) (two_of arguments) r

-- a call breaks a rule
abbrev pub BreaksRule : ProgramTree → ScheduleTree → ScheduleCallTree → ScheduleRule → Type 0
BreaksRule p s call r = BreaksRuleOf p s call.setting call.arguments r

abbrev pub BreaksNone : ProgramTree → ScheduleTree → ScheduleCallTree → Type 0
BreaksNone p s call = (r : ScheduleRule) → BreaksRule p s call r → ⊥

-- it is broken, and none with a lesser number
pub record IsLeastBroken (Breaks : ScheduleRule → Type 0) (r : ScheduleRule) : Type 0 where
  pub broken : Breaks r
  pub least : (other : ScheduleRule) → Breaks other → number_of_rule r ≤ number_of_rule other

-- each call breaks no rule, after those before it
abbrev pub BreakNoRule : ProgramTree → ScheduleTree → List ScheduleCallTree → Type 0
BreakNoRule p s [] = Unit {0}
BreakNoRule p s (call ∷ calls) = BreaksNone p s call × ((new : ScheduleTree) → with_call p call s ≡ Ok new → BreakNoRule p new calls)

-- The call that is refused: the calls before it break no rule, and of the rules that it breaks this has the least number.
abbrev pub IsRefused : ProgramTree → ScheduleTree → List ScheduleCallTree → ScheduleRule → ℕ → Type 0
IsRefused p s [] r at = ⊥
IsRefused p s (call ∷ calls) r at =
    ((call.at ≡ at) × IsLeastBroken (BreaksRule p s call) r)
    ⊎ (BreaksNone p s call × ((new : ScheduleTree) × (with_call p call s ≡ Ok new) × IsRefused p new calls r at))
