-- Scopes: the names that are visible at a point of a source, with what they are.
use Rattle.std.specs.Prelude.{◌≡◌, ℕ, ◌+◌, List, [], ◌∷◌, ◌++◌, take, length, Option, Some, None, if◌then◌else◌}
use Rattle.std.specs.Str.{bytes_eq}
use Rattle.syntax.specs.Terminals.{Identifier}
use Rattle.expression_types.specs.declared.scope.Entity.{Entity}
use Rattle.expression_types.specs.declared.scope.Inside.{Inside}
use Rattle.expression_types.specs.declared.scope.Mark.{Mark}
use Rattle.expression_types.specs.Faults.{WithFaults, sure, fault_at}
use Rattle.expression_types.specs.declared.fault.TypeRule.TheVariants as rule
use Rattle.expression_types.specs.declared.scope.Entity.TheVariants as entity
use Rattle.expression_types.specs.declared.scope.Inside.TheVariants as inside

-- Names with what they are, in the order in which they became visible; where expressions stand; and how many indices of visible
-- integers, conditions and vertex sets are taken. The constant sets of the whole program have the first indices of sets.
pub record ScopeTree : Type 0 where
  pub visible : List (List ℕ × Entity)
  pub inside : Inside
  pub integers : ℕ
  pub conditions : ℕ
  pub sets : ℕ

-- before the first declaration of a program with n constant vertex sets
abbrev pub empty_scope : ℕ → ScopeTree
empty_scope sets = record { visible = []; inside = inside.Main; integers = 0; conditions = 0; sets = sets }

-- the number of int indices that it takes; the counter of a `for` takes two, one for its bound
abbrev pub integers_of : Entity → ℕ
integers_of (entity.Edges weights) = 0
integers_of (entity.Vector index) = 0
integers_of (entity.ConstantSet slot) = 0
integers_of (entity.IntConstant name n) = 0
integers_of (entity.BoolConstant name b) = 0
integers_of (entity.IntVariable slot) = 1
integers_of (entity.BoolVariable slot) = 0
integers_of (entity.SetVariable slot) = 0
integers_of (entity.LoopVariable slot) = 2
integers_of (entity.Parameter at) = 0
integers_of entity.Weight = 0
integers_of (entity.EdgeFunction index weighted) = 0
integers_of (entity.VertexFunction index) = 0
integers_of (entity.Filter index) = 0
integers_of entity.Main = 0
integers_of entity.Error = 0

-- the number of bool indices that it takes
abbrev pub conditions_of : Entity → ℕ
conditions_of (entity.Edges weights) = 0
conditions_of (entity.Vector index) = 0
conditions_of (entity.ConstantSet slot) = 0
conditions_of (entity.IntConstant name n) = 0
conditions_of (entity.BoolConstant name b) = 0
conditions_of (entity.IntVariable slot) = 0
conditions_of (entity.BoolVariable slot) = 1
conditions_of (entity.SetVariable slot) = 0
conditions_of (entity.LoopVariable slot) = 0
conditions_of (entity.Parameter at) = 0
conditions_of entity.Weight = 0
conditions_of (entity.EdgeFunction index weighted) = 0
conditions_of (entity.VertexFunction index) = 0
conditions_of (entity.Filter index) = 0
conditions_of entity.Main = 0
conditions_of entity.Error = 0

-- the number of set indices that it takes; those of constant sets are taken at the beginning
abbrev pub sets_of : Entity → ℕ
sets_of (entity.Edges weights) = 0
sets_of (entity.Vector index) = 0
sets_of (entity.ConstantSet slot) = 0
sets_of (entity.IntConstant name n) = 0
sets_of (entity.BoolConstant name b) = 0
sets_of (entity.IntVariable slot) = 0
sets_of (entity.BoolVariable slot) = 0
sets_of (entity.SetVariable slot) = 1
sets_of (entity.LoopVariable slot) = 0
sets_of (entity.Parameter at) = 0
sets_of entity.Weight = 0
sets_of (entity.EdgeFunction index weighted) = 0
sets_of (entity.VertexFunction index) = 0
sets_of (entity.Filter index) = 0
sets_of entity.Main = 0
sets_of entity.Error = 0

-- the scope with one more name
abbrev pub with_entity : List ℕ → Entity → ScopeTree → ScopeTree
with_entity name entity scope = record {
  visible = scope.visible ++ (name, entity) ∷ [];
  inside = scope.inside;
  integers = scope.integers + integers_of entity;
  conditions = scope.conditions + conditions_of entity;
  sets = scope.sets + sets_of entity;
}

-- a declaration; if the name is visible already, it is a fault and changes nothing
abbrev pub declared_over : Option Entity → Identifier → Entity → ScopeTree → WithFaults ScopeTree
declared_over None name entity scope = sure (with_entity name.bytes entity scope)
declared_over (Some old) name entity scope = fault_at name.at rule.Redeclared scope

-- the meaning of a name, none if it is not visible
abbrev pub found : {T : Type 0} → List ℕ → List (List ℕ × T) → Option T
found name [] = None
found name (e ∷ others) = if bytes_eq name e.0 then Some e.1 else found name others

abbrev pub declared : Identifier → Entity → ScopeTree → WithFaults ScopeTree
declared name entity scope = declared_over (found name.bytes scope.visible) name entity scope

-- the scope of a function, before its parameters
abbrev pub entered : Inside → ScopeTree → ScopeTree
entered inside scope = record scope { inside = inside }

-- the mark by which the end of a block restores a scope
abbrev pub mark_of : ScopeTree → Mark
mark_of scope = record { visible = length scope.visible; inside = scope.inside; integers = scope.integers; conditions = scope.conditions; sets = scope.sets }

-- the scope at a mark: the names since are dropped
abbrev pub left : Mark → ScopeTree → ScopeTree
left mark scope = record {
  visible = take mark.visible scope.visible;
  inside = mark.inside;
  integers = mark.integers;
  conditions = mark.conditions;
  sets = mark.sets;
}

-- the names that were visible are the first of the new ones
abbrev pub KeepsNames : ScopeTree → ScopeTree → Type 0
KeepsNames old new = take (length old.visible) new.visible ≡ old.visible
