-- Meanings of a checker's scope: what its names mean, and that none has a faulty declaration.
use Rattle.std.specs.Prelude.{◌≡◌, ℕ, List, [], ◌∷◌}
use Rattle.expression_types.specs.declared.scope.Entity.{Entity}
use Rattle.expression_types.specs.declared.scope.Entity.TheVariants as entity
use Rattle.type_laws.specs.Meanings as meaning
use Rattle.type_laws.specs.Meanings.{Meaning, Meanings}

-- the meaning of what the checker knows of a name
abbrev pub meaning_of : Entity → Meaning
meaning_of (entity.Edges weights) = meaning.Edges weights
meaning_of (entity.Vector index) = meaning.Vector index
meaning_of (entity.ConstantSet slot) = meaning.ConstantSet
meaning_of (entity.IntConstant name n) = meaning.NumberConstant
meaning_of (entity.BoolConstant name b) = meaning.TruthConstant
meaning_of (entity.IntVariable slot) = meaning.NumberVariable
meaning_of (entity.BoolVariable slot) = meaning.TruthVariable
meaning_of (entity.SetVariable slot) = meaning.SetVariable
meaning_of (entity.LoopVariable slot) = meaning.LoopName
meaning_of (entity.Parameter p) = meaning.Parameter p
meaning_of entity.Weight = meaning.Weight
meaning_of (entity.EdgeFunction index weighted) = meaning.EdgeFunction index weighted
meaning_of (entity.VertexFunction index) = meaning.VertexFunction
meaning_of (entity.Filter index) = meaning.Filter
meaning_of entity.Main = meaning.Main
meaning_of entity.Error = meaning.Nothing

abbrev pub meanings_of : List (List ℕ × Entity) → Meanings
meanings_of [] = []
meanings_of (x ∷ others) = (x.0, meaning_of x.1) ∷ meanings_of others

-- no name is one whose declaration is faulty
abbrev pub AreMeant : List (List ℕ × Entity) → Type 0
AreMeant [] = Unit {0}
AreMeant (x ∷ others) = (x.1 ≡ entity.Error → ⊥) × AreMeant others
