-- Beside `KeptRules`: definitions that no public contract cites.
use Rattle.typed_tree.specs.declared.expression.Endpoint.{Endpoint}
use Rattle.typed_tree.specs.declared.expression.Endpoint.TheVariants as endpoint
use Rattle.expression_types.specs.declared.scope.Inside.{Inside}
use Rattle.expression_types.specs.declared.scope.Inside.TheVariants as inside

-- the vertex at which a function writes
abbrev pub own_end : Inside → Endpoint
own_end inside.Main = endpoint.Source
own_end inside.EdgeFunction = endpoint.Destination
own_end inside.VertexFunction = endpoint.Source
own_end inside.Filter = endpoint.Source
