pub mod IntExpressionTree
pub mod BoolExpressionTree
pub mod Access
