pub mod BareNames
pub mod Expression
pub mod Faults
pub mod Least
pub mod Operators
pub mod ScopeTree
pub mod ValueTree
pub mod inside
