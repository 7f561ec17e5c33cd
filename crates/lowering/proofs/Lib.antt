pub mod Copying
pub mod Measures
pub mod Putting
pub mod PlanLines
pub mod Statements
pub mod SetsRead
pub mod SimpleStatements
