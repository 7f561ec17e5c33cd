pub mod Applies
pub mod Checker
pub mod DeclarationForms
pub mod Initial
pub mod Views
