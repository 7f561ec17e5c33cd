pub mod Block
pub mod Declaration
pub mod EdgeWrites
pub mod Program
pub mod Refusal
pub mod Statement
pub mod Step
pub mod inside
