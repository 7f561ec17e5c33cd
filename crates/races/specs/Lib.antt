pub mod Refusal
pub mod RaceScript
pub mod ScriptLaw
pub mod Race
pub mod RaceLaw
pub mod RaceText
pub mod inside
