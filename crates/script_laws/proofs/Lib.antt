mod Options
mod DigitLaws
mod WordLaws
mod LineLaws
mod Cuts
mod OutcomeLaws
