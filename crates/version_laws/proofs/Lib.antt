mod TicketLaws
mod NumberLaws
mod CommitLaws
