-- The numbers that replies give.
use Rattle.std.specs.Prelude.{◌≡◌, ℕ, List, [], ◌∷◌, length, map}
use Rattle.std.specs.List.{flat_map, range_with_len}
use Rattle.version_list.specs.declared.step.Done.{Done}
use Rattle.version_list.specs.declared.step.Reply.{Reply}
use Rattle.version_list.specs.declared.step.Reply.TheVariants.{Version, Ticket, Released, Trimmed, Refused}

-- the replies of a history
abbrev pub replies_in : List Done → List Reply
replies_in history = map (λ done. done.reply) history

-- the number of the version that a reply tells of, if it does
abbrev pub version_in : Reply → List ℕ
version_in (Version number) = number ∷ []
version_in (Ticket number version) = []
version_in Released = []
version_in (Trimmed count) = []
version_in (Refused number) = []

-- the number of the ticket that a reply gives, if it does
abbrev pub ticket_in : Reply → List ℕ
ticket_in (Version number) = []
ticket_in (Ticket number version) = number ∷ []
ticket_in Released = []
ticket_in (Trimmed count) = []
ticket_in (Refused number) = []

-- the numbers of versions in replies, and those of tickets, in order
abbrev pub versions_in : List Reply → List ℕ
versions_in replies = flat_map version_in replies

abbrev pub tickets_in : List Reply → List ℕ
tickets_in replies = flat_map ticket_in replies

-- these numbers are 1, 2, 3 and so on
abbrev pub CountsFromOne : List ℕ → Type 0
CountsFromOne numbers = numbers ≡ range_with_len 1 (length numbers)
