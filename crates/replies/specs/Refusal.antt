-- The numbers by which refusals are known.
use Rattle.std.specs.Prelude.{ℕ}
use Rattle.replies.specs.declared.send_error.SendError.{SendError}
use Rattle.replies.specs.declared.send_error.SendError.TheVariants.{NoMemory, WriteFailed}

-- the number of a refusal
abbrev pub number_of : SendError → ℕ
number_of NoMemory = 900
number_of WriteFailed = 902
