-- The numbers by which refusals are known.
use Rattle.std.specs.Prelude.{ℕ}
use Rattle.scripts.specs.declared.error.ScriptError.{ScriptError}
use Rattle.scripts.specs.declared.error.ScriptError.TheVariants.{NoMemory, ReadFailed, WriteFailed}
use Rattle.replies.specs.declared.send_error.SendError.{SendError}
use Rattle.replies.specs.declared.send_error.SendError.TheVariants as send

-- the number of a refusal
abbrev pub number_of : ScriptError → ℕ
number_of NoMemory = 900
number_of ReadFailed = 901
number_of WriteFailed = 902

-- a script that could not send a reply ends so
abbrev pub error_of_send : SendError → ScriptError
error_of_send send.NoMemory = NoMemory
error_of_send send.WriteFailed = WriteFailed
