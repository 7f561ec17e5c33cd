-- The replies of one line, and the calls that take a step and give one.
use Rattle.std.specs.Prelude.{◌≡◌, Result, Ok, Err, alloc_error}
use Rattle.std.specs.declared.alloc.AllocError.{AllocError}
use Rattle.version_list.specs.declared.error.VersionError.{VersionError}
use Rattle.version_list.specs.declared.error.VersionError.TheVariants as refusal
use Rattle.version_list.specs.Refusal.{number_of}
use Rattle.replies.specs.declared.line_reply.LineReply.{LineReply}
use Rattle.replies.specs.declared.line_reply.LineReply.TheVariants as line_reply
use Rattle.replies.specs.ReplyText.{line_text}
use Rattle.scripts.specs.Replies.{OpenState, Answer}

-- the state is the answer's, and the reply is its text
pub record IsAnswered (new : OpenState) (answer : Answer OpenState) (reply : LineReply) : Type 0 where
  pub state : new ≡ answer.state
  pub text : line_text reply ≡ answer.text

-- the reply to a step that was refused, or that it was out of memory
abbrev pub refusal_of : VersionError → Result LineReply AllocError
refusal_of refusal.NoMemory = Err alloc_error
refusal_of error = Ok (line_reply.Refused (number_of error))
