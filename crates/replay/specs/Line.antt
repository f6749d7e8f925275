-- What a line is.
use Rattle.std.specs.Prelude.{cond, ◌&&◌, ◌==◌, Option, Some, None}
use Rattle.replay.specs.declared.call_number.CallNumber.{CallNumber}
use Rattle.replay.specs.declared.calls.Answer.{Answer}
use Rattle.replay.specs.declared.line.Judgement.{Judgement}
use Rattle.replay.specs.declared.line.Judgement.TheVariants as W

-- the same where the call answered the due code and left the due sum
unfoldable pub judged : CallNumber → Answer → Option Answer → Judgement
judged call due None = W.Unreadable
judged call due (Some made) = cond (made.code == due.code && made.sum == due.sum) (W.Same call) (W.Different call)
