use Rattle.std.proofs.Common.{refl}
use Rattle.foreign.proofs.question.Question.byte.Goals as goal

pub returns-in-Ok : goal.returns-in-Ok
returns-in-Ok c w h poses = let p = c.in-Ok.ensures w h poses in rw p.0 p.1

pub returns-in-Err-Refused : goal.returns-in-Err-Refused
returns-in-Err-Refused c w h poses = rw (c.in-Err-Refused.ensures w h poses, c.in-Err-Refused.field-0-is) refl

pub returns-in-Err-Misused : goal.returns-in-Err-Misused
returns-in-Err-Misused c w h poses = rw (c.in-Err-Misused.ensures w h poses, c.in-Err-Misused.field-0-is) refl
