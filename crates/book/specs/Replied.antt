-- A call's result as a reply.
use Rattle.std.specs.Prelude.{Result}
use Rattle.interval.specs.declared.fault.Fault.{Fault}
use Rattle.book.specs.declared.requests.Done.{Done}

-- what a call of a list answers
abbrev pub Reply : Type 0
Reply = Result Done Fault
