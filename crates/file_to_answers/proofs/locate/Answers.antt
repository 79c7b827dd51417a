use Rattle.file_to_answers.proofs.Calls.{locate_found, locate_absent, locate_refused}
use Rattle.file_to_answers.proofs.locate.Goals as goal

pub returns-in-Ok-Some : goal.returns-in-Ok-Some
returns-in-Ok-Some c = let p = rw c.in-Ok-Some.field-0-is at c.in-Ok-Some.ensures in locate_found _ _ _ _ p.1 p.2 p.3

pub returns-in-Ok-None : goal.returns-in-Ok-None
returns-in-Ok-None c = locate_absent _ _ _ _ (rw c.in-Ok-None.field-0-is at c.in-Ok-None.ensures) _

pub returns-in-Err : goal.returns-in-Err
returns-in-Err c = locate_refused _ _ _ _ c.in-Err.ensures c.number.ensures _
