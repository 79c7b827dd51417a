-- `cut` meets its contract.
use Rattle.case_lines.proofs.Words.{found, missing}
use Rattle.std.proofs.Common.{sym, ◌∙◌}
use Rattle.case_lines.proofs.cut.Goals as goal

pub returns-in-Some-clause-before : goal.returns-in-Some-clause-before
returns-in-Some-clause-before c = (found c.args.stop c.args.bytes.now c.in-Some.at (sym c.place_of.ensures ∙ c.in-Some.is)).before

pub returns-in-Some-clause-behind : goal.returns-in-Some-clause-behind
returns-in-Some-clause-behind c = (found c.args.stop c.args.bytes.now c.in-Some.at (sym c.place_of.ensures ∙ c.in-Some.is)).behind

pub returns-in-None-clause-before : goal.returns-in-None-clause-before
returns-in-None-clause-before c = (missing c.args.stop c.args.bytes.now (sym c.place_of.ensures ∙ c.in-None.is)).0

pub returns-in-None-clause-behind : goal.returns-in-None-clause-behind
returns-in-None-clause-behind c = (missing c.args.stop c.args.bytes.now (sym c.place_of.ensures ∙ c.in-None.is)).1
