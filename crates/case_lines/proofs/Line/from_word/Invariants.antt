-- `from_word` meets its contract: the rest has the asked word behind as many words as are left to pass.
use Rattle.std.proofs.Common.{◌≡◌, ◌-◌}
use Rattle.case_lines.specs.Promises.{line_from_word}
use Rattle.case_lines.proofs.Line.from_word.Given as goal

abbrev pub invariant-loop : goal.invariant-loop
invariant-loop l = line_from_word (l.k - l.counter) l.rest ≡ line_from_word l.k l.initial.rest
