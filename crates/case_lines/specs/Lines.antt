-- What is left of the lines of a text.
use Rattle.std.specs.Prelude.{ℕ, List}
use Rattle.case_lines.specs.declared.Line.{Line}
use Rattle.case_lines.specs.declared.Lines.{Lines}
use Rattle.case_lines.specs.Promises.{lines_of}

abbrev pub text_of : Line → List ℕ
text_of line = line.text.now

abbrev pub lines_left : Lines → List (List ℕ)
lines_left lines = lines_of lines.rest.now
