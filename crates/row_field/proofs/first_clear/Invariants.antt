-- Each row that is passed is set, so that the first clear row looked for from here is that of the whole (`clear-past`, `clear_next`).
use Rattle.std.proofs.Common.{◌≡◌, ◌-◌}
use Rattle.row_field.specs.Meaning.{first_clear_row}
use Rattle.row_field.proofs.first_clear.Given as goal

abbrev pub invariant-loop-row : goal.invariant-loop-row
invariant-loop-row l = first_clear_row l.field l.row (l.rows - l.row) ≡ first_clear_row l.field 0 l.rows
