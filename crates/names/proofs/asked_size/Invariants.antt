-- The invariant: the code points in front of what is left have so many bytes.
use Rattle.std.proofs.Common.{◌≤◌}
use Rattle.std.specs.Str.Iter.{chars_rest}
use Rattle.names.specs.Layout.{name_limit}
use Rattle.names.proofs.Text.{Sized}
use Rattle.names.proofs.asked_size.Given as goal

abbrev pub invariant-loop-c : goal.invariant-loop-c
invariant-loop-c l = (l.size ≤ name_limit) × Sized l.asked (chars_rest l.c-iterator) l.size
