-- `width_of` meets its contract: the code's table is the table of widths, and no entry passes 8.
use mathlib.Core.Path.{sym}
use native.Mathlib.Omega.{arith}
use lib.ListN.{get_or-eq_default}
use Rattle.stored_value.specs.Meaning.{widths, width}
use Rattle.stored_value.proofs.Widths.{width-le}
use Rattle.stored_value.proofs.width_of.Goals as goal

pub returns-then-t-lt-TYPES : goal.returns-then-t-lt-TYPES
unfolding width
returns-then-t-lt-TYPES c = (c.from.ensures, omega (arith, c.from.ensures, width-le c.args.t))

pub returns : goal.returns
unfolding width
returns c = (sym (get_or-eq_default widths 0 c.if-t-lt-TYPES.false), omega arith)
