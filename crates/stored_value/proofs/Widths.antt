-- The table of widths: a rule that each entry keeps, by a test that antt computes at each.
use Prim.Native.Nat.{ℕ, ◌≤◌}
use mathlib.Core.Path.{refl}
use lib.Dec.{leb}
use lib.ListN.{get_or}
use borrow.Author.Tests.{leb-true}
use Rattle.numbers.proofs.Tables.{at_any}
use Rattle.stored_value.specs.Meaning.{widths, width}

pub width-le : (t : ℕ) → width t ≤ 8
unfolding width
width-le t = leb-true (get_or widths t 0) 8 (at_any (λ (w : ℕ). leb w 8) widths refl refl t)
