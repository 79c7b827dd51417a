-- The rows of the bytes that are left, marked from here, give the whole (`bytes_next`, `bytes_done`), and where it is told so does what was seen.
use Rattle.std.proofs.Common.{◌≡◌, ◌-◌, ◌*◌, not, eqb, length, IsTrue, nat_eq}
use Rattle.numbers.specs.Meaning.{Bytes}
use Rattle.row_field.specs.Meaning.{mark_all, up_to}
use Rattle.row_field.proofs.Loops.{Marks}
use Rattle.row_field.proofs.mark_bytes.Given as goal

abbrev pub invariant-loop-i : goal.invariant-loop-i
invariant-loop-i g l =
    let whole = up_to (l.fn.from.0 * 8) ((l.fn.to.0 - l.fn.from.0) * 8) in
    let rest = up_to (l.i * 8) ((l.fn.to.0 - l.i) * 8) in
    (length l.field ≡ length l.initial.field) × Bytes l.field × (mark_all l.field rest ≡ mark_all l.initial.field whole)
    × (IsTrue (not (nat_eq g.row.TELL 0)) → Marks whole l.initial.field rest l.field (not (eqb l.seen 0)))
