use Rattle.std.proofs.Common.{◌-◌, ◌*◌, rules, refl, sym, ◌∙◌, arith, get_or}
use lib.ListN.{length-set}
use Rattle.numbers.proofs.ByteLists.{bytes-set}
use Rattle.row_field.specs.Meaning.{up_to}
use Rattle.row_field.proofs.Marks.{mark_all-past}
use Rattle.row_field.proofs.Loops.{marks_first, marks_bits, marks_past}
use Rattle.row_field.proofs.RunRows.{full_marked, fill_next, bytes_next, bytes_done}
use Rattle.row_field.proofs.mark_bytes.Goals as goal
use Rattle.row_field.proofs.mark_bytes.Goals.{then-this-ne0, else-this-ne0}

pub loop-i-init : goal.loop-i-init
loop-i-init g c = (refl, λ j. (c.type_inv.field j).fits, refl, λ _. marks_first _ _)

pub loop-i-preserved : goal.loop-i-preserved
loop-i-preserved g c =
    let l = c.loop-i in
    let to = c.args.to.0 in (
      simp length-set l.invariant.0,
      bytes-set l.field l.i _ l.invariant.1 (omega arith),
      fill_next l.field to l.i (omega arith) (omega arith) (l.invariant.1 l.i) (omega arith) ∙ l.invariant.2,
      elim c.if-this-ne0.branch [
        | then-this-ne0 w ↦ λ told. rw w.seen-is (marks_bits l.seen (get_or l.field l.i 0) (l.invariant.3 told) (bytes_next to l.i (omega arith)) (full_marked l.field l.i (omega arith) (l.invariant.1 l.i) (omega arith)))
        | else-this-ne0 w ↦ λ told. absurd (search (rules, told, w.if-this-ne0.false))
      ],
    )

pub returns : goal.returns
returns g c =
    let l = c.loop-i in
    let to = c.args.to.0 in
    let past = bytes_done l.field to l.i (omega arith) in
    record {
      marked = sym (mark_all-past l.field (up_to (l.i * 8) ((to - l.i) * 8)) past) ∙ l.invariant.2;
      seen = λ told. (marks_past (l.invariant.3 told) past).seen;
    }
