-- The scan's answer less the rows of another field: what a graph may claim.
use Prim.Native.Nat.{ℕ, ◌+◌, ◌*◌, ◌≤◌}
use mathlib.Core.Path.{◌≡◌, ap, ◌∙◌}
use mathlib.Core.List.{List, ◌++◌}
use native.Mathlib.Omega.{arith}
use borrow.Author.Tests.{le-leb}
use lib.ListN.{length, drop, length-append}
use Rattle.refusal.specs.Meaning.{limit}
use Rattle.std.specs.Prelude.{Ok}
use Rattle.refusal.specs.Reading.{check, and_then}
use Rattle.row_field.specs.Meaning.{size, count}
use Rattle.row_field.proofs.Fronts.{rows-front}
use Rattle.subtract.specs.declared.Record.{Record}
use Rattle.subtract.specs.declared.Subtracted.{Subtracted}
use Rattle.subtract.specs.Meaning.{subtracted, removed, answer_of}
use Rattle.subtract.proofs.WithRecord.{said_again}
use Rattle.subtract.specs.Reading.{subtraction, buffer_by, subtract_buffer, replaced, record_subtraction}
use Rattle.subtract.proofs.Laws.{subtracted-front}
use Rattle.subtract.proofs.Theorems.{keeps_the_length, left-and-removed}
use Rattle.stored_value.specs.Meaning.{Cell}
use Rattle.bitmap_index.specs.declared.Question.{Question}
use Rattle.bitmap_index.specs.Meaning.{scan, scan_record}
use Rattle.bitmap_index.specs.Promises.{scan_answer}
use Rattle.bitmap_index.proofs.SameColumn.{scan-length, scan-count}
use Rattle.file_to_answers.specs.Claims.{DrawnFrom}

module _ (q : Question) (ls : List (List ℕ)) (cells : List Cell) (field g : List ℕ) (small : length cells ≤ limit)
    (room : size (length cells) ≤ length g) where
  abbrev n : ℕ
  n = length cells

  abbrev f : List ℕ
  f = (scan q ls cells).field

  abbrev behind : List ℕ
  behind = drop (size n) field

  in_front : n ≤ length f * 8
  in_front = omega (arith, scan-length q ls cells)

  rows_left : subtracted n (f ++ behind) g ≡ subtracted n f g ++ behind
  rows_left = subtracted-front n f behind g in_front

  first-room : size n ≤ length (f ++ behind)
  first-room = omega (arith, length-append f behind, scan-length q ls cells)

  -- so many are left
  matched_left : count (subtracted n (f ++ behind) g) n ≡ count (subtracted n f g) n
  matched_left = rw rows_left (ap length (rows-front (subtracted n f g) behind 0 n (omega (arith, keeps_the_length n f g, in_front))))

  -- so many were set
  matched_before : count (f ++ behind) n ≡ (scan q ls cells).matched
  matched_before = ap length (rows-front f behind 0 n (omega (arith, in_front))) ∙ scan-count q ls cells

  pub buffer_left : subtract_buffer n (scan_answer q ls cells field).buffer g ≡ subtracted n f g ++ behind
  unfolding subtraction buffer_by check
  buffer_left = rw (le-leb n limit small, le-leb (size n) (length (f ++ behind)) first-room, le-leb (size n) (length g) room) rows_left

  -- the record of what is left
  abbrev left_over : Record
  left_over = replaced (scan_record q ls cells) (count g n) (count (subtracted n (f ++ behind) g) n)

  pub drawn_from : (a : Subtracted)
      × (record_subtraction (scan_answer q ls cells field).said (scan_answer q ls cells field).buffer g ≡ Ok a) × DrawnFrom q ls cells g a
  unfolding record_subtraction subtraction check and_then scan_record
  drawn_from = (
    record { answer = answer_of left_over; removed = removed n (f ++ behind) g },
    rw (le-leb n limit small, le-leb (size n) (length (f ++ behind)) first-room, le-leb (size n) (length g) room),
    record {
      rows = ap (λ (r : Record). r.rows) (said_again left_over);
      nulls = ap (λ (r : Record). r.nulls) (said_again left_over);
      deleted = ap (λ (r : Record). r.deleted) (said_again left_over);
      matched = ap (λ (r : Record). r.matched) (said_again left_over) ∙ matched_left;
      with_removed = ap (λ (r : Record). r.matched + removed n (f ++ behind) g) (said_again left_over) ∙ left-and-removed n (f ++ behind) g ∙ matched_before;
    },
  )
