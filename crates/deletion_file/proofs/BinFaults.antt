-- Where a bin is broken: what the reading of its bitmap refuses is what is wrong with the bytes. Which container is broken is roaring's claim `NamesTheBroken`.
use Prim.Native.Nat.{ℕ, ◌<◌, ◌≤◌}
use mathlib.Core.Path.{◌≡◌, refl, sym, ◌∙◌}
use mathlib.Core.Bool.{Bool, true, false}
use mathlib.Core.List.{List, [], append-nil}
use native.Mathlib.Decide.{dec_lt}
use native.Mathlib.Omega.{arith}
use lib.Dec.{leb}
use lib.ListN.{length}
use borrow.Author.Tests.{leb-false, le-leb, lt-leb}
use Rattle.numbers.specs.Meaning.{Bytes, four_bytes}
use Rattle.std.specs.Prelude.{Result, Err, Ok}
use Rattle.refusal.specs.Reading.{check, and_then, refused_as}
use Rattle.refusal.specs.declared.Refusal.{Refusal}
use Rattle.refusal.specs.declared.Refusal.TheVariants.{Short, Magic, Version, Head, Dict, Bitmap, Range, Twice, Missing, Room, Literal, Limit, Checksum, NoBin}
use Rattle.refusal.proofs.Laws.{not-ok}
use Rattle.refusal.specs.Meaning.{limit}
use Rattle.row_field.specs.Meaning.{size, cleared, Below}
use Rattle.roaring.specs.declared.Extent.TheVariants.{Exactly}
use Rattle.roaring.specs.Layout as roaring
use Rattle.roaring.specs.Faults.{Broken}
use Rattle.roaring.specs.Claims.{NamesTheBroken}
use Rattle.roaring.specs.Reading.{Fault, unsound, Parsed, measured, end_of, measured_by}
use Rattle.roaring.proofs.Measuring.{end_below, below_end, measured_laid, measured_back, not_sound}
use Rattle.roaring.proofs.RowsRising.{bitmap_rising}
use Rattle.deletion_file.specs.Reading.{bitmap_in, bin_entry, bitmap_marked, bin_marked, deletions_ready, deletions}
use Rattle.deletion_file.specs.Claims.{BitmapOutside, BinFaultIs, NamesTheFault}
use Rattle.deletion_file.proofs.LaidOut.{bytes_laid}
use Rattle.deletion_file.proofs.Accepted.{whole-bitmap, bitmap-cut}

module _ (names : NamesTheBroken) (n : ℕ) (field bytes : List ℕ) (b : Bytes bytes) where
  broken_so : (i : ℕ) → measured (Exactly (length bytes)) bytes ≡ Err (unsound i) → Broken (Exactly (length bytes)) bytes i
  unfolding measured_by
  broken_so i m = (names (Exactly (length bytes)) bytes i b).0 (rw m)

  -- ---- refused, so broken

  outside_so : (p : Parsed) → measured (Exactly (length bytes)) bytes ≡ Ok p → n < end_of p.rows → BitmapOutside n bytes
  outside_so p m h =
      let q = measured_back (Exactly (length bytes)) bytes p b m in
      record {
        rows = p.rows;
        bitmap = whole-bitmap p.rows bytes q.0 q.1 q.3 q.4 q.2;
        outside = λ w. omega (arith, below_end n p.rows w);
      }

  range_so : (t : Bool) (p : Parsed) (after : List ℕ) {r : Refusal} → measured (Exactly (length bytes)) bytes ≡ Ok p → leb (end_of p.rows) n ≡ t
      → check t (Range bin_entry) (Ok after) ≡ Err r → BinFaultIs n bytes r
  unfolding check
  range_so true p after m l e = absurd (not-ok (sym e))
  range_so false p after {r} m l e =
      let same : r ≡ Range bin_entry = cc in
      rw same (refl, outside_so p m (leb-false (end_of p.rows) n l))

  fault_go : (X : Result Parsed Fault) {r : Refusal} → measured (Exactly (length bytes)) bytes ≡ X → bitmap_marked bytes n field ≡ Err r → BinFaultIs n bytes r
  unfolding bitmap_marked refused_as and_then
  fault_go (Err (unsound i)) {r} m e =
      let f = rw m at e in
      let same : r ≡ Bitmap bin_entry i = cc in
      rw same (refl, broken_so i m)
  fault_go (Ok p) m e = range_so (leb (end_of p.rows) n) p _ m refl (rw m at e)

  bitmap-broken : (r : Refusal) → bitmap_marked bytes n field ≡ Err r → BinFaultIs n bytes r
  bitmap-broken r e = fault_go (measured (Exactly (length bytes)) bytes) refl e

  -- ---- broken, so refused

  past_so : (rows : List ℕ) → roaring.Bitmap rows bytes → (Below n rows → ⊥) → Dec (n < end_of rows) → n < end_of rows
  past_so rows m o (yes h) = h
  past_so rows m o (no h) = absurd (o (end_below n 0 four_bytes rows (bitmap_rising m) (omega arith)))

  bitmap_refused : (r : Refusal) → BinFaultIs n bytes r → bitmap_marked bytes n field ≡ Err r
  unfolding bitmap_marked refused_as and_then check
  bitmap_refused (Bitmap entry container) w =
      let m = not_sound (measured (Exactly (length bytes)) bytes) (sym ((names (Exactly (length bytes)) bytes container b).1 w.1)) in
      rw (m, w.0)
  bitmap_refused (Range entry) w =
      let o = w.1 in
      let m = rw (append-nil bytes) at (measured_laid (Exactly (length bytes)) o.bitmap [] refl) in
      let h = lt-leb (end_of o.rows) n (past_so o.rows o.bitmap o.outside (dec_lt n (end_of o.rows))) in
      rw (m.1, m.2, h, w.0)
  bitmap_refused Short w = absurd w
  bitmap_refused Magic w = absurd w
  bitmap_refused Version w = absurd w
  bitmap_refused Head w = absurd w
  bitmap_refused Dict w = absurd w
  bitmap_refused (Twice entry) w = absurd w
  bitmap_refused (Missing row) w = absurd w
  bitmap_refused Room w = absurd w
  bitmap_refused Literal w = absurd w
  bitmap_refused Limit w = absurd w
  bitmap_refused Checksum w = absurd w
  bitmap_refused NoBin w = absurd w

-- the stages before have passed
marks_bitmap : (file : List ℕ) (b n : ℕ) (buffer clear bytes : List ℕ) → deletions_ready file n buffer ≡ Ok clear → bitmap_in b file ≡ Ok bytes
    → deletions file b n buffer ≡ bitmap_marked bytes n clear
unfolding deletions bin_marked and_then
marks_bitmap file b n buffer clear bytes e i = rw (e, i)

ready : (file : List ℕ) (n : ℕ) (buffer : List ℕ) → length file ≤ limit → n ≤ limit → size n ≤ length buffer → deletions_ready file n buffer ≡ Ok (cleared n buffer)
unfolding deletions_ready check
ready file n buffer l m h = rw (le-leb (length file) limit l, le-leb n limit m, le-leb (size n) (length buffer) h)

pub fault_named : NamesTheBroken → NamesTheFault
fault_named names file b n buffer bytes r t holds l k h =
    let clear : List ℕ = cleared n buffer in
    let i = bytes_laid holds in
    let o = (bitmap-cut file b bytes t i).are_bytes in
    let m = marks_bitmap file b n buffer clear bytes (ready file n buffer l k h) i in
    (λ z. bitmap-broken names n clear bytes o r (sym m ∙ z), λ w. m ∙ bitmap_refused names n clear bytes o r w)
