-- Measuring and marking a bin's bitmap: roaring's promises put into the reading. And what a call's answer stands for in numbers.
use Prim.Native.Nat.{ℕ, ◌<◌, ◌≤◌}
use mathlib.Core.Path.{◌≡◌, refl, sym, ap}
use mathlib.Core.List.{List}
use borrow.Author.Tests.{le-leb, lt-leb}
use lib.ListN.{length}
use Rattle.numbers.specs.Meaning.{Bytes}
use Rattle.std.specs.Prelude.{Result, Err, Ok}
use Rattle.refusal.specs.declared.Refusal.{Refusal}
use Rattle.refusal.specs.declared.Refusal.TheVariants.{Bitmap, Range}
use Rattle.refusal.specs.Reading.{check, and_then, refused_as, numbers_of, fault_in}
use Rattle.refusal.proofs.Laws.{not-ok, refused_as-ok}
use Rattle.row_field.specs.Meaning.{mark_all}
use Rattle.roaring.specs.declared.Extent.TheVariants.{Exactly}
use Rattle.roaring.specs.declared.Shape.{Shape}
use Rattle.roaring.specs.Reading.{Fault, unsound, Parsed, read, measured, measured_by, end_of, rows_read}
use Rattle.roaring.specs.Promises.{SoundBelow}
use Rattle.roaring.proofs.Measuring.{is_sound, rows-measured, measured-sound}
use Rattle.deletion_file.specs.Reading.{bin_entry, bitmap_marked, counted, deletions_out, deletions_fault, deletions_numbers}
use Rattle.deletion_file.specs.Promises.{bitmap_shape}

-- ---- measured, compared, marked

-- what was read of bytes that have a shape
pub is_parsed : (bytes : List ℕ) {found : Shape} → Ok found ≡ bitmap_shape bytes
    → (p : Parsed) × (measured (Exactly (length bytes)) bytes ≡ Ok p) × (found.end ≡ end_of p.rows)
unfolding bitmap_shape
is_parsed bytes e =
    let (p, is, rows, end, long) = is_sound (measured (Exactly (length bytes)) bytes) (sym (refused_as-ok _ _ _ (sym e))) in
    (p, is, end)

-- what was read of bytes that have none
pub is_broken : (bytes : List ℕ) {r : Refusal} → Err r ≡ bitmap_shape bytes
    → (i : ℕ) × (measured (Exactly (length bytes)) bytes ≡ Err (unsound i)) × (r ≡ Bitmap bin_entry i)
unfolding bitmap_shape measured_by refused_as
is_broken bytes {r} e = go (measured (Exactly (length bytes)) bytes) refl e
  where
    go : (o : Result Parsed Fault) → measured (Exactly (length bytes)) bytes ≡ o → Err r ≡ refused_as (λ why. Bitmap bin_entry why.container) (measured_by o)
        → (i : ℕ) × (measured (Exactly (length bytes)) bytes ≡ Err (unsound i)) × (r ≡ Bitmap bin_entry i)
    go (Err (unsound i)) m e = (i, m, cc)
    go (Ok p) m e = absurd (not-ok e)

module _ (n : ℕ) (field bytes : List ℕ) where
  pub not_marked : {r : Refusal} → Err r ≡ bitmap_shape bytes → bitmap_marked bytes n field ≡ Err r
  unfolding bitmap_marked and_then refused_as
  not_marked e = let (i, is, same) = is_broken bytes e in rw is (ap Err (sym same))

  module _ {found : Shape} (e : Ok found ≡ bitmap_shape bytes) where
    pub beyond_so : n < found.end → bitmap_marked bytes n field ≡ Err (Range bin_entry)
    unfolding bitmap_marked and_then refused_as check
    beyond_so h =
        let (p, is, end) = is_parsed bytes e in
        let t = lt-leb (end_of p.rows) n (rw end at h) in
        rw (is, t)

    module _ (h : found.end ≤ n) (b : Bytes bytes) where
      pub sound-below : SoundBelow n bytes
      sound-below =
          let (p, is, end) = is_parsed bytes e in
          measured-sound (Exactly (length bytes)) bytes p b is n (rw end at h)

      pub marked_so : bitmap_marked bytes n field ≡ Ok (mark_all field (rows_read (read bytes)))
      unfolding bitmap_marked and_then refused_as check
      marked_so =
          let (p, is, end) = is_parsed bytes e in
          let t = le-leb (end_of p.rows) n (rw end at h) in
          rw (is, t, rows-measured (Exactly (length bytes)) bytes p b is)

-- ---- in numbers

module _ (n : ℕ) where
  pub numbers_so : (o : Result (List ℕ) Refusal) → deletions_out (counted n o) ≡ numbers_of 0 (deletions_numbers n) o
  unfolding counted deletions_numbers and_then numbers_of
  numbers_so (Err r) = refl
  numbers_so (Ok marked) = refl

  pub fault_so : (o : Result (List ℕ) Refusal) → deletions_fault (counted n o) ≡ fault_in o
  unfolding counted and_then fault_in
  fault_so (Err r) = refl
  fault_so (Ok marked) = refl
