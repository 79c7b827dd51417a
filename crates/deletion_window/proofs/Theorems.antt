-- A proof of each claim.
use Prim.Native.Nat.{ℕ, ◌+◌, ◌<◌}
use mathlib.Core.Path.{◌≡◌, refl, sym, ap, ◌∙◌}
use mathlib.Core.Logic.Iff
use mathlib.Core.Bool.{true}
use mathlib.Core.List.{List, [], ◌∷◌}
use native.Mathlib.Nat.{add_assoc}
use native.Mathlib.Omega.{arith}
use lib.Dec.{leb}
use lib.ListN.{length, get_or}
use borrow.Author.Tests.{le-leb}
use Rattle.numbers.specs.Meaning.{be, le}
use Rattle.refusal.specs.Meaning.{limit}
use Rattle.std.specs.Prelude.{Err, Ok}
use Rattle.refusal.specs.Reading.{check, and_then}
use Rattle.refusal.specs.declared.Refusal.TheVariants.{Short, Magic, Version, Checksum}
use Rattle.refusal.proofs.Laws.{then_same}
use Rattle.row_field.specs.Meaning.{size, bit, count}
use Rattle.roaring.specs.Layout.{array, Container, GoodContainers, plain, plain-bitmap}
use Rattle.deletion_file.specs.Layout.{magic}
use Rattle.deletion_file.specs.Reading.{bitmap_in, bin_marked, deletions_ready, deletions, counted}
use Rattle.deletion_file.proofs.BinSteps.{the_bin}
use Rattle.deletion_file.proofs.Accepted.{deleted_back, bytes-right}
use Rattle.deletion_file.proofs.Theorems as without
use Rattle.deletion_window.specs.Layout.{magic64, bitmaps}
use Rattle.deletion_window.specs.Reading.{rows_of_bin, rows_in, marked_in, window_ready, window_deletions, window_buffer}
use Rattle.deletion_window.specs.Claims.{RowsRise, WindowMeans, MagicBytes, OneRowBin, Allowed, BinIsRead, LaidOutIsRead, OldFileIsEither, AcceptedWasLaidOut, OtherVersion, OtherMagic, FalseChecksum, Faulty64, Faulty32, OnlyBitmapCarries, FromRowZero, WithoutWindowIsMagic, SideBySide, TwoWindows}
use Rattle.deletion_window.proofs.Bitmaps64.{bitmaps_rise, refused_64}
use Rattle.deletion_window.proofs.InWindows.{field_means, counts_add}
use Rattle.deletion_window.proofs.Bins.{refused_32, behind_32, behind_64, not-magic, bin-other-magic, bin-false-checksum}
use Rattle.deletion_window.proofs.Files.{asked_read, held_rows, rows_cut, held_cut, set-has-rows, file-either}
use Rattle.deletion_window.proofs.Calls.{refused_so, marked_so, has, bit_so, accepted_so, deleted_so, count_so, answers_so, call_only}
use Rattle.deletion_window.proofs.FromZero.{accepted_zero, outside-zero, refused_zero, buffers_zero}

-- ---- rows

pub rows_rise : RowsRise
rows_rise rows bytes m = bitmaps_rise m

pub window_means : WindowMeans
window_means first n r rows = field_means first n r rows

pub magic-bytes : MagicBytes
magic-bytes = refl

-- a container of key 0 that has row 5
abbrev five : Container
five = record { key = 0; body = array (5 ∷ []) }

pub one-row-bin : OneRowBin
one-row-bin =
    let good : GoodContainers true 0 16 (five ∷ []) = (omega arith, omega arith, (omega arith, omega arith, (omega arith, omega arith, tt)), omega arith, tt) in
    bitmaps (record { index = 1; low = 5 ∷ []; bitmap = plain (five ∷ []) } ∷ [])
    (omega arith, omega arith, plain-bitmap (five ∷ []) (omega arith) refl good, tt)

-- ---- 1

pub bin_is_read : BinIsRead
bin_is_read file b first n buffer rows h a = answers_so file b first n buffer a rows h

pub laid_out_is_read : LaidOutIsRead
laid_out_is_read file b first n buffer sets d h a = bin_is_read file b first n buffer (get_or sets b []) (set-has-rows d b h) a

pub old_file_is_either : OldFileIsEither
old_file_is_either file sets d = file-either d

-- ---- 2

pub accepted_was_laid_out : AcceptedWasLaidOut
accepted_was_laid_out file b first n buffer k t e =
    let (after, is) = deleted_back n (window_deletions file b first n buffer) e in
    let (a, (rows, are)) = accepted_so file b first n buffer is in
    let h = rows_cut file b rows t are in
    record { rows = rows; laid_out = h; allowed = a; answers = bin_is_read file b first n buffer rows h a }

no_version : (file : List ℕ) (b first n : ℕ) (clear : List ℕ) → (get_or file 0 0 ≡ 1 → ⊥)
    → marked_in first n (rows_in b file) clear ≡ check (leb 1 (length file)) Short (Err Version)
unfolding marked_in rows_in
no_version file b first n clear h =
    rw (without.asked_no_version file b h, without.ends (leb 1 (length file)) Short Version rows_of_bin) (without.ends (leb 1 (length file)) Short Version _)

pub other-version : OtherVersion
unfolding window_deletions
other-version file b first n buffer h = then_same (window_ready file first n buffer) _ _ (λ clear. no_version file b first n clear h)

-- ---- 3

pub other-magic : OtherMagic
other-magic file b first n buffer x t h a w =
    let c = held_cut t h in
    (refused_so file b first n buffer a Magic).1 (held_rows h ∙ bin-other-magic x c.are_bytes c.magic_fits w)

pub false-checksum : FalseChecksum
false-checksum file b first n buffer x h a w e = (refused_so file b first n buffer a Checksum).1 (held_rows h ∙ bin-false-checksum x w e)

pub faulty_64 : Faulty64
faulty_64 file b first n buffer bytes r t h a =
    Iff.trans (rw (held_rows h ∙ behind_64 bytes) at (refused_so file b first n buffer a r))
    (refused_64 bytes r (bytes-right (le 4 magic64) bytes (held_cut t h).are_bytes))

pub faulty_32 : Faulty32
faulty_32 file b first n buffer bytes r t h a =
    Iff.trans (rw (held_rows h ∙ behind_32 bytes) at (refused_so file b first n buffer a r))
    (refused_32 bytes r (bytes-right (be 4 magic) bytes (held_cut t h).are_bytes))

pub only_bitmap_carries : OnlyBitmapCarries
only_bitmap_carries file b first n buffer r e = rw e at (call_only file b first n buffer)

-- ---- 4

pub from-row-zero : FromRowZero
from-row-zero file b n buffer t =
    record {
      accepted = accepted_zero file b n buffer t;
      outside = outside-zero file b n buffer t;
      refused = λ r e no-magic no-range. refused_zero file b n buffer t r no-magic no-range e;
      buffers = buffers_zero file b n buffer t;
    }

pub without_window_is_magic : WithoutWindowIsMagic
unfolding deletions deletions_ready bin_marked check and_then
without_window_is_magic file b n buffer bytes sum h l k room =
    let e : bitmap_in b file ≡ Err Magic = the_bin b file (asked_read h) ∙ not-magic bytes sum in
    rw (le-leb (length file) limit l, le-leb n limit k, le-leb (size n) (length buffer) room, e)

-- ---- 5

module _ (file : List ℕ) (b first n m : ℕ) (whole left right : List ℕ)
    (a : Allowed file first (n + m) whole) (l : Allowed file first n left) (r : Allowed file (first + n) m right) where
  same_left : (q : ℕ) → q < n → bit (window_buffer file b first (n + m) whole) q ≡ bit (window_buffer file b first n left) q
  same_left q h = bit_so file b first (n + m) whole a q (omega arith) ∙ sym (bit_so file b first n left l q h)

  same-right : (q : ℕ) → q < m → bit (window_buffer file b first (n + m) whole) (n + q) ≡ bit (window_buffer file b (first + n) m right) q
  same-right q h =
      bit_so file b first (n + m) whole a (n + q) (omega arith) ∙ ap (has (rows_in b file)) (sym (add_assoc first n q))
      ∙ sym (bit_so file b (first + n) m right r q h)

  both_counted : (j k : ℕ) → counted n (window_deletions file b first n left) ≡ Ok j → counted m (window_deletions file b (first + n) m right) ≡ Ok k
      → counted (n + m) (window_deletions file b first (n + m) whole) ≡ Ok (j + k)
  both_counted j k e f =
      let (after, is) = deleted_back n (window_deletions file b first n left) e in
      let (_, (rows, are)) = accepted_so file b first n left is in
      let c = counts_add (window_buffer file b first (n + m) whole) (window_buffer file b first n left) (window_buffer file b (first + n) m right) n m same_left same-right in
      let d : count (window_buffer file b first (n + m) whole) (n + m) ≡ j + k = omega (arith, c, count_so file b first n left e, count_so file b (first + n) m right f) in
      deleted_so file b first (n + m) whole (marked_so file b first (n + m) whole a rows are) ∙ ap Ok d

  side_by_side : SideBySide file b first n m whole left right
  side_by_side =
      record {
        refused_left = λ q. Iff.trans (refused_so file b first (n + m) whole a q) (Iff.symm (refused_so file b first n left l q));
        refused_right = λ q. Iff.trans (refused_so file b first (n + m) whole a q) (Iff.symm (refused_so file b (first + n) m right r q));
        rows_left = same_left;
        rows_right = same-right;
        counts = both_counted;
      }

pub two_windows : TwoWindows
two_windows file b first n m whole left right a l r =
    side_by_side file b first n m whole left right a
    record { file_in-limit = a.file_in-limit; count_in-limit = omega arith; end_in_limit = omega arith; room = l }
    record { file_in-limit = a.file_in-limit; count_in-limit = omega arith; end_in_limit = omega arith; room = r }
