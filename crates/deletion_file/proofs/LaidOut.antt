-- What is laid out is read: the steps to it.
use Prim.Native.Nat.{ℕ, zero, suc, ◌<◌}
use mathlib.Core.Path.{◌≡◌, refl}
use mathlib.Core.List.{List, [], ◌∷◌, ◌++◌, append-nil}
use native.Mathlib.Omega.{arith}
use lib.ListN.{length, get_or}
use borrow.Author.Tests.{le-leb, eq-eqb}
use Rattle.numbers.specs.Meaning.{be, All}
use Rattle.numbers.proofs.ByteLists.{bytes-append, bytes-be}
use Rattle.crc32.specs.Meaning.{checksum}
use Rattle.crc32.proofs.Laws.{checksum-lt}
use Rattle.row_field.specs.Meaning.{mark_all, Below}
use Rattle.roaring.specs.Layout.{Bitmap}
use Rattle.roaring.specs.declared.Extent.TheVariants.{Exactly}
use Rattle.roaring.specs.Reading.{measured, end_of}
use Rattle.roaring.proofs.Measuring.{measured_laid, below_end}
use Rattle.roaring.proofs.BitmapBytes.{bytes-bitmap}
use Rattle.deletion_file.specs.Layout.{Bin, magic, bin_bytes, bin_of, frames, Bins, none, more, DeletionFile, version_1, Framed, HoldsBytes, holds_bytes, HasBin, has-bin}
use Rattle.std.specs.Prelude.{Ok}
use Rattle.refusal.specs.Reading.{check, and_then, refused_as}
use Rattle.deletion_file.specs.Reading.{bin_numbered, bin_in, bin_asked_for, begins_with_magic, is_true_checksum, after_magic, bitmap_in, bitmap_marked}
use Rattle.deletion_file.proofs.Frames.{Between, between_first, between_next, file-has-bin, walk_passes}

bins_framed : {sets : List (List ℕ)} {xs : List Bin} → Bins sets xs → All Framed xs
bins_framed none = tt
bins_framed (more {bitmap = bitmap} m l bs) =
    ((omega arith, l, checksum-lt (bin_bytes bitmap) (bytes-append (be 4 magic) bitmap (bytes-be 4 magic) (bytes-bitmap m))), bins_framed bs)

-- the bin of set b, among the others
record SetBin (sets : List (List ℕ)) (xs : List Bin) (b : ℕ) : Type 0 where
  bitmap : List ℕ
  is_bitmap : Bitmap (get_or sets b []) bitmap
  between : Between xs b (bin_of bitmap)

set-bin : {sets : List (List ℕ)} {xs : List Bin} → Bins sets xs → (b : ℕ) → b < length sets → SetBin sets xs b
set-bin none b h = absurd (omega arith)
set-bin (more {bitmap = bitmap} {xs = xs} m l bs) zero h = record { bitmap = bitmap; is_bitmap = m; between = between_first (bin_of bitmap) xs }
set-bin (more {bitmap = bitmap} m l bs) (suc b) h =
    let i = set-bin bs b (omega arith) in
    record { bitmap = i.bitmap; is_bitmap = i.is_bitmap; between = between_next (bin_of bitmap) i.between }

pub set-has-bin : {sets : List (List ℕ)} {file : List ℕ} → DeletionFile sets file → (b : ℕ) → b < length sets → HasBin b (get_or sets b []) file
set-has-bin (version_1 bs) b h =
    let i = set-bin bs b h in
    file-has-bin i.between i.is_bitmap (bins_framed bs) refl

-- ---- the bin is found, with its magic and checksum

bin_there : (earlier : List Bin) (x : Bin) (later : List Bin) → bin_numbered (length earlier) (earlier ++ (x ∷ later)) ≡ Ok x
unfolding bin_numbered
bin_there [] x later = refl
bin_there (y ∷ earlier) x later = bin_there earlier x later

magic_laid : (bitmap : List ℕ) → after_magic (bin_of bitmap) ≡ Ok bitmap
unfolding after_magic begins_with_magic is_true_checksum check
magic_laid bitmap = rw (eq-eqb (checksum (bin_bytes bitmap)) (checksum (bin_bytes bitmap)) refl)

pub record LaidBitmap (b : ℕ) (rows file : List ℕ) : Type 0 where
  pub bitmap : List ℕ
  pub is_bitmap : Bitmap rows bitmap
  pub is_read : bitmap_in b file ≡ Ok bitmap

-- a bin is found, whatever it holds
pub asked_laid : (earlier : List Bin) (x : Bin) (later : List Bin) → All Framed (earlier ++ (x ∷ later))
    → bin_asked_for (length earlier) (1 ∷ frames (earlier ++ (x ∷ later))) ≡ Ok x
unfolding bin_asked_for bin_in check and_then
asked_laid earlier x later f =
    let xs : List Bin = earlier ++ (x ∷ later) in
    let w = walk_passes xs (length (1 ∷ frames xs)) f (omega arith) in
    rw (le-leb 1 (length (1 ∷ frames xs)) (omega arith), w) (bin_there earlier x later)

-- and so are bytes behind a magic
pub bytes_laid : {b : ℕ} {bytes file : List ℕ} → HoldsBytes b bytes file → bitmap_in b file ≡ Ok bytes
unfolding bitmap_in and_then
bytes_laid (holds_bytes earlier later bytes f) = rw (asked_laid earlier (bin_of bytes) later f) (magic_laid bytes)

pub bitmap_laid : {b : ℕ} {rows file : List ℕ} → HasBin b rows file → LaidBitmap b rows file
bitmap_laid (has-bin earlier later {bitmap = bitmap} m f) =
    record { bitmap = bitmap; is_bitmap = m; is_read = bytes_laid (holds_bytes earlier later bitmap f) }

pub marked_laid : (n : ℕ) (field : List ℕ) {rows bitmap : List ℕ} → Bitmap rows bitmap → Below n rows → bitmap_marked bitmap n field ≡ Ok (mark_all field rows)
unfolding bitmap_marked refused_as check and_then
marked_laid n field {rows} {bitmap} m b =
    let l = measured_laid (Exactly (length bitmap)) m [] refl in
    let e : measured (Exactly (length bitmap)) bitmap ≡ Ok l.0 = rw (append-nil bitmap) at l.1 in
    rw (e, l.2, le-leb (end_of rows) n (below_end n rows b))
