-- The files that have a bin of either kind: a bin laid out there is found and read; what is read was laid out; a file for a list of row sets; files and bins of the one kind.
use Prim.Native.Nat.{ℕ, zero, suc, ◌<◌}
use mathlib.Core.Path.{◌≡◌, refl, ◌∙◌}
use mathlib.Core.Logic.{◌⊎◌, inr}
use mathlib.Core.List.{List, [], ◌∷◌}
use native.Mathlib.Omega.{arith}
use lib.ListN.{length, get_or}
use Rattle.numbers.specs.Meaning.{All, Bytes}
use Rattle.std.specs.Prelude.{Result, Err, Ok}
use Rattle.refusal.specs.Reading.{and_then}
use Rattle.refusal.specs.declared.Refusal.{Refusal}
use Rattle.refusal.specs.declared.Refusal.TheVariants.{Magic}
use Rattle.refusal.proofs.Laws.{then_ok}
use Rattle.crc32.proofs.Laws.{checksum-lt}
use Rattle.roaring.specs.Layout.{Bitmap}
use Rattle.deletion_file.specs.Layout.{Bin, frames, bin_bytes, Framed}
use Rattle.deletion_file.specs.Reading.{bin_asked_for, begins_with_magic, after_magic, bitmap_in}
use Rattle.deletion_file.proofs.Frames.{Between, between_first, between_next}
use Rattle.deletion_file.proofs.LaidOut.{asked_laid}
use Rattle.deletion_file.proofs.Accepted.{BinCut, bin-cut}
use Rattle.deletion_file.specs.Layout as old
use Rattle.deletion_window.specs.Layout.{EitherBin, bits_32, summed, EitherBins, none, more, EitherFile, version_1, HasFrame, has-frame, HasRows}
use Rattle.deletion_window.specs.Reading.{rows32, rows_of_bin, rows_in}
use Rattle.deletion_window.proofs.Bins.{bin_bytes_lem, bin_least, bin-read, bin_back, magic-or}

-- ---- laid out, so read

pub asked_read : {b : ℕ} {x : Bin} {file : List ℕ} → HasFrame b x file → bin_asked_for b file ≡ Ok x
asked_read (has-frame earlier later x f) = asked_laid earlier x later f

pub held_rows : {b : ℕ} {x : Bin} {file : List ℕ} → HasFrame b x file → rows_in b file ≡ rows_of_bin x
unfolding rows_in and_then
held_rows h = rw (asked_read h)

pub laid_rows : {b : ℕ} {rows file : List ℕ} → HasRows b rows file → rows_in b file ≡ Ok rows
laid_rows h = held_rows h.stands ∙ bin-read h.bin

-- ---- read, so laid out

file-has-rows : {xs : List Bin} {b : ℕ} {rows bytes file : List ℕ} → Between xs b (summed bytes) → EitherBin rows bytes → All Framed xs → file ≡ 1 ∷ frames xs
    → HasRows b rows file
file-has-rows {bytes = bytes} i m f e =
    record { bytes = bytes; bin = m; stands = rw (← i.number, e, i.cut) (has-frame i.earlier i.later (summed bytes) (rw i.cut at f)) }

cut-has-rows : {file : List ℕ} {b : ℕ} {x : Bin} {rows : List ℕ} → BinCut file b x → rows_of_bin x ≡ Ok rows → HasRows b rows file
cut-has-rows {x = x} {rows = rows} c e =
    let (m, same) = bin_back x rows c.are_bytes c.magic_fits e in
    file-has-rows (rw same at c.between) m c.framed c.cut

pub rows_cut : (file : List ℕ) (b : ℕ) (rows : List ℕ) → Bytes file → rows_in b file ≡ Ok rows → HasRows b rows file
unfolding rows_in
rows_cut file b rows t e = let (x, is, are) = then_ok (bin_asked_for b file) rows_of_bin rows e in cut-has-rows (bin-cut file b x t is) are

-- the bin of a file of bytes
pub held_cut : {b : ℕ} {x : Bin} {file : List ℕ} → Bytes file → HasFrame b x file → BinCut file b x
held_cut {b} {x} {file} t h = bin-cut file b x t (asked_read h)

-- ---- a file for a list of row sets

bins_framed : {sets : List (List ℕ)} {xs : List Bin} → EitherBins sets xs → All Framed xs
bins_framed none = tt
bins_framed (more {bytes = bytes} m l bs) = ((bin_least m, l, checksum-lt bytes (bin_bytes_lem m)), bins_framed bs)

-- the bin of set b, among the others
record SetBin (sets : List (List ℕ)) (xs : List Bin) (b : ℕ) : Type 0 where
  bytes : List ℕ
  bin : EitherBin (get_or sets b []) bytes
  between : Between xs b (summed bytes)

set-bin : {sets : List (List ℕ)} {xs : List Bin} → EitherBins sets xs → (b : ℕ) → b < length sets → SetBin sets xs b
set-bin none b h = absurd (omega arith)
set-bin (more {bytes = bytes} {xs = xs} m l bs) zero h = record { bytes = bytes; bin = m; between = between_first (summed bytes) xs }
set-bin (more {bytes = bytes} m l bs) (suc b) h =
    let i = set-bin bs b (omega arith) in
    record { bytes = i.bytes; bin = i.bin; between = between_next (summed bytes) i.between }

pub set-has-rows : {sets : List (List ℕ)} {file : List ℕ} → EitherFile sets file → (b : ℕ) → b < length sets → HasRows b (get_or sets b []) file
set-has-rows (version_1 bs) b h =
    let i = set-bin bs b h in
    file-has-rows i.between i.bin (bins_framed bs) refl

-- ---- files and bins of the one kind

bins-either : {sets : List (List ℕ)} {xs : List Bin} → old.Bins sets xs → EitherBins sets xs
bins-either old.none = none
bins-either (old.more m l bs) = more (bits_32 m) l (bins-either bs)

pub file-either : {sets : List (List ℕ)} {f : List ℕ} → old.DeletionFile sets f → EitherFile sets f
file-either (old.version_1 bs) = version_1 (bins-either bs)

pub bin-has-rows : {b : ℕ} {rows f : List ℕ} → old.HasBin b rows f → HasRows b rows f
bin-has-rows (old.has-bin earlier later {bitmap = bitmap} m f) =
    record { bytes = bin_bytes bitmap; bin = bits_32 m; stands = has-frame earlier later (summed (bin_bytes bitmap)) f }

pub held_bin : {b : ℕ} {rows bytes f : List ℕ} → old.HoldsBytes b bytes f → Bitmap rows bytes → old.HasBin b rows f
held_bin (old.holds_bytes earlier later bytes f) m = old.has-bin earlier later m f

-- the bytes behind the 32-bit magic are read alike
pub as_without : (b : ℕ) (file : List ℕ) → (bitmap_in b file ≡ Err Magic) ⊎ (rows_in b file ≡ and_then (bitmap_in b file) rows32)
unfolding bitmap_in rows_in and_then
as_without b file = by (bin_asked_for b file)
  where
    by : (o : Result Bin Refusal) → (and_then o after_magic ≡ Err Magic) ⊎ (and_then o rows_of_bin ≡ and_then (and_then o after_magic) rows32)
    by (Err r) = inr refl
    by (Ok x) = magic-or x (begins_with_magic x.bytes) refl
