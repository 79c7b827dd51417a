-- What is accepted was laid out: the steps to it, from the answer back to the bytes.
use Prim.Native.Nat.{ℕ, zero, suc, ◌≤◌}
use mathlib.Core.Path.{◌≡◌, sym, ap, ◌∙◌}
use mathlib.Core.List.{List, [], ◌∷◌, ◌++◌, append-nil}
use native.Mathlib.Omega.{arith}
use lib.Dec.{eqb, leb}
use lib.ListN.{length, drop, get_or, length-append}
use lib.Seq.{take-append_seam, drop-append_seam}
use borrow.Author.Tests.{leb-true, eqb-true}
use Rattle.numbers.specs.Meaning.{be, big, All, Bytes, four_bytes}
use Rattle.numbers.proofs.ByteLists.{bytes_take, bytes_drop}
use Rattle.numbers.proofs.Laws.{number_at_back}
use Rattle.refusal.specs.Meaning.{limit}
use Rattle.refusal.specs.declared.Refusal.{Refusal}
use Rattle.refusal.specs.declared.Refusal.TheVariants.{Short, Version, Range, Room, Limit}
use Rattle.crc32.specs.Meaning.{checksum}
use Rattle.row_field.specs.Meaning.{size, mark_all, cleared, Below}
use Rattle.roaring.specs.declared.Extent.TheVariants.{Exactly}
use Rattle.roaring.specs.Layout.{Bitmap}
use Rattle.roaring.specs.Reading.{container_of, measured, end_of}
use Rattle.roaring.proofs.Measuring.{measured_back, end_below}
use Rattle.roaring.proofs.RowsRising.{bitmap_rising}
use Rattle.deletion_file.specs.Layout.{Bin, bin_bytes, bin_of, frames, Framed, HoldsBytes, holds_bytes}
use Rattle.std.specs.Prelude.{Result, Ok}
use Rattle.refusal.specs.Reading.{refused_as}
use Rattle.deletion_file.specs.Reading.{bins, bin_numbered, bin_in, bin_asked_for, after_magic, bitmap_in, bin_entry, bitmap_marked, deletions_ready, counted}
use Rattle.refusal.proofs.Laws.{not-ok, ok_same, check-ok, then_ok, refused_as-ok}
use Rattle.deletion_file.proofs.BinSteps.{magic_back}
use Rattle.deletion_file.proofs.Frames.{Between, between_first, between_next, nothing, walk_passed}

-- ---- bytes of a part

bytes_left : (x y : List ℕ) → Bytes (x ++ y) → Bytes x
bytes_left x y b = rw (take-append_seam x y) at (bytes_take (length x) (x ++ y) b)

pub bytes-right : (x y : List ℕ) → Bytes (x ++ y) → Bytes y
bytes-right x y b = rw (drop-append_seam x y) at (bytes_drop (length x) (x ++ y) b)

-- ---- a bin among the bins

bin_between : (b : ℕ) (xs : List Bin) {x : Bin} → bin_numbered b xs ≡ Ok x → Between xs b x
unfolding bin_numbered
bin_between b [] e = absurd (not-ok e)
bin_between zero (y ∷ ys) e = rw (← ok_same _ _ e) (between_first y ys)
bin_between (suc b) (y ∷ ys) e = between_next y (bin_between b ys e)

framed_at : (ys : List Bin) (x : Bin) (zs : List Bin) → All Framed (ys ++ (x ∷ zs)) → 4 ≤ length x.bytes
framed_at [] x zs f = f.0.0
framed_at (y ∷ ys) x zs f = framed_at ys x zs f.1

bytes-first : (x : Bin) (t : List ℕ) → Bytes (be 4 (length x.bytes) ++ (x.bytes ++ (be 4 x.sum ++ t))) → Bytes x.bytes × Bytes t
bytes-first x t b =
    let c = bytes-right (be 4 (length x.bytes)) (x.bytes ++ (be 4 x.sum ++ t)) b in
    (bytes_left x.bytes (be 4 x.sum ++ t) c, bytes-right (be 4 x.sum) t (bytes-right x.bytes (be 4 x.sum ++ t) c))

bytes_at_lem : (ys : List Bin) (x : Bin) (zs : List Bin) → Bytes (frames (ys ++ (x ∷ zs))) → Bytes x.bytes
bytes_at_lem [] x zs b = (bytes-first x (frames zs) b).0
bytes_at_lem (y ∷ ys) x zs b = bytes_at_lem ys x zs (bytes-first y (frames (ys ++ (x ∷ zs))) b).1

-- ---- a bin with its magic and checksum

bin_same : (x : Bin) (bytes : List ℕ) (sum : ℕ) → x.bytes ≡ bytes → x.sum ≡ sum → x ≡ record { bytes = bytes; sum = sum }
bin_same x bytes sum e f = rw (← e, ← f)

bin_back : (x : Bin) (bitmap : List ℕ) → Bytes x.bytes → 4 ≤ length x.bytes → after_magic x ≡ Ok bitmap → (x ≡ bin_of bitmap) × (bitmap ≡ drop 4 x.bytes)
bin_back x bitmap b h e =
    let m = magic_back x bitmap e in
    let w : x.bytes ≡ bin_bytes bitmap = number_at_back big 4 x.bytes b h ∙ rw (m.0, m.2) in
    (bin_same x (bin_bytes bitmap) (checksum (bin_bytes bitmap)) w (sym m.1 ∙ ap checksum w), sym m.2)

-- ---- the file

pub record BinCut (file : List ℕ) (b : ℕ) (x : Bin) : Type 0 where
  pub cut-bins : List Bin
  pub between : Between cut-bins b x
  pub framed : All Framed cut-bins
  pub cut : file ≡ 1 ∷ frames cut-bins
  pub are_bytes : Bytes x.bytes
  pub magic_fits : 4 ≤ length x.bytes

first_byte : (file : List ℕ) → 1 ≤ length file → get_or file 0 0 ≡ 1 → file ≡ 1 ∷ drop 1 file
first_byte [] h e = absurd (omega arith)
first_byte (v ∷ s) h e = rw e

-- the file of a bin that was found
pub bin-cut : (file : List ℕ) (b : ℕ) (x : Bin) → Bytes file → bin_asked_for b file ≡ Ok x → BinCut file b x
unfolding bin_asked_for bin_in
bin-cut file b x t e =
    let c = check-ok (leb 1 (length file)) Short _ _ e in
    let d = check-ok (eqb (get_or file 0 0) 1) Version _ _ c.1 in
    let v = then_ok (bins (length file) (drop 1 file)) (bin_numbered b) _ d.1 in
    let w = walk_passed (length file) (drop 1 file) v.0 (bytes_drop 1 file t) v.1 in
    let p = bin_between b v.0 v.2 in
    record {
      cut-bins = v.0;
      between = p;
      framed = w.0;
      cut = first_byte file (leb-true _ _ c.0) (eqb-true _ _ d.0) ∙ ap (λ (r : List ℕ). 1 ∷ r) w.1;
      are_bytes = bytes_at_lem p.earlier x p.later (rw (w.1, p.cut) at (bytes_drop 1 file t));
      magic_fits = framed_at p.earlier x p.later (rw p.cut at w.0);
    }

-- the file of a bin whose magic and checksum are right
pub record FileCut (file : List ℕ) (b : ℕ) (bitmap : List ℕ) : Type 0 where
  pub cut-bins : List Bin
  pub between : Between cut-bins b (bin_of bitmap)
  pub framed : All Framed cut-bins
  pub cut : file ≡ 1 ∷ frames cut-bins
  pub are_bytes : Bytes bitmap

file-cut : (file : List ℕ) (b : ℕ) (bitmap : List ℕ) (x : Bin) → BinCut file b x → after_magic x ≡ Ok bitmap → FileCut file b bitmap
file-cut file b bitmap x c e =
    let o = bin_back x bitmap c.are_bytes c.magic_fits e in
    record {
      cut-bins = c.cut-bins;
      between = rw o.0 at c.between;
      framed = c.framed;
      cut = c.cut;
      are_bytes = rw o.1 (bytes_drop 4 x.bytes c.are_bytes);
    }

pub bitmap-cut : (file : List ℕ) (b : ℕ) (bitmap : List ℕ) → Bytes file → bitmap_in b file ≡ Ok bitmap → FileCut file b bitmap
unfolding bitmap_in
bitmap-cut file b bitmap t e =
    let w = then_ok (bin_asked_for b file) after_magic _ e in
    file-cut file b bitmap w.0 (bin-cut file b w.0 t w.1) w.2

pub cut_held : {file : List ℕ} {b : ℕ} {bytes : List ℕ} → FileCut file b bytes → HoldsBytes b bytes file
cut_held {bytes = bytes} c =
    let p = c.between in
    rw (← p.number, c.cut, p.cut) (holds_bytes p.earlier p.later bytes (rw p.cut at c.framed))

-- ---- the bitmap

pub record RowsMarked (n : ℕ) (field bytes after : List ℕ) : Type 0 where
  pub rows : List ℕ
  pub is_bitmap : Bitmap rows bytes
  pub below : Below n rows
  pub field_is : after ≡ mark_all field rows

-- a bitmap that is as long as the bytes is all of them
pub whole-bitmap : (rows s x t : List ℕ) → s ≡ x ++ t → length s ≡ length x → Bitmap rows x → Bitmap rows s
whole-bitmap rows s x t e l m =
    let z : t ≡ [] = nothing t (omega (arith, simp length-append at (ap length e))) in
    rw (e, z, append-nil) m

pub bitmap-rows : (n : ℕ) (field bytes after : List ℕ) → Bytes bytes → bitmap_marked bytes n field ≡ Ok after → RowsMarked n field bytes after
unfolding bitmap_marked
bitmap-rows n field bytes after b m =
    let w = then_ok (refused_as (λ fault. Refusal.Bitmap bin_entry (container_of fault)) (measured (Exactly (length bytes)) bytes)) _ _ m in
    let p = w.0 in
    let q = measured_back (Exactly (length bytes)) bytes p b (refused_as-ok _ _ _ w.1) in
    let c = check-ok (leb (end_of p.rows) n) (Range bin_entry) _ _ w.2 in
    record {
      rows = p.rows;
      is_bitmap = whole-bitmap p.rows bytes q.0 q.1 q.3 q.4 q.2;
      below = end_below n 0 four_bytes p.rows (bitmap_rising q.2) (leb-true _ _ c.0);
      field_is = sym (ok_same _ _ c.1);
    }

-- ---- the call

-- what the limits and ROOM let through
pub record Ready (file : List ℕ) (n : ℕ) (buffer clear : List ℕ) : Type 0 where
  pub file_in-limit : length file ≤ limit
  pub count_in-limit : n ≤ limit
  pub room : size n ≤ length buffer
  pub is_cleared : clear ≡ cleared n buffer

pub ready_back : (file : List ℕ) (n : ℕ) (buffer clear : List ℕ) → deletions_ready file n buffer ≡ Ok clear → Ready file n buffer clear
unfolding deletions_ready
ready_back file n buffer clear e =
    let l = check-ok (leb (length file) limit) Limit _ _ e in
    let m = check-ok (leb n limit) Limit _ _ l.1 in
    let o = check-ok (leb (size n) (length buffer)) Room _ _ m.1 in
    record {
      file_in-limit = leb-true _ _ l.0;
      count_in-limit = leb-true _ _ m.0;
      room = leb-true _ _ o.0;
      is_cleared = sym (ok_same _ _ o.1);
    }

pub deleted_back : (n : ℕ) (o : Result (List ℕ) Refusal) {k : ℕ} → counted n o ≡ Ok k → (after : List ℕ) × (o ≡ Ok after)
unfolding counted
deleted_back n o e = let t = then_ok o _ _ e in (t.0, t.1)
