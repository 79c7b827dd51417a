-- A bin of either kind: the magics; laid out, so read; read, so laid out; what it is refused for.
use Prim.Native.Nat.{ℕ, ◌≤◌}
use mathlib.Core.Path.{◌≡◌, refl, sym, ap, ◌∙◌}
use mathlib.Core.Logic.{◌↔◌, ◌⊎◌, inl, inr}
use mathlib.Core.Bool.{Bool, true, false, cond}
use mathlib.Core.List.{List, [], ◌++◌, append-nil}
use native.Mathlib.Omega.{arith}
use lib.ListN.{length, drop}
use borrow.Author.Tests.{eq-eqb, ne_eqb, eqb-true}
use Rattle.numbers.specs.Meaning.{be_at, le_at, be, le, big, little, Bytes}
use Rattle.numbers.proofs.ByteLists.{bytes-append, bytes-be, bytes_le, bytes_drop}
use Rattle.numbers.proofs.Laws.{number_at_back}
use Rattle.std.specs.Prelude.{Result, Err, Ok}
use Rattle.refusal.specs.Reading.{check, and_then, refused_as}
use Rattle.refusal.specs.declared.Refusal.{Refusal}
use Rattle.refusal.specs.declared.Refusal.TheVariants.{Magic, Checksum}
use Rattle.refusal.proofs.Laws.{not-ok, ok_same, check-ok, then_ok, refused_as-ok}
use Rattle.crc32.specs.Meaning.{checksum}
use Rattle.row_field.specs.Meaning.{Rising}
use Rattle.row_field.proofs.RowLists.{rising_more}
use Rattle.roaring.specs.declared.Extent.TheVariants.{Exactly}
use Rattle.roaring.specs.Layout.{Bitmap}
use Rattle.roaring.specs.Faults.{Broken}
use Rattle.roaring.specs.Reading.{Fault, unsound, Parsed, container_of, measured, measured_by}
use Rattle.roaring.proofs.Measuring.{measured_laid, measured_back, not_sound}
use Rattle.roaring.proofs.RowsRising.{bitmap_rising}
use Rattle.roaring.proofs.BitmapBytes.{bytes-bitmap}
use Rattle.roaring.proofs.Theorems.{names_the_broken}
use Rattle.deletion_file.specs.Layout.{magic, Bin, bin_bytes}
use Rattle.deletion_file.specs.Reading.{begins_with_magic, is_true_checksum, after_magic, bin_entry}
use Rattle.deletion_file.proofs.Accepted.{whole-bitmap}
use Rattle.deletion_window.specs.declared.Kind.{Kind}
use Rattle.deletion_window.specs.declared.Kind.TheVariants.{Bits32, Bits64}
use Rattle.deletion_window.specs.Layout.{magic64, end_of_all_rows, bin_bytes64, EitherBin, bits_32, bits_64, summed}
use Rattle.deletion_window.specs.Reading.{rows32, rows64, has_magic64, kind_of, rows_behind, rows_of_bin}
use Rattle.deletion_window.specs.Claims.{WithMagic}
use Rattle.refusal.proofs.Only.{Only, check_only, then_only}
use Rattle.deletion_window.proofs.Bitmaps64.{bitmaps_rise, bytes-bitmaps, bitmaps-read, rows_back, rows_only}

-- ---- a bin that is laid out

pub bin_rises : {rows bytes : List ℕ} → EitherBin rows bytes → Rising 0 end_of_all_rows rows
bin_rises (bits_32 {rows} m) = rising_more 0 _ 0 end_of_all_rows rows (omega arith) (omega arith) (bitmap_rising m)
bin_rises (bits_64 m) = bitmaps_rise m

pub bin_bytes_lem : {rows bytes : List ℕ} → EitherBin rows bytes → Bytes bytes
bin_bytes_lem (bits_32 {bitmap = bitmap} m) = bytes-append (be 4 magic) bitmap (bytes-be 4 magic) (bytes-bitmap m)
bin_bytes_lem (bits_64 {bytes = bytes} m) = bytes-append (le 4 magic64) bytes (bytes_le 4 magic64) (bytes-bitmaps m)

pub bin_least : {rows bytes : List ℕ} → EitherBin rows bytes → 4 ≤ length bytes
bin_least (bits_32 m) = omega arith
bin_least (bits_64 m) = omega arith

-- ---- laid out, so read

summed_holds : (bytes : List ℕ) → is_true_checksum bytes (checksum bytes) ≡ true
unfolding is_true_checksum
summed_holds bytes = eq-eqb (checksum bytes) (checksum bytes) refl

-- behind each magic what lies there is read
module _ (bytes : List ℕ) where
  pub behind_32 : rows_of_bin (summed (bin_bytes bytes)) ≡ rows32 bytes
  unfolding rows_of_bin kind_of begins_with_magic rows_behind check and_then
  behind_32 = rw (summed_holds (bin_bytes bytes))

  pub behind_64 : rows_of_bin (summed (bin_bytes64 bytes)) ≡ rows64 bytes
  unfolding rows_of_bin kind_of begins_with_magic has_magic64 rows_behind check and_then
  behind_64 = rw (summed_holds (bin_bytes64 bytes))

  -- the 64-bit magic is not the 32-bit one
  pub not-magic : (sum : ℕ) → after_magic (record { bytes = bin_bytes64 bytes; sum = sum }) ≡ Err Magic
  unfolding after_magic begins_with_magic check
  not-magic sum = refl

bitmap-read : {rows bitmap : List ℕ} → Bitmap rows bitmap → rows32 bitmap ≡ Ok rows
unfolding rows32 refused_as and_then
bitmap-read {rows} {bitmap} m =
    let (p, is, same) = rw (append-nil bitmap) at (measured_laid (Exactly (length bitmap)) m [] refl) in
    rw is (ap Ok same)

pub bin-read : {rows bytes : List ℕ} → EitherBin rows bytes → rows_of_bin (summed bytes) ≡ Ok rows
bin-read (bits_32 {bitmap = bitmap} m) = behind_32 bitmap ∙ bitmap-read m
bin-read (bits_64 {bytes = bytes} m) = behind_64 bytes ∙ bitmaps-read m

-- ---- read, so laid out

bitmap_back : (bytes rows : List ℕ) → Bytes bytes → rows32 bytes ≡ Ok rows → Bitmap rows bytes
unfolding rows32
bitmap_back bytes rows b e =
    let (p, is, same) = then_ok (refused_as (λ why. Refusal.Bitmap bin_entry (container_of why)) (measured (Exactly (length bytes)) bytes)) _ _ e in
    let (x, behind, m, cut, l) = measured_back (Exactly (length bytes)) bytes p b (refused_as-ok _ _ _ is) in
    rw (← ok_same _ _ same) (whole-bitmap p.rows bytes x behind cut l m)

-- refused exactly for the container that is broken
pub refused_32 : (bytes : List ℕ) (r : Refusal) → Bytes bytes
    → (rows32 bytes ≡ Err r) ↔ ((i : ℕ) × (r ≡ Refusal.Bitmap 0 i) × Broken (Exactly (length bytes)) bytes i)
unfolding rows32 refused_as and_then measured_by
refused_32 bytes r b = (by (measured (Exactly (length bytes)) bytes) refl, λ w. back w.0 w.1 w.2)
  where
    by : (o : Result Parsed Fault) → measured (Exactly (length bytes)) bytes ≡ o → rows32 bytes ≡ Err r
        → (i : ℕ) × (r ≡ Refusal.Bitmap 0 i) × Broken (Exactly (length bytes)) bytes i
    by (Err (unsound i)) m e =
        let f = rw m at e in
        (i, cc, (names_the_broken (Exactly (length bytes)) bytes i b).0 (rw m))
    by (Ok p) m e = absurd (not-ok (sym (rw m at e)))

    back : (i : ℕ) → r ≡ Refusal.Bitmap 0 i → Broken (Exactly (length bytes)) bytes i → rows32 bytes ≡ Err r
    back i e w = rw (not_sound (measured (Exactly (length bytes)) bytes) (sym ((names_the_broken (Exactly (length bytes)) bytes i b).1 w)), e)

-- the kind that two tests say
abbrev said : Bool → Bool → Result Kind Refusal
said a b = cond a (Ok Bits32) (cond b (Ok Bits64) (Err Magic))

kind_32 : (a b : Bool) → said a b ≡ Ok Bits32 → a ≡ true
kind_32 true b e = refl
kind_32 false true e = absurd (let z : ◌≡◌ {A = ℕ} 0 1 = cc in omega arith)
kind_32 false false e = absurd (let z : ◌≡◌ {A = ℕ} 0 1 = cc in omega arith)

kind_64 : (a b : Bool) → said a b ≡ Ok Bits64 → b ≡ true
kind_64 true b e = absurd (let z : ◌≡◌ {A = ℕ} 0 1 = cc in omega arith)
kind_64 false true e = refl
kind_64 false false e = absurd (let z : ◌≡◌ {A = ℕ} 0 1 = cc in omega arith)

module _ (bytes : List ℕ) (b : Bytes bytes) (h : 4 ≤ length bytes) where
  begins_32 : kind_of bytes ≡ Ok Bits32 → bytes ≡ bin_bytes (drop 4 bytes)
  unfolding kind_of begins_with_magic
  begins_32 e =
      number_at_back big 4 bytes b h
      ∙ ap (λ (v : ℕ). be 4 v ++ drop 4 bytes) (eqb-true (be_at 4 bytes 0) magic (kind_32 (begins_with_magic bytes) (has_magic64 bytes) e))

  begins_64 : kind_of bytes ≡ Ok Bits64 → bytes ≡ bin_bytes64 (drop 4 bytes)
  unfolding kind_of has_magic64
  begins_64 e =
      number_at_back little 4 bytes b h
      ∙ ap (λ (v : ℕ). le 4 v ++ drop 4 bytes) (eqb-true (le_at 4 bytes 0) magic64 (kind_64 (begins_with_magic bytes) (has_magic64 bytes) e))

  behind_back : (rows : List ℕ) (k : Kind) → kind_of bytes ≡ Ok k → rows_behind k (drop 4 bytes) ≡ Ok rows → EitherBin rows bytes
  unfolding rows_behind
  behind_back rows Bits32 e f = rw (begins_32 e) (bits_32 (bitmap_back (drop 4 bytes) rows (bytes_drop 4 bytes b) f))
  behind_back rows Bits64 e f = rw (begins_64 e) (bits_64 (rows_back (drop 4 bytes) rows (bytes_drop 4 bytes b) f))

  -- of neither kind, where no magic stands in front
  no_kind : (WithMagic bytes → ⊥) → kind_of bytes ≡ Err Magic
  unfolding kind_of
  no_kind n = go (begins_with_magic bytes) (has_magic64 bytes) refl
    where
      go : (a b : Bool) → kind_of bytes ≡ said a b → kind_of bytes ≡ Err Magic
      go true b e = absurd (n (drop 4 bytes, inl (begins_32 e)))
      go false true e = absurd (n (drop 4 bytes, inr (begins_64 e)))
      go false false e = e

pub bin_back : (x : Bin) (rows : List ℕ) → Bytes x.bytes → 4 ≤ length x.bytes → rows_of_bin x ≡ Ok rows → EitherBin rows x.bytes × (x ≡ summed x.bytes)
unfolding rows_of_bin is_true_checksum
bin_back x rows b h e =
    let (kind, is, behind) = then_ok (kind_of x.bytes) _ _ e in
    let c = check-ok (is_true_checksum x.bytes x.sum) Checksum _ _ behind in
    (behind_back x.bytes b h rows kind is c.1, ap (λ (sum : ℕ). record { bytes = x.bytes; sum = sum }) (sym (eqb-true _ _ c.0)))

-- ---- the tests of a bin

pub bin-other-magic : (x : Bin) → Bytes x.bytes → 4 ≤ length x.bytes → (WithMagic x.bytes → ⊥) → rows_of_bin x ≡ Err Magic
unfolding rows_of_bin and_then
bin-other-magic x b h n = rw (no_kind x.bytes b h n)

with_kind : (bytes rest : List ℕ) → (bytes ≡ bin_bytes rest) ⊎ (bytes ≡ bin_bytes64 rest) → (k : Kind) × (kind_of bytes ≡ Ok k)
unfolding kind_of begins_with_magic has_magic64
with_kind bytes rest (inl e) = (Bits32, rw e)
with_kind bytes rest (inr e) = (Bits64, rw e)

pub bin-false-checksum : (x : Bin) → WithMagic x.bytes → (checksum x.bytes ≡ x.sum → ⊥) → rows_of_bin x ≡ Err Checksum
unfolding rows_of_bin is_true_checksum check and_then
bin-false-checksum x w n = let (kind, is) = with_kind x.bytes w.0 w.1 in rw (is, ne_eqb (checksum x.bytes) x.sum n)

-- what holds of MAGIC, of CHECKSUM and of each BITMAP of entry 0 holds of every refusal of a bin
module _ (P : Refusal → Type 0) (bitmap : (i : ℕ) → P (Refusal.Bitmap 0 i)) where
  measured_only : (o : Result Parsed Fault) → Only P (refused_as (λ why. Refusal.Bitmap bin_entry (container_of why)) o)
  unfolding refused_as
  measured_only (Err why) = bitmap (container_of why)
  measured_only (Ok p) = tt

  bitmap_only : (bytes : List ℕ) → Only P (rows32 bytes)
  unfolding rows32
  bitmap_only bytes = search (then_only P, measured_only)

  module _ (magic : P Magic) (checksum : P Checksum) where
    behind_only : (k : Kind) (bytes : List ℕ) → Only P (rows_behind k bytes)
    unfolding rows_behind
    behind_only Bits32 bytes = bitmap_only bytes
    behind_only Bits64 bytes = rows_only P (bitmap 0) bytes

    kind_only : (bytes : List ℕ) → Only P (kind_of bytes)
    unfolding kind_of
    kind_only bytes = go (begins_with_magic bytes) (has_magic64 bytes)
      where
        go : (a b : Bool) → Only P (said a b)
        go true b = tt
        go false true = tt
        go false false = magic

    pub bin_only : (x : Bin) → Only P (rows_of_bin x)
    unfolding rows_of_bin
    bin_only x = search (then_only P, check_only P, kind_only, behind_only)

-- ---- the reading without a window

-- the bytes behind its magic are read alike
pub magic-or : (x : Bin) (t : Bool) → begins_with_magic x.bytes ≡ t → (after_magic x ≡ Err Magic) ⊎ (rows_of_bin x ≡ and_then (after_magic x) rows32)
unfolding after_magic rows_of_bin kind_of rows_behind check and_then
magic-or x true e = inr (rw e (by (is_true_checksum x.bytes x.sum)))
  where
    by : (c : Bool) → check c Checksum (rows32 (drop 4 x.bytes)) ≡ and_then (check c Checksum (Ok (drop 4 x.bytes))) rows32
    by true = refl
    by false = refl
magic-or x false e = inl (rw e)
