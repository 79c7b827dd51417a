-- The bytes behind a 64-bit magic: their rows rise; laid out, so read; read, so laid out; and whatever is wrong is refused alike.
use Prim.Native.Nat.{ℕ, zero, suc, ◌+◌, ◌*◌, ◌<◌, ◌≤◌}
use mathlib.Core.Path.{◌≡◌, refl, sym, ap, ◌∙◌}
use mathlib.Core.Logic.{◌↔◌}
use mathlib.Core.List.{List, [], ◌∷◌, ◌++◌}
use native.Mathlib.Omega.{arith}
use lib.Dec.{eqb, leb, ltb}
use lib.ListN.{length}
use borrow.Author.Tests.{le-leb, leb-true, lt-ltb, ltb-true, eqb-true}
use Rattle.numbers.specs.Meaning.{le, little, Bytes}
use Rattle.numbers.proofs.ByteLists.{bytes-nil, bytes-append, bytes_le}
use Rattle.numbers.proofs.Laws.{number_laid, on_number}
use Rattle.std.specs.Prelude.{Result, Err, Ok}
use Rattle.refusal.specs.Reading.{check, and_then, refused_as}
use Rattle.refusal.specs.declared.Refusal.{Refusal}
use Rattle.refusal.proofs.Laws.{not-ok, ok_same, check-ok, then_ok, refused_as-ok}
use Rattle.row_field.specs.Meaning.{above, Rising}
use Rattle.row_field.proofs.RowLists.{rising_append, rising_more, above_rising}
use Rattle.roaring.specs.Layout.{Bitmap}
use Rattle.roaring.specs.Reading.{Fault, Parsed, read}
use Rattle.roaring.proofs.RowsRising.{bitmap_rising}
use Rattle.roaring.proofs.BitmapBytes.{bytes-bitmap}
use Rattle.roaring.proofs.Theorems.{laid_out_is_read, read_was_laid_out}
use Rattle.deletion_file.proofs.Frames.{nothing}
use Rattle.deletion_file.proofs.Accepted.{bytes-right}
use Rattle.deletion_window.specs.Layout.{index_end, index_rows, end_of_all_rows, Indexed, indexed_bytes, listed, IndexesRise, Bitmaps, bitmaps}
use Rattle.deletion_window.specs.Reading.{wrong, IndexedRows, indexed_bitmap, bitmaps_in, rows64}
use Rattle.refusal.proofs.Only.{Only, check_only, then_only, number_only}

-- ---- what is laid out

listed_rise : (lo : ℕ) (xs : List Indexed) → lo ≤ index_end → IndexesRise lo xs → Rising (lo * index_rows) end_of_all_rows (listed xs)
listed_rise lo [] h g = tt
listed_rise lo (x ∷ xs) h g =
    let base : ℕ = x.index * index_rows in
    let e : base + index_rows ≡ (x.index + 1) * index_rows = omega arith in
    let z : base + 0 ≡ base = omega arith in
    rising_append (lo * index_rows) (base + index_rows) end_of_all_rows (above base x.low) (listed xs) (omega arith) (omega arith)
    (rising_more base (base + index_rows) (lo * index_rows) (base + index_rows) (above base x.low) (omega arith) (omega arith)
    (rw z at (above_rising base 0 index_rows x.low (bitmap_rising g.2))))
    (rw e (listed_rise (x.index + 1) xs (omega arith) g.3))

pub bitmaps_rise : {rows bytes : List ℕ} → Bitmaps rows bytes → Rising 0 end_of_all_rows rows
bitmaps_rise (bitmaps xs g) = listed_rise 0 xs (omega arith) g

indexed_few : (lo : ℕ) (xs : List Indexed) → lo ≤ index_end → IndexesRise lo xs → lo + length xs ≤ index_end
indexed_few lo [] h g = omega arith
indexed_few lo (x ∷ xs) h g = omega (arith, indexed_few (x.index + 1) xs (omega arith) g.3)

bytes_indexed : (lo : ℕ) (xs : List Indexed) → IndexesRise lo xs → Bytes (indexed_bytes xs)
bytes_indexed lo [] g = bytes-nil
bytes_indexed lo (x ∷ xs) g =
    bytes-append (le 4 x.index) (x.bitmap ++ indexed_bytes xs) (bytes_le 4 x.index)
    (bytes-append x.bitmap (indexed_bytes xs) (bytes-bitmap g.2) (bytes_indexed (x.index + 1) xs g.3))

pub bytes-bitmaps : {rows bytes : List ℕ} → Bitmaps rows bytes → Bytes bytes
bytes-bitmaps (bitmaps xs g) = bytes-append (le 8 (length xs)) (indexed_bytes xs) (bytes_le 8 (length xs)) (bytes_indexed 0 xs g)

-- ---- laid out, so read

abbrev next : Indexed → List ℕ → IndexedRows
next x behind = record { index = x.index; rows = above (x.index * index_rows) x.low; behind = behind }

next_laid : (lo : ℕ) (x : Indexed) (t : List ℕ) → lo ≤ x.index → x.index < index_end → Bitmap x.low x.bitmap
    → indexed_bitmap lo (le 4 x.index ++ (x.bitmap ++ t)) ≡ Ok (next x t)
unfolding indexed_bitmap check and_then refused_as
next_laid lo x t h l m =
    number_laid little 4 (Err wrong) x.index (x.bitmap ++ t) _ (omega arith)
    ∙ rw (le-leb lo x.index h, lt-ltb x.index index_end l, laid_out_is_read x.low x.bitmap t m)

in_laid : (lo : ℕ) (xs : List Indexed) → IndexesRise lo xs → bitmaps_in (length xs) lo (indexed_bytes xs) ≡ Ok (listed xs)
unfolding bitmaps_in check and_then
in_laid lo [] g = refl
in_laid lo (x ∷ xs) g =
    rw (next_laid lo x (indexed_bytes xs) g.0 g.1 g.2, in_laid (x.index + 1) xs g.3)

pub bitmaps-read : {rows bytes : List ℕ} → Bitmaps rows bytes → rows64 bytes ≡ Ok rows
unfolding rows64
bitmaps-read (bitmaps xs g) =
    number_laid little 8 (Err wrong) (length xs) (indexed_bytes xs) _ (omega (arith, indexed_few 0 xs (omega arith) g))
    ∙ in_laid 0 xs g

-- ---- read, so laid out

-- an index and its bitmap stood at the front of s
record NextWas (lo : ℕ) (s : List ℕ) (n : IndexedRows) : Type 0 where
  indexed : Indexed
  at_least : lo ≤ indexed.index
  below : indexed.index < index_end
  is_bitmap : Bitmap indexed.low indexed.bitmap
  cut : s ≡ le 4 indexed.index ++ (indexed.bitmap ++ n.behind)
  are_bytes : Bytes n.behind
  is : next indexed n.behind ≡ n

next_back : (lo : ℕ) (s : List ℕ) (n : IndexedRows) → Bytes s → indexed_bitmap lo s ≡ Ok n → NextWas lo s n
unfolding indexed_bitmap
next_back lo s n b e =
    on_number little 4 (Err wrong) (λ o. o ≡ Ok n) (λ s. NextWas lo s n) s _ not-ok b e
    (λ v t l c g.
    let h = check-ok (leb lo v) wrong _ _ g in
    let k = check-ok (ltb v index_end) wrong _ _ h.1 in
    let r = then_ok (refused_as (λ why. wrong) (read t)) _ _ k.1 in
    let a = read_was_laid_out t r.0 c (refused_as-ok _ _ _ r.1) in
    rw (← ok_same _ _ r.2)
    record {
      indexed = record { index = v; low = r.0.rows; bitmap = a.0 };
      at_least = leb-true lo v h.0;
      below = ltb-true v index_end k.0;
      is_bitmap = a.1;
      cut = ap (λ (u : List ℕ). le 4 v ++ u) a.3;
      are_bytes = bytes-right a.0 r.0.behind (rw a.3 at c);
      is = refl;
    })

-- so many of them, and nothing behind
record InWas (count lo : ℕ) (s rows : List ℕ) : Type 0 where
  all : List Indexed
  rise : IndexesRise lo all
  many : length all ≡ count
  cut : s ≡ indexed_bytes all
  are_rows : listed all ≡ rows

in_more : {count lo : ℕ} {s rows more : List ℕ} {n : IndexedRows} → NextWas lo s n → InWas count (n.index + 1) n.behind more → n.rows ++ more ≡ rows
    → InWas (suc count) lo s rows
in_more {more = more} {n = n} x i e =
    let y = x.indexed in
    let f : y.index ≡ n.index = ap (λ (m : IndexedRows). m.index) x.is in
    record {
      all = y ∷ i.all;
      rise = (x.at_least, x.below, x.is_bitmap, rw f i.rise);
      many = ap suc i.many;
      cut = x.cut ∙ ap (λ (t : List ℕ). le 4 y.index ++ (y.bitmap ++ t)) i.cut;
      are_rows = ap (λ (t : List ℕ). above (y.index * index_rows) y.low ++ t) i.are_rows ∙ ap (λ (m : IndexedRows). m.rows ++ more) x.is ∙ e;
    }

in_back : (count lo : ℕ) (s rows : List ℕ) → Bytes s → bitmaps_in count lo s ≡ Ok rows → InWas count lo s rows
unfolding bitmaps_in
in_back zero lo s rows b e =
    let c = check-ok (eqb (length s) 0) wrong _ _ e in
    record { all = []; rise = tt; many = refl; cut = nothing s (eqb-true _ _ c.0); are_rows = ok_same _ _ c.1 }
in_back (suc count) lo s rows b e =
    let (n, is, f) = then_ok (indexed_bitmap lo s) _ _ e in
    let (more, are, g) = then_ok (bitmaps_in count (n.index + 1) n.behind) _ _ f in
    let x = next_back lo s n b is in
    in_more x (in_back count (n.index + 1) n.behind more x.are_bytes are) (ok_same _ _ g)

in_all : {count : ℕ} {s rows : List ℕ} → InWas count 0 s rows → Bitmaps rows (le 8 count ++ s)
in_all i = rw (i.cut, ← i.many, ← i.are_rows) (bitmaps i.all i.rise)

pub rows_back : (bytes rows : List ℕ) → Bytes bytes → rows64 bytes ≡ Ok rows → Bitmaps rows bytes
unfolding rows64
rows_back bytes rows b e =
    on_number little 8 (Err wrong) (λ o. o ≡ Ok rows) (Bitmaps rows) bytes _ not-ok b e (λ count t l c g. in_all (in_back count 0 t rows c g))

-- ---- whatever is wrong is refused alike

-- what holds of that refusal holds of every one
module _ (P : Refusal → Type 0) (p : P wrong) where
  read_only : (o : Result Parsed Fault) → Only P (refused_as (λ why. wrong) o)
  unfolding refused_as
  read_only (Err why) = p
  read_only (Ok q) = tt

  next_only : (lo : ℕ) (s : List ℕ) → Only P (indexed_bitmap lo s)
  unfolding indexed_bitmap
  next_only lo s = search (number_only P, check_only P, then_only P, read_only)

  in_only : (count lo : ℕ) (s : List ℕ) → Only P (bitmaps_in count lo s)
  unfolding bitmaps_in
  in_only zero lo s = search (check_only P)
  in_only (suc count) lo s = search (then_only P, next_only, in_only count)

  pub rows_only : (bytes : List ℕ) → Only P (rows64 bytes)
  unfolding rows64
  rows_only bytes = search (number_only P, in_only)

wrong_only : (bytes : List ℕ) (r : Refusal) → rows64 bytes ≡ Err r → r ≡ wrong
wrong_only bytes r e = rw e at (rows_only (λ q. q ≡ wrong) refl bytes)

-- and refused is exactly what is laid out for no rows
pub refused_64 : (bytes : List ℕ) (r : Refusal) → Bytes bytes → (rows64 bytes ≡ Err r) ↔ ((r ≡ wrong) × ((rows : List ℕ) → Bitmaps rows bytes → ⊥))
refused_64 bytes r b = (λ e. (wrong_only bytes r e, λ rows m. not-ok (sym e ∙ bitmaps-read m)), by (rows64 bytes) refl)
  where
    by : (o : Result (List ℕ) Refusal) → rows64 bytes ≡ o → (r ≡ wrong) × ((rows : List ℕ) → Bitmaps rows bytes → ⊥) → rows64 bytes ≡ Err r
    by (Err q) e w = e ∙ ap Err (wrong_only bytes q e ∙ sym w.0)
    by (Ok rows) e w = absurd (w.1 rows (rows_back bytes rows b e))
