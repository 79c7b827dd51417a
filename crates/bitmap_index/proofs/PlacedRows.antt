-- Rows that were placed, taken apart: they rise, all below the row count, and none was set before.
use Prim.Native.Nat.{ℕ, ◌+◌, ◌≤◌, zero-le}
use mathlib.Core.Path.{◌≡◌, ◌∙◌}
use mathlib.Core.Bool.{true, false}
use mathlib.Core.List.{List, [], ◌∷◌}
use native.Mathlib.Omega.{arith}
use borrow.Author.Tests.{ltb-true, leb-true}
use lib.Dec.{leb}
use lib.IntN.{ℤ, pos, negsuc}
use lib.ListN.{length, drop}
use Rattle.numbers.specs.Meaning.{Bytes, four_bytes}
use Rattle.numbers.proofs.Booleans.{or_neither, not-true}
use Rattle.numbers.proofs.ByteLists.{bytes_drop}
use Rattle.refusal.specs.declared.Refusal.TheVariants.{Bitmap}
use Rattle.std.specs.Prelude.{Ok}
use Rattle.refusal.specs.Reading.{check, and_then, refused_as}
use Rattle.refusal.proofs.Laws.{check-ok, then_ok, refused_as-ok}
use Rattle.row_field.specs.Meaning.{bit, mark, mark_all, any_set, size, count, Rising}
use Rattle.row_field.proofs.RowLists.{rising_within}
use Rattle.row_field.proofs.Laws.{length-mark}
use Rattle.row_field.proofs.Marks.{any_set-mark}
use Rattle.row_field.proofs.Counts.{count-mark}
use Rattle.roaring.specs.declared.Extent.{Extent}
use Rattle.roaring.specs.Reading.{container_of, Parsed, measured, end_of}
use Rattle.roaring.proofs.Measuring.{rows-measured, measured-sound, measured_rising, end_below}
use Rattle.bitmap_index.specs.Reading.{extent_said, bitmap_placed, entry_placed, rows_for}
use Rattle.bitmap_index.specs.Promises.{SoundAt}

-- rows that rise and of which none is set add as many as they are
pub count_besides : (f : List ℕ) (lo n : ℕ) (rs : List ℕ) → Rising lo n rs → size n ≤ length f → any_set f rs ≡ false
    → count (mark_all f rs) n ≡ count f n + length rs
unfolding mark_all any_set
count_besides f lo n [] h room free = omega arith
count_besides f lo n (r ∷ rs) h room free =
    let (here, there) = or_neither (bit f r) (any_set f rs) free in
    let one = count-mark f r n h.1 (omega arith) here in
    omega (arith, count_besides (mark f r) (r + 1) n rs h.2 (rw length-mark room) (any_set-mark f r (r + 1) n rs (omega arith) h.2 ∙ there))

-- the rows of a bitmap that was measured, if they are in range
pub measured_rise : (extent : Extent) (bytes : List ℕ) (p : Parsed) → Bytes bytes → measured extent bytes ≡ Ok p → (n : ℕ) → end_of p.rows ≤ n → Rising 0 n p.rows
measured_rise extent bytes p b m n l =
    let r = measured_rising extent bytes p b m in
    rising_within 0 four_bytes n p.rows r (end_below n 0 four_bytes p.rows r l)

pub bitmap_back : (entry : ℕ) (extent : Extent) (n : ℕ) (bytes f f' : List ℕ) → bitmap_placed entry extent n bytes f ≡ Ok f'
    → (p : Parsed) × (measured extent bytes ≡ Ok p) × (leb (end_of p.rows) n ≡ true) × (any_set f p.rows ≡ false) × (f' ≡ mark_all f p.rows)
unfolding bitmap_placed
bitmap_back entry extent n bytes f f' e =
    let (p, found, tests) = then_ok (refused_as (λ fault. Bitmap entry (container_of fault)) (measured extent bytes)) _ f' e in
    let (below, rest) = check-ok _ _ _ f' tests in
    let (free, last) = check-ok _ _ _ f' rest in
    (p, refused_as-ok _ (measured extent bytes) p found, below, not-true _ free, cc)

-- what is known of the rows at a place, once they were placed
pub record PlacedAt (z : ℤ) (n : ℕ) (region f f' : List ℕ) : Type 0 where
  pub sound : SoundAt n region z
  pub rising : Rising 0 n (rows_for z region)
  pub free : any_set f (rows_for z region) ≡ false
  pub marked : f' ≡ mark_all f (rows_for z region)

module _ (entry e n : ℕ) (region f f' : List ℕ) where
  row-placed : (r : ℕ) → entry_placed entry (negsuc r) e n region f ≡ Ok f' → PlacedAt (negsuc r) n region f f'
  unfolding entry_placed rows_for any_set mark_all check
  row-placed r q =
      let (below, rest) = check-ok _ _ _ f' q in
      let (free, last) = check-ok _ _ _ f' rest in
      let was = not-true (bit f r) free in
      record {
        sound = tt;
        rising = (zero-le, ltb-true r n below, tt);
        free = rw was;
        marked = cc;
      }

  bitmap-placed : (o : ℕ) → Bytes region → entry_placed entry (pos o) e n region f ≡ Ok f' → PlacedAt (pos o) n region f f'
  unfolding entry_placed bitmap_placed rows_for and_then refused_as check
  bitmap-placed o b q =
      let extent : Extent = extent_said e in
      let bytes : List ℕ = drop o region in
      let (p, m, below, free, marked) = bitmap_back entry extent n bytes f f' q in
      let known = bytes_drop o region b in
      let l = leb-true (end_of p.rows) n below in
      let same = rows-measured extent bytes p known m in
      record {
        sound = measured-sound extent bytes p known m n l;
        rising = rw same (measured_rise extent bytes p known m n l);
        free = rw same free;
        marked = rw same marked;
      }

  pub placed_at : (z : ℤ) → Bytes region → entry_placed entry z e n region f ≡ Ok f' → PlacedAt z n region f f'
  placed_at (negsuc r) b q = row-placed r q
  placed_at (pos o) b q = bitmap-placed o b q
