-- What the code finds, in the reading's terms: a window that ends past all rows, and a bitmap behind its index.
use Prim.Native.Nat.{ℕ, ◌+◌, ◌*◌, ◌<◌, ◌≤◌}
use mathlib.Core.Path.{◌≡◌, sym, ap, ◌∙◌}
use mathlib.Core.List.{List, ◌++◌}
use native.Mathlib.Omega.{arith}
use lib.Dec.{leb, ltb}
use lib.ListN.{length, drop, length-append}
use lib.Seq.{drop-append_seam}
use borrow.Author.Tests.{le-leb, lt-leb, lt-ltb, le-ltb}
use Rattle.numbers.specs.Meaning.{le_at, little, Bytes}
use Rattle.numbers.proofs.ByteLists.{bytes_drop}
use Rattle.numbers.proofs.Laws.{number_at_lem, number_short}
use Rattle.std.specs.Prelude.{Result, Err, Ok}
use Rattle.refusal.specs.Reading.{check, and_then, refused_as}
use Rattle.roaring.specs.declared.Extent.TheVariants.{AsLong}
use Rattle.roaring.specs.declared.Shape.{Shape}
use Rattle.roaring.specs.declared.Broken.{Broken}
use Rattle.roaring.specs.Reading.{Parsed, read, measured}
use Rattle.roaring.specs.Promises.{MeasurePromise}
use Rattle.roaring.proofs.Measuring.{not_sound, is_sound}
use Rattle.roaring.proofs.Theorems.{read_was_laid_out}
use Rattle.row_field.specs.Meaning.{above}
use Rattle.deletion_window.specs.declared.Indexed.{Indexed}
use Rattle.deletion_window.specs.Layout.{index_end, index_rows}
use Rattle.deletion_window.specs.Reading.{wrong, IndexedRows, indexed_bitmap}
use Rattle.deletion_window.specs.Promises.{FoundBitmap}

-- ---- a bitmap behind its index

-- what stands behind the first part of a list
behind_all : (s front rest : List ℕ) {n : ℕ} → s ≡ front ++ rest → n ≡ length front → drop n s ≡ rest
behind_all s front rest e l = rw (e, l) (drop-append_seam front rest)

module _ (lo : ℕ) (s : List ℕ) where
  pub next-cut : length s < 4 → indexed_bitmap lo s ≡ Err wrong
  unfolding indexed_bitmap
  next-cut h = number_short little 4 (Err wrong) s 0 _ (omega arith)

  module _ (h : 4 ≤ length s) {index : ℕ} (e : index ≡ le_at 4 s 0) where
    -- what was read of it
    abbrev said : Parsed → IndexedRows
    said q = record { index = index; rows = above (index * index_rows) q.rows; behind = q.behind }

    opened : indexed_bitmap lo s
        ≡ check (leb lo index) wrong (check (ltb index index_end) wrong (and_then (refused_as (λ why. wrong) (read (drop 4 s))) (λ q. Ok (said q))))
    unfolding indexed_bitmap
    opened = number_at_lem little 4 (Err wrong) s 0 _ h ∙ rw (← e)

    pub next_low : index < lo → indexed_bitmap lo s ≡ Err wrong
    unfolding check
    next_low l = opened ∙ rw (lt-leb lo index l)

    module _ (a : lo ≤ index) where
      pub next-high : index_end ≤ index → indexed_bitmap lo s ≡ Err wrong
      unfolding check
      next-high l = opened ∙ rw (le-leb lo index a, le-ltb index index_end l)

      module _ (b : index < index_end) {m : Result Shape Broken} (w : MeasurePromise AsLong (drop 4 s) m) where
        pub next-unsound : {why : Broken} → m ≡ Err why → indexed_bitmap lo s ≡ Err wrong
        unfolding check and_then refused_as measured
        next-unsound g =
            let u = not_sound (measured AsLong (drop 4 s)) (sym g ∙ w.answer) in
            opened ∙ rw (le-leb lo index a, lt-ltb index index_end b, u)

        module _ {found : Shape} (g : m ≡ Ok found) (t : Bytes s) where
          -- the bitmap that was measured
          pub next_parsed : (q : Parsed) × (read (drop 4 s) ≡ Ok q) × (found.length ≤ length (drop 4 s)) × (drop found.length (drop 4 s) ≡ q.behind)
          unfolding measured
          next_parsed =
              let (q, is, rows, end, long) = is_sound (measured AsLong (drop 4 s)) (sym g ∙ w.answer) in
              let (bitmap, good, size, cut) = read_was_laid_out (drop 4 s) q (bytes_drop 4 s t) is in
              let size : found.length ≡ length bitmap = long ∙ size in
              let room : length (drop 4 s) ≡ length bitmap + length q.behind = ap length cut ∙ length-append bitmap q.behind in
              (q, is, omega arith, behind_all (drop 4 s) bitmap q.behind cut size)

          pub next_found : {x : Indexed} → x.index ≡ index → x.bitmap.now ≡ drop 4 s → x.behind.now ≡ drop found.length (drop 4 s) → FoundBitmap lo s x
          unfolding check and_then refused_as
          next_found i bitmap behind =
              let (q, is, room, rest) = next_parsed in
              record {
                bitmap = q;
                is_read = rw bitmap is;
                so = rw (i, behind, rest) (opened ∙ rw (le-leb lo index a, lt-ltb index index_end b, is));
                below = rw i b;
                starts = bitmap;
                ends = (found.length, rw bitmap room, rw bitmap behind);
              }
