-- An entry whose rows are laid out: they are read at its place; and placing the entry is placing them.
use Prim.Native.Nat.{ℕ, ◌-◌, ◌<◌, ◌≤◌}
use mathlib.Core.Path.{◌≡◌, refl, sym, ap, ◌∙◌}
use mathlib.Core.Logic.{◌⊎◌, inl, inr}
use mathlib.Core.Bool.{false, not, or-false}
use mathlib.Core.List.{List, ◌++◌}
use native.Mathlib.Numerals.{add-one}
use native.Mathlib.Omega.{arith}
use borrow.Author.Tests.{eq-eqb, ne_eqb, lt-ltb, le-ltb, le-leb}
use lib.Dec.{leb}
use lib.IntN.{pos, negsuc}
use lib.ListN.{length, drop, length-append}
use lib.Seq.{drop_at}
use Rattle.numbers.specs.Meaning.{signed32, minus_one_32, sign_bit}
use Rattle.refusal.specs.Meaning.{limit}
use Rattle.refusal.specs.declared.Refusal.{Refusal}
use Rattle.refusal.specs.declared.Refusal.TheVariants.{Range, Twice}
use Rattle.std.specs.Prelude.{Result, Ok}
use Rattle.refusal.specs.Reading.{check, and_then, refused_as}
use Rattle.row_field.specs.Meaning.{mark_all, any_set, Below}
use Rattle.roaring.specs.Reading.{end_of, rows_read}
use Rattle.roaring.specs.Claims.{ExtentIs}
use Rattle.roaring.proofs.LaidOut.{laid_out}
use Rattle.roaring.proofs.Measuring.{measured_laid, below_end}
use Rattle.dictionary.specs.Layout.{Entry}
use Rattle.bitmap_index.specs.Layout.{EntryRows, single, bitmap}
use Rattle.bitmap_index.specs.Reading.{extent_said, entry_number, bitmap_placed, entry_placed, place_entry, rows_for, rows_at}

-- ---- its place is where the layout says

-- a negative offset is the single row -1 less it
signed-single : (r : ℕ) → r < sign_bit → signed32 (minus_one_32 - r) ≡ negsuc r
signed-single r h =
    let e : minus_one_32 - (minus_one_32 - r) ≡ r = omega arith in
    let l : sign_bit ≤ minus_one_32 - r = omega arith in
    rw (le-ltb (minus_one_32 - r) sign_bit l, e)

extent_fits : (extent long : ℕ) → long ≤ limit → (extent ≡ minus_one_32) ⊎ (extent ≡ long) → ExtentIs (extent_said extent) long
unfolding extent_said
extent_fits extent long h (inl e) = rw (eq-eqb extent minus_one_32 e) tt
extent_fits extent long h (inr e) = rw (ne_eqb extent minus_one_32 (omega arith)) e

module _ (region : List ℕ) (e : Entry) (short : length region ≤ limit) where
  single_place : (r : ℕ) → r < sign_bit → e.offset ≡ minus_one_32 - r → signed32 e.offset ≡ negsuc r
  single_place r h o = ap signed32 o ∙ signed-single r h

  module _ (before bytes behind : List ℕ) (q : region ≡ before ++ (bytes ++ behind)) where
    bitmap_place : e.offset ≡ length before → signed32 e.offset ≡ pos (length before)
    bitmap_place o =
        let k = simp length-append at (ap length q) in
        let i : length before < sign_bit = omega arith in
        ap signed32 o ∙ rw (lt-ltb (length before) sign_bit i)

    bitmap-bytes : drop (length before) region ≡ bytes ++ behind
    bitmap-bytes = rw q (drop_at before (bytes ++ behind) (length before) refl)

    bitmap_fits : (e.extent ≡ minus_one_32) ⊎ (e.extent ≡ length bytes) → ExtentIs (extent_said e.extent) (length bytes)
    bitmap_fits x =
        let k = simp length-append at (ap length q) in
        extent_fits e.extent (length bytes) (omega arith) x

  -- ---- its rows

  pub rows_at_lem : (rows : List ℕ) → EntryRows region rows e → rows_at region e ≡ rows
  unfolding rows_at rows_for rows_read
  rows_at_lem rows (single r q h o x) = rw (single_place r h o) (sym q)
  rows_at_lem rows (bitmap before bytes behind q m o x) = rw (bitmap_place before bytes behind q o, bitmap-bytes before bytes behind q, laid_out m behind)

-- rows placed for an entry of this number, in a field of n rows: "RANGE, else TWICE"
abbrev pub place_rows : ℕ → ℕ → List ℕ → List ℕ → Result (List ℕ) Refusal
place_rows entry n f rows = check (leb (end_of rows) n) (Range entry) (check (not (any_set f rows)) (Twice entry) (Ok (mark_all f rows)))

module _ (next n : ℕ) (region f : List ℕ) (e : Entry) (short : length region ≤ limit) where
  pub laid_placed : (rows : List ℕ) → EntryRows region rows e → place_entry next n region f e ≡ place_rows (entry_number next e.cell) n f rows
  unfolding place_entry entry_placed bitmap_placed refused_as and_then end_of any_set mark_all
  laid_placed rows (single r q h o x) = rw (q, single_place region e short r h o, or-false, add-one)
  laid_placed rows (bitmap before bytes behind q m o x) =
      let (p, is, same) = measured_laid (extent_said e.extent) m behind (bitmap_fits region e short before bytes behind q x) in
      rw (bitmap_place region e short before bytes behind q o, bitmap-bytes region e short before bytes behind q, is, same)

  pub place_one : (rows : List ℕ) → EntryRows region rows e → Below n rows → any_set f rows ≡ false → place_entry next n region f e ≡ Ok (mark_all f rows)
  unfolding check
  place_one rows a b s = laid_placed rows a ∙ rw (le-leb (end_of rows) n (below_end n rows b), s)
