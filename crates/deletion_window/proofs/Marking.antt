-- Marking through a window: one bitmap, the bitmaps behind a 64-bit magic in turn, and a field that is cleared again.
use Prim.Native.Nat.{ℕ, suc, ◌+◌, ◌-◌, ◌*◌, ◌<◌, ◌≤◌}
use mathlib.Core.Path.{◌≡◌, refl, sym, ap, ◌∙◌}
use mathlib.Core.Bool.{Bool, true, false}
use mathlib.Core.List.{List, [], ◌++◌, append-nil, append_assoc}
use native.Mathlib.Nat.{zero-mul}
use native.Mathlib.Omega.{arith}
use lib.Dec.{eqb}
use lib.ListN.{length, drop}
use Rattle.numbers.specs.Meaning.{le_at, little, Bytes, four_bytes}
use Rattle.numbers.proofs.Laws.{number_at_lem, number_short}
use Rattle.refusal.specs.declared.Refusal.{Refusal}
use Rattle.std.specs.Prelude.{Result, Err, Ok}
use Rattle.refusal.specs.Reading.{check, and_then, refused_as}
use Rattle.refusal.proofs.Laws.{then_same}
use Rattle.row_field.specs.Meaning.{size, mark_all, cleared, above, Below}
use Rattle.row_field.specs.Promises.{MarkedRows}
use Rattle.row_field.proofs.RowLists.{rising_below, above_zero}
use Rattle.row_field.proofs.Marks.{mark_all-append}
use Rattle.row_field.proofs.Counts.{zeroed-again}
use Rattle.row_field.proofs.Fronts.{cleared_marks}
use Rattle.window.specs.declared.Window.{Window}
use Rattle.window.specs.Meaning.{windowed, row_window, rows_in_window}
use Rattle.window.specs.Promises.{WindowFits, clipped}
use Rattle.window.proofs.Windows.{windowed-append, windowed-below, windowed-none}
use Rattle.window.proofs.Clipping.{clipped-rows, clipped_ordered, clipped_inside}
use Rattle.roaring.specs.declared.Extent.TheVariants.{Exactly}
use Rattle.roaring.specs.declared.Shape.{Shape}
use Rattle.roaring.specs.Reading.{Parsed, read, rows_read}
use Rattle.roaring.proofs.Measuring.{read_rises, rows-measured, measured-read}
use Rattle.roaring_mark.specs.Promises.{Accepts}
use Rattle.roaring_mark.proofs.ContainerMarks.{rows_of}
use Rattle.deletion_file.specs.Promises.{bitmap_shape}
use Rattle.deletion_file.proofs.CallSteps.{is_parsed, is_broken}
use Rattle.deletion_file.proofs.WalkSteps.{then_then}
use Rattle.deletion_window.specs.declared.Indexed.{Indexed}
use Rattle.deletion_window.specs.Layout.{index_rows, end_of_all_rows}
use Rattle.deletion_window.specs.Reading.{wrong, indexed_bitmap, bitmaps_in, rows64, rows32}
use Rattle.deletion_window.specs.Promises.{MarksEach, IsClear}

-- ---- one bitmap

module _ (first n index : ℕ) (bytes : List ℕ) {own : Window} (c : own ≡ clipped (row_window first n) (index * index_rows) index_rows) where
  pub own_fits : first + n ≤ end_of_all_rows → WindowFits own
  own_fits h =
      let w = row_window first n in
      let inside = clipped_inside w (index * index_rows) index_rows in
      rw c (record { ordered = clipped_ordered w (index * index_rows) index_rows; held = omega arith })

  module _ (a : Accepts (read bytes)) (t : Bytes bytes) where
    low_parts : Below four_bytes (rows_read (read bytes))
    low_parts = rw (rows_of (read bytes) a.bitmap a.so) (rising_below 0 four_bytes a.bitmap.rows (read_rises bytes a.bitmap t a.so))

    own_rows : windowed own (rows_read (read bytes)) ≡ rows_in_window first n (above (index * index_rows) (rows_read (read bytes)))
    own_rows = rw c (clipped-rows (row_window first n) (index * index_rows) index_rows (rows_read (read bytes)) low_parts)

    pub outside_so : own.end ≤ own.low → (f : List ℕ) → f ≡ mark_all f (rows_in_window first n (above (index * index_rows) (rows_read (read bytes))))
    unfolding mark_all
    outside_so h f =
        let none : rows_in_window first n (above (index * index_rows) (rows_read (read bytes))) ≡ [] = sym own_rows ∙ windowed-none own h (rows_read (read bytes)) in
        rw none

    pub inside_so : {f f' : List ℕ} {seen : Bool} → MarkedRows f f' (windowed own (rows_read (read bytes))) seen
        → f' ≡ mark_all f (rows_in_window first n (above (index * index_rows) (rows_read (read bytes))))
    inside_so {f} m = m.marked ∙ ap (mark_all f) own_rows

-- the one bitmap behind the 32-bit magic, which has the rows of index 0
module _ (bytes : List ℕ) where
  pub not_listed : {r : Refusal} → Err r ≡ bitmap_shape bytes → rows32 bytes ≡ Err r
  unfolding rows32 and_then refused_as
  not_listed e = let (i, is, same) = is_broken bytes e in rw is (ap Err (sym same))

  module _ {found : Shape} (e : Ok found ≡ bitmap_shape bytes) (t : Bytes bytes) where
    pub sound_so : Accepts (read bytes)
    sound_so =
        let (p, is, end) = is_parsed bytes e in
        let r = measured-read (Exactly (length bytes)) bytes p t is in
        record { bitmap = r.0; so = r.1 }

    pub listed : rows32 bytes ≡ Ok (above (0 * index_rows) (rows_read (read bytes)))
    unfolding rows32 and_then refused_as
    listed =
        let (p, is, end) = is_parsed bytes e in
        rw (is, zero-mul index_rows, above_zero (rows_read (read bytes)), rows-measured (Exactly (length bytes)) bytes p t is)

-- ---- the bitmaps in turn

then_itself : {A : Type 0} (o : Result (List A) Refusal) → o ≡ and_then o (λ more. Ok ([] ++ more))
unfolding and_then
then_itself (Err r) = refl
then_itself (Ok a) = refl

-- `count` more bitmaps in what is left, behind the rows so far, give the whole, and those rows are marked
pub record Each (first n : ℕ) (bytes f₀ f : List ℕ) (count : ℕ) (left : List ℕ) (least : ℕ) : Type 0 where
  pub so_far : List ℕ
  pub so : rows64 bytes ≡ and_then (bitmaps_in count least left) (λ more. Ok (so_far ++ more))
  pub marked : f ≡ mark_all f₀ (rows_in_window first n so_far)

-- some rows of the window are marked, and the bin is refused
module _ (first n : ℕ) (bytes : List ℕ) where
  pub no_count : (f : List ℕ) → length bytes < 8 → MarksEach first n bytes f f false
  unfolding rows64 mark_all
  no_count f h = (number_short little 8 (Err wrong) bytes 0 _ (omega arith), ([], tt, refl))

  pub each_first : (f : List ℕ) {count : ℕ} → 8 ≤ length bytes → count ≡ le_at 8 bytes 0 → Each first n bytes f f count (drop 8 bytes) 0
  unfolding rows64 windowed mark_all
  each_first f {count} h e =
      record {
        so_far = [];
        so = number_at_lem little 8 (Err wrong) bytes 0 _ h ∙ rw (← e) (then_itself (bitmaps_in count 0 (drop 8 bytes)));
        marked = refl;
      }

  module _ {f₀ f : List ℕ} {count : ℕ} {left : List ℕ} {least : ℕ} (st : Each first n bytes f₀ f count left least) where
    some_marked : rows64 bytes ≡ Err wrong → MarksEach first n bytes f₀ f false
    some_marked e =
        let z : 0 + (first + n - first) ≡ n = omega arith in
        (e, (rows_in_window first n st.so_far, rw z at (windowed-below (row_window first n) st.so_far), st.marked))

    module _ {k : ℕ} (one_more : count ≡ suc k) where
      turn : rows64 bytes
          ≡ and_then (and_then (indexed_bitmap least left) (λ x. and_then (bitmaps_in k (x.index + 1) x.behind) (λ more. Ok (x.rows ++ more))))
          (λ more. Ok (st.so_far ++ more))
      unfolding bitmaps_in
      turn = st.so ∙ ap (λ (j : ℕ). and_then (bitmaps_in j least left) (λ more. Ok (st.so_far ++ more))) one_more

      pub each_unsound : indexed_bitmap least left ≡ Err wrong → MarksEach first n bytes f₀ f false
      unfolding and_then
      each_unsound e = some_marked (turn ∙ rw e)

      pub each_next : (x : Indexed) {bitmap : Parsed} → read x.bitmap.now ≡ Ok bitmap
          → indexed_bitmap least left ≡ Ok (record { index = x.index; rows = above (x.index * index_rows) bitmap.rows; behind = x.behind.now }) → {f' : List ℕ}
          → f' ≡ mark_all f (rows_in_window first n (above (x.index * index_rows) (rows_read (read x.bitmap.now))))
          → Each first n bytes f₀ f' k x.behind.now (x.index + 1)
      unfolding and_then
      each_next x {bitmap} is_read so {f'} m =
          let rows : List ℕ = above (x.index * index_rows) bitmap.rows in
          let rest : Result (List ℕ) Refusal = bitmaps_in k (x.index + 1) x.behind.now in
          let g : f' ≡ mark_all f (rows_in_window first n rows) = rw (rows_of (read x.bitmap.now) bitmap is_read) at m in
          record {
            so_far = st.so_far ++ rows;
            so = turn ∙ rw so (then_then rest _ _ ∙ then_same rest _ _ (λ more. ap Ok (sym (append_assoc st.so_far rows more))));
            marked = g ∙ rw st.marked (sym (mark_all-append f₀ (rows_in_window first n st.so_far) (rows_in_window first n rows)))
                ∙ ap (mark_all f₀) (sym (windowed-append (row_window first n) st.so_far rows));
          }

    module _ (z : count ≡ 0) where
      none_left : rows64 bytes ≡ and_then (check (eqb (length left) 0) wrong (Ok [])) (λ more. Ok (st.so_far ++ more))
      unfolding bitmaps_in
      none_left = st.so ∙ ap (λ (j : ℕ). and_then (bitmaps_in j least left) (λ more. Ok (st.so_far ++ more))) z

      pub each_done : MarksEach first n bytes f₀ f (eqb (length left) 0)
      unfolding and_then check
      each_done = go (eqb (length left) 0) refl
        where
          go : (t : Bool) → eqb (length left) 0 ≡ t → MarksEach first n bytes f₀ f t
          go true e = (st.so_far, none_left ∙ rw (e, append-nil), st.marked)
          go false e = some_marked (none_left ∙ rw e)

-- ---- a field that is cleared again

pub is_clear : (n : ℕ) (f : List ℕ) {clear : List ℕ} → clear ≡ cleared n f → IsClear n clear
is_clear n f e = rw e (zeroed-again (size n) f)

module _ (first n : ℕ) (bytes before after : List ℕ) (all : Bool) (w : MarksEach first n bytes before after all) where
  pub taken_back : all ≡ false → IsClear n before → (rows64 bytes ≡ Err wrong) × (cleared n after ≡ before)
  taken_back t clear =
      let v = rw t at w in
      (v.0, ap (cleared n) v.1.2 ∙ cleared_marks n before v.1.0 v.1.1 ∙ clear)

  pub all_marked : all ≡ true → (rows : List ℕ) × (rows64 bytes ≡ Ok rows) × (after ≡ mark_all before (rows_in_window first n rows))
  all_marked t = rw t at w
