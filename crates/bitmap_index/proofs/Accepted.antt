-- A body that the audit accepts: no row stands under two entries, and none is left over. So row r holds the cell of the one entry that has it, and the
-- body is that column's.
use Prim.Native.Nat.{ℕ, zero, suc, ◌+◌, ◌*◌, ◌/◌, ◌<◌, ◌≤◌}
use mathlib.Core.Path.{◌≡◌, refl, sym, ap, ◌∙◌, subst}
use mathlib.Core.Bool.{Bool, true, false, ◌||◌, cond, or-true}
use mathlib.Core.List.{List, [], ◌∷◌, ◌++◌}
use native.Mathlib.Nat.{zero-add, add-zero}
use native.Mathlib.Decide.{dec_lt}
use native.Mathlib.Omega.{arith}
use borrow.Author.Tests.{ne_eqb, eqb-true}
use lib.Dec.{eqb}
use lib.ListN.{length, replicate}
use Rattle.numbers.specs.Meaning.{All, joined, Bytes}
use Rattle.numbers.proofs.Booleans.{or_neither}
use Rattle.refusal.specs.Meaning.{limit}
use Rattle.row_field.specs.Meaning.{size, bit, mark_all, any_set, cleared, rows_of, Rising, Below}
use Rattle.row_field.proofs.RowLists.{rising_more, rising_below}
use Rattle.row_field.proofs.Marks.{member, member_before, member-past, length-mark_all, bit-mark_all, rows_of-field}
use Rattle.row_field.proofs.Laws.{tick, bytes-zeros}
use Rattle.row_field.proofs.Counts.{count-full, length-zeroed, bit-zeroed}
use Rattle.stored_value.specs.Meaning.{types, Cell, null, value, same_cell}
use Rattle.std.specs.Prelude.{Ok}
use Rattle.stored_value.proofs.Laws.{same_cell-refl, same_cell→eq, same_cell-sym}
use Rattle.dictionary.specs.Layout as layout
use Rattle.dictionary.specs.Layout.{Patterns}
use Rattle.dictionary.specs.Layout.{Entry, Valued, NullOnly, some_has, Distinct}
use Rattle.dictionary.specs.Reading.{Dictionary}
use Rattle.dictionary.specs.Claims.{LaidOut, in_one, in_two, Once}
use Rattle.dictionary.proofs.Theorems.{read_is_laid_out, one_has_each_once, two_has_each_once, each_stands_once, region_is_bytes}
use Rattle.bitmap_index.specs.Meaning.{Cells}
use Rattle.bitmap_index.specs.Layout.{rows_with, ExactRows, Covers, ColumnEntries, ColumnBody, version1, version2}
use Rattle.bitmap_index.specs.Claims.{times, RowsOfEach, OnePlaceEach}
use Rattle.bitmap_index.specs.Reading.{next_number, first_number, place_entry, place_entries, rows_at}
use Rattle.bitmap_index.proofs.Rows.{rows_where, rows_with_lem, rows_rising, rows-below, member-rows, mark_all-same}
use Rattle.bitmap_index.proofs.ScanAnswers.{other_cell}
use Rattle.bitmap_index.proofs.SameColumn.{cell_at, passes_at, Typed}
use Rattle.refusal.proofs.Laws.{then_ok}
use Rattle.bitmap_index.proofs.AcceptedStages.{EntryPlaced, entry-placed, AllRowsPlaced, AuditPassed}

-- ---- the column that entries have: row r holds the cell of the first entry that has r

unfoldable pub holder : List ℕ → List Entry → ℕ → Cell
holder region [] r = null
holder region (e ∷ es) r = cond (member r (rows_at region e)) e.cell (holder region es r)

-- the cells of k rows from a on
abbrev pub table : (ℕ → Cell) → ℕ → ℕ → List Cell
table c a zero = []
table c a (suc k) = c a ∷ table c (a + 1) k

abbrev pub column_of : List ℕ → List Entry → ℕ → List Cell
column_of region es n = table (holder region es) 0 n

pub length-table : (c : ℕ → Cell) (a k : ℕ) → length (table c a k) ≡ k
length-table c a zero = refl
length-table c a (suc k) = ap suc (length-table c (a + 1) k)

table_at : (c : ℕ → Cell) (a k i : ℕ) → i < k → cell_at (table c a k) i ≡ c (a + i)
table_at c a zero i h = absurd (omega arith)
table_at c a (suc k) zero h = rw (add-zero a)
table_at c a (suc k) (suc i) h =
    let e : a + suc i ≡ a + 1 + i = omega arith in
    rw e (table_at c (a + 1) k i (omega arith))

-- the entry has row r if it is the entry of the cell c, and else not
abbrev pub HasRowOf : List ℕ → Cell → ℕ → Entry → Type 0
HasRowOf region c r e = same_cell e.cell c ≡ member r (rows_at region e)

-- ---- all places accepted

-- the entries, placed one after the other in the field f, fill it to `full`
abbrev pub AllPlaced : ℕ → List ℕ → List ℕ → List ℕ → List Entry → Type 0
AllPlaced n region full f [] = full ≡ f
AllPlaced n region full f (e ∷ es) = EntryPlaced n region f (rows_at region e) e × AllPlaced n region full (mark_all f (rows_at region e)) es

-- a row that is set is none of rows that are not
pub member_free : (f : List ℕ) (r : ℕ) (rs : List ℕ) → bit f r ≡ true → any_set f rs ≡ false → member r rs ≡ false
unfolding any_set member
member_free f r [] b h = refl
member_free f r (q ∷ rs) b h =
    let g = or_neither (bit f q) (any_set f rs) h in
    rw (ne_eqb r q (λ e. let z : ◌≡◌ {A = ℕ} 0 1 = cc (ap (bit f) e, g.0) in omega arith)) (member_free f r rs b g.1)

-- entries none of which is of the cell d, and none of which has row r
others : (d : Cell) (region : List ℕ) (r : ℕ) (es : List Entry) → some_has d es ≡ false → All (λ e. member r (rows_at region e) ≡ false) es → All (HasRowOf region d r) es
others d region r [] s m = tt
others d region r (e ∷ es) s m =
    let h = or_neither (same_cell d e.cell) (some_has d es) s in
    (same_cell-sym e.cell d ∙ h.0 ∙ sym m.0, others d region r es h.1 m.1)

-- how many of the entries have row r
abbrev pub many_have : List ℕ → List Entry → ℕ → ℕ
many_have region [] r = 0
many_have region (e ∷ es) r = tick (member r (rows_at region e)) + many_have region es r

-- the rows of each entry; a row stands once among rows that rise, or not at all
abbrev each_rows : List ℕ → List Entry → List (List ℕ)
each_rows region [] = []
each_rows region (e ∷ es) = rows_at region e ∷ each_rows region es

pub times-append : (r : ℕ) (xs ys : List ℕ) → times r (xs ++ ys) ≡ times r xs + times r ys
times-append r [] ys = sym (zero-add (times r ys))
times-append r (x ∷ xs) ys = omega (arith, times-append r xs ys)

pub times_rising : (r lo hi : ℕ) (rs : List ℕ) → Rising lo hi rs → times r rs ≡ tick (member r rs)
unfolding member
times_rising r lo hi [] s = refl
times_rising r lo hi (q ∷ rs) s = go (eqb r q) refl (times_rising r (q + 1) hi rs s.2)
  where
    go : (b : Bool) → eqb r q ≡ b → times r rs ≡ tick (member r rs) → cond b 1 0 + times r rs ≡ tick (b || member r rs)
    go true e i =
        let n : member r rs ≡ false = member_before r (q + 1) hi rs (omega (arith, eqb-true r q e)) s.2 in
        rw (i, n)
    go false e i = omega arith

module _ (n : ℕ) (region full : List ℕ) where
  each_placed : (next : ℕ) (f : List ℕ) (es : List Entry) → Bytes region → Patterns es → place_entries next n region es f ≡ Ok full → AllPlaced n region full f es
  unfolding place_entries
  each_placed next f [] b p q = cc
  each_placed next f (e ∷ es) b p q =
      let (f', here, there) = then_ok (place_entry next n region f e) (place_entries (next_number next e.cell) n region es) full q in
      let (taken, marked) = entry-placed region e b p.0 p.1 next n f f' here in
      (taken, each_placed (next_number next e.cell) (mark_all f (rows_at region e)) es b p.2 (rw marked at there))

  rows_of_each : (f : List ℕ) (es : List Entry) → AllPlaced n region full f es → RowsOfEach region (each_rows region es) es
  rows_of_each f [] a = tt
  rows_of_each f (e ∷ es) a = (a.0.placed, rows_of_each (mark_all f (rows_at region e)) es a.1)

  times_each : (r : ℕ) (f : List ℕ) (es : List Entry) → AllPlaced n region full f es → times r (joined (each_rows region es)) ≡ many_have region es r
  times_each r f [] a = refl
  times_each r f (e ∷ es) a =
      times-append r (rows_at region e) (joined (each_rows region es))
      ∙ rw (times_rising r 0 n (rows_at region e) a.0.rising, times_each r (mark_all f (rows_at region e)) es a.1)

  -- a row that is set already is none of those that follow
  none-again : (r : ℕ) (f : List ℕ) (es : List Entry) → r / 8 < length f → bit f r ≡ true → AllPlaced n region full f es → All (λ e. member r (rows_at region e) ≡ false) es
  none-again r f [] h b a = tt
  none-again r f (e ∷ es) h b a = (
    member_free f r (rows_at region e) b a.0.free,
    none-again r (mark_all f (rows_at region e)) es (rw length-mark_all h) (bit-mark_all f (rows_at region e) r h ∙ rw b) a.1,
  )

  -- a row that is set in the end and was not before is had by the entries of one cell, and there is one
  one-holder : (r : ℕ) (f : List ℕ) (es : List Entry) → Once es → r / 8 < length f → bit f r ≡ false → bit full r ≡ true → AllPlaced n region full f es
      → (some_has (holder region es r) es ≡ true) × All (HasRowOf region (holder region es r) r) es
  unfolding holder
  one-holder r f [] o h b g a = absurd (let z : ◌≡◌ {A = ℕ} 0 1 = cc (ap (λ (x : List ℕ). bit x r) a) in omega arith)
  one-holder r f (e ∷ es) o h b g a = go (member r (rows_at region e)) refl (one-holder r (mark_all f (rows_at region e)) es o.1 (rw length-mark_all h))
    where
      go : (m : Bool) → member r (rows_at region e) ≡ m
          → (bit (mark_all f (rows_at region e)) r ≡ false → bit full r ≡ true → AllPlaced n region full (mark_all f (rows_at region e)) es
          → (some_has (holder region es r) es ≡ true) × All (HasRowOf region (holder region es r) r) es)
          → (some_has (cond m e.cell (holder region es r)) (e ∷ es) ≡ true) × All (HasRowOf region (cond m e.cell (holder region es r)) r) (e ∷ es)
      go true m i =
          let s : bit (mark_all f (rows_at region e)) r ≡ true = bit-mark_all f (rows_at region e) r h ∙ rw (b, m) in (
            rw (same_cell-refl e.cell),
            (same_cell-refl e.cell ∙ sym m, others e.cell region r es o.0 (none-again r (mark_all f (rows_at region e)) es (rw length-mark_all h) s a.1)),
          )
      go false m i =
          let s : bit (mark_all f (rows_at region e)) r ≡ false = bit-mark_all f (rows_at region e) r h ∙ rw (b, m) in
          let (x, y) = i s g a.1 in
          (rw x (or-true (same_cell (holder region es r) e.cell)), (other_cell (holder region es r) e.cell es o.0 x ∙ sym m, y))

-- ---- rows in order are known by which they are

pub rising_same : (n : ℕ) (xs ys : List ℕ) → Rising 0 n xs → Rising 0 n ys → ((r : ℕ) → member r xs ≡ member r ys) → xs ≡ ys
rising_same n xs ys s t h =
    sym (rows_of-field n xs (rising_more 0 n 0 (n * 8) xs (omega arith) (omega arith) s))
    ∙ ap (λ (f : List ℕ). rows_of f) (mark_all-same (replicate n 0) xs ys (bytes-zeros n) h)
    ∙ rows_of-field n ys (rising_more 0 n 0 (n * 8) ys (omega arith) (omega arith) t)

-- ---- entries that fill a field with no row left over: the body of the column that they have

module _ (n : ℕ) (region : List ℕ) (c : ℕ → Cell) where
  member_go : (e : Entry) → Below n (rows_at region e) → ((r : ℕ) → r < n → HasRowOf region (c r) r e) → (r : ℕ) → Dec (r < n)
      → member r (rows_where (same_cell e.cell) 0 (table c 0 n)) ≡ member r (rows_at region e)
  member_go e b h r (yes l) =
      member-rows (same_cell e.cell) r (table c 0 n)
      ∙ passes_at (same_cell e.cell) r (table c 0 n) (rw length-table l)
      ∙ ap (same_cell e.cell) (table_at c 0 n r l ∙ ap c (zero-add r))
      ∙ h r l
  member_go e b h r (no l) =
      let w : Below n (rows_where (same_cell e.cell) 0 (table c 0 n)) = rw length-table at (rows-below (same_cell e.cell) (table c 0 n)) in
      member-past r n _ (omega arith) w ∙ sym (member-past r n (rows_at region e) (omega arith) b)

  entry-rows : (e : Entry) → Rising 0 n (rows_at region e) → ((r : ℕ) → r < n → HasRowOf region (c r) r e)
      → rows_with e.cell 0 (table c 0 n) ≡ rows_at region e
  entry-rows e s h =
      let p : Cell → Bool = same_cell e.cell in
      let rs : List ℕ = rows_where p 0 (table c 0 n) in
      rows_with_lem e.cell 0 (table c 0 n)
      ∙ rising_same n rs (rows_at region e) (rw length-table at (rows_rising p (table c 0 n))) s
      (λ r. member_go e (rising_below 0 n (rows_at region e) s) h r (dec_lt r n))

  all_placed : (full f : List ℕ) (es : List Entry) → AllPlaced n region full f es → ((r : ℕ) → r < n → All (HasRowOf region (c r) r) es) → ExactRows region (table c 0 n) es
  all_placed full f [] a h = tt
  all_placed full f (e ∷ es) a h =
      (rw (entry-rows e a.0.rising (λ r l. (h r l).0)) a.0.placed, all_placed full (mark_all f (rows_at region e)) es a.1 (λ r l. (h r l).1))

covers_table : (es : List Entry) (c : ℕ → Cell) (a k : ℕ) → ((r : ℕ) → a ≤ r → r < a + k → some_has (c r) es ≡ true) → Covers es (table c a k)
covers_table es c a zero h = tt
covers_table es c a (suc k) h = (h a (omega arith) (omega arith), covers_table es c (a + 1) k (λ r l m. h r (omega arith) (omega arith)))

-- where the entries that have r are those of c, and each cell has one entry, r has as many places as c has entries: one or none
none_have : (region : List ℕ) (es : List Entry) (c : Cell) (r : ℕ) → All (HasRowOf region c r) es → some_has c es ≡ false → many_have region es r ≡ 0
none_have region [] c r h s = refl
none_have region (e ∷ es) c r h s =
    let g = or_neither (same_cell c e.cell) (some_has c es) s in
    let m : member r (rows_at region e) ≡ false = sym h.0 ∙ same_cell-sym e.cell c ∙ g.0 in
    rw m (omega (arith, none_have region es c r h.1 g.1))

one_has : (region : List ℕ) (es : List Entry) (c : Cell) (r : ℕ) → Once es → All (HasRowOf region c r) es → some_has c es ≡ true → many_have region es r ≡ 1
one_has region [] c r o h s = absurd (let z : ◌≡◌ {A = ℕ} 0 1 = cc in omega arith)
one_has region (e ∷ es) c r o h s = go (same_cell e.cell c) refl (one_has region es c r o.1 h.1)
  where
    go : (b : Bool) → same_cell e.cell c ≡ b → (some_has c es ≡ true → many_have region es r ≡ 1) → tick (member r (rows_at region e)) + many_have region es r ≡ 1
    go true x i =
        let m : member r (rows_at region e) ≡ true = sym h.0 ∙ x in
        let q = same_cell→eq e.cell c x in
        rw m (omega (arith, none_have region es c r h.1 (rw q at o.0)))
    go false x i =
        let m : member r (rows_at region e) ≡ false = sym h.0 ∙ x in
        let y : some_has c es ≡ true = rw (same_cell-sym c e.cell, x) at s in
        rw m (omega (arith, i y))

none_have_past : (n : ℕ) (region full f : List ℕ) (es : List Entry) (r : ℕ) → n ≤ r → AllPlaced n region full f es → many_have region es r ≡ 0
none_have_past n region full f [] r h a = refl
none_have_past n region full f (e ∷ es) r h a =
    rw (member-past r n (rows_at region e) h (rising_below 0 n (rows_at region e) a.0.rising)) (omega (arith, none_have_past n region full (mark_all f (rows_at region e)) es r h a.1))

module _ (n : ℕ) (es : List Entry) (region field : List ℕ) (b : Bytes region) (p : Patterns es) (o : Once es) (w : AllRowsPlaced field (record { rows = n; entries = es; region = region })) where
  filled_each : AllPlaced n region w.full (cleared n field) es
  filled_each = each_placed n region w.full first_number (cleared n field) es b p w.placed

  filled_row : (r : ℕ) → r < n → (some_has (holder region es r) es ≡ true) × All (HasRowOf region (holder region es r) r) es
  filled_row r l =
      let m = length-zeroed (size n) field in
      let k = w.room in
      one-holder n region w.full r (cleared n field) es o (omega arith) (bit-zeroed (size n) field r (omega arith)) (count-full w.full n r w.counted l) filled_each

  pub filled-placed : ExactRows region (column_of region es n) es
  filled-placed = all_placed n region (holder region es) w.full (cleared n field) es filled_each (λ r l. (filled_row r l).1)

  pub filled_covers : Covers es (column_of region es n)
  filled_covers = covers_table es (holder region es) 0 n (λ r a l. (filled_row r (omega arith)).0)

  filled-times : (r : ℕ) → times r (joined (each_rows region es)) ≡ many_have region es r
  filled-times r = times_each n region w.full r (cleared n field) es filled_each

  pub filled_once : (r : ℕ) → r < n → times r (joined (each_rows region es)) ≡ 1
  filled_once r l = let (has, holds) = filled_row r l in filled-times r ∙ one_has region es (holder region es r) r o holds has

  pub filled-past : (r : ℕ) → n ≤ r → times r (joined (each_rows region es)) ≡ 0
  filled-past r l = filled-times r ∙ none_have_past n region w.full (cleared n field) es r l filled_each

-- ---- its cells are of the type

valued_typed : (t : ℕ) (c : Cell) → Valued t c → Typed t c
valued_typed t null h = tt
valued_typed t (value v) h = h

distinct_typed : (t : ℕ) (es : List Entry) → Distinct t es → All (λ e. Typed t e.cell) es
distinct_typed t [] d = tt
distinct_typed t (e ∷ es) d = (valued_typed t e.cell d.0, distinct_typed t es d.2)

rises_typed : (t : ℕ) (before : Cell) (es : List Entry) → layout.Rises t before es → All (λ e. Typed t e.cell) es
rises_typed t before [] r = tt
rises_typed t before (e ∷ es) r = (valued_typed t e.cell r.0, rises_typed t e.cell es r.2)

with_nulls : (t : ℕ) (nulls es : List Entry) → NullOnly nulls → All (λ e. Typed t e.cell) es → All (λ e. Typed t e.cell) (nulls ++ es)
with_nulls t [] es n v = v
with_nulls t (e ∷ nulls) es n v = rw (n.0, n.1) (tt, v)

holder_typed : (t : ℕ) (region : List ℕ) (es : List Entry) (r : ℕ) → All (λ e. Typed t e.cell) es → Typed t (holder region es r)
unfolding holder
holder_typed t region [] r v = tt
holder_typed t region (e ∷ es) r v = go (member r (rows_at region e)) (holder_typed t region es r v.1)
  where
    go : (b : Bool) → Typed t (holder region es r) → Typed t (cond b e.cell (holder region es r))
    go true i = v.0
    go false i = i

cells-next : (t : ℕ) (c : Cell) (cells : List Cell) → Typed t c → Cells t cells → Cells t (c ∷ cells)
cells-next t null cells h i = i
cells-next t (value v) cells h i = (h, i)

table_typed : (t : ℕ) (c : ℕ → Cell) (a k : ℕ) → ((r : ℕ) → Typed t (c r)) → Cells t (table c a k)
table_typed t c a zero h = tt
table_typed t c a (suc k) h = cells-next t (c a) (table c (a + 1) k) (h a) (table_typed t c (a + 1) k h)

-- ---- the body is the column's

entries : {cells : List Cell} {region : List ℕ} {nulls es : List Entry} → NullOnly nulls → ExactRows region cells (nulls ++ es) → Covers (nulls ++ es) cells
    → ColumnEntries cells region nulls es
entries o r c = record { null_only = o; rows = r; covers = c }

module _ (t : ℕ) (field : List ℕ) (k : t < types) where
  one-body : (rows : ℕ) (nulls es : List Entry) (region : List ℕ) → Distinct t es → NullOnly nulls → layout.NoExtents (nulls ++ es) → Patterns (nulls ++ es)
      → rows ≤ limit → length es ≤ layout.most_values1 → length (layout.body1 rows nulls es region) ≤ limit → Bytes region
      → AllRowsPlaced field (record { rows = rows; entries = nulls ++ es; region = region }) → ColumnBody t (column_of region (nulls ++ es) rows) (layout.body1 rows nulls es region)
  one-body rows nulls es region d o x p hr l z b w =
      let all : List Entry = nulls ++ es in
      let cells : List Cell = column_of region all rows in
      let e : length cells ≡ rows = length-table (holder region all) 0 rows in
      let once = one_has_each_once t nulls es d o in
      let typed = table_typed t (holder region all) 0 rows (λ r. holder_typed t region all r (with_nulls t nulls es o (distinct_typed t es d))) in
      subst (λ (m : ℕ). ColumnBody t cells (layout.body1 m nulls es region)) e
      (version1 nulls es region (k, typed) (entries o (filled-placed rows all region field b p once w) (filled_covers rows all region field b p once w)) x d (rw e hr) l z)

  two-body : (rows : ℕ) (nulls : List Entry) (bs : List (List Entry)) (region : List ℕ) → NullOnly nulls → layout.NoneEmpty bs → layout.Rises t null (joined bs)
      → Patterns (nulls ++ joined bs) → rows ≤ limit → length (joined bs) ≤ layout.most_values2 → length bs ≤ layout.most_blocks
      → length (layout.body2 rows nulls bs region) ≤ limit → Bytes region
      → AllRowsPlaced field (record { rows = rows; entries = nulls ++ joined bs; region = region })
      → ColumnBody t (column_of region (nulls ++ joined bs) rows) (layout.body2 rows nulls bs region)
  two-body rows nulls bs region o ne r p hr l m z b w =
      let es : List Entry = joined bs in
      let all : List Entry = nulls ++ es in
      let cells : List Cell = column_of region all rows in
      let e : length cells ≡ rows = length-table (holder region all) 0 rows in
      let once = two_has_each_once t nulls es r o in
      let typed = table_typed t (holder region all) 0 rows (λ i. holder_typed t region all i (with_nulls t nulls es o (rises_typed t null es r))) in
      subst (λ (j : ℕ). ColumnBody t cells (layout.body2 j nulls bs region)) e
      (version2 nulls bs region (k, typed) (entries o (filled-placed rows all region field b p once w) (filled_covers rows all region field b p once w)) ne r (rw e hr) l m z)

  filled-body : (body : List ℕ) (d : Dictionary) → length body ≤ limit → LaidOut t body d → Bytes d.region → AllRowsPlaced field d
      → ColumnBody t (column_of d.region d.entries d.rows) body
  filled-body body d s (in_one rows nulls es region a o x p hr l q c) h w =
      rw (q, c) (one-body rows nulls es region a o x p hr l (rw c at s) (subst (λ (y : Dictionary). Bytes y.region) q h) (subst (AllRowsPlaced field) q w))
  filled-body body d s (in_two rows nulls bs region o ne r p hr l m z q c) h w =
      rw (q, c) (two-body rows nulls bs region o ne r p hr l m z (subst (λ (y : Dictionary). Bytes y.region) q h) (subst (AllRowsPlaced field) q w))

-- a body that passes the audit is a body of the column that its entries have
pub passed_body : (t : ℕ) (body field : List ℕ) (n : ℕ) → Bytes body → (p : AuditPassed t body field n) → ColumnBody t (column_of p.read.region p.read.entries p.read.rows) body
passed_body t body field n b p =
    let d : Dictionary = p.read in
    let (known, laid) = read_is_laid_out t body d b p.short p.is in
    filled-body t field known body d p.short laid (region_is_bytes t body d b laid) p.filled

-- ---- each of its rows has exactly one place

pub laid_patterns : (t : ℕ) (body : List ℕ) (d : Dictionary) → LaidOut t body d → Patterns d.entries
laid_patterns t body d (in_one rows nulls es region a o x p hr l q c) = rw q p
laid_patterns t body d (in_two rows nulls bs region o ne r p hr l m z q c) = rw q p

pub passed_once : (t : ℕ) (body field : List ℕ) (n : ℕ) → Bytes body → AuditPassed t body field n → OnePlaceEach t body n
passed_once t body field n b p =
    let d : Dictionary = p.read in
    let (known, laid) = read_is_laid_out t body d b p.short p.is in
    let once = each_stands_once t body d laid in
    let patterns = laid_patterns t body d laid in
    let bytes = region_is_bytes t body d b laid in
    let e = p.rows in
    record {
      read = d;
      is = p.is;
      many = p.rows;
      rows = each_rows d.region d.entries;
      placed = rows_of_each d.rows d.region p.filled.full (cleared d.rows field) d.entries
          (filled_each d.rows d.entries d.region field bytes patterns once p.filled);
      once = once;
      one = λ r l. filled_once d.rows d.entries d.region field bytes patterns once p.filled r (rw e l);
      none = λ r l. filled-past d.rows d.entries d.region field bytes patterns once p.filled r (rw e l);
    }
