-- The rows of a column whose cells pass a test: what marking them makes of a field, and how many they are. The scan marks such rows, and so does
-- each entry.
use Prim.Native.Nat.{ℕ, zero, suc, ◌+◌, ◌*◌, ◌<◌, ◌≤◌}
use mathlib.Core.Path.{◌≡◌, refl, sym, ap, ◌∙◌}
use mathlib.Core.Bool.{Bool, true, false, ◌||◌, cond}
use mathlib.Core.List.{List, [], ◌∷◌, ◌++◌}
use native.Mathlib.Nat.{add-zero, zero-add}
use native.Mathlib.Omega.{arith}
use lib.ListN.{length, drop}
use Rattle.numbers.specs.Meaning.{All, Bytes}
use Rattle.row_field.specs.Meaning.{size, bit, mark_all, any_set, field_of, cleared, count, Rising, Below}
use Rattle.row_field.proofs.RowLists.{rising_cond, rising_below}
use Rattle.row_field.proofs.Marks.{member, member-append, member_before, member-cond_here, member-cond_there, length-mark_all, bytes-mark_all, mark_all-append, bit-mark_all}
use Rattle.row_field.proofs.Laws.{field_ext}
use Rattle.row_field.proofs.Fronts.{marked_field, marked_count}
use Rattle.row_field.proofs.Counts.{bytes-zeroed, length-zeroed, bit-zeroed}
use Rattle.stored_value.specs.Meaning.{Cell, same_cell}
use Rattle.bitmap_index.specs.Layout.{rows_with}

-- ---- the rows, from a on, whose cells pass the test p

abbrev pub rows_where : (Cell → Bool) → ℕ → List Cell → List ℕ
rows_where p a [] = []
rows_where p a (c ∷ cells) = cond (p c) (a ∷ rows_where p (a + 1) cells) (rows_where p (a + 1) cells)

-- whether the cell of number r passes it; there is none past the end
abbrev pub passes : (Cell → Bool) → ℕ → List Cell → Bool
passes p r [] = false
passes p zero (c ∷ cells) = p c
passes p (suc r) (c ∷ cells) = passes p r cells

pub rows_with_lem : (c : Cell) (a : ℕ) (cells : List Cell) → rows_with c a cells ≡ rows_where (same_cell c) a cells
rows_with_lem c a [] = refl
rows_with_lem c a (d ∷ cells) = rw (rows_with_lem c (a + 1) cells)

pub all-cells : (P : Cell → Type 0) (cells : List Cell) → ((c : Cell) → P c) → All P cells
all-cells P [] h = tt
all-cells P (c ∷ cells) h = (h c, all-cells P cells h)

pub rows_ext : (p q : Cell → Bool) (a : ℕ) (cells : List Cell) → All (λ c. p c ≡ q c) cells → rows_where p a cells ≡ rows_where q a cells
rows_ext p q a [] h = refl
rows_ext p q a (c ∷ cells) h = rw (h.0, rows_ext p q (a + 1) cells h.1)

pub rows_none : (a : ℕ) (cells : List Cell) → rows_where (λ c. false) a cells ≡ []
rows_none a [] = refl
rows_none a (c ∷ cells) = rows_none (a + 1) cells

pub rows_all : (p : Cell → Bool) (a : ℕ) (cells : List Cell) → All (λ c. p c ≡ true) cells → length (rows_where p a cells) ≡ length cells
rows_all p a [] h = refl
rows_all p a (c ∷ cells) h = rw h.0 (ap suc (rows_all p (a + 1) cells h.1))

-- ---- they rise, within the column

pub rows_rise : (p : Cell → Bool) (a : ℕ) (cells : List Cell) → Rising a (a + length cells) (rows_where p a cells)
rows_rise p a [] = tt
rows_rise p a (c ∷ cells) =
    let e : a + 1 + length cells ≡ a + suc (length cells) = omega arith in
    rising_cond (p c) a (a + suc (length cells)) a (rows_where p (a + 1) cells) (omega arith) (omega arith) (rw e at (rows_rise p (a + 1) cells))

pub rows_rising : (p : Cell → Bool) (cells : List Cell) → Rising 0 (length cells) (rows_where p 0 cells)
rows_rising p cells = rw zero-add at (rows_rise p 0 cells)

pub rows-below : (p : Cell → Bool) (cells : List Cell) → Below (length cells) (rows_where p 0 cells)
rows-below p cells = rising_below 0 (length cells) (rows_where p 0 cells) (rows_rising p cells)

-- ---- which rows they are

member-rows_from : (p : Cell → Bool) (a r : ℕ) (cells : List Cell) → member (a + r) (rows_where p a cells) ≡ passes p r cells
unfolding member
member-rows_from p a r [] = refl
member-rows_from p a zero (c ∷ cells) =
    let rs : List ℕ = rows_where p (a + 1) cells in
    rw add-zero (member-cond_here (p c) a rs (member_before a (a + 1) (a + 1 + length cells) rs (omega arith) (rows_rise p (a + 1) cells)))
member-rows_from p a (suc r) (c ∷ cells) =
    let e : a + suc r ≡ a + 1 + r = omega arith in
    member-cond_there (p c) (a + suc r) a (rows_where p (a + 1) cells) (omega arith) ∙ rw e (member-rows_from p (a + 1) r cells)

pub member-rows : (p : Cell → Bool) (r : ℕ) (cells : List Cell) → member r (rows_where p 0 cells) ≡ passes p r cells
member-rows p r cells = rw zero-add at (member-rows_from p 0 r cells)

passes-or : (p q : Cell → Bool) (r : ℕ) (cells : List Cell) → passes (λ c. p c || q c) r cells ≡ passes p r cells || passes q r cells
passes-or p q r [] = refl
passes-or p q zero (c ∷ cells) = refl
passes-or p q (suc r) (c ∷ cells) = passes-or p q r cells

passes_within : (p : Cell → Bool) (r : ℕ) (cells : List Cell) → passes p r cells ≡ true → r < length cells
passes_within p r [] e = absurd (let z : ◌≡◌ {A = ℕ} 0 1 = cc in omega arith)
passes_within p zero (c ∷ cells) e = omega arith
passes_within p (suc r) (c ∷ cells) e = omega (arith, passes_within p r cells e)

-- no cell passes both p and q
abbrev pub Apart : (Cell → Bool) → (Cell → Bool) → Type 0
Apart p q = (c : Cell) → q c ≡ true → p c ≡ false

passes_apart : (p q : Cell → Bool) (r : ℕ) (cells : List Cell) → Apart p q → passes q r cells ≡ true → passes p r cells ≡ false
passes_apart p q r [] h e = refl
passes_apart p q zero (c ∷ cells) h e = h c e
passes_apart p q (suc r) (c ∷ cells) h e = passes_apart p q r cells h e

-- ---- a field with them marked

-- the order in which rows are marked does not matter, and neither how often
pub mark_all-same : (z xs ys : List ℕ) → Bytes z → ((r : ℕ) → member r xs ≡ member r ys) → mark_all z xs ≡ mark_all z ys
mark_all-same z xs ys b h =
    let lx = length-mark_all z xs in
    let ly = length-mark_all z ys in
    field_ext (mark_all z xs) (mark_all z ys) (bytes-mark_all z xs b) (bytes-mark_all z ys b) (lx ∙ sym ly)
    (λ r l. bit-mark_all z xs r (omega arith) ∙ rw (h r) (sym (bit-mark_all z ys r (omega arith))))

pub rows_join : (z : List ℕ) (p q : Cell → Bool) (cells : List Cell) → Bytes z
    → mark_all (mark_all z (rows_where p 0 cells)) (rows_where q 0 cells) ≡ mark_all z (rows_where (λ c. p c || q c) 0 cells)
rows_join z p q cells b =
    sym (mark_all-append z (rows_where p 0 cells) (rows_where q 0 cells))
    ∙ mark_all-same z (rows_where p 0 cells ++ rows_where q 0 cells) (rows_where (λ c. p c || q c) 0 cells) b (λ r.
    member-append r (rows_where p 0 cells) (rows_where q 0 cells)
    ∙ rw (member-rows p r cells, member-rows q r cells) (sym (member-rows (λ c. p c || q c) r cells ∙ passes-or p q r cells)))

-- rows that pass none of the marked ones' tests are free
free_from : (f : List ℕ) (q : Cell → Bool) (a : ℕ) (cells : List Cell) → ((r : ℕ) → passes q r cells ≡ true → bit f (a + r) ≡ false) → any_set f (rows_where q a cells) ≡ false
unfolding any_set
free_from f q a [] h = refl
free_from f q a (c ∷ cells) h = go (q c) refl (free_from f q (a + 1) cells (λ r e. let s : a + 1 + r ≡ a + suc r = omega arith in rw s (h (suc r) e)))
  where
    go : (b : Bool) → q c ≡ b → any_set f (rows_where q (a + 1) cells) ≡ false
        → any_set f (cond b (a ∷ rows_where q (a + 1) cells) (rows_where q (a + 1) cells)) ≡ false
    go true e i = rw (rw add-zero at (h 0 e)) i
    go false e i = i

-- a field in which no row of the column is set
pub record Free (n : ℕ) (z : List ℕ) : Type 0 where
  pub bytes : Bytes z
  pub room : n ≤ 8 * length z
  pub free : (r : ℕ) → r < n → bit z r ≡ false

pub rows_free : (z : List ℕ) (p q : Cell → Bool) (cells : List Cell) → Free (length cells) z → Apart p q
    → any_set (mark_all z (rows_where p 0 cells)) (rows_where q 0 cells) ≡ false
rows_free z p q cells f h =
    free_from (mark_all z (rows_where p 0 cells)) q 0 cells (λ r e.
    let l = passes_within q r cells e in
    let room = f.room in
    rw zero-add (bit-mark_all z (rows_where p 0 cells) r (omega arith) ∙ rw (f.free r l, member-rows p r cells) (passes_apart p q r cells h e)))

-- ---- a field that is zero, at the front of a longer buffer

pub cleared_free : (n : ℕ) (field : List ℕ) → Bytes field → size n ≤ length field → Free n (cleared n field)
cleared_free n field b h =
    let l = length-zeroed (size n) field in
    record {
      bytes = bytes-zeroed (size n) field b;
      room = omega arith;
      free = λ r i. bit-zeroed (size n) field r (omega arith);
    }

module _ (p : Cell → Bool) (cells : List Cell) (field : List ℕ) (h : size (length cells) ≤ length field) where
  -- the rows, marked in a cleared buffer, are a field of just them, and what lies behind it stays
  pub rows_marked : mark_all (cleared (length cells) field) (rows_where p 0 cells) ≡ field_of (length cells) (rows_where p 0 cells) ++ drop (size (length cells)) field
  rows_marked = marked_field (length cells) field (rows_where p 0 cells) h (rows-below p cells)

  pub rows_counted : count (mark_all (cleared (length cells) field) (rows_where p 0 cells)) (length cells) ≡ length (rows_where p 0 cells)
  rows_counted = marked_count (length cells) field (rows_where p 0 cells) h (rows_rising p cells)
