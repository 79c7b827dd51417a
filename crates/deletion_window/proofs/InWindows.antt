-- Rows seen through a window: which of them are set in its field, how many they are, and two windows side by side.
use Prim.Native.Nat.{ℕ, zero, suc, ◌+◌, ◌-◌, ◌/◌, ◌<◌, ◌≤◌}
use mathlib.Core.Path.{◌≡◌, refl, sym, ◌∙◌}
use mathlib.Core.Logic.{◌↔◌}
use mathlib.Core.Bool.{Bool, true, false, ◌||◌, or-true}
use mathlib.Core.List.{List, [], ◌∷◌, ◌++◌}
use native.Mathlib.Nat.{zero-add, add-zero}
use native.Mathlib.Decide.{dec_lt, ℕ_discrete}
use native.Mathlib.Omega.{arith}
use lib.Dec.{eqb}
use lib.ListN.{length, drop, replicate, length-replicate}
use borrow.Author.Tests.{eq-eqb, ne_eqb}
use Rattle.row_field.specs.Meaning.{size, bit, mark_all, field_of, cleared, Rising, Below, count}
use Rattle.row_field.proofs.Laws.{bit-zeros, bit_out}
use Rattle.row_field.proofs.RowLists.{rising_more}
use Rattle.row_field.proofs.Marks.{member, member-append, member-past, bit-mark_all}
use Rattle.row_field.proofs.Counts.{tally, tally-add, rows-tally, length-zeroed, bit-zeroed}
use Rattle.row_field.proofs.Fronts.{length-field, marked_field, marked_count}
use Rattle.window.specs.Meaning.{windowed, row_window, rows_in_window}
use Rattle.window.proofs.Windows.{on_windowed, windowed_rising, windowed-below}
use Rattle.deletion_window.specs.Claims.{Among, among}

-- ---- one of the rows

among-member : {r : ℕ} {rows : List ℕ} → Among r rows → member r rows ≡ true
unfolding member
among-member {r} (among before behind) = member-append r before (r ∷ behind) ∙ rw (eq-eqb r r refl) (or-true (member r before))

among_next : {r : ℕ} {rows : List ℕ} (q : ℕ) → Among r rows → Among r (q ∷ rows)
among_next q (among before behind) = among (q ∷ before) behind

member-among_go : (r q : ℕ) (rows : List ℕ) → eqb r q || member r rows ≡ true → (member r rows ≡ true → Among r rows) → Dec (r ≡ q) → Among r (q ∷ rows)
member-among_go r q rows e f (yes h) = rw h (among [] rows)
member-among_go r q rows e f (no h) = among_next q (f (rw (ne_eqb r q h) at e))

member-among : (r : ℕ) (rows : List ℕ) → member r rows ≡ true → Among r rows
unfolding member
member-among r [] e = absurd (let z : ◌≡◌ {A = ℕ} 0 1 = cc in omega arith)
member-among r (q ∷ rows) e = member-among_go r q rows e (member-among r rows) (ℕ_discrete r q)

-- ---- row r of the window is row first + r

module _ (first n r : ℕ) (h : r < n) where
  same_row : (v : ℕ) → first ≤ v → Dec (first + r ≡ v) → eqb r (v - first + 0) ≡ eqb (first + r) v
  same_row v l (yes e) = rw (eq-eqb (first + r) v e) (eq-eqb r (v - first + 0) (omega arith))
  same_row v l (no e) = rw (ne_eqb (first + r) v e) (ne_eqb r (v - first + 0) (λ x. e (omega arith)))

  member_in : (rows : List ℕ) → member r (rows_in_window first n rows) ≡ member (first + r) rows
  unfolding member windowed
  member_in [] = refl
  member_in (v ∷ vs) =
      let i = member_in vs in
      on_windowed (row_window first n) v vs (λ rs. member r rs ≡ member (first + r) (v ∷ vs))
      (λ l. rw (ne_eqb (first + r) v (omega arith)) i)
      (λ l m. rw (same_row v l (ℕ_discrete (first + r) v), i))
      (λ l. rw (ne_eqb (first + r) v (omega arith)) i)

  -- marked in a field that has not row r yet
  bit_in : (f rows : List ℕ) → size n ≤ length f → bit f r ≡ false → bit (mark_all f (rows_in_window first n rows)) r ≡ member (first + r) rows
  bit_in f rows l e = bit-mark_all f (rows_in_window first n rows) r (omega arith) ∙ rw e (member_in rows)

  bit-field : (rows : List ℕ) → bit (field_of n (rows_in_window first n rows)) r ≡ member (first + r) rows
  bit-field rows = bit_in (replicate (size n) 0) rows (rw length-replicate (omega arith)) (bit-zeros (size n) r)

  pub bit-cleared : (buffer : List ℕ) → bit (cleared n buffer) r ≡ false
  bit-cleared buffer = bit-zeroed (size n) buffer r (omega arith)

  pub bit_marked : (buffer rows : List ℕ) → size n ≤ length buffer → bit (mark_all (cleared n buffer) (rows_in_window first n rows)) r ≡ member (first + r) rows
  bit_marked buffer rows l = bit_in (cleared n buffer) rows (rw length-zeroed l) (bit-cleared buffer)

-- ---- no row is set past the window's length

in_below : (first n : ℕ) (rows : List ℕ) → Below n (rows_in_window first n rows)
in_below first n rows =
    let e : 0 + (first + n - first) ≡ n = omega arith in
    rw e at (windowed-below (row_window first n) rows)

spare_go : (first n r : ℕ) (rows : List ℕ) → n ≤ r → Dec (r / 8 < size n) → bit (field_of n (rows_in_window first n rows)) r ≡ false
spare_go first n r rows h (yes l) =
    bit-mark_all (replicate (size n) 0) (rows_in_window first n rows) r (rw length-replicate l)
    ∙ rw (bit-zeros (size n) r) (member-past r n (rows_in_window first n rows) h (in_below first n rows))
spare_go first n r rows h (no l) = bit_out (field_of n (rows_in_window first n rows)) r (rw (length-field n (rows_in_window first n rows)) (omega arith))

means_go : (first n r : ℕ) (rows : List ℕ) → Dec (r < n) → (bit (field_of n (rows_in_window first n rows)) r ≡ true) ↔ ((r < n) × Among (first + r) rows)
means_go first n r rows (yes h) =
    (λ e. (h, member-among (first + r) rows (sym (bit-field first n r h rows) ∙ e)), λ w. bit-field first n r h rows ∙ among-member w.1)
means_go first n r rows (no h) =
    let f = spare_go first n r rows (omega arith) (dec_lt (r / 8) (size n)) in
    (λ e. absurd (let z : ◌≡◌ {A = ℕ} 0 1 = cc in omega arith), λ w. absurd (h w.0))

pub field_means : (first n r : ℕ) (rows : List ℕ) → (bit (field_of n (rows_in_window first n rows)) r ≡ true) ↔ ((r < n) × Among (first + r) rows)
field_means first n r rows = means_go first n r rows (dec_lt r n)

-- ---- the rows of a window, marked in the cleared field

module _ (first n : ℕ) (buffer rows : List ℕ) (room : size n ≤ length buffer) where
  pub field_in : mark_all (cleared n buffer) (rows_in_window first n rows) ≡ field_of n (rows_in_window first n rows) ++ drop (size n) buffer
  field_in = marked_field n buffer (rows_in_window first n rows) room (in_below first n rows)

  pub count_in : (hi : ℕ) → Rising 0 hi rows → count (mark_all (cleared n buffer) (rows_in_window first n rows)) n ≡ length (rows_in_window first n rows)
  count_in hi s =
      marked_count n buffer (rows_in_window first n rows) room
      (rising_more (0 - first + 0) (0 + (first + n - first)) 0 n (rows_in_window first n rows) (omega arith) (omega arith) (windowed_rising (row_window first n) 0 hi rows s))

-- ---- two windows side by side

tally-moved : (p q : ℕ → Bool) (d a k : ℕ) → ((r : ℕ) → a ≤ r → r < a + k → p (d + r) ≡ q r) → tally p (d + a) k ≡ tally q a k
unfolding tally
tally-moved p q d a zero h = refl
tally-moved p q d a (suc k) h =
    let e : d + a + 1 ≡ d + (a + 1) = omega arith in
    rw (h a (omega arith) (omega arith), e, tally-moved p q d (a + 1) k (λ r l m. h r (omega arith) (omega arith)))

-- a field of n + m rows that has the rows of two, one behind the other, counts as many as both
pub counts_add : (f g h : List ℕ) (n m : ℕ) → ((r : ℕ) → r < n → bit f r ≡ bit g r) → ((r : ℕ) → r < m → bit f (n + r) ≡ bit h r)
    → count f (n + m) ≡ count g n + count h m
counts_add f g h n m l r =
    let x : tally (bit f) 0 n ≡ tally (bit g) 0 n = tally-moved (bit f) (bit g) 0 0 n (λ k i j. rw zero-add (l k (omega arith))) in
    let y : tally (bit f) (n + 0) m ≡ tally (bit h) 0 m = tally-moved (bit f) (bit h) n 0 m (λ k i j. r k (omega arith)) in
    let z : tally (bit f) (0 + n) m ≡ tally (bit f) (n + 0) m = rw (zero-add n, add-zero n) in
    omega (arith, tally-add (bit f) 0 n m, rows-tally f 0 (n + m), rows-tally g 0 n, rows-tally h 0 m)
