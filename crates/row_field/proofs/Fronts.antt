-- A row field at the front of a longer buffer: rows of the field are asked about, marked and counted there alone, and what lies behind it stays.
use Prim.Native.Nat.{ℕ, zero, suc, ◌+◌, ◌*◌, ◌/◌, ◌<◌, ◌≤◌, min}
use mathlib.Core.Path.{◌≡◌, refl, ap, ◌∙◌}
use mathlib.Core.Logic.{inl}
use mathlib.Core.List.{List, [], ◌∷◌, ◌++◌}
use native.Mathlib.Nat.{sub-zero}
use native.Mathlib.Omega.{arith}
use lib.ListN.{length, take, drop, set, replicate, length-replicate, get_or-append}
use lib.Seq.{drop-set-lt}
use Rattle.row_field.specs.Meaning.{size, bit, mark, mark_all, any_set, field_of, zeroed, cleared, Rising, Below, rows_from, count}
use Rattle.row_field.proofs.RowLists.{below_more, rising_below, above_zero}
use Rattle.row_field.proofs.Marks.{length-mark_all, mark_all-part, part_marked, part-set}
use Rattle.row_field.proofs.Counts.{count-field, zeroed-front}

-- ---- a field and what lies behind it

pub bit-front : (f t : List ℕ) (r : ℕ) → r / 8 < length f → bit (f ++ t) r ≡ bit f r
unfolding bit
bit-front f t r h = rw (get_or-append f t 0 (r / 8) h)

pub rows-front : (f t : List ℕ) (a k : ℕ) → a + k ≤ length f * 8 → rows_from (f ++ t) a k ≡ rows_from f a k
unfolding rows_from
rows-front f t a zero h = refl
rows-front f t a (suc k) h = rw (bit-front f t a (omega arith), rows-front f t (a + 1) k (omega arith))

pub mark_all-front : (f t rs : List ℕ) → Below (length f * 8) rs → mark_all (f ++ t) rs ≡ mark_all f rs ++ t
mark_all-front f t rs b = rw (above_zero rs) at (mark_all-part (length f) [] f t rs b (inl refl))

-- rows below n touch only the field for n rows
pub behind_stays : (n : ℕ) (f rs : List ℕ) → Below n rs → drop (size n) (mark_all f rs) ≡ drop (size n) f
unfolding mark_all mark
behind_stays n f [] b = refl
behind_stays n f (r ∷ rs) b = behind_stays n (mark f r) rs b.1 ∙ drop-set-lt (size n) f (r / 8) _ (omega arith)

-- rows below n, in the field for n rows as far as the buffer goes
module _ (n : ℕ) (f rs : List ℕ) (end : ℕ) (b : Below n rs) (q : end ≡ min (size n) (length f)) where
  in_field : Below (size n * 8) rs
  in_field = below_more n (size n * 8) rs (omega arith) b

  pub front_marked : mark_all f rs ≡ mark_all (take end f) rs ++ drop end f
  front_marked = rw (above_zero rs, sub-zero end) at (part_marked f rs 0 (size n) 0 end in_field (omega arith) (omega arith))

  pub front-set : any_set f rs ≡ any_set (take end f) rs
  front-set = rw (above_zero rs, sub-zero end) at (part-set f rs 0 (size n) 0 end in_field (omega arith) (omega arith))

-- ---- rows marked in a cleared field

pub length-field : (n : ℕ) (rs : List ℕ) → length (field_of n rs) ≡ size n
length-field n rs = length-mark_all (replicate (size n) 0) rs ∙ length-replicate (size n) 0

-- the field of exactly these rows, and what lay behind it
pub marked_field : (n : ℕ) (field rs : List ℕ) → size n ≤ length field → Below n rs → mark_all (cleared n field) rs ≡ field_of n rs ++ drop (size n) field
marked_field n field rs h b =
    rw (zeroed-front (size n) field h) (mark_all-front (replicate (size n) 0) (drop (size n) field) rs (rw length-replicate (below_more n (size n * 8) rs (omega arith) b)))

pub marked_count : (n : ℕ) (field rs : List ℕ) → size n ≤ length field → Rising 0 n rs → count (mark_all (cleared n field) rs) n ≡ length rs
marked_count n field rs h s =
    let l = length-field n rs in
    rw (marked_field n field rs h (rising_below 0 n rs s))
    (ap length (rows-front (field_of n rs) (drop (size n) field) 0 n (omega arith)) ∙ count-field n rs s)

-- ---- rows below n, marked in a field that is cleared afterwards

zeroed-set : (k : ℕ) (f : List ℕ) (i v : ℕ) → i < k → zeroed k (set f i v) ≡ zeroed k f
unfolding zeroed
zeroed-set zero f i v h = absurd (omega arith)
zeroed-set (suc k) [] i v h = refl
zeroed-set (suc k) (x ∷ f) zero v h = refl
zeroed-set (suc k) (x ∷ f) (suc i) v h = ap (λ (t : List ℕ). 0 ∷ t) (zeroed-set k f i v (omega arith))

pub cleared-mark : (n : ℕ) (f : List ℕ) (r : ℕ) → r < n → cleared n (mark f r) ≡ cleared n f
unfolding mark
cleared-mark n f r h = zeroed-set (size n) f (r / 8) _ (omega arith)

pub cleared_marks : (n : ℕ) (f rs : List ℕ) → Below n rs → cleared n (mark_all f rs) ≡ cleared n f
unfolding mark_all
cleared_marks n f [] b = refl
cleared_marks n f (r ∷ rs) b = cleared_marks n (mark f r) rs b.1 ∙ cleared-mark n f r b.0
