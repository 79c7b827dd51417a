-- What a row field means: a list of bytes, in which row r is the bit of weight 2 ^ (r % 8) in the byte r / 8.
use Rattle.std.specs.Prelude.{ℕ, zero, suc, ◌+◌, ◌*◌, ◌/◌, ◌%◌, ◌^◌, ◌<◌, ◌≤◌, Bool, false, ◌||◌, cond, List, [], ◌∷◌, eqb, length, get_or, set, replicate}
use Rattle.std.specs.Int.Bits.{bit_or}
use Rattle.numbers.specs.Meaning.{All}

-- the bytes of a field for n rows: ceil(n / 8)
abbrev pub size : ℕ → ℕ
size n = (n + 7) / 8

-- the weight of each bit of a byte
abbrev pub weights : List ℕ
weights = 1 ∷ 2 ∷ 4 ∷ 8 ∷ 16 ∷ 32 ∷ 64 ∷ 128 ∷ []

-- whether row r is set; a row past the end is not
unfoldable pub bit : List ℕ → ℕ → Bool
bit f r = eqb (get_or f (r / 8) 0 / 2 ^ (r % 8) % 2) 1

-- f with row r set; a row past the end changes nothing
unfoldable pub mark : List ℕ → ℕ → List ℕ
mark f r = set f (r / 8) (bit_or (get_or f (r / 8) 0) (2 ^ (r % 8)))

-- f with each row of rs set
unfoldable pub mark_all : List ℕ → List ℕ → List ℕ
mark_all f [] = f
mark_all f (r ∷ rs) = mark_all (mark f r) rs

-- whether f has one of the rows rs set
unfoldable pub any_set : List ℕ → List ℕ → Bool
any_set f [] = false
any_set f (r ∷ rs) = bit f r || any_set f rs

-- for rows rs below n: the field for n rows in which exactly they are set; spare bits are 0
abbrev pub field_of : ℕ → List ℕ → List ℕ
field_of n rs = mark_all (replicate (size n) 0) rs

-- f with its first k bytes zero, as far as it goes
unfoldable pub zeroed : ℕ → List ℕ → List ℕ
zeroed zero f = f
zeroed (suc k) [] = []
zeroed (suc k) (x ∷ f) = 0 ∷ zeroed k f

-- f with the field for n rows at its front zero; what lies behind stays
abbrev pub cleared : ℕ → List ℕ → List ℕ
cleared n f = zeroed (size n) f

-- the k rows from a on
unfoldable pub up_to : ℕ → ℕ → List ℕ
up_to a zero = []
up_to a (suc k) = a ∷ up_to (a + 1) k

-- the rows that vs counts from `base` on
abbrev pub above : ℕ → List ℕ → List ℕ
above base [] = []
above base (v ∷ vs) = (base + v) ∷ above base vs

-- rows that rise strictly, each at least lo and below hi
abbrev pub Rising : ℕ → ℕ → List ℕ → Type 0
Rising lo hi [] = Unit {0}
Rising lo hi (r ∷ rs) = (lo ≤ r) × (r < hi) × Rising (r + 1) hi rs

-- rows below n, in any order
abbrev pub Below : ℕ → List ℕ → Type 0
Below n rs = All (λ r. r < n) rs

-- those of the k rows from a on that are set in f
unfoldable pub rows_from : List ℕ → ℕ → ℕ → List ℕ
rows_from f a zero = []
rows_from f a (suc k) = cond (bit f a) (a ∷ rows_from f (a + 1) k) (rows_from f (a + 1) k)

-- all rows set in f
abbrev pub rows_of : List ℕ → List ℕ
rows_of f = rows_from f 0 (length f * 8)

-- how many rows below n are set in f
abbrev pub count : List ℕ → ℕ → ℕ
count f n = length (rows_from f 0 n)

-- the first of the k rows from a on that is not set in f, and the row behind them where all are set
unfoldable pub first_clear_row : List ℕ → ℕ → ℕ → ℕ
first_clear_row f a zero = a
first_clear_row f a (suc k) = cond (bit f a) (first_clear_row f (a + 1) k) a
