-- Lists and bytes: a property of each, lists one after another, bytes that are the same. Numbers of `w` bytes: what bytes spell, which bytes spell a number,
-- reading one off the front of some bytes, two's complement.
use Rattle.std.specs.Prelude.{ℕ, zero, suc, ◌+◌, ◌-◌, ◌*◌, ◌/◌, ◌%◌, ◌^◌, ◌<◌, Bool, true, false, ◌&&◌, cond, List, [], ◌∷◌, ◌++◌, eqb, leb, ltb, ℤ, pos, negsuc, length, drop, get_or}
use Rattle.numbers.specs.declared.Position.{Position}
use Rattle.numbers.specs.declared.Row.{Row}

-- each of the list has the property
abbrev pub All : {A : Type 0} → (A → Type 0) → List A → Type 0
All P [] = Unit {0}
All P (x ∷ l) = P x × All P l

-- lists one after another
abbrev pub joined : {A : Type 0} → List (List A) → List A
joined [] = []
joined (x ∷ xs) = x ++ joined xs

-- every number of s is a byte
abbrev pub Bytes : List ℕ → Type 0
Bytes s = (i : ℕ) → get_or s i 0 < 256

-- byte for byte the same
unfoldable pub same : List ℕ → List ℕ → Bool
same [] [] = true
same [] (y ∷ ys) = false
same (x ∷ xs) [] = false
same (x ∷ xs) (y ∷ ys) = eqb x y && same xs ys

-- the number of the w bytes of s from `at` on, the first of the greatest weight (big-endian)
abbrev pub be_at : ℕ → List ℕ → ℕ → ℕ
be_at zero s at = 0
be_at (suc w) s at = be_at w s at * 256 + get_or s (at + w) 0

-- the same, the first of the least weight (little-endian)
abbrev pub le_at : ℕ → List ℕ → ℕ → ℕ
le_at zero s at = 0
le_at (suc w) s at = le_at w s at + 256 ^ w * get_or s (at + w) 0

-- the w bytes that spell v below 256 ^ w, big-endian
abbrev pub be : ℕ → ℕ → List ℕ
be zero v = []
be (suc w) v = be w (v / 256) ++ (v % 256 ∷ [])

-- the same, little-endian
abbrev pub le : ℕ → ℕ → List ℕ
le zero v = []
le (suc w) v = v % 256 ∷ le w (v / 256)

-- the two byte orders, for what is said of both at once
pub data Order : Type 0 where
  big : Order
  little : Order

abbrev pub number_at : Order → ℕ → List ℕ → ℕ → ℕ
number_at big w s at = be_at w s at
number_at little w s at = le_at w s at

-- w bytes off the front of s: k is given their number and what is left; `short` where there are fewer
unfoldable pub number : {A : Type 0} → Order → ℕ → A → List ℕ → (ℕ → List ℕ → A) → A
number o w short s k = cond (leb w (length s)) (k (number_at o w s 0) (drop w s)) short

-- the signed number that w bytes hold which spell x, in two's complement
abbrev pub signed : ℕ → ℕ → ℤ
signed w x = cond (ltb x (256 ^ w / 2)) (pos x) (negsuc (256 ^ w - 1 - x))

abbrev pub signed32 : ℕ → ℤ
signed32 x = signed 4 x

-- the least number of 32 bits whose top bit is set: from there on, read as signed, numbers are negative
abbrev pub sign_bit : ℕ
sign_bit = 2147483648

-- -1 as 32 bits
abbrev pub minus_one_32 : ℕ
minus_one_32 = 4294967295

-- what the bytes of a field may spell: numbers below
abbrev pub two_bytes : ℕ
two_bytes = 65536

abbrev pub four_bytes : ℕ
four_bytes = 4294967296

-- a byte position and a row number, as the code's kinds of their own
abbrev pub position : ℕ → Position
position p = record { 0 = p }

abbrev pub row : ℕ → Row
row r = record { 0 = r }
