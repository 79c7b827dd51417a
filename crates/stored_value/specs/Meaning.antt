-- The twelve types of a column and their values in stored form, their order, what a row holds, and literals.
use Rattle.std.specs.Prelude.{◌≡◌, ℕ, ◌≤◌, ◌<◌, Bool, true, false, ◌&&◌, ◌||◌, cond, List, [], ◌∷◌, ◌++◌, eqb, ltb, leb, ℤ, length, get_or, drop}
use Rattle.std.specs.Int.Signed.{lt_z}
use Rattle.numbers.specs.Meaning.{All, same, be, be_at, signed, Bytes}

-- ---- types and values

-- the widths of the types, in their order from 0: TINYINT, BOOLEAN, SMALLINT, INT, DATE, TIME, BIGINT, TIMESTAMP, LOCAL ZONED TIMESTAMP, CHAR, VARCHAR, STRING.
-- 0 stands for a string: a 4-byte length and the bytes
abbrev pub widths : List ℕ
widths = 1 ∷ 1 ∷ 2 ∷ 4 ∷ 4 ∷ 4 ∷ 8 ∷ 8 ∷ 8 ∷ 0 ∷ 0 ∷ 0 ∷ []

-- from here on a type is unknown; it has no values
abbrev pub types : ℕ
types = 12

unfoldable pub width : ℕ → ℕ
width t = get_or widths t 0

unfoldable pub is_string : ℕ → Bool
is_string t = eqb (width t) 0

-- BOOLEAN is type 1, and its byte 0 or 1
unfoldable pub boolean_ok : ℕ → List ℕ → Bool
boolean_ok t v = cond (eqb t 1) (leb (get_or v 0 0) 1) true

-- the longest stored string, in bytes
abbrev pub longest_string : ℕ
longest_string = 65535

-- a value in the stored form of its type
pub data Value (t : ℕ) : List ℕ → Type 0 where
  number : (v : List ℕ) → is_string t ≡ false → length v ≡ width t → Bytes v → boolean_ok t v ≡ true → Value t v
  string : (c : List ℕ) → t < types → is_string t ≡ true → length c ≤ longest_string → Bytes c → Value t (be 4 (length c) ++ c)

-- ---- the order of values: numbers compare signed, strings by unsigned bytes, a prefix first

-- the number that the first w bytes hold
unfoldable pub signed_number : ℕ → List ℕ → ℤ
signed_number w v = signed w (be_at w v 0)

unfoldable pub is_less_bytewise : List ℕ → List ℕ → Bool
is_less_bytewise [] [] = false
is_less_bytewise [] (y ∷ ys) = true
is_less_bytewise (x ∷ xs) [] = false
is_less_bytewise (x ∷ xs) (y ∷ ys) = ltb x y || (eqb x y && is_less_bytewise xs ys)

-- a string's bytes stand behind its length of four. Of an unknown type nothing is less
unfoldable pub less : ℕ → List ℕ → List ℕ → Bool
less t v w = ltb t types && cond (is_string t) (is_less_bytewise (drop 4 v) (drop 4 w)) (lt_z (signed_number (width t) v) (signed_number (width t) w))

-- ---- what a row holds, and literals

-- what a row holds: null, or one value in its stored form
pub data Cell : Type 0 where
  null : Cell
  value : List ℕ → Cell

unfoldable pub same_cell : Cell → Cell → Bool
same_cell null null = true
same_cell null (value w) = false
same_cell (value v) null = false
same_cell (value v) (value w) = same v w

-- a value is listed if a literal has its bytes
unfoldable pub listed : List ℕ → List (List ℕ) → Bool
listed v [] = false
listed v (l ∷ ls) = same v l || listed v ls

-- so many literals a question may have
abbrev pub most_literals : ℕ
most_literals = 1024

-- literals of type t, each in its stored form; the bytes of all are `joined`, one after another
abbrev pub Literals : ℕ → List (List ℕ) → Type 0
Literals t ls = All (Value t) ls
