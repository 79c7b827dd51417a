-- A name is a list of code points. Here are its two forms, from code points to bytes: standard UTF-8, in which a caller asks, and Java's modified
-- UTF-8, in which a file stores it (Java's DataInput page). Nothing here goes by how a name is read.
use Rattle.std.specs.Prelude.{ℕ, ◌+◌, ◌-◌, ◌/◌, ◌%◌, ◌<◌, ◌≤◌, ◌≡◌, cond, List, [], ◌∷◌, ◌++◌, ◌⊎◌, eqb, ltb, length}
use Rattle.numbers.specs.Meaning.{All}

-- ---- code points

-- D800, the least first half of a pair of surrogates, DC00, the least second half, and E000, the first code point behind the surrogates
abbrev pub first_high : ℕ
first_high = 55296

abbrev pub first_low : ℕ
first_low = 56320

abbrev pub past_surrogates : ℕ
past_surrogates = 57344

-- 10000: "a character above FFFF" is at or above it
abbrev pub past_plane : ℕ
past_plane = 65536

-- 110000: one past Unicode's last code point, 10FFFF
abbrev pub past_last : ℕ
past_last = 1114112

-- a code point that a name may have, in Unicode's words a scalar value: it is no surrogate and not above 10FFFF
abbrev pub Scalar : ℕ → Type 0
Scalar c = (c < first_high) ⊎ ((past_surrogates ≤ c) × (c < past_last))

-- ---- bytes: a lead byte, and behind it continuation bytes of six bits each, the highest bits first

-- below this, a code point fits one byte, and two, in UTF-8: 80 and 800
abbrev pub past_one_byte : ℕ
past_one_byte = 128

abbrev pub past_two_bytes : ℕ
past_two_bytes = 2048

-- 110xxxxx 10xxxxxx
abbrev pub in_two_bytes : ℕ → List ℕ
in_two_bytes c = (192 + c / 64) ∷ (128 + c % 64) ∷ []

-- 1110xxxx 10xxxxxx 10xxxxxx
abbrev pub in_three_bytes : ℕ → List ℕ
in_three_bytes c = (224 + c / 4096) ∷ (128 + c / 64 % 64) ∷ (128 + c % 64) ∷ []

-- 11110xxx 10xxxxxx 10xxxxxx 10xxxxxx
abbrev pub in_four_bytes : ℕ → List ℕ
in_four_bytes c = (240 + c / 262144) ∷ (128 + c / 4096 % 64) ∷ (128 + c / 64 % 64) ∷ (128 + c % 64) ∷ []

-- the bytes of each code point, one after another
abbrev pub in_turn : (ℕ → List ℕ) → List ℕ → List ℕ
in_turn form [] = []
in_turn form (c ∷ cs) = form c ++ in_turn form cs

-- ---- standard UTF-8 is Unicode's: of the four lengths the shortest that holds the code point

unfoldable pub standard_of : ℕ → List ℕ
standard_of c = cond (ltb c past_one_byte) (c ∷ []) (cond (ltb c past_two_bytes) (in_two_bytes c) (cond (ltb c past_plane) (in_three_bytes c) (in_four_bytes c)))

abbrev pub standard : List ℕ → List ℕ
standard cs = in_turn standard_of cs

-- ---- modified UTF-8 is Java's

-- the two surrogates, as in UTF-16, of a code point above FFFF: the upper ten bits of what it is above 10000, and the lower ten
abbrev pub high_of : ℕ → ℕ
high_of c = first_high + (c - past_plane) / 1024

abbrev pub low_of : ℕ → ℕ
low_of c = first_low + (c - past_plane) % 1024

-- "zero is C0 80, and a character above FFFF is two surrogates of three bytes each"; every other one is as in standard UTF-8
unfoldable pub modified_of : ℕ → List ℕ
modified_of c = cond (eqb c 0) (in_two_bytes c) (cond (ltb c past_plane) (standard_of c) (in_three_bytes (high_of c) ++ in_three_bytes (low_of c)))

abbrev pub modified : List ℕ → List ℕ
modified cs = in_turn modified_of cs

-- ---- names

-- the most bytes that a name may have in modified form
abbrev pub name_limit : ℕ
name_limit = 65535

-- a stored name is the one that is asked for: there are code points of which the asked name is the standard and the stored one the modified form
pub record Named (asked stored : List ℕ) : Type 0 where
  pub points : List ℕ
  pub scalars : All Scalar points
  pub asked_is : asked ≡ standard points
  pub stored_is : stored ≡ modified points

-- a name that may be asked for: it is standard UTF-8 and no longer than 65,535 bytes in modified form
pub record Askable (asked : List ℕ) : Type 0 where
  pub points : List ℕ
  pub scalars : All Scalar points
  pub asked_is : asked ≡ standard points
  pub fits : length (modified points) ≤ name_limit

-- a proper stored name: the modified form of such code points
pub record Proper (stored : List ℕ) : Type 0 where
  pub points : List ℕ
  pub scalars : All Scalar points
  pub stored_is : stored ≡ modified points

-- a code point of 1 to FFFF, and an asked name of such code points alone
abbrev pub PlainPoint : ℕ → Type 0
PlainPoint c = Scalar c × (1 ≤ c) × (c < past_plane)

pub record Plain (asked : List ℕ) : Type 0 where
  pub points : List ℕ
  pub plain : All PlainPoint points
  pub asked_is : asked ≡ standard points
