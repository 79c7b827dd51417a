-- Lines of a file of cases: where one ends, its words, and the numbers that they are.
use Rattle.std.specs.Prelude.{ℕ, zero, suc, ◌+◌, ◌*◌, ◌%◌, ◌^◌, cond, nat_lt, if◌then◌else◌, List, [], ◌∷◌, ◌++◌, ◌==◌, take, slice_index}
use Rattle.std.specs.Int.{w16, to_le_bytes}

-- what stands before the first `stop`
unfoldable pub until : ℕ → List ℕ → List ℕ
until stop [] = []
until stop (b ∷ s) = cond (b == stop) [] (b ∷ until stop s)

-- what stands behind the first `stop`
unfoldable pub beyond : ℕ → List ℕ → List ℕ
beyond stop [] = []
beyond stop (b ∷ s) = cond (b == stop) s (beyond stop s)

-- a line from its word k on, the first being word 0: spaces part words
unfoldable pub line_from_word : ℕ → List ℕ → List ℕ
line_from_word zero line = line
line_from_word (suc k) line = line_from_word k (beyond 32 line)

unfoldable pub word_of : ℕ → List ℕ → List ℕ
word_of k line = until 32 (line_from_word k line)

-- ten times a number below this fits 64 bits
abbrev pub tenth : ℕ
tenth = 1844674407370955162

-- the number that decimal digits say behind those of n. One that 64 bits don't hold is some other
unfoldable pub decimal_from : ℕ → List ℕ → ℕ
decimal_from n [] = n
decimal_from n (b ∷ s) = decimal_from ((n % tenth * 10 + b % 16) % 2 ^ 64) s

-- the number that word k of a line is
unfoldable pub word_number : ℕ → List ℕ → ℕ
word_number k line = decimal_from 0 (word_of k line)

-- a text's first line with b in front
unfoldable pub begun : ℕ → List (List ℕ) → List (List ℕ)
begun b [] = (b ∷ []) ∷ []
begun b (line ∷ lines) = (b ∷ line) ∷ lines

-- the lines of a text, each without its end. Where it ends with the end of a line, no empty line follows
unfoldable pub lines_of : List ℕ → List (List ℕ)
lines_of [] = []
lines_of (b ∷ s) = cond (b == 10) ([] ∷ lines_of s) (begun b (lines_of s))

-- what a hexadecimal digit says
abbrev pub digit_of : ℕ → ℕ
digit_of b = if nat_lt b 65 then b % 16 else (b % 16 + 9) % 16

-- the bytes that hexadecimal digits say: each is two digits, and parted from the next by one byte
unfoldable pub hex_bytes : List ℕ → List ℕ
hex_bytes [] = []
hex_bytes (a ∷ []) = []
hex_bytes (a ∷ b ∷ []) = (digit_of a * 16 + digit_of b) ∷ []
hex_bytes (a ∷ b ∷ c ∷ s) = (digit_of a * 16 + digit_of b) ∷ hex_bytes s

-- so many numbers of two bytes, little-endian, from n on, each `step` more than the one before
unfoldable pub rising : ℕ → ℕ → ℕ → List ℕ
rising zero n step = []
rising (suc count) n step = to_le_bytes w16 n ++ rising count ((n + step) % 65536) step

-- the numbers that a line says by FIRST COUNT STEP
unfoldable pub words_of : List ℕ → List ℕ
words_of line = rising (word_number 2 line) (word_number 1 line % 65536) (word_number 3 line % 65536)

-- what a line makes of bytes that are laid out: # drops them, `bytes` and `words` append, as much as there is room for
abbrev pub laid_out : ℕ → List ℕ → List ℕ → List ℕ
laid_out room line bytes =
    if slice_index line 0 == 35 then []
    else if slice_index line 0 == 98 then take room (bytes ++ hex_bytes (line_from_word 1 line))
    else if slice_index line 0 == 119 then take room (bytes ++ words_of line)
    else bytes

-- what it makes of bytes that are given: # drops them, `given` puts others in their place, `values` appends
abbrev pub given : ℕ → List ℕ → List ℕ → List ℕ
given room line bytes =
    if slice_index line 0 == 35 then []
    else if slice_index line 0 == 103 then take room (hex_bytes (line_from_word 1 line))
    else if slice_index line 0 == 118 then take room (bytes ++ words_of line)
    else bytes
