-- Where the entries of a version 2 directory stand in a body ("where its directory entry starts in the body"), by the layout of dictionary. Nothing
-- here is read.
use Rattle.std.specs.Prelude.{ℕ, ◌+◌, List, [], ◌∷◌, ◌++◌, length}
use Rattle.numbers.specs.Meaning.{be, joined}
use Rattle.dictionary.specs.Layout.{Entry, value_bytes, has_null_byte, first, null2, block}

-- the bytes of a body before its directory
abbrev pub before_directory : ℕ → List Entry → List (List Entry) → List ℕ
before_directory n nulls bs = 2 ∷ (be 4 n ++ (be 4 (length (joined bs)) ++ (has_null_byte nulls ∷ (null2 nulls ++ be 4 (length bs)))))

-- the directory's entry for a block that begins at `at`: its first value, for a string with its length in front, and its offset
abbrev pub directory_entry : ℕ → List Entry → List ℕ
directory_entry at b = value_bytes (first b) ++ be 4 at

-- where each block's entry starts, the first at `start`; `at` is the first block's offset
abbrev pub starts_from : ℕ → ℕ → List (List Entry) → List ℕ
starts_from start at [] = []
starts_from start at (b ∷ bs) = start ∷ starts_from (start + length (directory_entry at b)) (at + length (block b)) bs

-- "a lent table .. of 32-bit positions, one per block". A position counts from the body's first byte
abbrev pub entry_starts : ℕ → List Entry → List (List Entry) → List ℕ
entry_starts n nulls bs = starts_from (length (before_directory n nulls bs)) 0 bs
