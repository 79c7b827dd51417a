-- What Locate finds in one buffer, for any bytes. A cursor `s` is what is left of the head's bytes, so that a field that passes the head
-- finds too few; for magic, version and head length it is what is left of the file. `k` is what follows of what was read.
use Rattle.std.specs.Prelude.{ℕ, zero, suc, ◌+◌, Bool, true, false, ◌&&◌, ◌||◌, List, length, take, drop, leb, ltb, eqb, Result, Err, Ok, Option, Some, None}
use Rattle.numbers.specs.Meaning.{number, big, sign_bit, position}
use Rattle.numbers.specs.declared.Position.{Position}
use Rattle.refusal.specs.Meaning.{limit}
use Rattle.refusal.specs.declared.Refusal.{Refusal}
use Rattle.refusal.specs.declared.Refusal.TheVariants.{Short, Magic, Version, Head, Literal, Limit}
use Rattle.refusal.specs.Reading.{check, numbers_of}
use Rattle.names.specs.Reading.{askable, matches}
use Rattle.index_file.specs.declared.Part.{Part}
use Rattle.index_file.specs.declared.Seen.{Seen}
use Rattle.index_file.specs.declared.Seen.TheVariants.{Nowhere, Once, Twice}
use Rattle.index_file.specs.Layout.{magic, file_version, front_size, least_head}

-- ---- fields

-- four bytes; "a negative number" is HEAD: head length, column number, index number, redundant length
unfoldable pub count : {A : Type 0} → List ℕ → (ℕ → List ℕ → Result A Refusal) → Result A Refusal
count s k = number big 4 (Err Head) s (λ v s. check (ltb v sign_bit) Head (k v s))

-- "A name is 2 bytes of unsigned length and its bytes"
unfoldable pub name : {A : Type 0} → List ℕ → (List ℕ → List ℕ → Result A Refusal) → Result A Refusal
name s k = number big 2 (Err Head) s (λ n s. check (leb n (length s)) Head (k (take n s) (drop n s)))

-- ---- the columns

-- where the asked kind stands, after one more entry of the column, whose name is the asked one or not: "the asked kind twice in it"
unfoldable pub place_after_entry : Bool → Part → Seen → Seen
place_after_entry false part place = place
place_after_entry true part Nowhere = Once part
place_after_entry true part (Once part') = Twice
place_after_entry true part Twice = Twice

-- from a position of the buffer on, so many bytes
abbrev pub part_at : Position → ℕ → Part
part_at start size = record { start = start; length = size }

-- m entries of one column: name, start, length. `isKind` says of a stored name whether it is the asked kind
unfoldable pub entries : {A : Type 0} → (List ℕ → Bool) → ℕ → Seen → List ℕ → (Seen → List ℕ → Result A Refusal) → Result A Refusal
entries isKind zero place s k = k place s
entries isKind (suc m) place s k =
    name s (λ stored s. number big 4 (Err Head) s (λ start s. number big 4 (Err Head) s (λ size s.
    entries isKind m (place_after_entry (isKind stored) (part_at (position start) size) place) s k)))

-- where the asked kind stands, after one more column, whose name is the asked one or not, and which lists the asked kind at `new`; `seen`: whether one before it had the name.
-- "the asked column name twice" is a repetition, whatever the two list
unfoldable pub place_after_column : Bool → Bool → Seen → Seen → Seen
place_after_column false seen new place = place
place_after_column true false new place = new
place_after_column true true new place = Twice

-- n columns: name, index number, entries. `isColumn` says of a stored name whether it is the asked column
unfoldable pub columns : {A : Type 0} → (List ℕ → Bool) → (List ℕ → Bool) → ℕ → Bool → Seen → List ℕ → (Seen → List ℕ → Result A Refusal) → Result A Refusal
columns isColumn isKind zero seen place s k = k place s
columns isColumn isKind (suc n) seen place s k =
    name s (λ stored s. count s (λ m s. entries isKind m Nowhere s (λ new s.
    columns isColumn isKind n (seen || isColumn stored) (place_after_column (isColumn stored) seen new place) s k)))

-- ---- the file

-- what is answered of the place in a head and a file so long: "the asked start below the head length, a negative length, or an end past the file".
-- A start with its top bit set is negative, and so below.
unfoldable pub placed : ℕ → ℕ → Seen → Result (Option Part) Refusal
placed head_length fileLength Nowhere = Ok None
placed head_length fileLength (Once part) =
    check (ltb part.start.0 sign_bit) Head (check (leb head_length part.start.0) Head
    (check (ltb part.length sign_bit) Head (check (leb (part.start.0 + part.length) fileLength) Head (Ok (Some part)))))
placed head_length fileLength Twice = Err Head

-- the head from the column number on: "redundant bytes not ending exactly at the head length" is HEAD
unfoldable pub head : (List ℕ → Bool) → (List ℕ → Bool) → ℕ → ℕ → List ℕ → Result (Option Part) Refusal
head isColumn isKind head_length fileLength s =
    count s (λ n s. columns isColumn isKind n false Nowhere s (λ place s. count s (λ redundant s.
    check (eqb redundant (length s)) Head (placed head_length fileLength place))))

-- "fewer than 16 bytes is SHORT; MAGIC; VERSION; then HEAD for: a head length below 24 or past the file; a field passing the head; a negative number"
unfoldable pub file : (List ℕ → Bool) → (List ℕ → Bool) → List ℕ → Result (Option Part) Refusal
file isColumn isKind bytes =
    check (leb front_size (length bytes)) Short (number big 8 (Err Short) bytes (λ stored s.
    check (eqb stored magic) Magic (number big 4 (Err Short) s (λ version s.
    check (eqb version file_version) Version (count s (λ head_length s.
    check (leb least_head head_length) Head (check (leb head_length (length bytes)) Head
    (head isColumn isKind head_length (length bytes) (drop front_size (take head_length bytes))))))))))

-- "An input buffer (asked names too, row fields not) that is too long is LIMIT before anything else"
unfoldable pub within_limits : List ℕ → List ℕ → List ℕ → Result (Option Part) Refusal → Result (Option Part) Refusal
within_limits bytes column kind o =
    check (leb (length bytes) limit) Limit (check (leb (length column) limit) Limit (check (leb (length kind) limit) Limit o))

-- An asked name that "isn't standard UTF-8, or is over 65,535 modified bytes, is LITERAL, before any file check but the length limit". A stored name
-- is the asked one where `matches` says so
unfoldable pub find : List ℕ → List ℕ → List ℕ → Result (Option Part) Refusal
find bytes column kind =
    within_limits bytes column kind (check (askable column && askable kind) Literal (file (matches column) (matches kind) bytes))

-- the bytes of a part
abbrev pub bytes_of : Part → List ℕ → List ℕ
bytes_of p bytes = take p.length (drop p.start.0 bytes)

-- ---- the answer, and its numbers

-- the refusals have numbers of their own; the other two answers' are chosen here
abbrev pub found_number : ℕ
found_number = 0

abbrev pub absent_number : ℕ
absent_number = 255

-- the number, and start and length of the body in the buffer, 0 with the other answers
unfoldable pub sought_numbers : Option Part → ℕ × (ℕ × ℕ)
sought_numbers (Some p) = (found_number, (p.start.0, p.length))
sought_numbers None = (absent_number, (0, 0))

abbrev pub locate_numbers : Result (Option Part) Refusal → ℕ × (ℕ × ℕ)
locate_numbers o = numbers_of (0, 0) sought_numbers o
