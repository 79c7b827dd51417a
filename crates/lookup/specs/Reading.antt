-- What a lookup answers for any body, type, edition, literal, table and field ("EQUAL then halves the directory through that table, reads one block
-- and one bitmap"; it reads null's bitmap too): its stages in their order, each begun only where the one before passed.
use Rattle.std.specs.Prelude.{ℕ, zero, suc, ◌+◌, ◌-◌, ◌/◌, ◌&&◌, cond, List, [], ◌∷◌, eqb, ltb, leb, length, drop, get_or, Result, Err, Ok}
use Rattle.numbers.specs.Meaning.{big, number, same, sign_bit}
use Rattle.refusal.specs.declared.Refusal.{Refusal}
use Rattle.refusal.specs.declared.Refusal.TheVariants.{Short, Dict, Room}
use Rattle.refusal.specs.Reading.{check, and_then}
use Rattle.row_field.specs.Meaning.{size, count, cleared}
use Rattle.stored_value.specs.Meaning.{value, less}
use Rattle.stored_value.specs.Reading.{value_of}
use Rattle.dictionary.specs.Layout.{Entry}
use Rattle.bitmap_index.specs.Meaning.{equal, question}
use Rattle.bitmap_index.specs.Reading.{first_number, place_entries, Answer, well_formed}
use Rattle.opening.specs.Reading.{Front, front}

-- ---- the directory, through the table

-- an entry of the directory at the front of s: a block's first value, the block's offset, and what stands behind
pub record EntryRead : Type 0 where
  pub first : List ℕ
  pub at : ℕ
  pub behind : List ℕ

unfoldable pub entry_read : ℕ → List ℕ → Result EntryRead Refusal
entry_read t s = value_of Short Dict t s (λ v s. number big 4 (Err Short) s (λ at s. Ok (record { first = v; at = at; behind = s })))

-- the entry that the table has for block i. A position behind the body has no bytes
unfoldable pub entry_for : ℕ → List ℕ → List ℕ → ℕ → Result EntryRead Refusal
entry_for t table body i = entry_read t (drop (get_or table i 0) body)

-- what stands behind the directory: behind the last block's entry, or, where there are no blocks, where the directory would begin
unfoldable pub behind_directory : ℕ → List ℕ → List ℕ → Front → Result (List ℕ) Refusal
behind_directory t table body f = cond (eqb f.blocks 0) (Ok f.directory) (and_then (entry_for t table body (f.blocks - 1)) (λ d. Ok d.behind))

-- what a halving comes to, in a directory that rises: how many blocks begin at or below the literal, the offset of the last of them (0 where there is none); and how
-- many first values the literal was compared with
pub record Halved : Type 0 where
  pub below : ℕ
  pub at : ℕ
  pub compared : ℕ

-- `many` blocks from `low` on are in doubt. Where first values rise, those before begin at or below the literal, the last of them at the offset `at`, and those
-- behind begin above it. The one in the middle is looked at, of two the second. Each step leaves fewer in doubt, so that `steps`, as many as there are blocks,
-- never run out
unfoldable pub halving : ℕ → List ℕ → List ℕ → List ℕ → ℕ → ℕ → ℕ → ℕ → ℕ → Result Halved Refusal
halving t literal table body zero low many at compared = Ok (record { below = low; at = at; compared = compared })
halving t literal table body (suc steps) low many at compared =
    cond (eqb many 0) (Ok (record { below = low; at = at; compared = compared }))
    (and_then (entry_for t table body (low + many / 2)) (λ d.
    cond (less t literal d.first)
    (halving t literal table body steps low (many / 2) at (compared + 1))
    (halving t literal table body steps (low + many / 2 + 1) (many - many / 2 - 1) d.at (compared + 1))))

-- ---- one block

-- what a block comes to: how many entries it says it has, the entry whose value is the literal, if there is one, and how many values the literal was compared
-- with, up to that entry: so that is the entry's number in its block, counted from 1
pub record Searched : Type 0 where
  pub entries : ℕ
  pub hit : List Entry
  pub compared : ℕ

-- `left` entries of a block of n stand at the front of s, `compared` came before
unfoldable pub searched_in : ℕ → List ℕ → ℕ → ℕ → ℕ → List ℕ → Result Searched Refusal
searched_in t literal n zero compared s = Ok (record { entries = n; hit = []; compared = compared })
searched_in t literal n (suc left) compared s =
    value_of Short Dict t s (λ v s. number big 4 (Err Short) s (λ offset s. number big 4 (Err Short) s (λ extent s.
    cond (same v literal)
    (Ok (record { entries = n; hit = record { cell = value v; offset = offset; extent = extent } ∷ []; compared = compared + 1 }))
    (searched_in t literal n left (compared + 1) s))))

-- the block at the front of s: "entry number (4, at least 1)", then its entries
unfoldable pub searched : ℕ → List ℕ → List ℕ → Result Searched Refusal
searched t literal s = number big 4 (Err Short) s (λ n s. check (leb 1 n && ltb n sign_bit) Dict (searched_in t literal n n 0 s))

-- where no block begins at or below the literal, none is read
abbrev pub no_block : Searched
no_block = record { entries = 0; hit = []; compared = 0 }

-- ---- all that comes before ROOM

-- what was found: the row count and null's entry, the region of bitmaps, and what the directory and the block came to
pub record Sought : Type 0 where
  pub rows : ℕ
  pub nulls : List Entry
  pub region : List ℕ
  pub directory : Halved
  pub block : Searched

-- the fields in front; a word of the table for each block, else ROOM; the body offset behind the last entry of the directory, DICT if it is past the body's end; then
-- the halving, and the block that it leads to. Both offsets count from the byte behind the body offset
unfoldable pub sought : ℕ → List ℕ → List ℕ → List ℕ → Result Sought Refusal
sought t literal table body =
    and_then (front body) (λ f. check (leb f.blocks (length table)) Room
    (and_then (behind_directory t table body f) (λ s. number big 4 (Err Short) s (λ offset base. check (leb offset (length base)) Dict
    (and_then (halving t literal table body f.blocks 0 f.blocks 0 0) (λ h.
    and_then (cond (eqb h.below 0) (Ok no_block) (searched t literal (drop h.at base))) (λ b.
    Ok (record { rows = f.rows; nulls = f.nulls; region = drop offset base; directory = h; block = b }))))))))

-- ---- the answer: null's rows, then the entry's, each in a zero field of their own: BITMAP, else RANGE. The entry's number is that in its block, null's is 0

-- an answer as Ask's (bitmap_index), and values compared: those of the directory and those of the block
pub record Looked : Type 0 where
  pub answer : Answer
  pub compared : ℕ

unfoldable pub looked_in : Sought → List ℕ → Result Looked Refusal
looked_in f clear =
    and_then (place_entries first_number f.rows f.region f.nulls clear) (λ withNulls.
    and_then (place_entries f.block.compared f.rows f.region f.block.hit clear) (λ marked.
    Ok (record {
      answer =
          record { buffer = marked; said = record { rows = f.rows; nulls = count withNulls f.rows; deleted = 0; matched = count marked f.rows } };
      compared = f.directory.compared + f.block.compared;
    })))

-- EQUAL's question is tested as Ask tests it, with its edition; then what comes before the field's ROOM, and that
unfoldable pub lookable : ℕ → ℕ → List ℕ → List ℕ → List ℕ → List ℕ → Result Sought Refusal
lookable t edition literal table body field =
    and_then (well_formed t (question edition equal) literal body) (λ ls. and_then (sought t literal table body) (λ f.
    check (leb (size f.rows) (length field)) Room (Ok f)))

unfoldable pub looked_up : ℕ → ℕ → List ℕ → List ℕ → List ℕ → List ℕ → Result Looked Refusal
looked_up t edition literal table body field = and_then (lookable t edition literal table body field) (λ f. looked_in f (cleared f.rows field))

-- "the field untouched up to ROOM and zeroed after it", with a refusal; else the answer's
unfoldable pub refused_buffer : Result Sought Refusal → List ℕ → List ℕ
refused_buffer (Err r) field = field
refused_buffer (Ok f) field = cleared f.rows field

unfoldable pub looked_buffer : Result Looked Refusal → List ℕ → List ℕ
looked_buffer (Err r) otherwise = otherwise
looked_buffer (Ok a) otherwise = a.answer.buffer

unfoldable pub look_up_buffer : ℕ → ℕ → List ℕ → List ℕ → List ℕ → List ℕ → List ℕ
look_up_buffer t edition literal table body field =
    looked_buffer (looked_up t edition literal table body field) (refused_buffer (lookable t edition literal table body field) field)

-- ---- the call's answer: Ask's, for what was looked up, and the values compared, 0 with a refusal

unfoldable pub answer_of : Result Looked Refusal → Result Answer Refusal
answer_of (Err r) = Err r
answer_of (Ok a) = Ok a.answer

unfoldable pub compared_of : Result Looked Refusal → ℕ
compared_of (Err r) = 0
compared_of (Ok a) = a.compared
