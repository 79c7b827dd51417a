-- What Open answers for any bytes ("the open audits, then fills a lent table"): its stages in their order, each begun only where the one before
-- passed.
use Rattle.std.specs.Prelude.{ℕ, zero, suc, ◌+◌, Bool, true, cond, List, [], ◌∷◌, ◌++◌, eqb, ltb, leb, length, drop, Result, Err, Ok}
use Rattle.numbers.specs.Meaning.{big, number}
use Rattle.refusal.specs.Meaning.{limit, number_of, fault_of, no_fault}
use Rattle.refusal.specs.declared.Refusal.{Refusal}
use Rattle.refusal.specs.declared.Refusal.TheVariants.{Short, Version, Dict, Room, Literal, Limit}
use Rattle.refusal.specs.Reading.{check, and_then}
use Rattle.row_field.specs.Meaning.{cleared}
use Rattle.stored_value.specs.Meaning.{types}
use Rattle.stored_value.specs.Reading.{value_size}
use Rattle.dictionary.specs.Layout.{Entry, most_values2, most_blocks}
use Rattle.dictionary.specs.Reading.{Dictionary, count_at_most, null_of, behind}
use Rattle.bitmap_index.specs.Reading.{prepared, audited}
use Rattle.opening.specs.declared.Opened.{Opened}

-- ---- the fields in front of a version 2 directory, read as dictionary's reading reads them, but version 1 is VERSION too

-- the row count, the value number, null's entry if there is one, the block number, and the bytes behind it, where the directory begins
pub record Front : Type 0 where
  pub rows : ℕ
  pub values : ℕ
  pub nulls : List Entry
  pub blocks : ℕ
  pub directory : List ℕ

-- null's entry and the block number, behind a row count, a value number n and has-null: no blocks exactly when there is no value
unfoldable pub rest_of_front : ℕ → ℕ → Bool → List ℕ → Result Front Refusal
rest_of_front rows n has_null_byte s =
    null_of true has_null_byte s (λ nulls s. count_at_most most_blocks s (λ b s. check (cond (eqb n 0) (eqb b 0) (leb 1 b)) Dict
    (Ok (record { rows = rows; values = n; nulls = nulls; blocks = b; directory = s }))))

unfoldable pub front : List ℕ → Result Front Refusal
front s =
    number big 1 (Err Short) s (λ version s. check (eqb version 2) Version
    (count_at_most limit s (λ rows s. count_at_most most_values2 s (λ n s.
    number big 1 (Err Short) s (λ has_null_byte s. check (leb has_null_byte 1) Dict (rest_of_front rows n (eqb has_null_byte 1) s))))))

-- ---- the table

-- what follows a value of this size; nothing where none stands
unfoldable pub if_sized : Result ℕ Refusal → (ℕ → List ℕ) → List ℕ
if_sized (Err r) k = []
if_sized (Ok n) k = k n

-- where n entries of a directory start that stand one behind another at the front of s, the first at `at`: a value and a block's offset each. They end where no
-- value stands, which is so in no dictionary that was accepted
unfoldable pub starts_in : ℕ → ℕ → ℕ → List ℕ → List ℕ
starts_in t zero at s = []
starts_in t (suc n) at s = at ∷ if_sized (value_size Short Dict t s) (λ k. starts_in t n (at + k + 4) (drop (k + 4) s))

-- numbers written at the front of a table: what lies behind them stays
abbrev pub written_to : List ℕ → List ℕ → List ℕ
written_to table numbers = numbers ++ drop (length numbers) table

-- ---- Open: the limit, the type, the fields in front, the dictionary with ROOM for the field, ROOM for the table; then the bitmaps as in Audit; then the table

pub record Openable : Type 0 where
  pub fields : Front
  pub read : Dictionary

-- all that comes before a byte of the field or a word of the table is written: "Too short a table is ROOM, where Audit tests room. A version 1 body is VERSION".
-- The table is "under no length limit"
unfoldable pub openable : ℕ → List ℕ → List ℕ → List ℕ → Result Openable Refusal
openable t body field table =
    check (leb (length body) limit) Limit (check (ltb t types) Literal
    (and_then (front body) (λ f. and_then (prepared t body field) (λ d.
    check (leb f.blocks (length table)) Room (Ok (record { fields = f; read = d }))))))

-- an accepted open: the row count, the number of blocks, and what the table then holds
pub record Table : Type 0 where
  pub rows : ℕ
  pub blocks : ℕ
  pub words : List ℕ

unfoldable pub filled : ℕ → List ℕ → Front → List ℕ → List ℕ
filled t body f table = written_to table (starts_in t f.blocks (behind body f.directory) f.directory)

unfoldable pub opened : ℕ → List ℕ → List ℕ → List ℕ → Result Table Refusal
opened t body field table =
    and_then (openable t body field table) (λ o. and_then (audited o.read (cleared o.read.rows field)) (λ rows.
    Ok (record { rows = rows; blocks = o.fields.blocks; words = filled t body o.fields table })))

-- the field: as Audit leaves it, untouched up to ROOM and zero after it
unfoldable pub zeroed_from : Result Openable Refusal → List ℕ → List ℕ
zeroed_from (Err r) field = field
zeroed_from (Ok o) field = cleared o.read.rows field

unfoldable pub open_buffer : ℕ → List ℕ → List ℕ → List ℕ → List ℕ
open_buffer t body field table = zeroed_from (openable t body field table) field

-- "A refused open leaves the table untouched, an accepted one what lies behind"
unfoldable pub table_of : Result Table Refusal → List ℕ → List ℕ
table_of (Err r) table = table
table_of (Ok a) table = a.words

unfoldable pub open_table : ℕ → List ℕ → List ℕ → List ℕ → List ℕ
open_table t body field table = table_of (opened t body field table) table

-- ---- the call's answer, and its numbers: the answer's, 0 for accepted and else the refusal's; then row count and number of blocks, both 0 with a refusal

-- an accepted open in the code's terms: the words are in the table
abbrev pub opened_of : Table → Opened
opened_of a = record { rows = a.rows; blocks = a.blocks }

unfoldable pub open_out : Result Opened Refusal → ℕ × (ℕ × ℕ)
open_out (Err r) = (number_of r, (0, 0))
open_out (Ok a) = (0, (a.rows, a.blocks))

abbrev pub open_numbers : Table → ℕ × (ℕ × ℕ)
open_numbers a = (0, (a.rows, a.blocks))

-- where the answer's fault is, in three numbers
unfoldable pub open_fault : Result Opened Refusal → List ℕ
open_fault (Err r) = fault_of r
open_fault (Ok a) = no_fault
