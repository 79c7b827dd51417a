-- A row field without the rows of another ("Clears in the first each row set in the second"), and the record of an answer.
use Rattle.std.specs.Prelude.{ℕ, ◌-◌, ◌/◌, ◌%◌, ◌^◌, Bool, true, false, not, cond, List, [], ◌∷◌, eqb, length, get_or, set}
use Rattle.std.specs.Int.Bits.{bit_and}
use Rattle.row_field.specs.Meaning.{bit, rows_from}
use Rattle.subtract.specs.declared.Answer.{Answer}
use Rattle.subtract.specs.declared.Answer.TheVariants.{Skip, Keep}
use Rattle.subtract.specs.declared.Record.{Record}

-- f with row r not set; a row past the end changes nothing
unfoldable pub unmark : List ℕ → ℕ → List ℕ
unmark f r = set f (r / 8) (bit_and (get_or f (r / 8) 0) (255 - 2 ^ (r % 8)))

-- f with no row of rs set
unfoldable pub without : List ℕ → List ℕ → List ℕ
without f [] = f
without f (r ∷ rs) = without (unmark f r) rs

-- those of the rows rs that are set in f
unfoldable pub set_in : List ℕ → List ℕ → List ℕ
set_in f [] = []
set_in f (r ∷ rs) = cond (bit f r) (r ∷ set_in f rs) (set_in f rs)

-- f without the rows below n that are set in g; a bit that stands for no row below n stays
abbrev pub subtracted : ℕ → List ℕ → List ℕ → List ℕ
subtracted n f g = without f (rows_from g 0 n)

-- how many rows are removed: those below n that are set in both
abbrev pub removed : ℕ → List ℕ → List ℕ → ℕ
removed n f g = length (set_in f (rows_from g 0 n))

-- ---- the record of an answer: "The answer record gains row count, null rows and deleted rows besides matched rows"

-- a record as four numbers
abbrev pub numbers_of_record : Record → List ℕ
numbers_of_record said = said.rows ∷ said.nulls ∷ said.deleted ∷ said.matched ∷ []

-- the record that four numbers stand for
abbrev pub record_from_numbers : List ℕ → Record
record_from_numbers s = record { rows = get_or s 0 0; nulls = get_or s 1 0; deleted = get_or s 2 0; matched = get_or s 3 0 }

-- "A refusal carries zeros in all four"
abbrev pub no_record : List ℕ
no_record = 0 ∷ 0 ∷ 0 ∷ 0 ∷ []

-- "skip is said exactly when matched is 0" ("In the end a count of 0 says skip, any other keep")
unfoldable pub keeps : ℕ → Bool
keeps matched = not (eqb matched 0)

-- the answer that a record makes
abbrev pub answer_of : Record → Answer
answer_of said = cond (keeps said.matched) (Keep said) (Skip said)

-- the record of an answer
unfoldable pub said_of : Answer → Record
said_of (Skip said) = said
said_of (Keep said) = said

-- whether an answer says skip
unfoldable pub skips : Answer → Bool
skips (Skip said) = true
skips (Keep said) = false
