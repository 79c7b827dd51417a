-- What a column is, which of its rows a question chooses, and the plain scan that answers it. Nothing here knows an
-- index.
use Rattle.std.specs.Prelude.{◌≡◌, ℕ, ◌+◌, ◌<◌, ◌≤◌, Bool, true, not, ◌||◌, cond, List, [], ◌∷◌, eqb, ltb, length, replicate}
use Rattle.row_field.specs.Meaning.{size, mark}
use Rattle.subtract.specs.declared.Record.{Record}
use Rattle.stored_value.specs.Meaning.{types, most_literals, Cell, null, value, Value, listed, Literals}
use Rattle.bitmap_index.specs.declared.Question.{Question}

-- ---- columns and questions

-- the cells' values are of type t
abbrev pub Cells : ℕ → List Cell → Type 0
Cells t [] = Unit {0}
Cells t (null ∷ cells) = Cells t cells
Cells t (value v ∷ cells) = Value t v × Cells t cells

-- "A column is a type and, per row from 0, null or one stored value of it"
abbrev pub Column : ℕ → List Cell → Type 0
Column t cells = (t < types) × Cells t cells

-- the names of questions, by number, and how many there are
abbrev pub equal : ℕ
equal = 0

abbrev pub not_equal : ℕ
not_equal = 1

abbrev pub is_in : ℕ
is_in = 2

abbrev pub is_not_in : ℕ
is_not_in = 3

abbrev pub is_null : ℕ
is_null = 4

abbrev pub is_not_null : ℕ
is_not_null = 5

abbrev pub questions : ℕ
questions = 6

-- "A question names its edition": 1 is the first rule, kept for stored dashboards; "2 drops null rows from NOT EQUAL and NOT IN"
abbrev pub first_edition : ℕ
first_edition = 1

abbrev pub second_edition : ℕ
second_edition = 2

-- no other number is an edition's
unfoldable pub is_known_edition : ℕ → Bool
is_known_edition edition = eqb edition first_edition || eqb edition second_edition

-- the question of an edition with this name
abbrev pub question : ℕ → ℕ → Question
question edition name = record { edition = edition; name = name }

-- "IN chooses rows whose value is listed; NOT IN chooses every other row, null rows too .. EQUAL and NOT EQUAL are the one-literal cases", "IS NULL chooses null
-- rows, IS NOT NULL the others". NOT EQUAL and NOT IN choose null rows in the first edition alone, whatever is listed: "The empty list drops them too"
unfoldable pub chosen : Question → List (List ℕ) → Cell → Bool
chosen q ls null = cond (eqb q.name not_equal || eqb q.name is_not_in) (eqb q.edition first_edition) (eqb q.name is_null)
chosen q ls (value v) =
    cond (eqb q.name equal || eqb q.name is_in) (listed v ls)
    (cond (eqb q.name not_equal || eqb q.name is_not_in) (not (listed v ls)) (eqb q.name is_not_null))

-- by its name: "EQUAL and NOT EQUAL take one literal, IN and NOT IN any number, IS NULL and IS NOT NULL none"
unfoldable pub takes : ℕ → ℕ → Bool
takes name n = cond (ltb name is_in) (eqb n 1) (cond (ltb name is_null) true (eqb n 0))

-- "A well-formed question has a known type and name and literals that fit, in form and number"; "A question with another edition number isn't well formed"
pub record WellFormed (t : ℕ) (q : Question) (ls : List (List ℕ)) : Type 0 where
  pub known_type : t < types
  pub known_edition_lem : is_known_edition q.edition ≡ true
  pub known-name : q.name < questions
  pub few : length ls ≤ most_literals
  pub form : Literals t ls
  pub number : takes q.name (length ls) ≡ true

-- ---- the scan: "It starts with a zero field and count 0 and takes the rows in order .. A chosen row sets its bit and adds 1. In the end a count of 0 says skip, any
-- other keep" (subtract's `keeps`)

pub record Scanned : Type 0 where
  pub field : List ℕ
  pub matched : ℕ

unfoldable pub scan_from : Question → List (List ℕ) → ℕ → List ℕ → ℕ → List Cell → Scanned
scan_from q ls r field matched [] = record { field = field; matched = matched }
scan_from q ls r field matched (c ∷ cells) =
    cond (chosen q ls c) (scan_from q ls (r + 1) (mark field r) (matched + 1) cells) (scan_from q ls (r + 1) field matched cells)

unfoldable pub scan : Question → List (List ℕ) → List Cell → Scanned
scan q ls cells = scan_from q ls 0 (replicate (size (length cells)) 0) 0 cells

-- the question whose rows are the null rows. It chooses the same in both editions
abbrev pub null_question : Question
null_question = question first_edition is_null

-- what the scan says of the column in numbers: its row count, its null rows, whatever is asked, no deleted rows, and the rows that match
unfoldable pub scan_record : Question → List (List ℕ) → List Cell → Record
scan_record q ls cells = record { rows = length cells; nulls = (scan null_question [] cells).matched; deleted = 0; matched = (scan q ls cells).matched }
