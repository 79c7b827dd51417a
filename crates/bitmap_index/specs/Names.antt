-- The editions and the names of questions as the code's own types: each stands for the number that a question gives it.
use Rattle.std.specs.Prelude.{◌≡◌, ℕ, ◌≤◌, false, Result, Err, Ok}
use Rattle.refusal.specs.declared.Refusal.{Refusal}
use Rattle.refusal.specs.declared.Refusal.TheVariants.{Literal}
use Rattle.bitmap_index.specs.declared.Edition.{Edition}
use Rattle.bitmap_index.specs.declared.Edition.TheVariants.{First, Second}
use Rattle.bitmap_index.specs.declared.Name.{Name}
use Rattle.bitmap_index.specs.declared.Name.TheVariants.{Equal, NotEqual, In, NotIn, IsNull, IsNotNull}
use Rattle.bitmap_index.specs.declared.Question.{Question}
use Rattle.bitmap_index.specs.declared.TypedQuestion.{TypedQuestion}
use Rattle.bitmap_index.specs.Meaning.{first_edition, second_edition, is_known_edition, equal, not_equal, is_in, is_not_in, is_null, is_not_null, questions}

abbrev pub edition_code : Edition → ℕ
edition_code First = first_edition
edition_code Second = second_edition

abbrev pub name_code : Name → ℕ
name_code Equal = equal
name_code NotEqual = not_equal
name_code In = is_in
name_code NotIn = is_not_in
name_code IsNull = is_null
name_code IsNotNull = is_not_null

abbrev pub question_of : TypedQuestion → Question
question_of q = record { edition = edition_code q.edition; name = name_code q.name }

-- what a number stands for; LITERAL where it stands for none
abbrev pub DecodesEdition : ℕ → Result Edition Refusal → Type 0
DecodesEdition number (Ok edition) = number ≡ edition_code edition
DecodesEdition number (Err r) = (is_known_edition number ≡ false) × (r ≡ Literal)

abbrev pub DecodesName : ℕ → Result Name Refusal → Type 0
DecodesName number (Ok name) = number ≡ name_code name
DecodesName number (Err r) = (questions ≤ number) × (r ≡ Literal)
