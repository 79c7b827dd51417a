-- What the answers of the code's steps say in the reading's terms.
use Rattle.std.specs.Prelude.{ℕ, ◌+◌, ◌≤◌, ◌≡◌, Bool, List, ◌++◌, length, take, drop, Option, Some, None, Err}
use Rattle.numbers.specs.Meaning.{same}
use Rattle.numbers.specs.declared.Position.{Position}
use Rattle.names.specs.Layout.{Scalar, standard_of, name_limit}
use Rattle.names.specs.Reading.{Spelled, Reader, size_of_asked_name}

-- what `reading` reads off the front of the bytes: a value, with `left` left; or it refuses, whatever would follow
abbrev pub Rest : Type 0
Rest = ℕ → List ℕ → Spelled (List ℕ)

abbrev pub Reads : Reader (List ℕ) → ℕ → List ℕ → List ℕ → Type 0
Reads reading value left s = (k : Rest) → reading s k ≡ k value left

abbrev pub Refuses : Reader (List ℕ) → List ℕ → Type 0
Refuses reading s = (k : Rest) → reading s k ≡ Err tt

-- the bytes begin with a code point, and `left` is what is left
abbrev pub BeginsWith : ℕ → List ℕ → List ℕ → Type 0
BeginsWith c left s = Scalar c × (s ≡ standard_of c ++ left)

-- they begin with no code point
abbrev pub BeginsWithNone : List ℕ → Type 0
BeginsWithNone s = (c : ℕ) (left : List ℕ) → BeginsWith c left s → ⊥

-- how many bytes an asked name has in modified form, where it may be asked for
abbrev pub SizeIs : List ℕ → Option ℕ → Type 0
SizeIs asked None = size_of_asked_name asked ≡ name_limit + 1
SizeIs asked (Some size) = (size_of_asked_name asked ≡ size) × (size ≤ name_limit)

-- whether `form` stands at `at`
abbrev pub form_stands_at : List ℕ → Position → List ℕ → Bool
form_stands_at form at s = same (take (length form) (drop at.0 s)) form
