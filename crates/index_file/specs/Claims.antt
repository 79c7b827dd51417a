-- What the layout and the reading of an index file have to do with each other.
use Rattle.std.specs.Prelude.{ℕ, ◌≤◌, ◌≡◌, List, ◌⊎◌, length, Result, Err, Ok, Option, Some, None}
use Rattle.numbers.specs.Meaning.{be_at, Bytes, same}
use Rattle.refusal.specs.Meaning.{limit}
use Rattle.refusal.specs.declared.Refusal.{Refusal}
use Rattle.refusal.specs.Claims.{CarriesNothing}
use Rattle.names.specs.Layout.{name_limit, Askable, Plain}
use Rattle.names.specs.Reading.{matches}
use Rattle.index_file.specs.declared.Part.{Part}
use Rattle.index_file.specs.Layout.{magic, file_version, front_size, Headed, File, Unlisted}
use Rattle.index_file.specs.Reading.{bytes_of, within_limits, file, find, found_number, absent_number, locate_numbers}

-- laid out, so found: a file of the column, within the limit, with a start and a length that give the body
abbrev pub LaidOutIsFound : Type 0
LaidOutIsFound =
    (column kind body bytes : List ℕ) → File column kind body bytes → length bytes ≤ limit
    → (p : Part) × (find bytes column kind ≡ Ok (Some p)) × (bytes_of p bytes ≡ body)

-- found, so laid out
abbrev pub FoundIsLaidOut : Type 0
FoundIsLaidOut =
    (bytes column kind : List ℕ) (p : Part) → Bytes bytes → find bytes column kind ≡ Ok (Some p) → File column kind (bytes_of p bytes) bytes

-- there is at most one body
abbrev pub OneBody : Type 0
OneBody =
    (column kind body body' bytes : List ℕ) → File column kind body bytes → File column kind body' bytes → length bytes ≤ limit → body ≡ body'

-- not listed, so ABSENT, if the names may be asked for
abbrev pub UnlistedIsAbsent : Type 0
UnlistedIsAbsent =
    (bytes column kind : List ℕ) (h : Headed bytes) → Unlisted column kind h.columns → length bytes ≤ limit → Askable column → Askable kind
    → find bytes column kind ≡ Ok None

-- ABSENT, so not listed: it is said only of a head that keeps the rules, and that lists the asked column not at all, or once and in it not the asked kind
abbrev pub AbsentIsUnlisted : Type 0
AbsentIsUnlisted =
    (bytes column kind : List ℕ) → Bytes bytes → find bytes column kind ≡ Ok None → (h : Headed bytes) × Unlisted column kind h.columns

-- within the limits LITERAL is said exactly if one of the names may not be asked for, whatever the file; if both may, what the file says
abbrev pub UnaskableIsLiteral : Type 0
UnaskableIsLiteral =
    (bytes column kind : List ℕ) → length bytes ≤ limit → length column ≤ limit → length kind ≤ limit → (Askable column × Askable kind → ⊥)
    → find bytes column kind ≡ Err Refusal.Literal

abbrev pub LiteralIsUnaskable : Type 0
LiteralIsUnaskable = (bytes column kind : List ℕ) → find bytes column kind ≡ Err Refusal.Literal → Askable column × Askable kind → ⊥

abbrev pub AskableIsLookedUp : Type 0
AskableIsLookedUp =
    (bytes column kind : List ℕ) → length bytes ≤ limit → Askable column → Askable kind → find bytes column kind ≡ file (matches column) (matches kind) bytes

-- what Locate would answer if names were compared byte for byte with the caller's UTF-8, and none refused
abbrev pub find_by_bytes : List ℕ → List ℕ → List ℕ → Result (Option Part) Refusal
find_by_bytes bytes column kind = within_limits bytes column kind (file (same column) (same kind) bytes)

-- for names without zero and within FFFF, of at most 65,535 bytes, the answer is that, on every file
abbrev pub PlainAsBefore : Type 0
PlainAsBefore =
    (bytes column kind : List ℕ) → Plain column → Plain kind → length column ≤ name_limit → length kind ≤ name_limit
    → find bytes column kind ≡ find_by_bytes bytes column kind

-- the number of an answer tells its case
abbrev pub NumberOfFound : Type 0
NumberOfFound = (o : Result (Option Part) Refusal) → (locate_numbers o).0 ≡ found_number → (p : Part) × (o ≡ Ok (Some p))

abbrev pub NumberOfAbsent : Type 0
NumberOfAbsent = (o : Result (Option Part) Refusal) → (locate_numbers o).0 ≡ absent_number → o ≡ Ok None

-- a version other than 1 is refused as that, where no refusal that comes first is due
abbrev pub OtherVersionIsRefused : Type 0
OtherVersionIsRefused =
    (bytes column kind : List ℕ) → (be_at 4 bytes 8 ≡ file_version → ⊥) → length bytes ≤ limit → Askable column → Askable kind
    → front_size ≤ length bytes → be_at 8 bytes 0 ≡ magic → find bytes column kind ≡ Err Refusal.Version

-- and it is refused always, as that or by one of the four that come first
abbrev pub OtherVersionIsNotFound : Type 0
OtherVersionIsNotFound =
    (bytes column kind : List ℕ) → (be_at 4 bytes 8 ≡ file_version → ⊥)
    → (find bytes column kind ≡ Err Refusal.Limit) ⊎ ((find bytes column kind ≡ Err Refusal.Literal) ⊎ ((find bytes column kind ≡ Err Refusal.Short)
    ⊎ ((find bytes column kind ≡ Err Refusal.Magic) ⊎ (find bytes column kind ≡ Err Refusal.Version))))

-- a refusal of Locate carries nothing.
abbrev pub FindCarriesNothing : Type 0
FindCarriesNothing = (bytes column kind : List ℕ) → CarriesNothing (find bytes column kind)
