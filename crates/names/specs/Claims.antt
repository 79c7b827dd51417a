-- What the two forms of a name and what is read of any bytes have to do with each other.
use Rattle.std.specs.Prelude.{ℕ, ◌+◌, ◌≤◌, ◌≡◌, true, false, List, length, Ok}
use Rattle.numbers.specs.Meaning.{All, Bytes, same}
use Rattle.names.specs.Layout.{Scalar, standard, modified, name_limit, Named, Askable, Proper, PlainPoint, Plain}
use Rattle.names.specs.Reading.{standard_points, modified_points, size_of_asked_name, askable, matches}

-- ---- the two forms. That code points have exactly one form of each kind is said by `standard` and `modified` being functions of them

-- they are bytes, so that there are buffers that hold them
abbrev pub StandardIsBytes : Type 0
StandardIsBytes = (cs : List ℕ) → All Scalar cs → Bytes (standard cs)

abbrev pub ModifiedIsBytes : Type 0
ModifiedIsBytes = (cs : List ℕ) → All Scalar cs → Bytes (modified cs)

-- each form decodes to the code points it was made of
abbrev pub StandardIsRead : Type 0
StandardIsRead = (cs : List ℕ) → All Scalar cs → standard_points (standard cs) ≡ Ok cs

abbrev pub ModifiedIsRead : Type 0
ModifiedIsRead = (cs : List ℕ) → All Scalar cs → modified_points (modified cs) ≡ Ok cs

-- and what decodes is that form of what it decodes to
abbrev pub ReadIsStandard : Type 0
ReadIsStandard = (s cs : List ℕ) → standard_points s ≡ Ok cs → All Scalar cs × (s ≡ standard cs)

abbrev pub ReadIsModified : Type 0
ReadIsModified = (s cs : List ℕ) → modified_points s ≡ Ok cs → All Scalar cs × (s ≡ modified cs)

-- two lists have the same modified form only if they are the same, and the same standard form too
abbrev pub ModifiedTellsApart : Type 0
ModifiedTellsApart = (cs ds : List ℕ) → All Scalar cs → All Scalar ds → modified cs ≡ modified ds → cs ≡ ds

abbrev pub StandardTellsApart : Type 0
StandardTellsApart = (cs ds : List ℕ) → All Scalar cs → All Scalar ds → standard cs ≡ standard ds → cs ≡ ds

-- so no two different asked names match one stored name, and an asked name matches one stored form alone
abbrev pub OneAsked : Type 0
OneAsked = (asked asked' stored : List ℕ) → Named asked stored → Named asked' stored → asked ≡ asked'

abbrev pub OneStored : Type 0
OneStored = (asked stored stored' : List ℕ) → Named asked stored → Named asked stored' → stored ≡ stored'

-- for names without zero and within FFFF both forms are the same bytes
abbrev pub PlainIsTheSame : Type 0
PlainIsTheSame = (cs : List ℕ) → All PlainPoint cs → modified cs ≡ standard cs

-- a name that a file stores, in which it has no more than 65,535 bytes, may be asked for
abbrev pub NamedIsAskable : Type 0
NamedIsAskable = (asked stored : List ℕ) → Named asked stored → length stored ≤ name_limit → Askable asked

-- ---- the tests, for any bytes

abbrev pub AskableIsTested : Type 0
AskableIsTested = (asked : List ℕ) → (Askable asked → askable asked ≡ true) × (askable asked ≡ true → Askable asked)

-- the size of a name that may be asked for is that of its modified form, any other's one more than a name may have
abbrev pub SizeIsTheForms : Type 0
SizeIsTheForms =
    (asked : List ℕ) → ((a : Askable asked) → size_of_asked_name asked ≡ length (modified a.points)) × ((Askable asked → ⊥) → size_of_asked_name asked ≡ name_limit + 1)

abbrev pub NamedIsTested : Type 0
NamedIsTested = (asked stored : List ℕ) → (Named asked stored → matches asked stored ≡ true) × (matches asked stored ≡ true → Named asked stored)

-- a plain asked name is compared byte for byte as it is, and may be asked for if it has no more than 65,535 bytes
abbrev pub PlainIsCompared : Type 0
PlainIsCompared = (asked : List ℕ) → Plain asked → (stored : List ℕ) → matches asked stored ≡ same asked stored

abbrev pub PlainIsAskable : Type 0
PlainIsAskable = (asked : List ℕ) → Plain asked → length asked ≤ name_limit → Askable asked

-- improper stored names match nothing
abbrev pub ImproperMatchesNothing : Type 0
ImproperMatchesNothing = (stored : List ℕ) → (Proper stored → ⊥) → (asked : List ℕ) → matches asked stored ≡ false
