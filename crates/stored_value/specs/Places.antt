-- Where literals stand that were accepted, one after another.
use Rattle.std.specs.Prelude.{ℕ, ◌+◌, List, [], ◌∷◌, length, drop}
use Rattle.numbers.specs.Meaning.{position}
use Rattle.stored_value.specs.declared.Place.{Place}
use Rattle.stored_value.specs.declared.LiteralPlaces.{LiteralPlaces}
use Rattle.stored_value.specs.Promises.{literals_in}

-- the places of literals of which the first stands at p
abbrev pub places : ℕ → List (List ℕ) → List Place
places p [] = []
places p (l ∷ ls) = record { start = position p; end = position (p + length l) } ∷ places (p + length l) ls

abbrev pub places_left : LiteralPlaces → List Place
places_left l = places l.at.0 (literals_in l.t (drop l.at.0 l.bytes.now))
