-- What the functions that serve other crates answer, in the reading's terms, and in numbers.
use Rattle.std.specs.Prelude.{◌≡◌, ℕ, ◌<◌, ◌≤◌, Bool, List, [], length, drop, Result, Err, Ok}
use Rattle.refusal.specs.declared.Refusal.{Refusal}
use Rattle.refusal.specs.Meaning.{number_of}
use Rattle.numbers.specs.Meaning.{four_bytes}
use Rattle.hash_table.specs.Promises.{slot, among, Holds}
use Rattle.stored_value.specs.Meaning.{listed, most_literals}
use Rattle.stored_value.specs.Reading.{value_size, literals}

-- ---- `size`: how many bytes a value takes

-- 0 or the refusal's number, and the bytes
unfoldable pub size_out : Result ℕ Refusal → ℕ × ℕ
size_out (Err r) = (number_of r, 0)
size_out (Ok n) = (0, n)

abbrev pub size_numbers : ℕ → ℕ × ℕ
size_numbers n = (0, n)

-- ---- `known_size`: how many bytes a value takes that was accepted, whatever it would have been refused with

-- a value stands at the front of s
abbrev pub Stands : ℕ → List ℕ → Type 0
Stands t s = (short : Refusal) × (broken : Refusal) × (k : ℕ) × (value_size short broken t s ≡ Ok k)

-- it takes n bytes
abbrev pub Takes : ℕ → List ℕ → ℕ → Type 0
Takes t s n = (short broken : Refusal) (k : ℕ) → value_size short broken t s ≡ Ok k → n ≡ k

-- ---- `literals`: how many there are

unfoldable pub counted : Result (List (List ℕ)) Refusal → Result ℕ Refusal
counted (Err r) = Err r
counted (Ok ls) = Ok (length ls)

-- 0 or the refusal's number, and the number of literals
unfoldable pub count_out : Result ℕ Refusal → ℕ × ℕ
count_out (Err r) = (number_of r, 0)
count_out (Ok n) = (0, n)

abbrev pub count_numbers : List (List ℕ) → ℕ × ℕ
count_numbers ls = (0, length ls)

-- ---- `listed`: whether a value is one of the literals

-- the literals are accepted
abbrev pub Accepted : ℕ → List ℕ → Type 0
Accepted t literal = (ls : List (List ℕ)) × (literals t most_literals [] literal ≡ Ok ls)

-- those that were read, none if they were refused
unfoldable pub read_of : Result (List (List ℕ)) Refusal → List (List ℕ)
read_of (Err r) = []
read_of (Ok ls) = ls

abbrev pub literals_in : ℕ → List ℕ → List (List ℕ)
literals_in t s = read_of (literals t most_literals [] s)

-- from p on accepted literals stand in s, to the end
abbrev pub Standing : ℕ → ℕ → List ℕ → Type 0
Standing t p s = (p ≤ length s) × (literals t most_literals [] (drop p s) ≡ Ok (literals_in t (drop p s)))

abbrev pub Lists : ℕ → List ℕ → List ℕ → Bool → Type 0
Lists t literal v r = (ls : List (List ℕ)) → literals t most_literals [] literal ≡ Ok ls → r ≡ listed v ls

-- ---- `enter`: literals in a hash table

-- literals that are accepted, and a table that holds nothing yet, with room for as many as there may be
pub record Enterable (t : ℕ) (literal table : List ℕ) : Type 0 where
  pub ls : List (List ℕ)
  pub accepted : literals t most_literals [] literal ≡ Ok ls
  pub empty : Holds literal table []
  pub room : slot most_literals ≤ length table
  pub short : length literal < four_bytes

-- the table finds exactly what is listed
pub record Entered (literal table : List ℕ) (ls : List (List ℕ)) : Type 0 where
  pub vs : List (List ℕ)
  pub holds : Holds literal table vs
  pub lists : (v : List ℕ) → among v vs ≡ listed v ls

abbrev pub Enters : ℕ → List ℕ → List ℕ → Type 0
Enters t literal table = (ls : List (List ℕ)) → literals t most_literals [] literal ≡ Ok ls → Entered literal table ls
