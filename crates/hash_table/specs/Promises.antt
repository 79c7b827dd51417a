-- A table's numbers: first, of each of 4,096 hashes, one more than the last value that has it, 0 where none has; then three of each value: one more than the
-- value before it of the same hash, 0 where there is none, where it starts and where it ends.
use Rattle.std.specs.Prelude.{◌≡◌, ℕ, zero, suc, ◌+◌, ◌-◌, ◌*◌, ◌/◌, ◌%◌, ◌^◌, ◌<◌, ◌≤◌, Bool, true, false, ◌||◌, List, [], ◌∷◌, ◌++◌, length, take, drop, get_or, set}
use Rattle.numbers.specs.Meaning.{same, le_at, four_bytes}

abbrev pub chains : ℕ
chains = 4096

-- how many numbers a value has
abbrev pub value_numbers : ℕ
value_numbers = 3

-- where the numbers of value j stand; so many numbers have room for the j values before it
abbrev pub slot : ℕ → ℕ
slot j = chains + value_numbers * j

-- value j of a table over s
unfoldable pub value_at : List ℕ → List ℕ → ℕ → List ℕ
value_at s table j = take (get_or table (slot j + 2) 0 - get_or table (slot j + 1) 0) (drop (get_or table (slot j + 1) 0) s)

-- ---- the hash: any function of the bytes that is below `chains` would do, what is promised goes by no more of it

-- odd, and 2^32 divided by the golden ratio: numbers that lie side by side are spread
abbrev pub factor : ℕ
factor = 2654435761

abbrev pub mixed : ℕ → ℕ → ℕ
mixed h x = (h + x) % four_bytes * factor % four_bytes

-- byte by byte
unfoldable pub hash_of_bytes : ℕ → List ℕ → ℕ
hash_of_bytes h [] = h
hash_of_bytes h (b ∷ v) = hash_of_bytes (mixed h b) v

-- n times four bytes, then byte by byte
unfoldable pub hash_words : ℕ → ℕ → List ℕ → ℕ
hash_words zero h v = hash_of_bytes h v
hash_words (suc n) h v = hash_words n (mixed h (le_at 4 v 0)) (drop 4 v)

-- divided by it, a hash of 32 bits keeps its highest twelve, which are mixed best
abbrev pub low_bits : ℕ
low_bits = 2 ^ 20

unfoldable pub hash_of : List ℕ → ℕ
hash_of v = hash_words (length v / 4) 0 v / low_bits

-- ---- what a table holds

-- whether v is one of the values vs
unfoldable pub among : List ℕ → List (List ℕ) → Bool
among v [] = false
among v (w ∷ vs) = same v w || among v vs

-- a is one more than the last of the first n values whose hash is h, or 0 where none has it
pub record Last (vs : List (List ℕ)) (h n a : ℕ) : Type 0 where
  pub low : a ≤ n
  pub hit : 0 < a → hash_of (get_or vs (a - 1) []) ≡ h
  pub past : (k : ℕ) → a ≤ k → k < n → hash_of (get_or vs k []) ≡ h → ⊥

-- a table over s holds exactly the values vs, in the order in which they were inserted
pub record Holds (s table : List ℕ) (vs : List (List ℕ)) : Type 0 where
  pub room : slot (length vs) ≤ length table
  pub stand : (j : ℕ) → j < length vs → value_at s table j ≡ get_or vs j []
  pub within : (j : ℕ) → j < length vs → (get_or table (slot j + 1) 0 ≤ get_or table (slot j + 2) 0) × (get_or table (slot j + 2) 0 ≤ length s)
  pub head : (h : ℕ) → h < chains → Last vs h (length vs) (get_or table h 0)
  pub link : (j : ℕ) → j < length vs → Last vs (hash_of (get_or vs j [])) j (get_or table (slot j) 0)

-- it holds some
abbrev pub HoldsSome : List ℕ → List ℕ → Type 0
HoldsSome s table = (vs : List (List ℕ)) × Holds s table vs

-- ---- `find`

abbrev pub Finds : List ℕ → List ℕ → List ℕ → Bool → Type 0
Finds s table v r = (vs : List (List ℕ)) → Holds s table vs → r ≡ among v vs

-- ---- `insert`

-- there is room for one value more, behind n: that from start to end
pub record Fits (s table : List ℕ) (n start end : ℕ) : Type 0 where
  pub vs : List (List ℕ)
  pub holds : Holds s table vs
  pub many : length vs ≡ n
  pub room : slot (n + 1) ≤ length table
  pub rising : start ≤ end
  pub inside : end ≤ length s
  pub short : length s < four_bytes
  pub few : n + 1 < four_bytes

-- value n, of hash h, in front of its chain
unfoldable pub put : List ℕ → ℕ → ℕ → ℕ → ℕ → List ℕ
put table n h start end = set (set (set (set table (slot n) (get_or table h 0)) (slot n + 1) start) (slot n + 2) end) h (n + 1)

-- whether the value is there already; if not, it is then held behind the others, and else the table stays as it was
abbrev pub InsertsInto : List ℕ → List ℕ → List ℕ → List (List ℕ) → List ℕ → Bool → Type 0
InsertsInto s before after vs v true = (among v vs ≡ true) × (after ≡ before)
InsertsInto s before after vs v false = (among v vs ≡ false) × Holds s after (vs ++ (v ∷ []))

abbrev pub Inserts : List ℕ → List ℕ → List ℕ → ℕ → ℕ → ℕ → Bool → Type 0
Inserts s before after n start end r =
    (vs : List (List ℕ)) → Holds s before vs → length vs ≡ n → InsertsInto s before after vs (take (end - start) (drop start s)) r
