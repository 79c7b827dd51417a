-- What is read of any bytes as a body's dictionary of type t: in byte order, each field SHORT, then its rule.
use Rattle.std.specs.Prelude.{ℕ, zero, suc, ◌-◌, Bool, true, false, not, ◌&&◌, ◌||◌, cond, List, [], ◌∷◌, ◌++◌, eqb, ltb, leb, length, Result, Err, Ok}
use Rattle.numbers.specs.Meaning.{big, number, same, sign_bit, minus_one_32}
use Rattle.refusal.specs.Meaning.{limit}
use Rattle.refusal.specs.declared.Refusal.{Refusal}
use Rattle.refusal.specs.declared.Refusal.TheVariants.{Short, Version, Dict, Literal, Limit}
use Rattle.stored_value.specs.Meaning.{types, Cell, null, value, less}
use Rattle.refusal.specs.Reading.{check}
use Rattle.stored_value.specs.Reading.{value_of}
use Rattle.dictionary.specs.Layout.{Entry, some_has, most_values1, most_values2, most_blocks}

-- a count of four bytes, big-endian and signed: SHORT; a negative one is DICT, one above `most` LIMIT
unfoldable pub count_at_most : {A : Type 0} → ℕ → List ℕ → (ℕ → List ℕ → Result A Refusal) → Result A Refusal
count_at_most most s k = number big 4 (Err Short) s (λ n s. check (ltb n sign_bit) Dict (check (leb n most) Limit (k n s)))

-- what a dictionary says: the row count, the entries in stored order, null's first, and the bytes of the region of bitmaps
pub record Dictionary : Type 0 where
  pub rows : ℕ
  pub entries : List Entry
  pub region : List ℕ

-- version 1: n entries to come, `nulls` and `es` those before
unfoldable pub entries_version_one : ℕ → ℕ → ℕ → List Entry → List Entry → List ℕ → Result Dictionary Refusal
entries_version_one t rows zero nulls es s = Ok (record { rows = rows; entries = nulls ++ es; region = s })
entries_version_one t rows (suc n) nulls es s =
    value_of Short Dict t s (λ v s. check (not (some_has (value v) es)) Dict
    (number big 4 (Err Short) s (λ offset s. entries_version_one t rows n nulls (es ++ (record { cell = value v; offset = offset; extent = minus_one_32 } ∷ [])) s)))

-- version 2: the directory, a value and a block's offset each
pub record Listing : Type 0 where
  pub first : List ℕ
  pub at : ℕ

unfoldable pub listings : {A : Type 0} → ℕ → ℕ → List Listing → List ℕ → (List Listing → List ℕ → Result A Refusal) → Result A Refusal
listings t zero ds s k = k ds s
listings t (suc n) ds s k =
    value_of Short Dict t s (λ v s. number big 4 (Err Short) s (λ at s. listings t n (ds ++ (record { first = v; at = at } ∷ [])) s k))

-- the value is past the one before it, if there is one
unfoldable pub past : ℕ → Cell → List ℕ → Bool
past t null w = true
past t (value v) w = less t v w

-- the value is the one that is due, if one is: a block's first is the one that the directory has for it
unfoldable pub is_value_due : Cell → List ℕ → Bool
is_value_due null v = true
is_value_due (value w) v = same w v

-- n entries of a block, in which `es` came before: `before` is the value before, if there is one, and `due` what the next must be, if anything
unfoldable pub entries_version_two : {A : Type 0} → ℕ → ℕ → Cell → Cell → List Entry → List ℕ → (Cell → List Entry → List ℕ → Result A Refusal) → Result A Refusal
entries_version_two t zero before due es s k = k before es s
entries_version_two t (suc n) before due es s k =
    value_of Short Dict t s (λ v s. check (past t before v && is_value_due due v) Dict
    (number big 4 (Err Short) s (λ offset s. number big 4 (Err Short) s (λ extent s.
    entries_version_two t n (value v) null (es ++ (record { cell = value v; offset = offset; extent = extent } ∷ [])) s k))))

-- how far behind base's start s begins, s being a suffix of base
unfoldable pub behind : List ℕ → List ℕ → ℕ
behind base s = length base - length s

-- the blocks of the directory. base begins behind the body offset, the byte that block offsets count from: each block begins where the one before ended
unfoldable pub blocks_of : ℕ → List Listing → List ℕ → Cell → List Entry → List ℕ → (List Entry → List ℕ → Result Dictionary Refusal) → Result Dictionary Refusal
blocks_of t [] base before es s k = k es s
blocks_of t (d ∷ ds) base before es s k =
    check (eqb d.at (behind base s)) Dict
    (number big 4 (Err Short) s (λ n s. check (leb 1 n && ltb n sign_bit) Dict
    (entries_version_two t n before (value d.first) es s (λ before es s. blocks_of t ds base before es s k))))

-- no blocks exactly when there is no value; the body offset, then the sum of entry numbers, are tested behind the last block
unfoldable pub blocked : ℕ → ℕ → ℕ → List Entry → List ℕ → Result Dictionary Refusal
blocked t rows n nulls s =
    count_at_most most_blocks s (λ b s. check (cond (eqb n 0) (eqb b 0) (leb 1 b)) Dict
    (listings t b [] s (λ ds s. number big 4 (Err Short) s (λ offset base.
    blocks_of t ds base null [] base (λ es region.
    check (eqb offset (behind base region)) Dict (check (eqb (length es) n) Dict
    (Ok (record { rows = rows; entries = nulls ++ es; region = region }))))))))

-- null's entry, if there is one; in version 2 with a length
unfoldable pub null_of : {A : Type 0} → Bool → Bool → List ℕ → (List Entry → List ℕ → Result A Refusal) → Result A Refusal
null_of version2 false s k = k [] s
null_of false true s k = number big 4 (Err Short) s (λ offset s. k (record { cell = null; offset = offset; extent = minus_one_32 } ∷ []) s)
null_of true true s k =
    number big 4 (Err Short) s (λ offset s. number big 4 (Err Short) s (λ extent s. k (record { cell = null; offset = offset; extent = extent } ∷ []) s))

-- an unknown type is LITERAL, before any byte
unfoldable pub dictionary : ℕ → List ℕ → Result Dictionary Refusal
dictionary t s =
    check (ltb t types) Literal
    (number big 1 (Err Short) s (λ version s. check (eqb version 1 || eqb version 2) Version
    (count_at_most limit s (λ rows s. count_at_most (cond (eqb version 1) most_values1 most_values2) s (λ n s.
    number big 1 (Err Short) s (λ has_null_byte s. check (leb has_null_byte 1) Dict
    (null_of (eqb version 2) (eqb has_null_byte 1) s (λ nulls s.
    cond (eqb version 1) (entries_version_one t rows n nulls [] s) (blocked t rows n nulls s)))))))))
