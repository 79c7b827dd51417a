-- What contracts say, in the reading's terms: of a lookup, then of the functions that it is made of.
use Rattle.std.specs.Prelude.{ℕ, ◌+◌, ◌-◌, ◌≤◌, ◌<◌, ◌≡◌, cond, List, [], ◌∷◌, eqb, leb, length, take, drop, Option, None, Some, Result, Err, Ok}
use Rattle.numbers.specs.Meaning.{big, number, sign_bit, four_bytes, position}
use Rattle.numbers.specs.declared.Position.{Position}
use Rattle.refusal.specs.declared.Refusal.{Refusal}
use Rattle.refusal.specs.declared.Refusal.TheVariants.{Short, Dict}
use Rattle.refusal.specs.Reading.{check, and_then, numbers_of, fault_in}
use Rattle.row_field.specs.Meaning.{count, cleared}
use Rattle.subtract.specs.Meaning.{no_record}
use Rattle.stored_value.specs.Meaning.{value}
use Rattle.dictionary.specs.declared.Summary.{Summary}
use Rattle.dictionary.specs.Layout.{Entry}
use Rattle.dictionary.specs.Promises.{pattern, nulls_of}
use Rattle.bitmap_index.specs.Reading.{first_number, answered_by, ask_out, ask_numbers, ask_fault}
use Rattle.bitmap_index.specs.Promises.{Places, place_in}
use Rattle.opening.specs.declared.Fields.{Fields}
use Rattle.opening.specs.Promises.{front_found}
use Rattle.lookup.specs.declared.LookedUp.{LookedUp}
use Rattle.lookup.specs.declared.Listing.{Listing}
use Rattle.lookup.specs.declared.Base.{Base}
use Rattle.lookup.specs.declared.Halving.{Halving}
use Rattle.lookup.specs.declared.Found.{Found}
use Rattle.lookup.specs.declared.Place.{Place}
use Rattle.lookup.specs.declared.Located.{Located}
use Rattle.lookup.specs.declared.Accepted.{Accepted}
use Rattle.lookup.specs.Reading.{entry_read, behind_directory, halving, Searched, searched_in, searched, no_block, Sought, sought, Looked, looked_in, looked_buffer, answer_of, compared_of, looked_up, look_up_buffer}

-- ---- a lookup, for any bytes: the answer, what the lent buffer then holds, values compared, the answer's number with its record, and where its fault
-- is

pub record LookUpPromise (t edition : ℕ) (literal table body before after : List ℕ) (r : LookedUp) : Type 0 where
  pub answer : r.answer ≡ answered_by (answer_of (looked_up t edition literal table body before))
  pub compared : r.compared ≡ compared_of (looked_up t edition literal table body before)
  pub buffer : after ≡ look_up_buffer t edition literal table body before
  pub numbers : ask_out r.answer ≡ numbers_of no_record ask_numbers (answer_of (looked_up t edition literal table body before))
  pub fault : ask_fault r.answer ≡ fault_in (answer_of (looked_up t edition literal table body before))

-- ---- the directory

-- the entry of the directory at a position, whose value ends at `end`
abbrev pub ListedAt : ℕ → List ℕ → ℕ → Result Listing Refusal → Type 0
ListedAt t s at (Err r) = entry_read t (drop at s) ≡ Err r
ListedAt t s at (Ok d) =
    (entry_read t (drop at s) ≡ Ok (record { first = take (d.end.0 - at) (drop at s); at = d.offset; behind = drop (d.end.0 + 4) s }))
    × (at < d.end.0) × (d.end.0 + 4 ≤ length s) × (d.offset < four_bytes)

-- where the directory ends
abbrev pub EndIs : ℕ → List ℕ → List ℕ → Fields → Result Position Refusal → Type 0
EndIs t table s f (Err r) = behind_directory t table s (front_found s f) ≡ Err r
EndIs t table s f (Ok p) = (behind_directory t table s (front_found s f) ≡ Ok (drop p.0 s)) × (p.0 ≤ length s)

-- the body offset and what stands behind it, whatever is read with them
abbrev pub AfterBase : Type 0
AfterBase = ℕ → List ℕ → Result Sought Refusal

abbrev pub based : List ℕ → AfterBase → Result Sought Refusal
based s k = number big 4 (Err Short) s (λ offset base. check (leb offset (length base)) Dict (k offset base))

abbrev pub BaseIs : ℕ → List ℕ → List ℕ → Fields → Result Base Refusal → Type 0
BaseIs t table s f (Err r) = (k : AfterBase) → and_then (behind_directory t table s (front_found s f)) (λ rest. based rest k) ≡ Err r
BaseIs t table s f (Ok b) =
    ((k : AfterBase) → and_then (behind_directory t table s (front_found s f)) (λ rest. based rest k) ≡ k (b.region.0 - b.base.0) (drop b.base.0 s))
    × (b.base.0 ≤ b.region.0) × (b.region.0 ≤ length s)

abbrev pub HalvedIs : ℕ → List ℕ → List ℕ → List ℕ → ℕ → Result Halving Refusal → Type 0
HalvedIs t literal table s blocks (Err r) = halving t literal table s blocks 0 blocks 0 0 ≡ Err r
HalvedIs t literal table s blocks (Ok h) =
    (halving t literal table s blocks 0 blocks 0 0 ≡ Ok (record { below = h.below; at = h.offset; compared = h.compared })) × (h.compared ≤ blocks)
    × (h.offset < four_bytes)

-- ---- one block

-- the entry that was found, with the value v, if one was
abbrev pub entries_at : List ℕ → Option Place → List Entry
entries_at v None = []
entries_at v (Some p) = record { cell = value v; offset = pattern p.offset; extent = p.extent } ∷ []

abbrev pub hit_of : List ℕ → Found → List Entry
hit_of v f = entries_at v f.place

-- what was found in a block of n entries
abbrev pub searched_of : ℕ → List ℕ → Found → Searched
searched_of n v f = record { entries = n; hit = hit_of v f; compared = f.compared }

abbrev pub SearchedFrom : ℕ → List ℕ → ℕ → List ℕ → ℕ → Result Found Refusal → Type 0
SearchedFrom t literal n s at (Err r) = searched_in t literal n n 0 (drop at s) ≡ Err r
SearchedFrom t literal n s at (Ok f) = (searched_in t literal n n 0 (drop at s) ≡ Ok (searched_of n literal f)) × (f.compared ≤ n)

-- the same of a reading of a block, which says its number of entries
abbrev pub FoundIn : Result Searched Refusal → List ℕ → Result Found Refusal → Type 0
FoundIn o literal (Err r) = o ≡ Err r
FoundIn o literal (Ok f) = (n : ℕ) × (o ≡ Ok (searched_of n literal f)) × (f.compared < sign_bit)

abbrev pub SearchedAt : ℕ → List ℕ → List ℕ → ℕ → Result Found Refusal → Type 0
SearchedAt t literal s at r = FoundIn (searched t literal (drop at s)) literal r

abbrev pub BlockAt : ℕ → List ℕ → List ℕ → ℕ → ℕ → ℕ → Result Found Refusal → Type 0
BlockAt t literal s base below offset r = FoundIn (cond (eqb below 0) (Ok no_block) (searched t literal (drop offset (drop base s)))) literal r

-- ---- what comes before the field's ROOM

-- what the code found, as the reading has it
pub record PlaceIs (literal s : List ℕ) (p : Located) (f : Sought) : Type 0 where
  pub rows : f.rows ≡ p.summary.rows
  pub nulls : f.nulls ≡ nulls_of p.summary
  pub region : f.region ≡ drop p.summary.region.0 s
  pub hit : f.block.hit ≡ hit_of literal p.found
  pub number : f.block.compared ≡ p.found.compared
  pub compared : f.directory.compared + f.block.compared ≡ p.compared
  pub inside : p.summary.region.0 ≤ length s

abbrev pub SoughtIs : ℕ → List ℕ → List ℕ → List ℕ → Result Located Refusal → Type 0
SoughtIs t literal table s (Err r) = sought t literal table s ≡ Err r
SoughtIs t literal table s (Ok p) = (f : Sought) × (sought t literal table s ≡ Ok f) × PlaceIs literal s p f

-- ---- the answer

-- null's rows are counted as they stand once placed; the field is left as it was
abbrev pub NullCount : ℕ → Result (List ℕ) Refusal → Result ℕ Refusal → Type 0
NullCount n o (Err r) = o ≡ Err r
NullCount n o (Ok k) = (placed : List ℕ) × (o ≡ Ok placed) × (k ≡ count placed n)

pub record CountsNull (s : List ℕ) (h : Summary) (before after : List ℕ) (r : Result ℕ Refusal) : Type 0 where
  pub outcome : NullCount h.rows (place_in first_number s h (nulls_of h) before) r
  pub kept : after ≡ before

abbrev pub PlacesFound : List ℕ → List ℕ → Summary → Found → List ℕ → List ℕ → Result ℕ Refusal → Type 0
PlacesFound v s h f before after r = Places h.rows (place_in f.compared s h (hit_of v f)) before after r

-- a reading in the code's terms: the record of the answer, and values compared
abbrev pub accepted_of : Looked → Accepted
accepted_of a = record { said = a.answer.said; compared = a.compared }

-- what a reading says in the code's terms, and the buffer, `otherwise` where it is a refusal
pub record Answers (o : Result Looked Refusal) (otherwise after : List ℕ) (r : Result Accepted Refusal) : Type 0 where
  pub answer : r ≡ and_then o (λ a. Ok (accepted_of a))
  pub buffer : after ≡ looked_buffer o otherwise

abbrev pub AnswersIn : List ℕ → Located → List ℕ → List ℕ → Result Accepted Refusal → Type 0
AnswersIn s p before after r =
    (v : List ℕ) (f : Sought) → PlaceIs v s p f → Answers (looked_in f (cleared f.rows before)) (cleared f.rows before) after r

-- the whole: the field as `look_up_buffer` says
pub record LooksUp (t edition : ℕ) (literal table body before after : List ℕ) (r : Result Accepted Refusal) : Type 0 where
  pub answer : r ≡ and_then (looked_up t edition literal table body before) (λ a. Ok (accepted_of a))
  pub buffer : after ≡ look_up_buffer t edition literal table body before
