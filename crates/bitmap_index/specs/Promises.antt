-- What contracts say, in the reading's terms: of Audit and Ask, then of the functions that they are made of.
use Rattle.std.specs.Prelude.{◌≡◌, ℕ, ◌+◌, ◌<◌, ◌≤◌, Bool, List, [], ◌++◌, ℤ, pos, negsuc, length, drop, Result, Err, Ok, Option, Some, None}
use Rattle.std.specs.Borrow.{Bor}
use Rattle.numbers.specs.Meaning.{All, same, signed32, row, position}
use Rattle.refusal.specs.declared.Refusal.{Refusal}
use Rattle.refusal.specs.Reading.{numbers_of, fault_in}
use Rattle.row_field.specs.Meaning.{size, count, cleared}
use Rattle.subtract.specs.declared.Answer.{Answer as Said}
use Rattle.subtract.specs.Meaning.{no_record}
use Rattle.roaring.specs.Promises.{SoundBelow}
use Rattle.stored_value.specs.Meaning.{Cell, listed, most_literals}
use Rattle.stored_value.specs.Reading.{literals}
use Rattle.stored_value.specs.Promises.{Entered}
use Rattle.dictionary.specs.declared.EntryAt.{EntryAt}
use Rattle.dictionary.specs.declared.Summary.{Summary}
use Rattle.dictionary.specs.Promises.{nulls_of, dictionary_of, Summarizes, IsRead, entry_at}
use Rattle.dictionary.specs.Layout.{Entry}
use Rattle.dictionary.specs.Reading.{Dictionary}
use Rattle.bitmap_index.specs.declared.Place.{Place}
use Rattle.bitmap_index.specs.declared.Place.TheVariants.{Single}
use Rattle.bitmap_index.specs.declared.Question.{Question}
use Rattle.bitmap_index.specs.declared.TypedQuestion.{TypedQuestion}
use Rattle.bitmap_index.specs.declared.Sought.{Sought}
use Rattle.bitmap_index.specs.Names.{question_of}
use Rattle.bitmap_index.specs.Meaning.{is_in, scan, null_question, scan_record}
use Rattle.bitmap_index.specs.Reading.{first_number, place_entries, prepared, audited, audit, audit_buffer, chosen_of, mark_entries, matched_for, Answer, answered, well_formed, ask, answer_buffer, ask_buffer, audit_out, audit_numbers, audit_fault, answered_by, ask_out, ask_numbers, ask_fault}

-- ---- Audit and Ask, for any bytes: the answer, what the lent buffer then holds, the answer's number with its count or record, and where its fault is

pub record AuditPromise (t : ℕ) (body before after : List ℕ) (r : Result ℕ Refusal) : Type 0 where
  pub answer : r ≡ audit t body before
  pub buffer : after ≡ audit_buffer t body before
  pub numbers : audit_out r ≡ numbers_of 0 audit_numbers (audit t body before)
  pub fault : audit_fault r ≡ fault_in (audit t body before)

pub record AskPromise (t : ℕ) (q : Question) (literal body before after : List ℕ) (r : Result Said Refusal) : Type 0 where
  pub answer : r ≡ answered_by (ask t q literal body before)
  pub buffer : after ≡ ask_buffer t q literal body before
  pub numbers : ask_out r ≡ numbers_of no_record ask_numbers (ask t q literal body before)
  pub fault : ask_fault r ≡ fault_in (ask t q literal body before)

-- the answer of a column's scan in a lent buffer: the scan's field, what lies behind it as it was, and the scan's record. Claims says that Ask's answer is
-- this one
abbrev pub scan_answer : Question → List (List ℕ) → List Cell → List ℕ → Answer
scan_answer q ls cells buffer = record { buffer = (scan q ls cells).field ++ drop (size (length cells)) buffer; said = scan_record q ls cells }

-- ---- what comes before a byte of the field is written

-- what holds of the values' entries, of which the dictionary's summary is true
abbrev pub ForEntries : ℕ → List ℕ → Summary → (List Entry → Type 0) → Type 0
ForEntries t body h P = (es : List Entry) → Summarizes t body h es → P es

-- what holds of the dictionary with that summary
abbrev pub ForDictionary : ℕ → List ℕ → Summary → (Dictionary → Type 0) → Type 0
ForDictionary t body h P = ForEntries t body h (λ es. P (dictionary_of body h es))

-- `prepare`: the refusal, or the summary of the dictionary that the reading has
abbrev pub Prepares : ℕ → List ℕ → List ℕ → Result Summary Refusal → Type 0
Prepares t body field (Err r) = prepared t body field ≡ Err r
Prepares t body field (Ok h) = (is : IsRead t body h) × (prepared t body field ≡ Ok (dictionary_of body h is.entries))

-- the bytes are read as a dictionary with this summary, and the lent field has room for its rows
pub record Ready (t : ℕ) (body : List ℕ) (h : Summary) (field : List ℕ) : Type 0 where
  pub is_read : IsRead t body h
  pub room : size h.rows ≤ length field

-- the question is well formed, with some literals
abbrev pub Asked : ℕ → Question → List ℕ → List ℕ → Type 0
Asked t q literal body = (ls : List (List ℕ)) × (well_formed t q literal body ≡ Ok ls)

-- what holds of its literals
abbrev pub ForQuestion : ℕ → Question → List ℕ → List ℕ → (List (List ℕ) → Type 0) → Type 0
ForQuestion t q literal body P = (ls : List (List ℕ)) → well_formed t q literal body ≡ Ok ls → P ls

-- `test_question`: the refusal, or that the question is well formed
abbrev pub TestsQuestion : ℕ → Question → List ℕ → List ℕ → Result (Unit {0}) Refusal → Type 0
TestsQuestion t q literal body (Err r) = well_formed t q literal body ≡ Err r
TestsQuestion t q literal body (Ok done) = Asked t q literal body

-- the same, with the question as the code's own type
abbrev pub TypesQuestion : ℕ → Question → List ℕ → List ℕ → Result TypedQuestion Refusal → Type 0
TypesQuestion t q literal body (Err r) = well_formed t q literal body ≡ Err r
TypesQuestion t q literal body (Ok typed) = (question_of typed ≡ q) × Asked t q literal body

-- where an entry's rows are, by its offset
abbrev pub place_of : ℤ → Place
place_of (negsuc r) = Single (row r)
place_of (pos o) = Place.Bitmap (position o)

-- ---- placing rows in a field of n rows

-- what placing rows comes to: a refusal; or what it leaves, in which so many more rows are set
abbrev pub ComesTo : ℕ → Result (List ℕ) Refusal → List ℕ → List ℕ → Result ℕ Refusal → Type 0
ComesTo n o before after (Err r) = o ≡ Err r
ComesTo n o before after (Ok k) = (o ≡ Ok after) × (count after n ≡ count before n + k)

-- rows are placed as `step` says of the field before; and refused or not, no byte behind the field has changed
pub record Places (n : ℕ) (step : List ℕ → Result (List ℕ) Refusal) (before after : List ℕ) (r : Result ℕ Refusal) : Type 0 where
  pub outcome : ComesTo n (step before) before after r
  pub behind : cleared n after ≡ cleared n before

-- entries of a body with this summary, placed in a field; `next` is the number of the next value's entry
abbrev pub place_in : ℕ → List ℕ → Summary → List Entry → List ℕ → Result (List ℕ) Refusal
place_in next body h es = place_entries next h.rows (drop h.region.0 body) es

-- the rows of null's entry, if there is one, and of the values' entries
abbrev pub PlacesNull : List ℕ → Summary → List ℕ → List ℕ → Result ℕ Refusal → Type 0
PlacesNull body h before after r = Places h.rows (place_in first_number body h (nulls_of h)) before after r

abbrev pub PlacesValues : ℕ → List ℕ → Summary → List ℕ → List ℕ → Result ℕ Refusal → Type 0
PlacesValues t body h before after r = ForEntries t body h (λ es. Places h.rows (place_in first_number body h es) before after r)

-- ---- setting rows in a field of n rows, without a test whether one was set already

-- what it comes to: nothing that is told; or up to so many more rows are set, and where they are so many, placing them leaves the same
abbrev pub SetTo : ℕ → Result (List ℕ) Refusal → List ℕ → List ℕ → Result ℕ Refusal → Type 0
SetTo n o before after (Err r) = Unit {0}
SetTo n o before after (Ok k) = (count after n ≤ count before n + k) × (count after n ≡ count before n + k → o ≡ Ok after)

-- rows are set in place of `step`, as `SetTo` says; and refused or not, no byte behind the field has changed
pub record Sets (n : ℕ) (step : List ℕ → Result (List ℕ) Refusal) (before after : List ℕ) (r : Result ℕ Refusal) : Type 0 where
  pub outcome : SetTo n (step before) before after r
  pub behind : cleared n after ≡ cleared n before

-- those of the values' entries
abbrev pub SetsValues : ℕ → List ℕ → Summary → List ℕ → List ℕ → Result ℕ Refusal → Type 0
SetsValues t body h before after r = ForEntries t body h (λ es. Sets h.rows (place_in first_number body h es) before after r)

-- ---- marking the rows of chosen entries, once an audit has placed every entry's

-- where an offset is not negative, a bitmap stands at its place, with all its rows below n
abbrev pub SoundAt : ℕ → List ℕ → ℤ → Type 0
SoundAt n region (negsuc r) = Unit {0}
SoundAt n region (pos o) = SoundBelow n (drop o region)

abbrev pub SoundEntry : List ℕ → Summary → Entry → Type 0
SoundEntry body h e = SoundAt h.rows (drop h.region.0 body) (signed32 e.offset)

-- so it is with one entry, whose value lies in the body; with null's, if there is one; and with all
pub record SoundEntryAt (body : List ℕ) (h : Summary) (e : EntryAt) : Type 0 where
  pub region : h.region.0 ≤ length body
  pub start : e.start.0 ≤ e.end.0
  pub end : e.end.0 ≤ length body
  pub sound : SoundEntry body h (entry_at body e)

pub record SoundNull (body : List ℕ) (h : Summary) : Type 0 where
  pub region : h.region.0 ≤ length body
  pub sound : All (SoundEntry body h) (nulls_of h)

pub record AllSound (t : ℕ) (body : List ℕ) (h : Summary) : Type 0 where
  pub is_read : IsRead t body h
  pub sound : ForEntries t body h (λ es. All (SoundEntry body h) (nulls_of h ++ es))

-- how the code looks accepted literals up: in a table that holds them, or one by one
abbrev pub Holds : List ℕ → Option (Bor (List ℕ)) → List (List ℕ) → Type 0
Holds literal None ls = Unit {0}
Holds literal (Some table) ls = Entered literal table.now ls

pub record Listing (w : Sought) (ls : List (List ℕ)) : Type 0 where
  pub accepted : literals w.t most_literals [] w.literals.now ≡ Ok ls
  pub held : Holds w.literals.now w.table ls

-- whether a value is listed
abbrev pub FindsListed : Sought → List ℕ → Bool → Type 0
FindsListed w v r = (ls : List (List ℕ)) → Listing w ls → r ≡ listed v ls

-- the same for any question: the one literal of EQUAL and NOT EQUAL is the whole buffer
pub record Lookup (w : Sought) (ls : List (List ℕ)) : Type 0 where
  pub one : (question_of w.question).name < is_in → (v : List ℕ) → listed v ls ≡ same v w.literals.now
  pub many : Listing w ls

abbrev pub SomeLookup : Sought → Type 0
SomeLookup w = (ls : List (List ℕ)) × Lookup w ls

abbrev pub ForLookup : Sought → (List (List ℕ) → Type 0) → Type 0
ForLookup w P = (ls : List (List ℕ)) → Lookup w ls → P ls

-- the rows of those of the entries es that are chosen are marked
abbrev pub MarksChosen : List ℕ → Summary → Question → List (List ℕ) → List Entry → List ℕ → List ℕ → Type 0
MarksChosen body h q ls es before after = after ≡ mark_entries (drop h.region.0 body) (chosen_of q ls es) before

-- those of all entries, to a question that is well formed
abbrev pub MarksAsked : ℕ → List ℕ → Summary → Question → List ℕ → List ℕ → List ℕ → Type 0
MarksAsked t body h q literal before after =
    ForEntries t body h (λ es. ForQuestion t q literal body (λ ls. MarksChosen body h q ls (nulls_of h ++ es) before after))

-- ---- what is said once rows are placed or marked

-- what an audit of the dictionary d comes to: a refusal; or it is accepted, and null has so many rows
abbrev pub AuditComesTo : Dictionary → List ℕ → Result ℕ Refusal → Type 0
AuditComesTo d zero (Err r) = audited d zero ≡ Err r
AuditComesTo d zero (Ok k) = (audited d zero ≡ Ok d.rows) × (k ≡ matched_for null_question [] d zero)

-- an audit in a field that is zero, after which no byte behind the field has changed
pub record AuditsZero (d : Dictionary) (zero after : List ℕ) (r : Result ℕ Refusal) : Type 0 where
  pub outcome : AuditComesTo d zero r
  pub behind : cleared d.rows after ≡ cleared d.rows zero

-- the same of an audit that may tell nothing
abbrev pub QuickComesTo : Dictionary → List ℕ → Result ℕ Refusal → Type 0
QuickComesTo d zero (Err r) = Unit {0}
QuickComesTo d zero (Ok k) = AuditComesTo d zero (Ok k)

pub record AuditsQuick (d : Dictionary) (zero after : List ℕ) (r : Result ℕ Refusal) : Type 0 where
  pub outcome : QuickComesTo d zero r
  pub behind : cleared d.rows after ≡ cleared d.rows zero

-- an audit in any field, which it leaves zero
pub record AuditsField (d : Dictionary) (before after : List ℕ) (r : Result ℕ Refusal) : Type 0 where
  pub outcome : AuditComesTo d (cleared d.rows before) r
  pub buffer : after ≡ cleared d.rows before

-- what was answered, and what the buffer then holds: `otherwise` where it was refused
pub record Answers (o : Result Answer Refusal) (otherwise after : List ℕ) (r : Result Said Refusal) : Type 0 where
  pub answer : r ≡ answered_by o
  pub buffer : after ≡ answer_buffer o otherwise

-- an audit in this field accepted the dictionary and found so many null rows
pub record AuditAccepts (t : ℕ) (body : List ℕ) (h : Summary) (zero : List ℕ) (nulls : ℕ) : Type 0 where
  pub is_read : IsRead t body h
  pub accepts : ForDictionary t body h (λ d. AuditComesTo d zero (Ok nulls))

-- an answer in a field that is zero
abbrev pub AnswersZero : ℕ → Question → List ℕ → List ℕ → Dictionary → List ℕ → List ℕ → Said → Type 0
AnswersZero t q literal body d zero after r = ForQuestion t q literal body (λ ls. Answers (Ok (answered q ls d zero)) (cleared d.rows zero) after (Ok r))
