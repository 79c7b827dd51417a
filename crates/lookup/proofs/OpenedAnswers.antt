-- A lookup on a body that Open accepted, with the table as it left it, is answered as Ask answers EQUAL: on the body's layout, then from what Open says of it.
use Prim.Native.Nat.{ℕ, ◌<◌, ◌≤◌}
use native.Mathlib.Decide.{dec_lt}
use native.Mathlib.Omega.{arith}
use mathlib.Core.Path.{◌≡◌, refl, ◌∙◌}
use mathlib.Core.List.{List, ◌++◌}
use lib.ListN.{length, drop}
use borrow.Author.Tests.{le-leb, lt-leb}
use Rattle.numbers.specs.Meaning.{joined, sign_bit, Bytes}
use Rattle.refusal.specs.Meaning.{limit}
use Rattle.refusal.specs.declared.Refusal.{Refusal}
use Rattle.refusal.specs.declared.Refusal.TheVariants.{Room}
use Rattle.std.specs.Prelude.{Result, Err, Ok}
use Rattle.refusal.specs.Reading.{check, and_then}
use Rattle.row_field.specs.Meaning.{size, cleared}
use Rattle.stored_value.specs.Meaning.{Cell}
use Rattle.dictionary.specs.Layout.{Entry, Patterns, body2}
use Rattle.dictionary.specs.Reading.{Dictionary, dictionary}
use Rattle.dictionary.proofs.LaidOut.{two_laid, patterns_cut}
use Rattle.dictionary.proofs.Theorems.{two_has_each_once}
use Rattle.bitmap_index.specs.Meaning.{equal, question, WellFormed}
use Rattle.bitmap_index.specs.Reading.{room_for, prepared, zeroed_from, well_formed, answered, audited_answer, ask, answer_buffer, ask_buffer}
use Rattle.bitmap_index.specs.Promises.{scan_answer}
use Rattle.bitmap_index.proofs.BodyAnswers.{all_patterns, region2}
use Rattle.bitmap_index.proofs.ScanAnswers.{column_dictionary, HasColumn, column_audited}
use Rattle.bitmap_index.proofs.Theorems.{column_is_answered}
use Rattle.opening.specs.Layout.{entry_starts}
use Rattle.opening.specs.Reading.{front}
use Rattle.opening.specs.Claims.{InBlocks, OpenedIs}
use Rattle.opening.proofs.FrontLaid.{front_laid}
use Rattle.opening.proofs.Theorems.{front_of, is_column}
use Rattle.lookup.specs.Reading.{Halved, Searched, Sought, sought, Looked, looked_in, lookable, looked_up, refused_buffer, looked_buffer, look_up_buffer, answer_of}
use Rattle.lookup.proofs.BlockLaid.{equals, chooses_literal}
use Rattle.lookup.proofs.SoughtLaid.{found_inside, sought_laid}
use Rattle.lookup.proofs.RowsPlaced.{looked_laid}

-- answer and buffer are Ask's
abbrev pub AnsweredAlike : ℕ → ℕ → List ℕ → List ℕ → List ℕ → List ℕ → Type 0
AnsweredAlike t edition literal table body lent =
    (answer_of (looked_up t edition literal table body lent) ≡ ask t (question edition equal) literal body lent)
    × (look_up_buffer t edition literal table body lent ≡ ask_buffer t (question edition equal) literal body lent)

module _ (t edition : ℕ) (literal table body lent : List ℕ) where
  -- a question that isn't well formed is refused by both
  not-well_formed : (r : Refusal) → well_formed t (question edition equal) literal body ≡ Err r → AnsweredAlike t edition literal table body lent
  unfolding lookable looked_up look_up_buffer refused_buffer looked_buffer answer_of ask ask_buffer answer_buffer zeroed_from and_then
  not-well_formed r e = (rw e, rw e)

  -- a well-formed one, of what both find: too short a field is ROOM
  short_of_room : (ls : List (List ℕ)) (f : Sought) → well_formed t (question edition equal) literal body ≡ Ok ls → sought t literal table body ≡ Ok f
      → length lent < size f.rows → prepared t body lent ≡ Err Room → AnsweredAlike t edition literal table body lent
  unfolding lookable looked_up look_up_buffer refused_buffer looked_buffer answer_of ask ask_buffer answer_buffer zeroed_from and_then check
  short_of_room ls f e s h p = (rw (e, s, lt-leb (size f.rows) (length lent) h, p), rw (e, s, lt-leb (size f.rows) (length lent) h, p))

  -- else both answer
  both_answer : (ls : List (List ℕ)) (f : Sought) (a : Looked) → well_formed t (question edition equal) literal body ≡ Ok ls → sought t literal table body ≡ Ok f
      → size f.rows ≤ length lent → looked_in f (cleared f.rows lent) ≡ Ok a → ask t (question edition equal) literal body lent ≡ Ok a.answer
      → AnsweredAlike t edition literal table body lent
  unfolding lookable looked_up look_up_buffer looked_buffer answer_of ask_buffer answer_buffer and_then check
  both_answer ls f a e s h l k = (rw (e, s, le-leb (size f.rows) (length lent) h, l, k), rw (e, s, le-leb (size f.rows) (length lent) h, l, k))

-- ---- on a body that is laid out

module _ (t : ℕ) (cells : List Cell) (nulls : List Entry) (bs : List (List Entry)) (region : List ℕ) (laid : InBlocks t cells nulls bs region) where
  abbrev body : List ℕ
  body = body2 (length cells) nulls bs region

  abbrev read : Dictionary
  read = column_dictionary cells (nulls ++ joined bs) region

  region_short : length region ≤ limit
  region_short = omega (arith, region2 (length cells) nulls bs region, laid.short)

  patterns_laid : Patterns (nulls ++ joined bs)
  patterns_laid = all_patterns region cells (nulls ++ joined bs) region_short laid.entries.rows

  -- what Ask reads, and what it accepts
  dictionary_laid : dictionary t body ≡ Ok read
  dictionary_laid =
      two_laid t (length cells) nulls bs region laid.column.0 laid.entries.null_only laid.none_empty laid.rises patterns_laid laid.few_rows
      laid.few_values laid.few_blocks laid.short

  has_column : HasColumn cells (nulls ++ joined bs) region
  has_column =
      let k = laid.entries in
      record { placed = k.rows; once = two_has_each_once t nulls (joined bs) laid.rises k.null_only; covers = k.covers; short = region_short }

  module _ (edition : ℕ) (literal more lent : List ℕ) (b : Bytes lent) where
    abbrev words : List ℕ
    words = entry_starts (length cells) nulls bs ++ more

    prepared-short : length lent < size (length cells) → prepared t body lent ≡ Err Room
    unfolding prepared room_for check and_then
    prepared-short h = rw (le-leb (length body) limit laid.short, dictionary_laid, lt-leb (size (length cells)) (length lent) h)

    prepared_laid : size (length cells) ≤ length lent → prepared t body lent ≡ Ok read
    unfolding prepared room_for check and_then
    prepared_laid h = rw (le-leb (length body) limit laid.short, dictionary_laid, le-leb (size (length cells)) (length lent) h)

    asked_laid : (ls : List (List ℕ)) → well_formed t (question edition equal) literal body ≡ Ok ls → size (length cells) ≤ length lent
        → ask t (question edition equal) literal body lent ≡ Ok (answered (question edition equal) ls read (cleared (length cells) lent))
    unfolding ask audited_answer and_then
    asked_laid ls e h = rw (e, prepared_laid h, column_audited cells (nulls ++ joined bs) region lent has_column b h)

    -- of what the lookup found
    found-answered : (ls : List (List ℕ)) (h : Halved) (found : Searched) → well_formed t (question edition equal) literal body ≡ Ok ls
        → sought t literal words body ≡ Ok (found_inside (length cells) nulls region h found) → found.hit ≡ equals edition ls (joined bs)
        → AnsweredAlike t edition literal words body lent
    found-answered ls h found e seeks hit = go (dec_lt (length lent) (size (length cells)))
      where
        go : Dec (length lent < size (length cells)) → AnsweredAlike t edition literal words body lent
        go (yes l) = short_of_room t edition literal words body lent ls (found_inside (length cells) nulls region h found) e seeks l (prepared-short l)
        go (no n) =
            let room : size (length cells) ≤ length lent = omega arith in
            both_answer t edition literal words body lent ls (found_inside (length cells) nulls region h found) _ e seeks room
            (looked_laid t edition ls cells nulls bs region lent laid.entries laid.rises region_short b room h found hit) (asked_laid ls e room)

    module _ (is : front body ≡ Ok (front_laid (length cells) nulls bs region)) where
      well_formed_lem : (ls : List (List ℕ)) → well_formed t (question edition equal) literal body ≡ Ok ls → AnsweredAlike t edition literal words body lent
      well_formed_lem ls e =
          let few : length (joined bs) < sign_bit = omega (arith, laid.few_values) in
          let (h, found, seeks, hit) = sought_laid t edition (length cells) literal ls (chooses_literal t edition literal body ls e) nulls bs region more is
          laid.none_empty laid.rises (patterns_cut nulls (joined bs) patterns_laid).1 few laid.short in
          found-answered ls h found e seeks hit

      laid_answered : AnsweredAlike t edition literal words body lent
      laid_answered = go (well_formed t (question edition equal) literal body) refl
        where
          go : (o : Result (List (List ℕ)) Refusal) → well_formed t (question edition equal) literal body ≡ o → AnsweredAlike t edition literal words body lent
          go (Err r) e = not-well_formed t edition literal words body lent r e
          go (Ok ls) e = well_formed_lem ls e

-- as the scan says
pub laid_looked_up : (t : ℕ) (cells : List Cell) (nulls : List Entry) (bs : List (List Entry)) (region : List ℕ) → InBlocks t cells nulls bs region
    → (edition : ℕ) (ls : List (List ℕ)) → WellFormed t (question edition equal) ls → (behind field : List ℕ) → Bytes field → size (length cells) ≤ length field
    → answer_of (looked_up t edition (joined ls) (entry_starts (length cells) nulls bs ++ behind) (body2 (length cells) nulls bs region) field)
    ≡ Ok (scan_answer (question edition equal) ls cells field)
laid_looked_up t cells nulls bs region laid edition ls w behind field b room =
    let is = front_of t cells nulls bs region laid in
    let s : List ℕ = body2 (length cells) nulls bs region in
    (laid_answered t cells nulls bs region laid edition (joined ls) behind field b is).0
    ∙ (column_is_answered t cells s (is_column t cells nulls bs region laid) field b room).asked (question edition equal) ls w

-- ---- on a body that was opened

pub opened-answered : (t : ℕ) (body table : List ℕ) (rows many : ℕ) (words : List ℕ) → OpenedIs t body table rows many words
    → (edition : ℕ) (literal lent : List ℕ) → Bytes lent → AnsweredAlike t edition literal words body lent
opened-answered t body table rows many words o edition literal lent b =
    let is = front_of t o.cells o.nulls o.bs o.region o.laid_out in
    rw (o.so, o.starts) (laid_answered t o.cells o.nulls o.bs o.region o.laid_out edition literal (drop (length o.bs) table) lent b is)
