-- A body of a column: its literals fit a buffer, its dictionary is read, and then it is answered as the scan.
use mathlib.Core.Path.{◌≡◌, ap, ◌∙◌}
use mathlib.Core.Logic.{⊎_elim}
use Prim.Native.Nat.{ℕ, ◌*◌, ◌≤◌, ◌<◌}
use mathlib.Core.List.{List, [], ◌∷◌, ◌++◌}
use native.Mathlib.Omega.{arith}
use borrow.Author.Tests.{lt-ltb, le-leb}
use lib.ListN.{length, length-append}
use Rattle.numbers.specs.Meaning.{be, big, joined, Bytes, four_bytes}
use Rattle.numbers.proofs.Laws.{length-spelled}
use Rattle.refusal.specs.Meaning.{limit}
use Rattle.refusal.specs.declared.Refusal.{Refusal}
use Rattle.row_field.specs.Meaning.{size, cleared}
use Rattle.stored_value.specs.Meaning.{types, Cell, Value, number, string, Literals}
use Rattle.stored_value.proofs.Widths.{width-le}
use Rattle.std.specs.Prelude.{Result, Ok}
use Rattle.refusal.specs.Reading.{check, and_then}
use Rattle.stored_value.proofs.Laws.{literals_laid}
use Rattle.dictionary.specs.Layout.{Patterns}
use Rattle.dictionary.specs.Layout.{Entry, entries1, null1, body1, blocks, directory, null2, body2}
use Rattle.dictionary.specs.Reading.{Dictionary, dictionary}
use Rattle.bitmap_index.specs.declared.Question.{Question}
use Rattle.bitmap_index.specs.Meaning.{Column, questions, WellFormed}
use Rattle.bitmap_index.specs.Layout.{EntryRows, single, bitmap, ExactRows, ColumnBody, version1, version2}
use Rattle.bitmap_index.specs.Reading.{audited, room_for, prepared, audit, zeroed_from, audit_buffer, well_formed, ask, answer_buffer, ask_buffer, audited_answer}
use Rattle.bitmap_index.specs.Promises.{scan_answer}
use Rattle.bitmap_index.specs.Claims.{AnswersAsScan}
use Rattle.bitmap_index.proofs.ScanAnswers.{column_dictionary, HasColumn, column_audited, column_answered}

-- ---- a well-formed question's literals fit an input buffer

value_at_most : (t : ℕ) (v : List ℕ) → Value t v → length v ≤ 65539
value_at_most t v (number w s l b o) = omega (arith, width-le t)
value_at_most t v (string c n s l b) = simp length-append (omega (arith, length-spelled big 4 (length c)))

literals_at_most : (t : ℕ) (ls : List (List ℕ)) → Literals t ls → length (joined ls) ≤ 65539 * length ls
literals_at_most t [] h = omega arith
literals_at_most t (l ∷ ls) h = simp length-append (omega (arith, value_at_most t l h.0, literals_at_most t ls h.1))

-- ---- a body whose dictionary is read as the column's

asked_well : (t : ℕ) (q : Question) (ls : List (List ℕ)) (body : List ℕ) → length body ≤ limit → WellFormed t q ls → well_formed t q (joined ls) body ≡ Ok ls
unfolding well_formed check and_then
asked_well t q ls body h w =
    let l : length (joined ls) ≤ limit = omega (arith, literals_at_most t ls w.form, w.few) in
    rw (le-leb (length body) limit h, le-leb (length (joined ls)) limit l, lt-ltb t types w.known_type, w.known_edition_lem, lt-ltb q.name questions w.known-name, literals_laid t ls w.form w.few, w.number)

module _ (t : ℕ) (cells : List Cell) (es : List Entry) (region body field : List ℕ) (s : length body ≤ limit)
    (d : dictionary t body ≡ Ok (column_dictionary cells es region)) (w : HasColumn cells es region) (b : Bytes field) (h : size (length cells) ≤ length field) where
  prepared_well : prepared t body field ≡ Ok (column_dictionary cells es region)
  unfolding prepared room_for check and_then
  prepared_well = rw (le-leb (length body) limit s, d, le-leb (size (length cells)) (length field) h)

  audit_well : audit t body field ≡ Ok (length cells)
  unfolding audit and_then
  audit_well =
      ap (λ (o : Result Dictionary Refusal). and_then o (λ d. audited d (cleared d.rows field))) prepared_well
      ∙ column_audited cells es region field w b h

  audit_buffer_lem : audit_buffer t body field ≡ cleared (length cells) field
  unfolding audit_buffer zeroed_from
  audit_buffer_lem = rw prepared_well

  module _ (q : Question) (ls : List (List ℕ)) (g : WellFormed t q ls) where
    ask_well : ask t q (joined ls) body field ≡ Ok (scan_answer q ls cells field)
    unfolding ask audited_answer and_then
    ask_well = rw (asked_well t q ls body s g, prepared_well, column_audited cells es region field w b h) (ap Ok (column_answered q ls cells es region field w b h))

    ask_buffer_lem : ask_buffer t q (joined ls) body field ≡ (scan_answer q ls cells field).buffer
    unfolding ask_buffer answer_buffer
    ask_buffer_lem = rw ask_well

  pub answers_as_scan : AnswersAsScan t cells body field
  answers_as_scan = record { audited = audit_well; audited_buffer = audit_buffer_lem; asked = ask_well; asked_buffer = ask_buffer_lem }

-- ---- the bodies of a column

placed_patterns : (region rows : List ℕ) (e : Entry) → length region ≤ limit → EntryRows region rows e → (e.offset < four_bytes) × (e.extent < four_bytes)
placed_patterns region rows e l (single r q h o x) = (omega arith, x)
placed_patterns region rows e l (bitmap before bytes behind q m o x) =
    let k = simp length-append at (ap length q) in
    (omega arith, ⊎_elim (λ i. omega arith) (λ i. omega arith) x)

pub all_patterns : (region : List ℕ) (cells : List Cell) (es : List Entry) → length region ≤ limit → ExactRows region cells es → Patterns es
all_patterns region cells [] l a = tt
all_patterns region cells (e ∷ es) l a =
    let p = placed_patterns region _ e l a.0 in
    (p.0, p.1, all_patterns region cells es l a.1)

-- the region of bitmaps is no longer than the body
pub region1 : (n : ℕ) (nulls es : List Entry) (region : List ℕ) → length region ≤ length (body1 n nulls es region)
region1 n nulls es region = omega (arith, length-append (null1 nulls) (entries1 es ++ region), length-append (entries1 es) region)

pub region2 : (n : ℕ) (nulls : List Entry) (bs : List (List Entry)) (region : List ℕ) → length region ≤ length (body2 n nulls bs region)
region2 n nulls bs region =
    let rest : List ℕ = be 4 (length (blocks bs)) ++ (blocks bs ++ region) in
    omega (arith, length-append (null2 nulls) (be 4 (length bs) ++ (directory 0 bs ++ rest)), length-append (directory 0 bs) rest, length-append (blocks bs) region)

-- what a body of a column says of it
pub body_column : (t : ℕ) (cells : List Cell) (body : List ℕ) → ColumnBody t cells body → Column t cells × (length cells ≤ limit)
body_column t cells body (version1 nulls es region c k x d n l z) = (c, n)
body_column t cells body (version2 nulls bs region c k x r n l m z) = (c, n)
