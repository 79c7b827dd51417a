-- A body of a column, audited and asked behind its dictionary, answers as the scan. What is marked is always the rows of the cells that pass a test: none
-- at first, and with each entry those of its cell besides.
use Prim.Native.Nat.{ℕ, suc, ◌+◌, ◌≤◌}
use mathlib.Core.Path.{◌≡◌, refl, sym, ap, ◌∙◌}
use mathlib.Core.Bool.{Bool, true, false, ◌&&◌, ◌||◌, cond, or_assoc, or-false, or-true, and-true, and-false}
use mathlib.Core.List.{List, [], ◌∷◌, ◌++◌}
use native.Mathlib.Nat.{zero-add, add-zero}
use native.Mathlib.Omega.{arith}
use borrow.Author.Tests.{eq-eqb}
use lib.Dec.{eqb}
use lib.ListN.{length, drop, replicate}
use Rattle.numbers.specs.Meaning.{All, Bytes, row}
use Rattle.row_field.specs.Meaning.{size, mark, mark_all, field_of, cleared, count, first_clear_row}
use Rattle.row_field.proofs.Counts.{bytes-zeroed}
use Rattle.subtract.specs.declared.Record.{Record}
use Rattle.stored_value.specs.Meaning.{Cell, same_cell}
use Rattle.refusal.specs.Meaning.{limit}
use Rattle.refusal.specs.declared.Refusal.{Refusal}
use Rattle.refusal.specs.declared.Refusal.TheVariants.{Missing}
use Rattle.std.specs.Prelude.{Result, Ok}
use Rattle.refusal.specs.Reading.{check, and_then}
use Rattle.stored_value.proofs.Laws.{same_cell→eq, same_cell-sym}
use Rattle.dictionary.specs.Layout.{Entry, some_has}
use Rattle.dictionary.specs.Reading.{Dictionary}
use Rattle.dictionary.specs.Claims.{Once}
use Rattle.bitmap_index.specs.declared.Question.{Question}
use Rattle.bitmap_index.specs.Meaning.{chosen, scan, scan_from, null_question, scan_record}
use Rattle.bitmap_index.specs.Layout.{rows_with, EntryRows, ExactRows, Covers}
use Rattle.bitmap_index.specs.Reading.{next_number, first_number, place_entry, place_entries, audited, chosen_of, rows_at, mark_entries, marked_for, matched_for, Answer, answered}
use Rattle.bitmap_index.specs.Promises.{scan_answer}
use Rattle.bitmap_index.proofs.LaidRows.{rows_at_lem, place_one}
use Rattle.bitmap_index.proofs.Rows.{rows_where, rows_with_lem, all-cells, rows_ext, rows_none, rows_all, rows-below, Apart, rows_join, Free, rows_free, cleared_free, rows_marked, rows_counted}

-- ---- the rows of many entries

-- a cell that stands among es is not one that does not
pub other_cell : (c d : Cell) (es : List Entry) → some_has d es ≡ false → some_has c es ≡ true → same_cell d c ≡ false
other_cell c d es n y = go (same_cell d c) refl
  where
    go : (b : Bool) → same_cell d c ≡ b → b ≡ false
    go true s =
        let e = same_cell→eq d c s in
        sym y ∙ ap (λ (x : Cell). some_has x es) (sym e) ∙ n
    go false s = refl

module _ (region : List ℕ) (cells : List Cell) (z : List ℕ) (short : length region ≤ limit) (b : Bytes z) where
  -- one entry more: its rows are marked besides
  marked_one : (p : Cell → Bool) (e : Entry) → EntryRows region (rows_with e.cell 0 cells) e
      → mark_all (mark_all z (rows_where p 0 cells)) (rows_at region e) ≡ mark_all z (rows_where (λ c. p c || same_cell e.cell c) 0 cells)
  marked_one p e a =
      rw (rows_at_lem region e short (rows_with e.cell 0 cells) a, rows_with_lem e.cell 0 cells) (rows_join z p (same_cell e.cell) cells b)

  -- with the rows of cells that pass p marked, the rows of entries are marked besides
  marked_besides : (p : Cell → Bool) (es : List Entry) → ExactRows region cells es
      → mark_entries region es (mark_all z (rows_where p 0 cells)) ≡ mark_all z (rows_where (λ c. p c || some_has c es) 0 cells)
  unfolding mark_entries
  marked_besides p [] a =
      ap (λ (rs : List ℕ). mark_all z rs) (rows_ext p (λ c. p c || false) 0 cells (all-cells (λ c. p c ≡ p c || false) cells (λ c. sym (or-false (p c)))))
  marked_besides p (e ∷ es) a =
      let q : Cell → Bool = λ c. p c || same_cell e.cell c in
      ap (mark_entries region es) (marked_one p e a.0)
      ∙ marked_besides q es a.1
      ∙ ap (λ (rs : List ℕ). mark_all z rs) (rows_ext (λ c. q c || some_has c es) (λ c. p c || some_has c (e ∷ es)) 0 cells
      (all-cells (λ c. q c || some_has c es ≡ p c || some_has c (e ∷ es)) cells (λ c. or_assoc (p c) (same_cell e.cell c) (some_has c es) ∙ rw (same_cell-sym c e.cell))))

  pub marked_all : (es : List Entry) → ExactRows region cells es → mark_entries region es z ≡ mark_all z (rows_where (λ c. some_has c es) 0 cells)
  unfolding mark_all
  marked_all es a = rw (rows_none 0 cells) at (marked_besides (λ c. false) es a)

module _ (region : List ℕ) (cells : List Cell) (z : List ℕ) (short : length region ≤ limit) (f : Free (length cells) z) where
  placed_one : (next : ℕ) (p : Cell → Bool) (e : Entry) → EntryRows region (rows_with e.cell 0 cells) e → Apart p (same_cell e.cell)
      → place_entry next (length cells) region (mark_all z (rows_where p 0 cells)) e ≡ Ok (mark_all z (rows_where (λ c. p c || same_cell e.cell c) 0 cells))
  placed_one next p e a h =
      let q : Cell → Bool = same_cell e.cell in
      place_one next (length cells) region (mark_all z (rows_where p 0 cells)) e short (rows_where q 0 cells) (rw (rows_with_lem e.cell 0 cells) at a)
      (rows-below q cells) (rows_free z p q cells f h)
      ∙ ap Ok (rows_join z p q cells f.bytes)

  -- entries whose cells do not pass p are placed, with the rows of cells that pass it marked: what is placed is what is marked
  placed_besides : (next : ℕ) (p : Cell → Bool) (es : List Entry) → ExactRows region cells es → Once es → Apart p (λ c. some_has c es)
      → place_entries next (length cells) region es (mark_all z (rows_where p 0 cells)) ≡ Ok (mark_entries region es (mark_all z (rows_where p 0 cells)))
  unfolding place_entries mark_entries and_then
  placed_besides next p [] a o h = refl
  placed_besides next p (e ∷ es) a o h =
      let q : Cell → Bool = λ c. p c || same_cell e.cell c in
      let after : ℕ = next_number next e.cell in
      ap (λ (x : Result (List ℕ) Refusal). and_then x (place_entries after (length cells) region es))
      (placed_one next p e a.0 (λ c x. h c (rw (same_cell-sym c e.cell, x))))
      ∙ placed_besides after q es a.1 o.1 (λ c x. rw (h c (rw x (or-true (same_cell c e.cell))), other_cell c e.cell es o.0 x))
      ∙ ap (λ (g : List ℕ). Ok (mark_entries region es g)) (sym (marked_one region cells z short f.bytes p e a.0))

  pub placed-all : (next : ℕ) (es : List Entry) → ExactRows region cells es → Once es
      → place_entries next (length cells) region es z ≡ Ok (mark_all z (rows_where (λ c. some_has c es) 0 cells))
  unfolding mark_all
  placed-all next es a o =
      (rw (rows_none 0 cells) at (placed_besides next (λ c. false) es a o (λ c x. refl))) ∙ ap Ok (marked_all region cells z short f.bytes es a)

-- ---- the audit

-- the dictionary of a body of the column
abbrev pub column_dictionary : List Cell → List Entry → List ℕ → Dictionary
column_dictionary cells es region = record { rows = length cells; entries = es; region = region }

-- what a body of the column says behind its dictionary
pub record HasColumn (cells : List Cell) (es : List Entry) (region : List ℕ) : Type 0 where
  pub placed : ExactRows region cells es
  pub once : Once es
  pub covers : Covers es cells
  pub short : length region ≤ limit

module _ (cells : List Cell) (es : List Entry) (region field : List ℕ) (w : HasColumn cells es region) (b : Bytes field) (h : size (length cells) ≤ length field) where
  pub column_audited : audited (column_dictionary cells es region) (cleared (length cells) field) ≡ Ok (length cells)
  unfolding audited and_then check
  column_audited =
      let zero : List ℕ = cleared (length cells) field in
      let p : Cell → Bool = λ c. some_has c es in
      let full : List ℕ = mark_all zero (rows_where p 0 cells) in
      let n : count full (length cells) ≡ length cells = rows_counted p cells field h ∙ rows_all p 0 cells w.covers in
      ap (λ (o : Result (List ℕ) Refusal). and_then o (λ f.
      check (eqb (count f (length cells)) (length cells)) (Missing (row (first_clear_row f 0 (length cells)))) (Ok (length cells))))
      (placed-all region cells zero w.short (cleared_free (length cells) field b h) first_number es w.placed w.once)
      ∙ rw (eq-eqb (count full (length cells)) (length cells) n)

-- ---- questions

module _ (q : Question) (ls : List (List ℕ)) where
  -- a cell stands among the chosen entries if the question chooses it and it stands among all
  pub chosen-has : (c : Cell) (es : List Entry) → some_has c (chosen_of q ls es) ≡ chosen q ls c && some_has c es
  unfolding chosen_of
  chosen-has c [] = sym (and-false (chosen q ls c))
  chosen-has c (e ∷ es) = go (same_cell c e.cell) (chosen q ls e.cell) refl refl (chosen-has c es)
    where
      go : (s b : Bool) → same_cell c e.cell ≡ s → chosen q ls e.cell ≡ b → some_has c (chosen_of q ls es) ≡ chosen q ls c && some_has c es
          → some_has c (cond b (e ∷ chosen_of q ls es) (chosen_of q ls es)) ≡ chosen q ls c && (s || some_has c es)
      go true true x y i =
          let e = same_cell→eq c e.cell x in
          rw (x, e, y)
      go true false x y i =
          let d = ap (λ (k : Cell). chosen q ls k) (same_cell→eq c e.cell x) ∙ y in
          i ∙ rw d
      go false true x y i = rw x i
      go false false x y i = i

  pub chosen-placed : (region : List ℕ) (cells : List Cell) (es : List Entry) → ExactRows region cells es → ExactRows region cells (chosen_of q ls es)
  unfolding chosen_of
  chosen-placed region cells [] a = tt
  chosen-placed region cells (e ∷ es) a = go (chosen q ls e.cell) (chosen-placed region cells es a.1)
    where
      go : (b : Bool) → ExactRows region cells (chosen_of q ls es) → ExactRows region cells (cond b (e ∷ chosen_of q ls es) (chosen_of q ls es))
      go true i = (a.0, i)
      go false i = i

  chosen_covers : (es : List Entry) (cells : List Cell) → Covers es cells → All (λ c. some_has c (chosen_of q ls es) ≡ chosen q ls c) cells
  chosen_covers es [] h = tt
  chosen_covers es (c ∷ cells) h = (chosen-has c es ∙ rw h.0 (and-true (chosen q ls c)), chosen_covers es cells h.1)

  -- the scan marks the rows of the cells that the question chooses, and counts them
  scan_from_lem : (r : ℕ) (f : List ℕ) (m : ℕ) (cells : List Cell)
      → scan_from q ls r f m cells ≡ record { field = mark_all f (rows_where (chosen q ls) r cells); matched = m + length (rows_where (chosen q ls) r cells) }
  unfolding scan_from mark_all
  scan_from_lem r f m [] = rw (add-zero m)
  scan_from_lem r f m (c ∷ cells) = go (chosen q ls c) (scan_from_lem (r + 1) (mark f r) (m + 1) cells) (scan_from_lem (r + 1) f m cells)
    where
      rs : List ℕ
      rs = rows_where (chosen q ls) (r + 1) cells

      go : (b : Bool)
          → scan_from q ls (r + 1) (mark f r) (m + 1) cells ≡ record { field = mark_all (mark f r) rs; matched = m + 1 + length rs }
          → scan_from q ls (r + 1) f m cells ≡ record { field = mark_all f rs; matched = m + length rs }
          → cond b (scan_from q ls (r + 1) (mark f r) (m + 1) cells) (scan_from q ls (r + 1) f m cells)
          ≡ record { field = mark_all f (cond b (r ∷ rs) rs); matched = m + length (cond b (r ∷ rs) rs) }
      go true x y = let e : m + 1 + length rs ≡ m + suc (length rs) = omega arith in x ∙ rw e
      go false x y = y

  pub scanned : (cells : List Cell)
      → scan q ls cells ≡ record { field = field_of (length cells) (rows_where (chosen q ls) 0 cells); matched = length (rows_where (chosen q ls) 0 cells) }
  unfolding scan
  scanned cells = rw zero-add at (scan_from_lem 0 (replicate (size (length cells)) 0) 0 cells)

  module _ (cells : List Cell) (es : List Entry) (region field : List ℕ) (w : HasColumn cells es region) (b : Bytes field) (h : size (length cells) ≤ length field) where
    column_rows : marked_for q ls (column_dictionary cells es region) (cleared (length cells) field)
        ≡ mark_all (cleared (length cells) field) (rows_where (chosen q ls) 0 cells)
    unfolding marked_for
    column_rows =
        let zero : List ℕ = cleared (length cells) field in
        let p : Cell → Bool = λ c. some_has c (chosen_of q ls es) in
        marked_all region cells zero w.short (bytes-zeroed (size (length cells)) field b) (chosen_of q ls es) (chosen-placed region cells es w.placed)
        ∙ ap (λ (rs : List ℕ). mark_all zero rs) (rows_ext p (chosen q ls) 0 cells (chosen_covers es cells w.covers))

    column_marked : marked_for q ls (column_dictionary cells es region) (cleared (length cells) field)
        ≡ (scan q ls cells).field ++ drop (size (length cells)) field
    column_marked = column_rows ∙ rw (scanned cells) (rows_marked (chosen q ls) cells field h)

    column_matched : matched_for q ls (column_dictionary cells es region) (cleared (length cells) field) ≡ (scan q ls cells).matched
    unfolding matched_for
    column_matched = ap (λ (f : List ℕ). count f (length cells)) column_rows ∙ rw (scanned cells) (rows_counted (chosen q ls) cells field h)

module _ (q : Question) (ls : List (List ℕ)) (cells : List Cell) (es : List Entry) (region field : List ℕ) (w : HasColumn cells es region) (b : Bytes field) (h : size (length cells) ≤ length field) where
  pub column_answered : answered q ls (column_dictionary cells es region) (cleared (length cells) field)
      ≡ scan_answer q ls cells field
  unfolding answered scan_record
  column_answered =
      both (column_marked q ls cells es region field w b h)
      (rw (column_matched q ls cells es region field w b h, column_matched null_question [] cells es region field w b h))
    where
      both : {x y : List ℕ} {c d : Record} → x ≡ y → c ≡ d → ◌≡◌ {A = Answer} (record { buffer = x; said = c }) (record { buffer = y; said = d })
      both e f = rw (e, f)
