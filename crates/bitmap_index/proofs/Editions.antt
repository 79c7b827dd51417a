-- The editions: for every question but IS NULL the second's answer is the first's without the null rows, cell by cell, hence row by row, and then of fields and
-- counts; the questions in which they agree; and numbers that are no edition's.
use Prim.Native.Nat.{ℕ, zero, suc, ◌+◌, ◌/◌, ◌<◌, ◌≤◌}
use mathlib.Core.Path.{◌≡◌, refl, sym, ap, ◌∙◌}
use mathlib.Core.Logic.{◌↔◌}
use mathlib.Core.Bool.{Bool, true, false, not, ◌&&◌, ◌||◌, cond, and-true}
use mathlib.Core.List.{List, [], ◌∷◌}
use native.Mathlib.Decide.{dec_lt}
use native.Mathlib.Omega.{arith}
use borrow.Author.Tests.{ne_eqb, lt-ltb, le-ltb, le-leb}
use lib.Dec.{eqb, ltb}
use lib.ListN.{length}
use Rattle.refusal.specs.Meaning.{limit}
use Rattle.refusal.specs.declared.Refusal.{Refusal}
use Rattle.refusal.specs.declared.Refusal.TheVariants.{Literal}
use Rattle.std.specs.Prelude.{Result, Err, Ok}
use Rattle.refusal.specs.Reading.{check, and_then}
use Rattle.row_field.specs.Meaning.{size, bit, count, cleared}
use Rattle.row_field.proofs.Laws.{field_ext}
use Rattle.subtract.specs.Meaning.{subtracted, removed, keeps}
use Rattle.subtract.proofs.Laws.{bytes-without, none_left}
use Rattle.subtract.proofs.Theorems.{clears_just_the_rows, keeps_the_length, left-and-removed}
use Rattle.stored_value.specs.Meaning.{types, most_literals, Cell, null, value}
use Rattle.stored_value.specs.Reading.{literals}
use Rattle.dictionary.specs.Layout.{Entry}
use Rattle.dictionary.specs.Reading.{Dictionary}
use Rattle.bitmap_index.specs.declared.Question.{Question}
use Rattle.bitmap_index.specs.Meaning.{not_equal, is_not_in, is_null, first_edition, second_edition, is_known_edition, question, chosen, takes, scan, null_question}
use Rattle.bitmap_index.specs.Reading.{prepared, zeroed_from, chosen_of, marked_for, matched_for, answered, audited_answer, well_formed, ask, answer_buffer, ask_buffer}
use Rattle.bitmap_index.specs.Claims.{IsWithout}
use Rattle.bitmap_index.proofs.Rows.{passes, all-cells, rows_ext}
use Rattle.bitmap_index.proofs.ScanAnswers.{scanned}
use Rattle.bitmap_index.proofs.SameColumn.{scan-length, scan-bit, scan-bytes, scan-count}

passes-past : (p : Cell → Bool) (r : ℕ) (cells : List Cell) → length cells ≤ r → passes p r cells ≡ false
passes-past p r [] h = refl
passes-past p zero (c ∷ cells) h = absurd (omega arith)
passes-past p (suc r) (c ∷ cells) h = passes-past p r cells (omega arith)

-- ---- fields of which one has the rows of another but those of a third

-- the row r of n, by its bits in the three
row-without : (n r : ℕ) (x y z : Bool) → x ≡ y && not z → (n ≤ r → z ≡ false) → x ≡ y && not (ltb r n && z)
row-without n r x y z e h = go (dec_lt r n)
  where
    go : Dec (r < n) → x ≡ y && not (ltb r n && z)
    go (yes l) = rw (lt-ltb r n l) e
    go (no l) =
        let b : z ≡ false = h (omega arith) in
        rw (le-ltb r n (omega arith)) (e ∙ rw b)

-- ---- the second edition is the first without the rows of IS NULL

module _ (name : ℕ) where
  abbrev first : Question
  first = question first_edition name

  abbrev second : Question
  second = question second_edition name

  module _ (ls : List (List ℕ)) (other : name ≡ is_null → ⊥) where
    cell_without : (c : Cell) → chosen second ls c ≡ chosen first ls c && not (chosen null_question [] c)
    unfolding chosen
    cell_without null = rw (ne_eqb name is_null other) (go (eqb name not_equal || eqb name is_not_in))
      where
        go : (b : Bool) → cond b false false ≡ cond b true false && false
        go true = refl
        go false = refl
    cell_without (value v) = sym (and-true _)

    passes-without : (r : ℕ) (cells : List Cell) → passes (chosen second ls) r cells ≡ passes (chosen first ls) r cells && not (passes (chosen null_question []) r cells)
    passes-without r [] = refl
    passes-without zero (c ∷ cells) = cell_without c
    passes-without (suc r) (c ∷ cells) = passes-without r cells

    module _ (cells : List Cell) where
      abbrev n : ℕ
      n = length cells

      abbrev f : List ℕ
      f = (scan first ls cells).field

      abbrev g : List ℕ
      g = (scan null_question [] cells).field

      bit-without : (r : ℕ) → r / 8 < size n → bit (scan second ls cells).field r ≡ bit (subtracted n f g) r
      bit-without r h =
          rw (clears_just_the_rows n f g r, scan-bit second ls cells r h, scan-bit first ls cells r h, scan-bit null_question [] cells r h)
          (row-without n r _ (passes (chosen first ls) r cells) (passes (chosen null_question []) r cells) (passes-without r cells) (λ l. passes-past (chosen null_question []) r cells l))

      field-without : (scan second ls cells).field ≡ subtracted n f g
      field-without =
          let s = scan-length second ls cells in
          field_ext (scan second ls cells).field (subtracted n f g) (scan-bytes second ls cells) (bytes-without f _ (scan-bytes first ls cells))
          (s ∙ sym (keeps_the_length n f g ∙ scan-length first ls cells)) (λ r h. bit-without r (omega (arith, s)))

      left_is : (scan second ls cells).matched ≡ count (subtracted n f g) n
      left_is = sym (scan-count second ls cells) ∙ ap (λ (x : List ℕ). count x n) field-without

      count-without : (scan second ls cells).matched + removed n f g ≡ (scan first ls cells).matched
      count-without = rw left_is (left-and-removed n f g ∙ scan-count first ls cells)

      -- nothing is left exactly if each row of the first is a null row
      skip_without : (keeps (scan second ls cells).matched ≡ false) ↔ ((r : ℕ) → r < n → bit f r ≡ true → bit g r ≡ true)
      skip_without = rw left_is (none_left n f g)

      pub is_without : IsWithout n (scan second ls cells) (scan first ls cells) (scan null_question [] cells)
      is_without = record { field = field-without; count = count-without; skip = skip_without }

  -- ---- the questions that choose null in both editions or in neither

  -- a question of either edition is well formed, or refused, alike
  well_alike : (t : ℕ) (literal body : List ℕ) → well_formed t second literal body ≡ well_formed t first literal body
  unfolding well_formed is_known_edition
  well_alike t literal body = refl

  module _ (e : name ≡ not_equal → ⊥) (n : name ≡ is_not_in → ⊥) where
    same_cell_lem : (ls : List (List ℕ)) (c : Cell) → chosen second ls c ≡ chosen first ls c
    unfolding chosen
    same_cell_lem ls null = rw (ne_eqb name not_equal e, ne_eqb name is_not_in n)
    same_cell_lem ls (value v) = refl

    pub same-scan : (ls : List (List ℕ)) (cells : List Cell) → scan second ls cells ≡ scan first ls cells
    same-scan ls cells =
        let same = rows_ext (chosen second ls) (chosen first ls) 0 cells (all-cells (λ c. chosen second ls c ≡ chosen first ls c) cells (same_cell_lem ls)) in
        rw (scanned second ls cells, scanned first ls cells, same)

    same_chosen : (ls : List (List ℕ)) (es : List Entry) → chosen_of second ls es ≡ chosen_of first ls es
    unfolding chosen_of
    same_chosen ls [] = refl
    same_chosen ls (x ∷ es) = rw (same_cell_lem ls x.cell, same_chosen ls es)

    same_answer : (ls : List (List ℕ)) (d : Dictionary) (f : List ℕ) → audited_answer second ls d f ≡ audited_answer first ls d f
    unfolding audited_answer answered marked_for matched_for
    same_answer ls d f = rw (same_chosen ls d.entries)

    module _ (t : ℕ) (literal body field : List ℕ) where
      pub same-ask : ask t second literal body field ≡ ask t first literal body field
      unfolding ask and_then
      same-ask = rw (well_alike t literal body) (go (well_formed t first literal body) (prepared t body field))
        where
          go : (o : Result (List (List ℕ)) Refusal) (p : Result Dictionary Refusal)
              → and_then o (λ ls. and_then p (λ d. audited_answer second ls d (cleared d.rows field))) ≡ and_then o (λ ls. and_then p (λ d. audited_answer first ls d (cleared d.rows field)))
          go (Err r) p = refl
          go (Ok ls) (Err r) = refl
          go (Ok ls) (Ok d) = same_answer ls d (cleared d.rows field)

      pub same_buffer : ask_buffer t second literal body field ≡ ask_buffer t first literal body field
      unfolding ask_buffer
      same_buffer = rw (same-ask, well_alike t literal body)

-- ---- another edition

not_well : (t : ℕ) (q : Question) (literal body : List ℕ) → is_known_edition q.edition ≡ false → length body ≤ limit → length literal ≤ limit
    → well_formed t q literal body ≡ Err Literal
unfolding well_formed check
not_well t q literal body e l m = rw (le-leb (length body) limit l, le-leb (length literal) limit m, e) (go (ltb t types))
  where
    go : (b : Bool) → check (b && false) Literal (and_then (literals t most_literals [] literal) (λ ls. check (takes q.name (length ls)) Literal (Ok ls))) ≡ Err Literal
    go true = refl
    go false = refl

pub no_edition : (t : ℕ) (q : Question) (literal body field : List ℕ) → is_known_edition q.edition ≡ false → length body ≤ limit → length literal ≤ limit
    → (ask t q literal body field ≡ Err Literal) × (ask_buffer t q literal body field ≡ field)
unfolding ask ask_buffer answer_buffer zeroed_from and_then
no_edition t q literal body field e l m = let w = not_well t q literal body e l m in (rw w, rw w)
