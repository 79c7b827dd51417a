-- Questions tell columns apart: IS NULL chooses null rows alone, and EQUAL the rows of one value alone. So two columns of which the scan answers every
-- well-formed question alike are the same.
use Prim.Native.Nat.{ℕ, zero, suc, ◌<◌, ◌/◌}
use mathlib.Core.Path.{◌≡◌, refl, sym, ap, ◌∙◌}
use mathlib.Core.Bool.{Bool, true, false, ◌||◌, or-false}
use mathlib.Core.List.{List, [], ◌∷◌, ◌++◌}
use native.Mathlib.Omega.{arith}
use lib.ListN.{length, get_or, replicate, length-replicate, drop, take}
use lib.Seq.{ext_get_or, take_at}
use Rattle.row_field.specs.Meaning.{size, bit, count}
use Rattle.row_field.proofs.Marks.{length-mark_all, bytes-mark_all, bit-mark_all}
use Rattle.row_field.proofs.Laws.{bytes-zeros, bit-zeros}
use Rattle.row_field.proofs.Counts.{count-field}
use Rattle.numbers.specs.Meaning.{Bytes, same}
use Rattle.stored_value.specs.Meaning.{types, Cell, null, value, Value, listed}
use Rattle.refusal.specs.declared.Refusal.{Refusal}
use Rattle.std.specs.Prelude.{Result, Ok}
use Rattle.numbers.proofs.SameBytes.{same_refl, same→eq}
use Rattle.bitmap_index.specs.declared.Question.{Question}
use Rattle.bitmap_index.specs.Meaning.{Cells, Column, chosen, takes, is_known_edition, first_edition, equal, is_null, question, WellFormed, scan}
use Rattle.bitmap_index.specs.Claims.{AnswersAsScan}
use Rattle.bitmap_index.proofs.Rows.{rows_where, passes, rows_rising, member-rows}
use Rattle.bitmap_index.proofs.ScanAnswers.{scanned}

-- the cell of row r; null past the end
abbrev pub cell_at : List Cell → ℕ → Cell
cell_at cells r = get_or cells r null

pub passes_at : (p : Cell → Bool) (r : ℕ) (cells : List Cell) → r < length cells → passes p r cells ≡ p (cell_at cells r)
passes_at p r [] h = absurd (omega arith)
passes_at p zero (c ∷ cells) h = refl
passes_at p (suc r) (c ∷ cells) h = passes_at p r cells (omega arith)

module _ (q : Question) (ls : List (List ℕ)) (cells : List Cell) where
  pub scan-length : length (scan q ls cells).field ≡ size (length cells)
  scan-length = rw (scanned q ls cells) (length-mark_all (replicate (size (length cells)) 0) (rows_where (chosen q ls) 0 cells) ∙ length-replicate (size (length cells)) 0)

  -- the scan sets the bits of the rows whose cells the question chooses
  pub scan-bit : (r : ℕ) → r / 8 < size (length cells) → bit (scan q ls cells).field r ≡ passes (chosen q ls) r cells
  scan-bit r h =
      let l = length-replicate {A = ℕ} (size (length cells)) 0 in
      rw (scanned q ls cells)
      (bit-mark_all (replicate (size (length cells)) 0) (rows_where (chosen q ls) 0 cells) r (omega arith)
      ∙ rw (bit-zeros (size (length cells)) r) (member-rows (chosen q ls) r cells))

  pub scan-bytes : Bytes (scan q ls cells).field
  scan-bytes =
      rw (scanned q ls cells)
      (bytes-mark_all (replicate (size (length cells)) 0) (rows_where (chosen q ls) 0 cells) (bytes-zeros (size (length cells))))

  pub scan-count : count (scan q ls cells).field (length cells) ≡ (scan q ls cells).matched
  scan-count = rw (scanned q ls cells) (count-field (length cells) (rows_where (chosen q ls) 0 cells) (rows_rising (chosen q ls) cells))

  scan-row : (r : ℕ) → r < length cells → bit (scan q ls cells).field r ≡ chosen q ls (cell_at cells r)
  scan-row r h = scan-bit r (omega arith) ∙ passes_at (chosen q ls) r cells h

-- null, or a value of type t
abbrev pub Typed : ℕ → Cell → Type 0
Typed t null = Unit {0}
Typed t (value v) = Value t v

cell_typed : (t r : ℕ) (cells : List Cell) → Cells t cells → Typed t (cell_at cells r)
cell_typed t r [] h = tt
cell_typed t zero (null ∷ cells) h = tt
cell_typed t zero (value v ∷ cells) h = h.0
cell_typed t (suc r) (null ∷ cells) h = cell_typed t r cells h
cell_typed t (suc r) (value v ∷ cells) h = cell_typed t r cells h.1

-- EQUAL of one value
one-literal : (t : ℕ) (v : List ℕ) → t < types → Value t v → WellFormed t (question first_edition equal) (v ∷ [])
unfolding takes is_known_edition
one-literal t v k p =
    record { known_type = k; known_edition_lem = refl; known-name = omega arith; few = omega arith; form = (p, tt); number = refl }

-- the cells that every question chooses, or does not, as it does c, are c
same_cell_lem : (t : ℕ) (c d : Cell) → t < types → Typed t c → ((q : Question) (ls : List (List ℕ)) → WellFormed t q ls → chosen q ls c ≡ chosen q ls d) → c ≡ d
unfolding chosen listed takes is_known_edition
same_cell_lem t null null k v h = refl
same_cell_lem t null (value w) k v h =
    let e : ◌≡◌ {A = Bool} true false = h (question first_edition is_null) [] (record { known_type = k; known_edition_lem = refl; known-name = omega arith; few = omega arith; form = tt; number = refl }) in
    cc
same_cell_lem t (value v) null k p h =
    let e : same v v || false ≡ false = h (question first_edition equal) (v ∷ []) (one-literal t v k p) in
    let g : ◌≡◌ {A = Bool} true false = rw (same_refl v) at e in
    cc
same_cell_lem t (value v) (value w) k p h =
    let e : same v v || false ≡ same w v || false = h (question first_edition equal) (v ∷ []) (one-literal t v k p) in
    let g : true ≡ same w v || false = rw (same_refl v) at e in
    sym (ap value (same→eq w v (sym (or-false (same w v)) ∙ sym g)))

same-answers : (t : ℕ) (cells cells' : List Cell) → Column t cells → length cells ≡ length cells'
    → ((q : Question) (ls : List (List ℕ)) → WellFormed t q ls → (scan q ls cells).field ≡ (scan q ls cells').field) → cells ≡ cells'
same-answers t cells cells' c l h =
    ext_get_or null cells cells' l (λ r i.
    same_cell_lem t (cell_at cells r) (cell_at cells' r) c.0 (cell_typed t r cells c.1) (λ q ls g.
    sym (scan-row q ls cells r i) ∙ ap (λ (f : List ℕ). bit f r) (h q ls g) ∙ scan-row q ls cells' r (omega arith)))

-- ---- two columns of which one body is answered

-- fronts of one length before the same bytes
same-front : (xs ys zs : List ℕ) → length xs ≡ length ys → xs ++ zs ≡ ys ++ zs → xs ≡ ys
same-front xs ys zs l e = sym (take_at xs zs (length xs) refl) ∙ ap (take (length xs)) e ∙ take_at ys zs (length xs) (sym l)

module _ (t : ℕ) (cells cells' : List Cell) (body field : List ℕ) (a : AnswersAsScan t cells body field) (a' : AnswersAsScan t cells' body field) where
  same_length : length cells ≡ length cells'
  same_length =
      let e : ◌≡◌ {A = Result ℕ Refusal} (Ok (length cells)) (Ok (length cells')) = sym a.audited ∙ a'.audited in
      cc

  same-scan : (q : Question) (ls : List (List ℕ)) → WellFormed t q ls → (scan q ls cells).field ≡ (scan q ls cells').field
  same-scan q ls g =
      let e : (scan q ls cells).field ++ drop (size (length cells)) field ≡ (scan q ls cells').field ++ drop (size (length cells')) field =
      sym (a.asked_buffer q ls g) ∙ a'.asked_buffer q ls g in
      same-front (scan q ls cells).field (scan q ls cells').field (drop (size (length cells)) field)
      (scan-length q ls cells ∙ ap (λ (m : ℕ). size m) same_length ∙ sym (scan-length q ls cells')) (rw (← same_length) at e)

  pub same_column : Column t cells → cells ≡ cells'
  same_column c = same-answers t cells cells' c same_length same-scan
