-- Null's rows and the literal's, placed each in a field of their own: they are the rows that Ask marks behind its audit.
use Prim.Native.Nat.{ℕ, ◌+◌, ◌≤◌}
use mathlib.Core.Path.{◌≡◌, refl, sym, ap, ◌∙◌}
use mathlib.Core.Bool.{Bool, true, false, cond, and-false}
use mathlib.Core.List.{List, [], ◌∷◌, ◌++◌, append-nil}
use lib.ListN.{length}
use Rattle.numbers.specs.Meaning.{joined, Bytes}
use Rattle.refusal.specs.Meaning.{limit}
use Rattle.std.specs.Prelude.{Ok}
use Rattle.refusal.specs.Reading.{and_then}
use Rattle.row_field.specs.Meaning.{size, cleared}
use Rattle.stored_value.specs.Meaning.{Cell, null, value}
use Rattle.dictionary.specs.Layout.{Entry, Valued, NullOnly, Rises}
use Rattle.dictionary.specs.Claims.{Once}
use Rattle.dictionary.proofs.Theorems.{two_has_each_once}
use Rattle.bitmap_index.specs.declared.Question.{Question}
use Rattle.bitmap_index.specs.Meaning.{equal, question, chosen, null_question}
use Rattle.bitmap_index.specs.Layout.{EntryRows, rows_with, ExactRows, ColumnEntries}
use Rattle.bitmap_index.specs.Reading.{first_number, place_entries, chosen_of, mark_entries, marked_for, matched_for, answered}
use Rattle.bitmap_index.proofs.Rows.{Free, cleared_free}
use Rattle.bitmap_index.proofs.Marking.{chosen-append, all_parts}
use Rattle.bitmap_index.proofs.ScanAnswers.{column_dictionary, marked_all, placed-all, chosen-has, chosen-placed}
use Rattle.lookup.specs.Reading.{Halved, Searched, looked_in}
use Rattle.lookup.proofs.SoughtLaid.{found_inside}

-- ---- which entries are chosen

-- IS NULL chooses null's entry, and no value's; EQUAL doesn't choose it
null-chosen : (nulls : List Entry) → NullOnly nulls → chosen_of null_question [] nulls ≡ nulls
unfolding chosen_of chosen
null-chosen [] o = refl
null-chosen (e ∷ es) o = rw (o.0, o.1)

not_null : (t : ℕ) (c : Cell) → Valued t c → chosen null_question [] c ≡ false
unfolding chosen
not_null t null v = absurd v
not_null t (value w) v = refl

no_value_chosen : (t : ℕ) (before : Cell) (es : List Entry) → Rises t before es → chosen_of null_question [] es ≡ []
unfolding chosen_of
no_value_chosen t before [] r = refl
no_value_chosen t before (e ∷ es) r = rw (not_null t e.cell r.0) (no_value_chosen t e.cell es r.2)

null-not-chosen : (edition : ℕ) (ls : List (List ℕ)) (nulls : List Entry) → NullOnly nulls → chosen_of (question edition equal) ls nulls ≡ []
unfolding chosen_of chosen
null-not-chosen edition ls [] o = refl
null-not-chosen edition ls (e ∷ es) o = rw (o.0, o.1)

-- ---- entries that stand once do so among the chosen ones

null_once : (nulls : List Entry) → NullOnly nulls → Once nulls
null_once [] o = tt
null_once (e ∷ es) o = rw o.1 (refl, tt)

chosen_once : (q : Question) (ls : List (List ℕ)) (es : List Entry) → Once es → Once (chosen_of q ls es)
unfolding chosen_of
chosen_once q ls [] o = tt
chosen_once q ls (e ∷ es) o = go (chosen q ls e.cell) (chosen_once q ls es o.1)
  where
    go : (b : Bool) → Once (chosen_of q ls es) → Once (cond b (e ∷ chosen_of q ls es) (chosen_of q ls es))
    go true i = (chosen-has q ls e.cell es ∙ rw o.0 (and-false (chosen q ls e.cell)), i)
    go false i = i

-- ---- placed, so marked

module _ (t edition : ℕ) (ls : List (List ℕ)) (cells : List Cell) (nulls : List Entry) (bs : List (List Entry)) (region lent : List ℕ)
    (k : ColumnEntries cells region nulls (joined bs)) (r : Rises t null (joined bs)) (short : length region ≤ limit)
    (b : Bytes lent) (room : size (length cells) ≤ length lent) where
  placed_marked : (next : ℕ) (es : List Entry) → ExactRows region cells es → Once es
      → place_entries next (length cells) region es (cleared (length cells) lent) ≡ Ok (mark_entries region es (cleared (length cells) lent))
  placed_marked next es a o =
      let zero : List ℕ = cleared (length cells) lent in
      let free : Free (length cells) zero = cleared_free (length cells) lent b room in
      placed-all region cells zero short free next es a o ∙ ap Ok (sym (marked_all region cells zero short free.bytes es a))

  pub looked_laid : (h : Halved) (found : Searched) → found.hit ≡ chosen_of (question edition equal) ls (joined bs)
      → looked_in (found_inside (length cells) nulls region h found) (cleared (length cells) lent)
      ≡ Ok (record {
        answer = answered (question edition equal) ls (column_dictionary cells (nulls ++ joined bs) region) (cleared (length cells) lent);
        compared = h.compared + found.compared;
      })
  unfolding looked_in and_then answered marked_for matched_for
  looked_laid h found hit =
      let q : Question = question edition equal in
      let es : List Entry = joined bs in
      let a = all_parts (λ (e : Entry). EntryRows region (rows_with e.cell 0 cells) e) nulls es k.rows in
      let null-rows = placed_marked first_number nulls a.0 (null_once nulls k.null_only) in
      let rows = placed_marked found.compared (chosen_of q ls es) (chosen-placed q ls region cells es a.1) (chosen_once q ls es (two_has_each_once t [] es r tt)) in
      let of_null : chosen_of null_question [] (nulls ++ es) ≡ nulls =
      chosen-append null_question [] nulls es ∙ rw (null-chosen nulls k.null_only, no_value_chosen t null es r) (append-nil nulls) in
      let of-equal : chosen_of q ls (nulls ++ es) ≡ chosen_of q ls es = chosen-append q ls nulls es ∙ rw (null-not-chosen edition ls nulls k.null_only) in
      rw (null-rows, hit, rows, of_null, of-equal)
