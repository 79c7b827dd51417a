-- How many rows null has: those that stand in the field once its entry was placed there are those of IS NULL.
use Prim.Native.Nat.{ℕ, ◌-◌, ◌+◌}
use mathlib.Core.Path.{◌≡◌, refl, ap, ◌∙◌}
use mathlib.Core.Bool.{Bool}
use mathlib.Core.List.{List, [], ◌∷◌, ◌++◌, append-nil}
use native.Mathlib.Omega.{arith}
use lib.ListN.{drop}
use Rattle.numbers.specs.Meaning.{Bytes, signed32}
use Rattle.numbers.proofs.ByteLists.{bytes_drop}
use Rattle.std.specs.Prelude.{Ok, Option, Some, None}
use Rattle.dictionary.specs.declared.NullEntry.{NullEntry}
use Rattle.refusal.proofs.Laws.{then_ok}
use Rattle.row_field.specs.Meaning.{count}
use Rattle.dictionary.specs.declared.Summary.{Summary}
use Rattle.dictionary.specs.Layout.{Entry}
use Rattle.dictionary.specs.Promises.{is_two, opening, left_in, tail, EntriesFrom, nulls, nulls_of, dictionary_of, Summarizes}
use Rattle.bitmap_index.specs.Meaning.{chosen, null_question}
use Rattle.bitmap_index.specs.Reading.{entry_number, next_number, place_entry, place_entries, chosen_of, rows_at, mark_entries, marked_for, matched_for}
use Rattle.bitmap_index.specs.Promises.{PlacesNull}
use Rattle.bitmap_index.proofs.PlacedRows.{placed_at}
use Rattle.bitmap_index.proofs.Marking.{chosen-append}

-- entries that were placed were marked
module _ (n : ℕ) (region : List ℕ) (b : Bytes region) where
  placed_marks : (next : ℕ) (es : List Entry) (f f' : List ℕ) → place_entries next n region es f ≡ Ok f' → f' ≡ mark_entries region es f
  unfolding place_entries place_entry mark_entries rows_at
  placed_marks next [] f f' p = cc
  placed_marks next (e ∷ es) f f' p =
      let then : ℕ = next_number next e.cell in
      let (mid, first, rest) = then_ok (place_entry next n region f e) (place_entries then n region es) f' p in
      placed_marks then es mid f' rest
      ∙ ap (λ (g : List ℕ). mark_entries region es g) (placed_at (entry_number next e.cell) e.extent n region f mid (signed32 e.offset) b first).marked

-- IS NULL chooses null's entry, if there is one, and no value's
null-chosen : (h : Summary) → chosen_of null_question [] (nulls_of h) ≡ nulls_of h
unfolding chosen_of chosen
null-chosen h = go h.null
  where
    go : (entry : Option NullEntry) → chosen_of null_question [] (nulls entry) ≡ nulls entry
    go (Some n) = refl
    go None = refl

no_value_chosen : (t : ℕ) (version2 : Bool) (left : ℕ) (s : List ℕ) (es : List Entry) → EntriesFrom t version2 left s es → chosen_of null_question [] es ≡ []
unfolding EntriesFrom chosen_of chosen
no_value_chosen t version2 left s [] w = refl
no_value_chosen t version2 left s (e ∷ es) w =
    let (k, sized, long, is, rest) = w.2 in
    rw is (no_value_chosen t version2 (left_in left s - 1) (drop (k + tail version2) (drop (opening left) s)) es rest)

chosen-nulls : (t : ℕ) (s : List ℕ) (h : Summary) (es : List Entry) → Summarizes t s h es → chosen_of null_question [] (nulls_of h ++ es) ≡ nulls_of h
chosen-nulls t s h es w =
    chosen-append null_question [] (nulls_of h) es
    ∙ rw (null-chosen h, no_value_chosen t (is_two h.version) h.first.left (drop h.first.at.0 s) es w.stand) (append-nil (nulls_of h))

pub nulls_counted : (t : ℕ) (s : List ℕ) (h : Summary) (es : List Entry) → Bytes s → Summarizes t s h es → (f : List ℕ) → count f h.rows ≡ 0 → {mid : List ℕ} {k : ℕ}
    → PlacesNull s h f mid (Ok k) → k ≡ matched_for null_question [] (dictionary_of s h es) f
unfolding matched_for marked_for
nulls_counted t s h es b w f z {mid} {k} p =
    let region : List ℕ = drop h.region.0 s in
    let marked = placed_marks h.rows region (bytes_drop h.region.0 s b) _ (nulls_of h) f mid p.outcome.0 in
    let all : k ≡ count mid h.rows = omega (arith, p.outcome.1) in
    all ∙ rw (marked, chosen-nulls t s h es w)
