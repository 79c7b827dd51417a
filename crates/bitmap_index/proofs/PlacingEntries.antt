-- The rows of several entries, placed one after the other: what is placed first, then the rest.
use Prim.Native.Nat.{ℕ, ◌+◌, ◌<◌, ◌≤◌}
use mathlib.Core.Path.{◌≡◌, refl, sym, ◌∙◌}
use mathlib.Core.List.{List, [], ◌∷◌, ◌++◌}
use native.Mathlib.Nat.{add-zero}
use native.Mathlib.Omega.{arith}
use lib.ListN.{drop}
use mir.Syntax.{w32}
use mir.Val.{to_z}
use Rattle.numbers.specs.Meaning.{signed32}
use Rattle.refusal.specs.declared.Refusal.{Refusal}
use Rattle.std.specs.Prelude.{Result, Err, Ok, Option, Some, None}
use Rattle.dictionary.specs.declared.NullEntry.{NullEntry}
use Rattle.refusal.specs.Reading.{and_then}
use Rattle.row_field.specs.Meaning.{count, cleared}
use Rattle.row_field.proofs.Counts.{count-le}
use Rattle.stored_value.specs.Meaning.{null}
use Rattle.dictionary.specs.declared.Summary.{Summary}
use Rattle.dictionary.specs.declared.Cursor.{Cursor}
use Rattle.dictionary.specs.declared.EntryAt.{EntryAt}
use Rattle.dictionary.specs.Promises.{is_two, pattern, nulls, nulls_of, entry_at, NextAt}
use Rattle.dictionary.specs.Layout.{Entry}
use Rattle.dictionary.proofs.Offsets.{read-signed}
use Rattle.bitmap_index.specs.Reading.{null_number, entry_number, next_number, first_number, entry_placed, place_entry, place_entries}
use Rattle.bitmap_index.specs.Promises.{Places, place_in, PlacesNull, PlacesValues}
use Rattle.bitmap_index.proofs.Walking.{Walk, at_start, at_end, here, found, goes_on}

-- an entry's rows, placed where its offset is taken as the code takes it
abbrev pub PlacesAt : ℕ → ℕ → List ℕ → Entry → List ℕ → List ℕ → Result ℕ Refusal → Type 0
PlacesAt entry n region e before after r = Places n (entry_placed entry (to_z w32 e.offset) e.extent n region) before after r

-- the number of the next value's entry behind these
abbrev next_behind : ℕ → List Entry → ℕ
next_behind next [] = next
next_behind next (e ∷ es) = next_behind (next_number next e.cell) es

module _ (n : ℕ) (region : List ℕ) where
  pub first_refused : (next : ℕ) (e : Entry) (es : List Entry) (f : List ℕ) {after : List ℕ} {why : Refusal}
      → PlacesAt (entry_number next e.cell) n region e f after (Err why)
      → place_entries next n region (e ∷ es) f ≡ Err why
  unfolding place_entries place_entry and_then
  first_refused next e es f p = rw (rw (read-signed e.offset) at p.outcome)

  pub first-placed : (next : ℕ) (e : Entry) (es : List Entry) (f : List ℕ) {after : List ℕ} {k : ℕ}
      → PlacesAt (entry_number next e.cell) n region e f after (Ok k)
      → place_entries next n region (e ∷ es) f ≡ place_entries (next_number next e.cell) n region es after
  unfolding place_entries place_entry and_then
  first-placed next e es f p = rw (rw (read-signed e.offset) at p.outcome.0)

  pub place_append : (next : ℕ) (xs ys : List Entry) (f : List ℕ)
      → place_entries next n region (xs ++ ys) f ≡ and_then (place_entries next n region xs f) (place_entries (next_behind next xs) n region ys)
  unfolding place_entries and_then
  place_append next [] ys f = refl
  place_append next (x ∷ xs) ys f =
      let then : ℕ = next_number next x.cell in
      go (place_entry next n region f x) (place_entries then n region (xs ++ ys)) (place_entries then n region xs)
      (place_entries (next_behind then xs) n region ys) (place_append then xs ys)
    where
      go : (o : Result (List ℕ) Refusal) (all front back : List ℕ → Result (List ℕ) Refusal) → ((g : List ℕ) → all g ≡ and_then (front g) back)
          → and_then o all ≡ and_then (and_then o front) back
      go (Err r) all front back i = refl
      go (Ok g) all front back i = i g

  pub place_one : (next : ℕ) (e : Entry) (f : List ℕ) {after : List ℕ} {r : Result ℕ Refusal} → PlacesAt (entry_number next e.cell) n region e f after r
      → Places n (place_entries next n region (e ∷ [])) f after r
  unfolding place_entries place_entry and_then
  place_one next e f p =
      record {
        outcome = rw (ends (entry_placed (entry_number next e.cell) (signed32 e.offset) e.extent n region f)) (rw (read-signed e.offset) at p.outcome);
        behind = p.behind;
      }
    where
      ends : (o : Result (List ℕ) Refusal) → and_then o (place_entries (next_number next e.cell) n region []) ≡ o
      ends (Err r) = refl
      ends (Ok g) = refl

-- ---- null's entry, if there is one

abbrev pub entry_of_null : NullEntry → Entry
entry_of_null n = record { cell = null; offset = pattern n.offset; extent = n.extent }

module _ (h : Summary) (body f : List ℕ) where
  pub no_null : h.null ≡ None → PlacesNull body h f f (Ok 0)
  unfolding place_entries
  no_null e = record { outcome = rw e (refl, sym (add-zero (count f h.rows))); behind = refl }

  pub with_null : {n : NullEntry} → h.null ≡ Some n → {after : List ℕ} {r : Result ℕ Refusal} → PlacesAt null_number h.rows (drop h.region.0 body) (entry_of_null n) f after r
      → PlacesNull body h f after r
  unfolding entry_number
  with_null {n} e p = rw e (place_one h.rows (drop h.region.0 body) first_number (entry_of_null n) f p)

  module _ {after : List ℕ} {r : Result ℕ Refusal} (p : PlacesNull body h f after r) where
    pub null-refused : (why : Refusal) → r ≡ Err why → PlacesNull body h f after (Err why)
    null-refused why e = rw e at p

    pub null-kept : {k : ℕ} → r ≡ Ok k → PlacesNull body h f after (Ok k)
    null-kept e = rw e at p

    -- with no row set before, those that are set then are null's
    pub null_counted : {j k : ℕ} → r ≡ Ok j → count f h.rows ≡ 0 → k ≡ count after h.rows → PlacesNull body h f after (Ok k)
    null_counted e z c =
        let w = rw e at p in
        record { outcome = (w.outcome.0, omega (arith, z, c)); behind = w.behind }

-- ---- null's entry, then the values'

-- null's does not take a number from the values
behind-null : (h : Summary) → next_behind first_number (nulls_of h) ≡ first_number
unfolding next_number
behind-null h = go h.null
  where
    go : (entry : Option NullEntry) → next_behind first_number (nulls entry) ≡ first_number
    go (Some n) = refl
    go None = refl

module _ (h : Summary) (body f : List ℕ) {r : Result ℕ Refusal} {mid : List ℕ} (p : PlacesNull body h f mid r) where
  pub null_refused : {why : Refusal} → r ≡ Err why → (es : List Entry)
      → Places h.rows (place_in first_number body h (nulls_of h ++ es)) f mid (Err why)
  unfolding and_then
  null_refused e es =
      let w = rw e at p in
      record { outcome = place_append h.rows (drop h.region.0 body) first_number (nulls_of h) es f ∙ rw w.outcome; behind = w.behind }

  module _ {k : ℕ} (e : r ≡ Ok k) (es : List Entry) {r' : Result ℕ Refusal} {after : List ℕ} (q : Places h.rows (place_in first_number body h es) mid after r') where
    then_values : place_in first_number body h (nulls_of h ++ es) f ≡ place_in first_number body h es mid
    unfolding and_then
    then_values =
        let w = rw e at p in
        place_append h.rows (drop h.region.0 body) first_number (nulls_of h) es f ∙ rw (w.outcome.0, behind-null h)

    pub values_refused : {why : Refusal} → r' ≡ Err why → Places h.rows (place_in first_number body h (nulls_of h ++ es)) f after (Err why)
    values_refused t =
        let v = rw t at q in
        record { outcome = then_values ∙ v.outcome; behind = v.behind ∙ p.behind }

    pub both_placed : {m : ℕ} → r' ≡ Ok m → Places h.rows (place_in first_number body h (nulls_of h ++ es)) f after (Ok (k + m))
    both_placed t =
        let w = rw e at p in
        let v = rw t at q in
        record { outcome = (then_values ∙ v.outcome.0, omega (arith, w.outcome.1, v.outcome.1)); behind = v.behind ∙ p.behind }

-- ---- the values' entries in turn: what is left of them, placed from the field as it is and numbered on, gives the whole, and so many more rows are set than
-- at first

pub record Placements (t : ℕ) (s : List ℕ) (h : Summary) (before f : List ℕ) (c : Cursor) (i sum : ℕ) : Type 0 where
  pub walk : Walk t s h (λ es rest. place_in (i + first_number) s h rest f ≡ place_in first_number s h es before) c i
  pub counted : count f h.rows ≡ count before h.rows + sum
  pub kept : cleared h.rows f ≡ cleared h.rows before

pub placements_first : (t : ℕ) (s : List ℕ) (h : Summary) (f : List ℕ) → Placements t s h f f h.first 0 0
placements_first t s h f = record { walk = at_start t s h _ (λ es d. refl); counted = sym (add-zero (count f h.rows)); kept = refl }

module _ {t : ℕ} {s : List ℕ} {h : Summary} {before f : List ℕ} {c : Cursor} {i sum : ℕ} (g : Placements t s h before f c i sum) where
  pub placements_done : h.values ≤ i → PlacesValues t s h before f (Ok sum)
  unfolding place_entries
  placements_done l es d = record { outcome = (sym (at_end g.walk l es d), g.counted); behind = g.kept }

  module _ (a : EntryAt) (n : NextAt t (is_two h.version) s c a) (l : i < h.values) {r : Result ℕ Refusal} {after : List ℕ}
      (p : PlacesAt (i + first_number) h.rows (drop h.region.0 s) (entry_at s a) f after r) where
    pub placements_refused : (why : Refusal) → r ≡ Err why → PlacesValues t s h before after (Err why)
    unfolding entry_number
    placements_refused why e es d =
        let w = rw e at p in
        record {
          outcome = sym (found g.walk a n l es d) ∙ first_refused h.rows (drop h.region.0 s) (i + first_number) (entry_at s a) (here g.walk a n l es d).behind f w;
          behind = w.behind ∙ g.kept;
        }

    module _ {k : ℕ} (e : r ≡ Ok k) where
      more_counted : count after h.rows ≡ count before h.rows + (sum + k)
      more_counted =
          let w = rw e at p in
          omega (arith, w.outcome.1, g.counted)

      pub sum_fits : sum + k ≤ h.rows
      sum_fits = omega (arith, more_counted, count-le after h.rows)

      pub placements_next : Placements t s h before after a.next (i + 1) (sum + k)
      unfolding entry_number next_number
      placements_next =
          let w = rw e at p in
          record {
            walk = goes_on g.walk a n l _ (λ es behind q. sym (first-placed h.rows (drop h.region.0 s) (i + first_number) (entry_at s a) behind f w) ∙ q);
            counted = more_counted;
            kept = w.behind ∙ g.kept;
          }
