-- The answer, by the code's steps: null's rows are counted in a clear field, then the rows of the entry found are placed there.
use Prim.Native.Nat.{ℕ, ◌≤◌}
use mathlib.Core.Path.{◌≡◌, refl, sym, ◌∙◌}
use mathlib.Core.Bool.{true, false}
use mathlib.Core.List.{List, []}
use native.Mathlib.Nat.{add-zero}
use native.Mathlib.Omega.{arith}
use lib.ListN.{length, drop}
use mir.Syntax.{w32}
use mir.Val.{to_z}
use Rattle.refusal.specs.declared.Refusal.{Refusal}
use Rattle.std.specs.Option.{is_none}
use Rattle.std.specs.Prelude.{Option, None, Some, Result, Err, Ok}
use Rattle.refusal.specs.Reading.{and_then}
use Rattle.refusal.proofs.Laws.{ok_same}
use Rattle.row_field.specs.Meaning.{size, count, cleared}
use Rattle.row_field.proofs.Counts.{none_counted, length-zeroed, bit-zeroed}
use Rattle.stored_value.specs.Meaning.{value}
use Rattle.dictionary.specs.declared.Summary.{Summary}
use Rattle.dictionary.specs.Layout.{Entry}
use Rattle.dictionary.specs.Promises.{pattern, nulls_of}
use Rattle.bitmap_index.specs.Reading.{first_number, entry_number, entry_placed, place_entries}
use Rattle.bitmap_index.specs.Promises.{Places, place_in, PlacesNull}
use Rattle.row_field.proofs.Counts.{zeroed-again}
use Rattle.bitmap_index.proofs.PlacingEntries.{place_one}
use Rattle.lookup.specs.declared.Place.{Place}
use Rattle.lookup.specs.declared.Found.{Found}
use Rattle.lookup.specs.declared.Located.{Located}
use Rattle.lookup.specs.declared.Accepted.{Accepted}
use Rattle.lookup.specs.Reading.{Sought, Looked, looked_in, looked_buffer}
use Rattle.lookup.specs.Promises.{hit_of, PlaceIs, NullCount, CountsNull, PlacesFound, Answers, AnswersIn}

-- no row of a clear field is set
pub none-set : (n : ℕ) (f : List ℕ) → size n ≤ length f → cleared n f ≡ f → count f n ≡ 0
none-set n f h z = rw z at (none_counted (cleared n f) n (λ r l. bit-zeroed (size n) f r (omega arith)))

-- a cleared field is clear, and has room still
pub cleared-clear : (n : ℕ) (f : List ℕ) {zero : List ℕ} → zero ≡ cleared n f → size n ≤ length f → (size n ≤ length zero) × (cleared n zero ≡ zero)
cleared-clear n f e h = rw e (rw (length-zeroed (size n) f) h, zeroed-again (size n) f)

-- ---- null's rows

pub no_entry : {A : Type 0} (o : Option A) → is_none o ≡ true → o ≡ None
no_entry None e = refl
no_entry (Some x) e = absurd (grind (arith, e))

module _ (s : List ℕ) (h : Summary) (f : List ℕ) (room : size h.rows ≤ length f) (zero : cleared h.rows f ≡ f) where
  pub null-none : h.null ≡ None → CountsNull s h f f (Ok 0)
  unfolding place_entries
  null-none e = record { outcome = rw e (f, refl, sym (none-set h.rows f room zero)); kept = refl }

  counted : {mid : List ℕ} (r : Result ℕ Refusal) → PlacesNull s h f mid r → NullCount h.rows (place_in first_number s h (nulls_of h) f) r
  counted (Err why) p = p.outcome
  counted {mid} (Ok k) p = (mid, p.outcome.0, omega (arith, p.outcome.1, none-set h.rows f room zero))

  pub null-some : {mid after : List ℕ} (r : Result ℕ Refusal) → PlacesNull s h f mid r → after ≡ cleared h.rows mid → CountsNull s h f after r
  null-some r p e = record { outcome = counted r p; kept = e ∙ p.behind ∙ zero }

-- ---- the rows of the entry found

module _ (s : List ℕ) (h : Summary) (g : Found) (f : List ℕ) where
  pub found_none : g.place ≡ None → (v : List ℕ) → PlacesFound v s h g f f (Ok 0)
  unfolding place_entries
  found_none e v = record { outcome = rw e (refl, sym (add-zero (count f h.rows))); behind = refl }

  pub found_some : {p : Place} → g.place ≡ Some p → {after : List ℕ} {r : Result ℕ Refusal}
      → Places h.rows (entry_placed g.compared (to_z w32 (pattern p.offset)) p.extent h.rows (drop h.region.0 s)) f after r
      → (v : List ℕ) → PlacesFound v s h g f after r
  unfolding entry_number
  found_some {p} e q v =
      let entry : Entry = record { cell = value v; offset = pattern p.offset; extent = p.extent } in
      rw e (place_one h.rows (drop h.region.0 s) g.compared entry f q)

-- ---- both

-- an accepted reading, in the code's terms
answers_so : (o : Result Looked Refusal) (n nulls matched compared : ℕ) (placed marked otherwise : List ℕ)
    → o ≡ Ok (record {
      answer = record { buffer = marked; said = record { rows = n; nulls = count placed n; deleted = 0; matched = count marked n } };
      compared = compared;
    }) → nulls ≡ count placed n → matched ≡ count marked n
    → Answers o otherwise marked (Ok (record { said = record { rows = n; nulls = nulls; deleted = 0; matched = matched }; compared = compared }))
unfolding looked_buffer and_then
answers_so o n nulls matched compared placed marked otherwise e k m = record { answer = rw (e, k, m); buffer = rw e }

module _ (s : List ℕ) (p : Located) (before : List ℕ) {zero : List ℕ} (z : zero ≡ cleared p.summary.rows before) where
  abbrev n : ℕ
  n = p.summary.rows

  -- the reading, in the code's terms
  module _ (v : List ℕ) (f : Sought) (w : PlaceIs v s p f) where
    looked : looked_in f (cleared f.rows before) ≡ and_then (place_in first_number s p.summary (nulls_of p.summary) zero) (λ placed.
        and_then (place_in p.found.compared s p.summary (hit_of v p.found) zero) (λ marked.
        Ok (record {
          answer = record { buffer = marked; said = record { rows = n; nulls = count placed n; deleted = 0; matched = count marked n } };
          compared = p.compared;
        })))
    unfolding looked_in
    looked = rw (w.rows, w.nulls, w.region, w.hit, w.compared, w.number, z)

    rest : cleared f.rows before ≡ zero
    rest = rw w.rows (sym z)

  module _ {after : List ℕ} {r : Result ℕ Refusal} (c : CountsNull s p.summary zero after r) where
    module _ {k : ℕ} (e : r ≡ Ok k) {last : List ℕ} {r' : Result ℕ Refusal} (d : (v : List ℕ) → PlacesFound v s p.summary p.found after last r') where
      nulls_are : NullCount n (place_in first_number s p.summary (nulls_of p.summary) zero) (Ok k)
      nulls_are = rw e at c.outcome

      pub found-stops : {why : Refusal} → r' ≡ Err why → {end : List ℕ} → end ≡ cleared n last → AnswersIn s p before end (Err why)
      unfolding looked_buffer and_then
      found-stops {why} g b v f w =
          let o : place_in p.found.compared s p.summary (hit_of v p.found) zero ≡ Err why =
          rw (← c.kept) (rw g at (d v)).outcome in
          let i = nulls_are.1 in
          let y : cleared n after ≡ zero = rw (c.kept, z) (zeroed-again (size n) before) in
          record {
            answer = rw (looked v f w, i, o);
            buffer = b ∙ (d v).behind ∙ y ∙ rw (looked v f w, i, o) (sym (rest v f w));
          }

      -- the field was clear: as many rows are set as were placed
      -- as many ones stand in the field as rows were placed
      pub placed-counted : size n ≤ length before → {j : ℕ} → r' ≡ Ok j → j ≡ count last n
      placed-counted room {j} g =
          let m = (rw g at (d [])).outcome in
          let y = cleared-clear n before z room in
          let q : count after n ≡ 0 = rw c.kept (none-set n zero y.0 y.1) in
          omega (arith, m.1, q)

      pub found-answers : {j i : ℕ} → r' ≡ Ok j → i ≡ count last n
          → AnswersIn s p before last (Ok (record { said = record { rows = n; nulls = k; deleted = 0; matched = i }; compared = p.compared }))
      unfolding and_then
      found-answers {j} {i} g counted v f w =
          let m = (rw g at (d v)).outcome in
          let o : place_in p.found.compared s p.summary (hit_of v p.found) zero ≡ Ok last = rw (← c.kept) m.0 in
          let nulls = nulls_are.1 in
          answers_so (looked_in f (cleared f.rows before)) n k i p.compared nulls_are.0 last (cleared f.rows before) (looked v f w ∙ rw (nulls, o)) nulls_are.2 counted
