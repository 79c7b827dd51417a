-- The quick audit: rows are set without a test of each. Every row adds at most one to those that are set, so where as many more are set as there were rows, none
-- of them was set before, and placing them one by one comes to the same.
use Prim.Native.Nat.{ℕ, ◌+◌, ◌-◌, ◌/◌, ◌<◌, ◌≤◌}
use mathlib.Core.Path.{◌≡◌, refl, sym, ap, ◌∙◌}
use mathlib.Core.Bool.{Bool, true, false}
use mathlib.Core.List.{List, [], ◌∷◌}
use native.Mathlib.Decide.{ℕ_discrete}
use native.Mathlib.Omega.{arith}
use lib.IntN.{ℤ, pos, negsuc}
use lib.ListN.{length, drop}
use mir.Syntax.{w32}
use mir.Val.{SFits, to_z, of_z}
use borrow.Author.Tests.{lt-ltb, le-leb}
use Rattle.numbers.specs.Meaning.{Bytes}
use Rattle.numbers.proofs.ByteLists.{bytes_drop}
use Rattle.std.specs.Prelude.{Result, Err, Ok}
use Rattle.refusal.specs.Reading.{check, and_then, refused_as}
use Rattle.refusal.specs.declared.Refusal.{Refusal}
use Rattle.row_field.specs.Meaning.{bit, mark, mark_all, any_set, cleared, size, count, Rising}
use Rattle.row_field.proofs.RowLists.{rising_below}
use Rattle.row_field.proofs.Laws.{tick, length-mark, bit-mark-same, bit-mark-other}
use Rattle.row_field.proofs.Marks.{any_set-mark}
use Rattle.row_field.proofs.Counts.{tally-none, tally_split, rows-tally, count-mark, count-le, zeroed-again}
use Rattle.row_field.proofs.Fronts.{cleared-mark, cleared_marks}
use Rattle.roaring.specs.declared.Extent.{Extent}
use Rattle.roaring.specs.declared.Broken.{Broken}
use Rattle.roaring.specs.declared.Shape.{Shape}
use Rattle.roaring.specs.Reading.{read, measured, end_of, rows_read}
use Rattle.roaring.specs.Promises.{MeasurePromise}
use Rattle.roaring.proofs.Measuring.{is_sound, rows-measured}
use Rattle.dictionary.specs.declared.Summary.{Summary}
use Rattle.dictionary.specs.declared.Cursor.{Cursor}
use Rattle.dictionary.specs.declared.EntryAt.{EntryAt}
use Rattle.dictionary.specs.Layout.{Entry}
use Rattle.dictionary.specs.Reading.{Dictionary}
use Rattle.dictionary.specs.Promises.{is_two, entry_at, NextAt, dictionary_of, Summarizes}
use Rattle.bitmap_index.specs.Reading.{extent_said, entry_number, next_number, first_number, bitmap_placed, entry_placed, place_entries}
use Rattle.bitmap_index.specs.Promises.{place_of, Places, place_in, PlacesNull, Sets, SetsValues, AuditsZero, AuditsQuick, AuditsField}
use Rattle.numbers.specs.declared.Position.{Position}
use Rattle.numbers.specs.declared.Row.{Row}
use Rattle.bitmap_index.specs.declared.Place.{Place}
use Rattle.bitmap_index.specs.declared.Place.TheVariants.{Single}
use Rattle.bitmap_index.proofs.Offsets.{is_single, is_bitmap}
use Rattle.bitmap_index.proofs.PlacedRows.{measured_rise}
use Rattle.bitmap_index.proofs.PlacingEntries.{first-placed}
use Rattle.bitmap_index.proofs.Walking.{Walk, at_start, at_end, goes_on}
use Rattle.bitmap_index.proofs.Auditing.{none_missing, then_zero}

-- ---- how many more rows are set

again_go : (f : List ℕ) (r q : ℕ) → r / 8 < length f → bit f r ≡ true → Dec (q ≡ r) → tick (bit (mark f r) q) ≡ tick (bit f q) + tick false
again_go f r q l e (yes h) = rw (h, bit-mark-same f r l, e)
again_go f r q l e (no h) = rw (bit-mark-other f r q h) (omega arith)

-- a row that was set adds none
mark-again : (f : List ℕ) (r n : ℕ) → r / 8 < length f → bit f r ≡ true → count (mark f r) n ≡ count f n
mark-again f r n l e =
    let t = tally_split (bit (mark f r)) (bit f) (λ q. false) 0 n (λ q a b. again_go f r q l e (ℕ_discrete q r)) in
    omega (arith, rows-tally (mark f r) 0 n, rows-tally f 0 n, tally-none (λ q. false) 0 n (λ q a b. refl))

-- rows add no more than they are, and as many only if none was set
record AddsTo (n : ℕ) (f : List ℕ) (rs after : List ℕ) : Type 0 where
  pub most : count after n ≤ count f n + length rs
  pub free : count after n ≡ count f n + length rs → any_set f rs ≡ false

-- one row
row_adds : (f : List ℕ) (r n : ℕ) → r < n → size n ≤ length f
    → (count (mark f r) n ≤ count f n + 1) × (count (mark f r) n ≡ count f n + 1 → bit f r ≡ false)
row_adds f r n h room = go (bit f r) refl
  where
    go : (b : Bool) → bit f r ≡ b → (count (mark f r) n ≤ count f n + 1) × (count (mark f r) n ≡ count f n + 1 → bit f r ≡ false)
    go true e =
        let same = mark-again f r n (omega arith) e in
        (omega (arith, same), λ more. absurd (omega (arith, same)))
    go false e = (omega (arith, count-mark f r n h (omega arith) e), λ more. e)

rows-add : (f : List ℕ) (lo n : ℕ) (rs : List ℕ) → Rising lo n rs → size n ≤ length f → AddsTo n f rs (mark_all f rs)
unfolding mark_all any_set
rows-add f lo n [] h room = record { most = omega arith; free = λ e. refl }
rows-add f lo n (r ∷ rs) h room =
    let (one, here) = row_adds f r n h.1 room in
    let rest = rows-add (mark f r) (r + 1) n rs h.2 (rw length-mark room) in
    let l = rest.most in
    record {
      most = omega arith;
      free = λ e. rw (here (omega arith)) (sym (any_set-mark f r (r + 1) n rs (omega arith) h.2) ∙ rest.free (omega arith));
    }

-- ---- the rows of one entry

-- a refusal says nothing of them
pub refused-set : {n : ℕ} {step : List ℕ → Result (List ℕ) Refusal} {f after : List ℕ} {why : Refusal} → Places n step f after (Err why) → Sets n step f after (Err why)
refused-set p = record { outcome = tt; behind = p.behind }

pub row-set : (r n : ℕ) (f : List ℕ) {after : List ℕ} → r < n → size n ≤ length f → after ≡ mark f r → (entry : ℕ)
    → Sets n (entry_placed entry (negsuc r) 0 n []) f after (Ok 1)
unfolding entry_placed check
row-set r n f h room m entry =
    let (most, free) = row_adds f r n h room in
    record {
      outcome = rw m (most, λ e. rw (lt-ltb r n h, free e));
      behind = rw m (cleared-mark n f r h);
    }

module _ (o e n : ℕ) (region f : List ℕ) {bytes : List ℕ} {extent : Extent} {m : Result Shape Broken} (p : bytes ≡ drop o region) (x : extent ≡ extent_said e)
    (a : MeasurePromise extent bytes m) {found : Shape} (t : m ≡ Ok found) (bytes-region : Bytes region) (l : found.end ≤ n) where
  pub bitmap-set : size n ≤ length f → {after : List ℕ} → after ≡ mark_all f (rows_read (read bytes)) → (entry : ℕ)
      → Sets n (entry_placed entry (pos o) e n region) f after (Ok found.rows)
  unfolding entry_placed bitmap_placed refused_as and_then check
  bitmap-set room {after} w entry =
      let (b, g, many, last, whole) = is_sound (measured extent bytes) (sym t ∙ a.answer) in
      let known : Bytes bytes = rw p (bytes_drop o region bytes-region) in
      let below : end_of b.rows ≤ n = rw last at l in
      let rise = measured_rise extent bytes b known g n below in
      let marked : after ≡ mark_all f b.rows = rw (rows-measured extent bytes b known g) at w in
      let adds : AddsTo n f b.rows after = rw marked (rows-add f 0 n b.rows rise room) in
      record {
        outcome = (
          rw many adds.most,
          λ more. rw (← p, ← x, g, le-leb (end_of b.rows) n below, adds.free (rw many at more)) (ap Ok (sym marked)),
        );
        behind = rw marked (cleared_marks n f b.rows (rising_below 0 n b.rows rise));
      }

module _ (entry : ℕ) (z : ℤ) (e n : ℕ) (region f : List ℕ) (k : SFits w32 z) {r : Result ℕ Refusal} {after : List ℕ} where
  pub set_as_row : {row : Row} → place_of (to_z w32 (of_z w32 z)) ≡ Single row → Sets n (entry_placed entry (negsuc row.0) 0 n []) f after r → Sets n (entry_placed entry z e n region) f after r
  unfolding entry_placed
  set_as_row h p = record { outcome = rw (is_single z k h) p.outcome; behind = p.behind }

  pub set_as_place : {at : Position} → place_of (to_z w32 (of_z w32 z)) ≡ Place.Bitmap at → Sets n (entry_placed entry (pos at.0) e n region) f after r
      → Sets n (entry_placed entry z e n region) f after r
  set_as_place h p = rw (is_bitmap z k h) p

-- where so many more are set, they are placed
pub set-placed : {n : ℕ} {step : List ℕ → Result (List ℕ) Refusal} {f after : List ℕ} {k : ℕ} → Sets n step f after (Ok k) → count after n ≡ count f n + k
    → Places n step f after (Ok k)
set-placed s e = record { outcome = (s.outcome.1 e, e); behind = s.behind }

-- ---- the values' entries in turn: no more rows are set than were counted, and where they are as many, what is left of the entries, placed from the field as it
-- is, gives the whole

pub record Settings (t : ℕ) (s : List ℕ) (h : Summary) (before f : List ℕ) (c : Cursor) (i sum : ℕ) : Type 0 where
  pub walk : Walk t s h (λ es rest. count f h.rows ≡ count before h.rows + sum → place_in (i + first_number) s h rest f ≡ place_in first_number s h es before) c i
  pub most : count f h.rows ≤ count before h.rows + sum
  pub kept : cleared h.rows f ≡ cleared h.rows before

pub settings_first : (t : ℕ) (s : List ℕ) (h : Summary) (f : List ℕ) → Settings t s h f f h.first 0 0
settings_first t s h f = record { walk = at_start t s h _ (λ es d e. refl); most = omega arith; kept = refl }

module _ {t : ℕ} {s : List ℕ} {h : Summary} {before f : List ℕ} {c : Cursor} {i sum : ℕ} (g : Settings t s h before f c i sum) where
  pub settings_done : h.values ≤ i → SetsValues t s h before f (Ok sum)
  unfolding place_entries
  settings_done l es d = record { outcome = (g.most, λ e. sym (at_end g.walk l es d e)); behind = g.kept }

  module _ {r : Result ℕ Refusal} {after : List ℕ} (a : EntryAt)
      (p : Sets h.rows (entry_placed (i + first_number) (to_z w32 (entry_at s a).offset) (entry_at s a).extent h.rows (drop h.region.0 s)) f after r) where
    pub settings_refused : {why : Refusal} → SetsValues t s h before after (Err why)
    settings_refused es d = record { outcome = tt; behind = p.behind ∙ g.kept }

    pub settings_next : {k : ℕ} → r ≡ Ok k → NextAt t (is_two h.version) s c a → i < h.values → Settings t s h before after a.next (i + 1) (sum + k)
    unfolding entry_number next_number
    settings_next {k} e n l =
        let w = rw e at p in
        let here : count after h.rows ≤ count f h.rows + k = w.outcome.0 in
        let so_far = g.most in
        record {
          walk = goes_on g.walk a n l _ (λ es behind q more.
              sym (first-placed h.rows (drop h.region.0 s) (i + first_number) (entry_at s a) behind f (set-placed w (omega arith))) ∙ q (omega arith));
          most = omega arith;
          kept = w.behind ∙ g.kept;
        }

-- ---- null's rows, then the values', and a look at the whole

-- what is told is known
pub placed-known : {d : Dictionary} {zero after : List ℕ} {n : ℕ} → AuditsZero d zero after (Ok n) → AuditsQuick d zero after (Ok n)
placed-known known = record { outcome = known.outcome; behind = known.behind }

module _ (h : Summary) (body f : List ℕ) {r : Result ℕ Refusal} {mid : List ℕ} (p : PlacesNull body h f mid r) (es : List Entry) where
  abbrev whole : Dictionary
  whole = dictionary_of body h es

  pub nulls_unknown : {why : Refusal} → AuditsQuick whole f mid (Err why)
  nulls_unknown = record { outcome = tt; behind = p.behind }

  pub nulls-below : {n : ℕ} → r ≡ Ok n → count f h.rows ≡ 0 → n ≤ h.rows
  nulls-below e z =
      let w = rw e at p in
      omega (arith, w.outcome.1, count-le mid h.rows)

  module _ {r' : Result ℕ Refusal} {after : List ℕ} (q : Sets h.rows (place_in first_number body h es) mid after r') where
    pub values_unknown : {why : Refusal} → AuditsQuick whole f after (Err why)
    values_unknown = record { outcome = tt; behind = q.behind ∙ p.behind }

    pub whole-known : {n m : ℕ} → r ≡ Ok n → r' ≡ Ok m → count f h.rows ≡ 0 → m ≡ h.rows - n → count after h.rows ≡ h.rows
        → (k : ℕ) → Bytes body → Summarizes k body h es → AuditsQuick whole f after (Ok n)
    whole-known {n} {m} e t z l full k b s =
        let w = rw e at p in
        let so_many : count after h.rows ≡ count mid h.rows + m = omega (arith, w.outcome.1, count-le mid h.rows) in
        let placed = set-placed (rw t at q) so_many in
        placed-known (none_missing h body f p es e placed refl z l k b s)

-- ---- the field is clear again: what the whole told is told, and else an audit may begin anew

module _ (d : Dictionary) (f full : List ℕ) {zero after : List ℕ} {r : Result ℕ Refusal} (c : zero ≡ cleared d.rows f) (w : AuditsQuick d zero full r)
    (z : after ≡ cleared d.rows full) where
  pub told_quickly : {n : ℕ} → r ≡ Ok n → AuditsField d f after (Ok n)
  told_quickly {n} e =
      let known : AuditsQuick d zero full (Ok n) = rw e at w in
      then_zero d f full c (record { outcome = known.outcome; behind = known.behind }) z

  pub clear-again : after ≡ cleared d.rows f
  clear-again = z ∙ w.behind ∙ rw c (zeroed-again (size d.rows) f)
