-- The rows of chosen entries, marked one after the other.
use Prim.Native.Nat.{ℕ, ◌+◌, ◌<◌, ◌≤◌}
use mathlib.Core.Path.{◌≡◌, refl, sym, ap, ◌∙◌}
use mathlib.Core.Bool.{Bool, true, false, cond}
use mathlib.Core.List.{List, [], ◌∷◌, ◌++◌}
use native.Mathlib.Decide.{dec_lt}
use native.Mathlib.Omega.{arith}
use lib.IntN.{ℤ}
use lib.ListN.{length, drop, drop_of_length-le}
use mir.Syntax.{w32}
use mir.Val.{SFits, to_z, of_z}
use Rattle.numbers.specs.Meaning.{All, number}
use Rattle.refusal.proofs.Laws.{not-ok}
use Rattle.row_field.specs.Meaning.{mark, mark_all}
use Rattle.roaring.specs.Reading.{read, rows_read}
use Rattle.roaring.specs.Promises.{SoundBelow}
use Rattle.stored_value.specs.Meaning.{null}
use Rattle.dictionary.specs.Layout.{Entry}
use Rattle.std.specs.Prelude.{Some, None}
use Rattle.dictionary.specs.declared.NullEntry.{NullEntry}
use Rattle.dictionary.specs.declared.Summary.{Summary}
use Rattle.dictionary.specs.declared.Cursor.{Cursor}
use Rattle.dictionary.specs.declared.EntryAt.{EntryAt}
use Rattle.dictionary.specs.Promises.{is_two, pattern, nulls_of, entry_at, IsRead, NextAt}
use Rattle.dictionary.proofs.Offsets.{read-signed}
use Rattle.bitmap_index.specs.declared.Question.{Question}
use Rattle.bitmap_index.specs.declared.Sought.{Sought}
use Rattle.bitmap_index.specs.Names.{question_of}
use Rattle.bitmap_index.specs.Meaning.{chosen}
use Rattle.bitmap_index.specs.Reading.{chosen_of, rows_for, rows_at, mark_entries}
use Rattle.bitmap_index.specs.Promises.{place_of, ForEntries, SoundAt, SoundEntry, SoundEntryAt, SoundNull, AllSound, ForLookup, MarksChosen}
use Rattle.numbers.specs.declared.Position.{Position}
use Rattle.numbers.specs.declared.Row.{Row}
use Rattle.bitmap_index.specs.declared.Place.{Place}
use Rattle.bitmap_index.specs.declared.Place.TheVariants.{Single}
use Rattle.bitmap_index.proofs.Offsets.{is_single, is_bitmap}
use Rattle.bitmap_index.proofs.PlacingEntries.{entry_of_null}
use Rattle.bitmap_index.proofs.Walking.{Walk, at_start, at_end, here, found, goes_on}

-- ---- the rows of one entry

-- a bitmap begins before the region's end
sound_inside : (n o : ℕ) (region : List ℕ) → SoundBelow n (drop o region) → o ≤ length region
unfolding read number
sound_inside n o region s = go (dec_lt (length region) o)
  where
    go : Dec (length region < o) → o ≤ length region
    go (yes h) =
        let l : length region ≤ o = omega arith in
        absurd (not-ok (rw (drop_of_length-le region l) at s.so))
    go (no h) = omega arith

module _ (z : ℤ) (n : ℕ) (region f : List ℕ) (k : SFits w32 z) where
  pub as_row : {row : Row} → place_of (to_z w32 (of_z w32 z)) ≡ Single row → {after : List ℕ} → after ≡ mark f row.0 → after ≡ mark_all f (rows_for z region)
  unfolding rows_for mark_all
  as_row h m = rw (is_single z k h) m

  module _ {at : Position} (h : place_of (to_z w32 (of_z w32 z)) ≡ Place.Bitmap at) where
    pub sound_there : SoundAt n region z → SoundBelow n (drop at.0 region)
    sound_there s = rw (is_bitmap z k h) at s

    pub there_inside : SoundAt n region z → at.0 ≤ length region
    there_inside s = sound_inside n at.0 region (sound_there s)

    pub as_bitmap : {after : List ℕ} → after ≡ mark_all f (rows_read (read (drop at.0 region))) → after ≡ mark_all f (rows_for z region)
    unfolding rows_for
    as_bitmap m = rw (is_bitmap z k h) m

-- ---- chosen entries

module _ (q : Question) (ls : List (List ℕ)) where
  pub chosen-append : (xs ys : List Entry) → chosen_of q ls (xs ++ ys) ≡ chosen_of q ls xs ++ chosen_of q ls ys
  unfolding chosen_of
  chosen-append [] ys = refl
  chosen-append (x ∷ xs) ys = go (chosen q ls x.cell) (chosen-append xs ys)
    where
      go : (b : Bool) → chosen_of q ls (xs ++ ys) ≡ chosen_of q ls xs ++ chosen_of q ls ys
          → cond b (x ∷ chosen_of q ls (xs ++ ys)) (chosen_of q ls (xs ++ ys)) ≡ cond b (x ∷ chosen_of q ls xs) (chosen_of q ls xs) ++ chosen_of q ls ys
      go true i = ap (λ (es : List Entry). x ∷ es) i
      go false i = i

pub marks_append : (region : List ℕ) (xs ys : List Entry) (f : List ℕ) → mark_entries region (xs ++ ys) f ≡ mark_entries region ys (mark_entries region xs f)
unfolding mark_entries
marks_append region [] ys f = refl
marks_append region (x ∷ xs) ys f = marks_append region xs ys (mark_all f (rows_at region x))

module _ (body : List ℕ) (h : Summary) (q : Question) (ls : List (List ℕ)) (f : List ℕ) where
  pub both_marked : (xs ys : List Entry) {mid after : List ℕ} → MarksChosen body h q ls xs f mid → MarksChosen body h q ls ys mid after
      → MarksChosen body h q ls (xs ++ ys) f after
  both_marked xs ys m n =
      let region : List ℕ = drop h.region.0 body in
      n
      ∙ ap (λ (g : List ℕ). mark_entries region (chosen_of q ls ys) g) m
      ∙ sym (marks_append region (chosen_of q ls xs) (chosen_of q ls ys) f)
      ∙ ap (λ (es : List Entry). mark_entries region es f) (sym (chosen-append q ls xs ys))

  module _ (e : Entry) {is : Bool} (c : is ≡ chosen q ls e.cell) where
    pub not_chosen : is ≡ false → MarksChosen body h q ls (e ∷ []) f f
    unfolding chosen_of mark_entries
    not_chosen t = rw (← c, t)

    pub is_chosen : is ≡ true → {after : List ℕ} → after ≡ mark_all f (rows_for (to_z w32 e.offset) (drop h.region.0 body))
        → MarksChosen body h q ls (e ∷ []) f after
    unfolding chosen_of mark_entries rows_at
    is_chosen t m = rw (← c, t) (rw (read-signed e.offset) at m)

  -- null's entry, if there is one
  pub no_null : h.null ≡ None → MarksChosen body h q ls (nulls_of h) f f
  unfolding chosen_of mark_entries
  no_null t = rw t

  module _ {n : NullEntry} (t : h.null ≡ Some n) {is : Bool} (c : is ≡ chosen q ls null) where
    pub null-not-chosen : is ≡ false → MarksChosen body h q ls (nulls_of h) f f
    null-not-chosen y = rw t (not_chosen (entry_of_null n) c y)

    pub null_is_chosen : is ≡ true → {after : List ℕ} → after ≡ mark_all f (rows_for (to_z w32 (pattern n.offset)) (drop h.region.0 body))
        → MarksChosen body h q ls (nulls_of h) f after
    null_is_chosen y m = rw t (is_chosen (entry_of_null n) c y m)

-- what marking asks for, as the code takes an offset
pub sound-entry : (body : List ℕ) (h : Summary) (e : Entry) → SoundEntry body h e → SoundAt h.rows (drop h.region.0 body) (to_z w32 e.offset)
sound-entry body h e s = rw (read-signed e.offset) s

pub sound-null : (body : List ℕ) (h : Summary) → SoundNull body h → {n : NullEntry} → h.null ≡ Some n
    → SoundAt h.rows (drop h.region.0 body) (to_z w32 (pattern n.offset))
sound-null body h w {n} t = sound-entry body h (entry_of_null n) (rw t at w.sound).0

pub all_parts : {A : Type 0} (P : A → Type 0) (xs ys : List A) → All P (xs ++ ys) → All P xs × All P ys
all_parts P [] ys a = (tt, a)
all_parts P (x ∷ xs) ys a = let (i, j) = all_parts P xs ys a.1 in ((a.0, i), j)

pub null_inside : (t : ℕ) (body : List ℕ) (h : Summary) → AllSound t body h → SoundNull body h
null_inside t body h w =
    let y = w.is_read in
    record { region = y.summary.region; sound = (all_parts (SoundEntry body h) (nulls_of h) y.entries (w.sound y.entries y.summary)).0 }

-- ---- the values' entries in turn: what is left of the chosen ones, marked in the field as it is, gives the whole

pub record Marks (t : ℕ) (s : List ℕ) (h : Summary) (w : Sought) (before f : List ℕ) (c : Cursor) (i : ℕ) : Type 0 where
  pub walk : Walk t s h (λ es rest. All (SoundEntry s h) rest × ForLookup w (λ ls.
      mark_entries (drop h.region.0 s) (chosen_of (question_of w.question) ls rest) f ≡ mark_entries (drop h.region.0 s) (chosen_of (question_of w.question) ls es) before)) c i

pub marks_first : (t : ℕ) (s : List ℕ) (h : Summary) (w : Sought) (f : List ℕ) → AllSound t s h → Marks t s h w f f h.first 0
marks_first t s h w f y =
    record { walk = at_start t s h _ (λ es d. ((all_parts (SoundEntry s h) (nulls_of h) es (y.sound es d)).1, λ ls k. refl)) }

module _ {t : ℕ} {s : List ℕ} {h : Summary} {w : Sought} {before f : List ℕ} {c : Cursor} {i : ℕ}
    (g : Marks t s h w before f c i) where
  pub marks_done : h.values ≤ i → ForEntries t s h (λ es. ForLookup w (λ ls. MarksChosen s h (question_of w.question) ls es before f))
  unfolding chosen_of mark_entries
  marks_done l es d ls k = (at_end g.walk l es d).1 ls k

  module _ (a : EntryAt) (n : NextAt t (is_two h.version) s c a) (l : i < h.values) where
    -- the entry that the code found lies in the body
    pub entry_inside : IsRead t s h → SoundEntryAt s h a
    entry_inside y =
        let e = here g.walk a n l y.entries y.summary in
        record { region = y.summary.region; start = e.start; end = e.end; sound = (found g.walk a n l y.entries y.summary).0.0 }

    pub marks_next : {after : List ℕ} → ForLookup w (λ ls. MarksChosen s h (question_of w.question) ls (entry_at s a ∷ []) f after)
        → Marks t s h w before after a.next (i + 1)
    marks_next {after} m =
        record {
          walk = goes_on g.walk a n l _ (λ es behind y. (y.0.1, λ ls k. both_marked s h (question_of w.question) ls f (entry_at s a ∷ []) behind (m ls k) refl ∙ y.1 ls k));
        }
