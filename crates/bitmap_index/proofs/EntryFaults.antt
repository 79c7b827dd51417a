-- What is wrong with an entry that is refused, and with none of those before it: entries placed one after the other, each in the field that those before it
-- have left.
use Prim.Native.Nat.{ℕ, ◌+◌, ◌/◌, ◌<◌, ◌≤◌}
use mathlib.Core.Path.{◌≡◌, refl, sym, ap, ◌∙◌}
use mathlib.Core.Bool.{Bool, true, false, not, ◌||◌, cond, or-true}
use mathlib.Core.List.{List, [], ◌∷◌, ◌++◌}
use native.Mathlib.Nat.{add-zero}
use native.Mathlib.Omega.{arith}
use borrow.Author.Tests.{eq-eqb, ne_eqb, leb-true, leb-false, le-leb}
use lib.Dec.{eqb, leb}
use lib.IntN.{ℤ, pos, negsuc}
use lib.ListN.{length, drop}
use Rattle.numbers.specs.Meaning.{joined, signed32, Bytes, four_bytes}
use Rattle.numbers.proofs.ByteLists.{bytes_drop}
use Rattle.refusal.specs.Meaning.{limit}
use Rattle.refusal.specs.declared.Refusal.{Refusal}
use Rattle.refusal.specs.declared.Refusal.TheVariants.{Bitmap, Range, Twice}
use Rattle.std.specs.Prelude.{Result, Err, Ok}
use Rattle.refusal.specs.Reading.{check, and_then, refused_as}
use Rattle.row_field.specs.Meaning.{size, bit, mark_all, any_set, Rising, Below}
use Rattle.row_field.proofs.Laws.{tick}
use Rattle.row_field.proofs.Counts.{tick-le}
use Rattle.row_field.proofs.Marks.{member, length-mark_all, bit-mark_all, mark_all-append}
use Rattle.roaring.specs.Faults.{Broken}
use Rattle.roaring.specs.Reading.{Fault, unsound, Parsed, measured, end_of, measured_by, broken_at}
use Rattle.roaring.proofs.RowsRising.{bitmap_rising}
use Rattle.roaring.proofs.Theorems.{names_the_broken}
use Rattle.roaring.proofs.Measuring.{not_sound, end_below, below_end}
use Rattle.stored_value.specs.Meaning.{Cell, null, value}
use Rattle.dictionary.specs.Layout.{Entry, Patterns}
use Rattle.bitmap_index.specs.Layout.{EntryRows, single, bitmap}
use Rattle.bitmap_index.specs.Reading.{extent_said, entry_number, next_number, bitmap_placed, entry_placed, place_entry, place_entries}
use Rattle.bitmap_index.specs.Claims.{RowsOfEach, times, of_value, values_in}
use Rattle.bitmap_index.proofs.LaidRows.{laid_placed, place_one}
use Rattle.bitmap_index.proofs.AcceptedStages.{single-rows, bitmap-rows}
use Rattle.bitmap_index.proofs.Accepted.{times-append, times_rising, member_free}

-- ---- how often a row stands among rows

-- not at all, if they are all below it
pub times-past : (r n : ℕ) (rs : List ℕ) → n ≤ r → Below n rs → times r rs ≡ 0
times-past r n [] h b = refl
times-past r n (q ∷ rs) h b = rw (ne_eqb r q (omega arith)) (omega (arith, times-past r n rs h b.1))

times-member : (r : ℕ) (rs : List ℕ) → times r rs ≤ 1 → tick (member r rs) ≡ times r rs
unfolding member
times-member r [] h = refl
times-member r (q ∷ rs) h = go (eqb r q) h (times-member r rs)
  where
    go : (b : Bool) → cond b 1 0 + times r rs ≤ 1 → (times r rs ≤ 1 → tick (member r rs) ≡ times r rs) → tick (b || member r rs) ≡ cond b 1 0 + times r rs
    go true l i = omega arith
    go false l i = omega (arith, i (omega arith))

-- the last of rows is at least n if their end is above it
last_row : (n : ℕ) (rs : List ℕ) → n < end_of rs → (r : ℕ) × (member r rs ≡ true) × (n ≤ r)
unfolding end_of member
last_row n [] h = absurd (omega arith)
last_row n (r ∷ []) h = (r, rw (eq-eqb r r refl), omega arith)
last_row n (r ∷ q ∷ rs) h =
    let (s, there, l) = last_row n (q ∷ rs) h in
    (s, rw there (or-true (eqb s r)), l)

set-row : (f rs : List ℕ) → any_set f rs ≡ true → (r : ℕ) × (member r rs ≡ true) × (bit f r ≡ true)
unfolding any_set member
set-row f [] h = absurd (let z : ◌≡◌ {A = ℕ} 0 1 = cc in omega arith)
set-row f (q ∷ rs) h = go (bit f q) refl h (set-row f rs)
  where
    go : (b : Bool) → bit f q ≡ b → b || any_set f rs ≡ true → (any_set f rs ≡ true → (r : ℕ) × (member r rs ≡ true) × (bit f r ≡ true))
        → (r : ℕ) × (member r (q ∷ rs) ≡ true) × (bit f r ≡ true)
    go true e x i = (q, rw (eq-eqb q q refl), e)
    go false e x i =
        let (r, there, set) = i x in
        (r, rw there (or-true (eqb r q)), set)

-- ---- rows marked in a field

tick-or : (a b : Bool) → tick a + tick b ≤ 1 → tick (a || b) ≡ tick a + tick b
tick-or true true h = absurd (omega arith)
tick-or true false h = refl
tick-or false b h = omega arith

-- where a row is not both set and among rows, and not twice among them, marking them adds what they have of it
pub once_marked : (f rs : List ℕ) (r : ℕ) → r / 8 < length f → tick (bit f r) + times r rs ≤ 1 → tick (bit (mark_all f rs) r) ≡ tick (bit f r) + times r rs
once_marked f rs r h l =
    let e = times-member r rs (omega arith) in
    rw (bit-mark_all f rs r h) (tick-or (bit f r) (member r rs) (omega arith) ∙ rw e)

free_once : (f : List ℕ) (lo hi : ℕ) (rs : List ℕ) (r : ℕ) → Rising lo hi rs → any_set f rs ≡ false → tick (bit f r) + times r rs ≤ 1
free_once f lo hi rs r s h = go (bit f r) refl
  where
    go : (b : Bool) → bit f r ≡ b → tick b + times r rs ≤ 1
    go true e = rw (times_rising r lo hi rs s, member_free f r rs e h) (omega arith)
    go false e = rw (times_rising r lo hi rs s) (omega (arith, tick-le (member r rs)))

once_free : (f : List ℕ) (n : ℕ) (rs : List ℕ) → Below n rs → ((r : ℕ) → r < n → tick (bit f r) + times r rs ≤ 1) → any_set f rs ≡ false
unfolding any_set
once_free f n [] b h = refl
once_free f n (q ∷ rs) b h = go (bit f q) (rw (eq-eqb q q refl) at (h q b.0)) (once_free f n rs b.1 (λ r l. omega (arith, h r l)))
  where
    go : (x : Bool) → tick x + (1 + times q rs) ≤ 1 → any_set f rs ≡ false → x || any_set f rs ≡ false
    go true l i = absurd (omega arith)
    go false l i = i

-- ---- one entry, placed in a field of n rows

-- what is wrong with it, by the refusal
pub data EntryFault (n : ℕ) (region : List ℕ) (entry : ℕ) (f : List ℕ) (e : Entry) : Refusal → Type 0 where
  broken : (at container : ℕ) → signed32 e.offset ≡ pos at → Broken (extent_said e.extent) (drop at region) container
      → EntryFault n region entry f e (Bitmap entry container)
  outside : (rows : List ℕ) (row : ℕ) → EntryRows region rows e → times row rows ≡ 1 → n ≤ row → EntryFault n region entry f e (Range entry)
  again : (rows : List ℕ) (row : ℕ) → EntryRows region rows e → Below n rows → times row rows ≡ 1 → bit f row ≡ true
      → EntryFault n region entry f e (Twice entry)

-- it is refused for that; or it has rows below n, none of them set, which are then marked
data Step (n : ℕ) (region : List ℕ) (entry : ℕ) (f : List ℕ) (e : Entry) : Result (List ℕ) Refusal → Type 0 where
  stops : {x : Refusal} → EntryFault n region entry f e x → Step n region entry f e (Err x)
  goes_on : (rows : List ℕ) → EntryRows region rows e → Below n rows → any_set f rows ≡ false → Step n region entry f e (Ok (mark_all f rows))

entry_rising : (region rows : List ℕ) (e : Entry) → EntryRows region rows e → Rising 0 four_bytes rows
entry_rising region rows e (single r q h o x) = rw q (omega arith, omega arith, tt)
entry_rising region rows e (bitmap before bytes behind q m o x) = bitmap_rising m

is_named : (m : Result Parsed Fault) (i : ℕ) → m ≡ Err (unsound i) → measured_by m ≡ Err (broken_at i)
unfolding measured_by
is_named m i e = rw e

module _ (n : ℕ) (region : List ℕ) (b : Bytes region) (short : length region ≤ limit) where
  module _ (next : ℕ) (f : List ℕ) (e : Entry) where
    abbrev entry : ℕ
    entry = entry_number next e.cell

    rows_step : (rows : List ℕ) → EntryRows region rows e → Step n region entry f e (place_entry next n region f e)
    unfolding check
    rows_step rows h = rw (laid_placed next n region f e short rows h) (go (leb (end_of rows) n) (any_set f rows) refl refl)
      where
        rising : Rising 0 four_bytes rows
        rising = entry_rising region rows e h

        once : (r : ℕ) → member r rows ≡ true → times r rows ≡ 1
        once r m = times_rising r 0 four_bytes rows rising ∙ rw m

        go : (x y : Bool) → leb (end_of rows) n ≡ x → any_set f rows ≡ y
            → Step n region entry f e (check x (Range entry) (check (not y) (Twice entry) (Ok (mark_all f rows))))
        go false y p q =
            let (r, m, l) = last_row n rows (leb-false (end_of rows) n p) in
            stops (outside rows r h (once r m) l)
        go true true p q =
            let (r, m, s) = set-row f rows q in
            stops (again rows r h (end_below n 0 four_bytes rows rising (leb-true (end_of rows) n p)) (once r m) s)
        go true false p q = goes_on rows h (end_below n 0 four_bytes rows rising (leb-true (end_of rows) n p)) q

    module _ (o : ℕ) (s : signed32 e.offset ≡ pos o) where
      broken-stops : (container : ℕ) → measured (extent_said e.extent) (drop o region) ≡ Err (unsound container)
          → place_entry next n region f e ≡ Err (Bitmap entry container)
      unfolding place_entry entry_placed bitmap_placed refused_as and_then
      broken-stops container m = rw (s, m)

      bitmap_step : e.offset < four_bytes → e.extent < four_bytes → Step n region entry f e (place_entry next n region f e)
      bitmap_step p x = go (measured (extent_said e.extent) (drop o region)) refl
        where
          go : (m : Result Parsed Fault) → measured (extent_said e.extent) (drop o region) ≡ m → Step n region entry f e (place_entry next n region f e)
          go (Err (unsound i)) m =
              rw (broken-stops i m) (stops (broken o i s ((names_the_broken (extent_said e.extent) (drop o region) i (bytes_drop o region b)).0 (is_named _ i m))))
          go (Ok q) m = rows_step q.rows (bitmap-rows region e b p x o q s m)

    entry_step : e.offset < four_bytes → e.extent < four_bytes → Step n region entry f e (place_entry next n region f e)
    entry_step p x = go (signed32 e.offset) refl
      where
        go : (z : ℤ) → signed32 e.offset ≡ z → Step n region entry f e (place_entry next n region f e)
        go (negsuc r) s = rows_step (r ∷ []) (single-rows region e b p x r s)
        go (pos o) s = bitmap_step o s p x

    fault_stops : (x : Refusal) → EntryFault n region entry f e x → place_entry next n region f e ≡ Err x
    unfolding check
    fault_stops x (broken at container s w) =
        broken-stops at s container (not_sound _ (sym ((names_the_broken (extent_said e.extent) (drop at region) container (bytes_drop at region b)).1 w)))
    fault_stops x (outside rows row h m l) = laid_placed next n region f e short rows h ∙ go (leb (end_of rows) n) refl
      where
        go : (x : Bool) → leb (end_of rows) n ≡ x
            → check x (Range entry) (check (not (any_set f rows)) (Twice entry) (Ok (mark_all f rows))) ≡ Err (Range entry)
        go true p =
            let below = end_below n 0 four_bytes rows (entry_rising region rows e h) (leb-true (end_of rows) n p) in
            absurd (omega (arith, times-past row n rows l below))
        go false p = refl
    fault_stops x (again rows row h below m s) =
        laid_placed next n region f e short rows h ∙ rw (le-leb (end_of rows) n (below_end n rows below)) (go (any_set f rows) refl)
      where
        go : (x : Bool) → any_set f rows ≡ x → check (not x) (Twice entry) (Ok (mark_all f rows)) ≡ Err (Twice entry)
        go true p = refl
        go false p =
            let i = free_once f 0 four_bytes rows row (entry_rising region rows e h) p in
            absurd (omega (arith, rw s at i))

-- ---- entries, one after the other

-- nothing is wrong with entries that are placed in the field f: the rows of each are below n, and none is set before, or stands twice
pub record Sound (n : ℕ) (region f : List ℕ) (rows : List (List ℕ)) (es : List Entry) : Type 0 where
  pub placed : RowsOfEach region rows es
  pub below : Below n (joined rows)
  pub once : (r : ℕ) → r < n → tick (bit f r) + times r (joined rows) ≤ 1

-- those before the entry e are so, and it is refused in the field that they leave; values are numbered from `next` on
pub record Stopped (next n : ℕ) (region f : List ℕ) (es : List Entry) (x : Refusal) : Type 0 where
  pub earlier : List Entry
  pub e : Entry
  pub later : List Entry
  pub rows : List (List ℕ)
  pub stored : es ≡ earlier ++ (e ∷ later)
  pub sound : Sound n region f rows earlier
  pub fault : EntryFault n region (entry_number (next + values_in earlier) e.cell) (mark_all f (joined rows)) e x

pub data Steps (next n : ℕ) (region f : List ℕ) (es : List Entry) : Result (List ℕ) Refusal → Type 0 where
  stopped : {x : Refusal} → Stopped next n region f es x → Steps next n region f es (Err x)
  through : (rows : List (List ℕ)) → Sound n region f rows es → Steps next n region f es (Ok (mark_all f (joined rows)))

numbers_go_on : (next : ℕ) (c : Cell) (k : ℕ) → next + (of_value c + k) ≡ next_number next c + k
unfolding next_number
numbers_go_on next null k = omega arith
numbers_go_on next (value v) k = omega arith

below_both : (n : ℕ) (xs ys : List ℕ) → Below n xs → Below n ys → Below n (xs ++ ys)
below_both n [] ys h l = l
below_both n (x ∷ xs) ys h l = (h.0, below_both n xs ys h.1 l)

below_parts : (n : ℕ) (xs ys : List ℕ) → Below n (xs ++ ys) → Below n xs × Below n ys
below_parts n [] ys h = (tt, h)
below_parts n (x ∷ xs) ys h = let (l, r) = below_parts n xs ys h.1 in ((h.0, l), r)

module _ (n : ℕ) (region f : List ℕ) (room : size n ≤ length f) where
  sound_none : Sound n region f [] []
  sound_none = record { placed = tt; below = tt; once = λ r l. omega (arith, tick-le (bit f r)) }

  module _ (rs : List ℕ) (e : Entry) (rows : List (List ℕ)) (es : List Entry) where
    sound_more : EntryRows region rs e → Below n rs → any_set f rs ≡ false → Sound n region (mark_all f rs) rows es → Sound n region f (rs ∷ rows) (e ∷ es)
    sound_more h l free s =
        record {
          placed = (h, s.placed);
          below = below_both n rs (joined rows) l s.below;
          once = λ r i.
              omega (
                arith,
                s.once r i,
                times-append r rs (joined rows),
                once_marked f rs r (omega arith) (free_once f 0 four_bytes rs r (entry_rising region rs e h) free),
              );
        }

    sound-first : Sound n region f (rs ∷ rows) (e ∷ es) → Below n rs × (any_set f rs ≡ false) × Sound n region (mark_all f rs) rows es
    sound-first s =
        let (here, there) = below_parts n rs (joined rows) s.below in
        let first : (r : ℕ) → r < n → tick (bit f r) + times r rs ≤ 1 = λ r i. omega (arith, s.once r i, times-append r rs (joined rows)) in
        let others : (r : ℕ) → r < n → tick (bit (mark_all f rs) r) + times r (joined rows) ≤ 1 =
        λ r i. omega (arith, s.once r i, times-append r rs (joined rows), once_marked f rs r (omega arith) (first r i)) in
        (here, once_free f n rs here first, record { placed = s.placed.1; below = there; once = others })

module _ (n : ℕ) (region : List ℕ) (b : Bytes region) (short : length region ≤ limit) where
  pub entries_step : (next : ℕ) (f : List ℕ) (es : List Entry) → Patterns es → size n ≤ length f → Steps next n region f es (place_entries next n region es f)
  unfolding place_entries and_then mark_all
  entries_step next f [] p room = through [] (sound_none n region f room)
  entries_step next f (e ∷ es) p room =
      go (place_entry next n region f e) (entry_step n region b short next f e p.0 p.1) (λ g l. entries_step (next_number next e.cell) g es p.2 l)
    where
      go : (o : Result (List ℕ) Refusal) → Step n region (entry_number next e.cell) f e o
          → ((g : List ℕ) → size n ≤ length g → Steps (next_number next e.cell) n region g es (place_entries (next_number next e.cell) n region es g))
          → Steps next n region f (e ∷ es) (and_then o (place_entries (next_number next e.cell) n region es))
      go (Err x) (stops w) i =
          stopped {x = x} (record { earlier = []; e = e; later = es; rows = []; stored = refl; sound = sound_none n region f room; fault = rw (add-zero next) w })
      go (Ok g) (goes_on rs h l free) i = more (place_entries (next_number next e.cell) n region es (mark_all f rs)) (i (mark_all f rs) (rw length-mark_all room))
        where
          more : (o : Result (List ℕ) Refusal) → Steps (next_number next e.cell) n region (mark_all f rs) es o → Steps next n region f (e ∷ es) o
          more (Err x) (stopped w) =
              stopped {x = x} (record {
                earlier = e ∷ w.earlier;
                e = w.e;
                later = w.later;
                rows = rs ∷ w.rows;
                stored = ap (λ (l : List Entry). e ∷ l) w.stored;
                sound = sound_more n region f room rs e w.rows w.earlier h l free w.sound;
                fault = rw (mark_all-append f rs (joined w.rows), numbers_go_on next e.cell (values_in w.earlier)) w.fault;
              })
          more (Ok g) (through rows s) = rw (← mark_all-append f rs (joined rows)) (through (rs ∷ rows) (sound_more n region f room rs e rows es h l free s))

  -- entries with nothing wrong are placed, and leave their rows marked
  pub sound-placed : (next : ℕ) (f : List ℕ) (rows : List (List ℕ)) (es rest : List Entry) → Sound n region f rows es → size n ≤ length f
      → place_entries next n region (es ++ rest) f ≡ place_entries (next + values_in es) n region rest (mark_all f (joined rows))
  unfolding place_entries and_then mark_all
  sound-placed next f [] [] rest s room = rw (add-zero next)
  sound-placed next f [] (e ∷ es) rest s room = absurd s.placed
  sound-placed next f (rs ∷ rows) [] rest s room = absurd s.placed
  sound-placed next f (rs ∷ rows) (e ∷ es) rest s room =
      let (l, free, more) = sound-first n region f room rs e rows es s in
      rw (place_one next n region f e short rs s.placed.0 l free, numbers_go_on next e.cell (values_in es), mark_all-append f rs (joined rows))
      (sound-placed (next_number next e.cell) (mark_all f rs) rows es rest more (rw length-mark_all room))

  pub stopped_refuses : (next : ℕ) (f : List ℕ) (es : List Entry) (x : Refusal) → size n ≤ length f → Stopped next n region f es x
      → place_entries next n region es f ≡ Err x
  unfolding place_entries and_then
  stopped_refuses next f es x room w =
      rw w.stored (sound-placed next f w.rows w.earlier (w.e ∷ w.later) w.sound room
      ∙ rw (fault_stops n region b short (next + values_in w.earlier) (mark_all f (joined w.rows)) w.e x w.fault))
