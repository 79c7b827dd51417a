-- Where the fault is: an audit of a dictionary that was read refuses exactly for what is wrong with its entries, or for the lowest row that none of them has.
use Prim.Native.Nat.{ℕ, zero, suc, ◌+◌, ◌<◌, ◌≤◌}
use mathlib.Core.Path.{◌≡◌, refl, sym, ap, ◌∙◌, subst}
use mathlib.Core.Logic.{◌↔◌}
use mathlib.Core.Bool.{Bool, true, false}
use mathlib.Core.List.{List, [], append-nil}
use native.Mathlib.Decide.{dec_lt, ℕ_discrete}
use native.Mathlib.Omega.{arith}
use borrow.Author.Tests.{ne_eqb, eqb-false}
use lib.Dec.{eqb}
use lib.ListN.{length, drop, length-drop, drop_of_length-le}
use Rattle.numbers.specs.Meaning.{joined, Bytes, row, minus_one_32}
use Rattle.refusal.specs.Meaning.{limit}
use Rattle.refusal.specs.declared.Refusal.{Refusal}
use Rattle.refusal.specs.declared.Refusal.TheVariants.{Short, Magic, Version, Head, Dict, Bitmap, Range, Twice, Missing, Room, Literal, Limit, Checksum, NoBin}
use Rattle.std.specs.Prelude.{Result, Err, Ok}
use Rattle.refusal.specs.Reading.{check, and_then}
use Rattle.refusal.proofs.Laws.{not-ok}
use Rattle.row_field.specs.Meaning.{size, bit, mark_all, count, first_clear_row, Below}
use Rattle.row_field.proofs.Laws.{tick}
use Rattle.row_field.proofs.Counts.{tick-true}
use Rattle.row_field.proofs.LowestClear.{Lowest, first_clear_lowest, one_lowest, lowest_below, clear-not-full}
use Rattle.roaring.specs.declared.Extent.{Extent}
use Rattle.roaring.specs.declared.Extent.TheVariants.{AsLong, Exactly}
use Rattle.roaring.specs.Faults as roaring
use Rattle.roaring.specs.Faults.{Front, Begins, plain_front_lem, flagged_front_lem, Broken, in_front, past, cut}
use Rattle.stored_value.specs.Meaning.{Cell, null, value}
use Rattle.dictionary.specs.Layout.{Entry, Patterns}
use Rattle.dictionary.specs.Reading.{Dictionary}
use Rattle.bitmap_index.specs.Reading.{extent_said, entry_number, first_number, place_entries, audited}
use Rattle.bitmap_index.specs.Claims.{times, values_in, cell_number_behind, LengthSays, minus_one, other, OutsideRegion, no_bytes, below, ends_behind, Faultless, Reached, RowMissing, FaultIs}
use Rattle.bitmap_index.proofs.PlacingRows.{as_long, exactly}
use Rattle.bitmap_index.proofs.EntryFaults.{times-past, once_marked, EntryFault, broken, outside, again, Sound, Stopped, Steps, stopped, through, entries_step, sound-placed, stopped_refuses}

tick-none : (b : Bool) → tick b ≡ 0 → b ≡ false
tick-none true e = absurd (omega arith)
tick-none false e = refl

-- a row that stands among rows below n is below n
pub times_within : (n r : ℕ) (rs : List ℕ) → Below n rs → times r rs ≡ 1 → r < n
times_within n r rs b m = go (dec_lt r n)
  where
    go : Dec (r < n) → r < n
    go (yes l) = l
    go (no l) = absurd (omega (arith, times-past r n rs (omega arith) b))

-- an entry's number as the reading counts, and what its length says there
number_behind : (earlier : List Entry) (c : Cell) → entry_number (first_number + values_in earlier) c ≡ cell_number_behind earlier c
unfolding entry_number
number_behind earlier null = refl
number_behind earlier (value v) = omega arith

pub extent_said_lem : (long : ℕ) → LengthSays long (extent_said long)
extent_said_lem long = go (ℕ_discrete long minus_one_32)
  where
    go : Dec (long ≡ minus_one_32) → LengthSays long (extent_said long)
    go (yes e) = rw (← as_long long e, e) minus_one
    go (no n) = rw (← exactly long n) (other long n)

said_extent : {long : ℕ} {extent : Extent} → LengthSays long extent → extent ≡ extent_said long
said_extent minus_one = as_long minus_one_32 refl
said_extent (other long n) = exactly long n

-- a field with no row of the dictionary set
module _ (d : Dictionary) (z : List ℕ) (room : size d.rows ≤ length z) (zero : (r : ℕ) → r < d.rows → bit z r ≡ false) where
  -- ---- in it, entries with nothing wrong are those that are placed

  faultless : (rows : List (List ℕ)) (es : List Entry) → Sound d.rows d.region z rows es → Faultless d rows es
  faultless rows es s = record { placed = s.placed; below = s.below; once = λ r. go r (dec_lt r d.rows) }
    where
      go : (r : ℕ) → Dec (r < d.rows) → times r (joined rows) ≤ 1
      go r (yes l) = omega (arith, s.once r l)
      go r (no l) = omega (arith, times-past r d.rows (joined rows) (omega arith) s.below)

  sound : (rows : List (List ℕ)) (es : List Entry) → Faultless d rows es → Sound d.rows d.region z rows es
  sound rows es f = record { placed = f.placed; below = f.below; once = λ r l. rw (zero r l) (omega (arith, f.once r)) }

  -- and leave set just the rows that they have
  had : (rows : List (List ℕ)) (es : List Entry) → Faultless d rows es → (r : ℕ) → r < d.rows → tick (bit (mark_all z (joined rows)) r) ≡ times r (joined rows)
  had rows es f r l =
      let none = ap tick (zero r l) in
      omega (arith, once_marked z (joined rows) r (omega arith) (omega (arith, f.once r)))

  -- ---- an entry that is refused

  stopped_is : (x : Refusal) → Stopped first_number d.rows d.region z d.entries x → FaultIs d x
  stopped_is x w = go x w.fault
    where
      fine : Faultless d w.rows w.earlier
      fine = faultless w.rows w.earlier w.sound

      number : ℕ
      number = entry_number (first_number + values_in w.earlier) w.e.cell

      reached : Reached d number w.e w.rows
      reached = record { earlier = w.earlier; later = w.later; stored = w.stored; numbered = number_behind w.earlier w.e.cell; sound = fine }

      go : (x : Refusal) → EntryFault d.rows d.region number (mark_all z (joined w.rows)) w.e x → FaultIs d x
      go x (broken at container s q) =
          record {
            e = w.e;
            earlier_rows = w.rows;
            reached = reached;
            at = at;
            place = s;
            extent = extent_said w.e.extent;
            says = extent_said_lem w.e.extent;
            broken = q;
          }
      go x (outside rows r h m l) = record { e = w.e; earlier_rows = w.rows; reached = reached; rows = rows; has = h; row = r; among = m; outside = l }
      go x (again rows r h l m s) =
          record {
            e = w.e;
            earlier_rows = w.rows;
            reached = reached;
            rows = rows;
            has = h;
            below = l;
            row = r;
            among = m;
            placed_before = sym (had w.rows w.earlier fine r (times_within d.rows r rows l m)) ∙ rw s;
          }

  is_stopped : (entry : ℕ) (e : Entry) (rows : List (List ℕ)) (x : Refusal) → Reached d entry e rows
      → EntryFault d.rows d.region entry (mark_all z (joined rows)) e x → Stopped first_number d.rows d.region z d.entries x
  is_stopped entry e rows x w f =
      record {
        earlier = w.earlier;
        e = e;
        later = w.later;
        rows = rows;
        stored = w.stored;
        sound = sound rows w.earlier w.sound;
        fault = subst (λ (k : ℕ). EntryFault d.rows d.region k (mark_all z (joined rows)) e x) (w.numbered ∙ sym (number_behind w.earlier e.cell)) f;
      }

  -- ---- a row that none of them has

  module _ (rows : List (List ℕ)) (s : Faultless d rows d.entries) where
    abbrev full : List ℕ
    full = mark_all z (joined rows)

    missing_is : (count full d.rows ≡ d.rows → ⊥) → RowMissing d (first_clear_row full 0 d.rows)
    missing_is h =
        let w = first_clear_lowest full 0 d.rows in
        let l = lowest_below full d.rows h in
        record {
          each = rows;
          sound = s;
          within = l;
          none = sym (had rows d.entries s (first_clear_row full 0 d.rows) l) ∙ rw (w.clear (omega arith));
          lower = λ r i. sym (had rows d.entries s r (omega arith)) ∙ rw (w.lower r (omega arith) i);
        }

    is_missing : (r : ℕ) → r < d.rows → times r (joined rows) ≡ 0 → ((q : ℕ) → q < r → times q (joined rows) ≡ 1)
        → (count full d.rows ≡ d.rows → ⊥) × (first_clear_row full 0 d.rows ≡ r)
    is_missing r l none lower =
        let clear = tick-none (bit full r) (had rows d.entries s r l ∙ none) in
        let w : Lowest full 0 d.rows r =
        record {
          least = omega arith;
          most = omega arith;
          lower = λ q a i. tick-true (bit full q) (had rows d.entries s q (omega arith) ∙ lower q i);
          clear = λ i. clear;
        } in
        (clear-not-full full d.rows r l clear, one_lowest full 0 d.rows (first_clear_row full 0 d.rows) r (first_clear_lowest full 0 d.rows) w)

  -- ---- both

  module _ (b : Bytes d.region) (short : length d.region ≤ limit) (p : Patterns d.entries) where
    refused_is : (r : Refusal) → audited d z ≡ Err r → FaultIs d r
    unfolding audited and_then check
    refused_is r e =
        go (place_entries first_number d.rows d.region d.entries z) (entries_step d.rows d.region b short first_number z d.entries p room) e
      where
        counts : (rows : List (List ℕ)) → Faultless d rows d.entries → (x : Bool) → eqb (count (mark_all z (joined rows)) d.rows) d.rows ≡ x
            → check x (Missing (row (first_clear_row (mark_all z (joined rows)) 0 d.rows))) (Ok d.rows) ≡ Err r → FaultIs d r
        counts rows s true x q = absurd (not-ok (sym q))
        counts rows s false x q =
            let is : Missing (row (first_clear_row (mark_all z (joined rows)) 0 d.rows)) ≡ r = cc in
            subst (FaultIs d) is (missing_is rows s (eqb-false _ _ x))

        go : (o : Result (List ℕ) Refusal) → Steps first_number d.rows d.region z d.entries o
            → and_then o (λ full. check (eqb (count full d.rows) d.rows) (Missing (row (first_clear_row full 0 d.rows))) (Ok d.rows)) ≡ Err r → FaultIs d r
        go (Err x) (stopped w) q =
            let is : x ≡ r = cc in
            stopped_is r (subst (Stopped first_number d.rows d.region z d.entries) is w)
        go (Ok f) (through rows s) q = counts rows (faultless rows d.entries s) (eqb (count (mark_all z (joined rows)) d.rows) d.rows) refl q

    stopped_refused : (r : Refusal) → Stopped first_number d.rows d.region z d.entries r → audited d z ≡ Err r
    unfolding audited and_then
    stopped_refused r w = rw (stopped_refuses d.rows d.region b short first_number z d.entries r room w)

    missing_refused : (r : ℕ) → RowMissing d r → audited d z ≡ Err (Missing (row r))
    unfolding audited and_then check place_entries
    missing_refused r w =
        let (some, lowest) = is_missing w.each w.sound r w.within w.none w.lower in
        let s = sound w.each d.entries w.sound in
        let placed = rw append-nil at (sound-placed d.rows d.region b short first_number z w.each d.entries [] s room) in
        rw (placed, ne_eqb (count (mark_all z (joined w.each)) d.rows) d.rows some, lowest)

    is_refused : (r : Refusal) → FaultIs d r → audited d z ≡ Err r
    is_refused (Bitmap entry container) w = stopped_refused _ (is_stopped entry w.e w.earlier_rows _ w.reached (broken w.at container w.place (rw (said_extent w.says) at w.broken)))
    is_refused (Range entry) w = stopped_refused _ (is_stopped entry w.e w.earlier_rows _ w.reached (outside w.rows w.row w.has w.among w.outside))
    is_refused (Twice entry) w =
        let set = had w.earlier_rows w.reached.earlier w.reached.sound w.row (times_within d.rows w.row w.rows w.below w.among) in
        stopped_refused _ (is_stopped entry w.e w.earlier_rows _ w.reached (again w.rows w.row w.has w.below w.among (tick-true _ (set ∙ w.placed_before))))
    is_refused (Missing r) w = missing_refused r.0 w
    is_refused Short w = absurd w
    is_refused Magic w = absurd w
    is_refused Version w = absurd w
    is_refused Head w = absurd w
    is_refused Dict w = absurd w
    is_refused Room w = absurd w
    is_refused Literal w = absurd w
    is_refused Limit w = absurd w
    is_refused Checksum w = absurd w
    is_refused NoBin w = absurd w

    pub refused_exactly : (r : Refusal) → (audited d z ≡ Err r) ↔ FaultIs d r
    refused_exactly r = (refused_is r, is_refused r)

-- ---- a place or a length outside the region

begins_some : {f : Front} {s : List ℕ} → Begins f s → 1 ≤ length s
begins_some (plain_front_lem n behind l) = omega arith
begins_some (flagged_front_lem n numbers behind a l r) = omega arith

none-broken : (extent : Extent) → Broken extent [] 0
none-broken AsLong = roaring.as_long {s = []} (in_front (λ f b. omega (arith, begins_some b)))
none-broken (Exactly zero) = cut {s = []} {long = 0} (omega arith) (in_front (λ f b. omega (arith, begins_some b)))
none-broken (Exactly (suc long)) = past {s = []} {long = suc long} (omega arith)

pub outside-broken : (region : List ℕ) (at long : ℕ) (extent : Extent) → length region ≤ limit → LengthSays long extent → OutsideRegion region at long
    → Broken extent (drop at region) 0
outside-broken region at long extent l says (no_bytes h) = rw (drop_of_length-le region h) (none-broken extent)
outside-broken region at _ _ l minus_one (below h k) = absurd (omega arith)
outside-broken region at _ _ l (other long n) (below h k) = past {s = drop at region} {long = long} (rw length-drop (omega arith))
outside-broken region at _ _ l minus_one (ends_behind n h) = absurd (n refl)
outside-broken region at _ _ l (other long n) (ends_behind m h) = go (dec_lt at (length region))
  where
    go : Dec (at < length region) → Broken (Exactly long) (drop at region) 0
    go (yes k) = past {s = drop at region} {long = long} (rw length-drop (omega arith))
    go (no k) = rw (drop_of_length-le region (let g : length region ≤ at = omega arith in g)) (none-broken (Exactly long))
