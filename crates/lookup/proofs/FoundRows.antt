-- Behind ROOM: null's rows and those of the entry that was found, placed in a cleared field. What is wrong where one is refused, and what the field and the record
-- are where both are placed.
use Prim.Native.Nat.{ℕ, ◌+◌, ◌*◌, ◌/◌, ◌<◌, ◌≤◌}
use mathlib.Core.Path.{◌≡◌, refl, sym, ap, ◌∙◌, subst}
use mathlib.Core.Bool.{Bool, true, false}
use mathlib.Core.List.{List, [], ◌∷◌, ◌++◌}
use native.Mathlib.Nat.{add-zero}
use native.Mathlib.Decide.{ℕ_discrete}
use native.Mathlib.Omega.{arith}
use borrow.Author.Tests.{eq-eqb, ne_eqb}
use lib.ListN.{length, length-append}
use Rattle.numbers.specs.Meaning.{joined}
use Rattle.refusal.specs.declared.Refusal.{Refusal}
use Rattle.std.specs.Prelude.{Result, Err, Ok}
use Rattle.refusal.specs.Reading.{and_then}
use Rattle.refusal.proofs.Laws.{not-ok, ok_same, then_ok}
use Rattle.row_field.specs.Meaning.{size, bit, mark, mark_all, count, cleared, Below}
use Rattle.row_field.proofs.Laws.{tick, length-mark, bit-mark-same, bit-mark-other}
use Rattle.row_field.proofs.Marks.{member-past, bit-mark_all}
use Rattle.row_field.proofs.Counts.{count-mark, none_counted, length-zeroed, zeroed-again, bit-zeroed}
use Rattle.row_field.proofs.Fronts.{cleared_marks}
use Rattle.stored_value.specs.Meaning.{null, value}
use Rattle.dictionary.specs.Layout.{Entry, NullOnly, Patterns}
use Rattle.bitmap_index.specs.Reading.{extent_said, entry_number, first_number, place_entries}
use Rattle.bitmap_index.specs.Claims.{times, values_in}
use Rattle.bitmap_index.proofs.EntryFaults as placed
use Rattle.bitmap_index.proofs.EntryFaults.{Stopped, Steps, stopped, through, entries_step}
use Rattle.bitmap_index.proofs.Faults.{times_within, extent_said_lem}
use Rattle.lookup.specs.Reading.{Sought, Looked, looked_in}
use Rattle.lookup.specs.Claims.{EntryFault, broken, outside, Sound, AfterRoom, of_null, of_entry, AcceptedIs}
use Rattle.lookup.proofs.SoughtParts.{Placeable}

-- ---- rows below n that stand once and of which none is set add as many as they are

marked_once : (f : List ℕ) (r q n : ℕ) (rs : List ℕ) → r / 8 < length f → bit f r ≡ false → ((s : ℕ) → s < n → tick (bit f s) + times s (r ∷ rs) ≤ 1) → q < n
    → tick (bit (mark f r) q) + times q rs ≤ 1
marked_once f r q n rs l free once h = go (ℕ_discrete q r)
  where
    go : Dec (q ≡ r) → tick (bit (mark f r) q) + times q rs ≤ 1
    go (yes e) =
        let i = rw (eq-eqb r r refl) at (once r (omega arith)) in
        rw (e, bit-mark-same f r l) (omega arith)
    go (no e) =
        let i = rw (ne_eqb q r e) at (once q h) in
        rw (bit-mark-other f r q e) (omega arith)

count_once : (f : List ℕ) (n : ℕ) (rs : List ℕ) → size n ≤ length f → Below n rs → ((r : ℕ) → r < n → tick (bit f r) + times r rs ≤ 1)
    → count (mark_all f rs) n ≡ count f n + length rs
unfolding mark_all
count_once f n [] room b once = omega arith
count_once f n (r ∷ rs) room b once =
    let free : bit f r ≡ false = not_set (bit f r) (rw (eq-eqb r r refl) at (once r b.0)) in
    let l : r / 8 < length f = omega arith in
    let one = count-mark f r n b.0 l free in
    omega (arith, count_once (mark f r) n rs (rw length-mark room) b.1 (λ q h. marked_once f r q n rs l free once h))
  where
    not_set : (x : Bool) → tick x + (1 + times r rs) ≤ 1 → x ≡ false
    not_set true l = absurd (omega arith)
    not_set false l = refl

-- ---- entries that are one at most, placed in a cleared field of n rows

null-one : (es : List Entry) → NullOnly es → length es ≤ 1
null-one [] h = omega arith
null-one (e ∷ es) h = rw h.1 (omega arith)

module _ (n : ℕ) (region field : List ℕ) where
  abbrev clear : List ℕ
  clear = cleared n field

  -- nothing is set in it, so that no row is there twice
  fault_is : (number : ℕ) (e : Entry) (x : Refusal) → placed.EntryFault n region number clear e x → EntryFault n region number e x
  fault_is number e x (placed.broken at container s q) = broken at container (extent_said e.extent) s (extent_said_lem e.extent) q
  fault_is number e x (placed.outside rows row h m l) = outside rows row h m l
  fault_is number e x (placed.again rows row h below m s) =
      let l : row < n = times_within n row rows below m in
      absurd (not_both (bit clear row) (bit-zeroed (size n) field row (omega arith)) s)
    where
      not_both : (b : Bool) → b ≡ false → b ≡ true → ⊥
      not_both b f t = let z : ◌≡◌ {A = ℕ} 0 1 = cc in omega arith

  one-stopped : (next : ℕ) (es : List Entry) (x : Refusal) → length es ≤ 1 → Stopped next n region clear es x
      → (e : Entry) × (es ≡ e ∷ []) × EntryFault n region (entry_number next e.cell) e x
  unfolding mark_all
  one-stopped next es x one w = go w.earlier w.e w.later w.rows w.stored w.sound w.fault
    where
      go : (earlier : List Entry) (e : Entry) (later : List Entry) (rows : List (List ℕ)) → es ≡ earlier ++ (e ∷ later) → placed.Sound n region clear rows earlier
          → placed.EntryFault n region (entry_number (next + values_in earlier) e.cell) (mark_all clear (joined rows)) e x
          → (e : Entry) × (es ≡ e ∷ []) × EntryFault n region (entry_number next e.cell) e x
      go [] e [] [] q s f = (e, q, fault_is (entry_number next e.cell) e x (rw (add-zero next) at f))
      go [] e [] (rs ∷ rows) q s f = absurd s.placed
      go [] e (d ∷ later) rows q s f = absurd (omega (arith, ap length q))
      go (d ∷ earlier) e later rows q s f = absurd (omega (arith, ap length q, length-append earlier (e ∷ later)))

  is_sound : (rows : List (List ℕ)) (es : List Entry) → placed.Sound n region clear rows es → Sound n region rows es
  is_sound rows es s = record { placed = s.placed; below = s.below }

  went_through : (next : ℕ) (es : List Entry) (o : Result (List ℕ) Refusal) (g : List ℕ) → Steps next n region clear es o → o ≡ Ok g
      → (rows : List (List ℕ)) × placed.Sound n region clear rows es × (g ≡ mark_all clear (joined rows))
  went_through next es (Err x) g (stopped w) e = absurd (not-ok e)
  went_through next es (Ok h) g (through rows s) e = (rows, s, sym (ok_same _ g e))

-- ---- what was found

module _ (literal field : List ℕ) (f : Sought) (p : Placeable literal f) (room : size f.rows ≤ length field) where
  abbrev n : ℕ
  n = f.rows

  abbrev zeros : List ℕ
  zeros = cleared f.rows field

  room-clear : size n ≤ length zeros
  room-clear = rw (length-zeroed (size n) field) room

  -- what comes of entries that are placed there
  steps : (next : ℕ) (es : List Entry) → Patterns es → Steps next n f.region zeros es (place_entries next n f.region es zeros)
  steps next es q = entries_step n f.region p.region.bytes p.region.short next zeros es q room-clear

  of_null_is : (es : List Entry) (x : Refusal) → f.nulls ≡ es → NullOnly es → Stopped first_number n f.region zeros es x → AfterRoom f x
  unfolding entry_number
  of_null_is es x is only w =
      let (e, one, fault) = one-stopped n f.region field first_number es x (null-one es only) w in
      let c : e.cell ≡ null = (rw one at only).0 in
      of_null e (is ∙ one) (rw c at fault)

  of_entry_is : (es : List Entry) (x : Refusal) (nulls : List (List ℕ)) → f.block.hit ≡ es → Sound n f.region nulls f.nulls
      → Stopped f.block.compared n f.region zeros es x → AfterRoom f x
  unfolding entry_number
  of_entry_is es x nulls is s w =
      let (e, one, fault) = one-stopped n f.region field f.block.compared es x (rw (← is) p.one) w in
      let c : e.cell ≡ value literal = (rw (is ∙ one) at p.hit_is).0 in
      of_entry e nulls s (is ∙ one) (rw c at fault)

  pub refused_after : (r : Refusal) → looked_in f zeros ≡ Err r → AfterRoom f r
  unfolding looked_in and_then
  refused_after r q = first (place_entries first_number n f.region f.nulls zeros) (steps first_number f.nulls p.null_patterns) q
    where
      done : List ℕ → List ℕ → Looked
      done withNulls marked =
          record {
            answer = record { buffer = marked; said = record { rows = n; nulls = count withNulls n; deleted = 0; matched = count marked n } };
            compared = f.directory.compared + f.block.compared;
          }

      second : (withNulls : List ℕ) (rows : List (List ℕ)) → placed.Sound n f.region zeros rows f.nulls → (o : Result (List ℕ) Refusal)
          → Steps f.block.compared n f.region zeros f.block.hit o → and_then o (λ marked. Ok (done withNulls marked)) ≡ Err r → AfterRoom f r
      second withNulls rows s (Err x) (stopped w) q =
          let is : x ≡ r = cc in
          subst (AfterRoom f) is (of_entry_is f.block.hit x rows refl (is_sound n f.region field rows f.nulls s) w)
      second withNulls rows s (Ok g) w q = absurd (not-ok (sym q))

      first : (o : Result (List ℕ) Refusal) → Steps first_number n f.region zeros f.nulls o
          → and_then o (λ withNulls. and_then (place_entries f.block.compared n f.region f.block.hit zeros) (λ marked. Ok (done withNulls marked))) ≡ Err r
          → AfterRoom f r
      first (Err x) (stopped w) q =
          let is : x ≡ r = cc in
          subst (AfterRoom f) is (of_null_is f.nulls x refl p.null_only w)
      first (Ok g) (through rows s) q =
          second g rows s (place_entries f.block.compared n f.region f.block.hit zeros) (steps f.block.compared f.block.hit p.patterns) q

  -- ---- both were placed

  none-set : count zeros n ≡ 0
  none-set = none_counted zeros n (λ r l. bit-zeroed (size n) field r (omega arith))

  spare_clear_lem : (rs : List ℕ) → Below n rs → (r : ℕ) → n ≤ r → r < 8 * size n → bit (mark_all zeros rs) r ≡ false
  spare_clear_lem rs b r l h =
      let k = room-clear in
      bit-mark_all zeros rs r (omega arith) ∙ rw (bit-zeroed (size n) field r h) (member-past r n rs l b)

  pub accepted_after : (a : Looked) → looked_in f zeros ≡ Ok a → AcceptedIs f field a
  unfolding looked_in
  accepted_after a q =
      let (withNulls, first, more) = then_ok (place_entries first_number n f.region f.nulls zeros) _ a q in
      let (marked, second, last) = then_ok (place_entries f.block.compared n f.region f.block.hit zeros) _ a more in
      let (nulls, fine, so) = went_through n f.region field first_number f.nulls _ withNulls (steps first_number f.nulls p.null_patterns) first in
      let (chosen, good, is) =
      went_through n f.region field f.block.compared f.block.hit _ marked (steps f.block.compared f.block.hit p.patterns) second in
      subst (AcceptedIs f field) (ok_same _ a last) (record {
        nulls = nulls;
        nulls-sound = is_sound n f.region field nulls f.nulls fine;
        null-rows = ap (λ (x : List ℕ). count x n) so ∙ omega (arith, count_once zeros n (joined nulls) room-clear fine.below fine.once, none-set);
        chosen = chosen;
        chosen-sound = is_sound n f.region field chosen f.block.hit good;
        marked = is;
        rows = refl;
        deleted = refl;
        matched = refl;
        spare = rw is (spare_clear_lem (joined chosen) good.below);
        kept = rw is (cleared_marks n zeros (joined chosen) good.below ∙ zeroed-again (size n) field);
      })
