-- Audit, stage by stage: what was placed is what the reading says, and the field is zero again.
use Prim.Native.Nat.{ℕ, ◌+◌, ◌-◌, ◌<◌, ◌≤◌}
use mathlib.Core.Path.{◌≡◌, refl, ◌∙◌}
use mathlib.Core.Bool.{Bool, true, false}
use mathlib.Core.List.{List}
use native.Mathlib.Omega.{arith}
use lib.Dec.{leb}
use lib.ListN.{length}
use borrow.Author.Tests.{eq-eqb, ne_eqb, le-leb, lt-leb}
use Rattle.numbers.specs.Meaning.{Bytes}
use Rattle.numbers.specs.declared.Row.{Row}
use Rattle.refusal.specs.Meaning.{limit}
use Rattle.refusal.specs.declared.Refusal.{Refusal}
use Rattle.refusal.specs.declared.Refusal.TheVariants.{Missing, Room, Limit}
use Rattle.row_field.specs.Meaning.{cleared, size, count, first_clear_row}
use Rattle.row_field.proofs.Counts.{none_counted, count-le, length-zeroed, zeroed-again, bit-zeroed}
use Rattle.std.specs.Prelude.{Result, Err, Ok}
use Rattle.refusal.specs.Reading.{check, and_then, numbers_of, fault_in}
use Rattle.dictionary.specs.declared.Summary.{Summary}
use Rattle.dictionary.specs.Reading.{Dictionary, dictionary}
use Rattle.dictionary.specs.Layout.{Entry}
use Rattle.dictionary.specs.Promises.{dictionary_of, Summarizes, IsRead, ReadsDictionary}
use Rattle.bitmap_index.specs.Reading.{first_number, room_for, prepared, audited, audit, zeroed_from, audit_buffer, audit_out, audit_numbers, audit_fault}
use Rattle.bitmap_index.specs.Promises.{AuditPromise, ForDictionary, Prepares, Ready, Places, place_in, PlacesNull, AuditsZero, AuditsField}
use Rattle.bitmap_index.proofs.PlacingEntries.{null_refused, values_refused, both_placed}
use Rattle.bitmap_index.proofs.NullRows.{nulls_counted}
use Rattle.bitmap_index.proofs.AcceptedStages.{prepared_back}

-- null's rows, then the values'
module _ (h : Summary) (body f : List ℕ) {r : Result ℕ Refusal} {mid : List ℕ} (p : PlacesNull body h f mid r) (es : List Entry) where
  abbrev read : Dictionary
  read = dictionary_of body h es

  pub nulls-refuse : {why : Refusal} → r ≡ Err why → AuditsZero read f mid (Err why)
  unfolding audited and_then
  nulls-refuse e =
      let w = null_refused h body f p e es in
      record { outcome = rw w.outcome; behind = w.behind }

  module _ {n : ℕ} (e : r ≡ Ok n) {r' : Result ℕ Refusal} {after : List ℕ} (q : Places h.rows (place_in first_number body h es) mid after r') where
    pub values-refuse : {why : Refusal} → r' ≡ Err why → AuditsZero read f after (Err why)
    unfolding audited and_then
    values-refuse t =
        let w = values_refused h body f p e es q t in
        record { outcome = rw w.outcome; behind = w.behind }

    -- in a field with no row set, as many were placed as are then set
    module _ {m : ℕ} (t : r' ≡ Ok m) (z : count f h.rows ≡ 0) where
      so_many : count after h.rows ≡ n + m
      so_many = omega (arith, (both_placed h body f p e es q t).outcome.1)

      pub nulls_fit : n ≤ h.rows
      nulls_fit = omega (arith, so_many, count-le after h.rows)

      pub some_missing : (m ≡ h.rows - n → ⊥) → {low : Row} → low.0 ≡ first_clear_row after 0 h.rows → AuditsZero read f after (Err (Missing low))
      unfolding audited and_then check
      some_missing l {low} first =
          let w = both_placed h body f p e es q t in
          record { outcome = rw (w.outcome.0, so_many, ne_eqb (n + m) h.rows (λ i. l (omega arith)), ← first); behind = w.behind }

      pub none_missing : m ≡ h.rows - n → (k : ℕ) → Bytes body → Summarizes k body h es → AuditsZero read f after (Ok n)
      unfolding audited and_then check
      none_missing l k b s =
          let w = both_placed h body f p e es q t in
          let i : n + m ≡ h.rows = omega (arith, nulls_fit) in
          record { outcome = (rw (w.outcome.0, so_many, eq-eqb (n + m) h.rows i), nulls_counted k body h es b s f z (rw e at p)); behind = w.behind }

-- ---- the field is clear before, and again after

pub zero_ready : (t : ℕ) (body : List ℕ) (h : Summary) (f : List ℕ) {zero : List ℕ} → zero ≡ cleared h.rows f → Ready t body h f
    → Ready t body h zero × (count zero h.rows ≡ 0)
zero_ready t body h f c y =
    rw c (
      record { is_read = y.is_read; room = rw (length-zeroed (size h.rows) f) y.room },
      none_counted (cleared h.rows f) h.rows (λ r l. bit-zeroed (size h.rows) f r (omega arith)),
    )

pub then_zero : (d : Dictionary) (f full : List ℕ) {zero after : List ℕ} {r : Result ℕ Refusal} → zero ≡ cleared d.rows f → AuditsZero d zero full r
    → after ≡ cleared d.rows full → AuditsField d f after r
then_zero d f full c w z = record { outcome = rw (← c) w.outcome; buffer = z ∙ w.behind ∙ rw c (zeroed-again (size d.rows) f) }

-- ---- before a byte is written

module _ (t : ℕ) (s f : List ℕ) where
  pub too_long : limit < length s → prepared t s f ≡ Err Limit
  unfolding prepared check
  too_long h = rw (lt-leb (length s) limit h)

  module _ (l : length s ≤ limit) where
    in_dictionary : prepared t s f ≡ and_then (dictionary t s) (room_for f)
    unfolding prepared check
    in_dictionary = rw (le-leb (length s) limit l)

    pub no_dictionary : {r : Refusal} → ReadsDictionary t s (Err r) → prepared t s f ≡ Err r
    unfolding and_then
    no_dictionary w = in_dictionary ∙ rw w.answer

    module _ {h : Summary} (w : ReadsDictionary t s (Ok h)) where
      is_read : IsRead t s h
      is_read = w.answer

      module _ {has : Bool} (o : has ≡ leb (size h.rows) (length f)) where
        pub no_room : has ≡ false → prepared t s f ≡ Err Room
        unfolding and_then room_for check
        no_room n = in_dictionary ∙ rw (is_read.so, ← o, n)

        pub ready : has ≡ true → Prepares t s f (Ok h)
        unfolding and_then room_for check
        ready y = (is_read, in_dictionary ∙ rw (is_read.so, ← o, y))

-- ---- the whole

-- the numbers are those of the answer, and so is the fault
audit_numbers_lem : (o : Result ℕ Refusal) → audit_out o ≡ numbers_of 0 audit_numbers o
unfolding audit_out numbers_of
audit_numbers_lem (Err r) = refl
audit_numbers_lem (Ok n) = refl

audit_fault_lem : (o : Result ℕ Refusal) → audit_fault o ≡ fault_in o
unfolding audit_fault fault_in
audit_fault_lem (Err r) = refl
audit_fault_lem (Ok n) = refl

module _ (t : ℕ) (s f : List ℕ) where
  audit_says : {r : Result ℕ Refusal} {after : List ℕ} → r ≡ audit t s f → after ≡ audit_buffer t s f → AuditPromise t s f after r
  audit_says e b = record { answer = e; buffer = b; numbers = rw e (audit_numbers_lem (audit t s f)); fault = rw e (audit_fault_lem (audit t s f)) }

  pub is_ready : {h : Summary} → Prepares t s f (Ok h) → Ready t s h f
  is_ready d = record { is_read = d.0; room = (prepared_back t s f _ d.1).2 }

  pub audit_refused : {r : Refusal} → prepared t s f ≡ Err r → AuditPromise t s f f (Err r)
  unfolding audit audit_buffer zeroed_from and_then
  audit_refused d = audit_says (rw d) (rw d)

  module _ {h : Summary} (d : Prepares t s f (Ok h)) {after : List ℕ} where
    pub bitmaps_refused : {r : Refusal} → ForDictionary t s h (λ d. AuditsField d f after (Err r)) → AuditPromise t s f after (Err r)
    unfolding audit audit_buffer zeroed_from and_then
    bitmaps_refused g = let z = g d.0.entries d.0.summary in audit_says (rw (d.1, z.outcome)) (rw d.1 z.buffer)

    pub bitmaps-sound : {k : ℕ} → ForDictionary t s h (λ d. AuditsField d f after (Ok k)) → AuditPromise t s f after (Ok h.rows)
    unfolding audit audit_buffer zeroed_from and_then
    bitmaps-sound g = let z = g d.0.entries d.0.summary in audit_says (rw (d.1, z.outcome.0)) (rw d.1 z.buffer)
