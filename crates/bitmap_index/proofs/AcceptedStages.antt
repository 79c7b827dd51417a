-- What Audit and Ask accepted, taken apart: each test was passed, and at the place of each entry there are rows, in order, below the row count, none of them
-- set before.
use Prim.Native.Nat.{ℕ, ◌-◌, ◌<◌, ◌≤◌}
use mathlib.Core.Path.{◌≡◌, refl, sym, ap, ◌∙◌}
use mathlib.Core.Logic.{◌⊎◌, inl, inr}
use mathlib.Core.Bool.{Bool, true, false, cond}
use mathlib.Core.List.{List, [], ◌∷◌, ◌++◌}
use native.Mathlib.Omega.{arith}
use borrow.Author.Tests.{ltb-true, ltb-false, eqb-true, leb-true}
use lib.Dec.{eqb, ltb}
use lib.IntN.{ℤ, pos, negsuc}
use lib.ListN.{length, take, drop, length-append, length-drop, take-append-drop}
use lib.Seq.{length-take-le}
use Rattle.numbers.specs.Meaning.{signed32, Bytes, minus_one_32, sign_bit, four_bytes}
use Rattle.numbers.proofs.Booleans.{and_both}
use Rattle.numbers.proofs.ByteLists.{bytes_drop}
use Rattle.refusal.specs.Meaning.{limit}
use Rattle.row_field.specs.Meaning.{mark_all, any_set, size, cleared, count, Rising}
use Rattle.roaring.specs.declared.Extent.{Extent}
use Rattle.roaring.specs.declared.Extent.TheVariants.{AsLong, Exactly}
use Rattle.roaring.specs.Layout as roaring
use Rattle.roaring.specs.Reading.{Parsed, measured}
use Rattle.roaring.specs.Claims.{ExtentIs}
use Rattle.roaring.proofs.Measuring.{measured_back, rows-measured}
use Rattle.refusal.proofs.Laws.{check-ok, then_ok}
use Rattle.std.specs.Prelude.{Ok}
use Rattle.refusal.specs.Reading.{and_then}
use Rattle.stored_value.specs.Meaning.{types, most_literals}
use Rattle.stored_value.specs.Reading.{literals}
use Rattle.dictionary.specs.Layout.{Entry}
use Rattle.dictionary.specs.Reading.{Dictionary, dictionary}
use Rattle.bitmap_index.specs.declared.Question.{Question}
use Rattle.bitmap_index.specs.Meaning.{questions, is_known_edition, takes, null_question}
use Rattle.bitmap_index.specs.Layout.{EntryRows, single, bitmap}
use Rattle.bitmap_index.specs.Reading.{extent_said, entry_number, first_number, entry_placed, place_entry, place_entries, room_for, prepared, audited, audit, rows_for, rows_at, well_formed, Answer, answered, audited_answer, ask}
use Rattle.bitmap_index.proofs.PlacedRows.{bitmap_back, placed_at}

-- ---- a place that was accepted

-- the rows of an entry that was placed in the field f
pub record EntryPlaced (n : ℕ) (region f rows : List ℕ) (e : Entry) : Type 0 where
  pub placed : EntryRows region rows e
  pub rising : Rising 0 n rows
  pub free : any_set f rows ≡ false

signed_negative : (x r : ℕ) → x < four_bytes → signed32 x ≡ negsuc r → (r < sign_bit) × (x ≡ minus_one_32 - r)
signed_negative x r h e = go (ltb x sign_bit) refl e
  where
    go : (b : Bool) → ltb x sign_bit ≡ b → cond b (pos x) (negsuc (minus_one_32 - x)) ≡ negsuc r → (r < sign_bit) × (x ≡ minus_one_32 - r)
    go true l q = absurd (let z : ◌≡◌ {A = ℕ} 0 1 = cc in omega arith)
    go false l q =
        let i : minus_one_32 - x ≡ r = cc in
        omega (arith, ltb-false x sign_bit l)

signed_positive : (x o : ℕ) → signed32 x ≡ pos o → x ≡ o
signed_positive x o e = go (ltb x sign_bit) e
  where
    go : (b : Bool) → cond b (pos x) (negsuc (minus_one_32 - x)) ≡ pos o → x ≡ o
    go true q = cc
    go false q = absurd (let z : ◌≡◌ {A = ℕ} 0 1 = cc in omega arith)

extent_back : (extent long : ℕ) → ExtentIs (extent_said extent) long → (extent ≡ minus_one_32) ⊎ (extent ≡ long)
unfolding extent_said
extent_back extent long e = go (eqb extent minus_one_32) refl e
  where
    go : (b : Bool) → eqb extent minus_one_32 ≡ b → ExtentIs (cond b AsLong (Exactly extent)) long → (extent ≡ minus_one_32) ⊎ (extent ≡ long)
    go true q f = inl (eqb-true extent minus_one_32 q)
    go false q f = inr f

bitmap-some : {rows bytes : List ℕ} → roaring.Bitmap rows bytes → 1 ≤ length bytes
bitmap-some (roaring.plain-bitmap cs h e f) = omega arith
bitmap-some (roaring.flagged-bitmap cs h h' f) = omega arith

-- what an entry has at its place: the single row of a negative offset, or the rows of the bitmap that is measured there
module _ (region : List ℕ) (e : Entry) (b : Bytes region) (p : e.offset < four_bytes) (x : e.extent < four_bytes) where
  pub single-rows : (r : ℕ) → signed32 e.offset ≡ negsuc r → EntryRows region (r ∷ []) e
  single-rows r s =
      let m = signed_negative e.offset r p s in
      single r refl m.0 m.1 x

  bitmap_there : (o : ℕ) (rows bytes rest : List ℕ) → e.offset ≡ o → drop o region ≡ bytes ++ rest → roaring.Bitmap rows bytes
      → ExtentIs (extent_said e.extent) (length bytes) → EntryRows region rows e
  bitmap_there o rows bytes rest s d m g =
      let k = simp (length-drop, length-append) at (ap length d) in
      let i : o ≤ length region = omega (arith, bitmap-some m) in
      bitmap (take o region) bytes rest (sym (take-append-drop o region) ∙ ap (λ (y : List ℕ). take o region ++ y) d) m
      (s ∙ sym (length-take-le o region i)) (extent_back e.extent (length bytes) g)

  pub bitmap-rows : (o : ℕ) (q : Parsed) → signed32 e.offset ≡ pos o → measured (extent_said e.extent) (drop o region) ≡ Ok q → EntryRows region q.rows e
  bitmap-rows o q s m =
      let (bytes, behind, laid, is, fit) = measured_back (extent_said e.extent) (drop o region) q (bytes_drop o region b) m in
      bitmap_there o q.rows bytes behind (signed_positive e.offset o s) is laid fit

  module _ (next n : ℕ) (f f' : List ℕ) where
    rows_there : (entry : ℕ) (z : ℤ) → signed32 e.offset ≡ z → entry_placed entry z e.extent n region f ≡ Ok f' → EntryRows region (rows_for z region) e
    unfolding entry_placed rows_for
    rows_there entry (negsuc r) s q = single-rows r s
    rows_there entry (pos o) s q =
        let extent : Extent = extent_said e.extent in
        let (p, m, below, free, marked) = bitmap_back entry extent n (drop o region) f f' q in
        rw (rows-measured extent (drop o region) p (bytes_drop o region b) m) (bitmap-rows o p s m)

    pub entry-placed : place_entry next n region f e ≡ Ok f' → EntryPlaced n region f (rows_at region e) e × (f' ≡ mark_all f (rows_at region e))
    unfolding place_entry rows_at
    entry-placed q =
        let entry : ℕ = entry_number next e.cell in
        let w = placed_at entry e.extent n region f f' (signed32 e.offset) b q in
        (record { placed = rows_there entry (signed32 e.offset) refl q; rising = w.rising; free = w.free }, w.marked)

-- ---- the audit, taken apart

-- what is said of entries that were read and placed, with every row of n set in the end
pub record AllRowsPlaced (field : List ℕ) (d : Dictionary) : Type 0 where
  pub room : size d.rows ≤ length field
  pub full : List ℕ
  pub placed : place_entries first_number d.rows d.region d.entries (cleared d.rows field) ≡ Ok full
  pub counted : count full d.rows ≡ d.rows

pub record AuditPassed (t : ℕ) (body field : List ℕ) (n : ℕ) : Type 0 where
  pub short : length body ≤ limit
  pub read : Dictionary
  pub is : dictionary t body ≡ Ok read
  pub filled : AllRowsPlaced field read
  pub rows : read.rows ≡ n

audited_back : (field : List ℕ) (d : Dictionary) (n : ℕ) → audited d (cleared d.rows field) ≡ Ok n → size d.rows ≤ length field → AllRowsPlaced field d × (d.rows ≡ n)
unfolding audited
audited_back field d n e h =
    let (full, placed, rest) = then_ok _ _ n e in
    let (counted, last) = check-ok _ _ _ n rest in
    (record { room = h; full = full; placed = placed; counted = eqb-true _ _ counted }, cc)

pub prepared_back : (t : ℕ) (body field : List ℕ) (d : Dictionary) → prepared t body field ≡ Ok d
    → (length body ≤ limit) × (dictionary t body ≡ Ok d) × (size d.rows ≤ length field)
unfolding prepared room_for
prepared_back t body field d e =
    let (short, both) = check-ok _ _ _ d e in
    let (x, is, room) = then_ok (dictionary t body) (room_for field) d both in
    let (fits, same) = check-ok _ _ _ d room in
    let q : x ≡ d = cc in
    (leb-true (length body) limit short, is ∙ ap Ok q, rw q at (leb-true (size x.rows) (length field) fits))

pub audit_passed : (t : ℕ) (body field : List ℕ) (n : ℕ) → audit t body field ≡ Ok n → AuditPassed t body field n
unfolding audit
audit_passed t body field n e =
    let (d, first, last) = then_ok (prepared t body field) (λ d. audited d (cleared d.rows field)) n e in
    let (short, is, room) = prepared_back t body field d first in
    let (filled, rows) = audited_back field d n last room in
    record { short = short; read = d; is = is; filled = filled; rows = rows }

-- ---- a question that was answered, taken apart

pub asked_back : (t : ℕ) (q : Question) (literal body : List ℕ) (ls : List (List ℕ)) → well_formed t q literal body ≡ Ok ls
    → (length body ≤ limit) × (length literal ≤ limit) × (t < types) × (is_known_edition q.edition ≡ true) × (q.name < questions)
    × (literals t most_literals [] literal ≡ Ok ls) × (takes q.name (length ls) ≡ true)
unfolding well_formed
asked_back t q literal body ls e =
    let (short, names) = check-ok _ _ _ ls e in
    let (known, both) = check-ok _ _ _ ls names in
    let (ls', read, number) = then_ok _ _ ls both in
    let (takes, same) = check-ok _ _ _ ls number in
    let i : ls' ≡ ls = cc in
    let s = and_both _ _ short in
    let k = and_both _ _ known in
    let m = and_both _ _ k.1 in
    (leb-true (length body) limit s.0, leb-true (length literal) limit s.1, ltb-true t types k.0, m.0, ltb-true q.name questions m.1, read ∙ ap Ok i, rw i at takes)

-- Audit's two stages passed
pub audit-joined : (t : ℕ) (body field : List ℕ) (d : Dictionary) (n : ℕ) → prepared t body field ≡ Ok d → audited d (cleared d.rows field) ≡ Ok n
    → audit t body field ≡ Ok n
unfolding audit and_then
audit-joined t body field d n x y = rw x y

-- the literals, the dictionary and the row count behind an answer
pub ask_stages : (t : ℕ) (q : Question) (literal body field : List ℕ) (a : Answer) → ask t q literal body field ≡ Ok a
    → (ls : List (List ℕ)) × (d : Dictionary) × (n : ℕ) × (well_formed t q literal body ≡ Ok ls) × (prepared t body field ≡ Ok d)
    × (audited d (cleared d.rows field) ≡ Ok n) × (a ≡ answered q ls d (cleared d.rows field))
unfolding ask audited_answer
ask_stages t q literal body field a e =
    let (ls, first, rest) = then_ok (well_formed t q literal body) _ a e in
    let (d, second, more) = then_ok (prepared t body field) _ a rest in
    let (n, third, last) = then_ok (audited d (cleared d.rows field)) _ a more in
    (ls, d, n, first, second, third, cc)

pub ask_parts : (t : ℕ) (q : Question) (literal body field : List ℕ) (a : Answer) → ask t q literal body field ≡ Ok a
    → (ls : List (List ℕ)) × (n : ℕ) × (well_formed t q literal body ≡ Ok ls) × (audit t body field ≡ Ok n)
ask_parts t q literal body field a e =
    let (ls, d, n, first, second, third, last) = ask_stages t q literal body field a e in
    (ls, n, first, audit-joined t body field d n second third)

-- IS NULL has no literals
pub no_literals : (t : ℕ) (body : List ℕ) (ls : List (List ℕ)) → well_formed t null_question [] body ≡ Ok ls → ls ≡ []
unfolding takes
no_literals t body ls e =
    let (short, short-literals, known, edition, name, is, fits) = asked_back t null_question [] body ls e in
    none ls (eqb-true (length ls) 0 fits)
  where
    none : (ls : List (List ℕ)) → length ls ≡ 0 → ls ≡ []
    none [] h = refl
    none (l ∷ ls) h = absurd (omega arith)
