-- Loops that mark rows: what is left to mark, from the field as it is, gives the whole.
use Prim.Native.Nat.{ℕ}
use mathlib.Core.Path.{◌≡◌, refl, sym, ◌∙◌}
use mathlib.Core.Bool.{Bool, false, not, ◌||◌, or_assoc, or-false}
use mathlib.Core.List.{List, [], ◌∷◌, ◌++◌}
use lib.Bits.{bit_or}
use lib.Dec.{eqb}
use Rattle.row_field.specs.Meaning.{bit, mark, mark_all, Rising}
use Rattle.row_field.specs.Promises.{any_seen, MarkedRows, MarkedInTurn}
use Rattle.row_field.proofs.Laws.{or_some}
use Rattle.row_field.proofs.Marks.{Past, mark_all-append, any_seen-append, any_seen_rising, mark_all-past, any_seen-past}

-- of rows that rise, none is set by marking one before it
module _ {before after rows : List ℕ} {r : Bool} (lo hi : ℕ) (s : Rising lo hi rows) where
  pub at_once : MarkedInTurn before after rows r → MarkedRows before after rows r
  at_once m = record { seen = m.seen ∙ any_seen_rising before lo hi rows s; marked = m.marked }

  pub in_turn_lem : MarkedRows before after rows r → MarkedInTurn before after rows r
  in_turn_lem m = record { seen = m.seen ∙ sym (any_seen_rising before lo hi rows s); marked = m.marked }

-- f is f₀ with some of the rows `whole` marked, `rest` are to come, and `seen` says whether one was set when its turn came
pub record Marks (whole f₀ rest f : List ℕ) (seen : Bool) : Type 0 where
  pub seen_so : seen || any_seen f rest ≡ any_seen f₀ whole
  pub marked_so : mark_all f rest ≡ mark_all f₀ whole

pub marks_first : (whole f : List ℕ) → Marks whole f whole f false
marks_first whole f = record { seen_so = refl; marked_so = refl }

module _ {whole f₀ rest f : List ℕ} {seen : Bool} (st : Marks whole f₀ rest f seen) where
  -- a part of them more
  pub marks_part : {part rest' f' : List ℕ} {was : Bool} → rest ≡ part ++ rest' → MarkedInTurn f f' part was → Marks whole f₀ rest' f' (seen || was)
  marks_part {part} {rest'} e m =
      record {
        seen_so = rw (m.marked, m.seen, or_assoc seen (any_seen f part) (any_seen (mark_all f part) rest'), ← any_seen-append f part rest', ← e) st.seen_so;
        marked_so = rw (m.marked, ← mark_all-append f part rest', ← e) st.marked_so;
      }

  -- one row more
  pub marks_one : {v : ℕ} {rest' f' : List ℕ} {was : Bool} → rest ≡ v ∷ rest' → was ≡ bit f v → f' ≡ mark f v → Marks whole f₀ rest' f' (seen || was)
  unfolding any_seen mark_all
  marks_one {v} e w m = marks_part {part = v ∷ []} e (record { seen = w ∙ sym (or-false (bit f v)); marked = m })

  -- none of those to come is a row of the field, or there are none
  pub marks_past : Past f rest → MarkedInTurn f₀ f whole seen
  marks_past p =
      record { seen = sym (or-false seen) ∙ (rw (any_seen-past f rest p) at st.seen_so); marked = rw (mark_all-past f rest p) at st.marked_so }

  pub marks_done : rest ≡ [] → MarkedInTurn f₀ f whole seen
  marks_done e = marks_past (rw e tt)

-- a part of them more, where what was seen is gathered in bits
pub marks_bits : (a b : ℕ) {whole f₀ rest f : List ℕ} → Marks whole f₀ rest f (not (eqb a 0)) → {part rest' f' : List ℕ} → rest ≡ part ++ rest'
    → MarkedInTurn f f' part (not (eqb b 0)) → Marks whole f₀ rest' f' (not (eqb (bit_or a b) 0))
marks_bits a b st e m = rw (or_some a b) (marks_part st e m)
