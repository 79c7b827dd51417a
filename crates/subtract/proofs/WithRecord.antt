-- Subtract with a record: what is then known of the record, and what it refuses.
use Prim.Native.Nat.{ℕ}
use mathlib.Core.Path.{◌≡◌, refl, sym, ap, ◌∙◌}
use mathlib.Core.Logic.{◌↔◌, ◌⊎◌, inl, inr}
use mathlib.Core.Bool.{Bool, true, false, cond}
use mathlib.Core.List.{List}
use lib.Dec.{leb}
use lib.ListN.{length}
use Rattle.refusal.specs.Meaning.{limit}
use Rattle.refusal.specs.declared.Refusal.{Refusal}
use Rattle.refusal.specs.declared.Refusal.TheVariants.{Limit, Room}
use Rattle.std.specs.Prelude.{Result, Err, Ok}
use Rattle.refusal.specs.Reading.{check, and_then}
use Rattle.refusal.proofs.Laws.{not-ok, then_ok, check-ok}
use Rattle.row_field.specs.Meaning.{size, rows_from, count}
use Rattle.subtract.specs.declared.Answer.TheVariants.{Skip, Keep}
use Rattle.subtract.specs.declared.Counts.{Counts}
use Rattle.subtract.specs.declared.Record.{Record}
use Rattle.subtract.specs.declared.Subtracted.{Subtracted}
use Rattle.subtract.specs.Meaning.{subtracted, removed, keeps, answer_of, said_of}
use Rattle.subtract.specs.Reading.{subtraction, buffer_by, subtract_buffer, replaced, record_subtraction}
use Rattle.subtract.specs.Claims.{CountedAfresh}
use Rattle.subtract.proofs.Laws.{left-removed, none_left, set_in-le, left-or_deleted}

-- ---- the record that is handed back

-- where Subtract accepts, its counts and its buffer are these
module _ (n : ℕ) (f g : List ℕ) (counts : Counts) (e : subtraction n f g ≡ Ok counts) where
  its_buffer : subtract_buffer n f g ≡ subtracted n f g
  unfolding buffer_by
  its_buffer = rw e

  its_counts : counts ≡ record { left = count (subtracted n f g) n; removed = removed n f g }
  unfolding subtraction
  its_counts =
      let (limited, first) = check-ok _ _ _ counts e in
      let (room, second) = check-ok _ _ _ counts first in
      let (room', last) = check-ok _ _ _ counts second in
      cc

-- the record of the answer that it makes
pub said_again : (said : Record) → said_of (answer_of said) ≡ said
unfolding said_of
said_again said = go (keeps said.matched)
  where
    go : (b : Bool) → said_of (cond b (Keep said) (Skip said)) ≡ said
    go true = refl
    go false = refl

pub counted_afresh : (given : Record) (f g : List ℕ) (a : Subtracted) → record_subtraction given f g ≡ Ok a → CountedAfresh given f g a
unfolding record_subtraction
counted_afresh given f g a e =
    let n : ℕ = given.rows in
    let (counts, done, is) = then_ok (subtraction n f g) _ a e in
    let buffer = its_buffer n f g counts done in
    let left : counts.left ≡ count (subtracted n f g) n = ap (λ (x : Counts). x.left) (its_counts n f g counts done) in
    let gone : counts.removed ≡ removed n f g = ap (λ (x : Counts). x.removed) (its_counts n f g counts done) in
    let now : Record = replaced given (count g n) counts.left in
    let same : a ≡ record { answer = answer_of now; removed = counts.removed } = cc in
    let answered : a.answer ≡ answer_of now = ap (λ (x : Subtracted). x.answer) same in
    let said : said_of a.answer ≡ now = ap said_of answered ∙ said_again now in
    let matched : (said_of a.answer).matched ≡ count (subtracted n f g) n = ap (λ (x : Record). x.matched) said ∙ left in
    let taken : a.removed ≡ removed n f g = ap (λ (x : Subtracted). x.removed) same ∙ gone in
    let deleted : (said_of a.answer).deleted ≡ count g n = ap (λ (x : Record). x.deleted) said in
    let rows : (said_of a.answer).rows ≡ n = ap (λ (x : Record). x.rows) said in
    record {
      matched = matched;
      with_removed = rw (matched, taken) (left-removed n f g);
      deleted = deleted;
      rows = rows;
      nulls = ap (λ (x : Record). x.nulls) said;
      answered = answered ∙ ap answer_of (sym said);
      skip = rw matched (none_left n f g);
      removed_deleted = rw (taken, deleted) (set_in-le f (rows_from g 0 n));
      together = rw (matched, deleted, rows) (left-or_deleted n f g);
      buffer = buffer;
    }

-- ---- refusals

pub refused_alike : (given : Record) (f g : List ℕ) (r : Refusal) → (record_subtraction given f g ≡ Err r) ↔ (subtraction given.rows f g ≡ Err r)
unfolding record_subtraction and_then
refused_alike given f g r =
    go (subtraction given.rows f g) (λ counts. record { answer = answer_of (replaced given (count g given.rows) counts.left); removed = counts.removed })
  where
    go : (o : Result Counts Refusal) (k : Counts → Subtracted) → (and_then o (λ counts. Ok (k counts)) ≡ Err r) ↔ (o ≡ Err r)
    go (Err r') k = (λ e. cc, λ e. cc)
    go (Ok counts) k = (λ e. absurd (not-ok (sym e)), λ e. absurd (not-ok (sym e)))

pub refused_for : (n : ℕ) (f g : List ℕ) (r : Refusal) → subtraction n f g ≡ Err r → (r ≡ Limit) ⊎ (r ≡ Room)
unfolding subtraction check
refused_for n f g r = go (leb n limit) (leb (size n) (length f)) (leb (size n) (length g)) (record { left = count (subtracted n f g) n; removed = removed n f g })
  where
    go : (a b c : Bool) (counts : Counts) → check a Limit (check b Room (check c Room (Ok counts))) ≡ Err r → (r ≡ Limit) ⊎ (r ≡ Room)
    go false b c counts e = inl (cc)
    go true false c counts e = inr (cc)
    go true true false counts e = inr (cc)
    go true true true counts e = absurd (not-ok (sym e))
