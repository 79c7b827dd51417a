-- The call, taken apart: its stages, the bits and the count that it leaves, and what it refuses with.
use Prim.Native.Nat.{ℕ, ◌+◌, ◌<◌}
use mathlib.Core.Path.{◌≡◌, refl, sym, ap, ◌∙◌}
use mathlib.Core.Logic.{◌↔◌, inl, inr}
use mathlib.Core.Bool.{Bool, false}
use mathlib.Core.List.{List}
use lib.Dec.{leb}
use lib.ListN.{length}
use borrow.Author.Tests.{le-leb, leb-true}
use Rattle.refusal.specs.Meaning.{limit}
use Rattle.std.specs.Prelude.{Result, Err, Ok}
use Rattle.refusal.specs.Reading.{check, and_then}
use Rattle.refusal.specs.declared.Refusal.{Refusal}
use Rattle.refusal.specs.declared.Refusal.TheVariants.{Limit}
use Rattle.refusal.proofs.Laws.{not-ok, check-ok, then_ok}
use Rattle.refusal.specs.Claims.{CarriesNothing}
use Rattle.row_field.specs.Meaning.{size, bit, mark_all, cleared, count}
use Rattle.row_field.proofs.Marks.{member}
use Rattle.window.specs.Meaning.{rows_in_window}
use Rattle.deletion_file.specs.Reading.{deletions_ready, left_by, counted, bin_asked_for}
use Rattle.deletion_file.proofs.Accepted.{ready_back, deleted_back}
use Rattle.deletion_file.proofs.CarriesNothing.{asked_bare, ready_bare}
use Rattle.deletion_window.specs.Layout.{end_of_all_rows, HasRows}
use Rattle.deletion_window.specs.Reading.{rows_in, marked_in, window_ready, window_deletions, window_buffer, rows_of_bin}
use Rattle.deletion_window.specs.Claims.{Allowed, AnswersRows, BitmapOrBare}
use Rattle.deletion_window.proofs.InWindows.{bit-cleared, bit_marked, field_in, count_in}
use Rattle.deletion_window.proofs.Bins.{bin_rises, bin_only}
use Rattle.deletion_window.proofs.Files.{laid_rows}
use Rattle.refusal.proofs.Only.{Only, check_only, then_only}

marked_refused : (first n : ℕ) (field : List ℕ) (r : Refusal) (o : Result (List ℕ) Refusal) → (marked_in first n o field ≡ Err r) ↔ (o ≡ Err r)
unfolding marked_in and_then
marked_refused first n field r (Err q) = (λ e. e, λ e. e)
marked_refused first n field r (Ok rows) = (λ e. absurd (not-ok (sym e)), λ e. absurd (not-ok (sym e)))

-- ---- within the limits and with room

-- whether row r is among those that were read
abbrev pub has : Result (List ℕ) Refusal → ℕ → Bool
has (Err why) r = false
has (Ok rows) r = member r rows

module _ (file : List ℕ) (b first n : ℕ) (buffer : List ℕ) (a : Allowed file first n buffer) where
  ready_so : window_ready file first n buffer ≡ Ok (cleared n buffer)
  unfolding window_ready deletions_ready check
  ready_so =
      rw (
        le-leb (first + n) end_of_all_rows a.end_in_limit,
        le-leb (length file) limit a.file_in-limit,
        le-leb n limit a.count_in-limit,
        le-leb (size n) (length buffer) a.room,
      )

  call_so : window_deletions file b first n buffer ≡ marked_in first n (rows_in b file) (cleared n buffer)
  unfolding window_deletions and_then
  call_so = rw ready_so

  pub refused_so : (r : Refusal) → (window_deletions file b first n buffer ≡ Err r) ↔ (rows_in b file ≡ Err r)
  refused_so r = rw call_so (marked_refused first n (cleared n buffer) r (rows_in b file))

  pub marked_so : (rows : List ℕ) → rows_in b file ≡ Ok rows → window_deletions file b first n buffer ≡ Ok (mark_all (cleared n buffer) (rows_in_window first n rows))
  unfolding marked_in and_then
  marked_so rows e = call_so ∙ rw e

  -- a row of the buffer then
  module _ (r : ℕ) (h : r < n) where
    bit_go : (o : Result (List ℕ) Refusal) → bit (left_by (marked_in first n o (cleared n buffer)) (cleared n buffer)) r ≡ has o (first + r)
    unfolding marked_in and_then left_by
    bit_go (Err why) = bit-cleared first n r h buffer
    bit_go (Ok rows) = bit_marked first n r h buffer rows a.room

    pub bit_so : bit (window_buffer file b first n buffer) r ≡ has (rows_in b file) (first + r)
    unfolding window_buffer left_by
    bit_so = rw (call_so, ready_so) (bit_go (rows_in b file))

  -- the rows of a bin that is laid out
  pub answers_so : (rows : List ℕ) → HasRows b rows file → AnswersRows file b first n buffer rows
  unfolding window_buffer counted and_then left_by
  answers_so rows h =
      let e = marked_so rows (laid_rows h) in
      record {
        answer = rw e (ap Ok (count_in first n buffer rows a.room end_of_all_rows (bin_rises h.bin)));
        field = rw e (field_in first n buffer rows a.room);
      }

-- ---- what was accepted

module _ (file : List ℕ) (b first n : ℕ) (buffer : List ℕ) where
  pub accepted_so : {after : List ℕ} → window_deletions file b first n buffer ≡ Ok after
      → Allowed file first n buffer × ((rows : List ℕ) × (rows_in b file ≡ Ok rows))
  unfolding window_deletions window_ready marked_in
  accepted_so e =
      let (clear, is, m) = then_ok (window_ready file first n buffer) _ _ e in
      let c = check-ok (leb (first + n) end_of_all_rows) Limit _ _ is in
      let l = ready_back file n buffer clear c.1 in
      let r = then_ok (rows_in b file) _ _ m in (
        record { file_in-limit = l.file_in-limit; count_in-limit = l.count_in-limit; end_in_limit = leb-true _ _ c.0; room = l.room },
        (r.0, r.1),
      )

  -- the number that is said counts the buffer's rows
  pub deleted_so : {after : List ℕ} → window_deletions file b first n buffer ≡ Ok after
      → counted n (window_deletions file b first n buffer) ≡ Ok (count (window_buffer file b first n buffer) n)
  unfolding window_buffer counted and_then left_by
  deleted_so e = rw e

  pub count_so : {k : ℕ} → counted n (window_deletions file b first n buffer) ≡ Ok k → count (window_buffer file b first n buffer) n ≡ k
  count_so e =
      let (after, is) = deleted_back n (window_deletions file b first n buffer) e in
      let f = deleted_so is in
      cc

-- ---- what it refuses with

bare_only : {A : Type 0} (o : Result A Refusal) → CarriesNothing o → Only BitmapOrBare o
bare_only (Err r) c = inl c
bare_only (Ok a) c = tt

ready_only : (file : List ℕ) (first n : ℕ) (buffer : List ℕ) → Only BitmapOrBare (window_ready file first n buffer)
unfolding window_ready
ready_only file first n buffer = check_only BitmapOrBare _ Limit _ (inl tt) (bare_only (deletions_ready file n buffer) (ready_bare file n buffer))

rows_in_only : (b : ℕ) (file : List ℕ) → Only BitmapOrBare (rows_in b file)
unfolding rows_in
rows_in_only b file =
    then_only BitmapOrBare (bin_asked_for b file) rows_of_bin (bare_only (bin_asked_for b file) (asked_bare b file))
    (bin_only BitmapOrBare (λ i. inr (i, refl)) (inl tt) (inl tt))

pub call_only : (file : List ℕ) (b first n : ℕ) (buffer : List ℕ) → Only BitmapOrBare (window_deletions file b first n buffer)
unfolding window_deletions marked_in
call_only file b first n buffer = search (then_only BitmapOrBare, ready_only, rows_in_only)
