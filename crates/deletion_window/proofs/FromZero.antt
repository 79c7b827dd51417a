-- The call without a window, stage by stage, beside a window from row 0 on.
use Prim.Native.Nat.{ℕ, ◌+◌, ◌≤◌}
use mathlib.Core.Path.{◌≡◌, refl, sym, ap, ◌∙◌}
use mathlib.Core.Logic.{◌⊎◌, inl, inr}
use mathlib.Core.Bool.{Bool, true, false}
use mathlib.Core.List.{List, ◌++◌}
use native.Mathlib.Decide.{dec_le}
use native.Mathlib.Omega.{arith}
use native.Mathlib.Nat.{zero-add}
use lib.Dec.{leb}
use lib.ListN.{length, drop}
use borrow.Author.Tests.{le-leb, lt-leb}
use Rattle.numbers.specs.Meaning.{Bytes}
use Rattle.refusal.specs.Meaning.{limit}
use Rattle.std.specs.Prelude.{Result, Err, Ok}
use Rattle.refusal.specs.Reading.{check, and_then, refused_as}
use Rattle.refusal.specs.declared.Refusal.{Refusal}
use Rattle.refusal.specs.declared.Refusal.TheVariants.{Bitmap, Range, Magic}
use Rattle.refusal.proofs.Laws.{not-ok}
use Rattle.row_field.specs.Meaning.{size, mark_all, count, field_of}
use Rattle.roaring.specs.declared.Extent.TheVariants.{Exactly}
use Rattle.roaring.specs.Reading.{Parsed, container_of, measured, end_of}
use Rattle.window.specs.Meaning.{rows_in_window, row_window}
use Rattle.window.proofs.Windows.{windowed-whole}
use Rattle.deletion_file.specs.Reading.{bitmap_in, bin_entry, bitmap_marked, bin_marked, deletions_ready, deletions, left_by, counted, deletions_buffer}
use Rattle.deletion_file.proofs.Accepted.{ready_back}
use Rattle.deletion_file.specs.Layout.{HasBin}
use Rattle.deletion_file.proofs.CarriesNothing.{bitmap_bare, ready_bare}
use Rattle.deletion_file.proofs.Theorems as without
use Rattle.deletion_window.specs.Layout.{end_of_all_rows}
use Rattle.deletion_window.specs.Reading.{rows32, rows_in, window_ready, window_deletions, window_buffer}
use Rattle.deletion_window.specs.Claims.{Allowed, AnswersRows}
use Rattle.deletion_window.proofs.InWindows.{field_in}
use Rattle.deletion_window.proofs.Files.{laid_rows, bin-has-rows, held_bin, as_without}
use Rattle.deletion_window.proofs.Calls.{refused_so, marked_so, answers_so}

-- ---- its stages

ready_zero_go : (file : List ℕ) (n : ℕ) (buffer : List ℕ) (t : Bool) → Dec (n ≤ end_of_all_rows) → leb (length file) limit ≡ t
    → window_ready file 0 n buffer ≡ deletions_ready file n buffer
unfolding window_ready deletions_ready check
ready_zero_go file n buffer t (yes h) e = rw (le-leb (0 + n) end_of_all_rows (omega arith))
ready_zero_go file n buffer true (no h) e = rw (lt-leb (0 + n) end_of_all_rows (omega arith), e, lt-leb n limit (omega arith))
ready_zero_go file n buffer false (no h) e = rw (lt-leb (0 + n) end_of_all_rows (omega arith), e)

ready_zero : (file : List ℕ) (n : ℕ) (buffer : List ℕ) → window_ready file 0 n buffer ≡ deletions_ready file n buffer
ready_zero file n buffer = ready_zero_go file n buffer (leb (length file) limit) (dec_le n end_of_all_rows) refl

-- where that call's refusal comes from
data RefusedAt (file : List ℕ) (b n : ℕ) (buffer : List ℕ) (r : Refusal) : Type 0 where
  at_ready : deletions_ready file n buffer ≡ Err r → RefusedAt file b n buffer r
  at_bin : {clear : List ℕ} → deletions_ready file n buffer ≡ Ok clear → bitmap_in b file ≡ Err r → RefusedAt file b n buffer r
  at_bitmap : {clear bytes : List ℕ} → deletions_ready file n buffer ≡ Ok clear → bitmap_in b file ≡ Ok bytes → bitmap_marked bytes n clear ≡ Err r
      → RefusedAt file b n buffer r

refused_at : (file : List ℕ) (b n : ℕ) (buffer : List ℕ) (r : Refusal) → deletions file b n buffer ≡ Err r → RefusedAt file b n buffer r
unfolding deletions bin_marked and_then
refused_at file b n buffer r e = ready (deletions_ready file n buffer) refl e
  where
    bin : {clear : List ℕ} (o : Result (List ℕ) Refusal) → deletions_ready file n buffer ≡ Ok clear → bitmap_in b file ≡ o
        → and_then o (λ bytes. bitmap_marked bytes n clear) ≡ Err r → RefusedAt file b n buffer r
    bin (Err q) x y f = at_bin x (y ∙ f)
    bin (Ok bytes) x y f = at_bitmap x y f

    ready : (o : Result (List ℕ) Refusal) → deletions_ready file n buffer ≡ o → and_then o (bin_marked file b n) ≡ Err r → RefusedAt file b n buffer r
    ready (Err q) x f = at_ready (x ∙ f)
    ready (Ok clear) x f = bin (bitmap_in b file) x refl f

-- what is refused there but for RANGE is refused here
range_go : (r : Refusal) (t : Bool) (after rows : List ℕ) → check t (Range bin_entry) (Ok after) ≡ Err r → ((entry : ℕ) → r ≡ Range entry → ⊥)
    → ◌≡◌ {A = Result (List ℕ) Refusal} (Ok rows) (Err r)
unfolding check
range_go r true after rows e n = absurd (not-ok (sym e))
range_go r false after rows e n = absurd (n bin_entry (cc))

bitmap_refused : (bytes field : List ℕ) (n : ℕ) (r : Refusal) → bitmap_marked bytes n field ≡ Err r
    → ((entry : ℕ) → r ≡ Range entry → ⊥) → rows32 bytes ≡ Err r
unfolding bitmap_marked rows32 and_then
bitmap_refused bytes field n r e f = by (refused_as (λ why. Bitmap bin_entry (container_of why)) (measured (Exactly (length bytes)) bytes)) e
  where
    by : (o : Result Parsed Refusal) → and_then o (λ p. check (leb (end_of p.rows) n) (Range bin_entry) (Ok (mark_all field p.rows))) ≡ Err r
        → and_then o (λ p. Ok p.rows) ≡ Err r
    by (Err q) g = (let h : q ≡ r = cc in ap Err h)
    by (Ok p) g = range_go r (leb (end_of p.rows) n) _ p.rows g f

-- ---- the answers

module _ (file : List ℕ) (b n : ℕ) (buffer : List ℕ) (t : Bytes file) where
  allowed_zero : length file ≤ limit → n ≤ limit → size n ≤ length buffer → Allowed file 0 n buffer
  allowed_zero l k h = record { file_in-limit = l; count_in-limit = k; end_in_limit = omega arith; room = h }

  when_ready : {clear : List ℕ} → deletions_ready file n buffer ≡ Ok clear → Allowed file 0 n buffer
  when_ready {clear} e = let l = ready_back file n buffer clear e in allowed_zero l.file_in-limit l.count_in-limit l.room

  -- rows that are all below n are those of the window
  pub accepted_zero : (marked : List ℕ) → deletions file b n buffer ≡ Ok marked → window_deletions file b 0 n buffer ≡ Ok marked
  unfolding deletions_buffer counted and_then left_by
  accepted_zero marked e =
      let c = without.accepted_was_laid_out file b n buffer (count marked n) t (rw e) in
      let rows : List ℕ = c.rows in
      let a = allowed_zero c.allowed.file_in-limit c.allowed.count_in-limit c.allowed.room in
      let w : rows_in_window 0 n rows ≡ rows = windowed-whole (row_window 0 n) refl refl rows (rw zero-add c.allowed.below) in
      let f : marked ≡ field_of n rows ++ drop (size n) buffer = rw e at c.answers.field in
      marked_so file b 0 n buffer a rows (laid_rows (bin-has-rows c.laid_out))
      ∙ ap Ok (field_in 0 n buffer rows a.room ∙ ap (λ (rs : List ℕ). field_of n rs ++ drop (size n) buffer) w ∙ sym f)

  -- RANGE comes from a bitmap alone
  outside_go : (entry : ℕ) → deletions file b n buffer ≡ Err (Range entry) → RefusedAt file b n buffer (Range entry)
      → (rows : List ℕ) × HasBin b rows file × AnswersRows file b 0 n buffer rows
  outside_go entry e (at_ready x) = absurd (rw x at (ready_bare file n buffer))
  outside_go entry e (at_bin x y) = absurd (rw y at (bitmap_bare b file))
  outside_go entry e (at_bitmap {bytes = bytes} x y z) =
      let a = when_ready x in
      let h = (without.looks_at_held_bytes file b bytes t).0 y in
      let (_, o) = (without.names_the_fault file b n buffer bytes (Range entry) t h a.file_in-limit a.count_in-limit a.room).0 e in
      let i = held_bin h o.bitmap in
      (o.rows, i, answers_so file b 0 n buffer a o.rows (bin-has-rows i))

  pub outside-zero : (entry : ℕ) → deletions file b n buffer ≡ Err (Range entry) → (rows : List ℕ) × HasBin b rows file × AnswersRows file b 0 n buffer rows
  outside-zero entry e = outside_go entry e (refused_at file b n buffer (Range entry) e)

  module _ (r : Refusal) (no-magic : r ≡ Magic → ⊥) (no-range : (entry : ℕ) → r ≡ Range entry → ⊥) where
    refused_go : RefusedAt file b n buffer r → (bitmap_in b file ≡ Err Magic) ⊎ (rows_in b file ≡ and_then (bitmap_in b file) rows32)
        → window_deletions file b 0 n buffer ≡ Err r
    unfolding window_deletions and_then
    refused_go (at_ready x) w = rw (ready_zero file n buffer, x)
    refused_go (at_bin x y) (inl w) = absurd (no-magic (cc))
    refused_go (at_bin x y) (inr w) = (refused_so file b 0 n buffer (when_ready x) r).1 (w ∙ rw y)
    refused_go (at_bitmap x y z) (inl w) = absurd (not-ok (sym w ∙ y))
    refused_go (at_bitmap {clear} {bytes} x y z) (inr w) =
        (refused_so file b 0 n buffer (when_ready x) r).1 (w ∙ rw y (bitmap_refused bytes clear n r z no-range))

    pub refused_zero : deletions file b n buffer ≡ Err r → window_deletions file b 0 n buffer ≡ Err r
    refused_zero e = refused_go (refused_at file b n buffer r e) (as_without b file)

  buffers_go : (o : Result (List ℕ) Refusal) → deletions file b n buffer ≡ o → (deletions file b n buffer ≡ Err Magic → ⊥)
      → ((entry : ℕ) → deletions file b n buffer ≡ Err (Range entry) → ⊥) → window_buffer file b 0 n buffer ≡ deletions_buffer file b n buffer
  unfolding window_buffer deletions_buffer left_by
  buffers_go (Err r) e no-magic no-range =
      let w = refused_zero r (λ x. no-magic (e ∙ ap Err x)) (λ entry x. no-range entry (e ∙ ap Err x)) e in
      rw (e, w, ready_zero file n buffer)
  buffers_go (Ok marked) e no-magic no-range = rw (e, accepted_zero marked e)

  pub buffers_zero : (deletions file b n buffer ≡ Err Magic → ⊥) → ((entry : ℕ) → deletions file b n buffer ≡ Err (Range entry) → ⊥)
      → window_buffer file b 0 n buffer ≡ deletions_buffer file b n buffer
  buffers_zero = buffers_go (deletions file b n buffer) refl
