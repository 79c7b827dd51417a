-- The layout and the reading agree: a proof of each claim.
use Prim.Native.Nat.{ℕ, ◌≤◌}
use mathlib.Core.Path.{◌≡◌, refl, ap, ◌∙◌}
use mathlib.Core.Bool.{Bool, true, false}
use mathlib.Core.List.{List, []}
use lib.Dec.{eqb, leb}
use lib.ListN.{length, get_or}
use borrow.Author.Tests.{le-leb, eqb-true, ne_eqb}
use Rattle.refusal.specs.Meaning.{limit}
use Rattle.std.specs.Prelude.{Result, Err, Ok}
use Rattle.refusal.specs.Reading.{check, and_then}
use Rattle.refusal.specs.declared.Refusal.{Refusal}
use Rattle.refusal.specs.declared.Refusal.TheVariants.{Short, Version}
use Rattle.refusal.proofs.Laws.{check-ok, then_ok, then_same}
use Rattle.row_field.specs.Meaning.{size, mark_all, cleared, count, Below}
use Rattle.row_field.proofs.RowLists.{rising_within}
use Rattle.row_field.proofs.Fronts.{marked_field, marked_count}
use Rattle.roaring.specs.Layout.{Bitmap}
use Rattle.roaring.proofs.RowsRising.{bitmap_rising}
use Rattle.roaring.proofs.Theorems.{names_the_broken}
use Rattle.deletion_file.specs.Reading.{bin_asked_for, after_magic, bitmap_in, bitmap_marked, bin_marked, deletions_ready, deletions, left_by, deletions_buffer, counted}
use Rattle.deletion_file.specs.Claims.{Allowed, AnswersRows, BinIsRead, LaidOutIsRead, AcceptedWasLaidOut, OtherVersion, RowsHaveVersion1, NamesTheFault, LooksAtHeldBytes, NothingBeforeBitmap}
use Rattle.deletion_file.proofs.CarriesNothing.{ready_bare, bitmap_bare}
use Rattle.deletion_file.proofs.Frames.{file-has-bin}
use Rattle.deletion_file.proofs.LaidOut.{set-has-bin, bytes_laid, bitmap_laid, marked_laid}
use Rattle.deletion_file.proofs.Accepted.{bitmap-cut, cut_held, bitmap-rows, ready_back, deleted_back}
use Rattle.deletion_file.proofs.BinFaults.{fault_named}

-- ---- 1

-- a bitmap's rows, marked in the cleared field, are as many as there are
rows_counted : (n : ℕ) (buffer : List ℕ) {rows bitmap : List ℕ} → size n ≤ length buffer → Bitmap rows bitmap → Below n rows → count (mark_all (cleared n buffer) rows) n ≡ length rows
rows_counted n buffer {rows} h m b = marked_count n buffer rows h (rising_within 0 _ n rows (bitmap_rising m) b)

-- where the rows were marked in the cleared field, they are the answer
answers : (file : List ℕ) (b n : ℕ) (buffer rows : List ℕ) {after : List ℕ} → Allowed file n buffer rows → count after n ≡ length rows
    → after ≡ mark_all (cleared n buffer) rows → deletions file b n buffer ≡ Ok after → AnswersRows file b n buffer rows
unfolding deletions_buffer counted and_then left_by
answers file b n buffer rows l c f e = record { answer = rw e (ap Ok c); field = rw e (f ∙ marked_field n buffer rows l.room l.below) }

pub bin_is_read : BinIsRead
unfolding deletions_ready deletions bin_marked check and_then
bin_is_read file b n buffer rows d l =
    let i = bitmap_laid d in
    let e : deletions file b n buffer ≡ Ok (mark_all (cleared n buffer) rows) =
    rw (le-leb (length file) limit l.file_in-limit, le-leb n limit l.count_in-limit, le-leb (size n) (length buffer) l.room, i.is_read)
    (marked_laid n (cleared n buffer) i.is_bitmap l.below) in
    answers file b n buffer rows l (rows_counted n buffer l.room i.is_bitmap l.below) refl e

pub laid_out_is_read : LaidOutIsRead
laid_out_is_read file b n buffer sets d h l = bin_is_read file b n buffer (get_or sets b []) (set-has-bin d b h) l

-- ---- 2

-- what was accepted, stage by stage
record Stages (file : List ℕ) (b n : ℕ) (buffer after : List ℕ) : Type 0 where
  clear : List ℕ
  bytes : List ℕ
  is_ready : deletions_ready file n buffer ≡ Ok clear
  is_bitmap : bitmap_in b file ≡ Ok bytes
  is_marked : bitmap_marked bytes n clear ≡ Ok after

stages : (file : List ℕ) (b n : ℕ) (buffer after : List ℕ) → deletions file b n buffer ≡ Ok after → Stages file b n buffer after
unfolding deletions bin_marked
stages file b n buffer after e =
    let r = then_ok (deletions_ready file n buffer) (bin_marked file b n) _ e in
    let m = then_ok (bitmap_in b file) (λ bytes. bitmap_marked bytes n r.0) _ r.2 in
    record { clear = r.0; bytes = m.0; is_ready = r.1; is_bitmap = m.1; is_marked = m.2 }

pub accepted_was_laid_out : AcceptedWasLaidOut
accepted_was_laid_out file b n buffer k t e =
    let a = deleted_back n (deletions file b n buffer) e in
    let s = stages file b n buffer a.0 a.1 in
    let l = ready_back file n buffer s.clear s.is_ready in
    let f = bitmap-cut file b s.bytes t s.is_bitmap in
    let r = bitmap-rows n s.clear s.bytes a.0 f.are_bytes s.is_marked in
    let w : Allowed file n buffer r.rows =
    record { file_in-limit = l.file_in-limit; count_in-limit = l.count_in-limit; room = l.room; below = r.below } in
    let m : a.0 ≡ mark_all (cleared n buffer) r.rows = r.field_is ∙ ap (λ (g : List ℕ). mark_all g r.rows) l.is_cleared in
    let c : count a.0 n ≡ length r.rows =
    ap (λ (g : List ℕ). count g n) m ∙ rows_counted n buffer l.room r.is_bitmap r.below in
    record {
      rows = r.rows;
      laid_out = file-has-bin f.between r.is_bitmap f.framed f.cut;
      allowed = w;
      answers = answers file b n buffer r.rows w c m a.1;
    }

-- ---- 3

-- no stage follows a refusal
pub ends : {A B : Type 0} (t : Bool) (r q : Refusal) (k : A → Result B Refusal) → and_then (check t r (Err q)) k ≡ check t r (Err q)
unfolding check and_then
ends true r q k = refl
ends false r q k = refl

pub asked_no_version : (file : List ℕ) (b : ℕ) → (get_or file 0 0 ≡ 1 → ⊥) → bin_asked_for b file ≡ check (leb 1 (length file)) Short (Err Version)
unfolding bin_asked_for check
asked_no_version file b h = rw (ne_eqb (get_or file 0 0) 1 h)

no_version : (file : List ℕ) (b n : ℕ) (clear : List ℕ) → (get_or file 0 0 ≡ 1 → ⊥) → bin_marked file b n clear ≡ check (leb 1 (length file)) Short (Err Version)
unfolding bin_marked bitmap_in
no_version file b n clear h =
    rw (asked_no_version file b h, ends (leb 1 (length file)) Short Version after_magic) (ends (leb 1 (length file)) Short Version (λ bytes. bitmap_marked bytes n clear))

pub other-version : OtherVersion
unfolding deletions
other-version file b n buffer h = then_same (deletions_ready file n buffer) _ _ (λ clear. no_version file b n clear h)

pub rows_have_version_1 : RowsHaveVersion1
unfolding bitmap_in bin_asked_for
rows_have_version_1 file b n buffer k e =
    let a = deleted_back n (deletions file b n buffer) e in
    let s = stages file b n buffer a.0 a.1 in
    let w = then_ok (bin_asked_for b file) after_magic _ s.is_bitmap in
    let c = check-ok (leb 1 (length file)) Short _ _ w.1 in
    let d = check-ok (eqb (get_or file 0 0) 1) Version _ _ c.1 in
    eqb-true (get_or file 0 0) 1 d.0

-- ---- 4

pub names_the_fault : NamesTheFault
names_the_fault = fault_named names_the_broken

pub looks_at_held_bytes : LooksAtHeldBytes
looks_at_held_bytes file b bytes t = (λ e. cut_held (bitmap-cut file b bytes t e), λ h. bytes_laid h)

pub nothing_before_bitmap : NothingBeforeBitmap
nothing_before_bitmap file b n buffer = (ready_bare file n buffer, bitmap_bare b file)
