-- The claims of specs/Claims, proved in their order there.
use Prim.Native.Nat.{ℕ, ◌+◌, ◌≤◌}
use mathlib.Core.Path.{◌≡◌, refl, sym, ap, ◌∙◌}
use mathlib.Core.Bool.{Bool, true, false}
use mathlib.Core.List.{List, [], ◌∷◌, ◌++◌, append_assoc, append-nil}
use native.Mathlib.Omega.{arith}
use borrow.Author.Tests.{lt-leb}
use lib.Dec.{ltb, leb}
use lib.ListN.{length, drop, get_or}
use Rattle.numbers.specs.Meaning.{be, joined}
use Rattle.refusal.specs.Meaning.{limit}
use Rattle.refusal.specs.declared.Refusal.{Refusal}
use Rattle.refusal.specs.declared.Refusal.TheVariants.{Version, Room, Literal, Limit}
use Rattle.std.specs.Prelude.{Result, Err, Ok}
use Rattle.refusal.specs.Reading.{check, and_then}
use Rattle.refusal.proofs.Laws.{not-ok, ok_same, then_ok}
use Rattle.row_field.specs.Meaning.{cleared}
use Rattle.stored_value.specs.Meaning.{types, Cell, null}
use Rattle.dictionary.specs.Layout.{Entry, Patterns, value_bytes, first, block, blocks, directory, body2}
use Rattle.dictionary.specs.Reading.{Dictionary}
use Rattle.dictionary.proofs.LaidOut.{patterns_cut, Headed, headed}
use Rattle.bitmap_index.specs.Layout.{ColumnBody, version1, version2}
use Rattle.bitmap_index.specs.Reading.{prepared, audited, audit, audit_buffer}
use Rattle.bitmap_index.specs.Reading as bitmap_index
use Rattle.bitmap_index.proofs.BodyAnswers.{all_patterns, region2}
use Rattle.bitmap_index.proofs.Theorems.{column_is_answered, accepted_is_a_column}
use Rattle.opening.specs.Layout.{before_directory, entry_starts}
use Rattle.opening.specs.Reading.{Front, front, openable, Table, filled, opened, open_buffer, open_table, table_of}
use Rattle.opening.specs.Claims.{InBlocks, DirectoryStandsBehind, StartsAreOfEntries, OpenedIs, OpenedIsLaidOut, LaidOutIsOpened, OpenedAsAudited, OtherVersionIsRefused, ShortTableIsRoom, RefusedUpToRoom, TableHoldsTheAnswer}
use Rattle.opening.proofs.FrontLaid.{body-cut, directory_at, behind_directory, front_laid, front_laid_lem, starts_length, starts_laid, entry_stands}
use Rattle.opening.proofs.FrontRefusals.{front-other}
use Rattle.opening.proofs.Stages.{openable_back, opened_back, openable-read, openable-ok, opened-ok, buffer_audited, refused_early, front_read, openable_refused}

pub directory_stands-behind : DirectoryStandsBehind
directory_stands-behind n nulls bs region = body-cut n nulls bs region

pub starts_are_of_entries : StartsAreOfEntries
starts_are_of_entries n nulls bs region =
    record {
      many = starts_length (length (before_directory n nulls bs)) 0 bs;
      each = λ before b behind q.
          let words : List ℕ = entry_starts n nulls bs in
          let at : ℕ = length (blocks before) in
          let rest : List ℕ = directory (at + length (block b)) behind ++ behind_directory bs region in (
            rest,
            ap (λ (x : List ℕ). drop (get_or x (length before) 0) (body2 n nulls bs region)) (sym (append-nil words))
                ∙ entry_stands n nulls bs region [] before b behind q ∙ sym (append_assoc (value_bytes (first b)) (be 4 at) rest),
          );
    }

-- ---- what is laid out, and what is opened

-- what was laid out for a column: its fields in front are read, so are its entries' starts, and it is the column's body
module _ (t : ℕ) (cells : List Cell) (nulls : List Entry) (bs : List (List Entry)) (region : List ℕ) (laid : InBlocks t cells nulls bs region) where
  abbrev n : ℕ
  n = length cells

  abbrev body : List ℕ
  body = body2 n nulls bs region

  abbrev fields : Front
  fields = front_laid n nulls bs region

  pub front_of : front body ≡ Ok fields
  front_of =
      let l : length region ≤ limit = omega (arith, region2 n nulls bs region, laid.short) in
      let p : Patterns (nulls ++ joined bs) = all_patterns region cells (nulls ++ joined bs) l laid.entries.rows in
      front_laid_lem n nulls bs region laid.entries.null_only (patterns_cut nulls (joined bs) p).0 laid.none_empty
      laid.few_rows laid.few_values laid.few_blocks

  filled_laid : (table : List ℕ) → filled t body fields table ≡ entry_starts n nulls bs ++ drop (length bs) table
  unfolding filled
  filled_laid table =
      let h : Headed t bs = headed t null bs laid.none_empty laid.rises in
      rw (
        directory_at n nulls bs region,
        starts_laid t _ 0 bs (behind_directory bs region) h,
        starts_length _ 0 bs,
      )

  pub is_column : ColumnBody t cells body
  is_column =
      version2 nulls bs region laid.column laid.entries laid.none_empty laid.rises
      laid.few_rows laid.few_values laid.few_blocks laid.short

-- a column's body whose fields in front were read is laid out in version 2: version 1 begins with 1, which is VERSION
opened_column : (t : ℕ) (cells : List Cell) (body table : List ℕ) (f : Front) (rows many : ℕ) (words : List ℕ) → ColumnBody t cells body → front body ≡ Ok f
    → f.blocks ≤ length table → length cells ≡ rows → many ≡ f.blocks → words ≡ filled t body f table → OpenedIs t body table rows many words
opened_column t cells body table f rows many words (version1 nulls es region c k x d n l z) e h r m w = absurd (not-ok (sym (front-other 1 _ (λ q. omega arith)) ∙ e))
opened_column t cells body table f rows many words (version2 nulls bs region c k x d n l b z) e h r m w =
    let laid : InBlocks t cells nulls bs region =
    record { column = c; entries = k; none_empty = x; rises = d; few_rows = n; few_values = l; few_blocks = b; short = z } in
    let i : f ≡ front_laid (length cells) nulls bs region = ok_same _ _ (sym e ∙ front_of t cells nulls bs region laid) in
    record {
      cells = cells;
      nulls = nulls;
      bs = bs;
      region = region;
      laid_out = laid;
      so = refl;
      is_body = is_column t cells nulls bs region laid;
      row_count = sym r;
      block-number = m ∙ ap (λ (x : Front). x.blocks) i;
      room = rw i at h;
      starts = w ∙ ap (λ (x : Front). filled t (body2 (length cells) nulls bs region) x table) i ∙ filled_laid t cells nulls bs region laid table;
    }

pub opened_is_laid_out : OpenedIsLaidOut
opened_is_laid_out t body field table rows many words b e =
    let (o, first, whole, m, w) = opened_back t body field table _ e in
    let (is_front, is_read, room) = openable_back t body field table o first in
    let (cells, column, same) = accepted_is_a_column t body field rows b whole in
    opened_column t cells body table o.fields rows many words column is_front room same m w

pub table_holds_the_answer : TableHoldsTheAnswer
unfolding open_table table_of
table_holds_the_answer t body field table = (λ a e. rw e, λ r e. rw e)

pub laid_out_is_opened : LaidOutIsOpened
unfolding audit
laid_out_is_opened t cells nulls bs region field table laid b h w =
    let s : List ℕ = body2 (length cells) nulls bs region in
    let f : Front = front_laid (length cells) nulls bs region in
    let e : front s ≡ Ok f = front_of t cells nulls bs region laid in
    let a = column_is_answered t cells s (is_column t cells nulls bs region laid) field b h in
    let (d, read, last) = then_ok (prepared t s field) _ (length cells) a.audited in (
      rw (← filled_laid t cells nulls bs region laid table) (opened-ok t s field table f d (length cells) e read w last),
      buffer_audited t s field table f d e read w ∙ a.audited_buffer,
    )

-- ---- Audit's refusals

-- Open's row count is Audit's
row_count : (many : ℕ) (words : List ℕ) (x : Result ℕ Refusal)
    → and_then (and_then x (λ rows. Ok (record { rows = rows; blocks = many; words = words }))) (λ (a : Table). Ok a.rows) ≡ x
unfolding and_then
row_count many words (Err r) = refl
row_count many words (Ok n) = refl

module _ (t : ℕ) (body field table : List ℕ) where
  abbrev AsAudited : Type 0
  AsAudited = (and_then (opened t body field table) (λ a. Ok a.rows) ≡ audit t body field) × (open_buffer t body field table ≡ audit_buffer t body field)

  -- refused before a byte is written, and not
  refused_alike : (r : Refusal) → prepared t body field ≡ Err r → openable t body field table ≡ Err r → AsAudited
  unfolding audit audit_buffer bitmap_index.zeroed_from and_then
  refused_alike r p e =
      let (answer, buffer, kept) = refused_early t body field table r e in
      (rw (answer, p), rw (buffer, p))

  read_alike : (f : Front) (d : Dictionary) → front body ≡ Ok f → prepared t body field ≡ Ok d → f.blocks ≤ length table → AsAudited
  unfolding opened audit and_then
  read_alike f d e p h = (
    rw (openable-ok t body field table f d e p h, p) (row_count f.blocks _ (audited d (cleared d.rows field))),
    buffer_audited t body field table f d e p h,
  )

pub opened_as_audited : OpenedAsAudited
opened_as_audited t body field table two words = go (prepared t body field) refl
  where
    go : (x : Result Dictionary Refusal) → prepared t body field ≡ x → AsAudited t body field table
    go (Err r) p = refused_alike t body field table r p (openable_refused t body field table two r p)
    go (Ok d) p =
        let (f, e) = front_read t body field d two p in
        read_alike t body field table f d e p (words f e)

-- refused by the limit, the type or the version
refused_first : (t : ℕ) (body field table : List ℕ) (b c : Bool) (q r v : Refusal) → openable t body field table ≡ check b q (check c r (Err v))
    → (opened t body field table ≡ check b q (check c r (Err v))) × (open_buffer t body field table ≡ field) × (open_table t body field table ≡ table)
unfolding check
refused_first t body field table true true q r v e = refused_early t body field table v e
refused_first t body field table true false q r v e = refused_early t body field table r e
refused_first t body field table false c q r v e = refused_early t body field table q e

pub other_version_is_refused : OtherVersionIsRefused
unfolding openable and_then
other_version_is_refused t v s field table n =
    let (answer, buffer, kept) = refused_first t (v ∷ s) field table (leb (length (v ∷ s)) limit) (ltb t types) Limit Literal Version (rw (front-other v s n)) in
    record { refused = answer; buffer = buffer; kept = kept }

pub short_table_is_room : ShortTableIsRoom
unfolding check
short_table_is_room t body field table d f read e l =
    refused_early t body field table Room (openable-read t body field table f d e read ∙ rw (lt-leb f.blocks (length table) l))

pub refused_up_to_room : RefusedUpToRoom
refused_up_to_room t body field table r two p = refused_early t body field table r (openable_refused t body field table two r p)
