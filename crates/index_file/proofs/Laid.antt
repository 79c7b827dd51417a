-- What is laid out is read as it was meant.
use Prim.Native.Nat.{ℕ, suc, ◌+◌, ◌^◌, ◌<◌, ◌≤◌}
use mathlib.Core.Path.{◌≡◌, refl, sym, ap, ◌∙◌}
use mathlib.Core.Bool.{Bool, false, ◌||◌}
use mathlib.Core.List.{List, [], ◌∷◌, ◌++◌, append_assoc}
use native.Mathlib.Omega.{arith}
use lib.ListN.{length, take, drop, length-append}
use lib.Seq.{take_at, drop_at}
use borrow.Author.Tests.{lt-ltb, le-leb, eq-eqb}
use Rattle.numbers.specs.Meaning.{be, big, All, sign_bit, position}
use Rattle.numbers.proofs.Laws.{number_laid}
use Rattle.refusal.specs.Meaning.{limit}
use Rattle.refusal.specs.declared.Refusal.{Refusal}
use Rattle.std.specs.Prelude.{Err, Ok, Some, None}
use Rattle.refusal.specs.Reading.{check}
use Rattle.names.specs.Layout.{Askable}
use Rattle.names.specs.Reading.{matches}
use Rattle.names.proofs.Theorems.{askable_is_tested, askable-short, named_is_askable}
use Rattle.index_file.specs.declared.Part.{Part}
use Rattle.index_file.specs.declared.Seen.{Seen}
use Rattle.index_file.specs.declared.Seen.TheVariants.{Nowhere, Once}
use Rattle.index_file.specs.Layout.{magic, file_version, front_size, least_head, ListedIndex, ListedColumn, name_bytes, entry_bytes, entries_bytes, column_bytes, columns_bytes, head_bytes, GoodIndex, GoodColumn, ListedOnce, Headed, File, Unlisted}
use Rattle.index_file.specs.Reading.{count, name, place_after_entry, entries, part_at, place_after_column, columns, placed, head, file, find}
use Rattle.index_file.specs.Promises.{Rest}
use Rattle.index_file.proofs.Laws.{find-file}
use Rattle.index_file.proofs.ListedOnce.{place_in, place_of, in_once, of_once, of_unlisted}

-- ---- fields

pub name_laid : (n t : List ℕ) (k : Rest (List ℕ)) → length n < 256 ^ 2 → name (name_bytes n ++ t) k ≡ k n t
unfolding name check
name_laid n t k h =
    let l : length n ≤ length (n ++ t) = simp length-append (omega arith) in
    number_laid big 2 (Err Refusal.Head) (length n) (n ++ t) _ h
    ∙ simp (le-leb (length n) (length (n ++ t)) l, take_at n t (length n) refl, drop_at n t (length n) refl)

pub count_laid : (v : ℕ) (t : List ℕ) (k : Rest ℕ) → v < sign_bit → count (be 4 v ++ t) k ≡ k v t
unfolding count check
count_laid v t k h = number_laid big 4 (Err Refusal.Head) v t _ (omega arith) ∙ simp lt-ltb

-- ---- entries

pub entry_split : (e : ListedIndex) (r : List ℕ) → entry_bytes e ++ r ≡ name_bytes e.name ++ (be 4 e.start ++ (be 4 e.length ++ r))
entry_split e r =
    append_assoc (name_bytes e.name) (be 4 e.start ++ be 4 e.length) r
    ∙ ap (λ (l : List ℕ). name_bytes e.name ++ l) (append_assoc (be 4 e.start) (be 4 e.length) r)

pub entries_laid : (kind : List ℕ) (es : List ListedIndex) (place : Seen) (t : List ℕ) (k : Rest Seen) → All GoodIndex es
    → entries (matches kind) (length es) place (entries_bytes es ++ t) k ≡ k (place_in kind place es) t
unfolding entries place_in
entries_laid kind [] place t k h = refl
entries_laid kind (e ∷ es) place t k h =
    let r : List ℕ = entries_bytes es ++ t in
    ap (λ (l : List ℕ). entries (matches kind) (suc (length es)) place l k) (append_assoc (entry_bytes e) (entries_bytes es) t ∙ entry_split e r)
    ∙ name_laid e.name (be 4 e.start ++ (be 4 e.length ++ r)) _ h.0.0
    ∙ number_laid big 4 (Err Refusal.Head) e.start (be 4 e.length ++ r) _ h.0.1
    ∙ number_laid big 4 (Err Refusal.Head) e.length r _ h.0.2
    ∙ entries_laid kind es (place_after_entry (matches kind e.name) (part_at (position e.start) e.length) place) t k h.1

-- ---- columns

pub column_split : (c : ListedColumn) (r : List ℕ) → column_bytes c ++ r ≡ name_bytes c.name ++ (be 4 (length c.entries) ++ (entries_bytes c.entries ++ r))
column_split c r =
    append_assoc (name_bytes c.name) (be 4 (length c.entries) ++ entries_bytes c.entries) r
    ∙ ap (λ (l : List ℕ). name_bytes c.name ++ l) (append_assoc (be 4 (length c.entries)) (entries_bytes c.entries) r)

pub columns_laid : (column kind : List ℕ) (cs : List ListedColumn) (seen : Bool) (place : Seen) (t : List ℕ) (k : Rest Seen) → All GoodColumn cs
    → columns (matches column) (matches kind) (length cs) seen place (columns_bytes cs ++ t) k ≡ k (place_of kind column seen place cs) t
unfolding columns place_of
columns_laid column kind [] seen place t k h = refl
columns_laid column kind (c ∷ cs) seen place t k h =
    let r : List ℕ = columns_bytes cs ++ t in
    ap (λ (l : List ℕ). columns (matches column) (matches kind) (suc (length cs)) seen place l k) (append_assoc (column_bytes c) (columns_bytes cs) t ∙ column_split c r)
    ∙ name_laid c.name (be 4 (length c.entries) ++ (entries_bytes c.entries ++ r)) _ h.0.0
    ∙ count_laid (length c.entries) (entries_bytes c.entries ++ r) _ h.0.1
    ∙ entries_laid kind c.entries Nowhere r _ h.0.2
    ∙ columns_laid column kind cs (seen || matches column c.name) (place_after_column (matches column c.name) seen (place_in kind Nowhere c.entries) place) t k h.1

-- ---- the head

module _ (column kind : List ℕ) (n : ℕ) (cs : List ListedColumn) (r : List ℕ) (whole : n ≡ length (head_bytes n cs r)) (small : n < sign_bit)
    (few : length cs < sign_bit) (short : length r < sign_bit) (fit : All GoodColumn cs) where
  -- the fields from the column number on
  abbrev fields : List ℕ
  fields = be 4 (length cs) ++ (columns_bytes cs ++ (be 4 (length r) ++ r))

  head_laid : (total : ℕ) → head (matches column) (matches kind) n total fields ≡ placed n total (place_of kind column false Nowhere cs)
  unfolding head check
  head_laid total =
      let e : length r ≡ length r = refl in
      count_laid (length cs) (columns_bytes cs ++ (be 4 (length r) ++ r)) _ few
      ∙ columns_laid column kind cs false Nowhere (be 4 (length r) ++ r) _ fit
      ∙ count_laid (length r) r _ short
      ∙ simp (eq-eqb (length r) (length r) e)

  file_laid : (rest : List ℕ) → file (matches column) (matches kind) (head_bytes n cs r ++ rest) ≡ placed n (length (head_bytes n cs r ++ rest)) (place_of kind column false Nowhere cs)
  unfolding file check
  file_laid rest =
      let b : List ℕ = head_bytes n cs r ++ rest in
      let l : length b ≡ n + length rest = length-append (head_bytes n cs r) rest ∙ omega arith in
      let f : least_head ≤ n = rw whole (simp length-append (omega arith)) in
      let p : front_size ≤ length b = omega arith in
      let q : n ≤ length b = omega arith in
      let x : drop front_size (take n b) ≡ fields = ap (drop front_size) (take_at (head_bytes n cs r) rest n (sym whole)) in
      simp (le-leb front_size (length b) p)
      (number_laid big 8 (Err Refusal.Short) magic (be 4 file_version ++ (be 4 n ++ (fields ++ rest))) _ (omega arith)
      ∙ number_laid big 4 (Err Refusal.Short) file_version (be 4 n ++ (fields ++ rest)) _ (omega arith)
      ∙ count_laid n (fields ++ rest) _ small
      ∙ simp (le-leb least_head n f, le-leb n (length b) q, x) (head_laid (length b)))

-- ---- a file of the column

all_at : {A : Type 0} (P : A → Type 0) (before : List A) (x : A) (after : List A) → All P (before ++ (x ∷ after)) → P x
all_at P [] x after h = h.0
all_at P (y ∷ before) x after h = all_at P before x after h.1

once_fit : {A : Type 0} (Q : A → Type 0) {P : A → Type 0} {x : A} {l : List A} → ListedOnce P x l → All Q l → Q x
once_fit Q {x = x} o h = all_at Q o.before x o.after (rw o.parts at h)

pub headed_file : (column kind : List ℕ) {bytes : List ℕ} (h : Headed bytes) → file (matches column) (matches kind) bytes ≡ placed h.head_length (length bytes) (place_of kind column false Nowhere h.columns)
headed_file column kind h =
    let place : Seen = place_of kind column false Nowhere h.columns in
    ap (file (matches column) (matches kind)) h.laid
    ∙ file_laid column kind h.head_length h.columns h.redundant h.whole h.counts.0 h.counts.1 h.counts.2 h.fit h.rest
    ∙ ap (λ (b : List ℕ). placed h.head_length (length b) place) (sym h.laid)

-- names that may be asked for are within the limits
pub asked_file : (bytes column kind : List ℕ) → length bytes ≤ limit → Askable column → Askable kind → find bytes column kind ≡ file (matches column) (matches kind) bytes
asked_file bytes column kind a b c =
    find-file bytes column kind a (omega (arith, askable-short column b)) (omega (arith, askable-short kind c))
    (simp ((askable_is_tested column).0 b, (askable_is_tested kind).0 c))

-- a head that does not list what is asked for
pub unlisted_file : {column kind bytes : List ℕ} (h : Headed bytes) → Unlisted column kind h.columns → file (matches column) (matches kind) bytes ≡ Ok None
unfolding placed
unlisted_file {column} {kind} {bytes} h u = headed_file column kind h ∙ ap (placed h.head_length (length bytes)) (of_unlisted kind column u)

abbrev pub part_of : {column kind body bytes : List ℕ} → File column kind body bytes → Part
part_of f = record { start = position f.entry.start; length = f.entry.length }

module _ {column kind body bytes : List ℕ} (f : File column kind body bytes) (small : length bytes ≤ limit) where
  -- an asked name that is listed is no longer than a stored name can be
  column_fits : GoodColumn f.asked
  column_fits = once_fit GoodColumn f.column_once f.head.fit

  kind_fits : GoodIndex f.entry
  kind_fits = once_fit GoodIndex f.kind_once column_fits.2

  place_is : place_of kind column false Nowhere f.head.columns ≡ Once (part_at (position f.entry.start) f.entry.length)
  place_is = of_once kind column f.column_once ∙ in_once kind f.kind_once

  placed_is : placed f.head.head_length (length bytes) (Once (part_at (position f.entry.start) f.entry.length)) ≡ Ok (Some (part_of f))
  unfolding placed check
  placed_is =
      let s : ℕ = f.entry.start in
      let n : ℕ = f.entry.length in
      let w : s + n ≤ length bytes = f.within in
      let b : f.head.head_length ≤ s = f.behind in
      simp (lt-ltb s sign_bit f.not_negative.0, lt-ltb n sign_bit f.not_negative.1, le-leb f.head.head_length s b, le-leb (s + n) (length bytes) w)

  pub laid_find : find bytes column kind ≡ Ok (Some (part_of f))
  laid_find =
      let x : Askable column = named_is_askable column f.asked.name f.column_once.holds (omega (arith, column_fits.0)) in
      let y : Askable kind = named_is_askable kind f.entry.name f.kind_once.holds (omega (arith, kind_fits.0)) in
      asked_file bytes column kind small x y ∙ headed_file column kind f.head ∙ ap (placed f.head.head_length (length bytes)) place_is ∙ placed_is
