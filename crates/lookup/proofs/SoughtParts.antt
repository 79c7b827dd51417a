-- What was sought, taken apart: the stages behind it, and what is known of the parts that bitmaps are placed by. What is read of bytes within the limit is bytes
-- within the limit.
use Prim.Native.Nat.{ℕ, ◌-◌, ◌≤◌}
use mathlib.Core.Path.{◌≡◌, refl, ap, ◌∙◌, subst}
use mathlib.Core.Bool.{Bool, true, false, cond}
use mathlib.Core.List.{List, [], ◌∷◌}
use native.Mathlib.Omega.{arith}
use borrow.Author.Tests.{leb-true}
use lib.Dec.{eqb, leb}
use lib.ListN.{length, drop, get_or, length-drop}
use Rattle.numbers.specs.Meaning.{All, Bytes, be_at, big}
use Rattle.numbers.proofs.Booleans.{and_both}
use Rattle.numbers.proofs.ByteLists.{bytes_drop}
use Rattle.numbers.proofs.Laws.{number_at-lt}
use Rattle.refusal.specs.Meaning.{limit}
use Rattle.refusal.specs.declared.Refusal.{Refusal}
use Rattle.refusal.specs.declared.Refusal.TheVariants.{Short, Dict}
use Rattle.std.specs.Prelude.{Result, Ok}
use Rattle.refusal.specs.Reading.{and_then}
use Rattle.refusal.proofs.Laws.{ok_same, check-ok, then_ok}
use Rattle.row_field.specs.Meaning.{size}
use Rattle.stored_value.specs.Meaning.{null, value}
use Rattle.stored_value.proofs.Laws.{number_ok}
use Rattle.dictionary.specs.Layout.{Entry, most_values2, most_blocks, NullOnly, Patterns}
use Rattle.dictionary.specs.Reading.{count_at_most, null_of}
use Rattle.bitmap_index.specs.Meaning.{equal, question}
use Rattle.bitmap_index.specs.Reading.{well_formed}
use Rattle.opening.specs.Reading.{Front, rest_of_front, front}
use Rattle.lookup.specs.Reading.{EntryRead, entry_read, entry_for, behind_directory, halving, Searched, searched, no_block, Sought, sought, lookable}
use Rattle.lookup.proofs.BlockEntries.{value-ok, block-from}

-- ---- the stages

pub record SoughtParts (t : ℕ) (literal table body : List ℕ) (f : Sought) : Type 0 where
  pub fields : Front
  pub is_front : front body ≡ Ok fields
  pub rows : f.rows ≡ fields.rows
  pub nulls : f.nulls ≡ fields.nulls
  pub behind : List ℕ
  pub is_behind : behind_directory t table body fields ≡ Ok behind
  pub region : f.region ≡ drop (be_at 4 behind 0) (drop 4 behind)
  pub halved : halving t literal table body fields.blocks 0 fields.blocks 0 0 ≡ Ok f.directory
  pub block : cond (eqb f.directory.below 0) (Ok no_block) (searched t literal (drop f.directory.at (drop 4 behind))) ≡ Ok f.block

pub sought_parts : (t : ℕ) (literal table body : List ℕ) (f : Sought) → sought t literal table body ≡ Ok f → SoughtParts t literal table body f
unfolding sought
sought_parts t literal table body f e =
    let (fields, first, more) = then_ok (front body) _ f e in
    let (room, behind_front) = check-ok _ _ _ f more in
    let (s, second, behindTable) = then_ok (behind_directory t table body fields) _ f behind_front in
    let (some, behindOffset) = number_ok 4 Short s _ f behindTable in
    let (within, both) = check-ok _ _ _ f behindOffset in
    let (h, third, last) = then_ok (halving t literal table body fields.blocks 0 fields.blocks 0 0) _ f both in
    let (b, fourth, end) = then_ok (cond (eqb h.below 0) (Ok no_block) (searched t literal (drop h.at (drop 4 s)))) _ f last in
    let g : Sought = record { rows = fields.rows; nulls = fields.nulls; region = drop (be_at 4 s 0) (drop 4 s); directory = h; block = b } in
    subst (SoughtParts t literal table body) {x = g} (ok_same g f end) (record {
      fields = fields;
      is_front = first;
      rows = refl;
      nulls = refl;
      behind = s;
      is_behind = second;
      region = refl;
      halved = third;
      block = fourth;
    })

-- the stages before the field's ROOM, and that
pub lookable_parts : (t edition : ℕ) (literal table body field : List ℕ) (f : Sought) → lookable t edition literal table body field ≡ Ok f
    → (length body ≤ limit) × (sought t literal table body ≡ Ok f) × (size f.rows ≤ length field)
unfolding lookable well_formed
lookable_parts t edition literal table body field f e =
    let (ls, first, more) = then_ok (well_formed t (question edition equal) literal body) _ f e in
    let (g, second, last) = then_ok (sought t literal table body) _ f more in
    let (room, same) = check-ok _ _ _ f last in
    let i : g ≡ f = ok_same g f same in
    let (short, others) = check-ok _ _ _ ls first in (
      leb-true (length body) limit (and_both (leb (length body) limit) _ short).0,
      second ∙ ap Ok i,
      rw (← i) (leb-true (size g.rows) (length field) room),
    )

-- ---- bytes within the limit

pub record Kept (s : List ℕ) : Type 0 where
  pub bytes : Bytes s
  pub short : length s ≤ limit

kept_drop : (k : ℕ) {s : List ℕ} → Kept s → Kept (drop k s)
kept_drop k {s} h = record { bytes = bytes_drop k s h.bytes; short = rw length-drop (omega (arith, h.short)) }

count-ok : {A : Type 0} (most : ℕ) (s : List ℕ) (k : ℕ → List ℕ → Result A Refusal) (a : A) → count_at_most most s k ≡ Ok a → k (be_at 4 s 0) (drop 4 s) ≡ Ok a
unfolding count_at_most
count-ok most s k a e =
    let (l, rest) = number_ok 4 Short s _ a e in
    let (plain, more) = check-ok _ _ _ a rest in
    (check-ok _ _ _ a more).1

-- null's entry and what stands behind it
record NullKept (nulls : List Entry) (behind : List ℕ) : Type 0 where
  only : NullOnly nulls
  patterns : Patterns nulls
  kept : Kept behind

null_ok : {A : Type 0} (has : Bool) (s : List ℕ) (k : List Entry → List ℕ → Result A Refusal) (a : A) → Kept s → null_of true has s k ≡ Ok a
    → (nulls : List Entry) × (r : List ℕ) × NullKept nulls r × (k nulls r ≡ Ok a)
unfolding null_of
null_ok false s k a h e = ([], s, record { only = tt; patterns = tt; kept = h }, e)
null_ok true s k a h e =
    let (l, more) = number_ok 4 Short s _ a e in
    let (m, last) = number_ok 4 Short (drop 4 s) _ a more in
    let h' = kept_drop 4 h in (
      record { cell = null; offset = be_at 4 s 0; extent = be_at 4 (drop 4 s) 0 } ∷ [],
      drop 4 (drop 4 s),
      record { only = (refl, refl); patterns = (number_at-lt big 4 s 0 h.bytes, number_at-lt big 4 (drop 4 s) 0 h'.bytes, tt); kept = kept_drop 4 h' },
      last,
    )

-- what is known of the fields in front
record FrontKept (f : Front) : Type 0 where
  only : NullOnly f.nulls
  patterns : Patterns f.nulls
  kept : Kept f.directory

front_behind_kept : (rows n : ℕ) (has : Bool) (s : List ℕ) (f : Front) → Kept s → rest_of_front rows n has s ≡ Ok f → FrontKept f
unfolding rest_of_front
front_behind_kept rows n has s f h e =
    let (nulls, r, is, more) = null_ok has s _ f h e in
    let (none, last) = check-ok _ _ _ f (count-ok most_blocks r _ f more) in
    subst FrontKept (ok_same (record { rows = rows; values = n; nulls = nulls; blocks = be_at 4 r 0; directory = drop 4 r }) f last)
    (record { only = is.only; patterns = is.patterns; kept = kept_drop 4 is.kept })

front_kept : (body : List ℕ) (f : Front) → Kept body → front body ≡ Ok f → FrontKept f
unfolding front
front_kept body f h e =
    let (l, behindVersion) = number_ok 1 Short body _ f e in
    let (two, version) = check-ok _ _ _ f behindVersion in
    let rows = count-ok limit (drop 1 body) _ f version in
    let values = count-ok most_values2 (drop 4 (drop 1 body)) _ f rows in
    let (m, behindFlag) = number_ok 1 Short (drop 4 (drop 4 (drop 1 body))) _ f values in
    let (flag, more) = check-ok _ _ _ f behindFlag in
    front_behind_kept _ _ _ _ f (kept_drop 1 (kept_drop 4 (kept_drop 4 (kept_drop 1 h)))) more

listed_kept : (t : ℕ) (s : List ℕ) (d : EntryRead) → Kept s → entry_read t s ≡ Ok d → Kept d.behind
unfolding entry_read
listed_kept t s d h e =
    let (k, is, more) = value-ok Short Dict t s _ d e in
    let (l, last) = number_ok 4 Short (drop k s) _ d more in
    subst (λ (x : EntryRead). Kept x.behind) (ok_same _ d last) (kept_drop 4 (kept_drop k h))

behind_kept : (t : ℕ) (table body : List ℕ) (f : Front) (s : List ℕ) → Kept body → Kept f.directory → behind_directory t table body f ≡ Ok s → Kept s
unfolding behind_directory entry_for
behind_kept t table body f s h k e = go (eqb f.blocks 0) e
  where
    go : (b : Bool) → cond b (Ok f.directory) (and_then (entry_for t table body (f.blocks - 1)) (λ d. Ok d.behind)) ≡ Ok s → Kept s
    go true e = subst Kept (ok_same _ s e) k
    go false e =
        let (d, is, same) = then_ok (entry_for t table body (f.blocks - 1)) _ s e in
        let at : ℕ = get_or table (f.blocks - 1) 0 in
        subst Kept (ok_same _ s same) (listed_kept t (drop at body) d (kept_drop at h) is)

-- ---- what bitmaps are placed by: the region, null's entry, and the entry that was found, if there is one

pub record Placeable (literal : List ℕ) (f : Sought) : Type 0 where
  pub region : Kept f.region
  pub null_only : NullOnly f.nulls
  pub null_patterns : Patterns f.nulls
  pub hit_is : All (λ (e : Entry). e.cell ≡ value literal) f.block.hit
  pub one : length f.block.hit ≤ 1
  pub patterns : Patterns f.block.hit

-- the entry found, which is none if no block was read
abbrev OneHit : List ℕ → Searched → Type 0
OneHit literal b = All (λ (e : Entry). e.cell ≡ value literal) b.hit × (length b.hit ≤ 1) × Patterns b.hit

one_hit : (t : ℕ) (literal s : List ℕ) (x : Bool) (b : Searched) → Bytes s → cond x (Ok no_block) (searched t literal s) ≡ Ok b → OneHit literal b
one_hit t literal s true b c e = subst (OneHit literal) (ok_same no_block b e) (tt, omega arith, tt)
one_hit t literal s false b c e =
    let (l, w) = block-from t literal s b e in
    (w.hit_is, w.one, w.patterns (bytes_drop 4 s c))

pub sought_placeable : (t : ℕ) (literal table body : List ℕ) (f : Sought) → Kept body → sought t literal table body ≡ Ok f → Placeable literal f
sought_placeable t literal table body f h e =
    let p = sought_parts t literal table body f e in
    let r = front_kept body p.fields h p.is_front in
    let base = kept_drop 4 (behind_kept t table body p.fields p.behind h r.kept p.is_behind) in
    let at : ℕ = f.directory.at in
    let (is, one, hit) = one_hit t literal (drop at (drop 4 p.behind)) (eqb f.directory.below 0) f.block (kept_drop at base).bytes p.block in
    record {
      region = rw p.region (kept_drop (be_at 4 p.behind 0) base);
      null_only = rw p.nulls r.only;
      null_patterns = rw p.nulls r.patterns;
      hit_is = is;
      one = one;
      patterns = hit;
    }
