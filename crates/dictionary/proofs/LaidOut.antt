-- What is laid out is read. Each law reads one part of the layout with anything behind it; entries, directory and blocks go by induction.
use mathlib.Core.Path.{◌≡◌, refl, ap, ◌∙◌}
use Prim.Native.Nat.{ℕ, suc, ◌+◌, ◌≤◌, ◌<◌}
use native.Mathlib.Nat.{zero-add}
use native.Mathlib.Omega.{arith}
use mathlib.Core.Bool.{true, false, ◌||◌, cond}
use mathlib.Core.List.{List, [], ◌∷◌, ◌++◌, append_assoc, append-nil}
use lib.ListN.{length, length-append}
use lib.Seq.{take_at, drop_at}
use lib.Dec.{eqb, leb}
use borrow.Author.Tests.{le-leb, lt-ltb, eq-eqb, ne_eqb}
use Rattle.numbers.specs.Meaning.{be, big, number, joined, sign_bit}
use Rattle.numbers.proofs.Booleans.{or_neither}
use Rattle.numbers.proofs.Laws.{number_laid}
use Rattle.refusal.specs.Meaning.{limit}
use Rattle.refusal.specs.declared.Refusal.{Refusal}
use Rattle.refusal.specs.declared.Refusal.TheVariants.{Short, Dict}
use Rattle.stored_value.specs.Meaning.{types, Cell, null, value, same_cell}
use Rattle.std.specs.Prelude.{Result, Err, Ok}
use Rattle.refusal.specs.Reading.{check, and_then}
use Rattle.stored_value.specs.Reading.{value_of}
use Rattle.dictionary.specs.Layout.{Entry, most_values1, most_values2, most_blocks, Patterns, Valued, NullOnly, some_has, Distinct, NoExtents, value_bytes, entries1, has_null_byte, null1, body1, first, Past, Rises, NoneEmpty, entries2, block, blocks, directory, null2, body2}
use Rattle.dictionary.specs.Promises.{AfterEntries}
use Rattle.dictionary.specs.Reading.{count_at_most, entries_version_one, Listing, listings, past, is_value_due, entries_version_two, behind, blocks_of, blocked, null_of, dictionary}
use Rattle.numbers.proofs.SameBytes.{same_refl}
use Rattle.stored_value.proofs.Laws.{value_laid, same_cell-sym}

-- ---- a value

pub cell_back : (t : ℕ) (c : Cell) → Valued t c → value (value_bytes c) ≡ c
cell_back t null h = absurd h
cell_back t (value v) h = refl

pub value_of_laid : {A : Type 0} (t : ℕ) (c : Cell) (tail : List ℕ) (k : List ℕ → List ℕ → Result A Refusal) → Valued t c
    → value_of Short Dict t (value_bytes c ++ tail) k ≡ k (value_bytes c) tail
unfolding value_of and_then
value_of_laid t null tail k v = absurd v
value_of_laid t (value w) tail k v =
    rw (value_laid Short Dict t w tail v, take_at w tail (length w) refl, drop_at w tail (length w) refl)

-- ---- version 1: no entry's cell stands among those before it

abbrev pub Apart : List Entry → List Entry → Type 0
Apart before [] = Unit {0}
Apart before (e ∷ es) = (some_has e.cell before ≡ false) × Apart before es

some_last : (c : Cell) (es : List Entry) (e : Entry) → some_has c es ≡ false → same_cell c e.cell ≡ false → some_has c (es ++ (e ∷ [])) ≡ false
some_last c [] e p q = rw q
some_last c (d ∷ es) e p q =
    let o = or_neither (same_cell c d.cell) (some_has c es) p in
    rw (o.0, some_last c es e o.1 q)

apart_more : (before : List Entry) (e : Entry) (es : List Entry) → Apart before es → some_has e.cell es ≡ false → Apart (before ++ (e ∷ [])) es
apart_more before e [] a p = tt
apart_more before e (d ∷ es) a p =
    let o = or_neither (same_cell e.cell d.cell) (some_has e.cell es) p in
    (some_last d.cell before e a.0 (same_cell-sym d.cell e.cell ∙ o.0), apart_more before e es a.1 o.1)

apart_none : (es : List Entry) → Apart [] es
apart_none [] = tt
apart_none (e ∷ es) = (refl, apart_none es)

entries_one_laid : (t rows : ℕ) (nulls before es : List Entry) (region : List ℕ) → Distinct t es → Apart before es → NoExtents es → Patterns es
    → entries_version_one t rows (length es) nulls before (entries1 es ++ region) ≡ Ok (record { rows = rows; entries = nulls ++ (before ++ es); region = region })
unfolding entries_version_one check
entries_one_laid t rows nulls before [] region d a x p = simp append-nil
entries_one_laid t rows nulls before (e ∷ es) region d a x p =
    let c : Cell = e.cell in
    rw (append_assoc (value_bytes c) (be 4 e.offset ++ entries1 es) region)
    (value_of_laid t c (be 4 e.offset ++ (entries1 es ++ region)) _ d.0
    ∙ rw (cell_back t c d.0, a.0)
    (number_laid big 4 (Err Short) e.offset (entries1 es ++ region) _ p.0
    ∙ rw (← x.0) (entries_one_laid t rows nulls (before ++ (e ∷ [])) es region d.2 (apart_more before e es a.1 d.1) x.1 p.2
    ∙ rw (append_assoc before (e ∷ []) es))))

-- ---- the fields before the entries

pub patterns_cut : (xs ys : List Entry) → Patterns (xs ++ ys) → Patterns xs × Patterns ys
patterns_cut [] ys p = (tt, p)
patterns_cut (x ∷ xs) ys p = let q = patterns_cut xs ys p.2 in ((p.0, p.1, q.0), q.1)

extents_cut : (xs ys : List Entry) → NoExtents (xs ++ ys) → NoExtents xs × NoExtents ys
extents_cut [] ys p = (tt, p)
extents_cut (x ∷ xs) ys p = let q = extents_cut xs ys p.1 in ((p.0, q.0), q.1)

pub counted_laid : {A : Type 0} (most n : ℕ) (s : List ℕ) (k : ℕ → List ℕ → Result A Refusal) → n ≤ most → n ≤ limit → count_at_most most (be 4 n ++ s) k ≡ k n s
unfolding count_at_most check
counted_laid most n s k h l =
    number_laid big 4 (Err Short) n s _ (omega arith) ∙ rw (lt-ltb n sign_bit (omega arith), le-leb n most h)

pub byte_laid : {A : Type 0} (b : ℕ) (s : List ℕ) (k : ℕ → List ℕ → Result A Refusal) → number big 1 (Err Short) (b ∷ s) k ≡ k b s
unfolding number
byte_laid b s k = rw (le-leb 1 (suc (length s)) (omega arith), zero-add b)

pub null_flag : (nulls : List Entry) → has_null_byte nulls ≤ 1
null_flag [] = omega arith
null_flag (e ∷ es) = omega arith

-- the most values of a version
most : ℕ → ℕ
most v = cond (eqb v 1) most_values1 most_values2

fixed_laid : (t v rows n : ℕ) (nulls : List Entry) (s : List ℕ) → t < types → (eqb v 1 || eqb v 2) ≡ true → rows ≤ limit → n ≤ most v → n ≤ most_values2
    → dictionary t (v ∷ (be 4 rows ++ (be 4 n ++ (has_null_byte nulls ∷ s))))
    ≡ null_of (eqb v 2) (eqb (has_null_byte nulls) 1) s (λ nulls s. cond (eqb v 1) (entries_version_one t rows n nulls [] s) (blocked t rows n nulls s))
unfolding dictionary check most
fixed_laid t v rows n nulls s k e hr hm hn =
    let f : has_null_byte nulls ≤ 1 = null_flag nulls in
    rw (lt-ltb t types k)
    (byte_laid v (be 4 rows ++ (be 4 n ++ (has_null_byte nulls ∷ s))) _
    ∙ rw e (counted_laid limit rows (be 4 n ++ (has_null_byte nulls ∷ s)) _ hr hr
    ∙ counted_laid (most v) n (has_null_byte nulls ∷ s) _ hm (omega arith)
    ∙ byte_laid (has_null_byte nulls) s _
    ∙ rw (le-leb (has_null_byte nulls) 1 f)))

null1_laid : (nulls : List Entry) (s : List ℕ) (k : AfterEntries) → NullOnly nulls → NoExtents nulls → Patterns nulls
    → null_of false (eqb (has_null_byte nulls) 1) (null1 nulls ++ s) k ≡ k nulls s
unfolding null_of
null1_laid [] s k h x p = refl
null1_laid (e ∷ es) s k h x p =
    number_laid big 4 (Err Short) e.offset s _ p.0 ∙ rw (← h.0, ← x.0, h.1)

-- whatever follows it
pub null2_laid : {A : Type 0} (nulls : List Entry) (s : List ℕ) (k : List Entry → List ℕ → Result A Refusal) → NullOnly nulls → Patterns nulls
    → null_of true (eqb (has_null_byte nulls) 1) (null2 nulls ++ s) k ≡ k nulls s
unfolding null_of
null2_laid [] s k h p = refl
null2_laid (e ∷ es) s k h p =
    number_laid big 4 (Err Short) e.offset (be 4 e.extent ++ s) _ p.0
    ∙ number_laid big 4 (Err Short) e.extent s _ p.1 ∙ rw (← h.0, h.1)

-- laid out in version 1, so read
pub one_laid : (t rows : ℕ) (nulls es : List Entry) (region : List ℕ) → t < types → Distinct t es → NullOnly nulls → NoExtents (nulls ++ es)
    → Patterns (nulls ++ es) → rows ≤ limit → length es ≤ most_values1
    → dictionary t (body1 rows nulls es region) ≡ Ok (record { rows = rows; entries = nulls ++ es; region = region })
unfolding most
one_laid t rows nulls es region h d o x p r l =
    let q = patterns_cut nulls es p in
    let y = extents_cut nulls es x in
    fixed_laid t 1 rows (length es) nulls (null1 nulls ++ (entries1 es ++ region)) h refl r l (omega arith)
    ∙ null1_laid nulls (entries1 es ++ region) _ o y.0 q.0
    ∙ entries_one_laid t rows nulls [] es region d (apart_none es) y.1 q.1

-- ---- version 2: the directory

-- what the directory says of blocks that begin at `at`
abbrev pub listings_of : ℕ → List (List Entry) → List Listing
listings_of at [] = []
listings_of at (b ∷ bs) = record { first = value_bytes (first b); at = at } ∷ listings_of (at + length (block b)) bs

abbrev pub Headed : ℕ → List (List Entry) → Type 0
Headed t [] = Unit {0}
Headed t (b ∷ bs) = Valued t (first b) × Headed t bs

-- the cell before what follows es
abbrev pub last_of : Cell → List Entry → Cell
last_of before [] = before
last_of before (e ∷ es) = last_of e.cell es

pub rises_cut : (t : ℕ) (before : Cell) (xs ys : List Entry) → Rises t before (xs ++ ys) → Rises t before xs × Rises t (last_of before xs) ys
rises_cut t before [] ys r = (tt, r)
rises_cut t before (x ∷ xs) ys r = let q = rises_cut t x.cell xs ys r.2 in ((r.0, r.1, q.0), q.1)

first_valued : (t : ℕ) (before : Cell) (b : List Entry) → 1 ≤ length b → Rises t before b → Valued t (first b)
first_valued t before [] h r = absurd (omega arith)
first_valued t before (e ∷ es) h r = r.0

pub headed : (t : ℕ) (before : Cell) (bs : List (List Entry)) → NoneEmpty bs → Rises t before (joined bs) → Headed t bs
headed t before [] h r = tt
headed t before (b ∷ bs) h r =
    let q = rises_cut t before b (joined bs) r in
    (first_valued t before b h.0 q.0, headed t (last_of before b) bs h.1 q.1)

listings_laid : {A : Type 0} (t at : ℕ) (bs : List (List Entry)) (ds : List Listing) (s : List ℕ) (k : List Listing → List ℕ → Result A Refusal)
    → Headed t bs → at + length (blocks bs) ≤ limit → listings t (length bs) ds (directory at bs ++ s) k ≡ k (ds ++ listings_of at bs) s
unfolding listings
listings_laid t at [] ds s k v l = simp append-nil
listings_laid t at (b ∷ bs) ds s k v l =
    let c : Cell = first b in
    let rest : List ℕ = directory (at + length (block b)) bs in
    let m : length (block b ++ blocks bs) ≡ length (block b) + length (blocks bs) = length-append (block b) (blocks bs) in
    rw (append_assoc (value_bytes c) (be 4 at ++ rest) s)
    (value_of_laid t c (be 4 at ++ (rest ++ s)) _ v.0
    ∙ number_laid big 4 (Err Short) at (rest ++ s) _ (omega arith)
    ∙ listings_laid t (at + length (block b)) bs (ds ++ (record { first = value_bytes c; at = at } ∷ [])) s k v.1 (omega arith)
    ∙ rw (append_assoc ds (record { first = value_bytes c; at = at } ∷ []) (listings_of (at + length (block b)) bs)))

-- ---- the blocks

past-true : (t : ℕ) (before c : Cell) → Valued t c → Past t before c → past t before (value_bytes c) ≡ true
unfolding past
past-true t before null v p = absurd v
past-true t null (value w) v p = refl
past-true t (value u) (value w) v p = p

-- the first value is the one that is asked for, if one is
abbrev pub Begins : Cell → List Entry → Type 0
Begins due [] = Unit {0}
Begins due (e ∷ es) = is_value_due due (value_bytes e.cell) ≡ true

begins_any : (es : List Entry) → Begins null es
unfolding is_value_due
begins_any [] = tt
begins_any (e ∷ es) = refl

begins_own : (es : List Entry) → Begins (value (value_bytes (first es))) es
unfolding is_value_due
begins_own [] = tt
begins_own (e ∷ es) = same_refl (value_bytes e.cell)

entries_two_laid : {A : Type 0} (t : ℕ) (before due : Cell) (es sofar : List Entry) (s : List ℕ) (k : Cell → List Entry → List ℕ → Result A Refusal)
    → Rises t before es → Begins due es → Patterns es
    → entries_version_two t (length es) before due sofar (entries2 es ++ s) k ≡ k (last_of before es) (sofar ++ es) s
unfolding entries_version_two check
entries_two_laid t before due [] sofar s k r b p = simp append-nil
entries_two_laid t before due (e ∷ es) sofar s k r b p =
    let c : Cell = e.cell in
    rw (append_assoc (value_bytes c) (be 4 e.offset ++ (be 4 e.extent ++ entries2 es)) s)
    (value_of_laid t c (be 4 e.offset ++ (be 4 e.extent ++ (entries2 es ++ s))) _ r.0
    ∙ rw (past-true t before c r.0 r.1, b, cell_back t c r.0)
    (number_laid big 4 (Err Short) e.offset (be 4 e.extent ++ (entries2 es ++ s)) _ p.0
    ∙ number_laid big 4 (Err Short) e.extent (entries2 es ++ s) _ p.1
    ∙ entries_two_laid t c null es (sofar ++ (e ∷ [])) s k r.2 (begins_any es) p.2
    ∙ rw (append_assoc sofar (e ∷ []) es)))

pub behind_is : (at : ℕ) (base s : List ℕ) → length base ≡ at + length s → behind base s ≡ at
unfolding behind
behind_is at base s h = omega arith

blocks_of_laid : (t at : ℕ) (base : List ℕ) (before : Cell) (bs : List (List Entry)) (sofar : List Entry) (s : List ℕ) (k : AfterEntries)
    → length base ≡ at + length (blocks bs ++ s) → NoneEmpty bs → Rises t before (joined bs) → Patterns (joined bs) → length (joined bs) ≤ most_values2
    → blocks_of t (listings_of at bs) base before sofar (blocks bs ++ s) k ≡ k (sofar ++ joined bs) s
unfolding blocks_of check
blocks_of_laid t at base before [] sofar s k z n r p l = simp append-nil
blocks_of_laid t at base before (b ∷ bs) sofar s k z n r p l =
    let m : length (b ++ joined bs) ≡ length b + length (joined bs) = length-append b (joined bs) in
    let rest : List ℕ = blocks bs ++ s in
    let e : (block b ++ blocks bs) ++ s ≡ block b ++ rest = append_assoc (block b) (blocks bs) s in
    let z' : length base ≡ at + length (block b ++ rest) = z ∙ ap (λ (x : List ℕ). at + length x) e in
    let w : length base ≡ at + length (block b) + length rest = omega (arith, length-append (block b) rest) in
    let q = patterns_cut b (joined bs) p in
    let u = rises_cut t before b (joined bs) r in
    rw (e, behind_is at base (block b ++ rest) z', eq-eqb at at refl)
    (number_laid big 4 (Err Short) (length b) (entries2 b ++ rest) _ (omega arith)
    ∙ rw (le-leb 1 (length b) n.0, lt-ltb (length b) sign_bit (omega arith))
    (entries_two_laid t before (value (value_bytes (first b))) b sofar rest _ u.0 (begins_own b) q.0
    ∙ blocks_of_laid t (at + length (block b)) base (last_of before b) bs (sofar ++ b) s k w n.1 u.1 q.1 (omega arith)
    ∙ rw (append_assoc sofar b (joined bs))))

-- blocks are there exactly when values are
pub none_exactly : (bs : List (List Entry)) → NoneEmpty bs → cond (eqb (length (joined bs)) 0) (eqb (length bs) 0) (leb 1 (length bs)) ≡ true
none_exactly [] n = refl
none_exactly (b ∷ bs) n =
    let m : length (b ++ joined bs) ≡ length b + length (joined bs) = length-append b (joined bs) in
    rw (ne_eqb (length (b ++ joined bs)) 0 (omega (arith, n.0)), le-leb 1 (suc (length bs)) (omega arith))

blocked_laid : (t rows : ℕ) (nulls : List Entry) (bs : List (List Entry)) (region : List ℕ) → NoneEmpty bs → Rises t null (joined bs)
    → Patterns (joined bs) → length (joined bs) ≤ most_values2 → length bs ≤ most_blocks → length (blocks bs) ≤ limit
    → blocked t rows (length (joined bs)) nulls (be 4 (length bs) ++ (directory 0 bs ++ (be 4 (length (blocks bs)) ++ (blocks bs ++ region))))
    ≡ Ok (record { rows = rows; entries = nulls ++ joined bs; region = region })
unfolding blocked check
blocked_laid t rows nulls bs region n r p l m z =
    let base : List ℕ = blocks bs ++ region in
    let d : length base ≡ length (blocks bs) + length region = length-append (blocks bs) region in
    counted_laid most_blocks (length bs) (directory 0 bs ++ (be 4 (length (blocks bs)) ++ base)) _ m (omega arith)
    ∙ rw (none_exactly bs n)
    (listings_laid t 0 bs [] (be 4 (length (blocks bs)) ++ base) _ (headed t null bs n r) (omega arith)
    ∙ number_laid big 4 (Err Short) (length (blocks bs)) base _ (omega arith)
    ∙ blocks_of_laid t 0 base null bs [] region _ (omega arith) n r p l
    ∙ rw (
      behind_is (length (blocks bs)) base region d,
      eq-eqb (length (blocks bs)) (length (blocks bs)) refl,
      eq-eqb (length (joined bs)) (length (joined bs)) refl,
    ))

-- laid out in version 2, so read
pub two_laid : (t rows : ℕ) (nulls : List Entry) (bs : List (List Entry)) (region : List ℕ) → t < types → NullOnly nulls → NoneEmpty bs
    → Rises t null (joined bs) → Patterns (nulls ++ joined bs) → rows ≤ limit → length (joined bs) ≤ most_values2 → length bs ≤ most_blocks
    → length (body2 rows nulls bs region) ≤ limit
    → dictionary t (body2 rows nulls bs region) ≡ Ok (record { rows = rows; entries = nulls ++ joined bs; region = region })
unfolding most
two_laid t rows nulls bs region h o n r p hr l m z =
    let q = patterns_cut nulls (joined bs) p in
    let tail : List ℕ = be 4 (length bs) ++ (directory 0 bs ++ (be 4 (length (blocks bs)) ++ (blocks bs ++ region))) in
    let y : length (blocks bs) ≤ limit =
    omega (arith, length-append (null2 nulls) tail, length-append (directory 0 bs) (be 4 (length (blocks bs)) ++ (blocks bs ++ region)), length-append (blocks bs) region) in
    fixed_laid t 2 rows (length (joined bs)) nulls (null2 nulls ++ tail) h refl hr l l
    ∙ null2_laid nulls tail _ o q.0
    ∙ blocked_laid t rows nulls bs region n r q.1 l m y
