-- What is read was laid out. Each law named `on-` takes one step of an accepted reading apart: P of the bytes that were read follows from P of all
-- bytes that may be laid out there, with the rest of the reading accepted.
use mathlib.Core.Path.{◌≡◌, refl, sym, ap, ◌∙◌, subst}
use Prim.Native.Nat.{ℕ, zero, suc, ◌+◌, ◌%◌, ◌^◌, ◌≤◌, ◌<◌}
use native.Mathlib.Omega.{arith}
use mathlib.Core.Bool.{Bool, true, false, ◌||◌, cond}
use mathlib.Core.List.{List, [], ◌∷◌, ◌++◌, append_assoc, append-nil}
use lib.ListN.{length, take, drop, length-append, take-append-drop}
use lib.Dec.{eqb, ltb, leb}
use borrow.Author.Tests.{leb-true, ltb-true, eqb-true, not-true}
use Rattle.numbers.specs.Meaning.{be, big, number, joined, Bytes, sign_bit, minus_one_32}
use Rattle.numbers.proofs.Booleans.{and_both, or_neither}
use Rattle.numbers.proofs.ByteLists.{bytes_drop}
use Rattle.numbers.proofs.Laws.{on_number}
use Rattle.refusal.specs.Meaning.{limit}
use Rattle.refusal.specs.declared.Refusal.{Refusal}
use Rattle.refusal.specs.declared.Refusal.TheVariants.{Short, Dict}
use Rattle.stored_value.specs.Meaning.{Cell, null, value, Value, same_cell}
use Rattle.std.specs.Prelude.{Result, Err, Ok}
use Rattle.refusal.specs.Reading.{check, and_then}
use Rattle.stored_value.specs.Reading.{value_size, value_of}
use Rattle.dictionary.specs.Layout.{Entry, most_values1, most_values2, most_blocks, Patterns, NullOnly, some_has, Distinct, NoExtents, value_bytes, entries1, has_null_byte, null1, body1, first, Past, Rises, NoneEmpty, entries2, block, blocks, directory, null2, body2}
use Rattle.dictionary.specs.Promises.{AfterEntries}
use Rattle.dictionary.specs.Reading.{count_at_most, entries_version_one, Listing, listings, past, is_value_due, entries_version_two, behind, blocks_of, blocked, null_of, dictionary}
use Rattle.numbers.proofs.SameBytes.{same→eq}
use Rattle.stored_value.proofs.Laws.{same_cell-sym, value_read}
use Rattle.dictionary.proofs.LaidOut.{Apart, listings_of, last_of, Begins, behind_is}

-- accepted
abbrev pub Good : {A : Type 0} → Result A Refusal → Type 0
Good (Err r) = ⊥
Good (Ok a) = Unit {0}

on_check : {A X : Type 0} (b : Bool) (r : Refusal) (x : Result A Refusal) → Good (check b r x) → (b ≡ true → Good x → X) → X
unfolding check
on_check true r x g f = f refl g
on_check false r x g f = absurd g

on_word : {A : Type 0} (w : ℕ) (P : List ℕ → Type 0) (s : List ℕ) (k : ℕ → List ℕ → Result A Refusal) → Bytes s → Good (number big w (Err Short) s k)
    → ((v : ℕ) (s : List ℕ) → v < 256 ^ w → Bytes s → Good (k v s) → P (be w v ++ s)) → P s
on_word w P s k h g f = on_number big w (Err Short) Good P s k (λ x. x) h g f

on_byte : {A : Type 0} (P : List ℕ → Type 0) (s : List ℕ) (k : ℕ → List ℕ → Result A Refusal) → Bytes s → Good (number big 1 (Err Short) s k)
    → ((v : ℕ) (s : List ℕ) → v < 256 → Bytes s → Good (k v s) → P (v ∷ s)) → P s
on_byte P s k h g f = on_word 1 P s k h g (λ v s l h g. let e : v % 256 ≡ v = omega arith in rw e (f v s l h g))

on_counted : {A : Type 0} (most : ℕ) (P : List ℕ → Type 0) (s : List ℕ) (k : ℕ → List ℕ → Result A Refusal) → Bytes s → Good (count_at_most most s k)
    → ((n : ℕ) (s : List ℕ) → n ≤ most → n ≤ limit → Bytes s → Good (k n s) → P (be 4 n ++ s)) → P s
unfolding count_at_most
on_counted most P s k h g f =
    on_word 4 P s _ h g (λ n s l h g. on_check _ _ _ g (λ p g. on_check _ _ _ g (λ q g.
    let p' : n < sign_bit = ltb-true n sign_bit p in
    f n s (leb-true n most q) (omega arith) h g)))

on_value : {A : Type 0} (P : List ℕ → Type 0) (t : ℕ) (s : List ℕ) (k : List ℕ → List ℕ → Result A Refusal) → Bytes s → Good (value_of Short Dict t s k)
    → ((v s : List ℕ) → Value t v → Bytes s → Good (k v s) → P (v ++ s)) → P s
unfolding value_of and_then
on_value P t s k h g f = go (value_size Short Dict t s) refl g
  where
    go : (o : Result ℕ Refusal) → value_size Short Dict t s ≡ o → Good (and_then o (λ n. k (take n s) (drop n s))) → P s
    go (Err r) e g = absurd g
    go (Ok n) e g =
        subst P (take-append-drop n s) (f (take n s) (drop n s) ((value_read Short Dict t s n e).whole h) (bytes_drop n s h) g)

-- ---- version 1

some_init : (c : Cell) (es : List Entry) (e : Entry) → some_has c (es ++ (e ∷ [])) ≡ false → (some_has c es ≡ false) × (same_cell c e.cell ≡ false)
some_init c [] e p = (refl, (or_neither (same_cell c e.cell) false p).0)
some_init c (d ∷ es) e p =
    let o = or_neither (same_cell c d.cell) (some_has c (es ++ (e ∷ []))) p in
    let q = some_init c es e o.1 in
    (rw (o.0, q.0), q.1)

apart_less : (before : List Entry) (e : Entry) (es : List Entry) → Apart (before ++ (e ∷ [])) es → Apart before es × (some_has e.cell es ≡ false)
apart_less before e [] a = (tt, refl)
apart_less before e (d ∷ es) a =
    let p = some_init d.cell before e a.0 in
    let q = apart_less before e es a.1 in
    ((p.0, q.0), rw (same_cell-sym e.cell d.cell, p.1, q.1))

on_entries_one : (P : List ℕ → Type 0) (t rows n : ℕ) (nulls before : List Entry) (s : List ℕ) → Bytes s → Good (entries_version_one t rows n nulls before s)
    → ((es : List Entry) (region : List ℕ) → length es ≡ n → Distinct t es → Apart before es → NoExtents es → Patterns es → P (entries1 es ++ region)) → P s
unfolding entries_version_one
on_entries_one P t rows zero nulls before s h g f = f [] s refl tt tt tt tt
on_entries_one P t rows (suc n) nulls before s h g f =
    on_value P t s _ h g (λ v s hv h g. on_check _ _ _ g (λ new g.
    on_word 4 (λ (x : List ℕ). P (v ++ x)) s _ h g (λ offset s ho h g.
    let e : Entry = record { cell = value v; offset = offset; extent = minus_one_32 } in
    on_entries_one (λ (x : List ℕ). P (v ++ (be 4 offset ++ x))) t rows n nulls (before ++ (e ∷ [])) s h g (λ es region c d a x p.
    let q = apart_less before e es a in
    rw (append_assoc v (be 4 offset ++ entries1 es) region)
    at (f (e ∷ es) region (ap suc c) (hv, q.1, d) (not-true (some_has (value v) before) new, q.0) (refl, x) (ho, omega arith, p))))))

-- ---- version 2: the directory

abbrev listing_bytes : List Listing → List ℕ
listing_bytes [] = []
listing_bytes (d ∷ ds) = d.first ++ (be 4 d.at ++ listing_bytes ds)

listing_bytes_lem : (at : ℕ) (bs : List (List Entry)) → listing_bytes (listings_of at bs) ≡ directory at bs
listing_bytes_lem at [] = refl
listing_bytes_lem at (b ∷ bs) = rw (listing_bytes_lem (at + length (block b)) bs)

length-listings : (at : ℕ) (bs : List (List Entry)) → length (listings_of at bs) ≡ length bs
length-listings at [] = refl
length-listings at (b ∷ bs) = ap suc (length-listings (at + length (block b)) bs)

on_listings : {A : Type 0} (P : List ℕ → Type 0) (t n : ℕ) (before : List Listing) (s : List ℕ) (k : List Listing → List ℕ → Result A Refusal)
    → Bytes s → Good (listings t n before s k)
    → ((ds : List Listing) (s : List ℕ) → length ds ≡ n → Bytes s → Good (k (before ++ ds) s) → P (listing_bytes ds ++ s)) → P s
unfolding listings
on_listings P t zero before s k h g f = f [] s refl h (rw (append-nil before) g)
on_listings P t (suc n) before s k h g f =
    on_value P t s _ h g (λ v s hv h g.
    on_word 4 (λ (x : List ℕ). P (v ++ x)) s _ h g (λ at s ha h g.
    let d : Listing = record { first = v; at = at } in
    on_listings (λ (x : List ℕ). P (v ++ (be 4 at ++ x))) t n (before ++ (d ∷ [])) s k h g (λ ds s c h g.
    rw (append_assoc v (be 4 at ++ listing_bytes ds) s)
    at (f (d ∷ ds) s (ap suc c) h (rw (append_assoc before (d ∷ []) ds) at g)))))

-- ---- the blocks

past_back : (t : ℕ) (before : Cell) (v : List ℕ) → past t before v ≡ true → Past t before (value v)
unfolding past
past_back t null v p = tt
past_back t (value u) v p = p

on_entries_two : {A : Type 0} (P : List ℕ → Type 0) (t n : ℕ) (before due : Cell) (sofar : List Entry) (s : List ℕ) (k : Cell → List Entry → List ℕ → Result A Refusal)
    → Bytes s → Good (entries_version_two t n before due sofar s k)
    → ((es : List Entry) (s : List ℕ) → length es ≡ n → Rises t before es → Begins due es → Patterns es → Bytes s
    → Good (k (last_of before es) (sofar ++ es) s) → P (entries2 es ++ s)) → P s
unfolding entries_version_two
on_entries_two P t zero before due sofar s k h g f = f [] s refl tt tt tt h (rw (append-nil sofar) g)
on_entries_two P t (suc n) before due sofar s k h g f =
    on_value P t s _ h g (λ v s hv h g. on_check _ _ _ g (λ new g.
    on_word 4 (λ (x : List ℕ). P (v ++ x)) s _ h g (λ offset s ho h g.
    on_word 4 (λ (x : List ℕ). P (v ++ (be 4 offset ++ x))) s _ h g (λ extent s hx h g.
    let e : Entry = record { cell = value v; offset = offset; extent = extent } in
    let b = and_both (past t before v) (is_value_due due v) new in
    on_entries_two (λ (x : List ℕ). P (v ++ (be 4 offset ++ (be 4 extent ++ x)))) t n (value v) null (sofar ++ (e ∷ [])) s k h g (λ es s c r _ p h g.
    rw (append_assoc v (be 4 offset ++ (be 4 extent ++ entries2 es)) s)
    at (f (e ∷ es) s (ap suc c) (hv, past_back t before v b.0, r) b.1 (ho, hx, p) h (rw (append_assoc sofar (e ∷ []) es) at g)))))))

rises_join : (t : ℕ) (before : Cell) (xs ys : List Entry) → Rises t before xs → Rises t (last_of before xs) ys → Rises t before (xs ++ ys)
rises_join t before [] ys r q = q
rises_join t before (x ∷ xs) ys r q = (r.0, r.1, rises_join t x.cell xs ys r.2 q)

patterns_join : (xs ys : List Entry) → Patterns xs → Patterns ys → Patterns (xs ++ ys)
patterns_join [] ys p q = q
patterns_join (x ∷ xs) ys p q = (p.0, p.1, patterns_join xs ys p.2 q)

extents_join : (xs ys : List Entry) → NoExtents xs → NoExtents ys → NoExtents (xs ++ ys)
extents_join [] ys p q = q
extents_join (x ∷ xs) ys p q = (p.0, extents_join xs ys p.1 q)

-- a block's first value is the directory's
begins_back : (v : List ℕ) (es : List Entry) → 1 ≤ length es → Begins (value v) es → v ≡ value_bytes (first es)
unfolding is_value_due
begins_back v [] l b = absurd (omega arith)
begins_back v (e ∷ es) l b = same→eq v (value_bytes e.cell) b

listing_is : (d : Listing) (ds : List Listing) (at : ℕ) (es : List Entry) (bs : List (List Entry)) → d.first ≡ value_bytes (first es) → d.at ≡ at
    → ds ≡ listings_of (at + length (block es)) bs → d ∷ ds ≡ listings_of at (es ∷ bs)
listing_is d ds at es bs p q e = λ i. record { first = p i; at = q i } ∷ e i

on_blocks : (P : List ℕ → Type 0) (t at : ℕ) (base : List ℕ) (before : Cell) (ds : List Listing) (sofar : List Entry) (s : List ℕ)
    (k : AfterEntries) → Bytes s → length base ≡ at + length s → Good (blocks_of t ds base before sofar s k)
    → ((bs : List (List Entry)) (s : List ℕ) → ds ≡ listings_of at bs → NoneEmpty bs → Rises t before (joined bs) → Patterns (joined bs)
    → Good (k (sofar ++ joined bs) s) → P (blocks bs ++ s)) → P s
unfolding blocks_of
on_blocks P t at base before [] sofar s k h z g f = f [] s refl tt tt tt (rw (append-nil sofar) g)
on_blocks P t at base before (d ∷ ds) sofar s k h z g f =
    on_check _ _ _ g (λ place g.
    let a : d.at ≡ at = eqb-true d.at (behind base s) place ∙ behind_is at base s z in
    on_word 4 (λ (x : List ℕ). length base ≡ at + length x → P x) s _ h g (λ n s hn h g z. on_check _ _ _ g (λ some g.
    let m : 1 ≤ n = leb-true 1 n (and_both (leb 1 n) (ltb n sign_bit) some).0 in
    on_entries_two (λ (x : List ℕ). length base ≡ at + length (be 4 n ++ x) → P (be 4 n ++ x)) t n before (value d.first) sofar s _ h g
    (λ es s c r b p h g z.
    let w : length base ≡ at + length (block es) + length s = omega (arith, length-append (entries2 es) s) in
    on_blocks (λ (x : List ℕ). P (be 4 n ++ (entries2 es ++ x))) t (at + length (block es)) base (last_of before es) ds (sofar ++ es) s k h w g
    (λ bs s e ne r' p' g.
    let y : d.first ≡ value_bytes (first es) = begins_back d.first es (omega arith) b in
    let u : d ∷ ds ≡ listings_of at (es ∷ bs) = listing_is d ds at es bs y a e in
    rw (append_assoc (entries2 es) (blocks bs) s, c)
    at (f (es ∷ bs) s u (omega arith, ne) (rises_join t before es (joined bs) r r') (patterns_join es (joined bs) p p')
    (rw (append_assoc sofar es (joined bs)) at g)))) z)) z)

on_blocked : (P : List ℕ → Type 0) (t rows n : ℕ) (nulls : List Entry) (s : List ℕ) → Bytes s → Good (blocked t rows n nulls s)
    → ((bs : List (List Entry)) (region : List ℕ) → length (joined bs) ≡ n → length bs ≤ most_blocks → NoneEmpty bs → Rises t null (joined bs) → Patterns (joined bs)
    → P (be 4 (length bs) ++ (directory 0 bs ++ (be 4 (length (blocks bs)) ++ (blocks bs ++ region))))) → P s
unfolding blocked
on_blocked P t rows n nulls s h g f =
    on_counted most_blocks P s _ h g (λ b s lb _ h g. on_check _ _ _ g (λ _ g.
    on_listings (λ (x : List ℕ). P (be 4 b ++ x)) t b [] s _ h g (λ ds s c h g.
    on_word 4 (λ (x : List ℕ). P (be 4 b ++ (listing_bytes ds ++ x))) s _ h g (λ offset base _ h g.
    on_blocks (λ (x : List ℕ). length base ≡ length x → P (be 4 b ++ (listing_bytes ds ++ (be 4 offset ++ x)))) t 0 base null ds [] base _ h (omega arith) g
    (λ bs region e ne r p g z. on_check _ _ _ g (λ place g. on_check _ _ _ g (λ count _.
    let y : length base ≡ length (blocks bs) + length region = z ∙ length-append (blocks bs) region in
    let o : offset ≡ length (blocks bs) = eqb-true offset (behind base region) place ∙ behind_is (length (blocks bs)) base region y in
    let d : listing_bytes ds ≡ directory 0 bs = ap listing_bytes e ∙ listing_bytes_lem 0 bs in
    let m : length bs ≡ b = sym (length-listings 0 bs) ∙ sym (ap length e) ∙ c in
    rw (d, o, ← m) (f bs region (eqb-true (length (joined bs)) n count) (omega arith) ne r p)))) refl))))

-- ---- null's entry

on_null1 : (P : ℕ → List ℕ → Type 0) (b : ℕ) (s : List ℕ) (k : AfterEntries) → b ≤ 1 → Bytes s → Good (null_of false (eqb b 1) s k)
    → ((nulls : List Entry) (s : List ℕ) → NullOnly nulls → NoExtents nulls → Patterns nulls → Bytes s → Good (k nulls s)
    → P (has_null_byte nulls) (null1 nulls ++ s)) → P b s
unfolding null_of
on_null1 P zero s k l h g f = f [] s tt tt tt h g
on_null1 P (suc zero) s k l h g f =
    on_word 4 (P 1) s _ h g (λ offset s ho h g.
    f (record { cell = null; offset = offset; extent = minus_one_32 } ∷ []) s (refl, refl) (refl, tt) (ho, omega arith, tt) h g)
on_null1 P (suc (suc b)) s k l h g f = absurd (omega arith)

on_null2 : (P : ℕ → List ℕ → Type 0) (b : ℕ) (s : List ℕ) (k : AfterEntries) → b ≤ 1 → Bytes s → Good (null_of true (eqb b 1) s k)
    → ((nulls : List Entry) (s : List ℕ) → NullOnly nulls → Patterns nulls → Bytes s → Good (k nulls s) → P (has_null_byte nulls) (null2 nulls ++ s)) → P b s
unfolding null_of
on_null2 P zero s k l h g f = f [] s tt tt h g
on_null2 P (suc zero) s k l h g f =
    on_word 4 (P 1) s _ h g (λ offset s ho h g.
    on_word 4 (λ (x : List ℕ). P 1 (be 4 offset ++ x)) s _ h g (λ extent s hx h g.
    f (record { cell = null; offset = offset; extent = extent } ∷ []) s (refl, refl) (ho, hx, tt) h g))
on_null2 P (suc (suc b)) s k l h g f = absurd (omega arith)

-- ---- the dictionary

on_version : (Q : ℕ → Type 0) (v : ℕ) → (eqb v 1 || eqb v 2) ≡ true → Q 1 → Q 2 → Q v
on_version Q v e f f' = go (eqb v 1) refl e
  where
    go : (b : Bool) → eqb v 1 ≡ b → (b || eqb v 2) ≡ true → Q v
    go true p e = rw (eqb-true v 1 p) f
    go false p e = rw (eqb-true v 2 e) f'

module _ (P : List ℕ → Type 0) (t rows n b : ℕ) (s : List ℕ) (hr : rows ≤ limit) (hb : b ≤ 1) (h : Bytes s) where
  on_one : n ≤ most_values1 → Good (null_of false (eqb b 1) s (λ nulls s. entries_version_one t rows n nulls [] s))
      → ((nulls es : List Entry) (region : List ℕ) → Distinct t es → NullOnly nulls → NoExtents (nulls ++ es) → Patterns (nulls ++ es)
      → length es ≤ most_values1 → P (body1 rows nulls es region)) → P (1 ∷ (be 4 rows ++ (be 4 n ++ (b ∷ s))))
  on_one hn g f =
      on_null1 (λ (b : ℕ) (x : List ℕ). P (1 ∷ (be 4 rows ++ (be 4 n ++ (b ∷ x))))) b s _ hb h g (λ nulls s o x p h g.
      on_entries_one (λ (y : List ℕ). P (1 ∷ (be 4 rows ++ (be 4 n ++ (has_null_byte nulls ∷ (null1 nulls ++ y)))))) t rows n nulls [] s h g (λ es region c d _ x' p'.
      rw c at (f nulls es region d o (extents_join nulls es x x') (patterns_join nulls es p p') (omega arith))))

  on_two : n ≤ most_values2 → Good (null_of true (eqb b 1) s (λ nulls s. blocked t rows n nulls s))
      → ((nulls : List Entry) (bs : List (List Entry)) (region : List ℕ) → NullOnly nulls → NoneEmpty bs → Rises t null (joined bs) → Patterns (nulls ++ joined bs)
      → length (joined bs) ≤ most_values2 → length bs ≤ most_blocks → P (body2 rows nulls bs region)) → P (2 ∷ (be 4 rows ++ (be 4 n ++ (b ∷ s))))
  on_two hn g f =
      on_null2 (λ (b : ℕ) (x : List ℕ). P (2 ∷ (be 4 rows ++ (be 4 n ++ (b ∷ x))))) b s _ hb h g (λ nulls s o p h g.
      on_blocked (λ (y : List ℕ). P (2 ∷ (be 4 rows ++ (be 4 n ++ (has_null_byte nulls ∷ (null2 nulls ++ y)))))) t rows n nulls s h g (λ bs region c m ne r p'.
      rw c at (f nulls bs region o ne r (patterns_join nulls (joined bs) p p') (omega arith) m)))

-- P of bytes whose reading is accepted follows from P of all that may be laid out, in either version
pub on_dictionary : (P : List ℕ → Type 0) (t : ℕ) (s : List ℕ) → Bytes s → Good (dictionary t s)
    → ((rows : ℕ) (nulls es : List Entry) (region : List ℕ) → Distinct t es → NullOnly nulls → NoExtents (nulls ++ es) → Patterns (nulls ++ es)
    → rows ≤ limit → length es ≤ most_values1 → P (body1 rows nulls es region))
    → ((rows : ℕ) (nulls : List Entry) (bs : List (List Entry)) (region : List ℕ) → NullOnly nulls → NoneEmpty bs → Rises t null (joined bs)
    → Patterns (nulls ++ joined bs) → rows ≤ limit → length (joined bs) ≤ most_values2 → length bs ≤ most_blocks → P (body2 rows nulls bs region)) → P s
unfolding dictionary
on_dictionary P t s h g f f' =
    on_check _ _ _ g (λ _ g. on_byte P s _ h g (λ v s _ h g. on_check _ _ _ g (λ known g.
    on_counted limit (λ (x : List ℕ). P (v ∷ x)) s _ h g (λ rows s hr _ h g.
    on_counted (cond (eqb v 1) most_values1 most_values2) (λ (x : List ℕ). P (v ∷ (be 4 rows ++ x))) s _ h g (λ n s hn _ h g.
    on_byte (λ (x : List ℕ). P (v ∷ (be 4 rows ++ (be 4 n ++ x)))) s _ h g (λ b s _ h g. on_check _ _ _ g (λ flag g.
    let hb : b ≤ 1 = leb-true b 1 flag in
    on_version (λ (v : ℕ). n ≤ cond (eqb v 1) most_values1 most_values2
    → Good (null_of (eqb v 2) (eqb b 1) s (λ nulls s. cond (eqb v 1) (entries_version_one t rows n nulls [] s) (blocked t rows n nulls s)))
    → P (v ∷ (be 4 rows ++ (be 4 n ++ (b ∷ s))))) v known
    (λ hn g. on_one P t rows n b s hr hb h hn g (λ nulls es region d o x p m. f rows nulls es region d o x p hr m))
    (λ hn g. on_two P t rows n b s hr hb h hn g (λ nulls bs region o ne r p m m'. f' rows nulls bs region o ne r p hr m m'))
    hn g)))))))
