-- The claims on a dictionary's layout and its reading, proved.
use mathlib.Core.Path.{◌≡◌, refl, sym, ap, ◌∙◌, subst}
use Prim.Native.Nat.{ℕ, ◌+◌, ◌≤◌, ◌<◌}
use mathlib.Core.Bool.{true, false}
use mathlib.Core.List.{List, [], ◌∷◌, ◌++◌}
use lib.ListN.{length}
use lib.Seq.{get_or-append-add}
use borrow.Author.Tests.{lt-ltb, le-ltb, ltb-true, ne_eqb}
use Rattle.numbers.specs.Meaning.{be, joined, Bytes}
use Rattle.refusal.specs.Meaning.{limit}
use Rattle.std.specs.Prelude.{Ok}
use Rattle.refusal.specs.Reading.{check}
use Rattle.refusal.proofs.Laws.{check-ok}
use Rattle.stored_value.specs.Meaning.{types, Cell, null, value, same_cell, less}
use Rattle.stored_value.proofs.Order.{less_trans, less_differs}
use Rattle.dictionary.specs.Layout.{Entry, Valued, NullOnly, some_has, Distinct, entries1, has_null_byte, null1, body1, Past, Rises, blocks, directory, null2, body2}
use Rattle.dictionary.specs.Reading.{Dictionary, dictionary}
use Rattle.dictionary.specs.Claims.{LaidOut, in_one, in_two, LaidOutIsRead, ReadIsLaidOut, UnknownTypeIsRefused, UnknownVersionIsRefused, Once, EachStandsOnce, RegionIsBytes}
use Rattle.dictionary.proofs.LaidOut.{byte_laid, one_laid, two_laid}
use Rattle.dictionary.proofs.Accepted.{Good, on_dictionary}

pub laid_out_is_read : LaidOutIsRead
laid_out_is_read t s d k (in_one rows nulls es region a o x p r n e c) = rw (c, e) (one_laid t rows nulls es region k a o x p r n)
laid_out_is_read t s d k (in_two rows nulls bs region o ne a p r n m z e c) = rw (c, e) (two_laid t rows nulls bs region k o ne a p r n m z)

pub read_is_laid_out : ReadIsLaidOut
unfolding dictionary
read_is_laid_out t s d h m e =
    let k : t < types = ltb-true t types (check-ok _ _ _ d e).0 in
    let laid = on_dictionary (λ (x : List ℕ). length x ≤ limit → dictionary t x ≡ Ok d → LaidOut t x d) t s h (subst Good (sym e) tt)
    (λ rows nulls es region a o x p r n _ e.
    let z = one_laid t rows nulls es region k a o x p r n in
    in_one rows nulls es region a o x p r n (cc) refl)
    (λ rows nulls bs region o ne a p r n n' m e.
    let z = two_laid t rows nulls bs region k o ne a p r n n' m in
    in_two rows nulls bs region o ne a p r n n' m (cc) refl)
    m e in
    (k, laid)

pub unknown_type_is_refused : UnknownTypeIsRefused
unfolding dictionary check
unknown_type_is_refused t s h = rw (le-ltb t types h)

pub unknown_version_is_refused : UnknownVersionIsRefused
unfolding dictionary check
unknown_version_is_refused t v s k n n' = rw (lt-ltb t types k) (byte_laid v s _ ∙ rw (ne_eqb v 1 n, ne_eqb v 2 n'))

-- ---- each cell stands once: in version 1 the values are distinct, in version 2 they rise

abbrev AllValued : ℕ → List Entry → Type 0
AllValued t [] = Unit {0}
AllValued t (e ∷ es) = Valued t e.cell × AllValued t es

not_null : (t : ℕ) (c : Cell) → Valued t c → same_cell null c ≡ false
unfolding same_cell
not_null t null v = absurd v
not_null t (value w) v = refl

none-null : (t : ℕ) (es : List Entry) → AllValued t es → some_has null es ≡ false
none-null t [] v = refl
none-null t (e ∷ es) v = rw (not_null t e.cell v.0, none-null t es v.1)

with_null : (t : ℕ) (nulls es : List Entry) → NullOnly nulls → AllValued t es → Once es → Once (nulls ++ es)
with_null t [] es n v o = o
with_null t (e ∷ nulls) es n v o = rw (n.0, n.1) (none-null t es v, o)

distinct_valued : (t : ℕ) (es : List Entry) → Distinct t es → AllValued t es
distinct_valued t [] d = tt
distinct_valued t (e ∷ es) d = (d.0, distinct_valued t es d.2)

distinct_once : (t : ℕ) (es : List Entry) → Distinct t es → Once es
distinct_once t [] d = tt
distinct_once t (e ∷ es) d = (d.1, distinct_once t es d.2)

rises_valued : (t : ℕ) (before : Cell) (es : List Entry) → Rises t before es → AllValued t es
rises_valued t before [] r = tt
rises_valued t before (e ∷ es) r = (r.0, rises_valued t e.cell es r.2)

-- what rises past a value rises past any lesser one
past-lower : (t : ℕ) (v w : List ℕ) (c : Cell) → less t v w ≡ true → Past t (value w) c → Past t (value v) c
past-lower t v w null l p = p
past-lower t v w (value x) l p = less_trans t v w x l p

rises_lower : (t : ℕ) (v w : List ℕ) (es : List Entry) → less t v w ≡ true → Rises t (value w) es → Rises t (value v) es
rises_lower t v w [] l r = tt
rises_lower t v w (e ∷ es) l r = (r.0, past-lower t v w e.cell l r.1, r.2)

past_differs : (t : ℕ) (v : List ℕ) (c : Cell) → Past t (value v) c → same_cell (value v) c ≡ false
unfolding same_cell
past_differs t v null p = absurd p
past_differs t v (value w) p = less_differs t v w p

pub past_rises : (t : ℕ) (v : List ℕ) (c : Cell) (es : List Entry) → Past t (value v) c → Rises t c es → Rises t (value v) es
past_rises t v null es p r = absurd p
past_rises t v (value w) es p r = rises_lower t v w es p r

pub rises_none : (t : ℕ) (v : List ℕ) (es : List Entry) → Rises t (value v) es → some_has (value v) es ≡ false
rises_none t v [] r = refl
rises_none t v (e ∷ es) r = rw (past_differs t v e.cell r.1, rises_none t v es (past_rises t v e.cell es r.1 r.2))

valued_none : (t : ℕ) (c : Cell) (es : List Entry) → Valued t c → Rises t c es → some_has c es ≡ false
valued_none t null es v r = absurd v
valued_none t (value w) es v r = rises_none t w es r

rises_once : (t : ℕ) (before : Cell) (es : List Entry) → Rises t before es → Once es
rises_once t before [] r = tt
rises_once t before (e ∷ es) r = (valued_none t e.cell es r.0 r.2, rises_once t e.cell es r.2)

pub one_has_each_once : (t : ℕ) (nulls es : List Entry) → Distinct t es → NullOnly nulls → Once (nulls ++ es)
one_has_each_once t nulls es d n = with_null t nulls es n (distinct_valued t es d) (distinct_once t es d)

pub two_has_each_once : (t : ℕ) (nulls es : List Entry) → Rises t null es → NullOnly nulls → Once (nulls ++ es)
two_has_each_once t nulls es r n = with_null t nulls es n (rises_valued t null es r) (rises_once t null es r)

pub each_stands_once : EachStandsOnce
each_stands_once t s d (in_one rows nulls es region a o _ _ _ _ e c) = rw e (one_has_each_once t nulls es a o)
each_stands_once t s d (in_two rows nulls bs region o _ r _ _ _ _ _ e c) = rw e (two_has_each_once t nulls (joined bs) r o)

-- ---- what lies behind the dictionary

bytes-behind : (xs ys : List ℕ) → Bytes (xs ++ ys) → Bytes ys
bytes-behind xs ys h i = rw (get_or-append-add xs ys i 0) at (h (length xs + i))

region_one : (rows : ℕ) (nulls es : List Entry) (region : List ℕ) → Bytes (body1 rows nulls es region) → Bytes region
region_one rows nulls es region h =
    bytes-behind (entries1 es) region (bytes-behind (null1 nulls) (entries1 es ++ region)
    (bytes-behind (1 ∷ (be 4 rows ++ (be 4 (length es) ++ (has_null_byte nulls ∷ [])))) (null1 nulls ++ (entries1 es ++ region)) h))

region_two : (rows : ℕ) (nulls : List Entry) (bs : List (List Entry)) (region : List ℕ) → Bytes (body2 rows nulls bs region) → Bytes region
region_two rows nulls bs region h =
    let last : List ℕ = blocks bs ++ region in
    let mid : List ℕ = directory 0 bs ++ (be 4 (length (blocks bs)) ++ last) in
    bytes-behind (blocks bs) region (bytes-behind (be 4 (length (blocks bs))) last (bytes-behind (directory 0 bs) (be 4 (length (blocks bs)) ++ last)
    (bytes-behind (be 4 (length bs)) mid (bytes-behind (null2 nulls) (be 4 (length bs) ++ mid)
    (bytes-behind (2 ∷ (be 4 rows ++ (be 4 (length (joined bs)) ++ (has_null_byte nulls ∷ [])))) (null2 nulls ++ (be 4 (length bs) ++ mid)) h)))))

pub region_is_bytes : RegionIsBytes
region_is_bytes t s d h (in_one rows nulls es region _ _ _ _ _ _ e c) = rw (ap (λ (x : Dictionary). x.region) e) (region_one rows nulls es region (subst Bytes c h))
region_is_bytes t s d h (in_two rows nulls bs region _ _ _ _ _ _ _ _ e c) = rw (ap (λ (x : Dictionary). x.region) e) (region_two rows nulls bs region (subst Bytes c h))
