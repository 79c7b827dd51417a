-- Laws of many rows: marked one after the other, asked about, and read off a field again.
use Prim.Native.Nat.{ℕ, zero, suc, ◌+◌, ◌-◌, ◌*◌, ◌/◌, ◌%◌, ◌<◌, ◌≤◌, min}
use mathlib.Core.Path.{◌≡◌, refl, sym, ap, ◌∙◌}
use mathlib.Core.Logic.{◌≢◌, ◌⊎◌, inl, inr}
use mathlib.Core.Bool.{Bool, true, false, ◌||◌, cond, or_assoc, or-false, or-true}
use mathlib.Core.List.{List, [], ◌∷◌, ◌++◌, append-nil}
use native.Mathlib.Nat.{zero-add, suc-add}
use native.Mathlib.Decide.{dec_le, dec_lt, ℕ_discrete}
use native.Mathlib.Omega.{arith}
use lib.ListN.{length, get_or, set, take, replicate, length-replicate, get_or-append}
use lib.Seq.{get_or-append-add, set-append_left, length-take-le, drop-length}
use borrow.Author.Tests.{eq-eqb, ne_eqb}
use lib.Dec.{eqb}
use borrow.Rule.Slice.PartMut.{mid_of, post_of, put_mid, put_same, mid_len, Post-is}
use Rattle.numbers.specs.Meaning.{All, Bytes}
use Rattle.row_field.specs.Meaning.{bit, mark, mark_all, any_set, above, Rising, Below, rows_from, rows_of, count}
use Rattle.row_field.specs.Promises.{any_seen}
use Rattle.row_field.proofs.Laws.{length-mark, bytes-mark, bit-mark-same, bit-mark-other, bit_out, mark_out, bit-zeros, bytes-zeros, field_ext}
use Rattle.row_field.proofs.RowLists.{rising_below, rows_from_rising}

-- ---- marking keeps the length and the bytes, and goes on where it stopped

pub length-mark_all : (f rs : List ℕ) → length (mark_all f rs) ≡ length f
unfolding mark_all
length-mark_all f [] = refl
length-mark_all f (r ∷ rs) = length-mark_all (mark f r) rs ∙ length-mark f r

pub bytes-mark_all : (f rs : List ℕ) → Bytes f → Bytes (mark_all f rs)
unfolding mark_all
bytes-mark_all f [] b = b
bytes-mark_all f (r ∷ rs) b = bytes-mark_all (mark f r) rs (bytes-mark f r b)

pub mark_all-append : (f xs ys : List ℕ) → mark_all f (xs ++ ys) ≡ mark_all (mark_all f xs) ys
unfolding mark_all
mark_all-append f [] ys = refl
mark_all-append f (x ∷ xs) ys = mark_all-append (mark f x) xs ys

pub any_seen-append : (f xs ys : List ℕ) → any_seen f (xs ++ ys) ≡ any_seen f xs || any_seen (mark_all f xs) ys
unfolding any_seen mark_all
any_seen-append f [] ys = refl
any_seen-append f (x ∷ xs) ys =
    rw (any_seen-append (mark f x) xs ys) (sym (or_assoc (bit f x) (any_seen (mark f x) xs) (any_seen (mark_all (mark f x) xs) ys)))

-- ---- rows in order: none is set by marking those before it

pub any_set-mark : (f : List ℕ) (r lo hi : ℕ) (rs : List ℕ) → r < lo → Rising lo hi rs → any_set (mark f r) rs ≡ any_set f rs
unfolding any_set
any_set-mark f r lo hi [] h s = refl
any_set-mark f r lo hi (q ∷ rs) h s =
    rw (bit-mark-other f r q (omega arith), any_set-mark f r (q + 1) hi rs (omega arith) s.2)

pub any_seen_rising : (f : List ℕ) (lo hi : ℕ) (rs : List ℕ) → Rising lo hi rs → any_seen f rs ≡ any_set f rs
unfolding any_seen any_set
any_seen_rising f lo hi [] s = refl
any_seen_rising f lo hi (r ∷ rs) s =
    rw (any_seen_rising (mark f r) (r + 1) hi rs s.2, any_set-mark f r (r + 1) hi rs (omega arith) s.2)

-- ---- rows past the field's end are not set, and change nothing

-- every row of rs is past the end of f
abbrev pub Past : List ℕ → List ℕ → Type 0
Past f rs = All (λ r. length f * 8 ≤ r) rs

pub rising_past : (f : List ℕ) (lo hi : ℕ) (rs : List ℕ) → length f * 8 ≤ lo → Rising lo hi rs → Past f rs
rising_past f lo hi [] h s = tt
rising_past f lo hi (r ∷ rs) h s = (omega arith, rising_past f (r + 1) hi rs (omega arith) s.2)

above-past : (f : List ℕ) (base : ℕ) (vs : List ℕ) → length f * 8 ≤ base → Past f (above base vs)
above-past f base [] h = tt
above-past f base (v ∷ vs) h = (omega arith, above-past f base vs h)

pub mark_all-past : (f rs : List ℕ) → Past f rs → mark_all f rs ≡ f
unfolding mark_all
mark_all-past f [] s = refl
mark_all-past f (r ∷ rs) s = ap (λ (g : List ℕ). mark_all g rs) (mark_out f r (omega arith)) ∙ mark_all-past f rs s.1

pub any_set-past : (f rs : List ℕ) → Past f rs → any_set f rs ≡ false
unfolding any_set
any_set-past f [] s = refl
any_set-past f (r ∷ rs) s = rw (bit_out f r (omega arith)) (any_set-past f rs s.1)

-- nor are they when their turn comes
pub any_seen-past : (f rs : List ℕ) → Past f rs → any_seen f rs ≡ false
unfolding any_seen
any_seen-past f [] s = refl
any_seen-past f (r ∷ rs) s = rw (bit_out f r (omega arith)) (ap (λ (g : List ℕ). any_seen g rs) (mark_out f r (omega arith)) ∙ any_seen-past f rs s.1)

-- ---- marking in a part of a field

set-append-add : (p ys : List ℕ) (i v : ℕ) → set (p ++ ys) (length p + i) v ≡ p ++ set ys i v
set-append-add [] ys i v = rw zero-add
set-append-add (a ∷ p) ys i v = rw (suc-add (length p) i) (ap (λ (l : List ℕ). a ∷ l) (set-append-add p ys i v))

-- x has k bytes, or nothing comes after it
abbrev pub AllOrLast : ℕ → List ℕ → List ℕ → Type 0
AllOrLast k x q = (length x ≡ k) ⊎ (q ≡ [])

still_so : (k : ℕ) (x q : List ℕ) (v : ℕ) → AllOrLast k x q → AllOrLast k (mark x v) q
still_so k x q v (inl e) = inl (length-mark x v ∙ e)
still_so k x q v (inr e) = inr e

-- a byte of the part
module _ (k : ℕ) (p x q : List ℕ) (i : ℕ) (s : i < k) where
  byte-part : AllOrLast k x q → get_or (p ++ (x ++ q)) (length p + i) 0 ≡ get_or x i 0
  byte-part (inl e) =
      let h : i < length x = omega arith in
      rw (get_or-append-add, get_or-append x q 0 i h)
  byte-part (inr e) = simp (e, append-nil, get_or-append-add)

  set-part : (v : ℕ) → AllOrLast k x q → set (p ++ (x ++ q)) (length p + i) v ≡ p ++ (set x i v ++ q)
  set-part v (inl e) =
      let h : i < length x = omega arith in
      rw (set-append-add, set-append_left x q i v h)
  set-part v (inr e) = simp (e, append-nil, set-append-add)

-- a row of the part
module _ (k : ℕ) (p x q : List ℕ) (v : ℕ) (s : v < k * 8) (w : AllOrLast k x q) where
  its_byte : (length p * 8 + v) / 8 ≡ length p + v / 8
  its_byte = omega arith

  its_bit : (length p * 8 + v) % 8 ≡ v % 8
  its_bit = omega arith

  bit-part : bit (p ++ (x ++ q)) (length p * 8 + v) ≡ bit x v
  unfolding bit
  bit-part = rw (its_byte, its_bit, byte-part k p x q (v / 8) (omega arith) w)

  mark-part : mark (p ++ (x ++ q)) (length p * 8 + v) ≡ p ++ (mark x v ++ q)
  unfolding mark
  mark-part = rw (its_byte, its_bit, byte-part k p x q (v / 8) (omega arith) w) (set-part k p x q (v / 8) (omega arith) _ w)

pub mark_all-part : (k : ℕ) (p x q vs : List ℕ) → Below (k * 8) vs → AllOrLast k x q → mark_all (p ++ (x ++ q)) (above (length p * 8) vs) ≡ p ++ (mark_all x vs ++ q)
unfolding mark_all
mark_all-part k p x q [] s w = refl
mark_all-part k p x q (v ∷ vs) s w =
    ap (λ (g : List ℕ). mark_all g (above (length p * 8) vs)) (mark-part k p x q v s.0 w)
    ∙ mark_all-part k p (mark x v) q vs s.1 (still_so k x q v w)

pub any_set-part : (k : ℕ) (p x q vs : List ℕ) → Below (k * 8) vs → AllOrLast k x q → any_set (p ++ (x ++ q)) (above (length p * 8) vs) ≡ any_set x vs
unfolding any_set
any_set-part k p x q [] s w = refl
any_set-part k p x q (v ∷ vs) s w = rw (bit-part k p x q v s.0 w, any_set-part k p x q vs s.1 w)

-- in no bytes every row is past the end
past-nil : (vs : List ℕ) → Past [] vs
past-nil [] = tt
past-nil (v ∷ vs) = (omega arith, past-nil vs)

-- the k bytes of a field from byte a on, as far as the field goes: they are lent, and come back
module _ (f vs : List ℕ) (a k from to : ℕ) (s : Below (k * 8) vs) (p : from ≡ min a (length f)) (q : to ≡ min (a + k) (length f)) where
  all-or_last : a ≤ length f → Dec (a + k ≤ length f) → AllOrLast k (mid_of a (to - a) f) (post_of a (to - a) f)
  all-or_last h (yes l) = inl (omega (arith, mid_len a to f (omega arith)))
  all-or_last h (no l) =
      let e : to ≡ length f = omega arith in
      inr (Post-is a to f (omega arith) ∙ rw e (drop-length f))

  part_go : Dec (a ≤ length f)
      → (mark_all f (above (a * 8) vs) ≡ put_mid from (to - from) f (mark_all (mid_of from (to - from) f) vs)) × (any_set f (above (a * 8) vs) ≡ any_set (mid_of from (to - from) f) vs)
  part_go (yes h) =
      let e : from ≡ a = omega arith in
      let l = length-take-le a f h in
      let g = put_same a (to - a) f in
      let w = all-or_last h (dec_le (a + k) (length f)) in
      let m = mark_all-part k (take a f) (mid_of a (to - a) f) (post_of a (to - a) f) vs s w in
      let n = any_set-part k (take a f) (mid_of a (to - a) f) (post_of a (to - a) f) vs s w in
      rw e (cc, cc)
  part_go (no h) =
      let z : to - from ≡ 0 = omega arith in
      let b = above-past f (a * 8) vs (omega arith) in
      let n = past-nil vs in
      rw z (mark_all-past f (above (a * 8) vs) b ∙ sym (rw (mark_all-past [] vs n) (put_same from 0 f)), any_set-past f (above (a * 8) vs) b ∙ sym (any_set-past [] vs n))

  pub part_marked : mark_all f (above (a * 8) vs) ≡ put_mid from (to - from) f (mark_all (mid_of from (to - from) f) vs)
  part_marked = (part_go (dec_le a (length f))).0

  pub part-set : any_set f (above (a * 8) vs) ≡ any_set (mid_of from (to - from) f) vs
  part-set = (part_go (dec_le a (length f))).1

-- ---- a field and its rows

-- whether r is one of the rows rs
unfoldable pub member : ℕ → List ℕ → Bool
member r [] = false
member r (q ∷ rs) = eqb r q || member r rs

member_here : (r : ℕ) (rs : List ℕ) → member r (r ∷ rs) ≡ true
unfolding member
member_here r rs = rw (eq-eqb r r refl)

member_there : (r q : ℕ) (rs : List ℕ) → r ≢ q → member r (q ∷ rs) ≡ member r rs
unfolding member
member_there r q rs n = rw (ne_eqb r q n)

pub member-append : (r : ℕ) (xs ys : List ℕ) → member r (xs ++ ys) ≡ member r xs || member r ys
unfolding member
member-append r [] ys = refl
member-append r (x ∷ xs) ys = rw (member-append r xs ys) (sym (or_assoc (eqb r x) (member r xs) (member r ys)))

-- a row before the first, or past the last, is none of them
pub member_before : (r lo hi : ℕ) (rs : List ℕ) → r < lo → Rising lo hi rs → member r rs ≡ false
unfolding member
member_before r lo hi [] h s = refl
member_before r lo hi (q ∷ rs) h s = rw (ne_eqb r q (omega arith)) (member_before r (q + 1) hi rs (omega arith) s.2)

pub member-past : (r n : ℕ) (rs : List ℕ) → n ≤ r → Below n rs → member r rs ≡ false
unfolding member
member-past r n [] h s = refl
member-past r n (q ∷ rs) h s = rw (ne_eqb r q (omega arith)) (member-past r n rs h s.1)

-- a row is set afterwards if it was, or is one of those marked
bit-mark_all_go : (f rs : List ℕ) (q r : ℕ) → r / 8 < length f → Dec (r ≡ q) → bit (mark f q) r || member r rs ≡ bit f r || (eqb r q || member r rs)
bit-mark_all_go f rs q r h (yes e) = rw (← e, bit-mark-same f r h, eq-eqb r r refl) (sym (or-true (bit f r)))
bit-mark_all_go f rs q r h (no n) = rw (bit-mark-other f q r n, ne_eqb r q n)

pub bit-mark_all : (f rs : List ℕ) (r : ℕ) → r / 8 < length f → bit (mark_all f rs) r ≡ bit f r || member r rs
unfolding mark_all member
bit-mark_all f [] r h = sym (or-false (bit f r))
bit-mark_all f (q ∷ rs) r h =
    bit-mark_all (mark f q) rs r (rw (length-mark f q) h) ∙ bit-mark_all_go f rs q r h (ℕ_discrete r q)

-- the rows read off a field are those that are set
pub member-cond_here : (b : Bool) (r : ℕ) (rs : List ℕ) → member r rs ≡ false → member r (cond b (r ∷ rs) rs) ≡ b
member-cond_here true r rs e = member_here r rs
member-cond_here false r rs e = e

pub member-cond_there : (b : Bool) (r q : ℕ) (rs : List ℕ) → r ≢ q → member r (cond b (q ∷ rs) rs) ≡ member r rs
member-cond_there true r q rs n = member_there r q rs n
member-cond_there false r q rs n = refl

member-rows_from_go : (f : List ℕ) (a k r : ℕ) → (a + 1 ≤ r → member r (rows_from f (a + 1) k) ≡ bit f r) → a ≤ r → Dec (r ≡ a)
    → member r (cond (bit f a) (a ∷ rows_from f (a + 1) k) (rows_from f (a + 1) k)) ≡ bit f r
member-rows_from_go f a k r i h (yes e) =
    rw e (member-cond_here (bit f a) a (rows_from f (a + 1) k) (member_before a (a + 1) (a + 1 + k) (rows_from f (a + 1) k) (omega arith) (rows_from_rising f (a + 1) (a + 1 + k) (a + 1) k (omega arith) (omega arith))))
member-rows_from_go f a k r i h (no n) =
    let l : a + 1 ≤ r = omega arith in
    member-cond_there (bit f a) r a (rows_from f (a + 1) k) n ∙ i l

pub member-rows_from_lem : (f : List ℕ) (a k r : ℕ) → a ≤ r → r < a + k → member r (rows_from f a k) ≡ bit f r
unfolding rows_from
member-rows_from_lem f a zero r h l = absurd (omega arith)
member-rows_from_lem f a (suc k) r h l =
    member-rows_from_go f a k r (λ g. member-rows_from_lem f (a + 1) k r g (omega arith)) h (ℕ_discrete r a)

-- a field that counts no row has none set
no_members : (r : ℕ) (rs : List ℕ) → length rs ≡ 0 → member r rs ≡ false
unfolding member
no_members r [] e = refl
no_members r (q ∷ rs) e = absurd (omega arith)

pub none-set : (f : List ℕ) (n : ℕ) → count f n ≡ 0 → (r : ℕ) → r < n → bit f r ≡ false
none-set f n e r h = sym (member-rows_from_lem f 0 n r (omega arith) (omega arith)) ∙ no_members r (rows_from f 0 n) e

rows_out_go : (f : List ℕ) (a k r : ℕ) → (a ≤ r → r < a + k → ⊥) → Dec (r < a) → member r (rows_from f a k) ≡ false
rows_out_go f a k r n (yes h) = member_before r a (a + k) (rows_from f a k) h (rows_from_rising f a (a + k) a k (omega arith) (omega arith))
rows_out_go f a k r n (no h) =
    let l : a + k ≤ r = elim (dec_lt r (a + k)) [ yes x ↦ absurd (n (omega arith) x) | no x ↦ omega arith ] in
    member-past r (a + k) (rows_from f a k) l (rising_below a (a + k) (rows_from f a k) (rows_from_rising f a (a + k) a k (omega arith) (omega arith)))

pub member_rows_from_out : (f : List ℕ) (a k r : ℕ) → (a ≤ r → r < a + k → ⊥) → member r (rows_from f a k) ≡ false
member_rows_from_out f a k r n = rows_out_go f a k r n (dec_lt r a)

member-rows_of_go : (f : List ℕ) (r : ℕ) → Dec (r < length f * 8) → member r (rows_of f) ≡ bit f r
member-rows_of_go f r (yes h) = member-rows_from_lem f 0 (length f * 8) r (omega arith) (omega arith)
member-rows_of_go f r (no h) = member_rows_from_out f 0 (length f * 8) r (λ _ l. h (omega arith)) ∙ sym (bit_out f r (omega arith))

pub member-rows_of : (f : List ℕ) (r : ℕ) → member r (rows_of f) ≡ bit f r
member-rows_of f r = member-rows_of_go f r (dec_lt r (length f * 8))

-- rows in order are read off a field that has exactly them among the k rows from a on
abbrev Exactly : List ℕ → ℕ → ℕ → List ℕ → Type 0
Exactly g a k rs = (r : ℕ) → a ≤ r → r < a + k → bit g r ≡ member r rs

exactly_next : (g : List ℕ) (a k : ℕ) (rs : List ℕ) → Exactly g a (suc k) rs → Exactly g (a + 1) k rs
exactly_next g a k rs j r h l = j r (omega arith) (omega arith)

rows_are_go : (g : List ℕ) (a k hi r : ℕ) (rs : List ℕ) → hi ≡ a + suc k
    → ((ts : List ℕ) → Rising (a + 1) hi ts → Exactly g (a + 1) k ts → rows_from g (a + 1) k ≡ ts)
    → Rising a hi (r ∷ rs) → Exactly g a (suc k) (r ∷ rs) → Dec (a ≡ r) → rows_from g a (suc k) ≡ r ∷ rs
unfolding rows_from
rows_are_go g a k hi r rs z i s j (yes e) =
    let t : bit g a ≡ true = j a (omega arith) (omega arith) ∙ rw e (member_here r rs) in
    let u : Rising (a + 1) hi rs = rw e s.2 in
    rw t (ap (λ (x : ℕ). x ∷ rows_from g (a + 1) k) e ∙ ap (λ (x : List ℕ). r ∷ x) (i rs u (λ q h l. j q (omega arith) (omega arith) ∙ member_there q r rs (omega arith))))
rows_are_go g a k hi r rs z i s j (no n) =
    let u : Rising (a + 1) hi (r ∷ rs) = (omega arith, s.1, s.2) in
    let t : bit g a ≡ false = j a (omega arith) (omega arith) ∙ member_before a (a + 1) hi (r ∷ rs) (omega arith) u in
    rw t (i (r ∷ rs) u (exactly_next g a k (r ∷ rs) j))

rows_are : (g : List ℕ) (a k hi : ℕ) (rs : List ℕ) → hi ≡ a + k → Rising a hi rs → Exactly g a k rs → rows_from g a k ≡ rs
unfolding rows_from member
rows_are g a zero hi [] e s j = refl
rows_are g a zero hi (r ∷ rs) e s j = absurd (omega arith)
rows_are g a (suc k) hi [] e s j = rw (j a (omega arith) (omega arith)) (rows_are g (a + 1) k hi [] (omega arith) tt (exactly_next g a k [] j))
rows_are g a (suc k) hi (r ∷ rs) e s j =
    rows_are_go g a k hi r rs e (λ ts. rows_are g (a + 1) k hi ts (omega arith)) s j (ℕ_discrete a r)

pub rows_of-field : (n : ℕ) (rs : List ℕ) → Rising 0 (n * 8) rs → rows_of (mark_all (replicate n 0) rs) ≡ rs
rows_of-field n rs s =
    let e : length (mark_all (replicate n 0) rs) ≡ n = length-mark_all (replicate n 0) rs ∙ length-replicate n 0 in
    rw e (rows_are (mark_all (replicate n 0) rs) 0 (n * 8) (n * 8) rs (omega arith) s (λ r h l. bit-mark_all (replicate n 0) rs r (rw length-replicate (omega arith)) ∙ rw (bit-zeros n r)))

pub field_of-rows : (f : List ℕ) → Bytes f → mark_all (replicate (length f) 0) (rows_of f) ≡ f
field_of-rows f b =
    let z : List ℕ = replicate (length f) 0 in
    let n : length z ≡ length f = length-replicate (length f) 0 in
    let e : length (mark_all z (rows_of f)) ≡ length f = length-mark_all z (rows_of f) ∙ n in
    field_ext (mark_all z (rows_of f)) f (bytes-mark_all z (rows_of f) (bytes-zeros (length f))) b e
    (λ r h. bit-mark_all z (rows_of f) r (omega arith) ∙ rw (bit-zeros (length f) r) (member-rows_of f r))
