-- Laws of numbers of w bytes, each proved once over the width, and where both byte orders have it, over the order.
use Prim.Native.Nat.{ℕ, zero, suc, ◌+◌, ◌-◌, ◌*◌, ◌/◌, ◌%◌, ◌^◌, ◌<◌, ◌≤◌}
use mathlib.Core.Path.{◌≡◌, refl, sym, ap, ◌∙◌, subst}
use mathlib.Core.Bool.{Bool, true, false, cond}
use mathlib.Core.List.{List, [], ◌∷◌, ◌++◌, append_assoc}
use native.Mathlib.Nat.{pow-suc, mul-le-mul_left, mul_assoc, mul_comm, zero-add, add-zero, add-suc}
use native.Mathlib.Omega.{arith}
use lib.Dec.{T, leb, leb→le}
use lib.ListN.{length, get_or, drop, length-append, length-drop}
use lib.Seq.{get_or-append_seam, get_or-drop, drop_at, drop-cons, drop-drop}
use borrow.Author.Tests.{le-leb, lt-leb}
use Rattle.numbers.proofs.ByteLists.{bytes_drop}
use Rattle.numbers.specs.Meaning.{Bytes, be_at, le_at, be, le, Order, big, little, number_at, number}

-- the bytes that spell a number, in either order
abbrev pub spelled : Order → ℕ → ℕ → List ℕ
spelled big w v = be w v
spelled little w v = le w v

-- ---- a number of w bytes is below 256 ^ w

pub be_at-lt : (w : ℕ) (s : List ℕ) (at : ℕ) → Bytes s → be_at w s at < 256 ^ w
be_at-lt zero s at h = omega arith
be_at-lt (suc w) s at h = rw pow-suc (omega (arith, be_at-lt w s at h, h (at + w)))

pub le_at-lt : (w : ℕ) (s : List ℕ) (at : ℕ) → Bytes s → le_at w s at < 256 ^ w
le_at-lt zero s at h = omega arith
le_at-lt (suc w) s at h =
    let b : get_or s (at + w) 0 ≤ 255 = omega (arith, h (at + w)) in
    rw pow-suc (omega (arith, le_at-lt w s at h, mul-le-mul_left (256 ^ w) b))

pub number_at-lt : (o : Order) (w : ℕ) (s : List ℕ) (at : ℕ) → Bytes s → number_at o w s at < 256 ^ w
number_at-lt big w s at h = be_at-lt w s at h
number_at-lt little w s at h = le_at-lt w s at h

-- ---- a number further on is one of what is left

be-drop : (w : ℕ) (s : List ℕ) (p : ℕ) → be_at w (drop p s) 0 ≡ be_at w s p
be-drop zero s p = refl
be-drop (suc w) s p = simp (be-drop w s p, zero-add, get_or-drop)

le-drop : (w : ℕ) (s : List ℕ) (p : ℕ) → le_at w (drop p s) 0 ≡ le_at w s p
le-drop zero s p = refl
le-drop (suc w) s p = simp (le-drop w s p, zero-add, get_or-drop)

pub number_at-drop : (o : Order) (w : ℕ) (s : List ℕ) (p : ℕ) → number_at o w (drop p s) 0 ≡ number_at o w s p
number_at-drop big w s p = be-drop w s p
number_at-drop little w s p = le-drop w s p

-- ---- a big-endian number, by its upper v bytes and its lower w

pub be_at_split : (v w : ℕ) (s : List ℕ) (p : ℕ) → be_at (v + w) s p ≡ be_at v s p * 256 ^ w + be_at w s (p + v)
be_at_split v zero s p = rw (add-zero v) (omega arith)
be_at_split v (suc w) s p =
    let e : p + (v + w) ≡ p + v + w = omega arith in
    rw (add-suc v w, pow-suc, be_at_split v w s p, e) (omega arith)

-- ---- the bytes that spell a number are read as it

length-be : (w v : ℕ) → length (be w v) ≡ w
length-be zero v = refl
length-be (suc w) v = length-append (be w (v / 256)) (v % 256 ∷ []) ∙ omega (arith, length-be w (v / 256))

length-le : (w v : ℕ) → length (le w v) ≡ w
length-le zero v = refl
length-le (suc w) v = ap suc (length-le w (v / 256))

pub length-spelled : (o : Order) (w v : ℕ) → length (spelled o w v) ≡ w
length-spelled big w v = length-be w v
length-spelled little w v = length-le w v

be_laid : (w v : ℕ) (t : List ℕ) → v < 256 ^ w → be_at w (be w v ++ t) 0 ≡ v
be_laid zero v t h = omega arith
be_laid (suc w) v t h =
    let g = rw pow-suc at h in
    let q : v / 256 < 256 ^ w = omega arith in
    let e : 0 + w ≡ length (be w (v / 256)) = omega (arith, length-be w (v / 256)) in
    let x : get_or (be w (v / 256) ++ (v % 256 ∷ t)) (0 + w) 0 ≡ v % 256 = rw e (get_or-append_seam (be w (v / 256)) (v % 256) t 0) in
    simp (append_assoc, be_laid w (v / 256) (v % 256 ∷ t) q, x) (omega arith)

-- one byte more at the front
le-cons : (w b : ℕ) (s : List ℕ) → le_at (suc w) (b ∷ s) 0 ≡ b + 256 * le_at w s 0
le-cons zero b s = omega arith
le-cons (suc w) b s =
    let e : 256 ^ suc w * get_or s (0 + w) 0 ≡ 256 * (256 ^ w * get_or s (0 + w) 0) = rw (pow-suc, mul_comm (256 ^ w) 256) (mul_assoc 256 (256 ^ w) (get_or s (0 + w) 0)) in
    let z : get_or (b ∷ s) (0 + suc w) 0 ≡ get_or s (0 + w) 0 = simp zero-add in
    rw (le-cons w b s, z, e) (omega arith)

le_laid : (w v : ℕ) (t : List ℕ) → v < 256 ^ w → le_at w (le w v ++ t) 0 ≡ v
le_laid zero v t h = omega arith
le_laid (suc w) v t h =
    let g = rw pow-suc at h in
    let q : v / 256 < 256 ^ w = omega arith in
    le-cons w (v % 256) (le w (v / 256) ++ t) ∙ rw (le_laid w (v / 256) t q) (omega arith)

pub number_at_laid : (o : Order) (w v : ℕ) (t : List ℕ) → v < 256 ^ w → number_at o w (spelled o w v ++ t) 0 ≡ v
number_at_laid big w v t h = be_laid w v t h
number_at_laid little w v t h = le_laid w v t h

-- ---- and any bytes spell the number that they are read as

be_back : (w : ℕ) (s : List ℕ) → Bytes s → w ≤ length s → s ≡ be w (be_at w s 0) ++ drop w s
be_back zero s h l = refl
be_back (suc w) s h l =
    let b : ℕ = get_or s (0 + w) 0 in
    let p : b < 256 = h (0 + w) in
    let x : (be_at w s 0 * 256 + b) / 256 ≡ be_at w s 0 = omega arith in
    let y : (be_at w s 0 * 256 + b) % 256 ≡ b = omega arith in
    let z : drop w s ≡ b ∷ drop (suc w) s = drop-cons s w 0 l ∙ simp zero-add in
    be_back w s h (omega arith) ∙ ap (λ (r : List ℕ). be w (be_at w s 0) ++ r) z ∙ simp (x, y, append_assoc)

le_back : (w : ℕ) (s : List ℕ) → Bytes s → w ≤ length s → s ≡ le w (le_at w s 0) ++ drop w s
le_back zero s h l = refl
le_back (suc w) [] h l = absurd (omega arith)
le_back (suc w) (b ∷ s) h l =
    let n : ℕ = le_at w s 0 in
    let p : b < 256 = h 0 in
    let x : (b + 256 * n) % 256 ≡ b = omega arith in
    let y : (b + 256 * n) / 256 ≡ n = omega arith in
    rw (le-cons w b s, x, y) (ap (λ (r : List ℕ). b ∷ r) (le_back w s (λ i. h (suc i)) (omega arith)))

pub number_at_back : (o : Order) (w : ℕ) (s : List ℕ) → Bytes s → w ≤ length s → s ≡ spelled o w (number_at o w s 0) ++ drop w s
number_at_back big w s h l = be_back w s h l
number_at_back little w s h l = le_back w s h l

-- ---- reading a number off the front

module _ {A : Type 0} (o : Order) (w : ℕ) (short : A) where
  -- what was laid out
  pub number_laid : (v : ℕ) (t : List ℕ) (k : ℕ → List ℕ → A) → v < 256 ^ w → number o w short (spelled o w v ++ t) k ≡ k v t
  unfolding number
  number_laid v t k h =
      let l : w ≤ length (spelled o w v ++ t) = simp (length-append, length-spelled) (omega arith) in
      rw (le-leb w (length (spelled o w v ++ t)) l, number_at_laid o w v t h, drop_at (spelled o w v) t w (length-spelled o w v))

  -- at a position
  pub number_at_lem : (s : List ℕ) (p : ℕ) (k : ℕ → List ℕ → A) → p + w ≤ length s → number o w short (drop p s) k ≡ k (number_at o w s p) (drop (p + w) s)
  unfolding number
  number_at_lem s p k h =
      let l : w ≤ length (drop p s) = simp length-drop (omega arith) in
      rw (le-leb w (length (drop p s)) l, number_at-drop o w s p, drop-drop w p s)

  pub number_short : (s : List ℕ) (p : ℕ) (k : ℕ → List ℕ → A) → length s - p < w → number o w short (drop p s) k ≡ short
  unfolding number
  number_short s p k h =
      let l : length (drop p s) < w = simp length-drop h in
      rw (lt-leb w (length (drop p s)) l)

  -- taken apart: what holds of each number's bytes holds of bytes whose reading is good, where `short` is not
  pub on_number : (Good : A → Type 0) (P : List ℕ → Type 0) (s : List ℕ) (k : ℕ → List ℕ → A) → (Good short → ⊥) → Bytes s → Good (number o w short s k)
      → ((v : ℕ) (t : List ℕ) → v < 256 ^ w → Bytes t → Good (k v t) → P (spelled o w v ++ t)) → P s
  unfolding number
  on_number Good P s k bad h g f = go (leb w (length s)) refl g
    where
      go : (b : Bool) → leb w (length s) ≡ b → Good (cond b (k (number_at o w s 0) (drop w s)) short) → P s
      go true e g =
          let l : w ≤ length s = leb→le w (length s) (subst T (sym e) tt) in
          rw (← number_at_back o w s h l) at (f (number_at o w s 0) (drop w s) (number_at-lt o w s 0 h) (bytes_drop w s h) g)
      go false e g = absurd (bad g)
