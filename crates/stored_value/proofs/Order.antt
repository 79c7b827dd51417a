-- The order of values is strict: no value is less than itself, and what is less than a lesser one is less.
use mathlib.Core.Path.{◌≡◌, refl, ◌∙◌}
use mathlib.Core.Logic.{◌⊎◌, ⊎_elim, inl, inr}
use Prim.Native.Nat.{ℕ, ◌<◌}
use native.Mathlib.Omega.{arith}
use mathlib.Core.Bool.{Bool, true, false, ◌&&◌, ◌||◌, cond}
use mathlib.Core.List.{List, [], ◌∷◌}
use lib.ListN.{drop}
use lib.Dec.{eqb, ltb}
use lib.IntN.{ℤ, pos, negsuc}
use lib.Signed.{lt_z}
use borrow.Author.Tests.{ltb-true, eqb-true, lt-ltb, le-ltb, eq-eqb}
use Rattle.numbers.specs.Meaning.{same}
use Rattle.stored_value.specs.Meaning.{types, width, is_string, signed_number, is_less_bytewise, less}
use Rattle.numbers.proofs.Booleans.{and_both}
use Rattle.numbers.proofs.SameBytes.{same→eq}

or_cases : (a b : Bool) → (a || b) ≡ true → (a ≡ true) ⊎ (b ≡ true)
or_cases true b e = inl refl
or_cases false b e = inr e

-- ---- bytes

bytes-not_self : (v : List ℕ) → is_less_bytewise v v ≡ false
unfolding is_less_bytewise
bytes-not_self [] = refl
bytes-not_self (x ∷ xs) = rw (le-ltb x x (omega arith), eq-eqb x x refl) (bytes-not_self xs)

bytes_cases : (x y : ℕ) (xs ys : List ℕ) → is_less_bytewise (x ∷ xs) (y ∷ ys) ≡ true → (x < y) ⊎ ((x ≡ y) × (is_less_bytewise xs ys ≡ true))
unfolding is_less_bytewise
bytes_cases x y xs ys e =
    ⊎_elim (λ l. inl (ltb-true x y l)) (λ r. let b = and_both (eqb x y) (is_less_bytewise xs ys) r in inr (eqb-true x y b.0, b.1))
    (or_cases (ltb x y) (eqb x y && is_less_bytewise xs ys) e)

bytes-first : (x y : ℕ) (xs ys : List ℕ) → x < y → is_less_bytewise (x ∷ xs) (y ∷ ys) ≡ true
unfolding is_less_bytewise
bytes-first x y xs ys h = rw (lt-ltb x y h)

bytes_rest : (x y : ℕ) (xs ys : List ℕ) → x ≡ y → is_less_bytewise xs ys ≡ true → is_less_bytewise (x ∷ xs) (y ∷ ys) ≡ true
unfolding is_less_bytewise
bytes_rest x y xs ys h r = rw (le-ltb x y (omega arith), eq-eqb x y h, r)

bytes_trans : (u v w : List ℕ) → is_less_bytewise u v ≡ true → is_less_bytewise v w ≡ true → is_less_bytewise u w ≡ true
unfolding is_less_bytewise
bytes_trans [] [] w e f = f
bytes_trans [] (y ∷ ys) [] e f = f
bytes_trans [] (y ∷ ys) (z ∷ zs) e f = refl
bytes_trans (x ∷ xs) [] w e f = cc
bytes_trans (x ∷ xs) (y ∷ ys) [] e f = f
bytes_trans (x ∷ xs) (y ∷ ys) (z ∷ zs) e f =
    let step = bytes_trans xs ys zs in
    ⊎_elim
    (λ l. ⊎_elim (λ l'. bytes-first x z xs zs (omega arith)) (λ r. bytes-first x z xs zs (omega (arith, r.0))) (bytes_cases y z ys zs f))
    (λ r. ⊎_elim (λ l. bytes-first x z xs zs (omega (arith, r.0))) (λ r'. bytes_rest x z xs zs (r.0 ∙ r'.0) (step r.1 r'.1)) (bytes_cases y z ys zs f))
    (bytes_cases x y xs ys e)

-- ---- signed numbers

not-below : (a : ℤ) → lt_z a a ≡ false
not-below (pos a) = le-ltb a a (omega arith)
not-below (negsuc a) = le-ltb a a (omega arith)

below_trans : (a b c : ℤ) → lt_z a b ≡ true → lt_z b c ≡ true → lt_z a c ≡ true
below_trans (pos a) (pos b) (pos c) e f = lt-ltb a c (omega (arith, ltb-true a b e, ltb-true b c f))
below_trans (pos a) (pos b) (negsuc c) e f = f
below_trans (pos a) (negsuc b) c e f = cc
below_trans (negsuc a) b (pos c) e f = refl
below_trans (negsuc a) (pos b) (negsuc c) e f = cc
below_trans (negsuc a) (negsuc b) (negsuc c) e f = lt-ltb c a (omega (arith, ltb-true b a e, ltb-true c b f))

-- ---- values

pub less-not_self : (t : ℕ) (v : List ℕ) → less t v v ≡ false
unfolding less
less-not_self t v = go (ltb t types) (is_string t)
  where
    go : (k b : Bool) → k && cond b (is_less_bytewise (drop 4 v) (drop 4 v)) (lt_z (signed_number (width t) v) (signed_number (width t) v)) ≡ false
    go false b = refl
    go true true = bytes-not_self (drop 4 v)
    go true false = not-below (signed_number (width t) v)

pub less_trans : (t : ℕ) (u v w : List ℕ) → less t u v ≡ true → less t v w ≡ true → less t u w ≡ true
unfolding less
less_trans t u v w = go (ltb t types) (is_string t)
  where
    go : (k b : Bool) → k && cond b (is_less_bytewise (drop 4 u) (drop 4 v)) (lt_z (signed_number (width t) u) (signed_number (width t) v)) ≡ true
        → k && cond b (is_less_bytewise (drop 4 v) (drop 4 w)) (lt_z (signed_number (width t) v) (signed_number (width t) w)) ≡ true
        → k && cond b (is_less_bytewise (drop 4 u) (drop 4 w)) (lt_z (signed_number (width t) u) (signed_number (width t) w)) ≡ true
    go false b e f = e
    go true true e f = bytes_trans (drop 4 u) (drop 4 v) (drop 4 w) e f
    go true false e f = below_trans (signed_number (width t) u) (signed_number (width t) v) (signed_number (width t) w) e f

-- a value is not the one that it is less than
pub less_differs : (t : ℕ) (v w : List ℕ) → less t v w ≡ true → same v w ≡ false
less_differs t v w e = go (same v w) refl
  where
    go : (b : Bool) → same v w ≡ b → same v w ≡ false
    go false p = p
    go true p = let q : v ≡ w = same→eq v w p in let x = rw q at e in cc (less-not_self t w)
