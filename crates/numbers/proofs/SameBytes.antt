-- What `same` says: laws, and its steps at a position.
use Prim.Native.Nat.{ℕ, ◌+◌, ◌-◌, ◌≤◌}
use mathlib.Core.Path.{◌≡◌, refl, sym, ap, ap₂, ◌∙◌}
use mathlib.Core.Bool.{Bool, true, false}
use mathlib.Core.List.{List, [], ◌∷◌, ◌++◌}
use native.Mathlib.Decide.{ℕ_discrete}
use native.Mathlib.Omega.{arith}
use lib.Dec.{eqb}
use lib.ListN.{length, drop, length-drop, drop_of_length-le}
use lib.Seq.{drop-drop}
use Rattle.std.specs.Cmp.Lexicographic.{pointwise}
use borrow.Author.Tests.{eq-eqb, ne_eqb, eqb-true}
use Rattle.numbers.proofs.Booleans.{and_both}
use Rattle.numbers.proofs.ByteLists.{bytes_drop}
use Rattle.numbers.proofs.Laws.{number_at-drop, number_at_back}
use Rattle.numbers.specs.Meaning.{Bytes, same, le_at, le, little}

eqb_same : (x : ℕ) → eqb x x ≡ true
eqb_same x = eq-eqb x x refl

pub same_refl : (v : List ℕ) → same v v ≡ true
unfolding same
same_refl [] = refl
same_refl (x ∷ xs) = rw (eqb_same x) (same_refl xs)

pub same→eq : (v w : List ℕ) → same v w ≡ true → v ≡ w
unfolding same
same→eq [] [] e = refl
same→eq [] (y ∷ ys) e = cc
same→eq (x ∷ xs) [] e = cc
same→eq (x ∷ xs) (y ∷ ys) e =
    let h = and_both (eqb x y) (same xs ys) e in
    ap₂ (λ (z : ℕ) (zs : List ℕ). z ∷ zs) (eqb-true x y h.0) (same→eq xs ys h.1)

eqb-sym : (x y : ℕ) → Dec (x ≡ y) → eqb x y ≡ eqb y x
eqb-sym x y (yes e) = rw e
eqb-sym x y (no n) = ne_eqb x y n ∙ sym (ne_eqb y x (λ e. n (sym e)))

pub same-sym : (v w : List ℕ) → same v w ≡ same w v
unfolding same
same-sym [] [] = refl
same-sym [] (y ∷ ys) = refl
same-sym (x ∷ xs) [] = refl
same-sym (x ∷ xs) (y ∷ ys) = rw (eqb-sym x y (ℕ_discrete x y), same-sym xs ys)

-- what `==` of slices answers
pub same-pointwise : (v w : List ℕ) → pointwise eqb v w ≡ same v w
unfolding same
same-pointwise [] [] = refl
same-pointwise [] (y ∷ ys) = refl
same-pointwise (x ∷ xs) [] = refl
same-pointwise (x ∷ xs) (y ∷ ys) = rw (same-pointwise xs ys)

-- ---- from position i on

module _ (a b : List ℕ) where
  pub same_done : (i : ℕ) → length a ≤ i → length b ≤ i → same (drop i a) (drop i b) ≡ true
  unfolding same
  same_done i h g = rw (drop_of_length-le a h, drop_of_length-le b g)

  not_same : (a ≡ b → ⊥) → same a b ≡ false
  not_same n = by (same a b) refl
    where
      by : (x : Bool) → same a b ≡ x → x ≡ false
      by true e = absurd (n (same→eq a b e))
      by false e = refl

  pub same-other : (length a ≡ length b → ⊥) → same a b ≡ false
  same-other n = not_same (λ e. n (ap length e))

-- ---- by words of w bytes

same-front : (x s t : List ℕ) → same (x ++ s) (x ++ t) ≡ same s t
unfolding same
same-front [] s t = refl
same-front (y ∷ x) s t = rw (eqb_same y) (same-front x s t)

pub word_back : (w i : ℕ) (s : List ℕ) → Bytes s → i + w ≤ length s → drop i s ≡ le w (le_at w s i) ++ drop (i + w) s
word_back w i s h l =
    let g : w ≤ length (drop i s) = simp length-drop (omega arith) in
    let e = number_at_back little w (drop i s) (bytes_drop i s h) g in
    rw (number_at-drop little w s i, drop-drop w i s) at e

module _ (w : ℕ) (a b : List ℕ) where
  pub word_other : (i : ℕ) → (le_at w a i ≡ le_at w b i → ⊥) → same a b ≡ false
  word_other i n = not_same a b (λ e. n (ap (λ (s : List ℕ). le_at w s i) e))

  module _ (p : Bytes a) (q : Bytes b) (l : length a ≡ length b) where
    pub word_next : (i : ℕ) → i + w ≤ length a → le_at w a i ≡ le_at w b i → same (drop i a) (drop i b) ≡ same (drop (i + w) a) (drop (i + w) b)
    word_next i h e =
        let g : i + w ≤ length b = omega arith in
        rw (word_back w i a p h, word_back w i b q g, e) (same-front (le w (le_at w b i)) (drop (i + w) a) (drop (i + w) b))

    -- the last word decides, from wherever in it the bytes are not yet compared
    pub word_last : (last i : ℕ) → last + w ≡ length a → last ≤ i → same (drop i a) (drop i b) ≡ same a b → eqb (le_at w a last) (le_at w b last) ≡ same a b
    word_last last i h g k = by (ℕ_discrete (le_at w a last) (le_at w b last))
      where
        by : Dec (le_at w a last ≡ le_at w b last) → eqb (le_at w a last) (le_at w b last) ≡ same a b
        by (yes e) =
            let t : same (drop last a) (drop last b) ≡ true = word_next last (omega arith) e ∙ same_done a b (last + w) (omega arith) (omega arith) in
            let d : drop last a ≡ drop last b = same→eq (drop last a) (drop last b) t in
            let j : last + (i - last) ≡ i = omega arith in
            let f : drop i a ≡ drop i b = rw j at (rw (drop-drop (i - last) last a, drop-drop (i - last) last b) at (ap (λ (s : List ℕ). drop (i - last) s) d)) in
            eq-eqb (le_at w a last) (le_at w b last) e ∙ sym (same_refl (drop i b)) ∙ ap (λ (s : List ℕ). same s (drop i b)) (sym f) ∙ k
        by (no n) = ne_eqb (le_at w a last) (le_at w b last) n ∙ sym (word_other last n)
