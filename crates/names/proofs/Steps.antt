-- A code point's modified form, and whether it stands at a position of the bytes.
use Prim.Native.Nat.{ℕ, suc, ◌+◌, ◌<◌, ◌≤◌}
use mathlib.Core.Path.{◌≡◌, refl, sym, ap, ◌∙◌}
use mathlib.Core.Bool.{Bool, ◌&&◌, and-true, and_assoc}
use mathlib.Core.List.{List, [], ◌∷◌, ◌++◌}
use native.Mathlib.Numerals.{add-one}
use native.Mathlib.Omega.{arith}
use lib.Dec.{eqb}
use lib.ListN.{length, take, drop, get_or}
use lib.Seq.{drop-cons, drop-drop}
use borrow.Author.Tests.{lt-ltb, le-ltb, eq-eqb, ne_eqb}
use Rattle.numbers.specs.Meaning.{same, position}
use Rattle.numbers.specs.declared.Position.{Position}
use Rattle.names.specs.Layout.{past_plane, in_two_bytes, in_three_bytes, standard_of, high_of, low_of, modified_of}
use Rattle.names.specs.Promises.{form_stands_at}

cons_at : (s : List ℕ) (p : ℕ) → p < length s → drop p s ≡ get_or s p 0 ∷ drop (p + 1) s
cons_at s p h = rw add-one (drop-cons s p 0 h)

-- ---- a code point's modified form by its value

pub modified-zero : (v : ℕ) → v ≡ 0 → modified_of v ≡ in_two_bytes v
unfolding modified_of
modified-zero v e = simp (eq-eqb v 0 e)

pub as_standard : (v : ℕ) → (v ≡ 0 → ⊥) → v < past_plane → modified_of v ≡ standard_of v
unfolding modified_of
as_standard v n h = simp (ne_eqb v 0 n, lt-ltb v past_plane h)

pub modified_pair : (v : ℕ) → (v ≡ 0 → ⊥) → past_plane ≤ v → modified_of v ≡ in_three_bytes (high_of v) ++ in_three_bytes (low_of v)
unfolding modified_of
modified_pair v n l = simp (ne_eqb v 0 n, le-ltb v past_plane l)

-- ---- a form at a position

-- a form whose front and rest are told apart
stands_front : (x y l : List ℕ) → same (take (length (x ++ y)) l) (x ++ y) ≡ same (take (length x) l) x && same (take (length y) (drop (length x) l)) y
unfolding same
stands_front [] y l = refl
stands_front (b ∷ x) y [] = refl
stands_front (b ∷ x) y (a ∷ l) = rw (stands_front x y l) (sym (and_assoc (eqb a b) (same (take (length x) l) x) (same (take (length y) (drop (length x) l)) y)))

pub stands_both : (x y : List ℕ) (at : Position) (s : List ℕ) → form_stands_at (x ++ y) at s ≡ form_stands_at x at s && form_stands_at y (position (at.0 + length x)) s
stands_both x y at s = stands_front x y (drop at.0 s) ∙ rw (drop-drop (length x) at.0 s)

module _ (b : ℕ) (x : List ℕ) (at : Position) (s : List ℕ) (h : at.0 < length s) where
  -- its first byte, and the others
  stands_cons : form_stands_at (b ∷ x) at s ≡ eqb (get_or s at.0 0) b && form_stands_at x (position (at.0 + 1)) s
  unfolding same
  stands_cons = ap (λ (l : List ℕ). same (take (suc (length x)) l) (b ∷ x)) (cons_at s at.0 h)

-- the forms of one byte, of two, of three, and of two times three, by their bytes
pub stands_one : (b : ℕ) (at : Position) (s : List ℕ) → at.0 + 1 ≤ length s → form_stands_at (b ∷ []) at s ≡ eqb (get_or s at.0 0) b
unfolding same
stands_one b at s h = stands_cons b [] at s (omega arith) ∙ and-true (eqb (get_or s at.0 0) b)

pub stands_two : (a b : ℕ) (at : Position) (s : List ℕ) → at.0 + 2 ≤ length s
    → form_stands_at (a ∷ b ∷ []) at s ≡ eqb (get_or s at.0 0) a && eqb (get_or s (at.0 + 1) 0) b
stands_two a b at s h =
    stands_cons a (b ∷ []) at s (omega arith)
    ∙ ap (λ (t : Bool). eqb (get_or s at.0 0) a && t) (stands_one b (position (at.0 + 1)) s (omega arith))

pub stands_three : (a b c : ℕ) (at : Position) (s : List ℕ) → at.0 + 3 ≤ length s
    → form_stands_at (a ∷ b ∷ c ∷ []) at s ≡ eqb (get_or s at.0 0) a && (eqb (get_or s (at.0 + 1) 0) b && eqb (get_or s (at.0 + 2) 0) c)
stands_three a b c at s h =
    let e : at.0 + 1 + 1 ≡ at.0 + 2 = omega arith in
    stands_cons a (b ∷ c ∷ []) at s (omega arith)
    ∙ ap (λ (t : Bool). eqb (get_or s at.0 0) a && t) (stands_two b c (position (at.0 + 1)) s (omega arith) ∙ rw e)

pub stands_pair : (c : ℕ) (at : Position) (s : List ℕ)
    → form_stands_at (in_three_bytes (high_of c) ++ in_three_bytes (low_of c)) at s
    ≡ form_stands_at (in_three_bytes (high_of c)) at s && form_stands_at (in_three_bytes (low_of c)) (position (at.0 + 3)) s
stands_pair c at s = stands_both (in_three_bytes (high_of c)) (in_three_bytes (low_of c)) at s
