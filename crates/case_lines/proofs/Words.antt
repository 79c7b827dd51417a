-- Laws of lines, words and numbers.
use Rattle.std.proofs.Common.{◌≡◌, ℕ, suc, ◌+◌, ◌-◌, ◌<◌, ◌≤◌, Bool, true, false, cond, not, nat_lt, Some, None, List, [], ◌∷◌, ◌==◌, length, take, drop, sym, refl, ap, ◌∙◌, add-one, arith, length-drop, take_all, drop_of_length-le, position}
use Rattle.std.specs.List.{position_or_len}
use Rattle.std.proofs.lemmas.Bool.Decides.{nat_tests}
use Rattle.case_lines.specs.Promises.{until, beyond, begun, lines_of, line_from_word}

-- all that stands behind the first i
part-behind : (s : List ℕ) (i : ℕ) → take (length s - i) (drop i s) ≡ drop i s
part-behind s i = take_all (length s - i) (drop i s) (simp length-drop (omega arith))

-- what stands before and behind the first `stop`, by its place
module _ (stop : ℕ) where
  abbrev place : List ℕ → ℕ
  place s = position_or_len (λ b. b == stop) s

  until_is : (s : List ℕ) → until stop s ≡ take (place s) s
  unfolding until
  until_is [] = refl
  until_is (b ∷ s) = at (b == stop) (until_is s)
    where
      at : (t : Bool) → until stop s ≡ take (place s) s → cond t [] (b ∷ until stop s) ≡ take (cond (not t) (1 + place s) 0) (b ∷ s)
      at true h = refl
      at false h = let e : 1 + place s ≡ suc (place s) = omega arith in rw e (ap (λ (l : List ℕ). b ∷ l) h)

  beyond_is : (s : List ℕ) → beyond stop s ≡ drop (place s + 1) s
  unfolding beyond
  beyond_is [] = refl
  beyond_is (b ∷ s) = rw add-one (at (b == stop) (beyond_is s))
    where
      at : (t : Bool) → beyond stop s ≡ drop (place s + 1) s → cond t s (beyond stop s) ≡ drop (cond (not t) (1 + place s) 0) s
      at true h = refl
      at false h = let e : 1 + place s ≡ place s + 1 = omega arith in rw e h

  place-within : (s : List ℕ) → place s ≤ length s
  place-within [] = omega arith
  place-within (b ∷ s) = at (b == stop) (place-within s)
    where
      at : (t : Bool) → place s ≤ length s → cond (not t) (1 + place s) 0 ≤ suc (length s)
      at true h = omega arith
      at false h = omega (arith, h)

  pub record Found (s : List ℕ) (at : ℕ) : Type 0 where
    pub within : at < length s
    pub before : take at s ≡ until stop s
    pub behind : take (length s - (at + 1)) (drop (at + 1) s) ≡ beyond stop s

  pub found : (s : List ℕ) (at : ℕ) → position (λ b. b == stop) s ≡ Some at → Found s at
  found s at = which (nat_lt (place s) (length s)) refl
    where
      which : (t : Bool) → nat_lt (place s) (length s) ≡ t → cond t (Some (place s)) None ≡ Some at → Found s at
      which true e h =
          let i : place s ≡ at = cc in
          let w : place s < length s = grind (arith, nat_tests) in
          let before : take (place s) s ≡ until stop s = sym (until_is s) in
          let behind : drop (place s + 1) s ≡ beyond stop s = sym (beyond_is s) in
          record { within = omega arith; before = rw i at before; behind = part-behind s (at + 1) ∙ (rw i at behind) }
      which false e h = grind arith

  pub missing : (s : List ℕ) → position (λ b. b == stop) s ≡ None → (s ≡ until stop s) × ([] ≡ beyond stop s)
  missing s = which (nat_lt (place s) (length s)) refl
    where
      which : (t : Bool) → nat_lt (place s) (length s) ≡ t → cond t (Some (place s)) None ≡ None → (s ≡ until stop s) × ([] ≡ beyond stop s)
      which true e h = grind arith
      which false e h =
          let w : length s ≤ place s = grind (arith, nat_tests) in
          (sym (take_all (place s) s w) ∙ sym (until_is s), sym (drop_of_length-le s (omega arith)) ∙ sym (beyond_is s))

-- the first line, and those behind it
pub lines_next : (b : ℕ) (s : List ℕ) → lines_of (b ∷ s) ≡ until 10 (b ∷ s) ∷ lines_of (beyond 10 (b ∷ s))
unfolding lines_of until beyond begun
lines_next b [] = at (b == 10)
  where
    at : (t : Bool) → cond t ([] ∷ []) ((b ∷ []) ∷ []) ≡ cond t [] (b ∷ []) ∷ lines_of (cond t [] [])
    at true = refl
    at false = refl
lines_next b (d ∷ s) = at (b == 10) (lines_next d s)
  where
    rest : List ℕ
    rest = d ∷ s

    at : (t : Bool) → lines_of rest ≡ until 10 rest ∷ lines_of (beyond 10 rest) → cond t ([] ∷ lines_of rest) (begun b (lines_of rest)) ≡ cond t [] (b ∷ until 10 rest) ∷ lines_of (cond t rest (beyond 10 rest))
    at true h = refl
    at false h = rw h refl

pub lines_of_some : (s : List ℕ) → 0 < length s → lines_of s ≡ until 10 s ∷ lines_of (beyond 10 s)
lines_of_some [] h = absurd (omega arith)
lines_of_some (b ∷ s) h = lines_next b s

pub lines_of_none : (s : List ℕ) → length s ≡ 0 → lines_of s ≡ []
unfolding lines_of
lines_of_none [] h = refl
lines_of_none (b ∷ s) h = absurd (omega (arith, h))

pub length_beyond : (stop : ℕ) (s : List ℕ) → length (beyond stop s) ≤ length s
length_beyond stop s = omega (arith, ap length (beyond_is stop s), simp length-drop at (ap length (beyond_is stop s)))

pub word_next : (n k : ℕ) (s : List ℕ) → n ≡ k + 1 → line_from_word n s ≡ line_from_word k (beyond 32 s)
unfolding line_from_word
word_next n k s e = let f : n ≡ suc k = omega arith in rw f refl
