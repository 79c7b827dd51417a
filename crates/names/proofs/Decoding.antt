-- The steps by which the first code point of standard UTF-8 is read: what a step of the code finds.
use Rattle.std.proofs.Common.{◌≡◌, ℕ, zero, suc, ◌+◌, ◌-◌, ◌*◌, ◌^◌, ◌<◌, ◌≤◌, Bool, true, false, ◌&&◌, cond, List, ◌∷◌, ◌++◌, length, drop, get_or, sym, ap, ap₂, subst, ◌∙◌, add-one, arith, Ok, length-append, Option, Some, None, MatchOption, Bor}
use lib.Dec.{leb, ltb}
use borrow.Author.Tests.{lt-ltb, le-ltb, le-leb, lt-leb}
use Rattle.refusal.specs.Reading.{check}
use Rattle.refusal.proofs.Laws.{not-ok, ok_same}
use Rattle.names.specs.Layout.{first_high, past_surrogates, past_last, past_one_byte, past_two_bytes, past_plane, Scalar, standard_of}
use Rattle.names.specs.Reading.{continued, is_scalar, longer, standard_point}
use Rattle.names.specs.Promises.{Rest, Reads, Refuses, BeginsWith, BeginsWithNone}
use Rattle.names.proofs.Lists.{no_bytes}
use Rattle.names.proofs.StandardForm.{standard_laid, standard_back, standard-some}

-- ---- continuation bytes

-- what is left after i of n of them
pub record Continued (s : List ℕ) (n lead v : ℕ) (rest : List ℕ) (i : ℕ) : Type 0 where
  pub small : v < 64 ^ (i + 1)
  pub so : (k : Rest) → continued n lead s k ≡ continued (n - i) v rest k

pub continued_first : (s : List ℕ) (n lead : ℕ) → lead < 64 → Continued s n lead lead s 0
continued_first s n lead h = let e : n - 0 ≡ n = omega arith in record { small = omega arith; so = λ k. simp e }

power_small : (i : ℕ) → i < 3 → 64 ^ (i + 1) ≤ 262144
power_small zero h = omega arith
power_small (suc zero) h = omega arith
power_small (suc (suc zero)) h = omega arith
power_small (suc (suc (suc i))) h = absurd (omega arith)

power_next : (i : ℕ) → 64 ^ (i + 1 + 1) ≡ 64 ^ (i + 1) * 64
power_next i = rw (add-one (i + 1)) (omega arith)

module _ {s rest : List ℕ} {n lead v i : ℕ} (st : Continued s n lead v rest i) where
  pub value_small : i < n → n < 4 → v < 262144
  value_small h l = omega (arith, st.small, power_small i (omega arith))

  pub continued_done : n ≤ i → Reads (continued n lead) v rest s
  unfolding continued
  continued_done h k = let e : n - i ≡ 0 = omega arith in st.so k ∙ simp e

  one_more : i < n → n - i ≡ suc (n - (i + 1))
  one_more h = omega arith

  pub continued_cut : i < n → length rest ≡ 0 → Refuses (continued n lead) s
  unfolding continued
  continued_cut h e k = st.so k ∙ simp (one_more h, no_bytes rest e)

  module _ (h : i < n) {b : ℕ} {left : List ℕ} (e : rest ≡ b ∷ left) where
    step : (k : Rest) → continued n lead s k ≡ check (leb 128 b && ltb b 192) tt (continued (n - (i + 1)) (v * 64 + (b - 128)) left k)
    unfolding continued
    step k = st.so k ∙ simp (one_more h, e)

    pub continued_low : b < 128 → Refuses (continued n lead) s
    unfolding check
    continued_low g k = step k ∙ simp (lt-leb 128 b g)

    pub continued_high : 128 ≤ b → 192 ≤ b → Refuses (continued n lead) s
    unfolding check
    continued_high g f k = step k ∙ simp (le-leb 128 b g, le-ltb b 192 f)

    pub continued_next : 128 ≤ b → b < 192 → Continued s n lead (v * 64 + (b - 128)) left (i + 1)
    unfolding check
    continued_next g f = record { small = omega (arith, st.small, power_next i); so = λ k. step k ∙ simp (le-leb 128 b g, lt-ltb b 192 f) }

-- ---- the tests of a code point

pub scalar_below : (v : ℕ) → v < first_high → ltb v first_high ≡ is_scalar v
unfolding is_scalar
scalar_below v h = simp (lt-ltb v first_high h)

pub scalar_surrogate : (v : ℕ) → first_high ≤ v → v < past_surrogates → leb past_surrogates v ≡ is_scalar v
unfolding is_scalar
scalar_surrogate v l h = simp (le-ltb v first_high l, lt-leb past_surrogates v h)

pub scalar_behind : (v : ℕ) → past_surrogates ≤ v → ltb v past_last ≡ is_scalar v
unfolding is_scalar
scalar_behind v l = let m : first_high ≤ v = omega arith in simp (le-ltb v first_high m, le-leb past_surrogates v l)

-- ---- a code point of more than one byte

module _ (s : List ℕ) (n least lead : ℕ) where
  pub longer_broken : Refuses (continued n lead) s → Refuses (longer n least lead) s
  unfolding longer
  longer_broken h k = h _

  module _ {v : ℕ} {left : List ℕ} (h : Reads (continued n lead) v left s) where
    after_bytes : (k : Rest) → longer n least lead s k ≡ check (leb least v && is_scalar v) tt (k v left)
    unfolding longer
    after_bytes k = h _

    pub longer_low : v < least → Refuses (longer n least lead) s
    unfolding check
    longer_low g k = after_bytes k ∙ simp (lt-leb least v g)

    module _ (l : least ≤ v) {b : Bool} (q : b ≡ is_scalar v) where
      pub longer_other : b ≡ false → Refuses (longer n least lead) s
      unfolding check
      longer_other g k = after_bytes k ∙ simp (le-leb least v l, ← q, g)

      pub longer_whole : b ≡ true → Reads (longer n least lead) v left s
      unfolding check
      longer_whole g k = after_bytes k ∙ simp (le-leb least v l, ← q, g)

-- ---- what the reading of the first code point says by its form

pub read_begins : (s : List ℕ) (c : ℕ) (left : List ℕ) → Reads standard_point c left s → BeginsWith c left s
read_begins s c left h =
    let r = standard_back (λ c t. Ok (c ∷ t)) (c ∷ left) s (h (λ c t. Ok (c ∷ t))) in
    let e : r.point ∷ r.rest ≡ c ∷ left = ok_same (r.point ∷ r.rest) (c ∷ left) r.so in
    let p : r.point ≡ c = ap (λ (l : List ℕ). get_or l 0 0) e in
    let q : r.rest ≡ left = ap (drop 1) e in
    (subst Scalar p r.of, r.parts ∙ ap₂ (λ (c : ℕ) (t : List ℕ). standard_of c ++ t) p q)

pub refused_begins : (s : List ℕ) → Refuses standard_point s → BeginsWithNone s
refused_begins s h c left b =
    not-ok (sym (h (λ c t. Ok (c ∷ t))) ∙ ap (λ (t : List ℕ). standard_point t (λ c t. Ok (c ∷ t))) b.1 ∙ standard_laid c left (λ c t. Ok (c ∷ t)) b.0)

pub first_smaller : (c : ℕ) (left s : List ℕ) → BeginsWith c left s → length left < length s
first_smaller c left s b = omega (arith, ap length b.1, length-append (standard_of c) left, standard-some c)

pub empty_begins : (s : List ℕ) → length s ≡ 0 → BeginsWithNone s
empty_begins s e c left b = omega (arith, first_smaller c left s b)

-- ---- a code point by its lead byte

module _ (s : List ℕ) {a b : ℕ} {left : List ℕ} (w : a ≡ b) (e : s ≡ b ∷ left) where
  by_lead : (k : Rest) → standard_point s k
      ≡ cond (ltb a 128) (k a left)
      (check (leb 192 a) tt (cond (ltb a 224) (longer 1 past_one_byte (a - 192) left k)
      (cond (ltb a 240) (longer 2 past_two_bytes (a - 224) left k) (check (ltb a 248) tt (longer 3 past_plane (a - 240) left k)))))
  unfolding standard_point
  by_lead k = ap (λ (t : List ℕ). standard_point t k) (e ∙ ap (λ (n : ℕ). n ∷ left) (sym w))

  pub point_one : a < 128 → BeginsWith a left s
  point_one l = read_begins s a left (λ k. by_lead k ∙ simp (lt-ltb a 128 l))

  pub point_stray : 128 ≤ a → a < 192 → BeginsWithNone s
  unfolding check
  point_stray m l = refused_begins s (λ k. by_lead k ∙ simp (le-ltb a 128 m, lt-leb 192 a l))

  -- what stands behind a lead byte decides
  led : (n least lead : ℕ) → ((k : Rest) → standard_point s k ≡ longer n least lead left k) → (r : Option (ℕ × Bor (List ℕ)))
      → MatchOption r (Refuses (longer n least lead) left) (λ p. Reads (longer n least lead) p.0 p.1.now left)
      → MatchOption r (BeginsWithNone s) (λ p. BeginsWith p.0 p.1.now s)
  led n least lead q None g = refused_begins s (λ k. q k ∙ g k)
  led n least lead q (Some p) g = read_begins s p.0 p.1.now (λ k. q k ∙ g k)

  module _ (r : Option (ℕ × Bor (List ℕ))) where
    pub point_two : 192 ≤ a → a < 224
        → MatchOption r (Refuses (longer 1 past_one_byte (a - 192)) left) (λ p. Reads (longer 1 past_one_byte (a - 192)) p.0 p.1.now left)
        → MatchOption r (BeginsWithNone s) (λ p. BeginsWith p.0 p.1.now s)
    unfolding check
    point_two m l g =
        let x : 128 ≤ a = omega arith in
        led 1 past_one_byte (a - 192) (λ k. by_lead k ∙ simp (le-ltb a 128 x, le-leb 192 a m, lt-ltb a 224 l)) r g

    pub point_three : 224 ≤ a → a < 240
        → MatchOption r (Refuses (longer 2 past_two_bytes (a - 224)) left) (λ p. Reads (longer 2 past_two_bytes (a - 224)) p.0 p.1.now left)
        → MatchOption r (BeginsWithNone s) (λ p. BeginsWith p.0 p.1.now s)
    unfolding check
    point_three m l g =
        let x : 128 ≤ a = omega arith in
        let y : 192 ≤ a = omega arith in
        led 2 past_two_bytes (a - 224) (λ k. by_lead k ∙ simp (le-ltb a 128 x, le-leb 192 a y, le-ltb a 224 m, lt-ltb a 240 l)) r g

    pub point_four : 240 ≤ a → a < 248
        → MatchOption r (Refuses (longer 3 past_plane (a - 240)) left) (λ p. Reads (longer 3 past_plane (a - 240)) p.0 p.1.now left)
        → MatchOption r (BeginsWithNone s) (λ p. BeginsWith p.0 p.1.now s)
    unfolding check
    point_four m l g =
        let x : 128 ≤ a = omega arith in
        let y : 192 ≤ a = omega arith in
        let z : 224 ≤ a = omega arith in
        led 3 past_plane (a - 240) (λ k. by_lead k ∙ simp (le-ltb a 128 x, le-leb 192 a y, le-ltb a 224 z, le-ltb a 240 m, lt-ltb a 248 l)) r g

  pub point_none : 248 ≤ a → BeginsWithNone s
  unfolding check
  point_none m =
      let x : 128 ≤ a = omega arith in
      let y : 192 ≤ a = omega arith in
      let z : 224 ≤ a = omega arith in
      let w : 240 ≤ a = omega arith in
      refused_begins s (λ k. by_lead k ∙ simp (le-ltb a 128 x, le-leb 192 a y, le-ltb a 224 z, le-ltb a 240 w, le-ltb a 248 m))
