-- One code point of modified UTF-8: what is laid out is read, and what is read was laid out. Both go by its units: one, or the two surrogates of a pair.
use Prim.Native.Nat.{ℕ, ◌+◌, ◌-◌, ◌*◌, ◌/◌, ◌%◌, ◌<◌, ◌≤◌}
use mathlib.Core.Path.{◌≡◌, refl, sym, ap, ◌∙◌}
use mathlib.Core.Bool.{Bool, true, false, ◌||◌, not, cond}
use mathlib.Core.List.{List, [], ◌∷◌, ◌++◌, append_assoc}
use mathlib.Core.Logic.{◌⊎◌, inl, inr}
use native.Mathlib.Decide.{dec_lt, ℕ_discrete}
use native.Mathlib.Omega.{arith}
use lib.Dec.{eqb, leb, ltb}
use lib.ListN.{length}
use borrow.Author.Tests.{lt-ltb, le-ltb, le-leb, lt-leb, eq-eqb, ne_eqb, ltb-true, leb-true, not-true}
use Rattle.numbers.specs.Meaning.{All}
use Rattle.numbers.proofs.Booleans.{and_both}
use Rattle.std.specs.Prelude.{Ok}
use Rattle.refusal.specs.Reading.{check}
use Rattle.refusal.proofs.Laws.{not-ok, check-ok}
use Rattle.names.specs.Layout.{first_high, first_low, past_surrogates, past_plane, past_last, past_one_byte, past_two_bytes, Scalar, in_two_bytes, in_three_bytes, standard_of, high_of, low_of, modified_of}
use Rattle.names.specs.Reading.{Spelled, continued, modified_unit, is_high, is_low, modified_point}
use Rattle.names.proofs.Bits.{Read, clash, byte_back, last_laid, two_laid}
use Rattle.names.proofs.StandardForm.{one_form, two_form, three_form, scalar_last, standard-some, three_bytes, standard-bytes}

-- the bytes of one unit below 10000
abbrev unit_form : ℕ → List ℕ
unit_form u = cond (eqb u 0) (in_two_bytes u) (standard_of u)

zero_form : (u : ℕ) → u ≡ 0 → unit_form u ≡ in_two_bytes u
zero_form u e = simp (eq-eqb u 0 e)

other_form : (u : ℕ) → 1 ≤ u → unit_form u ≡ standard_of u
other_form u l = let n : u ≡ 0 → ⊥ = λ e. omega arith in simp (ne_eqb u 0 n)

-- ---- a unit, laid out, is read

module _ {A : Type 0} (u : ℕ) (t : List ℕ) (k : ℕ → List ℕ → Spelled A) where
  unit_one : 1 ≤ u → u < past_one_byte → modified_unit (u ∷ t) k ≡ k u t
  unfolding modified_unit check
  unit_one l h = simp (lt-ltb u 128 h, le-leb 1 u l)

  unit_two : (u ≡ 0) ⊎ (past_one_byte ≤ u) → u < past_two_bytes → modified_unit (in_two_bytes u ++ t) k ≡ k u t
  unfolding modified_unit check
  unit_two l h =
      let a : 128 ≤ 192 + u / 64 = omega arith in
      let b : 192 ≤ 192 + u / 64 = omega arith in
      let d : 192 + u / 64 < 224 = omega arith in
      simp (le-ltb (192 + u / 64) 128 a, le-leb 192 (192 + u / 64) b, lt-ltb (192 + u / 64) 224 d)
      (last_laid u t (λ u s. check (eqb u 0 || leb past_one_byte u) tt (k u s)) (192 + u / 64 - 192) (omega arith) ∙ simp (fits l))
    where
      fits : (u ≡ 0) ⊎ (past_one_byte ≤ u) → eqb u 0 || leb past_one_byte u ≡ true
      fits (inl e) = simp (eq-eqb u 0 e)
      fits (inr g) = let n : u ≡ 0 → ⊥ = λ e. omega arith in simp (ne_eqb u 0 n, le-leb past_one_byte u g)

  unit_three : past_two_bytes ≤ u → u < past_plane → modified_unit (in_three_bytes u ++ t) k ≡ k u t
  unfolding modified_unit check
  unit_three l h =
      let a : 128 ≤ 224 + u / 4096 = omega arith in
      let b : 192 ≤ 224 + u / 4096 = omega arith in
      let d : 224 ≤ 224 + u / 4096 = omega arith in
      let e : 224 + u / 4096 < 240 = omega arith in
      simp (le-ltb (224 + u / 4096) 128 a, le-leb 192 (224 + u / 4096) b, le-ltb (224 + u / 4096) 224 d, lt-ltb (224 + u / 4096) 240 e)
      (two_laid u t (λ u s. check (leb past_two_bytes u) tt (k u s)) (224 + u / 4096 - 224) (omega arith) ∙ simp (le-leb past_two_bytes u l))

  unit_laid : u < past_plane → modified_unit (unit_form u ++ t) k ≡ k u t
  unit_laid h =
      let read : List ℕ → Spelled A = λ l. modified_unit (l ++ t) k in
      elim (ℕ_discrete u 0) [
        | yes e ↦ ap read (zero_form u e) ∙ unit_two (inl e) (omega arith)
        | no n ↦
            elim (dec_lt u past_one_byte) [
              | yes g ↦ ap read (other_form u (omega arith) ∙ one_form u g) ∙ unit_one (omega arith) g
              | no m ↦
                  elim (dec_lt u past_two_bytes) [
                    | yes g ↦ ap read (other_form u (omega arith) ∙ two_form u (omega arith) g) ∙ unit_two (inr (omega arith)) g
                    | no m ↦ ap read (other_form u (omega arith) ∙ three_form u (omega arith) h) ∙ unit_three (omega arith) h
                  ]
            ]
      ]

-- ---- a unit that was read was laid out

module _ {A : Type 0} (k : ℕ → List ℕ → Spelled A) (good : A) where
  abbrev UnitRead : List ℕ → Type 0
  UnitRead s = Read unit_form (λ u. u < past_plane) s k good

  module _ (a : ℕ) (s : List ℕ) where
    one_back : 1 ≤ a → a < 128 → k a s ≡ Ok good → UnitRead (a ∷ s)
    one_back l h e =
        let f : unit_form a ≡ a ∷ [] = other_form a l ∙ one_form a h in
        record { point = a; rest = s; of = omega arith; parts = ap (λ (l : List ℕ). l ++ s) (sym f); so = e }

    two_back : 192 ≤ a → a < 224 → continued 1 (a - 192) s (λ u s. check (eqb u 0 || leb past_one_byte u) tt (k u s)) ≡ Ok good → UnitRead (a ∷ s)
    unfolding continued
    two_back l h e =
        let b = byte_back 0 (a - 192) s _ good e in
        let u : ℕ = (a - 192) * 64 + (b.byte - 128) in
        let x = check-ok (eqb u 0 || leb past_one_byte u) tt (k u b.rest) good b.so in
        let p : 192 + u / 64 ≡ a = omega (arith, b.low, b.high) in
        let q : 128 + u % 64 ≡ b.byte = omega (arith, b.low, b.high) in
        let f : unit_form u ≡ a ∷ b.byte ∷ [] = form u (omega (arith, b.low, b.high)) x.0 ∙ rw (p, q) in
        record {
          point = u;
          rest = b.rest;
          of = omega (arith, b.low, b.high);
          parts = ap (λ (l : List ℕ). a ∷ l) b.parts ∙ ap (λ (l : List ℕ). l ++ b.rest) (sym f);
          so = x.1;
        }
      where
        form : (u : ℕ) → u < past_two_bytes → eqb u 0 || leb past_one_byte u ≡ true → unit_form u ≡ in_two_bytes u
        form u h t =
            elim (ℕ_discrete u 0) [
              | yes e ↦ zero_form u e
              | no n ↦ let g : past_one_byte ≤ u = leb-true past_one_byte u (rw (ne_eqb u 0 n) at t) in other_form u (omega arith) ∙ two_form u g h
            ]

    three_back : 224 ≤ a → a < 240 → continued 2 (a - 224) s (λ u s. check (leb past_two_bytes u) tt (k u s)) ≡ Ok good → UnitRead (a ∷ s)
    unfolding continued
    three_back l h e =
        let b = byte_back 1 (a - 224) s _ good e in
        let d = byte_back 0 ((a - 224) * 64 + (b.byte - 128)) b.rest _ good b.so in
        let u : ℕ = ((a - 224) * 64 + (b.byte - 128)) * 64 + (d.byte - 128) in
        let x = check-ok (leb past_two_bytes u) tt (k u d.rest) good d.so in
        let g : past_two_bytes ≤ u = leb-true past_two_bytes u x.0 in
        let w : u < past_plane = omega (arith, b.low, b.high, d.low, d.high) in
        let p : 224 + u / 4096 ≡ a = omega (arith, b.low, b.high, d.low, d.high) in
        let q : 128 + u / 64 % 64 ≡ b.byte = omega (arith, b.low, b.high, d.low, d.high) in
        let z : 128 + u % 64 ≡ d.byte = omega (arith, d.low, d.high) in
        let f : unit_form u ≡ a ∷ b.byte ∷ d.byte ∷ [] = other_form u (omega arith) ∙ three_form u g w ∙ rw (p, q, z) in
        record {
          point = u;
          rest = d.rest;
          of = w;
          parts = ap (λ (l : List ℕ). a ∷ l) (b.parts ∙ ap (λ (l : List ℕ). b.byte ∷ l) d.parts) ∙ ap (λ (l : List ℕ). l ++ d.rest) (sym f);
          so = x.1;
        }

    lead_back : check (leb 192 a) tt (cond (ltb a 224) (continued 1 (a - 192) s (λ u s. check (eqb u 0 || leb past_one_byte u) tt (k u s)))
        (check (ltb a 240) tt (continued 2 (a - 224) s (λ u s. check (leb past_two_bytes u) tt (k u s))))) ≡ Ok good → UnitRead (a ∷ s)
    lead_back e =
        let x = check-ok (leb 192 a) tt _ good e in
        let l : 192 ≤ a = leb-true 192 a x.0 in
        elim (dec_lt a 224) [
          | yes h ↦ two_back l h (rw (lt-ltb a 224 h) at x.1)
          | no g ↦
              let m : 224 ≤ a = omega arith in
              let y = check-ok (ltb a 240) tt _ good (rw (le-ltb a 224 m) at x.1) in
              three_back m (ltb-true a 240 y.0) y.1
        ]

  unit_back : (s : List ℕ) → modified_unit s k ≡ Ok good → UnitRead s
  unfolding modified_unit
  unit_back [] e = absurd (not-ok e)
  unit_back (a ∷ s) e =
      elim (dec_lt a 128) [
        | yes h ↦ let x = check-ok (leb 1 a) tt (k a s) good (rw (lt-ltb a 128 h) at e) in one_back a s (leb-true 1 a x.0) h x.1
        | no g ↦ let l : 128 ≤ a = omega arith in lead_back a s (rw (le-ltb a 128 l) at e)
      ]

-- ---- a code point's form, by its units

one_unit : (c : ℕ) → c < past_plane → modified_of c ≡ unit_form c
unfolding modified_of
one_unit c h = simp (lt-ltb c past_plane h)

pair_units : (c : ℕ) → past_plane ≤ c → c < past_last → modified_of c ≡ unit_form (high_of c) ++ unit_form (low_of c)
unfolding modified_of
pair_units c l h =
    let n : c ≡ 0 → ⊥ = λ e. omega arith in
    let x : unit_form (high_of c) ≡ in_three_bytes (high_of c) = other_form (high_of c) (omega arith) ∙ three_form (high_of c) (omega arith) (omega arith) in
    let y : unit_form (low_of c) ≡ in_three_bytes (low_of c) = other_form (low_of c) (omega arith) ∙ three_form (low_of c) (omega arith) (omega arith) in
    simp (ne_eqb c 0 n, le-ltb c past_plane l, x, y)

pub modified-some : (c : ℕ) → 1 ≤ length (modified_of c)
unfolding modified_of
modified-some c = some (eqb c 0) (ltb c past_plane)
  where
    some : (x y : Bool) → 1 ≤ length (cond x (in_two_bytes c) (cond y (standard_of c) (in_three_bytes (high_of c) ++ in_three_bytes (low_of c))))
    some true y = omega arith
    some false true = standard-some c
    some false false = omega arith

all_append : (P : ℕ → Type 0) (x y : List ℕ) → All P x → All P y → All P (x ++ y)
all_append P [] y h g = g
all_append P (b ∷ x) y h g = (h.0, all_append P x y h.1 g)

pub modified-bytes : (c : ℕ) → Scalar c → All (λ b. b < 256) (modified_of c)
unfolding modified_of
modified-bytes c s =
    let m : c < past_last = scalar_last c s in
    elim (ℕ_discrete c 0) [
      | yes e ↦ rw (eq-eqb c 0 e) (omega arith, (omega arith, tt))
      | no n ↦
          elim (dec_lt c past_plane) [
            | yes h ↦ rw (ne_eqb c 0 n, lt-ltb c past_plane h) (standard-bytes c s)
            | no g ↦
                let l : past_plane ≤ c = omega arith in
                rw (ne_eqb c 0 n, le-ltb c past_plane l) (all_append (λ b. b < 256) (in_three_bytes (high_of c)) (in_three_bytes (low_of c)) (three_bytes (high_of c) (omega arith)) (three_bytes (low_of c) (omega arith)))
          ]
    ]

-- ---- surrogates

is_high_lem : (u : ℕ) → first_high ≤ u → u < first_low → is_high u ≡ true
unfolding is_high
is_high_lem u l h = simp (le-leb first_high u l, lt-ltb u first_low h)

is_low_lem : (u : ℕ) → first_low ≤ u → u < past_surrogates → is_low u ≡ true
unfolding is_low
is_low_lem u l h = simp (le-leb first_low u l, lt-ltb u past_surrogates h)

not-high : (u : ℕ) → Scalar u → is_high u ≡ false
unfolding is_high
not-high u (inl h) = simp (lt-leb first_high u h)
not-high u (inr h) = let l : first_low ≤ u = omega (arith, h.0) in let m : first_high ≤ u = omega arith in simp (le-leb first_high u m, le-ltb u first_low l)

not_low : (u : ℕ) → Scalar u → is_low u ≡ false
unfolding is_low
not_low u (inl h) = let g : u < first_low = omega arith in simp (lt-leb first_low u g)
not_low u (inr h) = let l = h.0 in let m : first_low ≤ u = omega arith in simp (le-leb first_low u m, le-ltb u past_surrogates l)

high_back : (u : ℕ) → is_high u ≡ true → (first_high ≤ u) × (u < first_low)
unfolding is_high
high_back u e = let x = and_both (leb first_high u) (ltb u first_low) e in (leb-true first_high u x.0, ltb-true u first_low x.1)

low_back : (u : ℕ) → is_low u ≡ true → (first_low ≤ u) × (u < past_surrogates)
unfolding is_low
low_back u e = let x = and_both (leb first_low u) (ltb u past_surrogates) e in (leb-true first_low u x.0, ltb-true u past_surrogates x.1)

-- a unit that is of neither half is a code point by itself
neither : (u : ℕ) → u < past_plane → is_high u ≡ false → is_low u ≡ false → Scalar u
neither u h a b =
    elim (dec_lt u first_high) [
      | yes g ↦ inl g
      | no g ↦
          elim (dec_lt u past_surrogates) [
            | no f ↦ inr (omega arith, omega arith)
            | yes f ↦
                elim (dec_lt u first_low) [
                  | yes d ↦ absurd (clash (sym (is_high_lem u (omega arith) d) ∙ a))
                  | no d ↦ absurd (clash (sym (is_low_lem u (omega arith) f) ∙ b))
                ]
          ]
    ]

-- ---- a code point

module _ {A : Type 0} (c : ℕ) (t : List ℕ) (k : ℕ → List ℕ → Spelled A) (scalar : Scalar c) where
  single_laid : c < past_plane → modified_point (modified_of c ++ t) k ≡ k c t
  unfolding modified_point check
  single_laid h = ap (λ (l : List ℕ). modified_point (l ++ t) k) (one_unit c h) ∙ unit_laid c t _ h ∙ simp (not-high c scalar, not_low c scalar)

  pair_laid : past_plane ≤ c → modified_point (modified_of c ++ t) k ≡ k c t
  unfolding modified_point check
  pair_laid l =
      let m : c < past_last = scalar_last c scalar in
      let e : past_plane + (high_of c - first_high) * 1024 + (low_of c - first_low) ≡ c = omega arith in
      ap (λ (l : List ℕ). modified_point (l ++ t) k) (pair_units c l m)
      ∙ ap (λ (l : List ℕ). modified_point l k) (append_assoc (unit_form (high_of c)) (unit_form (low_of c)) t)
      ∙ unit_laid (high_of c) (unit_form (low_of c) ++ t) _ (omega arith)
      ∙ simp (is_high_lem (high_of c) (omega arith) (omega arith))
      (unit_laid (low_of c) t _ (omega arith)
      ∙ simp (is_low_lem (low_of c) (omega arith) (omega arith), e))

  pub modified_laid : modified_point (modified_of c ++ t) k ≡ k c t
  modified_laid = elim (dec_lt c past_plane) [ yes h ↦ single_laid h | no g ↦ pair_laid (omega arith) ]

module _ {A : Type 0} (k : ℕ → List ℕ → Spelled A) (good : A) where
  abbrev Joined : ℕ → ℕ → ℕ
  Joined u w = past_plane + (u - first_high) * 1024 + (w - first_low)

  second_back : (u : ℕ) (s : List ℕ) → is_high u ≡ true → modified_unit s (λ w s. check (is_low w) tt (k (Joined u w) s)) ≡ Ok good
      → Read modified_of Scalar (unit_form u ++ s) k good
  second_back u s high e =
      let r = unit_back _ good s e in
      let w : ℕ = r.point in
      let x = check-ok (is_low w) tt (k (Joined u w) r.rest) good r.so in
      let a = high_back u high in
      let b = low_back w x.0 in
      let c : ℕ = Joined u w in
      let l : past_plane ≤ c = omega arith in
      let m : c < past_last = omega (arith, a.0, a.1, b.0, b.1) in
      let p : high_of c ≡ u = omega (arith, a.0, a.1, b.0, b.1) in
      let q : low_of c ≡ w = omega (arith, a.0, a.1, b.0, b.1) in
      let f : modified_of c ≡ unit_form u ++ unit_form w = pair_units c l m ∙ rw (p, q) in
      record {
        point = c;
        rest = r.rest;
        of = inr (omega arith, m);
        parts = ap (λ (l : List ℕ). unit_form u ++ l) r.parts ∙ sym (append_assoc (unit_form u) (unit_form w) r.rest) ∙ ap (λ (l : List ℕ). l ++ r.rest) (sym f);
        so = x.1;
      }

  units_back : (u : ℕ) (s : List ℕ) → u < past_plane → (b : Bool) → is_high u ≡ b
      → cond b (modified_unit s (λ w s. check (is_low w) tt (k (Joined u w) s))) (check (not (is_low u)) tt (k u s)) ≡ Ok good
      → Read modified_of Scalar (unit_form u ++ s) k good
  units_back u s h true q e = second_back u s q e
  units_back u s h false q e =
      let x = check-ok (not (is_low u)) tt (k u s) good e in
      record { point = u; rest = s; of = neither u h q (not-true (is_low u) x.0); parts = ap (λ (l : List ℕ). l ++ s) (sym (one_unit u h)); so = x.1 }

  pub modified_back : (s : List ℕ) → modified_point s k ≡ Ok good → Read modified_of Scalar s k good
  unfolding modified_point
  modified_back s e =
      let r = unit_back _ good s e in
      rw r.parts (units_back r.point r.rest r.of (is_high r.point) refl r.so)
