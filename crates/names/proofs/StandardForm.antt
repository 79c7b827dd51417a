-- One code point of standard UTF-8: what is laid out is read, and what is read was laid out.
use Prim.Native.Nat.{ℕ, ◌+◌, ◌-◌, ◌*◌, ◌/◌, ◌%◌, ◌<◌, ◌≤◌}
use mathlib.Core.Path.{◌≡◌, sym, ap, ◌∙◌}
use mathlib.Core.Bool.{Bool, true, false, ◌&&◌, cond}
use mathlib.Core.List.{List, [], ◌∷◌, ◌++◌}
use mathlib.Core.Logic.{inl, inr}
use native.Mathlib.Decide.{dec_lt}
use native.Mathlib.Omega.{arith}
use lib.Dec.{leb, ltb}
use lib.ListN.{length}
use borrow.Author.Tests.{lt-ltb, le-ltb, le-leb, leb-true}
use Rattle.numbers.specs.Meaning.{All}
use Rattle.numbers.proofs.Booleans.{and_both}
use Rattle.std.specs.Prelude.{Ok}
use Rattle.refusal.specs.Reading.{check}
use Rattle.refusal.proofs.Laws.{not-ok, check-ok}
use Rattle.names.specs.Layout.{past_one_byte, past_two_bytes, past_plane, past_last, Scalar, in_two_bytes, in_three_bytes, in_four_bytes, standard_of}
use Rattle.names.specs.Reading.{Spelled, continued, is_scalar, longer, standard_point}
use Rattle.names.proofs.Bits.{Read, scalar_tested, tested_scalar, byte_back, last_laid, two_laid, three_laid}

-- ---- the form by the size of the code point

pub one_form : (c : ℕ) → c < past_one_byte → standard_of c ≡ c ∷ []
unfolding standard_of
one_form c h = simp lt-ltb

pub two_form : (c : ℕ) → past_one_byte ≤ c → c < past_two_bytes → standard_of c ≡ in_two_bytes c
unfolding standard_of
two_form c l h = simp (le-ltb c past_one_byte l, lt-ltb c past_two_bytes h)

pub three_form : (c : ℕ) → past_two_bytes ≤ c → c < past_plane → standard_of c ≡ in_three_bytes c
unfolding standard_of
three_form c l h = let m : past_one_byte ≤ c = omega arith in simp (le-ltb c past_one_byte m, le-ltb c past_two_bytes l, lt-ltb c past_plane h)

pub four_form : (c : ℕ) → past_plane ≤ c → standard_of c ≡ in_four_bytes c
unfolding standard_of
four_form c l =
    let m : past_one_byte ≤ c = omega arith in
    let n : past_two_bytes ≤ c = omega arith in
    simp (le-ltb c past_one_byte m, le-ltb c past_two_bytes n, le-ltb c past_plane l)

pub scalar_last : (c : ℕ) → Scalar c → c < past_last
scalar_last c (inl h) = omega arith
scalar_last c (inr h) = h.1

pub standard-some : (c : ℕ) → 1 ≤ length (standard_of c)
unfolding standard_of
standard-some c = some (ltb c past_one_byte) (ltb c past_two_bytes) (ltb c past_plane)
  where
    some : (x y z : Bool) → 1 ≤ length (cond x (c ∷ []) (cond y (in_two_bytes c) (cond z (in_three_bytes c) (in_four_bytes c))))
    some true y z = omega arith
    some false true z = omega arith
    some false false true = omega arith
    some false false false = omega arith

pub three_bytes : (c : ℕ) → c < past_plane → All (λ b. b < 256) (in_three_bytes c)
three_bytes c h = (omega arith, (omega arith, (omega arith, tt)))

pub standard-bytes : (c : ℕ) → Scalar c → All (λ b. b < 256) (standard_of c)
standard-bytes c s =
    let m : c < past_last = scalar_last c s in
    elim (dec_lt c past_one_byte) [
      | yes h ↦ rw (one_form c h) (omega arith, tt)
      | no g ↦
          elim (dec_lt c past_two_bytes) [
            | yes h ↦ rw (two_form c (omega arith) h) (omega arith, (omega arith, tt))
            | no g ↦
                elim (dec_lt c past_plane) [
                  | yes h ↦ rw (three_form c (omega arith) h) (three_bytes c h)
                  | no g ↦ rw (four_form c (omega arith)) (omega arith, (omega arith, (omega arith, (omega arith, tt))))
                ]
          ]
    ]

-- ---- laid out, so read

in_range : {A : Type 0} (least c : ℕ) (o : Spelled A) → least ≤ c → Scalar c → check (leb least c && is_scalar c) tt o ≡ o
unfolding check
in_range least c o l h = simp (le-leb, scalar_tested c h)

module _ {A : Type 0} (c : ℕ) (t : List ℕ) (k : ℕ → List ℕ → Spelled A) (scalar : Scalar c) where
  of_one : c < past_one_byte → standard_point (standard_of c ++ t) k ≡ k c t
  unfolding standard_point
  of_one h = ap (λ (l : List ℕ). standard_point (l ++ t) k) (one_form c h) ∙ simp lt-ltb

  of_two : past_one_byte ≤ c → c < past_two_bytes → standard_point (standard_of c ++ t) k ≡ k c t
  unfolding standard_point longer check
  of_two l h =
      let a : 128 ≤ 192 + c / 64 = omega arith in
      let b : 192 ≤ 192 + c / 64 = omega arith in
      let d : 192 + c / 64 < 224 = omega arith in
      ap (λ (s : List ℕ). standard_point (s ++ t) k) (two_form c l h)
      ∙ simp (le-ltb (192 + c / 64) 128 a, le-leb 192 (192 + c / 64) b, lt-ltb (192 + c / 64) 224 d)
      (last_laid c t (λ c s. check (leb past_one_byte c && is_scalar c) tt (k c s)) (192 + c / 64 - 192) (omega arith) ∙ in_range past_one_byte c (k c t) l scalar)

  of_three : past_two_bytes ≤ c → c < past_plane → standard_point (standard_of c ++ t) k ≡ k c t
  unfolding standard_point longer check
  of_three l h =
      let a : 128 ≤ 224 + c / 4096 = omega arith in
      let b : 192 ≤ 224 + c / 4096 = omega arith in
      let d : 224 ≤ 224 + c / 4096 = omega arith in
      let e : 224 + c / 4096 < 240 = omega arith in
      ap (λ (s : List ℕ). standard_point (s ++ t) k) (three_form c l h)
      ∙ simp (le-ltb (224 + c / 4096) 128 a, le-leb 192 (224 + c / 4096) b, le-ltb (224 + c / 4096) 224 d, lt-ltb (224 + c / 4096) 240 e)
      (two_laid c t (λ c s. check (leb past_two_bytes c && is_scalar c) tt (k c s)) (224 + c / 4096 - 224) (omega arith) ∙ in_range past_two_bytes c (k c t) l scalar)

  of_four : past_plane ≤ c → standard_point (standard_of c ++ t) k ≡ k c t
  unfolding standard_point longer check
  of_four l =
      let m : c < past_last = scalar_last c scalar in
      let a : 128 ≤ 240 + c / 262144 = omega arith in
      let b : 192 ≤ 240 + c / 262144 = omega arith in
      let d : 224 ≤ 240 + c / 262144 = omega arith in
      let e : 240 ≤ 240 + c / 262144 = omega arith in
      let f : 240 + c / 262144 < 248 = omega arith in
      ap (λ (s : List ℕ). standard_point (s ++ t) k) (four_form c l)
      ∙ simp (le-ltb (240 + c / 262144) 128 a, le-leb 192 (240 + c / 262144) b, le-ltb (240 + c / 262144) 224 d, le-ltb (240 + c / 262144) 240 e, lt-ltb (240 + c / 262144) 248 f)
      (three_laid c t (λ c s. check (leb past_plane c && is_scalar c) tt (k c s)) (240 + c / 262144 - 240) (omega arith) ∙ in_range past_plane c (k c t) l scalar)

  pub standard_laid : standard_point (standard_of c ++ t) k ≡ k c t
  standard_laid =
      elim (dec_lt c past_one_byte) [
        | yes h ↦ of_one h
        | no g ↦
            elim (dec_lt c past_two_bytes) [
              | yes h ↦ of_two (omega arith) h
              | no g ↦ elim (dec_lt c past_plane) [ yes h ↦ of_three (omega arith) h | no g ↦ of_four (omega arith) ]
            ]
      ]

-- ---- read, so laid out

module _ {A : Type 0} (k : ℕ → List ℕ → Spelled A) (good : A) where
  range_back : (least c : ℕ) (s : List ℕ) → check (leb least c && is_scalar c) tt (k c s) ≡ Ok good → (least ≤ c) × Scalar c × (k c s ≡ Ok good)
  range_back least c s e =
      let x = check-ok (leb least c && is_scalar c) tt (k c s) good e in
      let y = and_both (leb least c) (is_scalar c) x.0 in
      (leb-true least c y.0, tested_scalar c y.1, x.1)

  module _ (a : ℕ) (s : List ℕ) where
    one_back : a < 128 → k a s ≡ Ok good → Read standard_of Scalar (a ∷ s) k good
    one_back h e = record { point = a; rest = s; of = inl (omega arith); parts = ap (λ (l : List ℕ). l ++ s) (sym (one_form a h)); so = e }

    two_back : 192 ≤ a → a < 224 → longer 1 past_one_byte (a - 192) s k ≡ Ok good → Read standard_of Scalar (a ∷ s) k good
    unfolding longer continued
    two_back l h e =
        let b = byte_back 0 (a - 192) s _ good e in
        let c : ℕ = (a - 192) * 64 + (b.byte - 128) in
        let r = range_back past_one_byte c b.rest b.so in
        let p : 192 + c / 64 ≡ a = omega (arith, b.low, b.high) in
        let q : 128 + c % 64 ≡ b.byte = omega (arith, b.low, b.high) in
        let f : standard_of c ≡ a ∷ b.byte ∷ [] = two_form c r.0 (omega (arith, b.low, b.high)) ∙ rw (p, q) in
        record { point = c; rest = b.rest; of = r.1; parts = ap (λ (l : List ℕ). a ∷ l) b.parts ∙ ap (λ (l : List ℕ). l ++ b.rest) (sym f); so = r.2 }

    three_back : 224 ≤ a → a < 240 → longer 2 past_two_bytes (a - 224) s k ≡ Ok good → Read standard_of Scalar (a ∷ s) k good
    unfolding longer continued
    three_back l h e =
        let b = byte_back 1 (a - 224) s _ good e in
        let d = byte_back 0 ((a - 224) * 64 + (b.byte - 128)) b.rest _ good b.so in
        let c : ℕ = ((a - 224) * 64 + (b.byte - 128)) * 64 + (d.byte - 128) in
        let r = range_back past_two_bytes c d.rest d.so in
        let p : 224 + c / 4096 ≡ a = omega (arith, b.low, b.high, d.low, d.high) in
        let q : 128 + c / 64 % 64 ≡ b.byte = omega (arith, b.low, b.high, d.low, d.high) in
        let z : 128 + c % 64 ≡ d.byte = omega (arith, d.low, d.high) in
        let f : standard_of c ≡ a ∷ b.byte ∷ d.byte ∷ [] = three_form c r.0 (omega (arith, b.low, b.high, d.low, d.high)) ∙ rw (p, q, z) in
        record {
          point = c;
          rest = d.rest;
          of = r.1;
          parts = ap (λ (l : List ℕ). a ∷ l) (b.parts ∙ ap (λ (l : List ℕ). b.byte ∷ l) d.parts) ∙ ap (λ (l : List ℕ). l ++ d.rest) (sym f);
          so = r.2;
        }

    four_back : 240 ≤ a → longer 3 past_plane (a - 240) s k ≡ Ok good → Read standard_of Scalar (a ∷ s) k good
    unfolding longer continued
    four_back l e =
        let b = byte_back 2 (a - 240) s _ good e in
        let d = byte_back 1 ((a - 240) * 64 + (b.byte - 128)) b.rest _ good b.so in
        let g = byte_back 0 (((a - 240) * 64 + (b.byte - 128)) * 64 + (d.byte - 128)) d.rest _ good d.so in
        let c : ℕ = (((a - 240) * 64 + (b.byte - 128)) * 64 + (d.byte - 128)) * 64 + (g.byte - 128) in
        let r = range_back past_plane c g.rest g.so in
        let p : 240 + c / 262144 ≡ a = omega (arith, b.low, b.high, d.low, d.high, g.low, g.high) in
        let q : 128 + c / 4096 % 64 ≡ b.byte = omega (arith, b.low, b.high, d.low, d.high, g.low, g.high) in
        let y : 128 + c / 64 % 64 ≡ d.byte = omega (arith, d.low, d.high, g.low, g.high) in
        let z : 128 + c % 64 ≡ g.byte = omega (arith, g.low, g.high) in
        let f : standard_of c ≡ a ∷ b.byte ∷ d.byte ∷ g.byte ∷ [] = four_form c r.0 ∙ rw (p, q, y, z) in
        record {
          point = c;
          rest = g.rest;
          of = r.1;
          parts = ap (λ (l : List ℕ). a ∷ l) (b.parts ∙ ap (λ (l : List ℕ). b.byte ∷ l) (d.parts ∙ ap (λ (l : List ℕ). d.byte ∷ l) g.parts))
              ∙ ap (λ (l : List ℕ). l ++ g.rest) (sym f);
          so = r.2;
        }

  module _ (a : ℕ) (s : List ℕ) where
    lead_back : check (leb 192 a) tt (cond (ltb a 224) (longer 1 past_one_byte (a - 192) s k)
        (cond (ltb a 240) (longer 2 past_two_bytes (a - 224) s k) (check (ltb a 248) tt (longer 3 past_plane (a - 240) s k)))) ≡ Ok good
        → Read standard_of Scalar (a ∷ s) k good
    lead_back e =
        let x = check-ok (leb 192 a) tt _ good e in
        let l : 192 ≤ a = leb-true 192 a x.0 in
        elim (dec_lt a 224) [
          | yes h ↦ two_back a s l h (rw (lt-ltb a 224 h) at x.1)
          | no g ↦
              let m : 224 ≤ a = omega arith in
              elim (dec_lt a 240) [
                | yes h ↦ three_back a s m h (rw (le-ltb a 224 m, lt-ltb a 240 h) at x.1)
                | no g ↦ let n : 240 ≤ a = omega arith in four_back a s n (check-ok (ltb a 248) tt _ good (rw (le-ltb a 224 m, le-ltb a 240 n) at x.1)).1
              ]
        ]

  pub standard_back : (s : List ℕ) → standard_point s k ≡ Ok good → Read standard_of Scalar s k good
  unfolding standard_point
  standard_back [] e = absurd (not-ok e)
  standard_back (a ∷ s) e =
      elim (dec_lt a 128) [
        | yes h ↦ one_back a s h (rw (lt-ltb a 128 h) at e)
        | no g ↦ let l : 128 ≤ a = omega arith in lead_back a s (rw (le-ltb a 128 l) at e)
      ]
