-- Continuation bytes one by one, the tests of a code point, and what a code point that was read is.
use Prim.Native.Nat.{ℕ, suc, ◌+◌, ◌-◌, ◌*◌, ◌/◌, ◌%◌, ◌<◌, ◌≤◌}
use mathlib.Core.Path.{◌≡◌, refl, ap, ◌∙◌}
use mathlib.Core.Bool.{Bool, true, false, ◌&&◌, ◌||◌}
use mathlib.Core.List.{List, [], ◌∷◌, ◌++◌}
use mathlib.Core.Logic.{inl, inr}
use native.Mathlib.Omega.{arith}
use lib.Dec.{leb, ltb}
use borrow.Author.Tests.{lt-ltb, le-ltb, le-leb, ltb-true, leb-true}
use Rattle.numbers.proofs.Booleans.{and_both}
use Rattle.std.specs.Prelude.{Ok}
use Rattle.refusal.specs.Reading.{check}
use Rattle.refusal.proofs.Laws.{not-ok, check-ok}
use Rattle.names.specs.Layout.{first_high, past_surrogates, past_last, Scalar}
use Rattle.names.specs.Reading.{Spelled, continued, is_scalar}

-- a code point that was read: what it is, what is left, and what follows of both
pub record Read {A : Type 0} (form : ℕ → List ℕ) (Of : ℕ → Type 0) (s : List ℕ) (k : ℕ → List ℕ → Spelled A) (good : A) : Type 0 where
  pub point : ℕ
  pub rest : List ℕ
  pub of : Of point
  pub parts : s ≡ form point ++ rest
  pub so : k point rest ≡ Ok good

pub clash : true ≡ false → ⊥
clash e = let z : ◌≡◌ {A = ℕ} 0 1 = cc in omega arith

-- ---- the tests of a code point

pub scalar_tested : (c : ℕ) → Scalar c → is_scalar c ≡ true
unfolding is_scalar
scalar_tested c (inl h) = simp lt-ltb
scalar_tested c (inr h) = let l = h.0 in let m = h.1 in let n : first_high ≤ c = omega arith in simp (le-ltb c first_high n, le-leb, lt-ltb)

pub tested_scalar : (c : ℕ) → is_scalar c ≡ true → Scalar c
unfolding is_scalar
tested_scalar c e = by (ltb c first_high) refl e
  where
    by : (b : Bool) → ltb c first_high ≡ b → b || (leb past_surrogates c && ltb c past_last) ≡ true → Scalar c
    by true h e = inl (ltb-true c first_high h)
    by false h e = let x = and_both (leb past_surrogates c) (ltb c past_last) e in inr (leb-true past_surrogates c x.0, ltb-true c past_last x.1)

-- ---- continuation bytes

pub byte_laid : {A : Type 0} (n v b : ℕ) (s : List ℕ) (k : ℕ → List ℕ → Spelled A) → 128 ≤ b → b < 192
    → continued (suc n) v (b ∷ s) k ≡ continued n (v * 64 + (b - 128)) s k
unfolding continued check
byte_laid n v b s k l h = simp (le-leb, lt-ltb)

-- what a continuation byte that was read is
pub record Byte {A : Type 0} (n v : ℕ) (s : List ℕ) (k : ℕ → List ℕ → Spelled A) (good : A) : Type 0 where
  pub byte : ℕ
  pub rest : List ℕ
  pub low : 128 ≤ byte
  pub high : byte < 192
  pub parts : s ≡ byte ∷ rest
  pub so : continued n (v * 64 + (byte - 128)) rest k ≡ Ok good

pub byte_back : {A : Type 0} (n v : ℕ) (s : List ℕ) (k : ℕ → List ℕ → Spelled A) (good : A) → continued (suc n) v s k ≡ Ok good → Byte n v s k good
unfolding continued
byte_back n v [] k good e = absurd (not-ok e)
byte_back n v (b ∷ s) k good e =
    let x = check-ok (leb 128 b && ltb b 192) tt (continued n (v * 64 + (b - 128)) s k) good e in
    let y = and_both (leb 128 b) (ltb b 192) x.0 in
    record { byte = b; rest = s; low = leb-true 128 b y.0; high = ltb-true b 192 y.1; parts = refl; so = x.1 }

-- ---- two, three and four bytes of a value: what is left of them behind the lead byte is read

module _ {A : Type 0} (v : ℕ) (t : List ℕ) (k : ℕ → List ℕ → Spelled A) where
  -- the last continuation byte, whatever stands before it
  pub last_laid : (bits : ℕ) → bits ≡ v / 64 → continued 1 bits ((128 + v % 64) ∷ t) k ≡ k v t
  unfolding continued
  last_laid bits e =
      let g : bits * 64 + (128 + v % 64 - 128) ≡ v = omega arith in
      byte_laid 0 bits (128 + v % 64) t k (omega arith) (omega arith) ∙ ap (λ (x : ℕ). k x t) g

  pub two_laid : (bits : ℕ) → bits ≡ v / 4096 → continued 2 bits ((128 + v / 64 % 64) ∷ (128 + v % 64) ∷ t) k ≡ k v t
  two_laid bits e =
      byte_laid 1 bits (128 + v / 64 % 64) ((128 + v % 64) ∷ t) k (omega arith) (omega arith) ∙ last_laid (bits * 64 + (128 + v / 64 % 64 - 128)) (omega arith)

  pub three_laid : (bits : ℕ) → bits ≡ v / 262144 → continued 3 bits ((128 + v / 4096 % 64) ∷ (128 + v / 64 % 64) ∷ (128 + v % 64) ∷ t) k ≡ k v t
  three_laid bits e =
      byte_laid 2 bits (128 + v / 4096 % 64) ((128 + v / 64 % 64) ∷ (128 + v % 64) ∷ t) k (omega arith) (omega arith)
      ∙ two_laid (bits * 64 + (128 + v / 4096 % 64 - 128)) (omega arith)
