-- Code points in turn: one law for both forms, from what is known of one code point.
use Prim.Native.Nat.{ℕ, zero, suc, ◌<◌, ◌≤◌}
use mathlib.Core.Path.{◌≡◌, refl, sym, ap, ◌∙◌}
use mathlib.Core.List.{List, [], ◌∷◌, ◌++◌}
use native.Mathlib.Decide.{ℕ_discrete}
use native.Mathlib.Omega.{arith}
use lib.ListN.{length, length-append}
use borrow.Author.Tests.{eq-eqb, ne_eqb}
use Rattle.numbers.specs.Meaning.{All}
use Rattle.std.specs.Prelude.{Err, Ok}
use Rattle.refusal.specs.Reading.{and_then}
use Rattle.refusal.proofs.Laws.{not-ok, ok_same, then_ok}
use Rattle.names.specs.Layout.{Scalar, in_turn}
use Rattle.names.specs.Reading.{Spelled, Reader, points_in}
use Rattle.names.proofs.Bits.{Read}

pub no_bytes : (s : List ℕ) → length s ≡ 0 → s ≡ []
no_bytes [] e = refl
no_bytes (a ∷ s) e = absurd (omega arith)

module _ (point : Reader (List ℕ)) where
  -- what follows of a code point, with n turns left
  abbrev pub with_rest : ℕ → ℕ → List ℕ → Spelled (List ℕ)
  with_rest n c s = and_then (points_in point n s) (λ cs. Ok (c ∷ cs))

  pub points_end : (n : ℕ) (s : List ℕ) → length s ≡ 0 → points_in point n s ≡ Ok []
  unfolding points_in
  points_end zero s e = simp (eq-eqb (length s) 0 e)
  points_end (suc n) s e = simp (eq-eqb (length s) 0 e)

  pub points_turn : (n : ℕ) (s : List ℕ) → 0 < length s → points_in point (suc n) s ≡ point s (with_rest n)
  unfolding points_in
  points_turn n s h = let x : length s ≡ 0 → ⊥ = λ e. omega arith in simp (ne_eqb (length s) 0 x)

  points_none : (s : List ℕ) → 0 < length s → points_in point zero s ≡ Err tt
  unfolding points_in
  points_none s h = let x : length s ≡ 0 → ⊥ = λ e. omega arith in simp (ne_eqb (length s) 0 x)

  rest_read : (n c : ℕ) (s cs : List ℕ) → points_in point n s ≡ Ok cs → with_rest n c s ≡ Ok (c ∷ cs)
  unfolding and_then
  rest_read n c s cs e = rw e

  module _ (form : ℕ → List ℕ) where
    module _ (laid : (c : ℕ) (t : List ℕ) (k : ℕ → List ℕ → Spelled (List ℕ)) → Scalar c → point (form c ++ t) k ≡ k c t) (some : (c : ℕ) → 1 ≤ length (form c)) where
      pub points_laid : (cs : List ℕ) → All Scalar cs → (n : ℕ) → length (in_turn form cs) ≤ n → points_in point n (in_turn form cs) ≡ Ok cs
      points_laid [] h n l = points_end n [] refl
      points_laid (c ∷ cs) h zero l = absurd (omega (arith, length-append (form c) (in_turn form cs), some c))
      points_laid (c ∷ cs) h (suc n) l =
          let x = length-append (form c) (in_turn form cs) in
          let y = some c in
          points_turn n (form c ++ in_turn form cs) (omega arith) ∙ laid c (in_turn form cs) (with_rest n) h.0 ∙ rest_read n c (in_turn form cs) cs (points_laid cs h.1 n (omega arith))

    module _ (back : (s : List ℕ) (k : ℕ → List ℕ → Spelled (List ℕ)) (good : List ℕ) → point s k ≡ Ok good → Read form Scalar s k good) where
      end_back : (n : ℕ) (s cs : List ℕ) → length s ≡ 0 → points_in point n s ≡ Ok cs → All Scalar cs × (s ≡ in_turn form cs)
      end_back n s cs z e = let q : [] ≡ cs = ok_same [] cs (sym (points_end n s z) ∙ e) in rw (← q) (tt, no_bytes s z)

      pub points_back : (n : ℕ) (s cs : List ℕ) → points_in point n s ≡ Ok cs → All Scalar cs × (s ≡ in_turn form cs)
      points_back zero s cs e =
          elim (ℕ_discrete (length s) 0) [ yes z ↦ end_back zero s cs z e | no z ↦ absurd (not-ok (sym (points_none s (omega arith)) ∙ e)) ]
      points_back (suc n) s cs e =
          elim (ℕ_discrete (length s) 0) [
            | yes z ↦ end_back (suc n) s cs z e
            | no z ↦
                let r = back s (with_rest n) cs (sym (points_turn n s (omega arith)) ∙ e) in
                let t = then_ok (points_in point n r.rest) (λ ds. Ok (r.point ∷ ds)) cs r.so in
                let i = points_back n r.rest t.0 t.1 in
                let q : r.point ∷ t.0 ≡ cs = ok_same (r.point ∷ t.0) cs t.2 in
                rw (← q) ((r.of, i.0), r.parts ∙ ap (λ (l : List ℕ). form r.point ++ l) i.1)
          ]
