-- A block, by the code's steps: what is left of its entries gives the whole.
use Prim.Native.Nat.{ℕ, suc, ◌+◌, ◌-◌, ◌≤◌, ◌<◌}
use mathlib.Core.Path.{◌≡◌, sym, ◌∙◌}
use mathlib.Core.Bool.{true, false, ◌&&◌, cond}
use mathlib.Core.List.{List, [], ◌∷◌}
use native.Mathlib.Decide.{dec_lt}
use native.Mathlib.Omega.{arith}
use lib.Dec.{ltb, leb}
use lib.IntN.{ℤ}
use lib.ListN.{length, take, drop, length-drop}
use lib.Seq.{drop-drop, length-take-le}
use mir.Syntax.{w32}
use mir.Val.{to_z, of_z}
use borrow.Author.Tests.{eq-eqb, ne_eqb, le-leb, lt-leb, lt-ltb, le-ltb}
use Rattle.numbers.specs.Meaning.{big, number, be_at, same, sign_bit}
use Rattle.numbers.proofs.SameBytes.{same→eq, same-other}
use Rattle.refusal.specs.declared.Refusal.{Refusal}
use Rattle.refusal.specs.declared.Refusal.TheVariants.{Short, Dict}
use Rattle.std.specs.Prelude.{Option, None, Some, Result, Err, Ok}
use Rattle.refusal.specs.Reading.{check}
use Rattle.stored_value.specs.Meaning.{value}
use Rattle.stored_value.specs.Reading.{value_size}
use Rattle.dictionary.specs.Promises.{EndsAt, OffsetAt}
use Rattle.dictionary.proofs.Offsets.{pattern_passed}
use Rattle.dictionary.proofs.Steps.{word_at, word_short}
use Rattle.lookup.specs.declared.Place.{Place}
use Rattle.lookup.specs.declared.Found.{Found}
use Rattle.lookup.specs.Reading.{searched_in, searched}
use Rattle.lookup.specs.Promises.{SearchedFrom, SearchedAt, BlockAt}
use Rattle.lookup.proofs.ListingSteps.{value_refused, value_passed}

-- i entries of n were compared, and the next stands at p
pub record Searching (t : ℕ) (literal : List ℕ) (n : ℕ) (s : List ℕ) (at i p : ℕ) : Type 0 where
  pub some : i ≤ n
  pub inside : p ≤ length s
  pub whole : searched_in t literal n n 0 (drop at s) ≡ searched_in t literal n (n - i) i (drop p s)

module _ {t : ℕ} {literal : List ℕ} {n : ℕ} {s : List ℕ} {at i p : ℕ} (st : Searching t literal n s at i p) where
  pub searching_done : n ≤ i → SearchedFrom t literal n s at (Ok (record { place = None; compared = n }))
  unfolding searched_in
  searching_done h = let z : n - i ≡ 0 = omega arith in let j : i ≡ n = omega (arith, st.some) in (rw (z, j) at st.whole, omega arith)

  module _ (h : i < n) where
    left : n - i ≡ suc (n - (i + 1))
    left = omega arith

    pub searching_refused : {r : Refusal} → value_size Short Dict t (drop p s) ≡ Err r → SearchedFrom t literal n s at (Err r)
    unfolding searched_in
    searching_refused e = rw left at st.whole ∙ value_refused t s p _ e

    module _ (e : ℕ) (w : EndsAt t s p e) where
      abbrev v : List ℕ
      v = take (e - p) (drop p s)

      passed : searched_in t literal n n 0 (drop at s) ≡ number big 4 (Err Short) (drop e s) (λ offset s. number big 4 (Err Short) s (λ extent s.
          cond (same v literal)
          (Ok (record { entries = n; hit = record { cell = value v; offset = offset; extent = extent } ∷ []; compared = i + 1 }))
          (searched_in t literal n (n - (i + 1)) (i + 1) s)))
      unfolding searched_in
      passed = rw left at st.whole ∙ value_passed t s p _ e w

      pub searching_short : length s - e < 8 → SearchedFrom t literal n s at (Err Short)
      searching_short l = passed ∙ go (dec_lt (length s - e) 4)
        where
          go : Dec (length s - e < 4) → number big 4 (Err Short) (drop e s) (λ offset s. number big 4 (Err Short) s (λ extent s.
              cond (same v literal)
              (Ok (record { entries = n; hit = record { cell = value v; offset = offset; extent = extent } ∷ []; compared = i + 1 }))
              (searched_in t literal n (n - (i + 1)) (i + 1) s))) ≡ Err Short
          go (yes c) = word_short 4 s e _ c
          go (no c) = word_at 4 s e _ (omega (arith, w.2)) ∙ word_short 4 s (e + 4) _ (omega arith)

      module _ (l : e + 8 ≤ length s) where
        read : searched_in t literal n n 0 (drop at s) ≡ cond (same v literal)
            (Ok (record { entries = n; hit = record { cell = value v; offset = be_at 4 s e; extent = be_at 4 s (e + 4) } ∷ []; compared = i + 1 }))
            (searched_in t literal n (n - (i + 1)) (i + 1) (drop (e + 8) s))
        read =
            let z : e + 4 + 4 ≡ e + 8 = omega arith in
            rw (← z) (passed ∙ word_at 4 s e _ (omega arith) ∙ word_at 4 s (e + 4) _ (omega arith))

        pub searching_hit : same v literal ≡ true → {z : ℤ} → OffsetAt s e z → {x : ℕ} → x ≡ be_at 4 s (e + 4)
            → SearchedFrom t literal n s at (Ok (record { place = Some (record { offset = to_z w32 (of_z w32 z); extent = x }); compared = i + 1 }))
        searching_hit q o x =
            (read ∙ rw (q, same→eq v literal q, pattern_passed (be_at 4 s e) o.0 o.1, x), omega arith)

        pub searching_next : same v literal ≡ false → Searching t literal n s at (i + 1) (e + 8)
        searching_next q = record { some = omega arith; inside = l; whole = read ∙ rw q }

        -- a value of another length than the literal's is another value
        pub searching_other : (e - p ≡ length literal → ⊥) → Searching t literal n s at (i + 1) (e + 8)
        searching_other q =
            let k : length v ≡ e - p = length-take-le (e - p) (drop p s) (rw (length-drop p s) (omega arith)) in
            searching_next (same-other v literal (λ h. q (sym k ∙ h)))

-- ---- the block's number

module _ (t : ℕ) (literal s : List ℕ) (p : ℕ) where
  pub block-short : length s - p < 4 → SearchedAt t literal s p (Err Short)
  unfolding searched
  block-short h = word_short 4 s p _ h

  module _ (h : p + 4 ≤ length s) {n : ℕ} (e : n ≡ be_at 4 s p) where
    numbered : searched t literal (drop p s) ≡ check (leb 1 n && ltb n sign_bit) Dict (searched_in t literal n n 0 (drop (p + 4) s))
    unfolding searched
    numbered = rw e (word_at 4 s p _ h)

    pub block_empty : n < 1 → SearchedAt t literal s p (Err Dict)
    unfolding check
    block_empty l = numbered ∙ rw (lt-leb 1 n l)

    pub block_negative : 1 ≤ n → sign_bit ≤ n → SearchedAt t literal s p (Err Dict)
    unfolding check
    block_negative l m = numbered ∙ rw (le-leb 1 n l, le-ltb n sign_bit m)

    pub block-searched : 1 ≤ n → n < sign_bit → (r : Result Found Refusal) → SearchedFrom t literal n s (p + 4) r → SearchedAt t literal s p r
    unfolding check
    block-searched l m (Err r) w = numbered ∙ rw (le-leb 1 n l, lt-ltb n sign_bit m) w
    block-searched l m (Ok f) w = (n, numbered ∙ rw (le-leb 1 n l, lt-ltb n sign_bit m) w.0, omega (arith, w.1))
