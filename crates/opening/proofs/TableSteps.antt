-- The table, by the code's steps: what is written so far, and what is left, give the whole.
use Prim.Native.Nat.{ℕ, suc, ◌+◌, ◌-◌, ◌≤◌, ◌<◌}
use mathlib.Core.Path.{◌≡◌, refl, sym, ap, ◌∙◌}
use mathlib.Core.List.{List, [], ◌∷◌, ◌++◌, append_assoc, append-nil}
use native.Mathlib.Omega.{arith}
use lib.ListN.{length, drop, set, length-append, length-drop}
use Rattle.refusal.specs.declared.Refusal.{Refusal}
use Rattle.refusal.specs.declared.Refusal.TheVariants.{Short, Dict}
use Rattle.std.specs.Prelude.{Result, Err, Ok}
use Rattle.stored_value.specs.Reading.{value_size}
use Rattle.dictionary.specs.Promises.{EndsAt}
use Rattle.dictionary.proofs.Steps.{drop_past}
use Rattle.opening.specs.Reading.{if_sized, starts_in, written_to}
use Rattle.opening.specs.Promises.{Fills}

-- i words are written, those of the first i entries, and the next entry is at p
pub record Filling (t n : ℕ) (s : List ℕ) (at : ℕ) (before table : List ℕ) (i p : ℕ) : Type 0 where
  pub some : i ≤ n
  pub room : n ≤ length before
  pub near : p ≤ length s + 4
  pub written : List ℕ
  pub many : length written ≡ i
  pub now : table ≡ written_to before written
  pub whole : starts_in t n at (drop at s) ≡ written ++ starts_in t (n - i) p (drop p s)

-- one word more
next_word : (before written : List ℕ) (p : ℕ) → length written < length before → set (written_to before written) (length written) p ≡ written_to before (written ++ (p ∷ []))
next_word [] [] p h = absurd (omega arith)
next_word (x ∷ before) [] p h = refl
next_word [] (w ∷ written) p h = absurd (omega arith)
next_word (x ∷ before) (w ∷ written) p h = ap (λ (l : List ℕ). w ∷ l) (next_word before written p (omega arith))

module _ {t n : ℕ} {s : List ℕ} {at : ℕ} {before table : List ℕ} {i p : ℕ} (st : Filling t n s at before table i p) where
  pub filling_done : n ≤ i → Fills t n s at before table
  unfolding starts_in
  filling_done h =
      let z : n - i ≡ 0 = omega arith in
      st.now ∙ ap (written_to before) (sym (append-nil st.written) ∙ sym (rw z at st.whole))

  module _ (h : i < n) where
    stored : set table i p ≡ written_to before (st.written ++ (p ∷ []))
    stored =
        let l : length st.written < length before = omega (arith, st.many, st.room) in
        rw (st.now, ← st.many) (next_word before st.written p l)

    entered : (o : Result ℕ Refusal) → value_size Short Dict t (drop p s) ≡ o
        → starts_in t n at (drop at s) ≡ st.written ++ (p ∷ if_sized o (λ k. starts_in t (n - (i + 1)) (p + k + 4) (drop (k + 4) (drop p s))))
    unfolding starts_in
    entered o e =
        let m : n - i ≡ suc (n - (i + 1)) = omega arith in
        rw m at st.whole ∙ rw e

    pub filling_refused : {r : Refusal} → value_size Short Dict t (drop p s) ≡ Err r → Fills t n s at before (set table i p)
    unfolding if_sized
    filling_refused {r} e = stored ∙ ap (written_to before) (sym (entered (Err r) e))

    pub filling_next : (e : ℕ) → EndsAt t s p e → Filling t n s at before (set table i p) (i + 1) (e + 4)
    unfolding if_sized
    filling_next e w =
        let a : p + (e - p) + 4 ≡ e + 4 = omega (arith, w.1) in
        record {
          some = omega arith;
          room = st.room;
          near = omega (arith, w.2);
          written = st.written ++ (p ∷ []);
          many = omega (arith, length-append st.written (p ∷ []), st.many);
          now = stored;
          whole =
              entered (Ok (e - p)) w.0
              ∙ rw (a, drop_past s p e 4 (omega (arith, w.1))) (sym (append_assoc st.written (p ∷ []) (starts_in t (n - (i + 1)) (e + 4) (drop (e + 4) s))));
        }
