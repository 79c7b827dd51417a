-- The reading by the code's steps. Entries that are read stand where the code finds them.
use Prim.Native.Nat.{ℕ, ◌+◌, ◌-◌, ◌≤◌, ◌<◌}
use mathlib.Core.Path.{◌≡◌, refl, ap, sym, ◌∙◌}
use mathlib.Core.Bool.{Bool, true, false}
use mathlib.Core.List.{List, [], ◌∷◌}
use native.Mathlib.Omega.{arith}
use lib.Dec.{eqb, leb}
use lib.ListN.{length, drop, length-drop}
use lib.Seq.{drop-drop}
use borrow.Author.Tests.{leb-true, leb-false, ne_eqb}
use Rattle.numbers.specs.Meaning.{big, be_at, number}
use Rattle.numbers.proofs.Laws.{number_at_lem, number_short, number_at-drop}
use Rattle.refusal.specs.declared.Refusal.{Refusal}
use Rattle.refusal.specs.declared.Refusal.TheVariants.{Short, Dict}
use Rattle.std.specs.Prelude.{Result, Err, Ok}
use Rattle.refusal.specs.Reading.{check}
use Rattle.stored_value.specs.Reading.{value_size}
use Rattle.stored_value.proofs.Laws.{value_read}
use Rattle.dictionary.specs.Layout.{Entry}
use Rattle.dictionary.specs.Promises.{tail, entry_of, EntriesFrom, EndsAt}

-- ---- a number of w bytes behind k others

module _ {A : Type 0} (w : ℕ) (s : List ℕ) (k : ℕ) (f : ℕ → List ℕ → Result A Refusal) where
  pub word_at : k + w ≤ length s → number big w (Err Short) (drop k s) f ≡ f (be_at w s k) (drop (k + w) s)
  word_at h = number_at_lem big w (Err Short) s k f h

  pub word_short : length s - k < w → number big w (Err Short) (drop k s) f ≡ Err Short
  word_short h = number_short big w (Err Short) s k f h

  -- as a test
  pub word_test : 0 < w → number big w (Err Short) (drop k s) f ≡ check (leb (k + w) (length s)) Short (f (be_at w s k) (drop (k + w) s))
  unfolding check
  word_test z = go (leb (k + w) (length s)) refl
    where
      go : (b : Bool) → leb (k + w) (length s) ≡ b → number big w (Err Short) (drop k s) f ≡ check b Short (f (be_at w s k) (drop (k + w) s))
      go true h = word_at (leb-true (k + w) (length s) h)
      go false h = let l : length s < k + w = leb-false (k + w) (length s) h in word_short (omega arith)

-- ---- a value that was read, by its size
module _ (t : ℕ) (s : List ℕ) (p k : ℕ) (e : value_size Short Dict t (drop p s) ≡ Ok k) where
  pub known-to : {n : ℕ} → n ≡ k → EndsAt t s p (p + n)
  known-to {n} q =
      let w = value_read Short Dict t (drop p s) k e in
      let l = rw length-drop at w.fits in
      let z : p + n - p ≡ n = omega arith in
      (rw (z, q) e, omega (arith, w.some), omega (arith, w.some))

-- a number of w bytes behind p + k bytes is one behind k of what is left behind p
pub be-behind : (w : ℕ) (s : List ℕ) (p k : ℕ) → be_at w (drop p s) k ≡ be_at w s (p + k)
be-behind w s p k =
    sym (number_at-drop big w (drop p s) k) ∙ ap (λ (l : List ℕ). be_at w l 0) (drop-drop k p s) ∙ number_at-drop big w s (p + k)

pub offset-behind : (s : List ℕ) (p e : ℕ) → p ≤ e → be_at 4 (drop p s) (e - p) ≡ be_at 4 s e
offset-behind s p e h = let z : p + (e - p) ≡ e = omega arith in be-behind 4 s p (e - p) ∙ rw z

-- what is left behind w bytes more than a value that ends at e
pub drop_past : (s : List ℕ) (p e w : ℕ) → p ≤ e → drop (e - p + w) (drop p s) ≡ drop (e + w) s
drop_past s p e w h = let z : p + (e - p + w) ≡ e + w = omega arith in drop-drop (e - p + w) p s ∙ rw z

-- ---- entries stand one before another

pub stand_none : (t : ℕ) (version2 : Bool) (left : ℕ) (s : List ℕ) → EntriesFrom t version2 left s []
unfolding EntriesFrom
stand_none t version2 left s = tt

-- one more in front, in a block that is open
pub stand_cons : (t : ℕ) (version2 : Bool) (left : ℕ) (s : List ℕ) (k : ℕ) (es : List Entry) → 1 ≤ left → value_size Short Dict t s ≡ Ok k → k + tail version2 ≤ length s
    → EntriesFrom t version2 (left - 1) (drop (k + tail version2) s) es → EntriesFrom t version2 left s (entry_of version2 k s ∷ es)
unfolding EntriesFrom
stand_cons t version2 left s k es h e l r =
    let z : eqb left 0 ≡ false = ne_eqb left 0 (λ q. omega arith) in
    simp z (omega arith, h, (k, e, l, refl, r))

-- the first, in a block that is open
pub stand_first : (t : ℕ) (version2 : Bool) (left : ℕ) (s : List ℕ) (e : Entry) (es : List Entry) → 1 ≤ left → EntriesFrom t version2 left s (e ∷ es)
    → (k : ℕ) × (value_size Short Dict t s ≡ Ok k) × (k + tail version2 ≤ length s) × (e ≡ entry_of version2 k s) × EntriesFrom t version2 (left - 1) (drop (k + tail version2) s) es
unfolding EntriesFrom
stand_first t version2 left s e es h st =
    let z : eqb left 0 ≡ false = ne_eqb left 0 (λ q. omega arith) in
    (rw z at st).2

-- where a block's number is due
pub stand_opened : (t : ℕ) (version2 : Bool) (s : List ℕ) (e : Entry) (es : List Entry) → EntriesFrom t version2 0 s (e ∷ es)
    → (4 ≤ length s) × (1 ≤ be_at 4 s 0) × EntriesFrom t version2 (be_at 4 s 0) (drop 4 s) (e ∷ es)
unfolding EntriesFrom
stand_opened t version2 s e es st =
    let z : eqb (be_at 4 s 0) 0 ≡ false = ne_eqb (be_at 4 s 0) 0 (λ q. omega arith) in
    (st.0, st.1, simp z (omega arith, st.1, st.2))

pub stand_opening : (t : ℕ) (version2 : Bool) (s : List ℕ) (es : List Entry) → 4 ≤ length s → 1 ≤ length es → 1 ≤ be_at 4 s 0
    → EntriesFrom t version2 (be_at 4 s 0) (drop 4 s) es → EntriesFrom t version2 0 s es
unfolding EntriesFrom
stand_opening t version2 s [] h l m st = tt
stand_opening t version2 s (e ∷ es) h l m st = (h, m, stand_first t version2 (be_at 4 s 0) (drop 4 s) e es m st)
