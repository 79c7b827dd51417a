-- An entry of the directory, and the body offset behind the directory, by the code's steps.
use Prim.Native.Nat.{ℕ, ◌+◌, ◌-◌, ◌≤◌, ◌<◌}
use mathlib.Core.Path.{◌≡◌, ◌∙◌}
use mathlib.Core.List.{List}
use native.Mathlib.Omega.{arith}
use lib.Dec.{leb}
use lib.ListN.{length, take, drop, get_or, length-drop}
use borrow.Author.Tests.{eq-eqb, ne_eqb, le-leb, lt-leb}
use Rattle.numbers.specs.Meaning.{be_at, four_bytes, position}
use Rattle.refusal.specs.declared.Refusal.{Refusal}
use Rattle.refusal.specs.declared.Refusal.TheVariants.{Short, Dict}
use Rattle.std.specs.Prelude.{Result, Err, Ok}
use Rattle.refusal.specs.Reading.{check, and_then}
use Rattle.stored_value.specs.Reading.{value_size, value_of}
use Rattle.dictionary.specs.Promises.{EndsAt}
use Rattle.dictionary.proofs.Steps.{word_at, word_short, drop_past}
use Rattle.numbers.specs.declared.Position.{Position}
use Rattle.opening.specs.declared.Fields.{Fields}
use Rattle.opening.specs.Promises.{front_found}
use Rattle.lookup.specs.declared.Listing.{Listing}
use Rattle.lookup.specs.declared.Base.{Base}
use Rattle.lookup.specs.Reading.{EntryRead, entry_read, entry_for, behind_directory}
use Rattle.lookup.specs.Promises.{ListedAt, EndIs, AfterBase, based, BaseIs}

-- a value at a position, and what follows it
module _ {A : Type 0} (t : ℕ) (s : List ℕ) (p : ℕ) (k : List ℕ → List ℕ → Result A Refusal) where
  pub value_refused : {r : Refusal} → value_size Short Dict t (drop p s) ≡ Err r → value_of Short Dict t (drop p s) k ≡ Err r
  unfolding value_of and_then
  value_refused e = rw e

  pub value_passed : (e : ℕ) → EndsAt t s p e → value_of Short Dict t (drop p s) k ≡ k (take (e - p) (drop p s)) (drop e s)
  unfolding value_of and_then
  value_passed e w =
      let z : e - p + 0 ≡ e - p = omega arith in
      let y : e + 0 ≡ e = omega arith in
      let d : drop (e - p) (drop p s) ≡ drop e s = rw (z, y) at (drop_past s p e 0 (omega (arith, w.1))) in
      rw (w.0, d)

-- ---- an entry of the directory

module _ (t : ℕ) (s : List ℕ) (p e : ℕ) (w : EndsAt t s p e) where
  pub listing-short : length s - e < 4 → ListedAt t s p (Err Short)
  unfolding entry_read
  listing-short h = value_passed t s p _ e w ∙ word_short 4 s e _ h

  pub listing_is : e + 4 ≤ length s → {offset : ℕ} → offset ≡ be_at 4 s e → offset < four_bytes → ListedAt t s p (Ok (record { end = position e; offset = offset }))
  unfolding entry_read
  listing_is h o l = (value_passed t s p _ e w ∙ rw o (word_at 4 s e _ h), w.1, h, l)

-- ---- the body offset

module _ (t : ℕ) (table s : List ℕ) (f : Fields) {x : Result Position Refusal} (w : EndIs t table s f x) {p : ℕ} (e : x ≡ Ok (position p)) where
  ended : EndIs t table s f (Ok (position p))
  ended = rw e at w

  pub base_short : length s - p < 4 → BaseIs t table s f (Err Short)
  unfolding and_then
  base_short h k = rw ended.0 (word_short 4 s p _ h)

  module _ (h : p + 4 ≤ length s) {offset : ℕ} (o : offset ≡ be_at 4 s p) where
    tested : (k : AfterBase) → and_then (behind_directory t table s (front_found s f)) (λ rest. based rest k)
        ≡ check (leb offset (length s - (p + 4))) Dict (k offset (drop (p + 4) s))
    unfolding and_then
    tested k = rw ended.0 (word_at 4 s p _ h ∙ rw (← o, length-drop))

    pub base-past : length s - (p + 4) < offset → BaseIs t table s f (Err Dict)
    unfolding check
    base-past l k = tested k ∙ rw (lt-leb offset (length s - (p + 4)) l)

    pub base_at : offset ≤ length s - (p + 4) → BaseIs t table s f (Ok (record { base = position (p + 4); region = position (p + 4 + offset) }))
    unfolding check
    base_at l =
        let z : p + 4 + offset - (p + 4) ≡ offset = omega arith in
        (λ k. tested k ∙ rw (le-leb offset (length s - (p + 4)) l, z), omega arith, omega arith)
