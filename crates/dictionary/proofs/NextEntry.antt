-- The cursor over entries: of entries that stand at it, the definition of the entry at a cursor gives the first, and the cursor of the rest.
use Prim.Native.Nat.{ℕ, ◌+◌, ◌-◌, ◌≤◌, ◌<◌}
use mathlib.Core.Path.{◌≡◌, refl, sym, ◌∙◌}
use mathlib.Core.Bool.{Bool, true, false}
use mathlib.Core.List.{List, ◌∷◌}
use native.Mathlib.Decide.{dec_lt}
use native.Mathlib.Omega.{arith}
use lib.IntN.{ℤ}
use lib.ListN.{length, drop, length-drop}
use lib.Seq.{drop-drop}
use borrow.Author.Tests.{le-leb, lt-leb, ne_eqb}
use Rattle.numbers.specs.Meaning.{big, be_at, signed32, Bytes, minus_one_32, position}
use Rattle.numbers.proofs.Laws.{number_at-drop, number_at-lt}
use Rattle.refusal.specs.declared.Refusal.{Refusal}
use Rattle.refusal.specs.declared.Refusal.TheVariants.{Short, Dict}
use Rattle.std.specs.Prelude.{Err, Ok}
use Rattle.stored_value.specs.Reading.{value_size}
use Rattle.dictionary.specs.declared.Cursor.{Cursor}
use Rattle.dictionary.specs.declared.EntryAt.{EntryAt}
use Rattle.dictionary.specs.Layout.{Entry}
use Rattle.dictionary.specs.Promises.{cursor, tail, stored_extent_at, entry_of, no_entry_there, entry_ending, entry_of_size, entry_in_block, next_entry, entry_at, EntriesFrom, EntriesAt, IsNext, NextAt}
use Rattle.dictionary.proofs.Offsets.{pattern-signed}
use Rattle.dictionary.proofs.Steps.{be-behind, stand_first, stand_opened}

pub tail-two : (version2 : Bool) → version2 ≡ true → tail version2 ≡ 8
tail-two version2 h = rw h

pub extent_two : (version2 : Bool) (s : List ℕ) (e : ℕ) → version2 ≡ true → be_at 4 s (e + 4) ≡ stored_extent_at version2 e s
extent_two version2 s e h = rw h

pub extent_one : (version2 : Bool) (s : List ℕ) (e : ℕ) → version2 ≡ false → minus_one_32 ≡ stored_extent_at version2 e s
extent_one version2 s e h = rw h

tail_least : (version2 : Bool) → 4 ≤ tail version2
tail_least true = omega arith
tail_least false = omega arith

-- ---- what the definition says, by cases

module _ (t : ℕ) (version2 : Bool) (s : List ℕ) (c : Cursor) where
  pub entry-none : c.left ≡ 0 → no_entry_there ≡ entry_in_block t version2 s c
  unfolding entry_in_block
  entry-none z = rw z

  module _ (l : 1 ≤ c.left) where
    sized : entry_in_block t version2 s c ≡ entry_of_size version2 s c (value_size Short Dict t (drop c.at.0 s))
    unfolding entry_in_block
    sized = rw (ne_eqb c.left 0 (λ q. omega arith))

    pub entry_lost : {r : Refusal} → value_size Short Dict t (drop c.at.0 s) ≡ Err r → no_entry_there ≡ entry_in_block t version2 s c
    unfolding entry_of_size
    entry_lost v = sym (sized ∙ rw v)

    module _ {k : ℕ} (v : value_size Short Dict t (drop c.at.0 s) ≡ Ok k) where
      pub entry-short : length s < c.at.0 + k + tail version2 → no_entry_there ≡ entry_in_block t version2 s c
      unfolding entry_of_size
      entry-short h = sym (sized ∙ rw (v, lt-leb (c.at.0 + k + tail version2) (length s) h))

      pub entry_found : c.at.0 + k + tail version2 ≤ length s → entry_ending version2 s c (c.at.0 + k) ≡ entry_in_block t version2 s c
      unfolding entry_of_size
      entry_found h = sym (sized ∙ rw (v, le-leb (c.at.0 + k + tail version2) (length s) h))

    -- the same, by where the value ends
    module _ {q : ℕ} (v : value_size Short Dict t (drop c.at.0 s) ≡ Ok (q - c.at.0)) (g : c.at.0 ≤ q) where
      ended : c.at.0 + (q - c.at.0) ≡ q
      ended = omega arith

      pub made_none : {w : ℕ} → w ≡ tail version2 → length s < q + w → no_entry_there ≡ entry_in_block t version2 s c
      made_none e h = entry-short v (rw (ended, ← e) h)

      pub made : {o : ℤ} {x w : ℕ} → w ≡ tail version2 → q + w ≤ length s → o ≡ signed32 (be_at 4 s q) → x ≡ stored_extent_at version2 q s
          → record { start = c.at; end = position q; offset = o; extent = x; next = cursor (q + w) (c.left - 1) } ≡ entry_in_block t version2 s c
      made e h o x = cc (e, o, x, ended, entry_found v (rw (ended, ← e) h))

  pub next-cut : c.left ≡ 0 → length s < c.at.0 + 4 → no_entry_there ≡ next_entry t version2 s c
  unfolding next_entry
  next-cut z h = rw (z, lt-leb (c.at.0 + 4) (length s) h)

  pub next-opened : c.left ≡ 0 → c.at.0 + 4 ≤ length s → {n : ℕ} → n ≡ be_at 4 s c.at.0 → entry_in_block t version2 s (cursor (c.at.0 + 4) n) ≡ next_entry t version2 s c
  unfolding next_entry
  next-opened z h e = rw (z, le-leb (c.at.0 + 4) (length s) h, e)

  pub next_open : (c.left ≡ 0 → ⊥) → entry_in_block t version2 s c ≡ next_entry t version2 s c
  unfolding next_entry
  next_open h = rw (ne_eqb c.left 0 h)

-- ---- where entries stand

-- numbers behind a value of k bytes
extent_behind : (version2 : Bool) (s : List ℕ) (p k : ℕ) → stored_extent_at version2 k (drop p s) ≡ stored_extent_at version2 (p + k) s
extent_behind true s p k = let z : p + (k + 4) ≡ p + k + 4 = omega arith in be-behind 4 s p (k + 4) ∙ rw z
extent_behind false s p k = refl

entry-behind : (version2 : Bool) (s : List ℕ) (c : Cursor) (k : ℕ) → Bytes s → entry_of version2 k (drop c.at.0 s) ≡ entry_at s (entry_ending version2 s c (c.at.0 + k))
entry-behind version2 s c k b =
    let p : ℕ = c.at.0 in
    let a : k ≡ p + k - p = omega arith in
    let o = be-behind 4 s p k ∙ sym (pattern-signed (be_at 4 s (p + k)) (number_at-lt big 4 s (p + k) b)) in
    cc (a, o, extent_behind version2 s p k)

in_block : (t : ℕ) (version2 : Bool) (s : List ℕ) (c : Cursor) (e : Entry) (es : List Entry) → Bytes s → 1 ≤ c.left → EntriesAt t version2 s c (e ∷ es)
    → IsNext t version2 s (entry_in_block t version2 s c) e es
in_block t version2 s c e es b l st =
    let p : ℕ = c.at.0 in
    let h = stand_first t version2 c.left (drop p s) e es l st in
    let k = h.0 in
    let g = rw length-drop at h.2 in
    let m : p + k + tail version2 ≤ length s = omega (arith, g, tail_least version2) in
    let q : p + (k + tail version2) ≡ p + k + tail version2 = omega arith in
    rw (← entry_found t version2 s c l h.1 m)
    (record {
      so = h.3 ∙ entry-behind version2 s c k b;
      start = omega arith;
      end = omega arith;
      next = m;
      stand = rw (drop-drop (k + tail version2) p s, q) at h.4;
    })

-- where a block's number is due, it is read first
opened : (t : ℕ) (version2 : Bool) (s : List ℕ) (p : ℕ) (e : Entry) (es : List Entry) → EntriesFrom t version2 0 (drop p s) (e ∷ es)
    → (p + 4 ≤ length s) × (1 ≤ be_at 4 s p) × EntriesFrom t version2 (be_at 4 s p) (drop (p + 4) s) (e ∷ es)
opened t version2 s p e es st =
    let h = stand_opened t version2 (drop p s) e es st in
    let l = rw length-drop at h.0 in
    let b : be_at 4 (drop p s) 0 ≡ be_at 4 s p = number_at-drop big 4 s p in
    (omega arith, rw b at h.1, rw (b, drop-drop 4 p s) at h.2)

pub is_next : (t : ℕ) (version2 : Bool) (s : List ℕ) (c : Cursor) {a : EntryAt} → Bytes s → a ≡ next_entry t version2 s c → NextAt t version2 s c a
is_next t version2 s c {a} b q = record { so = q; first = λ e es st. go e es st (dec_lt 0 c.left) }
  where
    go : (e : Entry) (es : List Entry) → EntriesAt t version2 s c (e ∷ es) → Dec (0 < c.left) → IsNext t version2 s a e es
    go e es st (yes l) = rw (q, ← next_open t version2 s c (λ z. omega arith)) (in_block t version2 s c e es b l st)
    go e es st (no l) =
        let z : c.left ≡ 0 = omega arith in
        let h = opened t version2 s c.at.0 e es (rw z at st) in
        rw (q, ← next-opened t version2 s c z h.0 refl) (in_block t version2 s (cursor (c.at.0 + 4) (be_at 4 s c.at.0)) e es b h.1 h.2)
