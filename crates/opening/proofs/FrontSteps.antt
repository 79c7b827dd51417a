-- The reading of the fields in front, by the code's steps. What dictionary's functions promise is said of a reading that goes on to a dictionary; it holds of one
-- that goes on to anything.
use Prim.Native.Nat.{ℕ, ◌+◌, ◌≤◌, ◌<◌}
use mathlib.Core.Path.{◌≡◌, sym, ap, ◌∙◌}
use mathlib.Core.Bool.{Bool, true, false, cond}
use mathlib.Core.List.{List, [], ◌∷◌}
use native.Mathlib.Omega.{arith}
use lib.Dec.{eqb, ltb, leb}
use lib.ListN.{length, drop, get_or}
use borrow.Author.Tests.{le-leb, lt-leb, eq-eqb, ne_eqb}
use Rattle.numbers.specs.declared.Position.{Position}
use Rattle.numbers.specs.Meaning.{Bytes, big, be_at, number, sign_bit, position}
use Rattle.numbers.proofs.ByteLists.{bytes_drop}
use Rattle.numbers.proofs.Laws.{be_at-lt}
use Rattle.refusal.specs.Meaning.{limit}
use Rattle.refusal.specs.declared.Refusal.{Refusal}
use Rattle.refusal.specs.declared.Refusal.TheVariants.{Short, Version, Dict, Limit}
use Rattle.std.specs.Prelude.{Option, None, Some, Result, Err, Ok}
use Rattle.refusal.specs.Reading.{check}
use Rattle.refusal.proofs.Laws.{not-ok, ok_same}
use Rattle.dictionary.specs.declared.NullEntry.{NullEntry}
use Rattle.dictionary.specs.Layout.{Entry, most_values2, most_blocks}
use Rattle.dictionary.specs.Reading.{Dictionary, count_at_most, null_of}
use Rattle.dictionary.specs.Promises.{AfterCount, AfterEntries, pattern, nulls, CountAt, NullAt}
use Rattle.dictionary.proofs.Fields.{byte_at}
use Rattle.dictionary.proofs.Steps.{word_at, word_short}
use Rattle.opening.specs.Reading.{Front, rest_of_front, front}
use Rattle.opening.specs.declared.Fields.{Fields}
use Rattle.opening.specs.Promises.{front_found, NullFits, FrontIs}

-- ---- a count, whatever follows

abbrev told : ℕ → List Entry → List ℕ → Result Dictionary Refusal
told rows es rest = Ok (record { rows = rows; entries = es; region = rest })

module _ {B : Type 0} (most : ℕ) (s : List ℕ) (g : ℕ → List ℕ → Result B Refusal) where
  module _ (r : Refusal) (x : ℕ) (y : List ℕ) where
    fails : (a b c : Bool) → cond a (check b Dict (check c Limit (told x [] y))) (Err Short) ≡ Err r
        → cond a (check b Dict (check c Limit (g x y))) (Err Short) ≡ Err r
    unfolding check
    fails false b c e = let q : Short ≡ r = cc in rw q
    fails true false c e = let q : Dict ≡ r = cc in rw q
    fails true true false e = let q : Limit ≡ r = cc in rw q
    fails true true true e = absurd (not-ok (sym e))

  count_refused : {r : Refusal} → ((f : AfterCount) → count_at_most most s f ≡ Err r) → count_at_most most s g ≡ Err r
  unfolding count_at_most number
  count_refused {r} h =
      fails r (be_at 4 s 0) (drop 4 s) (leb 4 (length s)) (ltb (be_at 4 s 0) sign_bit) (leb (be_at 4 s 0) most) (h (λ n rest. told n [] rest))

  module _ (n : ℕ) (rest : List ℕ) (x : ℕ) (y : List ℕ) where
    passes : (a b c : Bool)
        → cond a (check b Dict (check c Limit (told x [] y))) (Err Short) ≡ told n [] rest
        → cond a (check b Dict (check c Limit (g x y))) (Err Short) ≡ g n rest
    unfolding check
    passes false b c e = absurd (not-ok e)
    passes true false c e = absurd (not-ok e)
    passes true true false e = absurd (not-ok e)
    passes true true true e =
        let q = ok_same _ _ e in
        let i : x ≡ n = ap (λ (d : Dictionary). d.rows) q in
        let j : y ≡ rest = ap (λ (d : Dictionary). d.region) q in
        rw (i, j)

  count_passed : {n : ℕ} {rest : List ℕ} → ((f : AfterCount) → count_at_most most s f ≡ f n rest) → count_at_most most s g ≡ g n rest
  unfolding count_at_most number
  count_passed {n} {rest} h =
      passes n rest (be_at 4 s 0) (drop 4 s) (leb 4 (length s)) (ltb (be_at 4 s 0) sign_bit) (leb (be_at 4 s 0) most) (h (λ n rest. told n [] rest))

-- ---- null's entry, whatever follows

module _ {B : Type 0} (s : List ℕ) (g : List Entry → List ℕ → Result B Refusal) where
  module _ (r : Refusal) (x : List Entry) (y : List ℕ) where
    lost : (a b : Bool) → cond a (cond b (told 0 x y) (Err Short)) (Err Short) ≡ Err r
        → cond a (cond b (g x y) (Err Short)) (Err Short) ≡ Err r
    lost false b e = let q : Short ≡ r = cc in rw q
    lost true false e = let q : Short ≡ r = cc in rw q
    lost true true e = absurd (not-ok (sym e))

  null_refused : (has : Bool) {r : Refusal} → ((f : AfterEntries) → null_of true has s f ≡ Err r) → null_of true has s g ≡ Err r
  unfolding null_of number
  null_refused false {r} h = absurd (not-ok (sym (h (λ ns rest. told 0 ns rest))))
  null_refused true {r} h = lost r _ _ (leb 4 (length s)) (leb 4 (length (drop 4 s))) (h (λ ns rest. told 0 ns rest))

  module _ (ns : List Entry) (rest : List ℕ) (x : List Entry) (y : List ℕ) where
    kept : (a b : Bool)
        → cond a (cond b (told 0 x y) (Err Short)) (Err Short) ≡ told 0 ns rest
        → cond a (cond b (g x y) (Err Short)) (Err Short) ≡ g ns rest
    kept false b e = absurd (not-ok e)
    kept true false e = absurd (not-ok e)
    kept true true e =
        let q = ok_same _ _ e in
        let i : x ≡ ns = ap (λ (d : Dictionary). d.entries) q in
        let j : y ≡ rest = ap (λ (d : Dictionary). d.region) q in
        rw (i, j)

  null_passed : (has : Bool) {ns : List Entry} {rest : List ℕ} → ((f : AfterEntries) → null_of true has s f ≡ f ns rest) → null_of true has s g ≡ g ns rest
  unfolding null_of number
  null_passed false {ns} {rest} h = kept ns rest [] s true true (h (λ ns rest. told 0 ns rest))
  null_passed true {ns} {rest} h =
      kept ns rest _ _ (leb 4 (length s)) (leb 4 (length (drop 4 s))) (h (λ ns rest. told 0 ns rest))

-- its offset is one of four bytes, as that which is read
first_offset : List Entry → ℕ
first_offset [] = 0
first_offset (e ∷ es) = e.offset

module _ (s : List ℕ) (bytes : Bytes s) where
  is_first : (ns : List Entry) (rest : List ℕ) (x : List Entry) (y : List ℕ) (a b : Bool)
      → cond a (cond b (told 0 x y) (Err Short)) (Err Short) ≡ told 0 ns rest → x ≡ ns
  is_first ns rest x y false b e = absurd (not-ok e)
  is_first ns rest x y true false e = absurd (not-ok e)
  is_first ns rest x y true true e = ap (λ (d : Dictionary). d.entries) (ok_same _ _ e)

  null_fits : (has : Bool) (null : Option NullEntry) {rest : List ℕ} → ((f : AfterEntries) → null_of true has s f ≡ f (nulls null) rest) → NullFits null
  unfolding null_of number first_offset
  null_fits has None h = tt
  null_fits false (Some n) h =
      let none : ◌≡◌ {A = List Entry} [] (nulls (Some n)) = ap (λ (d : Dictionary). d.entries) (ok_same _ _ (h (λ ns rest. told 0 ns rest))) in
      cc
  null_fits true (Some n) {rest} h =
      let same = is_first (nulls (Some n)) rest _ _ (leb 4 (length s)) (leb 4 (length (drop 4 s))) (h (λ ns rest. told 0 ns rest)) in
      let offset : be_at 4 s 0 ≡ pattern n.offset = ap first_offset same in
      rw (← offset) (be_at-lt 4 s 0 bytes)

-- ---- the fields in turn

module _ (s : List ℕ) where
  pub front_empty : length s < 1 → FrontIs s (Err Short)
  unfolding front
  front_empty h = word_short 1 s 0 _ (omega arith)

  module _ (l : 1 ≤ length s) {v : ℕ} (e : v ≡ get_or s 0 0) where
    after : List ℕ → Result Front Refusal
    after s =
        count_at_most limit s (λ rows s. count_at_most most_values2 s (λ n s.
        number big 1 (Err Short) s (λ has_null_byte s. check (leb has_null_byte 1) Dict (rest_of_front rows n (eqb has_null_byte 1) s))))

    versioned : front s ≡ check (eqb v 2) Version (after (drop 1 s))
    unfolding front after
    versioned = let b : be_at 1 s 0 ≡ v = byte_at s 0 ∙ sym e in word_at 1 s 0 _ l ∙ simp b

    pub front-version : (v ≡ 2 → ⊥) → FrontIs s (Err Version)
    unfolding check
    front-version h = versioned ∙ rw (ne_eqb v 2 h)

    module _ (two : v ≡ 2) where
      begun : front s ≡ after (drop 1 s)
      unfolding check
      begun = versioned ∙ rw (eq-eqb v 2 two)

      pub front-rows : {r : Refusal} → CountAt limit s 1 (Err r) → FrontIs s (Err r)
      unfolding after
      front-rows w = begun ∙ count_refused limit (drop 1 s) _ w

      module _ {rows : ℕ} (w : CountAt limit s 1 (Ok rows)) where
        numbered : front s ≡ count_at_most most_values2 (drop 5 s) (λ n s.
            number big 1 (Err Short) s (λ has_null_byte s. check (leb has_null_byte 1) Dict (rest_of_front rows n (eqb has_null_byte 1) s)))
        unfolding after
        numbered = begun ∙ count_passed limit (drop 1 s) _ w.0

        pub front-values : {r : Refusal} → CountAt most_values2 s 5 (Err r) → FrontIs s (Err r)
        front-values u = numbered ∙ count_refused most_values2 (drop 5 s) _ u

        module _ {n : ℕ} (u : CountAt most_values2 s 5 (Ok n)) where
          flagged : front s ≡ number big 1 (Err Short) (drop 9 s) (λ has_null_byte s. check (leb has_null_byte 1) Dict (rest_of_front rows n (eqb has_null_byte 1) s))
          flagged = numbered ∙ count_passed most_values2 (drop 5 s) _ u.0

          pub front_cut : length s < 10 → FrontIs s (Err Short)
          front_cut h = flagged ∙ word_short 1 s 9 _ (omega arith)

          module _ (ten : 10 ≤ length s) {h : ℕ} (i : h ≡ get_or s 9 0) where
            judged : front s ≡ check (leb h 1) Dict (rest_of_front rows n (eqb h 1) (drop 10 s))
            judged = let b : be_at 1 s 9 ≡ h = byte_at s 9 ∙ sym i in flagged ∙ word_at 1 s 9 _ ten ∙ simp b

            pub front-wrong : 1 < h → FrontIs s (Err Dict)
            unfolding check
            front-wrong k = judged ∙ rw (lt-leb h 1 k)

            module _ (k : h ≤ 1) where
              behind : front s ≡ rest_of_front rows n (eqb h 1) (drop 10 s)
              unfolding check
              behind = judged ∙ rw (le-leb h 1 k)

              pub front-null : {r : Refusal} → NullAt true (eqb h 1) s 10 (Err r) → FrontIs s (Err r)
              unfolding rest_of_front
              front-null x = behind ∙ null_refused (drop 10 s) _ (eqb h 1) x

              module _ (null : Option NullEntry) {p : Position} (x : NullAt true (eqb h 1) s 10 (Ok (null, p))) where
                passed : front s ≡ count_at_most most_blocks (drop p.0 s) (λ b s. check (cond (eqb n 0) (eqb b 0) (leb 1 b)) Dict
                    (Ok (record { rows = rows; values = n; nulls = nulls null; blocks = b; directory = s })))
                unfolding rest_of_front
                passed = behind ∙ null_passed (drop 10 s) _ (eqb h 1) x.0

                pub front-blocks : {r : Refusal} → CountAt most_blocks s p.0 (Err r) → FrontIs s (Err r)
                front-blocks y = passed ∙ count_refused most_blocks (drop p.0 s) _ y

                module _ {b : ℕ} (y : CountAt most_blocks s p.0 (Ok b)) {fit : Bool} (f : fit ≡ cond (eqb n 0) (eqb b 0) (leb 1 b)) where
                  tested : front s ≡ check fit Dict (Ok (record { rows = rows; values = n; nulls = nulls null; blocks = b; directory = drop (p.0 + 4) s }))
                  tested = passed ∙ count_passed most_blocks (drop p.0 s) _ y.0 ∙ rw f

                  pub front_unfit : fit ≡ false → FrontIs s (Err Dict)
                  unfolding check
                  front_unfit z = tested ∙ rw z

                  abbrev fields : Fields
                  fields = record { rows = rows; values = n; null = null; blocks = b; directory = position (p.0 + 4) }

                  -- of any numbers, bytes or not
                  pub front_read : fit ≡ true → (front s ≡ Ok (front_found s fields)) × ((fields.directory.0 ≤ length s) × (fields.blocks ≤ most_blocks))
                  unfolding check
                  front_read z = (tested ∙ rw z, (y.1, y.2))

                  -- of bytes, where null's offset has 32 bits
                  pub front_fits : fit ≡ true → Bytes s → FrontIs s (Ok fields)
                  front_fits z bytes =
                      let (read, fits) = front_read z in
                      (read, (fits.0, fits.1, null_fits (drop 10 s) (bytes_drop 10 s bytes) (eqb h 1) null x.0))
