-- The reading of a dictionary's first fields and of null's entry, by the code's steps.
use Prim.Native.Nat.{ℕ, zero, suc, ◌+◌, ◌-◌, ◌≤◌, ◌<◌}
use mathlib.Core.Path.{◌≡◌, refl, sym, ap, ◌∙◌}
use mathlib.Core.Logic.{◌⊎◌, ⊎_elim, inl, inr}
use mathlib.Core.Bool.{Bool, true, false, ◌||◌, cond}
use mathlib.Core.List.{List, []}
use native.Mathlib.Nat.{zero-add, add-zero}
use native.Mathlib.Omega.{arith}
use native.Mathlib.Decide.{dec_lt, ℕ_discrete}
use lib.Dec.{eqb, ltb, leb}
use lib.IntN.{ℤ}
use lib.ListN.{length, get_or, drop, length-append}
use mir.Syntax.{w32}
use mir.Val.{to_z, of_z}
use borrow.Author.Tests.{le-leb, lt-leb, lt-ltb, le-ltb, eq-eqb, ne_eqb, eqb-true, eqb-false}
use Rattle.numbers.specs.Meaning.{big, be_at, number, signed32, sign_bit, minus_one_32}
use Rattle.stored_value.specs.Meaning.{types}
use Rattle.refusal.specs.Meaning.{limit}
use Rattle.refusal.specs.declared.Refusal.{Refusal}
use Rattle.refusal.specs.declared.Refusal.TheVariants.{Short, Version, Dict, Literal, Limit}
use Rattle.std.specs.Prelude.{Result, Err, Ok, Option, Some}
use Rattle.refusal.specs.Reading.{check, numbers_of}
use Rattle.refusal.proofs.Laws.{not-ok, ok_same}
use Rattle.numbers.specs.declared.Position.{Position}
use Rattle.dictionary.specs.declared.Summary.{Summary}
use Rattle.dictionary.specs.declared.Version.{Version as Layouts}
use Rattle.dictionary.specs.declared.Version.TheVariants.{One, Two}
use Rattle.dictionary.specs.declared.Front.{Front}
use Rattle.dictionary.specs.declared.NullEntry.{NullEntry}
use Rattle.dictionary.specs.declared.AllEntries.{AllEntries}
use Rattle.dictionary.specs.Layout.{most_values1, most_values2}
use Rattle.dictionary.specs.Reading.{Dictionary, count_at_most, null_of, entries_version_one, blocked, dictionary}
use Rattle.dictionary.specs.Promises.{is_two, version_of, value_limit, AfterEntries, AfterCount, pattern, nulls, nulls_of, IsRead, ReadsDictionary, CountAt, NullAt, entries_of, FixedOf, AllEntriesAt}
use Rattle.dictionary.proofs.Offsets.{pattern_passed}
use Rattle.dictionary.proofs.Steps.{word_at, word_short}

-- ---- a count

module _ (most : ℕ) (s : List ℕ) (p : ℕ) where
  pub count-short : length s - p < 4 → (f : AfterCount) → count_at_most most (drop p s) f ≡ Err Short
  unfolding count_at_most
  count-short h f = word_short 4 s p _ h

  module _ (h : p + 4 ≤ length s) {n : ℕ} (e : n ≡ be_at 4 s p) where
    tested : (f : AfterCount) → count_at_most most (drop p s) f ≡ check (ltb n sign_bit) Dict (check (leb n most) Limit (f n (drop (p + 4) s)))
    unfolding count_at_most
    tested f = rw e (word_at 4 s p _ h)

    pub count_negative : sign_bit ≤ n → (f : AfterCount) → count_at_most most (drop p s) f ≡ Err Dict
    unfolding check
    count_negative l f = tested f ∙ rw le-ltb

    pub count-over : n < sign_bit → most < n → (f : AfterCount) → count_at_most most (drop p s) f ≡ Err Limit
    unfolding check
    count-over l m f = tested f ∙ rw (lt-ltb, lt-leb)

    pub count_is : n < sign_bit → n ≤ most → (f : AfterCount) → count_at_most most (drop p s) f ≡ f n (drop (p + 4) s)
    unfolding check
    count_is l m f = tested f ∙ rw (lt-ltb, le-leb)

-- ---- null's entry

module _ (s : List ℕ) (p : ℕ) (version2 : Bool) {has : Bool} where
  pub null-none : has ≡ false → (f : AfterEntries) → null_of version2 has (drop p s) f ≡ f [] (drop p s)
  unfolding null_of
  null-none n f = rw n

  module _ (y : has ≡ true) where
    pub null-short : length s - p < 4 → (f : AfterEntries) → null_of version2 has (drop p s) f ≡ Err Short
    unfolding null_of
    null-short h f = rw y (go version2)
      where
        go : (version2 : Bool) → null_of version2 true (drop p s) f ≡ Err Short
        go false = word_short 4 s p _ h
        go true = word_short 4 s p _ h

    module _ (h : p + 4 ≤ length s) {z : ℤ} (o : z ≡ signed32 (be_at 4 s p)) (i : be_at 4 s p < 4294967296) where
      e : pattern (to_z w32 (of_z w32 z)) ≡ be_at 4 s p
      e = pattern_passed (be_at 4 s p) o i

      pub null-one : version2 ≡ false → (f : AfterEntries) → null_of version2 has (drop p s) f ≡ f (nulls (Some (record { offset = to_z w32 (of_z w32 z); extent = minus_one_32 }))) (drop (p + 4) s)
      unfolding null_of
      null-one w f = rw (y, w, e) (word_at 4 s p _ h)

      module _ (w : version2 ≡ true) where
        pub null-cut : length s - (p + 4) < 4 → (f : AfterEntries) → null_of version2 has (drop p s) f ≡ Err Short
        unfolding null_of
        null-cut l f = rw (y, w) (word_at 4 s p _ h ∙ word_short 4 s (p + 4) _ l)

        pub null-two : p + 4 + 4 ≤ length s → {m : ℕ} → m ≡ be_at 4 s (p + 4) → (f : AfterEntries)
            → null_of version2 has (drop p s) f ≡ f (nulls (Some (record { offset = to_z w32 (of_z w32 z); extent = m }))) (drop (p + 4 + 4) s)
        unfolding null_of
        null-two l d f = rw (y, w, e, d) (word_at 4 s p _ h ∙ word_at 4 s (p + 4) _ l)

-- ---- the first ten bytes

pub byte_at : (s : List ℕ) (p : ℕ) → be_at 1 s p ≡ get_or s p 0
byte_at s p = simp (zero-add, add-zero)

-- whether there is a first byte, by the code's test

pub none_there : (n : ℕ) {b : Bool} → b ≡ eqb n 0 → b ≡ true → n < 1
none_there n g h = let z : n ≡ 0 = eqb-true n 0 (sym g ∙ h) in omega arith

pub some_there : (n : ℕ) {b : Bool} → b ≡ eqb n 0 → b ≡ false → 1 ≤ n
some_there n g h = let z : n ≡ 0 → ⊥ = eqb-false n 0 (sym g ∙ h) in omega arith

-- the version that it says

version_err : (v : ℕ) {r : Refusal} → version_of v ≡ Err r → (Version ≡ r) × ((v < 1) ⊎ (2 < v))
version_err v {r} h = by (ℕ_discrete v 1) (ℕ_discrete v 2) (dec_lt v 1)
  where
    by : Dec (v ≡ 1) → Dec (v ≡ 2) → Dec (v < 1) → (Version ≡ r) × ((v < 1) ⊎ (2 < v))
    by (yes a) b d = absurd (not-ok (sym (rw (eq-eqb v 1 a) at h)))
    by (no a) (yes b) d = absurd (not-ok (sym (rw (ne_eqb v 1 a, eq-eqb v 2 b) at h)))
    by (no a) (no b) (yes l) = let e = rw (ne_eqb v 1 a, ne_eqb v 2 b) at h in (cc e, inl l)
    by (no a) (no b) (no l) = let e = rw (ne_eqb v 1 a, ne_eqb v 2 b) at h in (cc e, inr (omega arith))

version_ok : (v : ℕ) {w : Layouts} → version_of v ≡ Ok w → (1 ≤ v) × (v ≤ 2) × (eqb v 2 ≡ is_two w)
version_ok v {w} h = by (ℕ_discrete v 1) (ℕ_discrete v 2)
  where
    by : Dec (v ≡ 1) → Dec (v ≡ 2) → (1 ≤ v) × (v ≤ 2) × (eqb v 2 ≡ is_two w)
    by (yes a) b = let e = ok_same One w (rw (eq-eqb v 1 a) at h) in (omega arith, omega arith, rw (ne_eqb v 2 (λ q. omega arith), ← e))
    by (no a) (yes b) = let e = ok_same Two w (rw (ne_eqb v 1 a, eq-eqb v 2 b) at h) in (omega arith, omega arith, rw (eq-eqb v 2 b, ← e))
    by (no a) (no b) = absurd (not-ok (rw (ne_eqb v 1 a, ne_eqb v 2 b) at h))

-- what follows a version
abbrev opened : ℕ → Bool → List ℕ → Result Dictionary Refusal
opened t version2 s =
    count_at_most limit s (λ rows s. count_at_most (value_limit version2) s (λ n s.
    number big 1 (Err Short) s (λ h s. check (leb h 1) Dict (null_of version2 (eqb h 1) s (λ ns s. entries_of version2 t rows n ns s)))))

known : (t v : ℕ) (s : List ℕ) → 1 ≤ v → v ≤ 2 → check (eqb v 1 || eqb v 2) Version
    (count_at_most limit s (λ rows s. count_at_most (cond (eqb v 1) most_values1 most_values2) s (λ n s.
    number big 1 (Err Short) s (λ has_null_byte s. check (leb has_null_byte 1) Dict
    (null_of (eqb v 2) (eqb has_null_byte 1) s (λ nulls s.
    cond (eqb v 1) (entries_version_one t rows n nulls [] s) (blocked t rows n nulls s))))))) ≡ opened t (eqb v 2) s
unfolding check
known t zero s l m = absurd (omega arith)
known t (suc zero) s l m = refl
known t (suc (suc zero)) s l m = refl
known t (suc (suc (suc v))) s l m = absurd (omega arith)

module _ (s : List ℕ) where
  pub fixed_empty : length s < 1 → (t : ℕ) → t < types → dictionary t s ≡ Err Short
  unfolding dictionary check
  fixed_empty h t k = rw (lt-ltb t types k) (word_short 1 s 0 _ (omega arith))

  module _ (l : 1 ≤ length s) {v : ℕ} (e : v ≡ get_or s 0 0) where
    versioned : (t : ℕ) → t < types → dictionary t s ≡ check (eqb v 1 || eqb v 2) Version
        (count_at_most limit (drop 1 s) (λ rows s. count_at_most (cond (eqb v 1) most_values1 most_values2) s (λ n s.
        number big 1 (Err Short) s (λ has_null_byte s. check (leb has_null_byte 1) Dict
        (null_of (eqb v 2) (eqb has_null_byte 1) s (λ nulls s.
        cond (eqb v 1) (entries_version_one t rows n nulls [] s) (blocked t rows n nulls s)))))))
    unfolding dictionary check
    versioned t k = let b : be_at 1 s 0 ≡ v = byte_at s 0 ∙ sym e in rw (lt-ltb t types k) (word_at 1 s 0 _ l ∙ simp b)

    pub fixed_version : {r : Refusal} → version_of v ≡ Err r → (t : ℕ) → t < types → dictionary t s ≡ Err r
    unfolding check
    fixed_version g t k =
        let (y, h) = version_err v g in
        versioned t k ∙ simp (ne_eqb v 1 (λ q. ⊎_elim (λ w. omega arith) (λ w. omega arith) h), ne_eqb v 2 (λ q. ⊎_elim (λ w. omega arith) (λ w. omega arith) h)) (ap Err y)

    module _ {w : Layouts} (g : version_of v ≡ Ok w) where
      two : eqb v 2 ≡ is_two w
      two = (version_ok v g).2

      pub fixed_opened : (t : ℕ) → t < types → dictionary t s ≡ opened t (is_two w) (drop 1 s)
      fixed_opened t k = rw (← two) (versioned t k ∙ known t v (drop 1 s) (version_ok v g).0 (version_ok v g).1)

      pub fixed_rows : {r : Refusal} → CountAt limit s 1 (Err r) → (t : ℕ) → t < types → dictionary t s ≡ Err r
      fixed_rows q t k = fixed_opened t k ∙ q _

      module _ {rows m : ℕ} (R : CountAt limit s 1 (Ok rows)) (M : m ≡ value_limit (is_two w)) where
        pub fixed_values : {r : Refusal} → CountAt m s 5 (Err r) → (t : ℕ) → t < types → dictionary t s ≡ Err r
        fixed_values q t k = fixed_opened t k ∙ R.0 _ ∙ rw M at q _

        module _ {n : ℕ} (N : CountAt m s 5 (Ok n)) where
          numbered : (t : ℕ) → t < types → dictionary t s ≡ number big 1 (Err Short) (drop 9 s) (λ h s. check (leb h 1) Dict (null_of (is_two w) (eqb h 1) s (λ ns s. entries_of (is_two w) t rows n ns s)))
          numbered t k = fixed_opened t k ∙ R.0 _ ∙ (rw M at N).0 _

          pub fixed_short : length s < 10 → (t : ℕ) → t < types → dictionary t s ≡ Err Short
          fixed_short h t k = numbered t k ∙ word_short 1 s 9 _ (omega arith)

          module _ (r : 10 ≤ length s) {h : ℕ} (x : h ≡ get_or s 9 0) where
            flagged : (t : ℕ) → t < types → dictionary t s ≡ check (leb h 1) Dict (null_of (is_two w) (eqb h 1) (drop 10 s) (λ ns s. entries_of (is_two w) t rows n ns s))
            flagged t k = let b : be_at 1 s 9 ≡ h = byte_at s 9 ∙ sym x in numbered t k ∙ word_at 1 s 9 _ r ∙ simp b

            pub fixed_wrong : 1 < h → (t : ℕ) → t < types → dictionary t s ≡ Err Dict
            unfolding check
            fixed_wrong l t k = flagged t k ∙ simp (lt-leb h 1 l)

            pub fixed_fields_lem : h ≤ 1 → FixedOf s (Ok (record { version = w; has_null = eqb h 1; rows = rows; values = n }))
            unfolding check
            fixed_fields_lem l = (λ t k. flagged t k ∙ simp (le-leb h 1 l), r, rw (← two, e), rw M at N.2)

-- ---- the whole, by its fields, null's entry and its entries

module _ (t : ℕ) (s : List ℕ) where
  pub refused_so : {r : Refusal} → dictionary t s ≡ Err r → ReadsDictionary t s (Err r)
  unfolding numbers_of
  refused_so e = record { answer = e; numbers = rw e }

  pub read_unknown : types ≤ t → ReadsDictionary t s (Err Literal)
  unfolding dictionary check
  read_unknown h = refused_so (rw (le-ltb t types h))

  found_so : (h : Summary) → IsRead t s h → ReadsDictionary t s (Ok h)
  unfolding numbers_of
  found_so h d = record { answer = d; numbers = rw (d.so, length-append (nulls_of h) d.entries, d.summary.many) }

  module _ (k : t < types) (h : Front) (f : FixedOf s (Ok h)) where
    pub read-null : {r : Refusal} → NullAt (is_two h.version) h.has_null s 10 (Err r) → ReadsDictionary t s (Err r)
    read-null n = refused_so (f.0 t k ∙ n _)

    module _ (n : Option NullEntry) {next : Position} (x : NullAt (is_two h.version) h.has_null s 10 (Ok (n, next))) where
      pub read_refused : {r : Refusal} → AllEntriesAt (is_two h.version) t h.values s next.0 (Err r) → ReadsDictionary t s (Err r)
      read_refused z = refused_so (f.0 t k ∙ x.0 _ ∙ z h.rows (nulls n))

      pub read_found : {a : AllEntries} → AllEntriesAt (is_two h.version) t h.values s next.0 (Ok a)
          → ReadsDictionary t s (Ok (record { rows = h.rows; values = h.values; version = h.version; null = n; first = a.first; region = a.region }))
      read_found z =
          found_so _ (record {
            entries = z.0;
            so = f.0 t k ∙ x.0 _ ∙ z.1 h.rows (nulls n);
            summary = record { many = z.2; stand = z.3; left = z.4; start = z.5; region = z.6; version = f.2 };
          })
