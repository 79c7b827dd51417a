-- What the code's answers and the turns of its loops see of the definitions.
use Prim.Native.Nat.{ℕ, suc, min, ◌+◌, ◌-◌, ◌*◌, ◌<◌, ◌≤◌}
use mathlib.Core.Path.{◌≡◌, refl, ap, sym, ◌∙◌}
use mathlib.Core.Bool.{Bool, true, false, ◌&&◌, ◌||◌, or-false}
use mathlib.Core.List.{List, [], ◌∷◌, ◌++◌}
use native.Mathlib.Nat.{add-zero}
use native.Mathlib.Numerals.{add-one}
use native.Mathlib.Omega.{arith}
use native.Mathlib.Decide.{dec_lt, ℕ_discrete}
use lib.Dec.{eqb, ltb, leb}
use lib.IntN.{ℤ}
use lib.Signed.{lt_z}
use mir.Syntax.{w64}
use mir.Val.{SFits, to_z, of_z}
use mir.Facts.{to_z-of_z}
use lib.ListN.{length, get_or, take, drop, length-drop, drop_of_length-le}
use lib.Seq.{take-length, drop-cons, drop-drop, get_or-drop}
use borrow.Author.Tests.{eq-eqb, ne_eqb, le-leb, lt-leb, lt-ltb, le-ltb, ltb-true}
use Rattle.numbers.specs.Meaning.{Bytes, be_at, big, sign_bit, two_bytes}
use Rattle.numbers.proofs.Laws.{be_at-lt, be_at_split, number_at_lem, number_short}
use Rattle.refusal.specs.declared.Refusal.{Refusal}
use Rattle.refusal.specs.declared.Refusal.TheVariants.{Literal, Limit}
use Rattle.stored_value.specs.Meaning.{types, width, is_string, longest_string, boolean_ok, signed_number, is_less_bytewise, less}
use Rattle.std.specs.Prelude.{Result, Err, Ok}
use Rattle.refusal.specs.Reading.{check, numbers_of}
use Rattle.refusal.proofs.Laws.{check-ok, ok_same, not-ok}
use Rattle.stored_value.specs.Reading.{string_size, value_size, literals}
use Rattle.stored_value.specs.Promises.{size_out, size_numbers, counted, count_out, count_numbers}
use Rattle.stored_value.proofs.Laws.{size_number, size-string, value_read, literals_end, literals-full, literals_refused, literals-next}

-- ---- `bytes_less`

module _ (a b : List ℕ) (i : ℕ) where
  -- at the end of one of both
  pub less_end : i ≡ min (length a) (length b) → is_less_bytewise (drop i a) (drop i b) ≡ ltb (length a) (length b)
  unfolding is_less_bytewise
  less_end e = by (dec_lt (length a) (length b)) (dec_lt (length b) (length a))
    where
      by : Dec (length a < length b) → Dec (length b < length a) → is_less_bytewise (drop i a) (drop i b) ≡ ltb (length a) (length b)
      by (yes g) d =
          let l : length a ≤ i = omega arith in
          let h : i < length b = omega arith in
          rw (drop_of_length-le a l, drop-cons b i 0 h, lt-ltb (length a) (length b) g)
      by (no n) (yes l) =
          let g : length b ≤ i = omega arith in
          let h : i < length a = omega arith in
          rw (drop-cons a i 0 h, drop_of_length-le b g, le-ltb (length a) (length b) (omega arith))
      by (no n) (no m) =
          let g : length b ≤ i = omega arith in
          let l : length a ≤ i = omega arith in
          rw (drop_of_length-le a l, drop_of_length-le b g, le-ltb (length a) (length b) (omega arith))

  module _ (h : i < length a) (g : i < length b) where
    less_step : is_less_bytewise (drop i a) (drop i b)
        ≡ ltb (get_or a i 0) (get_or b i 0) || (eqb (get_or a i 0) (get_or b i 0) && is_less_bytewise (drop (i + 1) a) (drop (i + 1) b))
    unfolding is_less_bytewise
    less_step = rw (add-one, drop-cons a i 0 h, drop-cons b i 0 g)

    pub less-differ : (get_or a i 0 ≡ get_or b i 0 → ⊥) → is_less_bytewise (drop i a) (drop i b) ≡ ltb (get_or a i 0) (get_or b i 0)
    less-differ n = less_step ∙ rw (ne_eqb (get_or a i 0) (get_or b i 0) n) (or-false (ltb (get_or a i 0) (get_or b i 0)))

    pub less-next : get_or a i 0 ≡ get_or b i 0 → is_less_bytewise (drop i a) (drop i b) ≡ is_less_bytewise (drop (i + 1) a) (drop (i + 1) b)
    less-next e = less_step ∙ rw (le-ltb (get_or a i 0) (get_or b i 0) (omega arith), eq-eqb (get_or a i 0) (get_or b i 0) e)

-- ---- `less`, by the width w that the code found

-- what stands behind the first n, or behind all where there are fewer
behind : (s : List ℕ) (n k : ℕ) → k ≡ min n (length s) → take (length s - k) (drop k s) ≡ drop n s
behind s n k e = rw (← length-drop k s, take-length (drop k s)) (by (dec_lt n (length s)))
  where
    by : Dec (n < length s) → drop k s ≡ drop n s
    by (yes l) = let z : k ≡ n = omega arith in rw z
    by (no l) =
        let g : length s ≤ n = omega arith in
        let h : length s ≤ k = omega arith in
        rw (drop_of_length-le s g, drop_of_length-le s h)

pub less_behind : (a b : List ℕ) (n : ℕ) {k m : ℕ} → k ≡ min n (length a) → m ≡ min n (length b)
    → is_less_bytewise (take (length a - k) (drop k a)) (take (length b - m) (drop m b)) ≡ is_less_bytewise (drop n a) (drop n b)
less_behind a b n {k} {m} e f = rw (behind a n k e, behind b n m f)

pub less_unknown : (t : ℕ) (a b : List ℕ) → types ≤ t → false ≡ less t a b
unfolding less
less_unknown t a b h = rw (le-ltb t types h)

module _ (t : ℕ) (a b : List ℕ) (k : t < types) (w : ℕ) (e : w ≡ width t) where
  pub less-string : w ≡ 0 → is_less_bytewise (drop 4 a) (drop 4 b) ≡ less t a b
  unfolding less is_string
  less-string z = rw (lt-ltb t types k, ← e, z)

  pub less-number : (w ≡ 0 → ⊥) → (x y : ℤ) → (x ≡ signed_number w a) × SFits w64 x → (y ≡ signed_number w b) × SFits w64 y
      → lt_z (to_z w64 (of_z w64 x)) (to_z w64 (of_z w64 y)) ≡ less t a b
  unfolding less is_string
  less-number n x y f g = rw (lt-ltb t types k, to_z-of_z f.1, to_z-of_z g.1, ← e, ne_eqb w 0 n, ← f.0, ← g.0)

-- ---- strings in `size`: what each answer goes by, said of the two halves of the length at p

-- from here on the upper half has the length's sign
abbrev half_sign : ℕ
half_sign = 32768

module _ (short broken : Refusal) (s : List ℕ) (p : ℕ) where
  halves : be_at 4 s p ≡ be_at 2 s p * two_bytes + be_at 2 s (p + 2)
  halves = be_at_split 2 2 s p

  pub string_negative : half_sign ≤ be_at 2 s p → string_size short broken (be_at 4 s p) (drop (p + 4) s) ≡ Err broken
  unfolding check
  string_negative g = let l : sign_bit ≤ be_at 4 s p = omega (arith, halves) in rw (le-ltb (be_at 4 s p) sign_bit l)

  module _ (d : Bytes s) where
    lower-lt : be_at 2 s (p + 2) < two_bytes
    lower-lt = be_at-lt 2 s (p + 2) d

    pub string-over : 0 < be_at 2 s p → be_at 2 s p < half_sign → string_size short broken (be_at 4 s p) (drop (p + 4) s) ≡ Err Limit
    unfolding check
    string-over o g =
        let l : be_at 4 s p < sign_bit = omega (arith, halves, lower-lt) in
        let h : longest_string < be_at 4 s p = omega (arith, halves) in
        rw (lt-ltb (be_at 4 s p) sign_bit l, lt-leb (be_at 4 s p) longest_string h)

    module _ (z : be_at 2 s p ≡ 0) where
      lower : be_at 4 s p ≡ be_at 2 s (p + 2)
      lower = omega (arith, halves)

      by_bytes : string_size short broken (be_at 4 s p) (drop (p + 4) s) ≡ check (leb (be_at 2 s (p + 2)) (length s - (p + 4))) short (Ok (4 + be_at 2 s (p + 2)))
      unfolding check
      by_bytes =
          let l : be_at 2 s (p + 2) < sign_bit = omega (arith, lower-lt) in
          let h : be_at 2 s (p + 2) ≤ longest_string = omega (arith, lower-lt) in
          rw (lower, lt-ltb (be_at 2 s (p + 2)) sign_bit l, le-leb (be_at 2 s (p + 2)) longest_string h, length-drop (p + 4) s)

      pub string-cut : length s - (p + 4) < be_at 2 s (p + 2) → string_size short broken (be_at 4 s p) (drop (p + 4) s) ≡ Err short
      unfolding check
      string-cut l = by_bytes ∙ rw (lt-leb (be_at 2 s (p + 2)) (length s - (p + 4)) l)

      pub string-whole : be_at 2 s (p + 2) ≤ length s - (p + 4)
          → string_size short broken (be_at 4 s p) (drop (p + 4) s) ≡ Ok (4 + be_at 2 s (p + 2))
      unfolding check
      string-whole l = by_bytes ∙ rw (le-leb (be_at 2 s (p + 2)) (length s - (p + 4)) l)

-- ---- `size`: what each answer goes by, said of the value at p

module _ (short broken : Refusal) (t : ℕ) (s : List ℕ) (p : ℕ) (k : t < types) where
  module _ (w : width t ≡ 0) where
    is_string_lem : is_string t ≡ true
    unfolding is_string
    is_string_lem = eq-eqb (width t) 0 w

    pub string-short : length s - p < 4 → value_size short broken t (drop p s) ≡ Err short
    string-short h = size-string short broken t (drop p s) k is_string_lem ∙ number_short big 4 (Err short) s p (string_size short broken) h

    pub by_length : p + 4 ≤ length s → value_size short broken t (drop p s) ≡ string_size short broken (be_at 4 s p) (drop (p + 4) s)
    by_length h = size-string short broken t (drop p s) k is_string_lem ∙ number_at_lem big 4 (Err short) s p (string_size short broken) h

  module _ (w : 0 < width t) where
    is_number : is_string t ≡ false
    unfolding is_string
    is_number = ne_eqb (width t) 0 (λ e. omega arith)

    pub number_cut : length s - p < width t → value_size short broken t (drop p s) ≡ Err short
    unfolding check
    number_cut h =
        let l : length (drop p s) < width t = rw length-drop h in
        size_number short broken t (drop p s) k is_number ∙ rw (lt-leb (width t) (length (drop p s)) l)

    module _ (h : width t ≤ length s - p) where
      by_boolean : (b : Bool) → boolean_ok t (drop p s) ≡ b → value_size short broken t (drop p s) ≡ check b broken (Ok (width t))
      unfolding check
      by_boolean b e =
          let l : width t ≤ length (drop p s) = rw length-drop h in
          size_number short broken t (drop p s) k is_number ∙ rw (le-leb (width t) (length (drop p s)) l, e)

      first : get_or (drop p s) 0 0 ≡ get_or s p 0
      first = get_or-drop p s 0 0 ∙ ap (λ (i : ℕ). get_or s i 0) (add-zero p)

      pub boolean_over : t ≡ 1 → 1 < get_or s p 0 → value_size short broken t (drop p s) ≡ Err broken
      unfolding boolean_ok check
      boolean_over e g = by_boolean false (rw (eq-eqb t 1 e, first, lt-leb (get_or s p 0) 1 g))

      pub boolean_whole : t ≡ 1 → get_or s p 0 ≤ 1 → value_size short broken t (drop p s) ≡ Ok (width t)
      unfolding boolean_ok check
      boolean_whole e g = by_boolean true (rw (eq-eqb t 1 e, first, le-leb (get_or s p 0) 1 g))

      pub number-whole : (t ≡ 1 → ⊥) → value_size short broken t (drop p s) ≡ Ok (width t)
      unfolding boolean_ok check
      number-whole n = by_boolean true (rw (ne_eqb t 1 n))

  pub past : length s < p → value_size short broken t (drop p s) ≡ Err short
  past h = by (ℕ_discrete (width t) 0)
    where
      by : Dec (width t ≡ 0) → value_size short broken t (drop p s) ≡ Err short
      by (yes w) = string-short w (omega arith)
      by (no w) = number_cut (omega arith) (omega arith)

-- ---- `known_size`: a value that was accepted is as long as its type says, or as a string says before its bytes

module _ (short broken : Refusal) (t : ℕ) (s : List ℕ) (p k : ℕ) (e : value_size short broken t (drop p s) ≡ Ok k) where
  known_type : t < types
  unfolding value_size
  known_type = ltb-true t types (check-ok _ _ _ k e).0

  pub known-number : 0 < width t → width t ≡ k
  known-number w =
      let f = check-ok _ _ _ k (sym (size_number short broken t (drop p s) known_type (is_number short broken t s p known_type w)) ∙ e) in
      ok_same (width t) k (check-ok _ _ _ k f.1).1

  module _ (w : width t ≡ 0) where
    pub known-length : p + 4 ≤ length s
    known-length = by (dec_lt (length s) (p + 4))
      where
        by : Dec (length s < p + 4) → p + 4 ≤ length s
        by (yes l) = absurd (not-ok (sym (string-short short broken t s p known_type w (omega arith)) ∙ e))
        by (no l) = omega arith

    pub known-string : 4 + be_at 4 s p ≡ k
    known-string =
        let f = check-ok _ _ _ k (sym (by_length short broken t s p known_type w known-length) ∙ e) in
        let g = check-ok _ _ _ k f.1 in
        ok_same (4 + be_at 4 s p) k (check-ok _ _ _ k g.1).1

-- ---- a value that was read stands there

pub size_within : (short broken : Refusal) (t : ℕ) (s : List ℕ) (p n : ℕ) → p ≤ length s → value_size short broken t (drop p s) ≡ Ok n
    → (1 ≤ n) × (p + n ≤ length s)
size_within short broken t s p n l e =
    let r = value_read short broken t (drop p s) n e in
    let f = rw length-drop at r.fits in
    (r.some, omega arith)

-- ---- `literals`: a turn at the i-th of m, at p

module _ (t m i : ℕ) (ls : List (List ℕ)) (s : List ℕ) (p : ℕ) where
  pub literals_done : length s ≤ p → literals t (m - i) ls (drop p s) ≡ Ok ls
  literals_done h = rw (drop_of_length-le s h) (literals_end t (m - i) ls)

  module _ (h : p < length s) where
    left : 0 < length (drop p s)
    left = rw length-drop (omega arith)

    pub turn_full : i ≡ m → literals t (m - i) ls (drop p s) ≡ Err Limit
    turn_full e = let z : m - i ≡ 0 = omega arith in rw z (literals-full t ls (drop p s) left)

    module _ (g : i < m) where
      more : m - i ≡ suc (m - (i + 1))
      more = omega arith

      pub turn_refused : (r : Refusal) → value_size Literal Literal t (drop p s) ≡ Err r → literals t (m - i) ls (drop p s) ≡ Err r
      turn_refused r e = rw more (literals_refused t ls (drop p s) left (m - (i + 1)) r e)

      pub turn_next : (n : ℕ) → value_size Literal Literal t (drop p s) ≡ Ok n
          → literals t (m - i) ls (drop p s) ≡ literals t (m - (i + 1)) (ls ++ (take n (drop p s) ∷ [])) (drop (p + n) s)
      turn_next n e = rw (more, ← drop-drop n p s) (literals-next t ls (drop p s) left (m - (i + 1)) n e)

-- ---- the numbers of an answer are those of what was read

size_so : (o : Result ℕ Refusal) → size_out o ≡ numbers_of 0 size_numbers o
unfolding size_out numbers_of
size_so (Err r) = refl
size_so (Ok n) = refl

pub size_numbers_so : {r o : Result ℕ Refusal} → r ≡ o → size_out r ≡ numbers_of 0 size_numbers o
size_numbers_so {r} {o} e = ap size_out e ∙ size_so o

count_so : (o : Result (List (List ℕ)) Refusal) → count_out (counted o) ≡ numbers_of 0 count_numbers o
unfolding counted count_out numbers_of
count_so (Err r) = refl
count_so (Ok ls) = refl

pub count_numbers_so : {r : Result ℕ Refusal} (o : Result (List (List ℕ)) Refusal) → r ≡ counted o → count_out r ≡ numbers_of 0 count_numbers o
count_numbers_so o e = ap count_out e ∙ count_so o
