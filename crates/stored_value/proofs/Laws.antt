-- Laws of values in stored form: that values and literals which are laid out are read, and that what is read is laid out.
use Prim.Native.Nat.{ℕ, zero, suc, ◌+◌, ◌<◌, ◌≤◌}
use mathlib.Core.Path.{◌≡◌, refl, sym, ap, ◌∙◌, subst}
use mathlib.Core.Bool.{Bool, true, false, or-false, cond}
use mathlib.Core.List.{List, [], ◌∷◌, ◌++◌, append_assoc, append-nil}
use native.Mathlib.Omega.{arith}
use native.Mathlib.Decide.{dec_lt}
use lib.Dec.{leb}
use lib.ListN.{length, get_or, take, drop, length-append, length-drop, take-append-drop, get_or-append, get_or-eq_default}
use lib.Seq.{take_at, drop_at, length-take-le, get_or-take}
use borrow.Author.Tests.{lt-ltb, le-ltb, ltb-true, le-leb, ne_eqb, eqb-false, leb-true}
use Rattle.numbers.specs.Meaning.{be, be_at, big, joined, same, Bytes, sign_bit}
use Rattle.numbers.specs.Meaning as meaning
use Rattle.numbers.proofs.ByteLists.{bytes_take, bytes_drop}
use Rattle.numbers.proofs.Laws.{number_laid, number_at_back}
use Rattle.numbers.proofs.SameBytes.{same_refl, same→eq, same-sym}
use Rattle.refusal.specs.declared.Refusal.{Refusal}
use Rattle.refusal.specs.declared.Refusal.TheVariants.{Literal, Limit}
use Rattle.std.specs.Prelude.{Result, Err, Ok}
use Rattle.refusal.specs.Reading.{check, and_then}
use Rattle.refusal.proofs.Laws.{not-ok, check-ok}
use Rattle.stored_value.specs.Meaning.{widths, types, width, is_string, longest_string, boolean_ok, Value, number, string, Cell, null, value, same_cell, listed, most_literals, Literals}
use Rattle.stored_value.specs.Reading.{string_size, value_size, value_of, literals}

-- ---- the same cell

pub same_cell-refl : (c : Cell) → same_cell c c ≡ true
unfolding same_cell
same_cell-refl null = refl
same_cell-refl (value v) = same_refl v

pub same_cell→eq : (c d : Cell) → same_cell c d ≡ true → c ≡ d
unfolding same_cell
same_cell→eq null null e = refl
same_cell→eq null (value w) e = cc
same_cell→eq (value v) null e = cc
same_cell→eq (value v) (value w) e = ap value (same→eq v w e)

pub same_cell-sym : (c d : Cell) → same_cell c d ≡ same_cell d c
unfolding same_cell
same_cell-sym null null = refl
same_cell-sym null (value w) = refl
same_cell-sym (value v) null = refl
same_cell-sym (value v) (value w) = same-sym v w

-- ---- the size of a value: a number's, and a string's

module _ (short broken : Refusal) (t : ℕ) (s : List ℕ) where
  pub size_unknown : types ≤ t → value_size short broken t s ≡ Err Literal
  unfolding value_size check
  size_unknown h = rw (le-ltb t types h)

  module _ (k : t < types) where
    pub size_number : is_string t ≡ false
        → value_size short broken t s ≡ check (leb (width t) (length s)) short (check (boolean_ok t s) broken (Ok (width t)))
    unfolding value_size check
    size_number e = rw (lt-ltb t types k, e)

    pub size-string : is_string t ≡ true → value_size short broken t s ≡ meaning.number big 4 (Err short) s (string_size short broken)
    unfolding value_size check
    size-string e = rw (lt-ltb t types k, e)

width_some : (t : ℕ) → is_string t ≡ false → 0 < width t
unfolding is_string
width_some t e = let n = eqb-false (width t) 0 e in omega arith

-- a type with a width is known
width-known : (t : ℕ) → 0 < width t → t < types
unfolding width
width-known t h = go (dec_lt t types)
  where
    go : Dec (t < types) → t < types
    go (yes k) = k
    go (no n) =
        let l : types ≤ t = omega arith in
        let e : get_or widths t 0 ≡ 0 = get_or-eq_default widths 0 l in
        absurd (omega arith)

-- ---- values: laid out, so read; read, so laid out

first_byte : (t : ℕ) (v tail : List ℕ) → 0 < length v → boolean_ok t (v ++ tail) ≡ boolean_ok t v
unfolding boolean_ok
first_byte t v tail p = rw (get_or-append v tail 0 0 p)

pub value_laid : (short broken : Refusal) (t : ℕ) (v tail : List ℕ) → Value t v → value_size short broken t (v ++ tail) ≡ Ok (length v)
unfolding check
value_laid short broken t v tail (number v' n l b o) =
    let w = width_some t n in
    let f = first_byte t v tail (omega arith) in
    let q : width t ≤ length (v ++ tail) = simp length-append (omega arith) in
    rw (size_number short broken t (v ++ tail) (width-known t w) n, le-leb (width t) (length (v ++ tail)) q, f, o, l)
value_laid short broken t v tail (string c k n l b) =
    let p : length c < sign_bit = omega arith in
    let q : length c ≤ length (c ++ tail) = simp length-append (omega arith) in
    size-string short broken t (v ++ tail) k n
    ∙ number_laid big 4 (Err short) (length c) (c ++ tail) (string_size short broken) (omega arith)
    ∙ rw (lt-ltb (length c) sign_bit p, le-leb (length c) longest_string l, le-leb (length c) (length (c ++ tail)) q) (ap Ok (omega arith))

first_taken : (t k : ℕ) (s : List ℕ) → 0 < k → boolean_ok t (take k s) ≡ boolean_ok t s
unfolding boolean_ok
first_taken t k s p = rw (get_or-take k s 0 0 p)

pub number_ok : {A : Type 0} (w : ℕ) (r : Refusal) (s : List ℕ) (k : ℕ → List ℕ → Result A Refusal) (a : A) → meaning.number big w (Err r) s k ≡ Ok a
    → (w ≤ length s) × (k (be_at w s 0) (drop w s) ≡ Ok a)
unfolding meaning.number
number_ok {A} w r s k a e = go (leb w (length s)) refl e
  where
    go : (b : Bool) → leb w (length s) ≡ b → cond b (k (be_at w s 0) (drop w s)) (Err r) ≡ Ok a → (w ≤ length s) × (k (be_at w s 0) (drop w s) ≡ Ok a)
    go true t e = (leb-true w (length s) t, e)
    go false t e = absurd (not-ok e)

-- what is said of a value that was read
pub record ValueRead (t : ℕ) (s : List ℕ) (k : ℕ) : Type 0 where
  pub some : 1 ≤ k
  pub fits : k ≤ length s
  pub whole : Bytes s → Value t (take k s)

module _ (short broken : Refusal) (t : ℕ) (s : List ℕ) (k : ℕ) (e : value_size short broken t s ≡ Ok k) where
  known : t < types
  unfolding value_size
  known = ltb-true t types (check-ok _ _ _ k e).0

  read_number : is_string t ≡ false → ValueRead t s k
  read_number n =
      let f = check-ok _ _ _ k (sym (size_number short broken t s known n) ∙ e) in
      let g = check-ok _ _ _ k f.1 in
      let l : width t ≤ length s = leb-true (width t) (length s) f.0 in
      let q : width t ≡ k = cc in
      let p = width_some t n in
      record {
        some = omega arith;
        fits = omega arith;
        whole = λ h. number (take k s) n (length-take-le k s (omega arith) ∙ sym q) (bytes_take k s h) (first_taken t k s (omega arith) ∙ g.0);
      }

  read-string : is_string t ≡ true → ValueRead t s k
  read-string n =
      let x = number_ok 4 short s (string_size short broken) k (sym (size-string short broken t s known n) ∙ e) in
      let c : List ℕ = drop 4 s in
      let v : ℕ = be_at 4 s 0 in
      let f = check-ok _ _ _ k (check-ok _ _ _ k x.1).1 in
      let g = check-ok _ _ _ k f.1 in
      let m : v ≤ longest_string = leb-true v longest_string f.0 in
      let l : v ≤ length c = leb-true v (length c) g.0 in
      let z = rw length-drop at l in
      let q : 4 + v ≡ k = cc in
      record {
        some = omega arith;
        fits = omega arith;
        whole = λ h.
            let r : k ≡ suc (suc (suc (suc v))) = omega arith in
            let y : Value t (be 4 v ++ take v c) =
            subst (λ (j : ℕ). Value t (be 4 j ++ take v c)) (length-take-le v c l)
            (string (take v c) known n (omega (arith, length-take-le v c l)) (bytes_take v c (bytes_drop 4 s h))) in
            subst (λ (u : List ℕ). Value t (take k u)) (sym (number_at_back big 4 s h x.0)) (rw r y);
      }

  pub value_read : ValueRead t s k
  value_read = by (is_string t) refl
    where
      by : (b : Bool) → is_string t ≡ b → ValueRead t s k
      by true n = read-string n
      by false n = read_number n

value-length : (t : ℕ) (v : List ℕ) → Value t v → 1 ≤ length v
value-length t v (number v' n l b o) = omega (arith, width_some t n)
value-length t v (string c k n l b) = omega arith

-- ---- literals: laid out, so read; read, so laid out

pub literals_end : (t n : ℕ) (ls : List (List ℕ)) → literals t n ls [] ≡ Ok ls
unfolding literals
literals_end t zero ls = refl
literals_end t (suc n) ls = refl

module _ (t : ℕ) (ls : List (List ℕ)) (s : List ℕ) (p : 0 < length s) where
  -- no more may come, and there is a byte
  pub literals-full : literals t 0 ls s ≡ Err Limit
  unfolding literals
  literals-full = rw (ne_eqb (length s) 0 (omega arith))

  -- one literal more
  pub literals-next : (n k : ℕ) → value_size Literal Literal t s ≡ Ok k → literals t (suc n) ls s ≡ literals t n (ls ++ (take k s ∷ [])) (drop k s)
  unfolding literals value_of and_then
  literals-next n k e = rw (ne_eqb (length s) 0 (omega arith), e)

  pub literals_refused : (n : ℕ) (r : Refusal) → value_size Literal Literal t s ≡ Err r → literals t (suc n) ls s ≡ Err r
  unfolding literals value_of and_then
  literals_refused n r e = rw (ne_eqb (length s) 0 (omega arith), e)

laid_from : (t n : ℕ) (acc ls : List (List ℕ)) → Literals t ls → length ls ≤ n → literals t n acc (joined ls) ≡ Ok (acc ++ ls)
laid_from t n acc [] x m = literals_end t n acc ∙ ap Ok (sym (append-nil acc))
laid_from t zero acc (l ∷ ls) x m = absurd (omega arith)
laid_from t (suc n) acc (l ∷ ls) x m =
    let s : List ℕ = l ++ joined ls in
    let p : 0 < length s = rw length-append (omega (arith, value-length t l x.0)) in
    let e = literals-next t acc s p n (length l) (value_laid Literal Literal t l (joined ls) x.0) in
    let q = rw (take_at l (joined ls) (length l) refl, drop_at l (joined ls) (length l) refl) at e in
    q ∙ laid_from t n (acc ++ (l ∷ [])) ls x.1 (omega arith) ∙ ap Ok (append_assoc acc (l ∷ []) ls)

pub literals_laid : (t : ℕ) (ls : List (List ℕ)) → Literals t ls → length ls ≤ most_literals → literals t most_literals [] (joined ls) ≡ Ok ls
literals_laid t ls x m = laid_from t most_literals [] ls x m

-- what is said of literals that were read behind `acc`, n at most
abbrev From : ℕ → ℕ → List (List ℕ) → List ℕ → List (List ℕ) → Type 0
From t n acc s ls = (ms : List (List ℕ)) × (ls ≡ acc ++ ms) × (s ≡ joined ms) × (Bytes s → Literals t ms) × (length ms ≤ n)

none : (t n : ℕ) (acc ls : List (List ℕ)) → literals t n acc [] ≡ Ok ls → From t n acc [] ls
none t n acc ls e = let q = literals_end t n acc in ([], cc (append-nil acc), refl, λ h. tt, omega arith)

back_from : (t n : ℕ) (acc : List (List ℕ)) (s : List ℕ) (ls : List (List ℕ)) → literals t n acc s ≡ Ok ls → From t n acc s ls
back_from t zero acc [] ls e = none t zero acc ls e
back_from t zero acc (b ∷ s) ls e = absurd (not-ok (sym (literals-full t acc (b ∷ s) (omega arith)) ∙ e))
back_from t (suc n) acc [] ls e = none t (suc n) acc ls e
back_from t (suc n) acc (b ∷ s) ls e = by (value_size Literal Literal t (b ∷ s)) refl (λ k. back_from t n _ (drop k (b ∷ s)) ls)
  where
    by : (o : Result ℕ Refusal) → value_size Literal Literal t (b ∷ s) ≡ o
        → ((k : ℕ) → literals t n (acc ++ (take k (b ∷ s) ∷ [])) (drop k (b ∷ s)) ≡ Ok ls → From t n (acc ++ (take k (b ∷ s) ∷ [])) (drop k (b ∷ s)) ls)
        → From t (suc n) acc (b ∷ s) ls
    by (Err r) v next = absurd (not-ok (sym (literals_refused t acc (b ∷ s) (omega arith) n r v) ∙ e))
    by (Ok k) v next =
        let l : List ℕ = take k (b ∷ s) in
        let m = next k (sym (literals-next t acc (b ∷ s) (omega arith) n k v) ∙ e) in (
          l ∷ m.0,
          m.1 ∙ append_assoc acc (l ∷ []) m.0,
          sym (take-append-drop k (b ∷ s)) ∙ ap (λ (x : List ℕ). l ++ x) m.2,
          λ h. ((value_read Literal Literal t (b ∷ s) k v).whole h, m.3 (bytes_drop k (b ∷ s) h)),
          omega (arith, m.4),
        )

-- what was read before stands in front
pub literals-behind : (t n : ℕ) (acc : List (List ℕ)) (s : List ℕ) (ls : List (List ℕ)) → literals t n acc s ≡ Ok ls → (ms : List (List ℕ)) × (ls ≡ acc ++ ms)
literals-behind t n acc s ls e = let m = back_from t n acc s ls e in (m.0, m.1)

pub literals-joined : (t : ℕ) (s : List ℕ) (ls : List (List ℕ)) → literals t most_literals [] s ≡ Ok ls → s ≡ joined ls
literals-joined t s ls e = let m = back_from t most_literals [] s ls e in subst (λ (x : List (List ℕ)). s ≡ joined x) (sym m.1) m.2

pub literals_back : (t : ℕ) (s : List ℕ) (ls : List (List ℕ)) → Bytes s → literals t most_literals [] s ≡ Ok ls
    → (s ≡ joined ls) × Literals t ls × (length ls ≤ most_literals)
literals_back t s ls h e =
    let m = back_from t most_literals [] s ls e in
    subst (λ (x : List (List ℕ)). (s ≡ joined x) × Literals t x × (length x ≤ most_literals)) (sym m.1) (m.2, m.3 h, m.4)

pub literals_few : (t : ℕ) (s : List ℕ) (ls : List (List ℕ)) → literals t most_literals [] s ≡ Ok ls → length ls ≤ most_literals
literals_few t s ls e = let m = back_from t most_literals [] s ls e in subst (λ (x : List (List ℕ)). length x ≤ most_literals) (sym m.1) m.4

-- of one literal, a value is listed if it has all the bytes
pub listed_alone : (t : ℕ) (v s : List ℕ) (ls : List (List ℕ)) → literals t most_literals [] s ≡ Ok ls → length ls ≡ 1 → listed v ls ≡ same v s
unfolding listed
listed_alone t v s [] e n = absurd (omega arith)
listed_alone t v s (l ∷ []) e n = or-false (same v l) ∙ ap (same v) (sym (literals-joined t s (l ∷ []) e ∙ append-nil l))
listed_alone t v s (l ∷ k ∷ ls) e n = absurd (omega arith)
