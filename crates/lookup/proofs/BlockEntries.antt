-- A block that was searched, by the layout of entries: which entries stand before the one that was found, and how many values were compared.
use Prim.Native.Nat.{ℕ, zero, suc, ◌+◌, ◌<◌, ◌≤◌}
use mathlib.Core.Path.{◌≡◌, refl, sym, ap, ◌∙◌, subst}
use mathlib.Core.Bool.{Bool, true, false, cond}
use mathlib.Core.List.{List, [], ◌∷◌, ◌++◌, append_assoc}
use native.Mathlib.Omega.{arith}
use lib.ListN.{length, take, drop, take-append-drop}
use Rattle.numbers.specs.Meaning.{All, Bytes, be, be_at, big, same, four_bytes}
use Rattle.numbers.proofs.ByteLists.{bytes_drop}
use Rattle.numbers.proofs.Laws.{number_at-lt, number_at_back}
use Rattle.numbers.proofs.SameBytes.{same→eq, same-sym}
use Rattle.refusal.specs.declared.Refusal.{Refusal}
use Rattle.refusal.specs.declared.Refusal.TheVariants.{Short, Dict}
use Rattle.std.specs.Prelude.{Result, Ok}
use Rattle.refusal.proofs.Laws.{ok_same, check-ok, then_ok}
use Rattle.stored_value.specs.Meaning.{value, same_cell}
use Rattle.stored_value.specs.Reading.{value_size, value_of}
use Rattle.stored_value.proofs.Laws.{number_ok}
use Rattle.dictionary.specs.Layout.{Entry, Patterns, some_has, entries2}
use Rattle.lookup.specs.Reading.{Searched, searched_in, searched}
use Rattle.lookup.specs.Claims.{BlockSearched}

-- ---- what was read, taken apart

pub value-ok : {A : Type 0} (short broken : Refusal) (t : ℕ) (s : List ℕ) (k : List ℕ → List ℕ → Result A Refusal) (a : A) → value_of short broken t s k ≡ Ok a
    → (n : ℕ) × (value_size short broken t s ≡ Ok n) × (k (take n s) (drop n s) ≡ Ok a)
unfolding value_of
value-ok short broken t s k a e = then_ok (value_size short broken t s) _ a e

-- the bytes s are an entry of a block and what stands behind it
record EntryStands (v : List ℕ) (offset extent : ℕ) (s behind : List ℕ) : Type 0 where
  stands : s ≡ v ++ (be 4 offset ++ (be 4 extent ++ behind))
  small_offset : offset < four_bytes
  small_extent : extent < four_bytes
  bytes : Bytes behind

-- a value of k bytes and two numbers of four bytes were read
entry_stands : (k : ℕ) (s : List ℕ) → Bytes s → 4 ≤ length (drop k s) → 4 ≤ length (drop 4 (drop k s))
    → EntryStands (take k s) (be_at 4 (drop k s) 0) (be_at 4 (drop 4 (drop k s)) 0) s (drop 4 (drop 4 (drop k s)))
entry_stands k s b l m =
    let c = bytes_drop k s b in
    let d = bytes_drop 4 (drop k s) c in
    record {
      stands =
          sym (take-append-drop k s)
          ∙ ap (λ (x : List ℕ). take k s ++ x)
          (number_at_back big 4 (drop k s) c l ∙ ap (λ (x : List ℕ). be 4 (be_at 4 (drop k s) 0) ++ x) (number_at_back big 4 (drop 4 (drop k s)) d m));
      small_offset = number_at-lt big 4 (drop k s) 0 c;
      small_extent = number_at-lt big 4 (drop 4 (drop k s)) 0 d;
      bytes = bytes_drop 4 (drop 4 (drop k s)) d;
    }

-- ---- entries of a block, `compared` of which came before

pub record EntriesSearched (literal : List ℕ) (n left compared : ℕ) (s : List ℕ) (b : Searched) : Type 0 where
  pub before : List Entry
  pub rest : List ℕ
  pub stands : Bytes s → s ≡ entries2 (before ++ b.hit) ++ rest
  pub others : some_has (value literal) before ≡ false
  pub hit_is : All (λ (e : Entry). e.cell ≡ value literal) b.hit
  pub one : length b.hit ≤ 1
  pub patterns : Bytes s → Patterns b.hit
  pub many : b.entries ≡ n
  pub counted : b.compared ≡ compared + length (before ++ b.hit)
  pub all : b.hit ≡ [] → b.compared ≡ compared + left
  pub within : b.compared ≤ compared + left

module _ (literal : List ℕ) (n compared : ℕ) (s : List ℕ) (b : Searched) where
  none_left : record { entries = n; hit = []; compared = compared } ≡ b → EntriesSearched literal n 0 compared s b
  none_left i =
      subst (EntriesSearched literal n 0 compared s) i (record {
        before = [];
        rest = s;
        stands = λ c. refl;
        others = refl;
        hit_is = tt;
        one = omega arith;
        patterns = λ c. tt;
        many = refl;
        counted = omega arith;
        all = λ e. omega arith;
        within = omega arith;
      })

  module _ (left : ℕ) (v : List ℕ) (offset extent : ℕ) (r : List ℕ) (is : Bytes s → EntryStands v offset extent s r) where
    abbrev e : Entry
    e = record { cell = value v; offset = offset; extent = extent }

    -- the literal's
    found : same v literal ≡ true → record { entries = n; hit = e ∷ []; compared = compared + 1 } ≡ b → EntriesSearched literal n (suc left) compared s b
    found q i =
        subst (EntriesSearched literal n (suc left) compared s) i (record {
          before = [];
          rest = r;
          stands = λ c. (is c).stands ∙ sym (append_assoc v (be 4 offset ++ be 4 extent) r);
          others = refl;
          hit_is = (ap value (same→eq v literal q), tt);
          one = omega arith;
          patterns = λ c. ((is c).small_offset, (is c).small_extent, tt);
          many = refl;
          counted = omega arith;
          all = λ x. absurd (let z : ◌≡◌ {A = ℕ} 0 1 = cc in omega arith);
          within = omega arith;
        })

    -- another
    passed : same v literal ≡ false → EntriesSearched literal n left (compared + 1) r b → EntriesSearched literal n (suc left) compared s b
    unfolding same_cell
    passed q w =
        record {
          before = e ∷ w.before;
          rest = w.rest;
          stands = λ c.
              (is c).stands ∙ ap (λ (x : List ℕ). v ++ (be 4 offset ++ (be 4 extent ++ x))) (w.stands (is c).bytes)
              ∙ sym (append_assoc v (be 4 offset ++ (be 4 extent ++ entries2 (w.before ++ b.hit))) w.rest);
          others = rw (same-sym literal v, q) w.others;
          hit_is = w.hit_is;
          one = w.one;
          patterns = λ c. w.patterns (is c).bytes;
          many = w.many;
          counted = omega (arith, w.counted);
          all = λ x. omega (arith, w.all x);
          within = omega (arith, w.within);
        }

entries-searched : (t : ℕ) (literal : List ℕ) (n left compared : ℕ) (s : List ℕ) (b : Searched) → searched_in t literal n left compared s ≡ Ok b
    → EntriesSearched literal n left compared s b
unfolding searched_in
entries-searched t literal n zero compared s b e = none_left literal n compared s b (ok_same _ b e)
entries-searched t literal n (suc left) compared s b e =
    let (k, is, first) = value-ok Short Dict t s _ b e in
    let (l, second) = number_ok 4 Short (drop k s) _ b first in
    let (m, third) = number_ok 4 Short (drop 4 (drop k s)) _ b second in
    go k l m (same (take k s) literal) refl third (λ r. entries-searched t literal n left (compared + 1) r b)
  where
    go : (k : ℕ) → 4 ≤ length (drop k s) → 4 ≤ length (drop 4 (drop k s)) → (x : Bool) → same (take k s) literal ≡ x
        → cond x (Ok (record {
          entries = n;
          hit = record { cell = value (take k s); offset = be_at 4 (drop k s) 0; extent = be_at 4 (drop 4 (drop k s)) 0 } ∷ [];
          compared = compared + 1;
        })) (searched_in t literal n left (compared + 1) (drop 4 (drop 4 (drop k s)))) ≡ Ok b
        → ((r : List ℕ) → searched_in t literal n left (compared + 1) r ≡ Ok b → EntriesSearched literal n left (compared + 1) r b)
        → EntriesSearched literal n (suc left) compared s b
    go k l m true q e more = found literal n compared s b left _ _ _ _ (λ c. entry_stands k s c l m) q (ok_same _ b e)
    go k l m false q e more = passed literal n compared s b left _ _ _ _ (λ c. entry_stands k s c l m) q (more _ e)

-- ---- a block

module _ (t : ℕ) (literal s : List ℕ) (b : Searched) (e : searched t literal s ≡ Ok b) where
  -- what is known of it for any bytes; its entry number stands in front
  pub block-from : (4 ≤ length s) × EntriesSearched literal (be_at 4 s 0) (be_at 4 s 0) 0 (drop 4 s) b
  unfolding searched
  block-from =
      let (l, rest) = number_ok 4 Short s _ b e in
      let (some, last) = check-ok _ _ _ b rest in
      (l, entries-searched t literal (be_at 4 s 0) (be_at 4 s 0) 0 (drop 4 s) b last)

  pub block-searched : Bytes s → BlockSearched literal s b
  block-searched c =
      let (l, w) = block-from in
      let m : b.entries ≡ be_at 4 s 0 = w.many in
      record {
        before = w.before;
        rest = w.rest;
        stands =
            number_at_back big 4 s c l
            ∙ ap (λ (x : List ℕ). be 4 (be_at 4 s 0) ++ x) (w.stands (bytes_drop 4 s c))
            ∙ ap (λ (x : ℕ). be 4 x ++ (entries2 (w.before ++ b.hit) ++ w.rest)) (sym m);
        others = w.others;
        hit_is = w.hit_is;
        one = w.one;
        counted = omega (arith, w.counted);
        all = λ x. omega (arith, w.all x);
        within = omega (arith, w.within);
      }
