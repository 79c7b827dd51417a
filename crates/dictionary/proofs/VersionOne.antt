-- The entries of version 1: whether a value is among those that stand there, by comparing it with each, and by a hash table of their values.
use Prim.Native.Nat.{ℕ, ◌+◌, ◌-◌, ◌≤◌, ◌<◌}
use mathlib.Core.Path.{◌≡◌, refl, ap, sym, ◌∙◌}
use mathlib.Core.Bool.{Bool, true, false, not, ◌||◌, or-false}
use mathlib.Core.List.{List, [], ◌∷◌, ◌++◌}
use native.Mathlib.Omega.{arith}
use lib.Dec.{eqb}
use borrow.Author.Tests.{eq-eqb, ne_eqb}
use lib.ListN.{length, take, drop, length-append}
use Rattle.numbers.specs.Meaning.{same, position}
use Rattle.refusal.specs.declared.Refusal.TheVariants.{Short, Dict}
use Rattle.std.specs.Prelude.{Ok}
use Rattle.hash_table.specs.Promises.{slot, among, Holds, Fits, Inserts}
use Rattle.hash_table.proofs.Chaining.{among-more, insert_old, insert_new}
use Rattle.refusal.specs.Meaning.{limit}
use Rattle.stored_value.specs.Meaning.{value, same_cell}
use Rattle.stored_value.specs.Reading.{value_size}
use Rattle.dictionary.specs.Layout.{Entry, some_has, most_values1}
use Rattle.dictionary.specs.Reading.{entries_version_one}
use Rattle.dictionary.specs.Promises.{Tabling, HasValueAt, cursor, entry_of, StandsAt, EndsAt, OnesFrom, AllEntriesAt}
use Rattle.dictionary.proofs.Steps.{drop_past, stand_first}
use Rattle.dictionary.proofs.Walks.{Walked, walk_first, walk_done, walk_stand, walk_next, ones}

has-entry : (v s : List ℕ) (k : ℕ) (e : Entry) (es : List Entry) → e ≡ entry_of false k s → some_has (value v) (e ∷ es) ≡ (same v (take k s) || some_has (value v) es)
unfolding same_cell
has-entry v s k e es h = rw h

-- ---- by comparing: whether v is among i entries from `start` on. It is exactly if it is among those left at `rest`, behind j of them

pub record Sought (t : ℕ) (v start : List ℕ) (i j : ℕ) (rest : List ℕ) : Type 0 where
  pub so : (es : List Entry) → OnesFrom t i start es → (more : List Entry) × OnesFrom t (i - j) rest more × (some_has (value v) es ≡ some_has (value v) more)

pub sought-first : (t : ℕ) (v s : List ℕ) (i : ℕ) → Sought t v s i 0 s
sought-first t v s i = record { so = λ es h. let z : i - 0 ≡ i = omega arith in (es, rw z h, refl) }

-- the first of those left
ones_turn : (t : ℕ) (v : List ℕ) (m : ℕ) (es : List Entry) (s : List ℕ) → OnesFrom t m s es → 0 < m
    → (k : ℕ) × (value_size Short Dict t s ≡ Ok k) × ((more : List Entry) × OnesFrom t (m - 1) (drop (k + 4) s) more × (some_has (value v) es ≡ (same v (take k s) || some_has (value v) more)))
ones_turn t v m [] s h z = absurd (omega (arith, h.count))
ones_turn t v m (e ∷ es) s h z =
    let x = stand_first t false h.left s e es (omega (arith, h.within)) h.stand in
    (x.0, x.1, (es, record { left = h.left - 1; stand = x.4; count = omega (arith, h.count); within = omega (arith, h.within) }, has-entry v s x.0 e es x.3))

-- none is left
none_left : (v : List ℕ) (es : List Entry) → length es ≡ 0 → some_has (value v) es ≡ false
none_left v [] z = refl
none_left v (e ∷ es) z = absurd (omega arith)

module _ {t : ℕ} {v start : List ℕ} {i j : ℕ} where
  pub sought_done : {rest : List ℕ} → Sought t v start i j rest → i ≤ j → (es : List Entry) → OnesFrom t i start es → false ≡ some_has (value v) es
  sought_done st d es h = let x = st.so es h in sym (x.2 ∙ none_left v x.0 (omega (arith, x.1.count)))

  module _ (s : List ℕ) (p : ℕ) (st : Sought t v start i j (drop p s)) (lt : j < i) where
    pub sought_stands : (es : List Entry) → OnesFrom t i start es → StandsAt t s p
    sought_stands es h = let x = st.so es h in let y = ones_turn t v (i - j) x.0 (drop p s) x.1 (omega arith) in (y.0, y.1)

    module _ (e : ℕ) (w : EndsAt t s p e) where
      turned : (es : List Entry) → OnesFrom t i start es → (more : List Entry) × OnesFrom t (i - (j + 1)) (drop (e + 4) s) more
          × (some_has (value v) es ≡ (same v (take (e - p) (drop p s)) || some_has (value v) more))
      turned es h =
          let x = st.so es h in
          let y = ones_turn t v (i - j) x.0 (drop p s) x.1 (omega arith) in
          let q : y.0 ≡ e - p = cc (y.1, w.0) in
          let a : i - j - 1 ≡ i - (j + 1) = omega arith in
          (y.2.0, rw (q, a, drop_past s p e 4 (omega arith)) at y.2.1, x.2 ∙ rw q at y.2.2)

      pub sought-found : {x : Bool} → x ≡ same v (take (e - p) (drop p s)) → x ≡ true → (es : List Entry) → OnesFrom t i start es → true ≡ some_has (value v) es
      sought-found g f es h = sym ((turned es h).2 ∙ simp (← g, f))

      pub sought-next : {x : Bool} → x ≡ same v (take (e - p) (drop p s)) → x ≡ false → Sought t v start i (j + 1) (drop (e + 4) s)
      sought-next g f = record { so = λ es h. let y = turned es h in (y.0, y.1, y.2 ∙ simp (← g, f)) }

-- ---- the entries, by their walk

pub ones-from : {t n i : ℕ} {start rest : List ℕ} (st : Walked (ones t) n tt start i tt rest) → i ≤ n → OnesFrom t i start st.items
ones-from {n = n} st l = record { left = n; stand = walk_stand st; count = st.count; within = l }

pub ones_sound : {t n i : ℕ} (s : List ℕ) (at p : ℕ) → Walked (ones t) n tt (drop at s) i tt (drop p s) → i ≤ n → n ≤ i → at ≤ length s → p ≤ length s
    → AllEntriesAt false t n s at (Ok (record { first = cursor at n; region = position p }))
unfolding entries_version_one
ones_sound s at p st l m h g = (st.items, λ rows ns. walk_done st m (rows, ns), omega (arith, st.count), walk_stand st, refl, h, g)

-- ---- by a table over s, which holds the values of the entries es

pub record Tabled (s table : List ℕ) (es : List Entry) : Type 0 where
  pub vs : List (List ℕ)
  pub holds : Holds s table vs
  pub many : length vs ≡ length es
  pub has : (v : List ℕ) → among v vs ≡ some_has (value v) es

or_assoc : (a b c : Bool) → ((a || b) || c) ≡ (a || (b || c))
or_assoc true b c = refl
or_assoc false b c = refl

-- one more behind those of a list
has_more : (v : List ℕ) (es : List Entry) (e : Entry) → some_has (value v) (es ++ (e ∷ [])) ≡ (some_has (value v) es || some_has (value v) (e ∷ []))
has_more v [] e = refl
has_more v (d ∷ es) e = rw (has_more v es e) (sym (or_assoc (same_cell (value v) d.cell) (some_has (value v) es) (some_has (value v) (e ∷ []))))

tabled_next : {s table after : List ℕ} {es : List Entry} (st : Tabled s table es) (k : ℕ) (rest : List ℕ) → Holds s after (st.vs ++ (take k rest ∷ []))
    → Tabled s after (es ++ (entry_of false k rest ∷ []))
tabled_next {es = es} st k rest h = record {
  vs = st.vs ++ (take k rest ∷ []);
  holds = h;
  many = simp length-append (omega (arith, st.many));
  has = λ v. among-more v (take k rest) st.vs
      ∙ rw (st.has v) (sym (has_more v es (entry_of false k rest) ∙ rw (has-entry v rest k (entry_of false k rest) [] refl, or-false (same v (take k rest)))));
}

-- whether a table is kept, which the code has as a number
pub kept_so : (n : ℕ) → (n ≡ 0 → ⊥) → not (eqb n 0) ≡ true
kept_so n h = rw (ne_eqb n 0 h)

pub never_so : (n : ℕ) → n ≡ 0 → not (eqb n 0) ≡ true → ⊥
never_so n h y = let e : false ≡ true = rw (eq-eqb n 0 h) at y in let z : ◌≡◌ {A = Bool} false true = e in cc

-- i of the n entries at `at` are read, and what is left stands at p; where a table is kept, it has their values
pub record Kept (tabled : Type 0) (t n : ℕ) (s : List ℕ) (at i p : ℕ) (table : List ℕ) : Type 0 where
  pub walk : Walked (ones t) n tt (drop at s) i tt (drop p s)
  pub held : tabled → Tabled s table walk.items
  pub keeps : tabled → (length s ≤ limit) × (n ≤ most_values1) × (slot most_values1 ≤ length table)

pub kept_first : (tabled : Type 0) (t n : ℕ) (s : List ℕ) (at : ℕ) (table : List ℕ) → (tabled → Tabling n s table) → Kept tabled t n s at 0 at table
unfolding walk_first among
kept_first tabled t n s at table h = record {
  walk = walk_first (ones t) n tt (drop at s);
  held = λ y. record { vs = []; holds = (h y).empty; many = refl; has = λ v. refl };
  keeps = λ y. ((h y).short, (h y).few, (h y).room);
}

module _ {tabled : Type 0} {t n : ℕ} {s : List ℕ} {at i p : ℕ} {table : List ℕ} (st : Kept tabled t n s at i p table) (lt : i < n) (e : ℕ) (v : EndsAt t s p e) where
  pub kept_fits : tabled → Fits s table i p e
  kept_fits y =
      let h = st.held y in
      let k = st.keeps y in
      record {
        vs = h.vs;
        holds = h.holds;
        many = h.many ∙ st.walk.count;
        room = omega (arith, k.2);
        rising = omega arith;
        inside = v.2;
        short = omega (arith, k.0);
        few = omega (arith, k.1);
      }

  -- whether the value is one of those before: what a turn makes of the table
  pub record Told (after : List ℕ) (twice : Bool) : Type 0 where
    pub so : twice ≡ some_has (value (take (e - p) (drop p s))) st.walk.items
    pub held : tabled → twice ≡ false → Tabled s after (st.walk.items ++ (entry_of false (e - p) (drop p s) ∷ []))
    pub long : length after ≡ length table

  module _ (y : tabled) (after : List ℕ) (r : Bool) (x : Inserts s table after i p e r) (l : length after ≡ length table) where
    pub told_tabled : Told after r
    told_tabled = record { so = by r refl; held = λ y h. tabled_next (st.held y) (e - p) (drop p s) (insert_new p e x (st.held y).holds ((st.held y).many ∙ st.walk.count) h).1; long = l }
      where
        by : (b : Bool) → r ≡ b → r ≡ some_has (value (take (e - p) (drop p s))) st.walk.items
        by true h = h ∙ sym ((insert_old p e x (st.held y).holds ((st.held y).many ∙ st.walk.count) h).0) ∙ (st.held y).has (take (e - p) (drop p s))
        by false h = h ∙ sym ((insert_new p e x (st.held y).holds ((st.held y).many ∙ st.walk.count) h).0) ∙ (st.held y).has (take (e - p) (drop p s))

  pub told_compared : (tabled → ⊥) → (r : Bool) → i ≤ n → HasValueAt t i s at (take (e - p) (drop p s)) r → Told table r
  told_compared never r m x = record { so = x st.walk.items (ones-from st.walk m); held = λ y h. absurd (never y); long = refl }

  module _ {after : List ℕ} {twice : Bool} (x : Told after twice) where
    pub told_twice : twice ≡ true → not (some_has (value (take (e - p) (drop p s))) st.walk.items) ≡ false
    told_twice h = ap not (sym x.so ∙ h)

    module _ (h : twice ≡ false) where
      pub told_once : not (some_has (value (take (e - p) (drop p s))) st.walk.items) ≡ true
      told_once = ap not (sym x.so ∙ h)

      pub told_next : e + 4 ≤ length s → Kept tabled t n s at (i + 1) (e + 4) after
      unfolding walk_next
      told_next l = record {
        walk = walk_next s p st.walk lt e v told_once l;
        held = λ y. x.held y h;
        keeps = λ y. let k = st.keeps y in (k.0, k.1, rw x.long k.2);
      }
