-- One law for a step that reads a value, and the walk of such steps: the loops over version 1's entries, a directory's listings and a block's entries are
-- its cases.
use Prim.Native.Nat.{ℕ, zero, suc, ◌+◌, ◌-◌, ◌≤◌, ◌<◌}
use mathlib.Core.Path.{◌≡◌, refl, ◌∙◌}
use mathlib.Core.Bool.{Bool, true, false, not, ◌&&◌}
use mathlib.Core.List.{List, [], ◌∷◌, ◌++◌, append_assoc, append-nil}
use native.Mathlib.Omega.{arith}
use lib.Dec.{leb}
use lib.ListN.{length, take, drop, length-append, length-drop}
use borrow.Author.Tests.{leb-true, leb-false, le-leb, lt-leb}
use Rattle.numbers.specs.Meaning.{big, be_at, number}
use Rattle.refusal.specs.declared.Refusal.{Refusal}
use Rattle.refusal.specs.declared.Refusal.TheVariants.{Short, Dict}
use Rattle.std.specs.Prelude.{Result, Err, Ok}
use Rattle.refusal.specs.Reading.{check, and_then}
use Rattle.refusal.proofs.Laws.{then_same}
use Rattle.stored_value.specs.Meaning.{Cell, null, value}
use Rattle.stored_value.specs.Reading.{value_size, value_of}
use Rattle.dictionary.specs.Layout.{Entry, some_has}
use Rattle.dictionary.specs.Reading.{Dictionary, Listing, entries_version_one, listings, past, is_value_due, entries_version_two}
use Rattle.dictionary.specs.Promises.{AfterBlock, AfterListings, entry_of, EntriesFrom, ListingsFrom, EndsAt, ValueAt}
use Rattle.dictionary.proofs.Steps.{word_test, word_at, word_short, drop_past, stand_none, stand_cons}

-- ---- a step: a value at the front of s that keeps a rule, and w bytes behind it; what follows is told how long the value is

abbrev step_of : {A : Type 0} (t w : ℕ) (rule : List ℕ → Bool) (s : List ℕ) (f : ℕ → Result A Refusal) → Result A Refusal
step_of t w rule s f = and_then (value_size Short Dict t s) (λ k. check (rule (take k s)) Dict (check (leb (k + w) (length s)) Short (f k)))

-- items, each a value and w bytes, that are read one after another: `reads q m x is s` has m of them to come at the front of s, and `is` before. `x` is what
-- the rule of the next goes by, and `on x v` the same behind the value v. `item k s` is the item whose value takes the k bytes at the front of s. `Stand m
-- s is` says that the items `is` stand there, m being left
pub record Walk (t w : ℕ) (Q X I : Type 0) : Type 1 where
  pub reads : Q → ℕ → X → List I → List ℕ → Result Dictionary Refusal
  pub rule : X → List I → List ℕ → Bool
  pub on : X → List ℕ → X
  pub item : ℕ → List ℕ → I
  pub Stand : ℕ → List ℕ → List I → Type 0
  pub step : (q : Q) (m : ℕ) (x : X) (is : List I) (s : List ℕ) → 0 < m
      → reads q m x is s ≡ step_of t w (rule x is) s (λ k. reads q (m - 1) (on x (take k s)) (is ++ (item k s ∷ [])) (drop (k + w) s))
  pub none : (m : ℕ) (s : List ℕ) → Stand m s []
  pub more : (m : ℕ) (s : List ℕ) (k : ℕ) (is : List I) → 0 < m → value_size Short Dict t s ≡ Ok k → k + w ≤ length s
      → Stand (m - 1) (drop (k + w) s) is → Stand m s (item k s ∷ is)

-- i of the n items from `start` on are read, and `rest` is left
pub record Walked {t w : ℕ} {Q X I : Type 0} (W : Walk t w Q X I) (n : ℕ) (x₀ : X) (start : List ℕ) (i : ℕ) (x : X) (rest : List ℕ) : Type 0 where
  pub items : List I
  pub so : (q : Q) → W.reads q n x₀ [] start ≡ W.reads q (n - i) x items rest
  pub count : length items ≡ i
  pub stand : (more : List I) → W.Stand (n - i) rest more → W.Stand n start (items ++ more)

unfoldable pub walk_first : {t w : ℕ} {Q X I : Type 0} (W : Walk t w Q X I) (n : ℕ) (x : X) (s : List ℕ) → Walked W n x s 0 x s
walk_first W n x s = let z : n - 0 ≡ n = omega arith in record { items = []; so = λ q. rw z; count = refl; stand = λ more h. rw z at h }

module _ {t w : ℕ} {Q X I : Type 0} {W : Walk t w Q X I} {n : ℕ} {x₀ : X} {start : List ℕ} {i : ℕ} {x : X} where
  pub walk_done : {rest : List ℕ} (st : Walked W n x₀ start i x rest) → n ≤ i → (q : Q) → W.reads q n x₀ [] start ≡ W.reads q 0 x st.items rest
  walk_done st h q = let z : n - i ≡ 0 = omega arith in rw z at (st.so q)

  pub walk_stand : {rest : List ℕ} (st : Walked W n x₀ start i x rest) → W.Stand n start st.items
  walk_stand {rest} st = rw append-nil at (st.stand [] (W.none (n - i) rest))

  -- the next item, at the code's positions: its value stands at p
  module _ (s : List ℕ) (p : ℕ) (st : Walked W n x₀ start i x (drop p s)) (lt : i < n) where
    pub walk_turn : (q : Q) → W.reads q n x₀ [] start ≡ step_of t w (W.rule x st.items) (drop p s)
        (λ k. W.reads q (n - i - 1) (W.on x (take k (drop p s))) (st.items ++ (W.item k (drop p s) ∷ [])) (drop (k + w) (drop p s)))
    walk_turn q = st.so q ∙ W.step q (n - i) x st.items (drop p s) (omega arith)

    pub walk_refused : {r : Refusal} → ValueAt t s p (Err r) → (q : Q) → W.reads q n x₀ [] start ≡ Err r
    unfolding and_then
    walk_refused v q = walk_turn q ∙ rw v

    -- and ends at e
    module _ (e : ℕ) (v : EndsAt t s p e) where
      pub walk_barred : W.rule x st.items (take (e - p) (drop p s)) ≡ false → (q : Q) → W.reads q n x₀ [] start ≡ Err Dict
      unfolding and_then check
      walk_barred b q = walk_turn q ∙ rw (v.0, b)

      module _ (b : W.rule x st.items (take (e - p) (drop p s)) ≡ true) where
        pub walk_short : length s - e < w → (q : Q) → W.reads q n x₀ [] start ≡ Err Short
        unfolding and_then check
        walk_short h q =
            let l : length (drop p s) < e - p + w = simp length-drop (omega arith) in
            walk_turn q ∙ rw (v.0, b, lt-leb (e - p + w) (length (drop p s)) l)

        unfoldable pub walk_next : e + w ≤ length s → Walked W n x₀ start (i + 1) (W.on x (take (e - p) (drop p s))) (drop (e + w) s)
        unfolding and_then check
        walk_next h =
            let l : e - p + w ≤ length (drop p s) = simp length-drop (omega arith) in
            let c : n - i - 1 ≡ n - (i + 1) = omega arith in
            let d = drop_past s p e w (omega arith) in
            let item = W.item (e - p) (drop p s) in
            record {
              items = st.items ++ (item ∷ []);
              so = λ q. walk_turn q ∙ rw (v.0, b, le-leb (e - p + w) (length (drop p s)) l, c, d);
              count = simp length-append (omega (arith, st.count));
              stand = λ more g. rw append_assoc (st.stand (item ∷ more) (W.more (n - i) (drop p s) (e - p) more (omega arith) v.0 l (rw (c, d) g)));
            }

-- ---- the three readings

-- version 1's entries: rows and null's entry are any
pub one_step : (t rows m : ℕ) (nulls es : List Entry) (s : List ℕ) → 0 < m → entries_version_one t rows m nulls es s
    ≡ step_of t 4 (λ v. not (some_has (value v) es)) s (λ k. entries_version_one t rows (m - 1) nulls (es ++ (entry_of false k s ∷ [])) (drop (k + 4) s))
unfolding entries_version_one value_of
one_step t rows zero nulls es s z = absurd (omega arith)
one_step t rows (suc m) nulls es s z =
    let c : suc m - 1 ≡ m = omega arith in
    rw c (then_same (value_size Short Dict t s) _ _ (λ k. rw (word_test 4 s k _ (omega arith))))

abbrev pub ones : (t : ℕ) → Walk t 4 (ℕ × List Entry) (Unit {0}) Entry
ones t = record {
  reads = λ q m x es s. entries_version_one t q.0 m q.1 es s;
  rule = λ x es v. not (some_has (value v) es);
  on = λ x v. x;
  item = entry_of false;
  Stand = λ m s es. EntriesFrom t false m s es;
  step = λ q m x es s z. one_step t q.0 m q.1 es s z;
  none = λ m s. stand_none t false m s;
  more = λ m s k es z e l h. stand_cons t false m s k es (omega arith) e l h;
}

-- a directory's listings: they wait for the blocks
abbrev pub listing : ℕ → List ℕ → Listing
listing k s = record { first = take k s; at = be_at 4 s k }

pub listing_step : (t m : ℕ) (ds : List Listing) (s : List ℕ) (f : AfterListings) → 0 < m
    → listings t m ds s f ≡ step_of t 4 (λ v. true) s (λ k. listings t (m - 1) (ds ++ (listing k s ∷ [])) (drop (k + 4) s) f)
unfolding listings value_of check
listing_step t zero ds s f z = absurd (omega arith)
listing_step t (suc m) ds s f z =
    let c : suc m - 1 ≡ m = omega arith in
    rw c (then_same (value_size Short Dict t s) _ _ (λ k. rw (word_test 4 s k _ (omega arith))))

pub listing_none : (t : ℕ) (s : List ℕ) → ListingsFrom t s []
unfolding ListingsFrom
listing_none t s = tt

pub listing-more : (t : ℕ) (s : List ℕ) (k : ℕ) (ds : List Listing) → value_size Short Dict t s ≡ Ok k → k + 4 ≤ length s → ListingsFrom t (drop (k + 4) s) ds
    → ListingsFrom t s (listing k s ∷ ds)
unfolding ListingsFrom
listing-more t s k ds e l h = (k, e, l, refl, h)

abbrev pub directory : (t : ℕ) → Walk t 4 AfterListings (Unit {0}) Listing
directory t = record {
  reads = λ f m x ds s. listings t m ds s f;
  rule = λ x ds v. true;
  on = λ x v. x;
  item = listing;
  Stand = λ m s ds. ListingsFrom t s ds;
  step = λ f m x ds s z. listing_step t m ds s f z;
  none = λ m s. listing_none t s;
  more = λ m s k ds z e l h. listing-more t s k ds e l h;
}

-- a block's entries, behind any others; an entry's two numbers are one test
either : {x : Result Dictionary Refusal} (b : Bool) → x ≡ Err Short → check b Short x ≡ Err Short
unfolding check
either true h = h
either false h = refl

numbers_test : (s : List ℕ) (k : ℕ) (f : ℕ → ℕ → List ℕ → Result Dictionary Refusal)
    → number big 4 (Err Short) (drop k s) (λ offset s'. number big 4 (Err Short) s' (λ extent s'. f offset extent s'))
    ≡ check (leb (k + 8) (length s)) Short (f (be_at 4 s k) (be_at 4 s (k + 4)) (drop (k + 8) s))
unfolding check
numbers_test s k f = go (leb (k + 8) (length s)) refl
  where
    go : (b : Bool) → leb (k + 8) (length s) ≡ b
        → number big 4 (Err Short) (drop k s) (λ offset s'. number big 4 (Err Short) s' (λ extent s'. f offset extent s')) ≡ check b Short (f (be_at 4 s k) (be_at 4 s (k + 4)) (drop (k + 8) s))
    go true h =
        let l : k + 8 ≤ length s = leb-true (k + 8) (length s) h in
        let q : k + 4 + 4 ≡ k + 8 = omega arith in
        word_at 4 s k _ (omega arith) ∙ word_at 4 s (k + 4) _ (omega arith) ∙ rw q
    go false h =
        let l : length s < k + 8 = leb-false (k + 8) (length s) h in
        word_test 4 s k _ (omega arith) ∙ either (leb (k + 4) (length s)) (word_short 4 s (k + 4) _ (omega arith))

pub block_step : (t m : ℕ) (b h : Cell) (es new : List Entry) (s : List ℕ) (f : AfterBlock) → 0 < m → entries_version_two t m b h (es ++ new) s f
    ≡ step_of t 8 (λ v. past t b v && is_value_due h v) s (λ k. entries_version_two t (m - 1) (value (take k s)) null (es ++ (new ++ (entry_of true k s ∷ []))) (drop (k + 8) s) f)
unfolding entries_version_two value_of
block_step t zero b h es new s f z = absurd (omega arith)
block_step t (suc m) b h es new s f z =
    let c : suc m - 1 ≡ m = omega arith in
    let on : ℕ → ℕ → ℕ → List ℕ → Result Dictionary Refusal = λ k offset extent s'. entries_version_two t m (value (take k s)) null ((es ++ new) ++ (record { cell = value (take k s); offset = offset; extent = extent } ∷ [])) s' f in
    rw c (then_same (value_size Short Dict t s) _ _ (λ k. rw (numbers_test s k (on k)) (simp append_assoc)))

abbrev pub in_block : (t : ℕ) → Walk t 8 (List Entry × AfterBlock) (Cell × Cell) Entry
in_block t = record {
  reads = λ q m x new s. entries_version_two t m x.0 x.1 (q.0 ++ new) s q.1;
  rule = λ x new v. past t x.0 v && is_value_due x.1 v;
  on = λ x v. (value v, null);
  item = entry_of true;
  Stand = λ m s es. EntriesFrom t true m s es;
  step = λ q m x new s z. block_step t m x.0 x.1 q.0 new s q.1 z;
  none = λ m s. stand_none t true m s;
  more = λ m s k es z e l h. stand_cons t true m s k es (omega arith) e l h;
}
