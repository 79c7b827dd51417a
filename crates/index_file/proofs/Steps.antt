-- The reading's steps over what is left of the bytes: what a step of the code finds.
use Rattle.std.proofs.Common.{◌≡◌, ℕ, zero, suc, ◌+◌, ◌-◌, ◌<◌, ◌≤◌, Bool, false, ◌||◌, List, length, take, drop, ◌∙◌, arith, Err}
use Rattle.std.proofs.lemmas.List.{take_rest}
use borrow.Author.Tests.{le-leb, lt-leb}
use Rattle.numbers.specs.Meaning.{be_at, number, big}
use Rattle.refusal.specs.declared.Refusal.{Refusal}
use Rattle.names.specs.Reading.{matches, size_of_asked_name, askable}
use Rattle.index_file.specs.declared.Part.{Part}
use Rattle.index_file.specs.declared.Seen.{Seen}
use Rattle.index_file.specs.Reading.{count, name, part_at, place_after_entry, entries, place_after_column, columns}
use Rattle.index_file.specs.Promises.{Rest, refused_head}

-- ---- numbers

pub number_short : (w : ℕ) (s : List ℕ) → length s < w → (k : Rest ℕ) → number big w refused_head s k ≡ refused_head
unfolding number
number_short w s h k = simp lt-leb

pub number_read : (w : ℕ) (s : List ℕ) → w ≤ length s → {v : ℕ} → v ≡ be_at w s 0 → (k : Rest ℕ) → number big w refused_head s k ≡ k v (take (length s - w) (drop w s))
unfolding number
number_read w s h e k = simp (le-leb, ← e, take_rest s w)

-- ---- the entries of a column

-- what is left after i of n entries
pub record Entries (isKind : List ℕ → Bool) (s : List ℕ) (n : ℕ) (seen : Seen) (rest : List ℕ) (i : ℕ) : Type 0 where
  pub so : (k : Rest Seen) → entries isKind n Seen.Nowhere s k ≡ entries isKind (n - i) seen rest k

pub entries-first : (isKind : List ℕ → Bool) (s : List ℕ) (n : ℕ) → Entries isKind s n Seen.Nowhere s 0
entries-first isKind s n = let e : n - 0 ≡ n = omega arith in record { so = λ k. simp e }

-- one entry of m that are left
entry : (isKind : List ℕ → Bool) (m : ℕ) (seen : Seen) (s : List ℕ) (k : Rest Seen) → 0 < m
    → entries isKind m seen s k
    ≡ name s (λ stored s. number big 4 refused_head s (λ start s. number big 4 refused_head s (λ size s.
    entries isKind (m - 1) (place_after_entry (isKind stored) (part_at (record { 0 = start }) size) seen) s k)))
unfolding entries
entry isKind zero seen s k h = absurd (omega arith)
entry isKind (suc m) seen s k h = let e : suc m - 1 ≡ m = omega arith in simp e

module _ {isKind : List ℕ → Bool} {s : List ℕ} {n : ℕ} {seen : Seen} {rest : List ℕ} {i : ℕ} (st : Entries isKind s n seen rest i) where
  pub entries_done : n ≤ i → (k : Rest Seen) → entries isKind n Seen.Nowhere s k ≡ k seen rest
  unfolding entries
  entries_done h k = let e : n - i ≡ 0 = omega arith in st.so k ∙ simp e

  module _ (h : i < n) where
    pub entries-name : {r : Refusal} → ((k : Rest (List ℕ)) → name rest k ≡ Err r) → (k : Rest Seen) → entries isKind n Seen.Nowhere s k ≡ Err r
    entries-name f k = st.so k ∙ entry isKind (n - i) seen rest k (omega arith) ∙ f _

    module _ {stored rest' : List ℕ} (f : (k : Rest (List ℕ)) → name rest k ≡ k stored rest') where
      pub entries-start : {r : Refusal} → ((k : Rest ℕ) → number big 4 refused_head rest' k ≡ Err r) → (k : Rest Seen) → entries isKind n Seen.Nowhere s k ≡ Err r
      entries-start g k = st.so k ∙ entry isKind (n - i) seen rest k (omega arith) ∙ f _ ∙ g _

      module _ {start : ℕ} {past : List ℕ} (g : (k : Rest ℕ) → number big 4 refused_head rest' k ≡ k start past) where
        pub entries-length : {r : Refusal} → ((k : Rest ℕ) → number big 4 refused_head past k ≡ Err r) → (k : Rest Seen) → entries isKind n Seen.Nowhere s k ≡ Err r
        entries-length d k = st.so k ∙ entry isKind (n - i) seen rest k (omega arith) ∙ f _ ∙ g _ ∙ d _

        pub entries-next : {size : ℕ} {left : List ℕ} → ((k : Rest ℕ) → number big 4 refused_head past k ≡ k size left) → {hit : Bool} → hit ≡ isKind stored
            → {seen' : Seen} → seen' ≡ place_after_entry hit (part_at (record { 0 = start }) size) seen → Entries isKind s n seen' left (i + 1)
        entries-next d b c =
            let y : n - i - 1 ≡ n - (i + 1) = omega arith in
            record { so = λ k. st.so k ∙ entry isKind (n - i) seen rest k (omega arith) ∙ f _ ∙ g _ ∙ d _ ∙ simp (← b, ← c, y) }

-- ---- the columns

-- what is left after i of n columns
pub record Columns (isColumn isKind : List ℕ → Bool) (s : List ℕ) (n : ℕ) (seen : Seen) (listed : Bool) (rest : List ℕ) (i : ℕ) : Type 0 where
  pub so : (k : Rest Seen) → columns isColumn isKind n false Seen.Nowhere s k ≡ columns isColumn isKind (n - i) listed seen rest k

pub columns-first : (isColumn isKind : List ℕ → Bool) (s : List ℕ) (n : ℕ) → Columns isColumn isKind s n Seen.Nowhere false s 0
columns-first isColumn isKind s n = let e : n - 0 ≡ n = omega arith in record { so = λ k. simp e }

-- one column of m that are left
one_column : (isColumn isKind : List ℕ → Bool) (m : ℕ) (listed : Bool) (seen : Seen) (s : List ℕ) (k : Rest Seen) → 0 < m
    → columns isColumn isKind m listed seen s k
    ≡ name s (λ stored s. count s (λ n s. entries isKind n Seen.Nowhere s (λ new s.
    columns isColumn isKind (m - 1) (listed || isColumn stored) (place_after_column (isColumn stored) listed new seen) s k)))
unfolding columns
one_column isColumn isKind zero listed seen s k h = absurd (omega arith)
one_column isColumn isKind (suc m) listed seen s k h = let e : suc m - 1 ≡ m = omega arith in simp e

module _ {isColumn isKind : List ℕ → Bool} {s : List ℕ} {n : ℕ} {seen : Seen} {listed : Bool} {rest : List ℕ} {i : ℕ} (st : Columns isColumn isKind s n seen listed rest i) where
  pub columns_done : n ≤ i → (k : Rest Seen) → columns isColumn isKind n false Seen.Nowhere s k ≡ k seen rest
  unfolding columns
  columns_done h k = let e : n - i ≡ 0 = omega arith in st.so k ∙ simp e

  module _ (h : i < n) where
    pub columns-name : {r : Refusal} → ((k : Rest (List ℕ)) → name rest k ≡ Err r) → (k : Rest Seen) → columns isColumn isKind n false Seen.Nowhere s k ≡ Err r
    columns-name f k = st.so k ∙ one_column isColumn isKind (n - i) listed seen rest k (omega arith) ∙ f _

    module _ {stored rest' : List ℕ} (f : (k : Rest (List ℕ)) → name rest k ≡ k stored rest') where
      pub columns-count : {r : Refusal} → ((k : Rest ℕ) → count rest' k ≡ Err r) → (k : Rest Seen) → columns isColumn isKind n false Seen.Nowhere s k ≡ Err r
      columns-count g k = st.so k ∙ one_column isColumn isKind (n - i) listed seen rest k (omega arith) ∙ f _ ∙ g _

      module _ {m : ℕ} {past : List ℕ} (g : (k : Rest ℕ) → count rest' k ≡ k m past) where
        pub columns-entries : {r : Refusal} → ((k : Rest Seen) → entries isKind m Seen.Nowhere past k ≡ Err r)
            → (k : Rest Seen) → columns isColumn isKind n false Seen.Nowhere s k ≡ Err r
        columns-entries d k = st.so k ∙ one_column isColumn isKind (n - i) listed seen rest k (omega arith) ∙ f _ ∙ g _ ∙ d _

        pub columns-next : {new : Seen} {left : List ℕ} → ((k : Rest Seen) → entries isKind m Seen.Nowhere past k ≡ k new left) → {hit : Bool} → hit ≡ isColumn stored
            → {seen' : Seen} → seen' ≡ place_after_column hit listed new seen → Columns isColumn isKind s n seen' (listed || hit) left (i + 1)
        columns-next d b c =
            let y : n - i - 1 ≡ n - (i + 1) = omega arith in
            record { so = λ k. st.so k ∙ one_column isColumn isKind (n - i) listed seen rest k (omega arith) ∙ f _ ∙ g _ ∙ d _ ∙ simp (← b, ← c, y) }
