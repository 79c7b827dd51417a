-- What the columns of a head come to, apart from their bytes: the place that the reading gathers is one exactly if the asked column and kind stand once.
use Prim.Native.Nat.{ℕ}
use mathlib.Core.Path.{◌≡◌, refl, sym, ap, ◌∙◌}
use mathlib.Core.Bool.{Bool, true, false, ◌||◌, or-false}
use mathlib.Core.List.{List, [], ◌∷◌, ◌++◌}
use mathlib.Core.Logic.{◌⊎◌, inl, inr, ⊎_elim}
use native.Mathlib.Omega.{arith}
use Rattle.index_file.specs.declared.Part.{Part}
use Rattle.index_file.specs.declared.Seen.{Seen}
use Rattle.index_file.specs.declared.Seen.TheVariants.{Nowhere, Once, Twice}
use Rattle.numbers.specs.Meaning.{position}
use Rattle.numbers.specs.declared.Position.{Position}
use Rattle.names.specs.Layout.{Named}
use Rattle.names.specs.Reading.{matches}
use Rattle.names.proofs.Theorems.{named_is_tested}
use Rattle.index_file.specs.Layout.{ListedIndex, ListedColumn, IsColumn, IsKind, None, ListedOnce, Unlisted, no_column, no_kind}
use Rattle.index_file.specs.Reading.{place_after_entry, part_at, place_after_column}

never : {X : Type 0} → ◌≡◌ {A = ℕ} 0 1 → X
never z = absurd (let w : ⊥ = omega arith in w)

-- ---- one of a list

once_first : {A : Type 0} {P : A → Type 0} {x : A} {l : List A} → P x → None P l → ListedOnce P x (x ∷ l)
once_first {l = l} h n = record { before = []; after = l; parts = refl; holds = h; none_before = tt; none_after = n }

once_later : {A : Type 0} {P : A → Type 0} {x y : A} {l : List A} → (P y → ⊥) → ListedOnce P x l → ListedOnce P x (y ∷ l)
once_later {A} {y = y} n o = record {
  before = y ∷ o.before;
  after = o.after;
  parts = ap (λ (l : List A). y ∷ l) o.parts;
  holds = o.holds;
  none_before = (n, o.none_before);
  none_after = o.none_after;
}

-- ---- names

never_named : (asked stored : List ℕ) → matches asked stored ≡ false → Named asked stored → ⊥
never_named asked stored e n = let z : true ≡ false = sym ((named_is_tested asked stored).0 n) ∙ e in never (cc)

other_name : (asked stored : List ℕ) → (Named asked stored → ⊥) → matches asked stored ≡ false
other_name asked stored h = go (matches asked stored) refl
  where
    go : (b : Bool) → matches asked stored ≡ b → matches asked stored ≡ false
    go true e = absurd (h ((named_is_tested asked stored).1 e))
    go false e = e

-- ---- the entries of a column

module _ (kind : List ℕ) where
  -- the place that the reading gathers from entries
  unfoldable pub place_in : Seen → List ListedIndex → Seen
  place_in place [] = place
  place_in place (e ∷ es) = place_in (place_after_entry (matches kind e.name) (part_at (position e.start) e.length) place) es

  in_none : (place : Seen) (es : List ListedIndex) → None (IsKind kind) es → place_in place es ≡ place
  unfolding place_in place_after_entry
  in_none place [] h = refl
  in_none place (e ∷ es) h = simp (other_name kind e.name h.0) (in_none place es h.1)

  in_parts : (before : List ListedIndex) (e : ListedIndex) (after : List ListedIndex) → IsKind kind e → None (IsKind kind) before → None (IsKind kind) after
      → place_in Nowhere (before ++ (e ∷ after)) ≡ Once (part_at (position e.start) e.length)
  unfolding place_in place_after_entry
  in_parts [] e after n b a =
      ap (λ (t : Bool). place_in (place_after_entry t (part_at (position e.start) e.length) Nowhere) after) ((named_is_tested kind e.name).0 n) ∙ in_none (Once (part_at (position e.start) e.length)) after a
  in_parts (x ∷ before) e after n b a =
      ap (λ (t : Bool). place_in (place_after_entry t (part_at (position x.start) x.length) Nowhere) (before ++ (e ∷ after))) (other_name kind x.name b.0) ∙ in_parts before e after n b.1 a

  pub in_once : {e : ListedIndex} {es : List ListedIndex} → ListedOnce (IsKind kind) e es → place_in Nowhere es ≡ Once (part_at (position e.start) e.length)
  in_once {e} {es} o = rw o.parts (in_parts o.before e o.after o.holds o.none_before o.none_after)

  -- and back

  in_repeated : (es : List ListedIndex) → place_in Twice es ≡ Twice
  unfolding place_in place_after_entry
  in_repeated [] = refl
  in_repeated (e ∷ es) = ap (λ (p : Seen). place_in p es) (stays (matches kind e.name)) ∙ in_repeated es
    where
      stays : (b : Bool) → place_after_entry b (part_at (position e.start) e.length) Twice ≡ Twice
      stays true = refl
      stays false = refl

  in_at : (es : List ListedIndex) (start : Position) (size : ℕ) {place : Seen} → (place ≡ Twice → ⊥) → place_in (Once (part_at start size)) es ≡ place
      → None (IsKind kind) es × (Once (part_at start size) ≡ place)
  unfolding place_in place_after_entry
  in_at [] start size n h = (tt, h)
  in_at (e ∷ es) start size {place} n h = go (matches kind e.name) refl h (in_at es start size n)
    where
      go : (b : Bool) → matches kind e.name ≡ b → place_in (place_after_entry b (part_at (position e.start) e.length) (Once (part_at start size))) es ≡ place
          → (place_in (Once (part_at start size)) es ≡ place → None (IsKind kind) es × (Once (part_at start size) ≡ place))
          → None (IsKind kind) (e ∷ es) × (Once (part_at start size) ≡ place)
      go true q h ih = absurd (n (sym h ∙ in_repeated es))
      go false q h ih = let r = ih h in ((never_named kind e.name q, r.0), r.1)

  -- a place that is no repetition is that of no entry, or of the one that is asked for
  pub in_back : (es : List ListedIndex) {place : Seen} → (place ≡ Twice → ⊥) → place_in Nowhere es ≡ place
      → (None (IsKind kind) es × (Nowhere ≡ place)) ⊎ ((e : ListedIndex) × ListedOnce (IsKind kind) e es × (Once (part_at (position e.start) e.length) ≡ place))
  unfolding place_in place_after_entry
  in_back [] n h = inl (tt, h)
  in_back (e ∷ es) {place} n h = go (matches kind e.name) refl h (in_back es n)
    where
      go : (b : Bool) → matches kind e.name ≡ b → place_in (place_after_entry b (part_at (position e.start) e.length) Nowhere) es ≡ place
          → (place_in Nowhere es ≡ place → (None (IsKind kind) es × (Nowhere ≡ place)) ⊎ ((e : ListedIndex) × ListedOnce (IsKind kind) e es × (Once (part_at (position e.start) e.length) ≡ place)))
          → (None (IsKind kind) (e ∷ es) × (Nowhere ≡ place)) ⊎ ((x : ListedIndex) × ListedOnce (IsKind kind) x (e ∷ es) × (Once (part_at (position x.start) x.length) ≡ place))
      go true q h ih = let r = in_at es (position e.start) e.length n h in inr (e, once_first ((named_is_tested kind e.name).1 q) r.0, r.1)
      go false q h ih =
          let o = never_named kind e.name q in
          ⊎_elim (λ r. inl ((o, r.0), r.1)) (λ r. inr (r.0, once_later o r.1, r.2)) (ih h)

  -- ---- the columns

  module _ (column : List ℕ) where
    -- the place that the reading gathers from columns
    unfoldable pub place_of : Bool → Seen → List ListedColumn → Seen
    place_of seen place [] = place
    place_of seen place (c ∷ cs) =
        place_of (seen || matches column c.name) (place_after_column (matches column c.name) seen (place_in Nowhere c.entries) place) cs

    of_none : (seen : Bool) (place : Seen) (cs : List ListedColumn) → None (IsColumn column) cs → place_of seen place cs ≡ place
    unfolding place_of place_after_column
    of_none seen place [] h = refl
    of_none seen place (c ∷ cs) h = simp (other_name column c.name h.0, or-false) (of_none seen place cs h.1)

    of_parts : (before : List ListedColumn) (c : ListedColumn) (after : List ListedColumn) → IsColumn column c → None (IsColumn column) before
        → None (IsColumn column) after → place_of false Nowhere (before ++ (c ∷ after)) ≡ place_in Nowhere c.entries
    unfolding place_of place_after_column
    of_parts [] c after n b a =
        ap (λ (t : Bool). place_of (false || t) (place_after_column t false (place_in Nowhere c.entries) Nowhere) after) ((named_is_tested column c.name).0 n)
        ∙ of_none true (place_in Nowhere c.entries) after a
    of_parts (x ∷ before) c after n b a =
        ap (λ (t : Bool). place_of (false || t) (place_after_column t false (place_in Nowhere x.entries) Nowhere) (before ++ (c ∷ after))) (other_name column x.name b.0)
        ∙ of_parts before c after n b.1 a

    pub of_once : {c : ListedColumn} {cs : List ListedColumn} → ListedOnce (IsColumn column) c cs → place_of false Nowhere cs ≡ place_in Nowhere c.entries
    of_once {c} {cs} o = rw o.parts (of_parts o.before c o.after o.holds o.none_before o.none_after)

    of_repeated : (cs : List ListedColumn) → place_of true Twice cs ≡ Twice
    unfolding place_of place_after_column
    of_repeated [] = refl
    of_repeated (c ∷ cs) = ap (λ (p : Seen). place_of true p cs) (stays (matches column c.name)) ∙ of_repeated cs
      where
        stays : (b : Bool) → place_after_column b true (place_in Nowhere c.entries) Twice ≡ Twice
        stays true = refl
        stays false = refl

    of_seen : (new : Seen) (cs : List ListedColumn) {place : Seen} → (place ≡ Twice → ⊥) → place_of true new cs ≡ place
        → None (IsColumn column) cs × (new ≡ place)
    unfolding place_of place_after_column
    of_seen new [] n h = (tt, h)
    of_seen new (c ∷ cs) {place} n h = go (matches column c.name) refl h (of_seen new cs n)
      where
        go : (b : Bool) → matches column c.name ≡ b → place_of true (place_after_column b true (place_in Nowhere c.entries) new) cs ≡ place
            → (place_of true new cs ≡ place → None (IsColumn column) cs × (new ≡ place))
            → None (IsColumn column) (c ∷ cs) × (new ≡ place)
        go true q h ih = absurd (n (sym h ∙ of_repeated cs))
        go false q h ih = let r = ih h in ((never_named column c.name q, r.0), r.1)

    -- a place that is no repetition is that of no column, or of the one that is asked for
    pub of_back : (cs : List ListedColumn) {place : Seen} → (place ≡ Twice → ⊥) → place_of false Nowhere cs ≡ place
        → (None (IsColumn column) cs × (Nowhere ≡ place)) ⊎ ((c : ListedColumn) × ListedOnce (IsColumn column) c cs × (place_in Nowhere c.entries ≡ place))
    unfolding place_of place_after_column
    of_back [] n h = inl (tt, h)
    of_back (c ∷ cs) {place} n h = go (matches column c.name) refl h (of_back cs n)
      where
        go : (b : Bool) → matches column c.name ≡ b → place_of (false || b) (place_after_column b false (place_in Nowhere c.entries) Nowhere) cs ≡ place
            → (place_of false Nowhere cs ≡ place → (None (IsColumn column) cs × (Nowhere ≡ place)) ⊎ ((c : ListedColumn) × ListedOnce (IsColumn column) c cs × (place_in Nowhere c.entries ≡ place)))
            → (None (IsColumn column) (c ∷ cs) × (Nowhere ≡ place)) ⊎ ((x : ListedColumn) × ListedOnce (IsColumn column) x (c ∷ cs) × (place_in Nowhere x.entries ≡ place))
        go true q h ih = let r = of_seen (place_in Nowhere c.entries) cs n h in inr (c, once_first ((named_is_tested column c.name).1 q) r.0, r.1)
        go false q h ih =
            let o = never_named column c.name q in
            ⊎_elim (λ r. inl ((o, r.0), r.1)) (λ r. inr (r.0, once_later o r.1, r.2)) (ih h)

    -- the place is one: so the asked column stands once, and in it the asked kind
    pub found_back : (cs : List ListedColumn) (start : Position) (size : ℕ) → place_of false Nowhere cs ≡ Once (part_at start size)
        → (c : ListedColumn) × (e : ListedIndex) × ListedOnce (IsColumn column) c cs × ListedOnce (IsKind kind) e c.entries × (position e.start ≡ start) × (e.length ≡ size)
    found_back cs start size h =
        let n : Once (part_at start size) ≡ Twice → ⊥ = λ e. never (cc) in
        ⊎_elim (λ r. let q : Nowhere ≡ Once (part_at start size) = r.1 in never (cc))
        (λ r. ⊎_elim (λ s. let q : Nowhere ≡ Once (part_at start size) = s.1 in never (cc)) (λ s. let q : Once (part_at (position s.0.start) s.0.length) ≡ Once (part_at start size) = s.2 in let p : part_at (position s.0.start) s.0.length ≡ part_at start size = cc in (r.0, s.0, r.1, s.1, ap (λ (p : Part). p.start) p, ap (λ (p : Part). p.length) p)) (in_back r.0.entries n r.2))
        (of_back cs n h)

    -- there is none: so the asked column is not there, or the asked kind not in it
    pub absent_back : (cs : List ListedColumn) → place_of false Nowhere cs ≡ Nowhere → Unlisted column kind cs
    absent_back cs h =
        let n : Nowhere ≡ Twice → ⊥ = λ e. never (cc) in
        ⊎_elim (λ r. no_column r.0)
        (λ r. ⊎_elim (λ s. no_kind r.1 s.0) (λ s. let q : Once (part_at (position s.0.start) s.0.length) ≡ Nowhere = s.2 in never (cc)) (in_back r.0.entries n r.2))
        (of_back cs n h)

    pub of_unlisted : {cs : List ListedColumn} → Unlisted column kind cs → place_of false Nowhere cs ≡ Nowhere
    of_unlisted {cs} (no_column none) = of_none false Nowhere cs none
    of_unlisted (no_kind {asked} o none) = of_once o ∙ in_none Nowhere asked.entries none
