-- One block, searched: it has the entry whose value is the literal, if any block does.
use Prim.Native.Nat.{ℕ, ◌+◌, ◌≤◌, ◌<◌}
use native.Mathlib.Omega.{arith}
use mathlib.Core.Path.{◌≡◌, refl, sym, ap, ◌∙◌, subst}
use mathlib.Core.Bool.{Bool, true, false, cond}
use mathlib.Core.List.{List, [], ◌∷◌, ◌++◌, append_assoc, append-nil}
use lib.Dec.{eqb}
use lib.ListN.{length, drop, length-append}
use lib.Seq.{drop_at}
use borrow.Author.Tests.{le-leb, lt-ltb, eq-eqb, ne_eqb, eqb-true}
use Rattle.numbers.specs.Meaning.{be, big, joined, same, sign_bit}
use Rattle.numbers.proofs.Booleans.{or_neither}
use Rattle.numbers.proofs.Laws.{number_laid}
use Rattle.numbers.proofs.SameBytes.{same-sym}
use Rattle.refusal.specs.declared.Refusal.TheVariants.{Short}
use Rattle.std.specs.Prelude.{Err, Ok}
use Rattle.refusal.specs.Reading.{check}
use Rattle.stored_value.specs.Meaning.{Cell, null, value, same_cell, less}
use Rattle.stored_value.proofs.Laws.{same_cell→eq, listed_alone}
use Rattle.dictionary.specs.Layout.{Entry, Valued, Patterns, value_bytes, some_has, first, Past, Rises, NoneEmpty, entries2, block, blocks}
use Rattle.dictionary.proofs.LaidOut.{last_of, cell_back, value_of_laid, patterns_cut, rises_cut}
use Rattle.dictionary.proofs.Theorems.{past_rises, rises_none}
use Rattle.bitmap_index.specs.Meaning.{equal, question, chosen, takes}
use Rattle.bitmap_index.specs.Reading.{chosen_of, well_formed}
use Rattle.bitmap_index.proofs.AcceptedStages.{asked_back}
use Rattle.bitmap_index.proofs.Marking.{chosen-append}
use Rattle.lookup.specs.Reading.{Halved, Searched, searched_in, searched, no_block}
use Rattle.lookup.proofs.BlockParts.{joined-append, blocks-append, none_empty-cut}
use Rattle.lookup.proofs.HalvingLaid.{Above, HalvedAt, before_all, in_block}

-- the entries that EQUAL chooses
abbrev pub equals : ℕ → List (List ℕ) → List Entry → List Entry
equals edition ls es = chosen_of (question edition equal) ls es

-- it chooses the cell that is its literal
abbrev pub ChoosesLiteral : ℕ → List ℕ → List (List ℕ) → Type 0
ChoosesLiteral edition literal ls = (c : Cell) → chosen (question edition equal) ls c ≡ same_cell (value literal) c

pub chooses_literal : (t edition : ℕ) (literal body : List ℕ) (ls : List (List ℕ)) → well_formed t (question edition equal) literal body ≡ Ok ls
    → ChoosesLiteral edition literal ls
unfolding chosen same_cell takes
chooses_literal t edition literal body ls e null = refl
chooses_literal t edition literal body ls e (value v) =
    let (short, short-literals, known, is-edition, name, is, one) = asked_back t (question edition equal) literal body ls e in
    listed_alone t v literal ls is (eqb-true (length ls) 1 one) ∙ same-sym v literal

-- what rises past a value rises past it up to any entry behind
past_later : (t : ℕ) (v : List ℕ) (es : List Entry) (f : Entry) (fs : List Entry) → Rises t (value v) (es ++ (f ∷ fs)) → Past t (value v) f.cell
past_later t v [] f fs r = r.1
past_later t v (e ∷ es) f fs r = past_later t v es f fs (past_rises t v e.cell (es ++ (f ∷ fs)) r.1 r.2)

past-less : (t : ℕ) (v : List ℕ) (c : Cell) → Past t (value v) c → less t v (value_bytes c) ≡ true
past-less t v null p = absurd p
past-less t v (value w) p = p

less-past : (t : ℕ) (v : List ℕ) (c : Cell) → Valued t c → less t v (value_bytes c) ≡ true → Past t (value v) c
less-past t v null x p = absurd x
less-past t v (value w) x p = p

same-value : (t : ℕ) (v : List ℕ) (c : Cell) → Valued t c → same (value_bytes c) v ≡ same_cell (value v) c
unfolding same_cell
same-value t v null x = absurd x
same-value t v (value w) x = same-sym w v

module _ (t edition : ℕ) (literal : List ℕ) (ls : List (List ℕ)) (chooses : ChoosesLiteral edition literal ls) where
  none-chosen : (es : List Entry) → some_has (value literal) es ≡ false → equals edition ls es ≡ []
  unfolding chosen_of
  none-chosen [] h = refl
  none-chosen (e ∷ es) h =
      let o = or_neither (same_cell (value literal) e.cell) (some_has (value literal) es) h in
      rw (chooses e.cell, o.0) (none-chosen es o.1)

  -- no value of blocks above the literal is it
  above-none : (before : Cell) (bs : List (List Entry)) → NoneEmpty bs → Rises t before (joined bs) → Above t literal bs
      → equals edition ls (joined bs) ≡ []
  above-none before bs n r a = none-chosen (joined bs) (rises_none t literal (joined bs) (past_all bs n r a))
    where
      past_all : (bs : List (List Entry)) → NoneEmpty bs → Rises t before (joined bs) → Above t literal bs → Rises t (value literal) (joined bs)
      past_all [] n r a = tt
      past_all ([] ∷ bs) n r a = absurd (omega (arith, n.0))
      past_all ((e ∷ b) ∷ bs) n r a = (r.0, less-past t literal e.cell r.0 a, r.2)

  -- nor is one that comes before a value at or below the literal
  before_none : (before : Cell) (es : List Entry) (f : Entry) (fs : List Entry) → Rises t before (es ++ (f ∷ fs)) → less t literal (value_bytes f.cell) ≡ false
      → equals edition ls es ≡ []
  before_none before es f fs r l = none-chosen es (not_before before es r)
    where
      not_here : (c : Cell) (es : List Entry) → Rises t c (es ++ (f ∷ fs)) → (b : Bool) → same_cell (value literal) c ≡ b → b ≡ false
      not_here c es r false s = refl
      not_here c es r true s =
          let i : value literal ≡ c = same_cell→eq (value literal) c s in
          let p = past-less t literal f.cell (past_later t literal es f fs (rw (← i) at r)) in
          cc

      not_before : (before : Cell) (es : List Entry) → Rises t before (es ++ (f ∷ fs)) → some_has (value literal) es ≡ false
      not_before before [] r = refl
      not_before before (e ∷ es) r = rw (not_here e.cell es r.2 (same_cell (value literal) e.cell) refl) (not_before e.cell es r.2)

  -- ---- the search

  -- one entry: it is the literal's, or those behind it decide
  searched-one : (n : ℕ) (e : Entry) (es : List Entry) (compared : ℕ) (s : List ℕ) → Valued t e.cell → Patterns (e ∷ es)
      → searched_in t literal n (length (e ∷ es)) compared (entries2 (e ∷ es) ++ s)
      ≡ cond (same_cell (value literal) e.cell) (Ok (record { entries = n; hit = e ∷ []; compared = compared + 1 }))
      (searched_in t literal n (length es) (compared + 1) (entries2 es ++ s))
  unfolding searched_in
  searched-one n e es compared s v p =
      let c : Cell = e.cell in
      rw (append_assoc (value_bytes c) (be 4 e.offset ++ (be 4 e.extent ++ entries2 es)) s)
      (value_of_laid t c (be 4 e.offset ++ (be 4 e.extent ++ (entries2 es ++ s))) _ v
      ∙ number_laid big 4 (Err Short) e.offset (be 4 e.extent ++ (entries2 es ++ s)) _ p.0
      ∙ number_laid big 4 (Err Short) e.extent (entries2 es ++ s) _ p.1
      ∙ rw (same-value t literal c v, cell_back t c v))

  abbrev Finds : ℕ → List Entry → ℕ → List ℕ → Type 0
  Finds n es compared s =
      (k : ℕ) × (searched_in t literal n (length es) compared s ≡ Ok (record { entries = n; hit = equals edition ls es; compared = k }))

  searched_in_lem : (before : Cell) (n : ℕ) (es : List Entry) (compared : ℕ) (s : List ℕ) → Rises t before es → Patterns es → Finds n es compared (entries2 es ++ s)
  unfolding searched_in chosen_of
  searched_in_lem before n [] compared s r p = (compared, refl)
  searched_in_lem before n (e ∷ es) compared s r p =
      go (same_cell (value literal) e.cell) refl (searched_in_lem e.cell n es (compared + 1) s r.2 p.2)
    where
      go : (b : Bool) → same_cell (value literal) e.cell ≡ b → Finds n es (compared + 1) (entries2 es ++ s) → Finds n (e ∷ es) compared (entries2 (e ∷ es) ++ s)
      go true f i =
          let c : value literal ≡ e.cell = same_cell→eq (value literal) e.cell f in
          let none : equals edition ls es ≡ [] = none-chosen es (rises_none t literal es (rw (← c) at r.2)) in
          (compared + 1, searched-one n e es compared s r.0 p ∙ rw (chooses e.cell, f, none))
      go false f (k, i) = (k, searched-one n e es compared s r.0 p ∙ rw (chooses e.cell, f) i)

  searched_laid : (before : Cell) (es : List Entry) (s : List ℕ) → 1 ≤ length es → length es < sign_bit → Rises t before es → Patterns es
      → (b : Searched) × (searched t literal (block es ++ s) ≡ Ok b) × (b.hit ≡ equals edition ls es)
  unfolding searched check
  searched_laid before es s h l r p =
      let n : ℕ = length es in
      let (k, i) = searched_in_lem before n es 0 s r p in (
        record { entries = n; hit = equals edition ls es; compared = k },
        number_laid big 4 (Err Short) n (entries2 es ++ s) _ (omega arith) ∙ rw (le-leb 1 n h, lt-ltb n sign_bit l) i,
        refl,
      )

  -- ---- the block that halving comes to

  abbrev FoundIn : List (List Entry) → ℕ → List ℕ → Type 0
  FoundIn bs at base = (b : Searched) × (searched t literal (drop at base) ≡ Ok b) × (b.hit ≡ equals edition ls (joined bs))

  -- before its first value no value is the literal
  before_block : (before : Cell) (es b fs : List Entry) → 1 ≤ length b → Rises t before (es ++ (b ++ fs)) → less t literal (value_bytes (first b)) ≡ false
      → equals edition ls es ≡ []
  before_block before es [] fs n r l = absurd (omega arith)
  before_block before es (e ∷ b) fs n r l = before_none before es e (b ++ fs) r l

  found_at : (xs : List (List Entry)) (b : List Entry) (ys : List (List Entry)) (region : List ℕ)
      → drop (length (blocks xs)) (blocks (xs ++ (b ∷ ys)) ++ region) ≡ block b ++ (blocks ys ++ region)
  found_at xs b ys region =
      rw (blocks-append xs (b ∷ ys), append_assoc (blocks xs) (blocks (b ∷ ys)) region)
      (drop_at (blocks xs) (blocks (b ∷ ys) ++ region) (length (blocks xs)) refl ∙ append_assoc (block b) (blocks ys) region)

  found_in : (xs : List (List Entry)) (b : List Entry) (ys : List (List Entry)) (region : List ℕ) → NoneEmpty (xs ++ (b ∷ ys)) → Rises t null (joined (xs ++ (b ∷ ys)))
      → Patterns (joined (xs ++ (b ∷ ys))) → length (joined (xs ++ (b ∷ ys))) < sign_bit → less t literal (value_bytes (first b)) ≡ false → Above t literal ys
      → FoundIn (xs ++ (b ∷ ys)) (length (blocks xs)) (blocks (xs ++ (b ∷ ys)) ++ region)
  found_in xs b ys region n r p l f a =
      let es : List Entry = joined xs in
      let fs : List Entry = joined ys in
      let cut : joined (xs ++ (b ∷ ys)) ≡ es ++ (b ++ fs) = joined-append xs (b ∷ ys) in
      let m = none_empty-cut xs (b ∷ ys) n in
      let rises = rw cut at r in
      let u = rises_cut t null es (b ++ fs) rises in
      let w = rises_cut t (last_of null es) b fs u.1 in
      let x = patterns_cut b fs (patterns_cut es (b ++ fs) (rw cut at p)).1 in
      let long : length b < sign_bit = omega (arith, ap (λ (zs : List Entry). length zs) cut, length-append es (b ++ fs), length-append b fs) in
      let (found, is, hit) = searched_laid (last_of null es) b (blocks ys ++ region) m.1.0 long w.0 x.0 in
      let one = before_block null es b fs m.1.0 rises f in
      let two = above-none (last_of (last_of null es) b) ys m.1.1 w.1 a in (
        found,
        ap (searched t literal) (found_at xs b ys region) ∙ is,
        hit ∙ sym (ap (equals edition ls) cut ∙ chosen-append (question edition equal) ls es (b ++ fs)
            ∙ rw (one, chosen-append (question edition equal) ls b fs, two) (append-nil (equals edition ls b))),
      )

  -- so it has the literal's entry, if there is one
  pub block_laid : (bs : List (List Entry)) (region : List ℕ) (h : Halved) → HalvedAt t literal bs h → NoneEmpty bs → Rises t null (joined bs) → Patterns (joined bs)
      → length (joined bs) < sign_bit
      → (b : Searched) × (cond (eqb h.below 0) (Ok no_block) (searched t literal (drop h.at (blocks bs ++ region))) ≡ Ok b)
      × (b.hit ≡ equals edition ls (joined bs))
  block_laid bs region h (before_all z a) n r p l = (no_block, rw (eq-eqb h.below 0 z), sym (above-none null bs n r a))
  block_laid bs region h (in_block xs b ys e f a z o) n r p l =
      let (found, is, hit) = found_in xs b ys region (rw e at n) (rw e at r) (rw e at p) (rw e at l) f a in
      let back : FoundIn bs (length (blocks xs)) (blocks bs ++ region) =
      subst (λ (zs : List (List Entry)). FoundIn zs (length (blocks xs)) (blocks zs ++ region)) (sym e) (found, is, hit) in
      (back.0, rw (ne_eqb h.below 0 (omega arith), o) back.1, back.2)
