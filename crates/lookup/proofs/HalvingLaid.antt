-- Halving, through a table that leads to the entries of blocks: it comes to the last block that begins at or below the literal.
use Prim.Native.Nat.{ℕ, zero, suc, ◌+◌, ◌-◌, ◌/◌, ◌≤◌, ◌<◌}
use native.Mathlib.Decide.{ℕ_discrete}
use native.Mathlib.Omega.{arith}
use mathlib.Core.Path.{◌≡◌, refl, sym, ap, ◌∙◌, subst}
use mathlib.Core.Bool.{Bool, true, false, cond}
use mathlib.Core.List.{List, [], ◌∷◌, ◌++◌, append_assoc, append-nil}
use lib.ListN.{length, take, drop, get_or, length-append, length-drop}
use lib.Seq.{split_at, length-take-le}
use borrow.Author.Tests.{eq-eqb, ne_eqb}
use Rattle.refusal.specs.declared.Refusal.{Refusal}
use Rattle.std.specs.Prelude.{Result, Ok}
use Rattle.refusal.specs.Reading.{and_then}
use Rattle.stored_value.specs.Meaning.{less}
use Rattle.dictionary.specs.Layout.{Entry, value_bytes, first, blocks}
use Rattle.lookup.specs.Reading.{EntryRead, entry_for, Halved, halving}
use Rattle.lookup.proofs.TableStarts.{listed_of, LeadsTo}

-- the first of the blocks begins above the literal: so do the others, as values rise
abbrev pub Above : ℕ → List ℕ → List (List Entry) → Type 0
Above t literal [] = Unit {0}
Above t literal (b ∷ bs) = less t literal (value_bytes (first b)) ≡ true

-- the last of the blocks, at the offset `at`, begins at or below the literal: so do the others
data UpTo (t : ℕ) (literal : List ℕ) (bs : List (List Entry)) (at : ℕ) : Type 0 where
  none : bs ≡ [] → UpTo t literal bs at
  some : (xs : List (List Entry)) (b : List Entry) → bs ≡ xs ++ (b ∷ []) → less t literal (value_bytes (first b)) ≡ false → at ≡ length (blocks xs)
      → UpTo t literal bs at

-- what a halving comes to
pub data HalvedAt (t : ℕ) (literal : List ℕ) (bs : List (List Entry)) (h : Halved) : Type 0 where
  before_all : h.below ≡ 0 → Above t literal bs → HalvedAt t literal bs h
  in_block : (xs : List (List Entry)) (b : List Entry) (ys : List (List Entry)) → bs ≡ xs ++ (b ∷ ys) → less t literal (value_bytes (first b)) ≡ false
      → Above t literal ys → h.below ≡ length xs + 1 → h.at ≡ length (blocks xs) → HalvedAt t literal bs h

module _ (t : ℕ) (literal table body : List ℕ) where
  -- with none in doubt it ends
  halving_done : (steps low many at compared : ℕ) → many ≡ 0
      → halving t literal table body steps low many at compared ≡ Ok (record { below = low; at = at; compared = compared })
  unfolding halving
  halving_done zero low many at compared e = refl
  halving_done (suc steps) low many at compared e = rw (eq-eqb many 0 e)

  -- else the one in the middle decides
  halving-next : (steps low many at compared : ℕ) (d : EntryRead) → (many ≡ 0 → ⊥) → entry_for t table body (low + many / 2) ≡ Ok d
      → halving t literal table body (suc steps) low many at compared
      ≡ cond (less t literal d.first) (halving t literal table body steps low (many / 2) at (compared + 1))
      (halving t literal table body steps (low + many / 2 + 1) (many - many / 2 - 1) d.at (compared + 1))
  unfolding halving and_then
  halving-next steps low many at compared d n e = rw (ne_eqb many 0 n, e)

  module _ (bs : List (List Entry)) (tail : List ℕ) (leads : LeadsTo t table body bs tail) where
    abbrev ComesTo : Result Halved Refusal → Type 0
    ComesTo x = (h : Halved) × (x ≡ Ok h) × HalvedAt t literal bs h

    comes_as : (x y : Result Halved Refusal) → x ≡ y → ComesTo y → ComesTo x
    comes_as x y e (h, is, at) = (h, e ∙ is, at)

    abbrev Comes : ℕ → ℕ → ℕ → ℕ → ℕ → Type 0
    Comes steps low many at compared = ComesTo (halving t literal table body steps low many at compared)

    comes_end : (low at compared : ℕ) (lows highs : List (List Entry)) → bs ≡ lows ++ highs → length lows ≡ low → UpTo t literal lows at → Above t literal highs
        → HalvedAt t literal bs (record { below = low; at = at; compared = compared })
    comes_end low at compared lows highs e l (none n) a =
        let z : bs ≡ highs = e ∙ ap (λ (xs : List (List Entry)). xs ++ highs) n in
        before_all (sym l ∙ ap (λ (xs : List (List Entry)). length xs) n) (subst (λ (xs : List (List Entry)). Above t literal xs) (sym z) a)
    comes_end low at compared lows highs e l (some xs b n f o) a =
        in_block xs b highs (e ∙ ap (λ (zs : List (List Entry)). zs ++ highs) n ∙ append_assoc xs (b ∷ []) highs) f a
        (omega (arith, ap (λ (zs : List (List Entry)). length zs) n, length-append xs (b ∷ []))) o

    -- from these on: those before are `lows`, those in doubt `mids`, those behind `highs`
    abbrev From : ℕ → Type 0
    From steps =
        (low many at compared : ℕ) (lows mids highs : List (List Entry)) → bs ≡ lows ++ (mids ++ highs) → length lows ≡ low → length mids ≡ many → many ≤ steps
        → UpTo t literal lows at → Above t literal highs → Comes steps low many at compared

    comes_done : (steps low many at compared : ℕ) (lows mids highs : List (List Entry)) → bs ≡ lows ++ (mids ++ highs) → length lows ≡ low → length mids ≡ many
        → many ≡ 0 → UpTo t literal lows at → Above t literal highs → Comes steps low many at compared
    comes_done steps low many at compared lows [] highs e l m z u a =
        (record { below = low; at = at; compared = compared }, halving_done steps low many at compared z, comes_end low at compared lows highs e l u a)
    comes_done steps low many at compared lows (b ∷ mids) highs e l m z u a = absurd (omega arith)

    comes_next : (steps low many at compared : ℕ) (lows mids highs : List (List Entry)) → bs ≡ lows ++ (mids ++ highs) → length lows ≡ low → length mids ≡ many
        → many ≤ suc steps → (many ≡ 0 → ⊥) → UpTo t literal lows at → Above t literal highs → From steps → Comes (suc steps) low many at compared
    comes_next steps low many at compared lows mids highs e l m s n u a again = go (less t literal (value_bytes (first b))) refl
      where
        k : ℕ
        k = many / 2

        front : List (List Entry)
        front = take k mids

        xs : List (List Entry)
        xs = lows ++ front

        b : List Entry
        b = get_or mids k []

        rest : List (List Entry)
        rest = drop (suc k) mids

        k_less : k < many
        k_less = omega arith

        front_long : length front ≡ k
        front_long = length-take-le k mids (omega (arith, k_less))

        rest_long : length rest ≡ many - k - 1
        rest_long = rw length-drop (omega (arith, k_less))

        cut : bs ≡ lows ++ (front ++ (b ∷ (rest ++ highs)))
        cut =
            e ∙ ap (λ (zs : List (List Entry)). lows ++ (zs ++ highs)) (split_at mids k [] (omega (arith, k_less)))
            ∙ ap (λ (zs : List (List Entry)). lows ++ zs) (append_assoc (take k mids) (get_or mids k [] ∷ drop (suc k) mids) highs)

        whole : bs ≡ xs ++ (b ∷ (rest ++ highs))
        whole = cut ∙ sym (append_assoc lows front (b ∷ (rest ++ highs)))

        long : length xs ≡ low + k
        long = omega (arith, length-append lows front, front_long)

        is : entry_for t table body (low + k) ≡ Ok (listed_of xs b (rest ++ highs) tail)
        is = subst (λ (i : ℕ). entry_for t table body i ≡ Ok (listed_of xs b (rest ++ highs) tail)) long (leads xs b (rest ++ highs) whole)

        next : halving t literal table body (suc steps) low many at compared
            ≡ cond (less t literal (value_bytes (first b))) (halving t literal table body steps low k at (compared + 1))
            (halving t literal table body steps (low + k + 1) (many - k - 1) (length (blocks xs)) (compared + 1))
        next = halving-next steps low many at compared (listed_of xs b (rest ++ highs) tail) n is

        go : (c : Bool) → less t literal (value_bytes (first b)) ≡ c → Comes (suc steps) low many at compared
        go true f =
            comes_as _ (halving t literal table body steps low k at (compared + 1)) (next ∙ rw f)
            (again low k at (compared + 1) lows front (b ∷ (rest ++ highs)) cut l front_long (omega (arith, k_less)) u f)
        go false f =
            comes_as _ (halving t literal table body steps (low + k + 1) (many - k - 1) (length (blocks xs)) (compared + 1)) (next ∙ rw f)
            (again (low + k + 1) (many - k - 1) (length (blocks xs)) (compared + 1) (xs ++ (b ∷ [])) rest highs (whole ∙ sym (append_assoc xs (b ∷ []) (rest ++ highs)))
            (omega (arith, length-append xs (b ∷ []), long)) rest_long (omega (arith, k_less)) (some xs b refl f refl) a)

    comes : (steps : ℕ) → From steps
    comes zero low many at compared lows mids highs e l m s u a = comes_done zero low many at compared lows mids highs e l m (omega arith) u a
    comes (suc steps) low many at compared lows mids highs e l m s u a = by (ℕ_discrete many 0) (comes steps)
      where
        by : Dec (many ≡ 0) → From steps → Comes (suc steps) low many at compared
        by (yes z) again = comes_done (suc steps) low many at compared lows mids highs e l m z u a
        by (no n) again = comes_next steps low many at compared lows mids highs e l m s n u a again

    -- from the first on
    pub halving_laid : (h : Halved) × (halving t literal table body (length bs) 0 (length bs) 0 0 ≡ Ok h) × HalvedAt t literal bs h
    halving_laid = comes (length bs) 0 (length bs) 0 0 [] bs [] (sym (append-nil bs)) refl refl (omega arith) (none refl) tt
