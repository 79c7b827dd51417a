-- The table as Open left it: each of its words leads to a block's entry of the directory, and that is read.
use Prim.Native.Nat.{ℕ, ◌+◌, ◌≤◌}
use native.Mathlib.Omega.{arith}
use mathlib.Core.Path.{◌≡◌, ap, ◌∙◌}
use mathlib.Core.List.{List, ◌∷◌, ◌++◌}
use lib.ListN.{length, length-append}
use Rattle.numbers.specs.Meaning.{be, big, joined}
use Rattle.numbers.proofs.Laws.{number_laid}
use Rattle.refusal.specs.Meaning.{limit}
use Rattle.refusal.specs.declared.Refusal.TheVariants.{Short}
use Rattle.std.specs.Prelude.{Err, Ok}
use Rattle.stored_value.specs.Meaning.{null}
use Rattle.dictionary.specs.Layout.{Entry, Valued, value_bytes, first, Rises, NoneEmpty, block, blocks, directory, null2, body2}
use Rattle.dictionary.proofs.LaidOut.{last_of, value_of_laid}
use Rattle.opening.specs.Layout.{entry_starts}
use Rattle.opening.proofs.FrontLaid.{behind_directory, entry_stands}
use Rattle.lookup.specs.Reading.{EntryRead, entry_read, entry_for}
use Rattle.lookup.proofs.BlockParts.{blocks-append, none_empty-cut, rises_behind, first_is}

-- what the table has for the block b, which stands behind the blocks xs and before the blocks ys
abbrev pub listed_of : List (List Entry) → List Entry → List (List Entry) → List ℕ → EntryRead
listed_of xs b ys tail =
    record { first = value_bytes (first b); at = length (blocks xs); behind = directory (length (blocks xs) + length (block b)) ys ++ tail }

listed_laid : (t : ℕ) (xs : List (List Entry)) (b : List Entry) (ys : List (List Entry)) (tail : List ℕ) → Valued t (first b) → length (blocks xs) ≤ limit
    → entry_read t (value_bytes (first b) ++ (be 4 (length (blocks xs)) ++ (directory (length (blocks xs) + length (block b)) ys ++ tail))) ≡ Ok (listed_of xs b ys tail)
unfolding entry_read
listed_laid t xs b ys tail v l =
    let at : ℕ = length (blocks xs) in
    let rest : List ℕ = directory (at + length (block b)) ys ++ tail in
    value_of_laid t (first b) (be 4 at ++ rest) _ v ∙ number_laid big 4 (Err Short) at rest _ (omega arith)

-- a table leads to the entries of these blocks
abbrev pub LeadsTo : ℕ → List ℕ → List ℕ → List (List Entry) → List ℕ → Type 0
LeadsTo t table body bs tail =
    (xs : List (List Entry)) (b : List Entry) (ys : List (List Entry)) → bs ≡ xs ++ (b ∷ ys) → entry_for t table body (length xs) ≡ Ok (listed_of xs b ys tail)

module _ (t n : ℕ) (nulls : List Entry) (bs : List (List Entry)) (region more : List ℕ) where
  -- blocks are no longer than the body
  pub blocks-short : length (blocks bs) ≤ length (body2 n nulls bs region)
  blocks-short =
      let rest : List ℕ = behind_directory bs region in
      omega (arith, length-append (null2 nulls) (be 4 (length bs) ++ (directory 0 bs ++ rest)), length-append (directory 0 bs) rest, length-append (blocks bs) region)

  pub table_leads : NoneEmpty bs → Rises t null (joined bs) → length (body2 n nulls bs region) ≤ limit
      → LeadsTo t (entry_starts n nulls bs ++ more) (body2 n nulls bs region) bs (behind_directory bs region)
  unfolding entry_for
  table_leads ne r short xs b ys e =
      let m = none_empty-cut xs (b ∷ ys) (rw e at ne) in
      let v : Valued t (first b) = first_is t (last_of null (joined xs)) b (joined ys) m.1.0 (rises_behind t null xs (b ∷ ys) (rw e at r)) in
      let w : blocks bs ≡ blocks xs ++ blocks (b ∷ ys) = ap (λ (zs : List (List Entry)). blocks zs) e ∙ blocks-append xs (b ∷ ys) in
      let l : length (blocks xs) ≤ length (blocks bs) = omega (arith, ap (λ (z : List ℕ). length z) w, length-append (blocks xs) (blocks (b ∷ ys))) in
      let s : length (blocks xs) ≤ limit = omega (arith, blocks-short) in
      ap (entry_read t) (entry_stands n nulls bs region more xs b ys e)
      ∙ listed_laid t xs b ys (behind_directory bs region) v s
