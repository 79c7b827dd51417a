-- The blocks of a body, cut in two: what is said of all of them is said of both parts.
use Prim.Native.Nat.{ℕ, suc, ◌-◌, ◌≤◌, ◌<◌}
use native.Mathlib.Omega.{arith}
use mathlib.Core.Path.{◌≡◌, refl, sym, ap, ◌∙◌}
use mathlib.Core.List.{List, [], ◌∷◌, ◌++◌, append_assoc}
use lib.ListN.{length, take, get_or, drop_of_length-le}
use lib.Seq.{split_at}
use Rattle.numbers.specs.Meaning.{joined}
use Rattle.stored_value.specs.Meaning.{Cell}
use Rattle.dictionary.specs.Layout.{Entry, Valued, first, Rises, NoneEmpty, block, blocks}
use Rattle.dictionary.proofs.LaidOut.{last_of, rises_cut}
use Rattle.bitmap_index.proofs.Marking.{all_parts}

pub joined-append : (xs ys : List (List Entry)) → joined (xs ++ ys) ≡ joined xs ++ joined ys
joined-append [] ys = refl
joined-append (x ∷ xs) ys = rw (joined-append xs ys) (sym (append_assoc x (joined xs) (joined ys)))

pub blocks-append : (xs ys : List (List Entry)) → blocks (xs ++ ys) ≡ blocks xs ++ blocks ys
blocks-append [] ys = refl
blocks-append (x ∷ xs) ys = rw (blocks-append xs ys) (sym (append_assoc (block x) (blocks xs) (blocks ys)))

-- none of them is empty
pub none_empty-cut : (xs ys : List (List Entry)) → NoneEmpty (xs ++ ys) → NoneEmpty xs × NoneEmpty ys
none_empty-cut xs ys n = all_parts (λ (b : List Entry). 1 ≤ length b) xs ys n

-- the values of those behind rise from the last value before
pub rises_behind : (t : ℕ) (before : Cell) (xs ys : List (List Entry)) → Rises t before (joined (xs ++ ys)) → Rises t (last_of before (joined xs)) (joined ys)
rises_behind t before xs ys r = (rises_cut t before (joined xs) (joined ys) (rw (joined-append xs ys) at r)).1

-- a block that isn't empty begins with a value
pub first_is : (t : ℕ) (before : Cell) (b es : List Entry) → 1 ≤ length b → Rises t before (b ++ es) → Valued t (first b)
first_is t before [] es n r = absurd (omega arith)
first_is t before (e ∷ b) es n r = r.0

-- where there are blocks, there is a last one
pub last_block : (bs : List (List Entry)) → 0 < length bs → (xs : List (List Entry)) × (b : List Entry) × (bs ≡ xs ++ (b ∷ []))
last_block bs h =
    let j : ℕ = length bs - 1 in
    let l : length bs ≤ suc j = omega arith in
    (take j bs, get_or bs j [], split_at bs j [] (omega arith) ∙ ap (λ (ys : List (List Entry)). take j bs ++ (get_or bs j [] ∷ ys)) (drop_of_length-le bs l))
