-- What a file is refused with, however names are compared: SHORT, MAGIC, VERSION or HEAD alone. So a refusal of `find` carries nothing, and what is said of a file is
-- never LITERAL.
use Prim.Native.Nat.{ℕ, zero, suc}
use mathlib.Core.Path.{◌≡◌, refl}
use mathlib.Core.Bool.{Bool}
use mathlib.Core.List.{List}
use native.Mathlib.Omega.{arith}
use Rattle.refusal.specs.declared.Refusal.{Refusal}
use Rattle.refusal.specs.declared.Refusal.TheVariants.{Short, Magic, Version, Head, Literal}
use Rattle.std.specs.Prelude.{Result, Err, Ok}
use Rattle.refusal.specs.Claims.{Bare, CarriesNothing}
use Rattle.refusal.proofs.CarriesNothing.{bare}
use Rattle.refusal.proofs.Only.{Only, check_only, number_only}
use Rattle.index_file.specs.declared.Seen.{Seen}
use Rattle.index_file.specs.declared.Seen.TheVariants.{Nowhere, Once, Twice}
use Rattle.index_file.specs.Reading.{count, name, entries, columns, placed, head, file, within_limits, find}

module _ (P : Refusal → Type 0) (short : P Short) (magic : P Magic) (version : P Version) (of-head : P Head) where
  module _ {A : Type 0} where
    count_only : (s : List ℕ) (k : ℕ → List ℕ → Result A Refusal) → ((v : ℕ) (t : List ℕ) → Only P (k v t)) → Only P (count s k)
    unfolding count
    count_only s k f = search (check_only P, number_only P, of-head)

    name_only : (s : List ℕ) (k : List ℕ → List ℕ → Result A Refusal) → ((n t : List ℕ) → Only P (k n t)) → Only P (name s k)
    unfolding name
    name_only s k f = search (check_only P, number_only P, of-head)

    module _ (isKind : List ℕ → Bool) where
      entries_only : (m : ℕ) (p : Seen) (s : List ℕ) (k : Seen → List ℕ → Result A Refusal) → ((q : Seen) (t : List ℕ) → Only P (k q t)) → Only P (entries isKind m p s k)
      unfolding entries
      entries_only zero p s k f = f p s
      entries_only (suc m) p s k f = search (number_only P, name_only, entries_only m, of-head)

      columns_only : (isColumn : List ℕ → Bool) (n : ℕ) (seen : Bool) (p : Seen) (s : List ℕ) (k : Seen → List ℕ → Result A Refusal)
          → ((q : Seen) (t : List ℕ) → Only P (k q t)) → Only P (columns isColumn isKind n seen p s k)
      unfolding columns
      columns_only isColumn zero seen p s k f = f p s
      columns_only isColumn (suc n) seen p s k f = search (name_only, count_only, entries_only, columns_only isColumn n)

  placed_only : (head_length fileLength : ℕ) (p : Seen) → Only P (placed head_length fileLength p)
  unfolding placed
  placed_only head_length fileLength Nowhere = tt
  placed_only head_length fileLength (Once part) = search (check_only P, of-head)
  placed_only head_length fileLength Twice = of-head

  head_only : (isColumn isKind : List ℕ → Bool) (head_length fileLength : ℕ) (s : List ℕ) → Only P (head isColumn isKind head_length fileLength s)
  unfolding head
  head_only isColumn isKind head_length fileLength s = search (check_only P, count_only, columns_only, placed_only, of-head)

  file_only : (isColumn isKind : List ℕ → Bool) (bytes : List ℕ) → Only P (file isColumn isKind bytes)
  unfolding file
  file_only isColumn isKind bytes = search (check_only P, number_only P, count_only, head_only, short, magic, version, of-head) depth 12

only_bare : {A : Type 0} (o : Result A Refusal) → Only Bare o → CarriesNothing o
only_bare (Err r) h = h
only_bare (Ok a) h = h

file_bare : (isColumn isKind : List ℕ → Bool) (bytes : List ℕ) → CarriesNothing (file isColumn isKind bytes)
file_bare isColumn isKind bytes = only_bare (file isColumn isKind bytes) (file_only Bare tt tt tt tt isColumn isKind bytes)

pub find_bare : (bytes column kind : List ℕ) → CarriesNothing (find bytes column kind)
unfolding find within_limits
find_bare bytes column kind = search (bare, file_bare) depth 8

zero_one : ◌≡◌ {A = ℕ} 0 1 → ⊥
zero_one e = omega arith

pub file-other : (isColumn isKind : List ℕ → Bool) (bytes : List ℕ) → file isColumn isKind bytes ≡ Err Literal → ⊥
file-other isColumn isKind bytes e =
    let IsOther : Refusal → Type 0 = λ r. r ≡ Literal → ⊥ in
    let h = file_only IsOther (λ q. zero_one (cc)) (λ q. zero_one (cc)) (λ q. zero_one (cc)) (λ q. zero_one (cc)) isColumn isKind bytes in
    (rw e at h) refl
