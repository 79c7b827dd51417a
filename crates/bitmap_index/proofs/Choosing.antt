-- Which cells a question chooses, by the code's cases on its name; null by its edition too.
use Prim.Native.Nat.{ℕ}
use mathlib.Core.Path.{◌≡◌, refl, sym, ap, ◌∙◌}
use mathlib.Core.Bool.{Bool, true, false, not}
use mathlib.Core.List.{List}
use native.Mathlib.Omega.{arith}
use Rattle.std.specs.Borrow.{Bor}
use Rattle.std.specs.Prelude.{Some}
use Rattle.numbers.specs.Meaning.{same}
use Rattle.hash_table.specs.Promises.{HoldsSome, Finds}
use Rattle.stored_value.specs.Meaning.{value}
use Rattle.stored_value.specs.Promises.{Accepted, Lists}
use Rattle.bitmap_index.specs.declared.Question.{Question}
use Rattle.bitmap_index.specs.declared.Sought.{Sought}
use Rattle.bitmap_index.specs.Names.{question_of}
use Rattle.bitmap_index.specs.Meaning.{equal, not_equal, is_in, is_not_in, is_null, is_not_null, chosen}
use Rattle.bitmap_index.specs.Promises.{Holds, FindsListed, Lookup, SomeLookup}

-- ---- the literals: in a table, or one by one

module _ (w : Sought) where
  module _ (y : SomeLookup w) where
    pub are_accepted : Accepted w.t w.literals.now
    are_accepted = (y.0, y.1.many.accepted)

    pub holds_some : {table : Bor (List ℕ)} → w.table ≡ Some table → HoldsSome w.literals.now table.now
    holds_some {table} e = let h : Holds w.literals.now (Some table) y.0 = rw e at y.1.many.held in (h.vs, h.holds)

  module _ (v : List ℕ) {found : Bool} where
    pub by_each : Lists w.t w.literals.now v found → FindsListed w v found
    by_each l ls y = l ls y.accepted

    pub by_table : {table : Bor (List ℕ)} → w.table ≡ Some table → Finds w.literals.now table.now v found → FindsListed w v found
    by_table {table} e f ls y = let h : Holds w.literals.now (Some table) ls = rw e at y.held in f h.vs h.holds ∙ h.lists v

-- ---- a value

module _ (w : Sought) (v : List ℕ) (ls : List (List ℕ)) where
  abbrev q : Question
  q = question_of w.question

  module _ (y : Lookup w ls) {found : Bool} where
    pub is_one : q.name ≡ equal → found ≡ same v w.literals.now → found ≡ chosen q ls (value v)
    unfolding chosen
    is_one k e = let z = y.one (omega arith) v in rw k (e ∙ sym z)

    pub not-one : q.name ≡ not_equal → found ≡ same v w.literals.now → not found ≡ chosen q ls (value v)
    unfolding chosen
    not-one k e = let z = y.one (omega arith) v in rw k (ap not (e ∙ sym z))

    pub is_in_lem : q.name ≡ is_in → FindsListed w v found → found ≡ chosen q ls (value v)
    unfolding chosen
    is_in_lem k f = rw k (f ls y.many)

    pub not_in : q.name ≡ is_not_in → FindsListed w v found → not found ≡ chosen q ls (value v)
    unfolding chosen
    not_in k f = rw k (ap not (f ls y.many))

  pub none-asked : q.name ≡ is_null → false ≡ chosen q ls (value v)
  unfolding chosen
  none-asked k = rw k refl

  pub all_asked : q.name ≡ is_not_null → true ≡ chosen q ls (value v)
  unfolding chosen
  all_asked k = rw k refl
