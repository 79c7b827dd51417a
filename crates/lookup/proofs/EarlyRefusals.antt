-- What a lookup is refused with up to ROOM, through all its stages and for any bytes: LIMIT, LITERAL, SHORT, VERSION, DICT or ROOM.
use Prim.Native.Nat.{ℕ, zero, suc}
use mathlib.Core.Bool.{Bool, true, false, cond}
use mathlib.Core.List.{List, []}
use lib.Dec.{leb}
use lib.ListN.{length}
use Rattle.numbers.specs.Meaning.{Order, number}
use Rattle.refusal.specs.declared.Refusal.{Refusal}
use Rattle.std.specs.Prelude.{Result, Err, Ok}
use Rattle.refusal.specs.Reading.{check, and_then}
use Rattle.stored_value.specs.Reading.{value_size, value_of, literals}
use Rattle.dictionary.specs.Layout.{Entry}
use Rattle.dictionary.specs.Reading.{count_at_most, null_of}
use Rattle.bitmap_index.specs.declared.Question.{Question}
use Rattle.bitmap_index.specs.Reading.{well_formed}
use Rattle.opening.specs.Reading.{Front, rest_of_front, front}
use Rattle.lookup.specs.Reading.{entry_read, entry_for, behind_directory, halving, searched_in, searched, sought, lookable}
use Rattle.lookup.specs.Claims.{UpToRoom, limit, literal, short, version, dict, room}

-- if it is a refusal, it is one of these
abbrev pub Early : {A : Type 0} → Result A Refusal → Type 0
Early (Err r) = UpToRoom r
Early (Ok a) = Unit {0}

module _ {A : Type 0} where
  cond_early : (b : Bool) (x y : Result A Refusal) → Early x → Early y → Early (cond b x y)
  cond_early true x y f g = f
  cond_early false x y f g = g

  check_early : (b : Bool) (r : Refusal) (x : Result A Refusal) → UpToRoom r → Early x → Early (check b r x)
  unfolding check
  check_early true r x f g = g
  check_early false r x f g = f

  then_early : {B : Type 0} (x : Result B Refusal) (k : B → Result A Refusal) → Early x → ((b : B) → Early (k b)) → Early (and_then x k)
  unfolding and_then
  then_early (Err r) k f g = f
  then_early (Ok b) k f g = g b

  number_early : (o : Order) (w : ℕ) (r : Refusal) (s : List ℕ) (k : ℕ → List ℕ → Result A Refusal) → UpToRoom r → ((v : ℕ) (t : List ℕ) → Early (k v t))
      → Early (number o w (Err r) s k)
  unfolding number
  number_early o w r s k f g = cond_early (leb w (length s)) _ _ (g _ _) f

-- a reading that is written out in stages is searched through by these
ruleset early = (cond_early, check_early, then_early, number_early, limit, literal, short, version, dict, room)

-- ---- values and literals

module _ (r q : Refusal) (f : UpToRoom r) (g : UpToRoom q) (t : ℕ) (s : List ℕ) where
  size_early : Early (value_size r q t s)
  unfolding value_size
  size_early = search early depth 7

  value_early : {A : Type 0} (k : List ℕ → List ℕ → Result A Refusal) → ((v s : List ℕ) → Early (k v s)) → Early (value_of r q t s k)
  unfolding value_of
  value_early k h = search (early, size_early)

literals_early : (t most : ℕ) (ls : List (List ℕ)) (s : List ℕ) → Early (literals t most ls s)
unfolding literals
literals_early t zero ls s = search early
literals_early t (suc n) ls s = search (early, value_early, literals_early t n)

well_formed_early : (t : ℕ) (q : Question) (l body : List ℕ) → Early (well_formed t q l body)
unfolding well_formed
well_formed_early t q l body = search (early, literals_early) depth 7

-- ---- the fields in front

module _ {A : Type 0} where
  count_early : (most : ℕ) (s : List ℕ) (k : ℕ → List ℕ → Result A Refusal) → ((n : ℕ) (t : List ℕ) → Early (k n t)) → Early (count_at_most most s k)
  unfolding count_at_most
  count_early most s k f = search early

  null_early : (version2 has : Bool) (s : List ℕ) (k : List Entry → List ℕ → Result A Refusal) → ((es : List Entry) (t : List ℕ) → Early (k es t))
      → Early (null_of version2 has s k)
  unfolding null_of
  null_early version2 false s k f = f [] s
  null_early false true s k f = search early
  null_early true true s k f = search early

front_early : (s : List ℕ) → Early (front s)
unfolding front rest_of_front
front_early s = search (early, count_early, null_early) depth 12

-- ---- the directory and a block

module _ (t : ℕ) (table body : List ℕ) where
  listed_early : (i : ℕ) → Early (entry_for t table body i)
  unfolding entry_for entry_read
  listed_early i = search (early, value_early)

  behind_early : (f : Front) → Early (behind_directory t table body f)
  unfolding behind_directory
  behind_early f = search (early, listed_early)

  halving_early : (l : List ℕ) (steps low many at compared : ℕ) → Early (halving t l table body steps low many at compared)
  unfolding halving
  halving_early l zero low many at compared = tt
  halving_early l (suc steps) low many at compared = search (early, listed_early, halving_early l steps)

searched_in_early : (t : ℕ) (l : List ℕ) (n left compared : ℕ) (s : List ℕ) → Early (searched_in t l n left compared s)
unfolding searched_in
searched_in_early t l n zero compared s = tt
searched_in_early t l n (suc left) compared s = search (early, value_early, searched_in_early t l n left) depth 7

searched_early : (t : ℕ) (l s : List ℕ) → Early (searched t l s)
unfolding searched
searched_early t l s = search (early, searched_in_early)

-- ---- all of them

sought_early : (t : ℕ) (l table body : List ℕ) → Early (sought t l table body)
unfolding sought
sought_early t l table body = search (early, front_early, behind_early, halving_early, searched_early) depth 10

pub lookable_early : (t edition : ℕ) (l table body field : List ℕ) → Early (lookable t edition l table body field)
unfolding lookable
lookable_early t edition l table body field = search (early, well_formed_early, sought_early)
