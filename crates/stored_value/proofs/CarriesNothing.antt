-- No refusal of literals carries anything; nor does one of a value, if the two that are given for it carry nothing.
use Prim.Native.Nat.{ℕ, zero, suc}
use mathlib.Core.List.{List}
use Rattle.refusal.specs.declared.Refusal.{Refusal}
use Rattle.std.specs.Prelude.{Result}
use Rattle.refusal.specs.Claims.{Bare, CarriesNothing}
use Rattle.refusal.proofs.CarriesNothing.{bare}
use Rattle.stored_value.specs.Reading.{value_size, value_of, literals}

module _ (short broken : Refusal) (f : Bare short) (g : Bare broken) (t : ℕ) (s : List ℕ) where
  size_bare : CarriesNothing (value_size short broken t s)
  unfolding value_size
  size_bare = search bare depth 7

  pub value_bare : {A : Type 0} (k : List ℕ → List ℕ → Result A Refusal) → ((v r : List ℕ) → CarriesNothing (k v r))
      → CarriesNothing (value_of short broken t s k)
  unfolding value_of
  value_bare k h = search (bare, size_bare)

pub literals_bare : (t most : ℕ) (ls : List (List ℕ)) (s : List ℕ) → CarriesNothing (literals t most ls s)
unfolding literals
literals_bare t zero ls s = search bare
literals_bare t (suc n) ls s = search (bare, value_bare, literals_bare t n)
