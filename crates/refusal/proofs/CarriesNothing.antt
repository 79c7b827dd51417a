-- Readings whose refusals carry nothing: if no stage refuses with more than its number, nor do the stages in turn.
use Prim.Native.Nat.{ℕ}
use mathlib.Core.Bool.{Bool, true, false, cond}
use mathlib.Core.List.{List}
use lib.Dec.{leb}
use lib.ListN.{length}
use Rattle.numbers.specs.Meaning.{Order, number}
use Rattle.refusal.specs.declared.Refusal.{Refusal}
use Rattle.std.specs.Prelude.{Result, Err, Ok}
use Rattle.refusal.specs.Reading.{check, and_then}
use Rattle.refusal.specs.Claims.{Bare, CarriesNothing}

module _ {A : Type 0} where
  -- a reading that is one of two
  pub cond_bare : (b : Bool) (x y : Result A Refusal) → CarriesNothing x → CarriesNothing y → CarriesNothing (cond b x y)
  cond_bare true x y f g = f
  cond_bare false x y f g = g

  pub check_bare : (b : Bool) (r : Refusal) (x : Result A Refusal) → Bare r → CarriesNothing x → CarriesNothing (check b r x)
  unfolding check
  check_bare true r x f g = g
  check_bare false r x f g = f

  pub then_bare : {B : Type 0} (x : Result B Refusal) (k : B → Result A Refusal)
      → CarriesNothing x → ((b : B) → CarriesNothing (k b)) → CarriesNothing (and_then x k)
  unfolding and_then
  then_bare (Err r) k f g = f
  then_bare (Ok b) k f g = g b

  pub number_bare : (o : Order) (w : ℕ) (r : Refusal) (s : List ℕ) (k : ℕ → List ℕ → Result A Refusal)
      → Bare r → ((v : ℕ) (t : List ℕ) → CarriesNothing (k v t)) → CarriesNothing (number o w (Err r) s k)
  unfolding number
  number_bare o w r s k f g = cond_bare (leb w (length s)) _ _ (g _ _) f

-- a reading that is written out in stages is searched through by these
pub ruleset bare = (cond_bare, check_bare, then_bare, number_bare)
