-- What a reading refuses with: what holds of the refusals of each stage holds of those of the stages in turn.
use Prim.Native.Nat.{ℕ}
use mathlib.Core.Bool.{Bool, true, false, cond}
use mathlib.Core.List.{List}
use lib.Dec.{leb}
use lib.ListN.{length, drop}
use Rattle.numbers.specs.Meaning.{Order, number, number_at}
use Rattle.std.specs.Prelude.{Result, Err, Ok}
use Rattle.refusal.specs.Reading.{check, and_then}
use Rattle.refusal.specs.declared.Refusal.{Refusal}

-- if it is a refusal, it has the property
abbrev pub Only : (Refusal → Type 0) → {A : Type 0} → Result A Refusal → Type 0
Only P (Err r) = P r
Only P (Ok a) = Unit {0}

module _ (P : Refusal → Type 0) {A : Type 0} where
  pub check_only : (b : Bool) (r : Refusal) (x : Result A Refusal) → P r → Only P x → Only P (check b r x)
  unfolding check
  check_only true r x p f = f
  check_only false r x p f = p

  pub then_only : {B : Type 0} (x : Result B Refusal) (k : B → Result A Refusal) → Only P x → ((b : B) → Only P (k b)) → Only P (and_then x k)
  unfolding and_then
  then_only (Err r) k f g = f
  then_only (Ok b) k f g = g b

  pub number_only : (o : Order) (w : ℕ) (r : Refusal) (s : List ℕ) (k : ℕ → List ℕ → Result A Refusal) → P r → ((v : ℕ) (t : List ℕ) → Only P (k v t))
      → Only P (number o w (Err r) s k)
  unfolding number
  number_only o w r s k p f = by (leb w (length s))
    where
      by : (b : Bool) → Only P (cond b (k (number_at o w s 0) (drop w s)) (Err r))
      by true = f _ _
      by false = p
