-- Stages taken apart: what passed a test, and what came of a stage that followed.
use Prim.Native.Nat.{ℕ}
use mathlib.Core.Path.{◌≡◌, refl}
use mathlib.Core.Bool.{Bool, true, false}
use native.Mathlib.Omega.{arith}
use Rattle.std.specs.Prelude.{Result, Err, Ok}
use Rattle.refusal.specs.Reading.{check, and_then, refused_as}

pub not-ok : {R A : Type 0} {r : R} {a : A} → Err r ≡ Ok a → ⊥
not-ok e = let z : ◌≡◌ {A = ℕ} 0 1 = cc in omega arith

pub ok_same : {R A : Type 0} (a b : A) → ◌≡◌ {A = Result A R} (Ok a) (Ok b) → a ≡ b
ok_same a b e = cc

pub check-ok : {R A : Type 0} (b : Bool) (r : R) (x : Result A R) (a : A) → check b r x ≡ Ok a → (b ≡ true) × (x ≡ Ok a)
unfolding check
check-ok true r x a e = (refl, e)
check-ok false r x a e = absurd (not-ok e)

pub then_ok : {R A B : Type 0} (x : Result A R) (k : A → Result B R) (b : B) → and_then x k ≡ Ok b → (a : A) × (x ≡ Ok a) × (k a ≡ Ok b)
unfolding and_then
then_ok (Err r) k b e = absurd (not-ok e)
then_ok (Ok a) k b e = (a, refl, e)

-- stages that come to the same may be put for each other
pub then_same : {R A B : Type 0} (x : Result A R) (f g : A → Result B R) → ((a : A) → f a ≡ g a) → and_then x f ≡ and_then x g
unfolding and_then
then_same (Err r) f g h = refl
then_same (Ok a) f g h = h a

pub refused_as-ok : {R S A : Type 0} (why : R → S) (x : Result A R) (a : A) → refused_as why x ≡ Ok a → x ≡ Ok a
unfolding refused_as
refused_as-ok why (Err r) a e = absurd (not-ok e)
refused_as-ok why (Ok b) a e = cc
