-- What a stage of a call comes to, stages in turn, and what a call then says in numbers. The first refusal ends the call, so that the order of refusals is
-- that of the stages.
use Rattle.std.specs.Prelude.{ℕ, Bool, true, false, List, Result, Ok, Err}
use Rattle.refusal.specs.declared.Refusal.{Refusal}
use Rattle.refusal.specs.Meaning.{number_of, fault_of, no_fault}

-- what follows where the test holds, else the refusal
unfoldable pub check : {R A : Type 0} → Bool → R → Result A R → Result A R
check true r o = o
check false r o = Err r

unfoldable pub and_then : {R A B : Type 0} → Result A R → (A → Result B R) → Result B R
and_then (Err r) k = Err r
and_then (Ok a) k = k a

-- a reading in another crate's terms: its refusals are said by `why`
unfoldable pub refused_as : {R S A : Type 0} → (R → S) → Result A R → Result A S
refused_as why (Err r) = Err (why r)
refused_as why (Ok a) = Ok a

-- what a reading stands for in numbers, for every call: the answer's number, in 01's table for a refusal, and its values, `none` with a refusal. `accepted`
-- has both for an accepted answer
unfoldable pub numbers_of : {A B : Type 0} → B → (A → ℕ × B) → Result A Refusal → ℕ × B
numbers_of none accepted (Err r) = (number_of r, none)
numbers_of none accepted (Ok a) = accepted a

-- where the fault of a reading is, in three numbers: all 0 where it is no refusal
unfoldable pub fault_in : {A : Type 0} → Result A Refusal → List ℕ
fault_in (Err r) = fault_of r
fault_in (Ok a) = no_fault
