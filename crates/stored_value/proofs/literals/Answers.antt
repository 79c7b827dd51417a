use Prim.Native.Nat.{ℕ, ◌+◌, ◌≤◌}
use mathlib.Core.Path.{◌≡◌, refl, sym, ap, ◌∙◌}
use mathlib.Core.List.{List, [], ◌∷◌, ◌++◌}
use native.Mathlib.Omega.{arith}
use borrow.Author.Rules.{rules}
use lib.ListN.{length, take, drop, length-append}
use Rattle.refusal.specs.declared.Refusal.TheVariants.{Literal}
use Rattle.std.specs.Prelude.{Ok, Err}
use Rattle.stored_value.specs.Meaning.{most_literals}
use Rattle.stored_value.specs.Promises.{counted}
use Rattle.stored_value.specs.Reading as reading
use Rattle.stored_value.proofs.Steps.{size_within, literals_done, turn_full, turn_refused, turn_next, count_numbers_so}
use Rattle.stored_value.proofs.literals.Goals as goal
use Rattle.stored_value.proofs.literals.Goals.{In_ok-at}

pub loop-at-init : goal.loop-at-init
loop-at-init c = ([], refl, omega arith, omega arith, refl)

pub returns-then-count-eq-MOST_LITERALS-clause-answer : goal.returns-then-count-eq-MOST_LITERALS-clause-answer
unfolding counted
returns-then-count-eq-MOST_LITERALS-clause-answer c =
    let l = c.loop-at in
    let a = c.args in
    ap counted (sym (turn_full a.t most_literals l.count l.invariant.0 a.s.now l.at (omega arith) (omega arith)) ∙ l.invariant.4)

pub returns-in_err-at-clause-answer : goal.returns-in_err-at-clause-answer
unfolding counted
returns-in_err-at-clause-answer c =
    let l = c.loop-at in
    let a = c.args in
    let r = c.in_err-at.field-0.0 in
    let v : reading.value_size Literal Literal a.t (drop l.at a.s.now) ≡ Err r = sym c.size.ensures.answer ∙ c.in_err-at.was in
    let e : counted (reading.literals a.t most_literals [] a.s.now) ≡ Err r
    = ap counted (sym l.invariant.4 ∙ turn_refused a.t most_literals l.count l.invariant.0 a.s.now l.at (omega arith) (omega arith) r v) in
    rw e (search rules)

-- the value that was found
found : (c : In_ok-at)
    → let l = c.loop-at in
    let a = c.args in
    reading.value_size Literal Literal a.t (drop l.at a.s.now) ≡ Ok c.in_ok-at.field-0
found c = sym c.size.ensures.answer ∙ c.in_ok-at.was

-- its size, and that it is there
within : (c : In_ok-at)
    → let l = c.loop-at in
    let a = c.args in
    (1 ≤ c.in_ok-at.field-0) × (l.at + c.in_ok-at.field-0 ≤ length a.s.now)
within c =
    let l = c.loop-at in
    let a = c.args in
    size_within Literal Literal a.t a.s.now l.at c.in_ok-at.field-0 l.invariant.3 (found c)

pub overflow_add-at : goal.overflow_add-at
overflow_add-at c = omega (arith, within c)

pub loop-at-smaller : goal.loop-at-smaller
loop-at-smaller c = omega (arith, within c)

pub loop-at-preserved : goal.loop-at-preserved
loop-at-preserved c =
    let l = c.loop-at in
    let a = c.args in
    let n = c.in_ok-at.field-0 in
    let v : List ℕ = take n (drop l.at a.s.now) in (
      l.invariant.0 ++ (v ∷ []),
      simp length-append (omega arith),
      omega arith,
      (within c).1,
      sym (turn_next a.t most_literals l.count l.invariant.0 a.s.now l.at (omega arith) (omega arith) n (found c)) ∙ l.invariant.4,
    )

pub returns-clause-answer : goal.returns-clause-answer
unfolding counted
returns-clause-answer c =
    let l = c.loop-at in
    let a = c.args in
    ap Ok (sym l.invariant.1)
    ∙ ap counted (sym (literals_done a.t most_literals l.count l.invariant.0 a.s.now l.at (omega arith)) ∙ l.invariant.4)

-- the number is that of the literals as they are read, by each answer
pub returns-then-count-eq-MOST_LITERALS-clause-numbers : goal.returns-then-count-eq-MOST_LITERALS-clause-numbers
returns-then-count-eq-MOST_LITERALS-clause-numbers c = count_numbers_so _ (returns-then-count-eq-MOST_LITERALS-clause-answer c)

pub returns-in_err-at-clause-numbers : goal.returns-in_err-at-clause-numbers
returns-in_err-at-clause-numbers c = count_numbers_so _ (returns-in_err-at-clause-answer c)

pub returns-clause-numbers : goal.returns-clause-numbers
returns-clause-numbers c = count_numbers_so _ (returns-clause-answer c)
