-- `size` meets its contract: each answer has a law of the value at `at`, whose premises are what the tests on the way found.
use mathlib.Core.Path.{sym, ap, ◌∙◌}
use native.Mathlib.Omega.{arith}
use Rattle.std.specs.Prelude.{Ok}
use lib.ListN.{drop}
use Rattle.stored_value.proofs.Laws.{size_unknown}
use Rattle.numbers.specs.Meaning.{Bytes}
use Rattle.stored_value.proofs.Steps.{past, string-short, by_length, string_negative, string-over, string-cut, string-whole}
use Rattle.stored_value.proofs.Steps.{number_cut, boolean_over, boolean_whole, number-whole, size_numbers_so}
use Rattle.stored_value.proofs.size.Goals as goal
use Rattle.stored_value.proofs.size.Goals.{else-t-eq-BOOLEAN-via-then-t-eq-BOOLEAN+else-s-at-gt1, else-t-eq-BOOLEAN-via-else-t-eq-BOOLEAN}

pub returns-then-t-ge-TYPES-clause-answer : goal.returns-then-t-ge-TYPES-clause-answer
returns-then-t-ge-TYPES-clause-answer c = let a = c.args in sym (size_unknown a.short a.broken a.t (drop a.at.0 a.s.now) c.if-t-ge-TYPES.true)

pub returns-then-s-at-clause-answer : goal.returns-then-s-at-clause-answer
returns-then-s-at-clause-answer c =
    let a = c.args in
    sym (past a.short a.broken a.t a.s.now a.at.0 c.if-t-ge-TYPES.false (omega arith))

pub returns-then-left-lt-LENGTH-clause-answer : goal.returns-then-left-lt-LENGTH-clause-answer
returns-then-left-lt-LENGTH-clause-answer c =
    let a = c.args in
    sym (string-short a.short a.broken a.t a.s.now a.at.0 c.if-t-ge-TYPES.false (omega arith) (omega arith))

pub returns-then-high-ge-HALF_SIGN-clause-answer : goal.returns-then-high-ge-HALF_SIGN-clause-answer
returns-then-high-ge-HALF_SIGN-clause-answer c =
    let a = c.args in
    let d : Bytes a.s.now = λ i. (c.type_inv.s i).fits in
    let e = by_length a.short a.broken a.t a.s.now a.at.0 c.if-t-ge-TYPES.false (omega arith) (omega arith) in
    rw e (sym (string_negative a.short a.broken a.s.now a.at.0 (omega arith)))

pub returns-then-high-gt0-clause-answer : goal.returns-then-high-gt0-clause-answer
returns-then-high-gt0-clause-answer c =
    let a = c.args in
    let d : Bytes a.s.now = λ i. (c.type_inv.s i).fits in
    let e = by_length a.short a.broken a.t a.s.now a.at.0 c.if-t-ge-TYPES.false (omega arith) (omega arith) in
    rw e (sym (string-over a.short a.broken a.s.now a.at.0 d (omega arith) (omega arith)))

pub returns-then-left-n-clause-answer : goal.returns-then-left-n-clause-answer
returns-then-left-n-clause-answer c =
    let a = c.args in
    let d : Bytes a.s.now = λ i. (c.type_inv.s i).fits in
    let e = by_length a.short a.broken a.t a.s.now a.at.0 c.if-t-ge-TYPES.false (omega arith) (omega arith) in
    rw e (sym (string-cut a.short a.broken a.s.now a.at.0 d (omega arith) (omega arith)))

pub returns-then-w-eq0-clause-answer : goal.returns-then-w-eq0-clause-answer
returns-then-w-eq0-clause-answer c =
    let a = c.args in
    let d : Bytes a.s.now = λ i. (c.type_inv.s i).fits in
    let e = by_length a.short a.broken a.t a.s.now a.at.0 c.if-t-ge-TYPES.false (omega arith) (omega arith) in
    rw (e, c.be-n.ensures.value) (sym (string-whole a.short a.broken a.s.now a.at.0 d (omega arith) (omega arith)))

pub returns-then-left-w-clause-answer : goal.returns-then-left-w-clause-answer
returns-then-left-w-clause-answer c =
    let a = c.args in
    sym (number_cut a.short a.broken a.t a.s.now a.at.0 c.if-t-ge-TYPES.false (omega arith) (omega arith))

pub returns-then-s-at-gt1-clause-answer : goal.returns-then-s-at-gt1-clause-answer
returns-then-s-at-gt1-clause-answer c =
    let a = c.args in
    sym (boolean_over a.short a.broken a.t a.s.now a.at.0 c.if-t-ge-TYPES.false (omega arith) (omega arith) (omega arith) (omega arith))

pub returns-clause-answer : goal.returns-clause-answer
returns-clause-answer c =
    let a = c.args in
    elim c.else-t-eq-BOOLEAN.branch [
      | else-t-eq-BOOLEAN-via-then-t-eq-BOOLEAN+else-s-at-gt1 w ↦
          ap Ok c.width_of-w.ensures.0
          ∙ sym (boolean_whole a.short a.broken a.t a.s.now a.at.0 c.if-t-ge-TYPES.false (omega arith) (omega arith) w.if-t-eq-BOOLEAN.true (omega arith))
      | else-t-eq-BOOLEAN-via-else-t-eq-BOOLEAN w ↦
          ap Ok c.width_of-w.ensures.0
          ∙ sym (number-whole a.short a.broken a.t a.s.now a.at.0 c.if-t-ge-TYPES.false (omega arith) (omega arith) w.if-t-eq-BOOLEAN.false)
    ]

-- the numbers are those of the value as it is read, by each answer
pub returns-then-t-ge-TYPES-clause-numbers : goal.returns-then-t-ge-TYPES-clause-numbers
returns-then-t-ge-TYPES-clause-numbers c = size_numbers_so (returns-then-t-ge-TYPES-clause-answer c)

pub returns-then-s-at-clause-numbers : goal.returns-then-s-at-clause-numbers
returns-then-s-at-clause-numbers c = size_numbers_so (returns-then-s-at-clause-answer c)

pub returns-then-left-lt-LENGTH-clause-numbers : goal.returns-then-left-lt-LENGTH-clause-numbers
returns-then-left-lt-LENGTH-clause-numbers c = size_numbers_so (returns-then-left-lt-LENGTH-clause-answer c)

pub returns-then-high-ge-HALF_SIGN-clause-numbers : goal.returns-then-high-ge-HALF_SIGN-clause-numbers
returns-then-high-ge-HALF_SIGN-clause-numbers c = size_numbers_so (returns-then-high-ge-HALF_SIGN-clause-answer c)

pub returns-then-high-gt0-clause-numbers : goal.returns-then-high-gt0-clause-numbers
returns-then-high-gt0-clause-numbers c = size_numbers_so (returns-then-high-gt0-clause-answer c)

pub returns-then-left-n-clause-numbers : goal.returns-then-left-n-clause-numbers
returns-then-left-n-clause-numbers c = size_numbers_so (returns-then-left-n-clause-answer c)

pub returns-then-w-eq0-clause-numbers : goal.returns-then-w-eq0-clause-numbers
returns-then-w-eq0-clause-numbers c = size_numbers_so (returns-then-w-eq0-clause-answer c)

pub returns-then-left-w-clause-numbers : goal.returns-then-left-w-clause-numbers
returns-then-left-w-clause-numbers c = size_numbers_so (returns-then-left-w-clause-answer c)

pub returns-then-s-at-gt1-clause-numbers : goal.returns-then-s-at-gt1-clause-numbers
returns-then-s-at-gt1-clause-numbers c = size_numbers_so (returns-then-s-at-gt1-clause-answer c)

pub returns-clause-numbers : goal.returns-clause-numbers
returns-clause-numbers c = size_numbers_so (returns-clause-answer c)
