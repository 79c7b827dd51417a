-- Rows left and rows removed are those that were (`left-removed`).
use Rattle.std.proofs.Common.{ℕ, ◌≡◌, ◌+◌, ◌-◌, List, true, leb, length, Result, Ok, Err, refl, ap, sym, ◌∙◌}
use native.Mathlib.Omega.{arith}
use borrow.Author.Tests.{le-leb}
use Rattle.row_field.specs.Meaning.{size, count}
use Rattle.subtract.specs.Meaning.{subtracted, removed}
use Rattle.subtract.specs.declared.Counts.{Counts}
use Rattle.subtract.specs.Reading.{subtraction, subtract_out, subtract_numbers}
use Rattle.refusal.specs.Meaning.{limit}
use Rattle.refusal.specs.declared.Refusal.{Refusal}
use Rattle.refusal.specs.Reading.{check, numbers_of}
use Rattle.subtract.proofs.Laws.{left-removed}
use Rattle.subtract.proofs.subtract.Goals as goal
use Rattle.subtract.proofs.subtract.Goals.{After-count-left}

module _ (c : After-count-left) where
  left : c.count-left.result ≡ count (subtracted c.args.rows c.args.first.now c.args.second.now) c.args.rows
  left = c.count-left.ensures ∙ ap (λ (d : List ℕ). count d c.args.rows) c.subtract_rows.ensures

  parts : c.count-left.result + removed c.args.rows c.args.first.now c.args.second.now ≡ c.count-before.result
  parts = omega (arith, left-removed c.args.rows c.args.first.now c.args.second.now, c.count-before.ensures, left)

pub overflow_sub-removed : goal.overflow_sub-removed
overflow_sub-removed c = omega (arith, parts c)

accepted : (n : ℕ) (f g : List ℕ) → leb n limit ≡ true → leb (size n) (length f) ≡ true → leb (size n) (length g) ≡ true
    → subtraction n f g ≡ Ok (record { left = count (subtracted n f g) n; removed = removed n f g })
unfolding subtraction check
accepted n f g l h k = rw (l, h, k)

pub returns-clause-answer : goal.returns-clause-answer
returns-clause-answer c =
    let a = c.args in
    let r : c.count-before.result - c.count-left.result ≡ removed a.rows a.first.now a.second.now = omega (arith, parts c) in
    let first = sym c.has_room.ensures ∙ c.if-not-has_room.false in
    let second = sym c.has_room-2.ensures ∙ c.if-not-has_room-2.false in
    rw (r, left c) (sym (accepted a.rows a.first.now a.second.now (le-leb _ limit c.if-rows-gt-LIMIT.false) first second))

-- the numbers of an answer are those that each of its cases has
numbers_so : (o : Result Counts Refusal) → subtract_out o ≡ numbers_of (0, 0) subtract_numbers o
unfolding subtract_out numbers_of
numbers_so (Err r) = refl
numbers_so (Ok counts) = refl

pub returns-clause-numbers : goal.returns-clause-numbers
returns-clause-numbers c =
    let a = c.args in
    ap subtract_out (returns-clause-answer c) ∙ numbers_so (subtraction a.rows a.first.now a.second.now)
