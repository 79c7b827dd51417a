-- `same_halves` meets its contract: the first word differs, or the last decides.
use Prim.Native.Nat.{◌-◌}
use mathlib.Core.Path.{◌≡◌, sym, ◌∙◌}
use native.Mathlib.Omega.{arith}
use lib.ListN.{length}
use Rattle.numbers.specs.Meaning.{Bytes}
use Rattle.numbers.proofs.SameBytes.{word_other, word_next, word_last}
use Rattle.numbers.proofs.same_halves.Goals as goal

pub returns-then-le : goal.returns-then-le
returns-then-le c =
    let a = c.args in
    sym (word_other 4 a.a.now a.b.now 0 (λ e. c.if-le.true (c.le.ensures.value ∙ e ∙ sym c.le-2.ensures.value)))

pub returns : goal.returns
returns c =
    let a = c.args in
    let e = sym c.le.ensures.value ∙ c.if-le.false ∙ c.le-2.ensures.value in
    let p : Bytes a.a.now = λ j. (c.type_inv.a j).fits in
    let q : Bytes a.b.now = λ j. (c.type_inv.b j).fits in
    let l : length a.a.now ≡ length a.b.now = omega arith in
    let next = word_next 4 a.a.now a.b.now p q l 0 (omega arith) e in
    rw (c.le-3.ensures.value, c.le-4.ensures.value)
    (word_last 4 a.a.now a.b.now p q l (length a.a.now - 4) 4 (omega arith) (omega arith) (sym next))
