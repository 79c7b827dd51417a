-- Where the last words are the same, what is left of both, compared, gives the whole.
use Rattle.std.proofs.Common.{◌≡◌, ◌+◌, ◌-◌, ◌*◌, length, sym, ◌∙◌, arith}
use borrow.Author.Tests.{eq-eqb}
use Rattle.numbers.specs.Meaning.{Bytes}
use Rattle.numbers.proofs.SameBytes.{word_other, word_next, word_last}
use Rattle.numbers.proofs.same_words.Goals as goal

pub returns-then-le : goal.returns-then-le
returns-then-le c =
    let a = c.args in
    sym (word_other 8 a.a.now a.b.now (length a.a.now - 8) (λ e. c.if-le.true (c.le.ensures.value ∙ e ∙ sym c.le-2.ensures.value)))

pub returns-then-le-2 : goal.returns-then-le-2
returns-then-le-2 c =
    let a = c.args in
    sym (word_other 8 a.a.now a.b.now (c.loop-i.i * 8) (λ e. c.if-le-2.true (c.le-in-loop-i.ensures.value ∙ e ∙ sym c.le-in-loop-i-2.ensures.value)))

pub loop-i-preserved : goal.loop-i-preserved
loop-i-preserved c =
    let i = c.loop-i.i in
    let a = c.args in
    let e = sym c.le-in-loop-i.ensures.value ∙ c.if-le-2.false ∙ c.le-in-loop-i-2.ensures.value in
    let p : Bytes a.a.now = λ j. (c.type_inv.a j).fits in
    let q : Bytes a.b.now = λ j. (c.type_inv.b j).fits in
    let n : (i + 1) * 8 ≡ i * 8 + 8 = omega arith in
    rw n (sym (word_next 8 a.a.now a.b.now p q (omega arith) (i * 8) (omega arith) e) ∙ c.loop-i.invariant)

pub returns : goal.returns
returns c =
    let l = c.loop-i in
    let a = c.args in
    let p : Bytes a.a.now = λ j. (c.type_inv.a j).fits in
    let q : Bytes a.b.now = λ j. (c.type_inv.b j).fits in
    let e = sym c.le.ensures.value ∙ c.if-le.false ∙ c.le-2.ensures.value in
    sym (eq-eqb _ _ e) ∙ word_last 8 a.a.now a.b.now p q (omega arith) (length a.a.now - 8) (l.i * 8) (omega arith) (omega arith) l.invariant
