-- The head length is a number like the others; the fields before it are read by themselves.
use Rattle.std.proofs.Common.{sym, ◌∙◌, arith}
use Rattle.std.proofs.lemmas.List.{length-take-le}
use borrow.Author.Tests.{le-leb, lt-leb}
use Rattle.std.proofs.lemmas.Result.{err_from_is_err_and}
use Rattle.refusal.specs.Reading.{check}
use Rattle.names.specs.Reading.{matches}
use Rattle.index_file.proofs.Laws.{file_counted}
use Rattle.index_file.proofs.read_file.Goals as goal

pub returns-in_err-n : goal.returns-in_err-n
returns-in_err-n c =
    let a = c.args in
    let p = err_from_is_err_and c.from_residual.result c.from_residual.ensures.1 in
    rw (p.1, p.2) (sym (file_counted (matches a.column.bytes.now) (matches a.kind.bytes.now) a.bytes.now c.requires
    c.be-magic.ensures.value c.if-magic-ne-MAGIC.false c.be-version.ensures.value c.if-version-ne-VERSION.false ∙ (rw c.in_err-n.was at c.count.ensures) _))

pub returns-then-n-lt-LEAST_HEAD : goal.returns-then-n-lt-LEAST_HEAD
unfolding check
returns-then-n-lt-LEAST_HEAD c =
    let a = c.args in
    sym (file_counted (matches a.column.bytes.now) (matches a.kind.bytes.now) a.bytes.now c.requires
    c.be-magic.ensures.value c.if-magic-ne-MAGIC.false c.be-version.ensures.value c.if-version-ne-VERSION.false ∙ (rw c.in_ok-n.was at c.count.ensures) _
    ∙ simp (lt-leb _ _ c.if-n-lt-LEAST_HEAD.true))

pub returns-then-bytes-n : goal.returns-then-bytes-n
unfolding check
returns-then-bytes-n c =
    let a = c.args in
    sym (file_counted (matches a.column.bytes.now) (matches a.kind.bytes.now) a.bytes.now c.requires
    c.be-magic.ensures.value c.if-magic-ne-MAGIC.false c.be-version.ensures.value c.if-version-ne-VERSION.false ∙ (rw c.in_ok-n.was at c.count.ensures) _
    ∙ simp (le-leb _ _ c.if-n-lt-LEAST_HEAD.false, lt-leb _ _ c.if-bytes-n.true))

pub returns : goal.returns
unfolding check
returns c =
    let a = c.args in
    c.read_head.ensures ∙ sym (file_counted (matches a.column.bytes.now) (matches a.kind.bytes.now) a.bytes.now c.requires
    c.be-magic.ensures.value c.if-magic-ne-MAGIC.false c.be-version.ensures.value c.if-version-ne-VERSION.false ∙ (rw c.in_ok-n.was at c.count.ensures) _
    ∙ simp (le-leb _ _ c.if-n-lt-LEAST_HEAD.false, le-leb _ _ c.if-bytes-n.false, length-take-le c.in_ok-n.n a.bytes.now c.if-bytes-n.false))
