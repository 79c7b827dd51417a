-- `read` meets its contract: the fields, null's entry and the entries, read one after another, give the whole dictionary.
use mathlib.Core.Path.{◌≡◌}
use borrow.Author.Rules.{rules}
use Rattle.std.specs.Prelude.{Err}
use Rattle.dictionary.proofs.Fields.{refused_so, read_unknown, read-null, read_refused, read_found}
use Rattle.dictionary.proofs.read.Goals as goal

pub returns-then-t-ge-TYPES : goal.returns-then-t-ge-TYPES
returns-then-t-ge-TYPES c = let a = c.args in read_unknown a.t a.body.now c.if-t-ge-TYPES.true

pub returns-in_err-front : goal.returns-in_err-front
returns-in_err-front c =
    let a = c.args in
    let f = rw c.in_err-front.was at c.fixed_fields.ensures in
    let y : c.from_residual.result ≡ Err c.in_err-front.field-0.0 = search rules in
    rw y (refused_so a.t a.body.now (f a.t c.if-t-ge-TYPES.false))

pub null_entry-requires : goal.null_entry-requires
null_entry-requires c = let f = rw c.in_ok-front.was at c.fixed_fields.ensures in f.1

pub returns-in_err-null : goal.returns-in_err-null
returns-in_err-null c =
    let a = c.args in
    let y : c.from_residual-in_err-null.result ≡ Err c.in_err-null.field-0.0 = search rules in
    rw y (read-null a.t a.body.now c.if-t-ge-TYPES.false c.in_ok-front.front (rw c.in_ok-front.was at c.fixed_fields.ensures) (rw c.in_err-null.was at c.null_entry.ensures))

pub entries-requires : goal.entries-requires
entries-requires c =
    let n = rw c.in_ok-null.was at c.null_entry.ensures in
    let f = rw c.in_ok-front.was at c.fixed_fields.ensures in
    (n.1, f.3)

pub returns-in_err-all : goal.returns-in_err-all
returns-in_err-all c =
    let a = c.args in
    let y : c.from_residual-in_err-all.result ≡ Err c.in_err-all.field-0.0 = search rules in
    rw y (read_refused a.t a.body.now c.if-t-ge-TYPES.false c.in_ok-front.front (rw c.in_ok-front.was at c.fixed_fields.ensures) _ (rw c.in_ok-null.was at c.null_entry.ensures)
    (rw c.in_err-all.was at c.entries.ensures))

pub returns : goal.returns
returns c =
    let a = c.args in
    read_found a.t a.body.now c.if-t-ge-TYPES.false c.in_ok-front.front (rw c.in_ok-front.was at c.fixed_fields.ensures) _ (rw c.in_ok-null.was at c.null_entry.ensures)
    (rw c.in_ok-all.was at c.entries.ensures)
