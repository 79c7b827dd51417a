-- `less` meets its contract: strings by their bytes behind the length, numbers by the order of the signed numbers.
use mathlib.Core.Path.{◌∙◌}
use Rattle.stored_value.proofs.Steps.{less_behind, less_unknown, less-string, less-number}
use Rattle.stored_value.proofs.less.Goals as goal

pub returns-then-t-ge-TYPES : goal.returns-then-t-ge-TYPES
returns-then-t-ge-TYPES c = let a = c.args in less_unknown a.t a.a.now a.b.now c.if-t-ge-TYPES.true

pub returns-then-w-eq0 : goal.returns-then-w-eq0
returns-then-w-eq0 c =
    let a = c.args in
    let w = c.width_of-w in
    c.bytes_less.ensures ∙ less_behind a.a.now a.b.now 4 c.min.ensures c.min-then-w-eq0.ensures ∙ less-string a.t a.a.now a.b.now c.if-t-ge-TYPES.false w.result w.ensures.0 c.if-w-eq0.true

pub returns : goal.returns
returns c =
    let a = c.args in
    let w = c.width_of-w in
    let x = c.signed in
    let y = c.signed-2 in
    less-number a.t a.a.now a.b.now c.if-t-ge-TYPES.false w.result w.ensures.0 c.if-w-eq0.false x.result y.result x.ensures y.ensures
