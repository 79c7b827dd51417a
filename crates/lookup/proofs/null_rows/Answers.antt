-- `null_rows` meets its contract: null's rows are counted where they are placed, and the field is clear again.
use Rattle.std.specs.Option.{is_none}
use Rattle.std.proofs.Common.{◌≡◌, true, rules}
use Rattle.lookup.proofs.AnswerSteps.{none-set, no_entry, null-none, null-some}
use Rattle.lookup.proofs.null_rows.Goals as goal

pub returns-then-is_none : goal.returns-then-is_none
returns-then-is_none c =
    let a = c.args in
    let e : is_none a.summary.null ≡ true = search rules in
    null-none a.body.now a.summary a.field.now c.requires.1 c.requires.2 (no_entry a.summary.null e)

pub place_null-placed-requires : goal.place_null-placed-requires
place_null-placed-requires c =
    (c.requires.0, c.requires.1, none-set c.args.summary.rows c.args.field.now c.requires.1 c.requires.2)

pub returns : goal.returns
returns c =
    let a = c.args in
    null-some a.body.now a.summary a.field.now c.requires.1 c.requires.2 c.place_null-placed.result c.place_null-placed.ensures c.clear.ensures
