use Rattle.std.proofs.Common.{◌≡◌, ◌-◌, refl, sym, ap, ◌∙◌, arith}
use Rattle.numbers.specs.Meaning.{same}
use Rattle.hash_table.specs.Promises.{value_at}
use Rattle.hash_table.proofs.Chaining.{value_is, walk_next, walk_found, walk_done}
use Rattle.hash_table.proofs.found.Goals as goal
use Rattle.hash_table.proofs.found.Goals.{After-same}

-- the value that the walk is at was compared
compared : (c : After-same) → let a = c.args in c.same.result ≡ same a.v.now (value_at a.s.now a.table.now (c.loop-at.at - 1))
compared c =
    let a = c.args in
    c.same.ensures ∙ ap (same a.v.now) (value_is a.s.now a.table.now (c.loop-at.at - 1) refl refl)

pub returns-then-same : goal.returns-then-same
returns-then-same c =
    let l = c.loop-at in
    λ vs g. sym (walk_found g c.args.v.now l.at (l.invariant vs g) (omega arith) (sym (compared (goal.at.returns-then-same c).After-same) ∙ c.if-same.true))

pub loop-at-preserved : goal.loop-at-preserved
loop-at-preserved c =
    let l = c.loop-at in
    let other = sym (compared (goal.at.loop-at-preserved c).After-same) ∙ c.if-same.false in
    λ vs g. walk_next g c.args.v.now l.at (l.invariant vs g) (omega arith) other

pub returns : goal.returns
returns c =
    let l = c.loop-at in
    λ vs g. sym (walk_done g c.args.v.now l.at (l.invariant vs g) (omega arith))
