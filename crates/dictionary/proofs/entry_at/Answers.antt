-- `entry_at` meets its contract: each way out is a case of the definition of the entry at a cursor.
use mathlib.Core.Path.{◌∙◌}
use native.Mathlib.Omega.{arith}
use Rattle.numbers.specs.Meaning.{be_at}
use Rattle.dictionary.specs.Promises.{is_two, EndsAt}
use Rattle.dictionary.proofs.Offsets.{signed_passed}
use Rattle.dictionary.proofs.NextEntry.{entry-none, entry_lost, made_none, made}
use Rattle.dictionary.proofs.entry_at.Goals as goal
use Rattle.dictionary.proofs.entry_at.Goals.{In-Ok}

-- the entry's value
found : (c : In-Ok) → let a = c.args in EndsAt a.t a.body.now a.cursor.at.0 c.in-Ok.end.0
found c = rw c.in-Ok.is at c.value_end.ensures

pub returns-then-cursor-eq0 : goal.returns-then-cursor-eq0
returns-then-cursor-eq0 c = let a = c.args in c.no_entry.ensures ∙ entry-none a.t (is_two a.version) a.body.now a.cursor c.if-cursor-eq0.true

pub returns-in_default : goal.returns-in_default
returns-in_default c =
    let a = c.args in
    c.no_entry-in_default.ensures ∙ entry_lost a.t (is_two a.version) a.body.now a.cursor (omega arith) (rw c.in_default.is at c.value_end.ensures)

pub overflow_sub-body : goal.overflow_sub-body
overflow_sub-body c = let w = found (goal.at.overflow_sub-body c).In-Ok in omega arith

pub returns-then-body-end : goal.returns-then-body-end
returns-then-body-end c =
    let a = c.args in
    let w = found (goal.at.returns-then-body-end c).In-Ok in
    c.no_entry-then-body-end.ensures
    ∙ made_none a.t (is_two a.version) a.body.now a.cursor (omega arith) w.0 (omega arith) c.behind_value-w.ensures.0 (omega arith)

pub offset_at-requires : goal.offset_at-requires
offset_at-requires c = let w = found (goal.at.offset_at-requires c).In-Ok in let l = c.behind_value-w.ensures in omega arith

pub extent_at-requires : goal.extent_at-requires
extent_at-requires c = let w = found (goal.at.extent_at-requires c).In-Ok in let l = c.behind_value-w.ensures in omega arith

pub overflow_add-result : goal.overflow_add-result
overflow_add-result c = let w = found (goal.at.overflow_add-result c).In-Ok in let l = c.behind_value-w.ensures in omega arith

pub returns : goal.returns
returns c =
    let a = c.args in
    let w = found (goal.at.returns c).In-Ok in
    let o = c.offset_at.ensures in
    let z = signed_passed (be_at 4 a.body.now c.in-Ok.end.0) o.0 o.1 in
    made a.t (is_two a.version) a.body.now a.cursor (omega arith) w.0 (omega arith) c.behind_value-w.ensures.0 (omega arith) z c.extent_at.ensures
