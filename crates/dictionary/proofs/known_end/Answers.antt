-- `known_end` meets its contract: what `known_size` says, as a position.
use native.Mathlib.Omega.{arith}
use Rattle.refusal.specs.declared.Refusal.TheVariants.{Short, Dict}
use Rattle.dictionary.proofs.Steps.{known-to}
use Rattle.dictionary.proofs.known_end.Goals as goal

pub known_size-requires : goal.known_size-requires
known_size-requires c = let e = c.requires in (Short, Dict, e.0, e.1)

pub returns : goal.returns
returns c =
    let a = c.args in
    let (k, e) = c.requires in
    known-to a.t a.body.now a.at.0 k e (c.known_size.ensures Short Dict k e)

pub overflow_add-result : goal.overflow_add-result
overflow_add-result c = let e = returns c in omega arith
