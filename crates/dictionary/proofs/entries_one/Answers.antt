-- `entries_one` meets its contract, as both ways do: a table is used where all positions fit 32 bits.
use native.Mathlib.Omega.{arith}
use Rattle.hash_table.specs.Promises.{slot}
use Rattle.hash_table.proofs.Chaining.{holds_none}
use Rattle.dictionary.specs.Layout.{most_values1}
use Rattle.dictionary.proofs.entries_one.Goals as goal

pub entries_distinct-requires-2-clause-tabled : goal.entries_distinct-requires-2-clause-tabled
entries_distinct-requires-2-clause-tabled c = λ y. record {
  short = c.if-body-gt-LIMIT.false;
  few = c.requires.1;
  empty = holds_none c.args.body.now (slot most_values1) (omega arith);
  room = omega arith;
}
