-- `search_entries` meets its contract by `Searching`.
use Rattle.lookup.proofs.SearchLoop.{Searching}
use Rattle.lookup.proofs.Reader.search_entries.Given as goal

abbrev pub invariant-loop-before : goal.invariant-loop-before
invariant-loop-before l = Searching l.self.t l.self.literal.now l.n l.self.body.now l.initial.start l.before l.start
