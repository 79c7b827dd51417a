-- `insert` meets its contract: a value that was not found is put in front of its chain.
use mathlib.Core.Path.{refl, sym, ◌∙◌}
use Rattle.hash_table.proofs.Chaining.{holds_more}
use Rattle.hash_table.proofs.insert.Goals as goal

pub returns-then-found : goal.returns-then-found
returns-then-found c = λ vs g m. (sym (c.found.ensures vs g) ∙ c.if-found.true, refl)

pub returns : goal.returns
returns c =
    let p = c.requires in
    let h = c.hash-h in
    λ vs g m. (
      sym (c.found.ensures vs g) ∙ c.if-found.false,
      rw c.put_in_front.ensures (holds_more g m p.room p.rising p.inside h.ensures.1 h.ensures.0),
    )
