-- `search_entries` meets its contract by `Searching`.
use Prim.Native.Nat.{◌+◌, ◌≤◌}
use lib.ListN.{length}
use mathlib.Core.Path.{◌≡◌, sym, ◌∙◌}
use native.Mathlib.Omega.{arith}
use Rattle.std.proofs.Common.{Err, rules}
use Rattle.lookup.proofs.SearchLoop.{searching_done, searching_refused, searching_short, searching_hit, searching_next, searching_other}
use Rattle.lookup.proofs.Reader.search_entries.Goals as goal
use Rattle.lookup.proofs.Reader.search_entries.Goals.{then-end-start+else-same, else-end-start}

pub returns-in_err-end : goal.returns-in_err-end
returns-in_err-end c =
    let y : c.from_residual.result ≡ Err c.in_err-end.field-0.0 = search rules in
    rw y (searching_refused c.loop-before.invariant c.loop-before-test.true c.in_err-end.ensures)

pub returns-then-self-end-lt-TWO_WORDS : goal.returns-then-self-end-lt-TWO_WORDS
returns-then-self-end-lt-TWO_WORDS c =
    searching_short c.loop-before.invariant c.loop-before-test.true c.in_ok-end.end.0 c.in_ok-end.ensures c.if-self-end-lt-TWO_WORDS.true

pub returns-then-same : goal.returns-then-same
returns-then-same c =
    let w = c.in_ok-end.ensures in
    searching_hit c.loop-before.invariant c.loop-before-test.true c.in_ok-end.end.0 w (omega (arith, w.2, c.if-self-end-lt-TWO_WORDS.false))
    (sym c.same.ensures ∙ c.if-same.true) c.offset_at.ensures c.be.ensures.value

-- a value of the literal's length ends where the literal would
pub loop-before-preserved : goal.loop-before-preserved
loop-before-preserved c =
    let st = c.loop-before.invariant in
    let w = c.in_ok-end.ensures in
    let l : c.in_ok-end.end.0 + 8 ≤ length c.args.self.body.now = omega (arith, w.2, c.if-self-end-lt-TWO_WORDS.false) in
    elim c.if-end-start.branch [
      | then-end-start+else-same b ↦
          let e : c.if-end-start.start ≡ c.in_ok-end.end.0 + 8 = omega (arith, w.1, b.if-end-start.true, b.start-is) in
          rw e (searching_next st c.loop-before-test.true c.in_ok-end.end.0 w l (sym b.same.ensures ∙ b.if-same.false))
      | else-end-start b ↦ rw b.start-is (searching_other st c.loop-before-test.true c.in_ok-end.end.0 w l (λ h. omega (arith, h, b.if-end-start.false)))
    ]

pub returns : goal.returns
returns c = searching_done c.loop-before.invariant c.loop-before-test.false
