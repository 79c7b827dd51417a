-- `search_block` meets its contract: the block's number, then its entries.
use Prim.Native.Nat.{◌+◌, ◌≤◌}
use native.Mathlib.Omega.{arith}
use lib.ListN.{length}
use Rattle.lookup.proofs.SearchLoop.{block-short, block_empty, block_negative, block-searched}
use Rattle.lookup.proofs.Reader.search_block.Goals as goal
use Rattle.lookup.proofs.Reader.search_block.Goals.{then-n-lt1-via-then-n-lt1, then-n-lt1-via-else-n-lt1+then-n-ge-SIGN_BIT}

pub returns-then-saturating_sub-lt-WORD : goal.returns-then-saturating_sub-lt-WORD
returns-then-saturating_sub-lt-WORD c =
    let a = c.args in
    block-short a.self.t a.self.literal.now a.self.body.now a.at.0 (omega (arith, c.if-saturating_sub-lt-WORD.true, c.saturating_sub.ensures))

pub returns-then-n-lt1 : goal.returns-then-n-lt1
returns-then-n-lt1 c =
    let a = c.args in
    let l : a.at.0 + 4 ≤ length a.self.body.now = omega (arith, c.if-saturating_sub-lt-WORD.false, c.saturating_sub.ensures) in
    elim c.then-n-lt1.branch [
      | then-n-lt1-via-then-n-lt1 b ↦ block_empty a.self.t a.self.literal.now a.self.body.now a.at.0 l c.be-n.ensures.value b.if-n-lt1.true
      | then-n-lt1-via-else-n-lt1+then-n-ge-SIGN_BIT b ↦
          block_negative a.self.t a.self.literal.now a.self.body.now a.at.0 l c.be-n.ensures.value b.if-n-lt1.false b.if-n-ge-SIGN_BIT.true
    ]

pub returns : goal.returns
returns c =
    let a = c.args in
    block-searched a.self.t a.self.literal.now a.self.body.now a.at.0 (omega (arith, c.if-saturating_sub-lt-WORD.false, c.saturating_sub.ensures)) c.be-n.ensures.value c.if-n-lt1.false
    c.if-n-ge-SIGN_BIT.false c.search_entries.result c.search_entries.ensures
