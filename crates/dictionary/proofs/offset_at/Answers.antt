-- `offset_at` meets its contract: four bytes are 32 bits, and so fit a signed number of as many.
use Prim.Native.Nat.{◌<◌}
use mathlib.Core.Path.{◌∙◌}
use Rattle.numbers.specs.Meaning.{be_at}
use Rattle.dictionary.proofs.Offsets.{signed_passed}
use Rattle.dictionary.proofs.offset_at.Goals as goal

pub returns : goal.returns
returns c =
    let a = c.args in
    let n = c.be.ensures.value in
    let h : be_at 4 a.body.now a.at.0 < 4294967296 = rw n at c.be.ensures.below in
    (signed_passed (be_at 4 a.body.now a.at.0) (c.to_signed.ensures ∙ rw n) h, h)
