use Rattle.std.proofs.Common.{refl}
use Rattle.case_lines.specs.Promises.{rising}
use Rattle.case_lines.proofs.eight.Goals as goal

pub returns : goal.returns
unfolding rising
returns c =
    rw (
      c.to_le_bytes.ensures,
      c.to_le_bytes-2.ensures,
      c.to_le_bytes-3.ensures,
      c.to_le_bytes-4.ensures,
      c.to_le_bytes-5.ensures,
      c.to_le_bytes-6.ensures,
      c.to_le_bytes-7.ensures,
      c.to_le_bytes-8.ensures,
    ) refl
