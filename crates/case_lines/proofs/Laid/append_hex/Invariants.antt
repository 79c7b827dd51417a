-- `append_hex` meets its contract: with the digits that are left, the bytes are what they shall be.
use Rattle.std.proofs.Common.{◌≡◌, ◌++◌, take}
use Rattle.case_lines.specs.Promises.{hex_bytes}
use Rattle.case_lines.proofs.Laid.append_hex.Given as goal

abbrev pub invariant-loop-pair : goal.invariant-loop-pair
invariant-loop-pair l =
    (l.self.room ≡ l.initial.self.room)
    × (l.pair-iterator.size ≡ 3)
    × (take l.self.room (l.self.bytes.items ++ hex_bytes l.pair-iterator.rest.now) ≡ take l.initial.self.room (l.initial.self.bytes.items ++ hex_bytes l.digits))
