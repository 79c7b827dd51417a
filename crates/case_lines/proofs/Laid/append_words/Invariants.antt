-- `append_words` meets its contract: with the numbers that are left, the bytes are what they shall be.
use Rattle.std.proofs.Common.{◌≡◌, ◌-◌, ◌*◌, ◌++◌, take}
use Rattle.case_lines.specs.Promises.{rising, words_of}
use Rattle.case_lines.proofs.Laid.append_words.Given as goal

abbrev pub invariant-loop : goal.invariant-loop
invariant-loop l =
    (l.self.room ≡ l.fn.self.room)
    × (take l.self.room (l.self.bytes.items ++ rising (l.count - 8 * l.counter) l.number l.step) ≡ take l.fn.self.room (l.fn.self.bytes.items ++ words_of l.fn.line.text.now))

abbrev pub invariant-loop-2 : goal.invariant-loop-2
invariant-loop-2 l =
    (l.self.room ≡ l.fn.self.room)
    × (take l.self.room (l.self.bytes.items ++ rising (l.end - l.counter) l.number l.step) ≡ take l.fn.self.room (l.fn.self.bytes.items ++ words_of l.fn.line.text.now))
