use Rattle.std.proofs.Common.{rules, ◌≡◌, ◌-◌, ◌+◌, ◌*◌, ◌%◌, ◌/◌, ◌<◌, [], ◌∷◌, ◌++◌, take, refl, ◌∙◌, arith}
use Rattle.case_lines.specs.Promises.{rising, words_of}
use Rattle.case_lines.proofs.Laying.{appended, rising_next, rising_eight, rising_done, finished, filled}
use Rattle.case_lines.proofs.Laid.append_words.Goals as goal

pub loop-init : goal.loop-init
unfolding words_of
loop-init c =
    let all : c.number-count.result - 0 ≡ c.number-count.result = omega arith in
    (refl, rw (all, c.number-count.ensures, c.number-2.ensures, c.number.ensures) refl)

pub loop-preserved : goal.loop-preserved
loop-preserved c =
    let l = c.loop in
    let count = c.number-count.result in
    let step = c.number.result % 65536 in
    let less : step < 65536 = omega arith in
    let left : count - 8 * l.counter ≡ 8 + (count - 8 * (l.counter + 1)) = omega (arith, c.loop-test.true) in
    let more = rising_eight (count - 8 * l.counter) (count - 8 * (l.counter + 1)) l.number step (search rules) less left in (
      c.append.ensures.1 ∙ l.invariant.0,
      rw (c.append.ensures.1, c.append.ensures.0, c.eight.ensures) (appended l.self.room l.self.bytes.items (rising 8 l.number step) _ _ more ∙ l.invariant.1),
    )

pub returns-then-len-self : goal.returns-then-len-self
returns-then-len-self c =
    let l = c.loop in
    (filled l.self.room l.self.bytes.items _ _ (search rules) l.invariant.1, l.invariant.0)

pub loop-2-init : goal.loop-2-init
loop-2-init c =
    let l = c.loop in
    let count = c.number-count.result in
    let left : count % 8 - 0 ≡ count - 8 * l.counter = omega (arith, c.loop-test.false, l.auto.counter-end) in
    (l.invariant.0, rw left l.invariant.1)

pub loop-2-preserved : goal.loop-2-preserved
loop-2-preserved c =
    let l = c.loop-2 in
    let end = c.number-count.result % 8 in
    let step = c.number.result % 65536 in
    let room = l.self.room in
    let items = l.self.bytes.items in
    let low = l.number % 256 in
    let high = l.number / 256 % 256 in
    let rest = rising (end - (l.counter + 1)) ((l.number + step) % 65536) step in
    let left = rising_next (end - l.counter) (end - (l.counter + 1)) l.number step (omega arith) in
    let first = appended room items (low ∷ []) (high ∷ rest) _ left in
    let second = appended room (take room (items ++ (low ∷ []))) (high ∷ []) rest (high ∷ rest) refl in (
      c.push-in-loop-2.ensures.1 ∙ c.push.ensures.1 ∙ l.invariant.0,
      rw (c.push-in-loop-2.ensures.1, c.push-in-loop-2.ensures.0, c.push.ensures.1, c.push.ensures.0, c.to_le_bytes.ensures) (second ∙ first ∙ l.invariant.1),
    )

pub returns : goal.returns
returns c =
    let l = c.loop-2 in
    let left = rising_done (c.number-count.result % 8 - l.counter) l.number (c.number.result % 65536) (omega arith) in
    (finished l.self.room l.self.bytes.items _ _ left (search rules) l.invariant.1, l.invariant.0)
