use Rattle.std.proofs.Common.{rules, ◌≡◌, ◌+◌, ◌*◌, [], ◌∷◌, ◌++◌, min, length, ◌∙◌}
use Rattle.case_lines.specs.Promises.{hex_bytes}
use Rattle.case_lines.proofs.Laying.{appended, finished, hex_done, hex_short, hex_long}
use Rattle.case_lines.proofs.Laid.append_hex.Goals as goal

pub loop-pair-preserved-then-pair-lt2 : goal.loop-pair-preserved-then-pair-lt2
loop-pair-preserved-then-pair-lt2 c =
    let l = c.loop-pair in
    let (size, (cut, many, more)) = c.in-Some.ensures.steps in
    let pair = c.in-Some.pair.now in
    let rest = c.next.new.self.rest.now in
    let n : length pair ≡ min 3 (length (pair ++ rest)) = rw (l.invariant.1, cut) at many in
    let e : hex_bytes l.pair-iterator.rest.now ≡ hex_bytes rest = rw cut (hex_short pair rest n c.in_default.len_below) in
    (l.invariant.0, size ∙ l.invariant.1, rw e at l.invariant.2)

pub loop-pair-preserved : goal.loop-pair-preserved
loop-pair-preserved c =
    let l = c.loop-pair in
    let (size, (cut, many, more)) = c.in-Some.ensures.steps in
    let pair = c.in-Some.pair.now in
    let rest = c.next.new.self.rest.now in
    let byte = c.digit.result * 16 + c.digit-in-len2-up.result in
    let n : length pair ≡ min 3 (length (pair ++ rest)) = rw (l.invariant.1, cut) at many in
    let e : hex_bytes l.pair-iterator.rest.now ≡ byte ∷ hex_bytes rest = rw (cut, c.digit.ensures.value, c.digit-in-len2-up.ensures.value) (hex_long pair rest n c.in-len2-up.len_at_least) in
    (c.push.ensures.1 ∙ l.invariant.0, size ∙ l.invariant.1, rw (c.push.ensures.1, c.push.ensures.0) (appended l.self.room l.self.bytes.items (byte ∷ []) (hex_bytes rest) _ e ∙ l.invariant.2))

pub returns : goal.returns
returns c =
    let l = c.loop-pair in
    (finished l.self.room l.self.bytes.items _ _ (hex_done _ c.in-None.ensures.steps.1.0) (search rules) l.invariant.2, l.invariant.0)
