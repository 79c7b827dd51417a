-- By the lead byte, as `standard_point` goes.
use Rattle.names.proofs.Decoding.{empty_begins, point_one, point_stray, point_two, point_three, point_four, point_none}
use Rattle.names.proofs.first_point.Goals as goal

pub returns-in_err-lead : goal.returns-in_err-lead
returns-in_err-lead c = rw c.from_residual.ensures (empty_begins c.args.s.now c.in_err-lead.ensures.cases)

pub returns-then-lead-lt-PAST_ONE_BYTE : goal.returns-then-lead-lt-PAST_ONE_BYTE
returns-then-lead-lt-PAST_ONE_BYTE c =
    point_one c.args.s.now c.from-lead.ensures c.in_ok-lead.ensures.cases.0 c.if-lead-lt-PAST_ONE_BYTE.true

pub returns-then-lead-lt-LEAD_OF_TWO : goal.returns-then-lead-lt-LEAD_OF_TWO
returns-then-lead-lt-LEAD_OF_TWO c =
    point_stray c.args.s.now c.from-lead.ensures c.in_ok-lead.ensures.cases.0 c.if-lead-lt-PAST_ONE_BYTE.false c.if-lead-lt-LEAD_OF_TWO.true

pub returns-then-lead-lt-LEAD_OF_THREE : goal.returns-then-lead-lt-LEAD_OF_THREE
returns-then-lead-lt-LEAD_OF_THREE c =
    point_two c.args.s.now c.from-lead.ensures c.in_ok-lead.ensures.cases.0 c.longer.result
    c.if-lead-lt-LEAD_OF_TWO.false c.if-lead-lt-LEAD_OF_THREE.true c.longer.ensures

pub returns-then-lead-lt-LEAD_OF_FOUR : goal.returns-then-lead-lt-LEAD_OF_FOUR
returns-then-lead-lt-LEAD_OF_FOUR c =
    point_three c.args.s.now c.from-lead.ensures c.in_ok-lead.ensures.cases.0 c.longer-then-lead-lt-LEAD_OF_FOUR.result
    c.if-lead-lt-LEAD_OF_THREE.false c.if-lead-lt-LEAD_OF_FOUR.true c.longer-then-lead-lt-LEAD_OF_FOUR.ensures

pub returns-then-lead-lt-PAST_LEADS : goal.returns-then-lead-lt-PAST_LEADS
returns-then-lead-lt-PAST_LEADS c =
    point_four c.args.s.now c.from-lead.ensures c.in_ok-lead.ensures.cases.0 c.longer-then-lead-lt-PAST_LEADS.result
    c.if-lead-lt-LEAD_OF_FOUR.false c.if-lead-lt-PAST_LEADS.true c.longer-then-lead-lt-PAST_LEADS.ensures

pub returns : goal.returns
returns c = point_none c.args.s.now c.from-lead.ensures c.in_ok-lead.ensures.cases.0 c.if-lead-lt-PAST_LEADS.false
