use Rattle.std.proofs.Common.{rules, ℕ, ◌≡◌, ◌<◌, ◌+◌, ◌-◌, ◌∙◌, List, Ok, length, take, drop, length-drop, refl}
use native.Mathlib.Omega.{arith}
use Rattle.numbers.specs.Meaning.{be_at}
use Rattle.deletion_file.specs.Reading.{Next, step_to_next_bin}
use Rattle.deletion_file.proofs.WalkSteps.{rest_of, left_to-end, left_behind, stands_there, plain_found, found_there}
use Rattle.deletion_file.proofs.WalkSteps.{walk_first, walk_refused, walk_over, walk_this, walk_other}
use Rattle.deletion_file.proofs.find_bin.Goals as goal
use Rattle.deletion_file.proofs.find_bin.Goals.{then-number-bin, else-number-bin}

pub loop-bytes-init : goal.loop-bytes-init
loop-bytes-init c =
    let a = c.args in
    rw (rest_of 1 a.file.now) (record {
      counted = simp length-drop (omega arith);
      is_left = left_to-end a.file.now 1 refl c.requires;
      walked = walk_first a.file.now a.bin c.requires;
      stands = tt;
    })

pub returns-in_err-bytes : goal.returns-in_err-bytes
returns-in_err-bytes c =
    let refused = walk_refused c.loop-bytes.invariant.walked c.in_err-bytes.ensures in
    search (rules, refused)

pub loop-bytes-preserved : goal.loop-bytes-preserved
loop-bytes-preserved c =
    let l = c.loop-bytes in
    let v = l.invariant in
    let file = c.args.file.now in
    let bytes = c.in-Some.bytes.now in
    let behind = c.in-Some.behind.now in
    let k : ℕ = length file - length l.left.now in
    let w = rw c.in-Some.is at c.in_ok-bytes.ensures in
    let long : length behind ≡ length l.left.now - (4 + length bytes) = rw w.2 (length-drop _ _) in
    let all : k + length l.left.now ≡ length file = omega (arith, v.counted) in
    -- what is left next
    let rest : List ℕ = take (length behind - 4) (drop 4 behind) in
    let is : rest ≡ drop 4 behind = rest_of 4 behind in
    let step : step_to_next_bin l.left.now ≡ Ok (Next.bin (record { bytes = bytes; sum = be_at 4 behind 0 }) rest) = rw is w.0 in
    let less : length rest < length l.left.now = rw is (simp length-drop (omega (arith, long, w.3.magic_fits, w.3.sum_fits))) in
    let place = left_to-end file (k + (4 + length bytes) + 4) (is ∙ left_behind file bytes k v.is_left w.2) (omega (arith, all, w.3.sum_fits)) in
    elim c.if-number-bin.branch [
      | then-number-bin b ↦ rw (b.found-is, b.be.ensures.value) (record {
        counted = omega (arith, v.counted, less, long, w.3.sum_fits);
        is_left = place;
        walked = walk_this step less (plain_found l.found) v.walked b.if-number-bin.true;
        stands = stands_there file bytes k v.is_left w.2 w.1 w.3 all;
      })
      | else-number-bin b ↦ rw b.found-is (record {
        counted = omega (arith, v.counted, less, long, w.3.sum_fits);
        is_left = place;
        walked = walk_other step less (plain_found l.found) v.walked b.if-number-bin.false;
        stands = v.stands;
      })
    ]

pub returns : goal.returns
returns c =
    let l = c.loop-bytes in
    let ended = walk_over (plain_found l.found) l.invariant.walked (rw c.in_default.is at c.in_ok-bytes.ensures) in
    rw c.ok_or.ensures.value (found_there c.args.file.now l.found ended l.invariant.stands)
