-- The reading's tests of one bitmap, in their order.
use Rattle.std.proofs.Common.{◌≡◌, ◌≤◌, ◌-◌, ◌∙◌, length, take, drop, refl, ap, Ok}
use native.Mathlib.Omega.{arith}
use Rattle.roaring.specs.declared.Extent.TheVariants.{AsLong}
use Rattle.roaring.specs.Reading.{Parsed, read}
use Rattle.roaring.specs.Promises.{MeasurePromise}
use Rattle.deletion_file.proofs.WalkSteps.{rest_of}
use Rattle.deletion_window.proofs.Steps.{next-cut, next_low, next-high, next-unsound, next_parsed, next_found}
use Rattle.deletion_window.proofs.next_bitmap.Goals as goal
use Rattle.deletion_window.proofs.next_bitmap.Goals.{then-index-least-via-then-index-least, then-index-least-via-else-index-least+then-index-ge-INDEX_END, In-Ok}

pub returns-then-left-lt-INDEX_SIZE : goal.returns-then-left-lt-INDEX_SIZE
returns-then-left-lt-INDEX_SIZE c = next-cut c.args.least c.args.left.now c.if-left-lt-INDEX_SIZE.true

pub returns-then-index-least : goal.returns-then-index-least
returns-then-index-least c =
    let a = c.args in
    elim c.then-index-least.branch [
      | then-index-least-via-then-index-least w ↦ next_low a.least a.left.now (omega arith) c.le-index.ensures.value w.if-index-least.true
      | then-index-least-via-else-index-least+then-index-ge-INDEX_END w ↦
          next-high a.least a.left.now (omega arith) c.le-index.ensures.value w.if-index-least.false w.if-index-ge-INDEX_END.true
    ]

pub returns-in_default : goal.returns-in_default
returns-in_default c =
    let a = c.args in
    next-unsound a.least a.left.now (omega arith) c.le-index.ensures.value c.if-index-least.false c.if-index-ge-INDEX_END.false
    (rw (rest_of 4 a.left.now) at c.measure.ensures) c.in_default.is

-- the bitmap that was measured
module _ (c : In-Ok) where
  promised : MeasurePromise AsLong (drop 4 c.args.left.now) c.measure.result
  promised = rw (rest_of 4 c.args.left.now) at c.measure.ensures

  found : (q : Parsed) × (read (drop 4 c.args.left.now) ≡ Ok q) × (c.in-Ok.shape.length ≤ length (drop 4 c.args.left.now))
      × (drop c.in-Ok.shape.length (drop 4 c.args.left.now) ≡ q.behind)
  found =
      next_parsed c.args.least c.args.left.now (omega arith) c.le-index.ensures.value c.if-index-least.false c.if-index-ge-INDEX_END.false promised
      c.in-Ok.is (λ i. (c.type_inv.left i).fits)

  room : c.in-Ok.shape.length ≤ length (take (length c.args.left.now - 4) (drop 4 c.args.left.now))
  room = rw (rest_of 4 c.args.left.now) found.2

pub slice_bounds-result-count : goal.slice_bounds-result-count
slice_bounds-result-count c = room (goal.at.slice_bounds-result-count c).In-Ok

pub slice_bounds-result-start : goal.slice_bounds-result-start
slice_bounds-result-start c = omega (arith, room (goal.at.slice_bounds-result-start c).In-Ok)

pub returns : goal.returns
returns c =
    let a = c.args in
    next_found a.least a.left.now (omega arith) c.le-index.ensures.value c.if-index-least.false c.if-index-ge-INDEX_END.false
    (promised (goal.at.returns c).In-Ok) c.in-Ok.is (λ i. (c.type_inv.left i).fits) refl (rest_of 4 a.left.now)
    (rest_of c.in-Ok.shape.length (take (length a.left.now - 4) (drop 4 a.left.now)) ∙ ap (drop c.in-Ok.shape.length) (rest_of 4 a.left.now))
