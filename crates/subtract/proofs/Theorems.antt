-- The claims of specs/Claims.
use mathlib.Core.Path.{refl}
use Rattle.subtract.specs.Claims.{ClearsJustTheRows, KeepsTheLength, LeftAndRemoved, NumbersAreTheRecord, RecordIsCountedAfresh, RefusedAsSubtract}
use Rattle.subtract.specs.Reading.{buffer_by}
use Rattle.subtract.proofs.Laws.{bit-subtracted, length-subtracted, left-removed}
use Rattle.subtract.proofs.WithRecord.{counted_afresh, refused_alike, refused_for}

pub clears_just_the_rows : ClearsJustTheRows
clears_just_the_rows = bit-subtracted

pub keeps_the_length : KeepsTheLength
keeps_the_length = length-subtracted

pub left-and-removed : LeftAndRemoved
left-and-removed = left-removed

pub numbers_are_the_record : NumbersAreTheRecord
numbers_are_the_record c = refl

pub record_is_counted_afresh : RecordIsCountedAfresh
record_is_counted_afresh = counted_afresh

pub refused_as_subtract : RefusedAsSubtract
unfolding buffer_by
refused_as_subtract given f g r =
    let both = refused_alike given f g r in
    (both, λ e. let s = both.0 e in (refused_for given.rows f g r s, rw s))
