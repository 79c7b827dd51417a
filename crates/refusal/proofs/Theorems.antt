-- The claim, proved.
use mathlib.Core.Path.{refl}
use Rattle.refusal.specs.declared.Refusal.TheVariants.{Short, Magic, Version, Head, Dict, Bitmap, Range, Twice, Missing, Room, Literal, Limit, Checksum, NoBin}
use Rattle.refusal.specs.Claims.{BareHasNoFault}

pub bare_has_no_fault : BareHasNoFault
bare_has_no_fault Short b = refl
bare_has_no_fault Magic b = refl
bare_has_no_fault Version b = refl
bare_has_no_fault Head b = refl
bare_has_no_fault Dict b = refl
bare_has_no_fault (Bitmap entry container) b = absurd b
bare_has_no_fault (Range entry) b = absurd b
bare_has_no_fault (Twice entry) b = absurd b
bare_has_no_fault (Missing row) b = absurd b
bare_has_no_fault Room b = refl
bare_has_no_fault Literal b = refl
bare_has_no_fault Limit b = refl
bare_has_no_fault Checksum b = refl
bare_has_no_fault NoBin b = refl
