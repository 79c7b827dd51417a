-- What is claimed of refusals that carry nothing (02, Ticket 2). Crates above say of their stages before a bitmap is looked at that they carry nothing.
use Rattle.std.specs.Prelude.{◌≡◌, Result, Err, Ok}
use Rattle.refusal.specs.declared.Refusal.{Refusal}
use Rattle.refusal.specs.declared.Refusal.TheVariants.{Short, Magic, Version, Head, Dict, Bitmap, Range, Twice, Missing, Room, Literal, Limit, Checksum, NoBin}
use Rattle.refusal.specs.Meaning.{fault_of, no_fault}

-- the refusals that carry nothing besides their number
abbrev pub Bare : Refusal → Type 0
Bare Short = Unit {0}
Bare Magic = Unit {0}
Bare Version = Unit {0}
Bare Head = Unit {0}
Bare Dict = Unit {0}
Bare (Bitmap entry container) = ⊥
Bare (Range entry) = ⊥
Bare (Twice entry) = ⊥
Bare (Missing row) = ⊥
Bare Room = Unit {0}
Bare Literal = Unit {0}
Bare Limit = Unit {0}
Bare Checksum = Unit {0}
Bare NoBin = Unit {0}

-- if it is a refusal, it carries nothing
abbrev pub CarriesNothing : {A : Type 0} → Result A Refusal → Type 0
CarriesNothing (Err r) = Bare r
CarriesNothing (Ok a) = Unit {0}

-- all three numbers of its fault are then 0
abbrev pub BareHasNoFault : Type 0
BareHasNoFault = (r : Refusal) → Bare r → fault_of r ≡ no_fault
