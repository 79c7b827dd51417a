-- 01, "Refusal numbers": the number of each refusal, and where its fault is (02, Ticket 2); and 01's limit on the length of an input buffer and on a row
-- count.
use Rattle.std.specs.Prelude.{ℕ, List, [], ◌∷◌}
use Rattle.refusal.specs.declared.Refusal.{Refusal}
use Rattle.refusal.specs.declared.Refusal.TheVariants.{Short, Magic, Version, Head, Dict, Bitmap, Range, Twice, Missing, Room, Literal, Limit, Checksum, NoBin}

abbrev pub number_of : Refusal → ℕ
number_of Short = 1
number_of Magic = 2
number_of Version = 3
number_of Head = 4
number_of Dict = 5
number_of (Bitmap entry container) = 6
number_of (Range entry) = 7
number_of (Twice entry) = 8
number_of (Missing row) = 9
number_of Room = 10
number_of Literal = 11
number_of Limit = 12
number_of Checksum = 13
number_of NoBin = 14

-- three numbers say where a fault is: the entry, "0 for null, then 1 onward in stored order", the container, from 0, and the row
abbrev pub fault_at : ℕ → ℕ → ℕ → List ℕ
fault_at entry container row = entry ∷ container ∷ row ∷ []

-- what is not carried is 0
abbrev pub no_fault : List ℕ
no_fault = fault_at 0 0 0

-- "BITMAP, RANGE and TWICE now also carry the entry's number .., and BITMAP the lowest container .. MISSING carries the lowest missing row". No other refusal
-- carries anything
abbrev pub fault_of : Refusal → List ℕ
fault_of Short = no_fault
fault_of Magic = no_fault
fault_of Version = no_fault
fault_of Head = no_fault
fault_of Dict = no_fault
fault_of (Bitmap entry container) = fault_at entry container 0
fault_of (Range entry) = fault_at entry 0 0
fault_of (Twice entry) = fault_at entry 0 0
fault_of (Missing row) = fault_at 0 0 row.0
fault_of Room = no_fault
fault_of Literal = no_fault
fault_of Limit = no_fault
fault_of Checksum = no_fault
fault_of NoBin = no_fault

abbrev pub limit : ℕ
limit = 2147483647
