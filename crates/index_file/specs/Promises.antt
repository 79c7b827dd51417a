-- What the answers of the code's steps, which take from what is left of the bytes, say in the reading's terms.
use Rattle.std.specs.Prelude.{ℕ, ◌≤◌, ◌≡◌, List, Result, Ok, Err, Option}
use Rattle.refusal.specs.declared.Refusal.{Refusal}
use Rattle.refusal.specs.declared.Refusal.TheVariants.{Head}
use Rattle.names.specs.Layout.{name_limit}
use Rattle.names.specs.Reading.{size_of_asked_name}
use Rattle.index_file.specs.declared.Part.{Part}

-- what follows of something that was read, and of what is left
abbrev pub Rest : Type 0 → Type 0
Rest A = A → List ℕ → Result (Option Part) Refusal

abbrev pub refused_head : Result (Option Part) Refusal
refused_head = Err Head

-- what `reading` takes from the front of some bytes, seen by `view`, and what is then left of them; a refusal is the reading's, whatever would follow
abbrev pub Reads : {A B : Type 0} → (A → B) → (Rest B → Result (Option Part) Refusal) → Result A Refusal → List ℕ → Type 0
Reads {B = B} view reading (Err r) rest = (k : Rest B) → reading k ≡ Err r
Reads {B = B} view reading (Ok x) rest = (k : Rest B) → reading k ≡ k (view x) rest

-- an asked name has so many bytes in modified form, and may be asked for
abbrev pub HasSize : ℕ → List ℕ → Type 0
HasSize size asked = (size ≡ size_of_asked_name asked) × (size ≤ name_limit)
