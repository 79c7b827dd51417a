-- Refusals that come before a bin's bitmap is looked at carry nothing.
use Prim.Native.Nat.{ℕ, zero, suc}
use mathlib.Core.List.{List, [], ◌∷◌}
use Rattle.refusal.specs.declared.Refusal.{Refusal}
use Rattle.std.specs.Prelude.{Result}
use Rattle.refusal.specs.Claims.{CarriesNothing}
use Rattle.refusal.proofs.CarriesNothing.{bare}
use Rattle.deletion_file.specs.Layout.{Bin}
use Rattle.deletion_file.specs.Reading.{Next, over, bin, step_to_next_bin, bins_by, bins, bin_numbered, bin_in, bin_asked_for, after_magic, bitmap_in, deletions_ready}

next_bare : (s : List ℕ) → CarriesNothing (step_to_next_bin s)
unfolding step_to_next_bin
next_bare s = search bare

bins_by_bare : (walk : List ℕ → Result (List Bin) Refusal) → ((s : List ℕ) → CarriesNothing (walk s)) → (x : Next) → CarriesNothing (bins_by walk x)
unfolding bins_by
bins_by_bare walk f over = tt
bins_by_bare walk f (bin x rest) = search (bare, f)

bins_bare : (steps : ℕ) (s : List ℕ) → CarriesNothing (bins steps s)
unfolding bins
bins_bare zero s = tt
bins_bare (suc steps) s = search (bare, next_bare, bins_by_bare, bins_bare steps)

numbered_bare : (b : ℕ) (xs : List Bin) → CarriesNothing (bin_numbered b xs)
unfolding bin_numbered
numbered_bare zero [] = tt
numbered_bare zero (x ∷ xs) = tt
numbered_bare (suc b) [] = tt
numbered_bare (suc b) (x ∷ xs) = numbered_bare b xs

pub asked_bare : (b : ℕ) (file : List ℕ) → CarriesNothing (bin_asked_for b file)
unfolding bin_asked_for bin_in
asked_bare b file = search (bare, bins_bare, numbered_bare) depth 6

pub bitmap_bare : (b : ℕ) (file : List ℕ) → CarriesNothing (bitmap_in b file)
unfolding bitmap_in after_magic
bitmap_bare b file = search (bare, asked_bare)

pub ready_bare : (file : List ℕ) (n : ℕ) (buffer : List ℕ) → CarriesNothing (deletions_ready file n buffer)
unfolding deletions_ready
ready_bare file n buffer = search bare
