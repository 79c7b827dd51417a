-- Refusals that come before a bitmap is looked at carry nothing.
use Prim.Native.Nat.{ℕ}
use mathlib.Core.List.{List}
use Rattle.refusal.specs.Claims.{CarriesNothing}
use Rattle.refusal.proofs.CarriesNothing.{bare}
use Rattle.stored_value.proofs.CarriesNothing.{literals_bare}
use Rattle.dictionary.proofs.CarriesNothing.{dictionary_carries_nothing}
use Rattle.bitmap_index.specs.declared.Question.{Question}
use Rattle.bitmap_index.specs.Reading.{room_for, prepared, well_formed}

pub well_formed_bare : (t : ℕ) (q : Question) (literal body : List ℕ) → CarriesNothing (well_formed t q literal body)
unfolding well_formed
well_formed_bare t q literal body = search (bare, literals_bare)

pub prepared_bare : (t : ℕ) (body field : List ℕ) → CarriesNothing (prepared t body field)
unfolding prepared room_for
prepared_bare t body field = search (bare, dictionary_carries_nothing)
