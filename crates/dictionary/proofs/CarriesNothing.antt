-- No refusal of a dictionary carries anything.
use Prim.Native.Nat.{ℕ, zero, suc}
use mathlib.Core.Bool.{Bool, true, false}
use mathlib.Core.List.{List, [], ◌∷◌}
use Rattle.refusal.specs.declared.Refusal.{Refusal}
use Rattle.std.specs.Prelude.{Result}
use Rattle.refusal.specs.Claims.{CarriesNothing}
use Rattle.refusal.proofs.CarriesNothing.{bare}
use Rattle.stored_value.specs.Meaning.{Cell}
use Rattle.stored_value.proofs.CarriesNothing.{value_bare}
use Rattle.dictionary.specs.Layout.{Entry}
use Rattle.dictionary.specs.Reading.{count_at_most, Dictionary, entries_version_one, Listing, listings, entries_version_two, blocks_of, blocked, null_of, dictionary}

module _ {A : Type 0} where
  count_bare : (most : ℕ) (s : List ℕ) (k : ℕ → List ℕ → Result A Refusal) → ((n : ℕ) (r : List ℕ) → CarriesNothing (k n r))
      → CarriesNothing (count_at_most most s k)
  unfolding count_at_most
  count_bare most s k f = search bare

  listings_bare : (t n : ℕ) (ds : List Listing) (s : List ℕ) (k : List Listing → List ℕ → Result A Refusal)
      → ((es : List Listing) (r : List ℕ) → CarriesNothing (k es r)) → CarriesNothing (listings t n ds s k)
  unfolding listings
  listings_bare t zero ds s k f = f ds s
  listings_bare t (suc n) ds s k f = search (bare, value_bare, listings_bare t n)

  entries_two_bare : (t n : ℕ) (before due : Cell) (es : List Entry) (s : List ℕ) (k : Cell → List Entry → List ℕ → Result A Refusal)
      → ((last : Cell) (fs : List Entry) (r : List ℕ) → CarriesNothing (k last fs r)) → CarriesNothing (entries_version_two t n before due es s k)
  unfolding entries_version_two
  entries_two_bare t zero before due es s k f = f before es s
  entries_two_bare t (suc n) before due es s k f = search (bare, value_bare, entries_two_bare t n)

entries_one_bare : (t rows n : ℕ) (nulls es : List Entry) (s : List ℕ) → CarriesNothing (entries_version_one t rows n nulls es s)
unfolding entries_version_one
entries_one_bare t rows zero nulls es s = tt
entries_one_bare t rows (suc n) nulls es s = search (bare, value_bare, entries_one_bare t rows n)

module _ (k : List Entry → List ℕ → Result Dictionary Refusal) (f : (es : List Entry) (r : List ℕ) → CarriesNothing (k es r)) where
  blocks_bare : (t : ℕ) (ds : List Listing) (base : List ℕ) (before : Cell) (es : List Entry) (s : List ℕ) → CarriesNothing (blocks_of t ds base before es s k)
  unfolding blocks_of
  blocks_bare t [] base before es s = f es s
  blocks_bare t (d ∷ ds) base before es s = search (bare, entries_two_bare, blocks_bare t ds)

  null_bare : (version2 has : Bool) (s : List ℕ) → CarriesNothing (null_of version2 has s k)
  unfolding null_of
  null_bare version2 false s = f [] s
  null_bare false true s = search bare
  null_bare true true s = search bare

blocked_bare : (t rows n : ℕ) (nulls : List Entry) (s : List ℕ) → CarriesNothing (blocked t rows n nulls s)
unfolding blocked
blocked_bare t rows n nulls s = search (bare, count_bare, listings_bare, blocks_bare) depth 10

pub dictionary_carries_nothing : (t : ℕ) (s : List ℕ) → CarriesNothing (dictionary t s)
unfolding dictionary
dictionary_carries_nothing t s = search (bare, count_bare, null_bare, entries_one_bare, blocked_bare) depth 12
