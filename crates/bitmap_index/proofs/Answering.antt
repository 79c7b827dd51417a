-- After an accepted audit each entry is sound: where its offset is not negative, a bitmap stands there, with all its rows below the row count.
use Prim.Native.Nat.{ℕ}
use mathlib.Core.Path.{◌≡◌}
use mathlib.Core.List.{List, [], ◌∷◌}
use Rattle.numbers.specs.Meaning.{All, Bytes, signed32}
use Rattle.std.specs.Prelude.{Ok}
use Rattle.refusal.proofs.Laws.{then_ok}
use Rattle.dictionary.specs.Layout.{Entry}
use Rattle.dictionary.specs.Reading.{Dictionary}
use Rattle.bitmap_index.specs.Reading.{entry_number, next_number, first_number, place_entry, place_entries, audited}
use Rattle.bitmap_index.specs.Promises.{SoundAt}
use Rattle.bitmap_index.proofs.PlacedRows.{placed_at}

module _ (n : ℕ) (region : List ℕ) (b : Bytes region) where
  placed-sound : (next : ℕ) (es : List Entry) (f full : List ℕ) → place_entries next n region es f ≡ Ok full
      → All (λ e. SoundAt n region (signed32 e.offset)) es
  unfolding place_entries place_entry
  placed-sound next [] f full p = tt
  placed-sound next (e ∷ es) f full p =
      let then : ℕ = next_number next e.cell in
      let (f', first, rest) = then_ok (place_entry next n region f e) (place_entries then n region es) full p in
      ((placed_at (entry_number next e.cell) e.extent n region f f' (signed32 e.offset) b first).sound, placed-sound then es f' full rest)

pub audited-sound : (d : Dictionary) (zero : List ℕ) → Bytes d.region → (n : ℕ) → audited d zero ≡ Ok n
    → All (λ (e : Entry). SoundAt d.rows d.region (signed32 e.offset)) d.entries
unfolding audited
audited-sound d zero b n a =
    let (full, placed, rest) = then_ok (place_entries first_number d.rows d.region d.entries zero) _ n a in
    placed-sound d.rows d.region b first_number d.entries zero full placed
