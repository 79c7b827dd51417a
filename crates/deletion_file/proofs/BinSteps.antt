-- A bin's tests, taken apart, and the stages before it.
use Prim.Native.Nat.{ℕ}
use mathlib.Core.Path.{◌≡◌}
use mathlib.Core.List.{List}
use lib.ListN.{drop}
use borrow.Author.Tests.{eqb-true}
use Rattle.numbers.specs.Meaning.{be_at}
use Rattle.refusal.specs.declared.Refusal.TheVariants.{Magic, Checksum}
use Rattle.std.specs.Prelude.{Ok}
use Rattle.refusal.specs.Reading.{and_then}
use Rattle.refusal.proofs.Laws.{ok_same, check-ok}
use Rattle.crc32.specs.Meaning.{checksum}
use Rattle.deletion_file.specs.Layout.{Bin, magic}
use Rattle.deletion_file.specs.Reading.{bin_asked_for, begins_with_magic, is_true_checksum, after_magic, bitmap_in}

-- what passed both tests
pub magic_back : (x : Bin) (bitmap : List ℕ) → after_magic x ≡ Ok bitmap → (be_at 4 x.bytes 0 ≡ magic) × (checksum x.bytes ≡ x.sum) × (drop 4 x.bytes ≡ bitmap)
unfolding after_magic begins_with_magic is_true_checksum
magic_back x bitmap e =
    let m = check-ok (begins_with_magic x.bytes) Magic _ _ e in
    let c = check-ok (is_true_checksum x.bytes x.sum) Checksum _ _ m.1 in
    (eqb-true _ _ m.0, eqb-true _ _ c.0, ok_same _ _ c.1)

pub the_bin : (b : ℕ) (file : List ℕ) {x : Bin} → bin_asked_for b file ≡ Ok x → bitmap_in b file ≡ after_magic x
unfolding bitmap_in and_then
the_bin b file w = rw w
