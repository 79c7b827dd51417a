-- An accepted open, by the code's steps.
use Prim.Native.Nat.{ℕ, ◌≤◌}
use mathlib.Core.Path.{◌≡◌, refl, ◌∙◌}
use mathlib.Core.List.{List}
use native.Mathlib.Omega.{arith}
use lib.ListN.{length, drop, length-drop}
use Rattle.std.specs.Prelude.{Ok}
use Rattle.refusal.specs.Reading.{and_then, numbers_of, fault_in}
use Rattle.row_field.specs.Meaning.{cleared}
use Rattle.dictionary.specs.Reading.{Dictionary, behind}
use Rattle.dictionary.proofs.LaidOut.{behind_is}
use Rattle.bitmap_index.specs.Reading.{prepared, audited}
use Rattle.opening.specs.declared.Fields.{Fields}
use Rattle.opening.specs.Reading.{front, filled, zeroed_from, open_buffer, table_of, open_table, open_out, open_fault}
use Rattle.opening.specs.Promises.{OpenPromise, front_found, Fills}
use Rattle.opening.proofs.Stages.{openable-ok, opened-ok}

-- where the directory begins that the code found
directory_at : (s : List ℕ) (p : ℕ) → p ≤ length s → behind s (drop p s) ≡ p
directory_at s p h = behind_is p s (drop p s) (omega (arith, length-drop p s))

pub open_accepted : (t : ℕ) (s f table after words : List ℕ) (g : Fields) (d : Dictionary) → front s ≡ Ok (front_found s g) → g.directory.0 ≤ length s
    → prepared t s f ≡ Ok d → g.blocks ≤ length table → audited d (cleared d.rows f) ≡ Ok d.rows → after ≡ cleared d.rows f
    → Fills t g.blocks s g.directory.0 table words → OpenPromise t s f after table words (Ok (record { rows = d.rows; blocks = g.blocks }))
unfolding open_buffer zeroed_from open_table table_of open_out open_fault filled numbers_of fault_in and_then
open_accepted t s f table after words g d e l p h a b v =
    let o = opened-ok t s f table (front_found s g) d d.rows e p h a in
    let i = openable-ok t s f table (front_found s g) d e p h in
    record { answer = rw o refl; buffer = rw i b; filled = v ∙ rw (o, directory_at s g.directory.0 l) refl; numbers = rw o refl; fault = rw o refl }
