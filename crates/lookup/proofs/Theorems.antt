-- The claims of specs/Claims, proved in their order there.
use Prim.Native.Nat.{ℕ, ◌+◌, ◌≤◌}
use mathlib.Core.Path.{◌≡◌, refl, sym, ap, ◌∙◌, subst}
use mathlib.Core.Bool.{Bool, true, false, cond}
use mathlib.Core.List.{List}
use native.Mathlib.Omega.{arith}
use lib.Dec.{eqb}
use lib.ListN.{drop}
use Rattle.refusal.specs.declared.Refusal.{Refusal}
use Rattle.std.specs.Prelude.{Result, Err, Ok}
use Rattle.refusal.specs.Reading.{and_then}
use Rattle.refusal.proofs.Laws.{ok_same, then_ok}
use Rattle.row_field.specs.Meaning.{cleared}
use Rattle.lookup.specs.Reading.{Halved, halving, Searched, searched, no_block, Sought, Looked, looked_in, lookable, looked_up, refused_buffer, looked_buffer, look_up_buffer}
use Rattle.lookup.specs.Claims.{OpenedIsAnswered, LaidOutIsLookedUp, FewAreCompared, HasFloorLog2, SearchedStands, QuestionIsTested, UpToRoom, RefusedIs, up_to-room, after_room, RefusedOnlySo, AcceptedOnlySo, SoughtStates}
use Rattle.lookup.proofs.HalvingSteps.{halving_few, halving-many, floor_log2}
use Rattle.lookup.proofs.BlockEntries.{block-from, block-searched}
use Rattle.lookup.proofs.SoughtParts.{sought_parts, lookable_parts, sought_placeable}
use Rattle.lookup.proofs.EarlyRefusals.{lookable_early}
use Rattle.lookup.proofs.FoundRows.{refused_after, accepted_after}
use Rattle.opening.proofs.Theorems.{opened_is_laid_out, table_holds_the_answer}
use Rattle.lookup.proofs.OpenedAnswers.{opened-answered, laid_looked_up}

-- ---- as Ask, and as the scan

pub opened_is_answered : OpenedIsAnswered
opened_is_answered t body field table a b e edition literal lent b' =
    rw ((table_holds_the_answer t body field table).0 a e)
    (opened-answered t body table a.rows a.blocks a.words (opened_is_laid_out t body field table a.rows a.blocks a.words b e) edition literal lent b')

pub laid_out_is_looked_up : LaidOutIsLookedUp
laid_out_is_looked_up t cells nulls bs region laid edition ls w behind field b room = laid_looked_up t cells nulls bs region laid edition ls w behind field b room

-- ---- values compared

-- an accepted lookup: what was sought, and what came of it
accepted_parts : (t edition : ℕ) (literal table body field : List ℕ) (a : Looked) → looked_up t edition literal table body field ≡ Ok a
    → (f : Sought) × (lookable t edition literal table body field ≡ Ok f) × (looked_in f (cleared f.rows field) ≡ Ok a)
unfolding looked_up
accepted_parts t edition literal table body field a e = then_ok (lookable t edition literal table body field) _ a e

looked_compared : (f : Sought) (clear : List ℕ) (a : Looked) → looked_in f clear ≡ Ok a → a.compared ≡ f.directory.compared + f.block.compared
unfolding looked_in
looked_compared f clear a e =
    let (withNulls, first, more) = then_ok _ _ a e in
    let (marked, second, last) = then_ok _ _ a more in
    sym (ap (λ (x : Looked). x.compared) (ok_same _ a last))

-- in a block no more than its entries
few_in_block : (t : ℕ) (literal s : List ℕ) (x : Bool) (b : Searched) → cond x (Ok no_block) (searched t literal s) ≡ Ok b → b.compared ≤ b.entries
few_in_block t literal s true b e = subst (λ (y : Searched). y.compared ≤ y.entries) (ok_same no_block b e) (omega arith)
few_in_block t literal s false b e =
    let (l, w) = block-from t literal s b e in
    omega (arith, w.many, w.within)

-- without blocks none
none-without : (t : ℕ) (literal table body s : List ℕ) (blocks : ℕ) (h : Halved) (b : Searched) → blocks ≡ 0
    → halving t literal table body blocks 0 blocks 0 0 ≡ Ok h → cond (eqb h.below 0) (Ok no_block) (searched t literal s) ≡ Ok b → h.compared + b.compared ≡ 0
unfolding halving
none-without t literal table body s blocks h b none e q =
    let i : record { below = 0; at = 0; compared = 0 } ≡ h = ok_same _ h (rw none at e) in
    let j : no_block ≡ b = ok_same no_block b (subst (λ (x : Halved). cond (eqb x.below 0) (Ok no_block) (searched t literal s) ≡ Ok b) (sym i) q) in
    omega (arith, ap (λ (x : Halved). x.compared) i, ap (λ (x : Searched). x.compared) j)

pub few_are_compared : FewAreCompared
few_are_compared t edition literal table body field a e =
    let (f, is, last) = accepted_parts t edition literal table body field a e in
    let (short, found, room) = lookable_parts t edition literal table body field f is in
    let p = sought_parts t literal table body f found in
    let at : List ℕ = drop f.directory.at (drop 4 p.behind) in
    let sum = looked_compared f (cleared f.rows field) a last in (
      p.fields,
      p.is_front,
      (
        f,
        found,
        record {
          sum = sum;
          none = λ z. sum ∙ none-without t literal table body at p.fields.blocks f.directory f.block z p.halved p.block;
          halved = λ k log.
              omega (arith, halving_few t literal table body (k + 1) p.fields.blocks 0 p.fields.blocks 0 0 f.directory log.1 p.halved);
          least = λ k l.
              omega (
                arith,
                halving-many t literal table body k p.fields.blocks 0 p.fields.blocks 0 0 f.directory l (omega arith) p.halved,
              );
          in_block = few_in_block t literal at (eqb f.directory.below 0) f.block p.block;
        },
      ),
    )

pub has_floor_log2 : HasFloorLog2
has_floor_log2 b l = floor_log2 b l

-- ---- one block

pub searched_stands : SearchedStands
searched_stands t literal s b c e = block-searched t literal s b e c

-- ---- refused

module _ (t edition : ℕ) (literal table body field : List ℕ) where
  -- up to ROOM the field stays
  refused_early : (r : Refusal) → lookable t edition literal table body field ≡ Err r
      → (looked_up t edition literal table body field ≡ Err r) × (look_up_buffer t edition literal table body field ≡ field)
  unfolding looked_up look_up_buffer looked_buffer refused_buffer and_then
  refused_early r e = (rw e, rw e)

  -- and is then zero
  refused_zero : (f : Sought) (r : Refusal) → lookable t edition literal table body field ≡ Ok f → looked_up t edition literal table body field ≡ Err r
      → look_up_buffer t edition literal table body field ≡ cleared f.rows field
  unfolding look_up_buffer looked_buffer refused_buffer
  refused_zero f r e q = rw (q, e)

pub question_is_tested : QuestionIsTested
unfolding lookable and_then
question_is_tested t edition literal table body field r e = refused_early t edition literal table body field r (rw e)

pub refused_only_so : RefusedOnlySo
unfolding looked_up and_then
refused_only_so t edition literal table body field r c e = go (lookable t edition literal table body field) refl
  where
    go : (x : Result Sought Refusal) → lookable t edition literal table body field ≡ x → RefusedIs t edition literal table body field r
    go (Err q) i =
        let is : q ≡ r = cc (refused_early t edition literal table body field q i).0 in
        let early : UpToRoom q = rw i at (lookable_early t edition literal table body field) in
        up_to-room (subst UpToRoom is early) (refused_early t edition literal table body field q i).1
    go (Ok f) i =
        let (short, found, room) = lookable_parts t edition literal table body field f i in
        let p = sought_placeable t literal table body f (record { bytes = c; short = short }) found in
        after_room f i (refused_after literal field f p room r (rw i at e)) (refused_zero t edition literal table body field f r i e)

-- ---- accepted

pub accepted_only_so : AcceptedOnlySo
unfolding look_up_buffer looked_buffer
accepted_only_so t edition literal table body field a c e =
    let (f, is, last) = accepted_parts t edition literal table body field a e in
    let (short, found, room) = lookable_parts t edition literal table body field f is in
    let p = sought_placeable t literal table body f (record { bytes = c; short = short }) found in
    (f, found, accepted_after literal field f p room a last, rw e)

pub sought_states : SoughtStates
sought_states t literal table body f e =
    let p = sought_parts t literal table body f e in
    (p.fields, p.is_front, p.rows, p.nulls)
