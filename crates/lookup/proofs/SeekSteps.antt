-- What comes before the field's ROOM, by the code's steps; then the whole lookup.
use Prim.Native.Nat.{ℕ, ◌+◌, ◌-◌, ◌≤◌, ◌<◌}
use mathlib.Core.Path.{◌≡◌, refl, sym, ap, ◌∙◌}
use mathlib.Core.Bool.{Bool, true, false, cond}
use mathlib.Core.List.{List}
use native.Mathlib.Omega.{arith}
use lib.Dec.{eqb, leb}
use lib.ListN.{length, drop}
use lib.Seq.{drop-drop}
use borrow.Author.Tests.{le-leb, lt-leb}
use Rattle.numbers.specs.Meaning.{position}
use Rattle.refusal.specs.declared.Refusal.{Refusal}
use Rattle.refusal.specs.declared.Refusal.TheVariants.{Room}
use Rattle.std.specs.Prelude.{Result, Err, Ok}
use Rattle.refusal.specs.Reading.{check, and_then, numbers_of, fault_in}
use Rattle.refusal.proofs.Laws.{not-ok, ok_same}
use Rattle.subtract.specs.Meaning.{keeps}
use Rattle.row_field.specs.Meaning.{size}
use Rattle.dictionary.specs.declared.Cursor.{Cursor}
use Rattle.dictionary.specs.declared.Version.{Version}
use Rattle.bitmap_index.specs.Meaning.{equal, question}
use Rattle.bitmap_index.specs.Reading.{well_formed, answered_by, ask_out, ask_fault}
use Rattle.bitmap_index.specs.Promises.{Asked}
use Rattle.bitmap_index.proofs.Asking.{ask_numbers_lem, ask_fault_lem}
use Rattle.opening.specs.declared.Fields.{Fields}
use Rattle.opening.specs.Reading.{front}
use Rattle.opening.specs.Promises.{front_found}
use Rattle.lookup.specs.declared.Base.{Base}
use Rattle.lookup.specs.declared.Halving.{Halving}
use Rattle.lookup.specs.declared.Found.{Found}
use Rattle.lookup.specs.declared.Located.{Located}
use Rattle.lookup.specs.declared.Accepted.{Accepted}
use Rattle.lookup.specs.declared.LookedUp.{LookedUp}
use Rattle.lookup.specs.Reading.{Looked, halving, searched, no_block, sought, lookable, looked_up, refused_buffer, looked_buffer, look_up_buffer, answer_of, compared_of}
use Rattle.lookup.specs.Promises.{BaseIs, HalvedIs, searched_of, BlockAt, SoughtIs, accepted_of, AnswersIn, LooksUp, LookUpPromise}

-- what follows something that was read
then_is : {A B : Type 0} (o : Result A Refusal) (a : A) (k : A → Result B Refusal) → o ≡ Ok a → and_then o k ≡ k a
unfolding and_then
then_is o a k e = rw e

-- ---- what comes before ROOM

-- g are the fields that are read; nothing else is asked of them
module _ (t : ℕ) (literal table s : List ℕ) (g : Fields) (is_front : front s ≡ Ok (front_found s g)) where
  module _ (l : g.blocks ≤ length table) where
    pub seek_base : {b : Result Base Refusal} → BaseIs t table s g b → {r : Refusal} → b ≡ Err r → SoughtIs t literal table s (Err r)
    unfolding sought and_then check
    seek_base v {r} j =
        let k : BaseIs t table s g (Err r) = rw j at v in
        rw (is_front, le-leb g.blocks (length table) l) (k _)

    module _ {b : Result Base Refusal} (v : BaseIs t table s g b) {base region : ℕ} (j : b ≡ Ok (record { base = position base; region = position region })) where
      is_base : BaseIs t table s g (Ok (record { base = position base; region = position region }))
      is_base = rw j at v

      based : sought t literal table s ≡ and_then (halving t literal table s g.blocks 0 g.blocks 0 0) (λ h.
          and_then (cond (eqb h.below 0) (Ok no_block) (searched t literal (drop h.at (drop base s)))) (λ b.
          Ok (record { rows = g.rows; nulls = (front_found s g).nulls; region = drop region s; directory = h; block = b })))
      unfolding sought and_then check
      based =
          let z : base + (region - base) ≡ region = omega (arith, is_base.1) in
          let d : drop (region - base) (drop base s) ≡ drop region s = drop-drop (region - base) base s ∙ rw z in
          rw (is_front, le-leb g.blocks (length table) l) (is_base.0 _ ∙ rw d)

      pub seek_halved : {h : Result Halving Refusal} → HalvedIs t literal table s g.blocks h → {r : Refusal} → h ≡ Err r → SoughtIs t literal table s (Err r)
      unfolding and_then
      seek_halved u {r} k =
          let i : HalvedIs t literal table s g.blocks (Err r) = rw k at u in
          based ∙ rw i

      module _ {h : Result Halving Refusal} (u : HalvedIs t literal table s g.blocks h) {below offset compared : ℕ} (k : h ≡ Ok (record { below = below; offset = offset; compared = compared })) where
        is_halved : HalvedIs t literal table s g.blocks (Ok (record { below = below; offset = offset; compared = compared }))
        is_halved = rw k at u

        halved : sought t literal table s ≡ and_then (cond (eqb below 0) (Ok no_block) (searched t literal (drop offset (drop base s)))) (λ b.
            Ok (record {
              rows = g.rows;
              nulls = (front_found s g).nulls;
              region = drop region s;
              directory = record { below = below; at = offset; compared = compared };
              block = b;
            }))
        unfolding and_then
        halved = based ∙ rw is_halved.0

        pub seek_searched : {f : Result Found Refusal} → BlockAt t literal s base below offset f → {r : Refusal} → f ≡ Err r → SoughtIs t literal table s (Err r)
        unfolding and_then
        seek_searched c {r} m =
            let i : BlockAt t literal s base below offset (Err r) = rw m at c in
            halved ∙ rw i

        pub seek_found : {y : Result Found Refusal} (c : BlockAt t literal s base below offset y) {f : Found} → y ≡ Ok f → {at : Cursor} {version : Version} {values : ℕ}
            → SoughtIs t literal table s (Ok (record {
              summary = record { rows = g.rows; values = values; version = version; null = g.null; first = at; region = position region };
              found = f;
              compared = compared + f.compared;
            }))
        unfolding and_then
        seek_found c {f} m =
            let i : BlockAt t literal s base below offset (Ok f) = rw m at c in (
              record {
                rows = g.rows;
                nulls = (front_found s g).nulls;
                region = drop region s;
                directory = record { below = below; at = offset; compared = compared };
                block = searched_of i.0 literal f;
              },
              halved ∙ then_is _ (searched_of i.0 literal f) _ i.1,
              record { rows = refl; nulls = refl; region = refl; hit = refl; number = refl; compared = refl; inside = is_base.2 },
            )

-- ---- the whole

-- the reading's refusal is the code's
refused_alike : (o : Result Looked Refusal) (why : Refusal) → Err why ≡ and_then o (λ a. Ok (accepted_of a)) → o ≡ Err why
unfolding and_then
refused_alike (Err r) why e = let i : why ≡ r = cc in ap Err (sym i)
refused_alike (Ok a) why e = absurd (not-ok e)

module _ (t edition : ℕ) (literal table s f : List ℕ) where
  module _ {p : Located} (q : Asked t (question edition equal) literal s) (found : SoughtIs t literal table s (Ok p)) where
    pub look_answers : size p.summary.rows ≤ length f → {after : List ℕ} {r : Result Accepted Refusal} → AnswersIn s p f after r → LooksUp t edition literal table s f after r
    unfolding lookable looked_up look_up_buffer refused_buffer check and_then
    look_answers h a =
        let l : size found.0.rows ≤ length f = rw found.2.rows h in
        let i : lookable t edition literal table s f ≡ Ok found.0 = rw (q.1, found.1, le-leb (size found.0.rows) (length f) l) in
        let c = a literal found.0 found.2 in
        record { answer = rw i c.answer; buffer = rw i c.buffer }

  pub look_refused : {after : List ℕ} {why : Refusal} → LooksUp t edition literal table s f after (Err why)
      → LookUpPromise t edition literal table s f after (record { answer = Err why; compared = 0 })
  unfolding answer_of compared_of answered_by ask_out ask_fault numbers_of fault_in
  look_refused {after} {why} w =
      let i = refused_alike (looked_up t edition literal table s f) why w.answer in
      record { answer = rw i refl; compared = rw i refl; buffer = w.buffer; numbers = rw i refl; fault = rw i refl }
