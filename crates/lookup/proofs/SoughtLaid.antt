-- What comes before ROOM, on a body that is laid out and with the table that Open filled for it: null's entry, the region, and the literal's entry.
use Prim.Native.Nat.{ℕ, ◌-◌, ◌≤◌, ◌<◌}
use native.Mathlib.Omega.{arith}
use mathlib.Core.Path.{◌≡◌, refl, ap, ◌∙◌}
use mathlib.Core.List.{List, [], ◌∷◌, ◌++◌}
use lib.ListN.{length, length-append}
use lib.Seq.{drop_at}
use borrow.Author.Tests.{le-leb, ne_eqb}
use Rattle.numbers.specs.Meaning.{big, joined, sign_bit}
use Rattle.numbers.proofs.Laws.{number_laid}
use Rattle.refusal.specs.Meaning.{limit}
use Rattle.refusal.specs.declared.Refusal.TheVariants.{Short}
use Rattle.std.specs.Prelude.{Err, Ok}
use Rattle.refusal.specs.Reading.{check, and_then}
use Rattle.stored_value.specs.Meaning.{null}
use Rattle.dictionary.specs.Layout.{Entry, Patterns, Rises, NoneEmpty, blocks, body2}
use Rattle.opening.specs.Layout.{before_directory, entry_starts}
use Rattle.opening.specs.Reading.{front}
use Rattle.opening.proofs.FrontLaid.{behind_directory as tailOf, front_laid, starts_length}
use Rattle.lookup.specs.Reading.{behind_directory, Halved, Searched, Sought, sought}
use Rattle.lookup.proofs.BlockParts.{last_block}
use Rattle.lookup.proofs.TableStarts.{LeadsTo, blocks-short, table_leads}
use Rattle.lookup.proofs.HalvingLaid.{halving_laid}
use Rattle.lookup.proofs.BlockLaid.{equals, ChoosesLiteral, block_laid}

-- behind the last entry that the table leads to the directory ends
behind_laid : (t n : ℕ) (table body : List ℕ) (nulls : List Entry) (bs : List (List Entry)) (region : List ℕ) → LeadsTo t table body bs (tailOf bs region)
    → behind_directory t table body (front_laid n nulls bs region) ≡ Ok (tailOf bs region)
unfolding behind_directory and_then
behind_laid t n table body nulls [] region leads = refl
behind_laid t n table body nulls (b ∷ bs) region leads =
    let (xs, last, e) = last_block (b ∷ bs) (omega arith) in
    let m : length (b ∷ bs) - 1 ≡ length xs = omega (arith, ap (λ (zs : List (List Entry)). length zs) e, length-append xs (last ∷ [])) in
    rw (ne_eqb (length (b ∷ bs)) 0 (omega arith), m, leads xs last [] e)

-- what is found
abbrev pub found_inside : ℕ → List Entry → List ℕ → Halved → Searched → Sought
found_inside n nulls region h b = record { rows = n; nulls = nulls; region = region; directory = h; block = b }

module _ (t edition n : ℕ) (literal : List ℕ) (ls : List (List ℕ)) (chooses : ChoosesLiteral edition literal ls)
    (nulls : List Entry) (bs : List (List Entry)) (region more : List ℕ) where
  pub sought_laid : front (body2 n nulls bs region) ≡ Ok (front_laid n nulls bs region) → NoneEmpty bs → Rises t null (joined bs) → Patterns (joined bs)
      → length (joined bs) < sign_bit → length (body2 n nulls bs region) ≤ limit
      → (h : Halved) × (b : Searched) × (sought t literal (entry_starts n nulls bs ++ more) (body2 n nulls bs region) ≡ Ok (found_inside n nulls region h b))
      × (b.hit ≡ equals edition ls (joined bs))
  unfolding sought check and_then
  sought_laid is ne r p few short =
      let body : List ℕ = body2 n nulls bs region in
      let words : List ℕ = entry_starts n nulls bs ++ more in
      let base : List ℕ = blocks bs ++ region in
      let leads = table_leads t n nulls bs region more ne r short in
      let room : length bs ≤ length words = omega (arith, starts_length (length (before_directory n nulls bs)) 0 bs, length-append (entry_starts n nulls bs) more) in
      let inside : length (blocks bs) ≤ length base = omega (arith, length-append (blocks bs) region) in
      let fits : length (blocks bs) ≤ limit = omega (arith, blocks-short t n nulls bs region more) in
      let (h, halved, at) = halving_laid t literal words body bs (tailOf bs region) leads in
      let (b, searched, hit) = block_laid t edition literal ls chooses bs region h at ne r p few in (
        h,
        b,
        rw (is, le-leb (length bs) (length words) room, behind_laid t n words body nulls bs region leads)
            (number_laid big 4 (Err Short) (length (blocks bs)) base _ (omega arith)
            ∙ rw (le-leb (length (blocks bs)) (length base) inside, halved, searched, drop_at (blocks bs) region (length (blocks bs)) refl)),
        hit,
      )
