-- A halving compares few values: with fewer than 2 ^ k blocks in doubt at most k. And the number k that is claimed is there.
use Prim.Native.Nat.{ℕ, zero, suc, ◌+◌, ◌-◌, ◌*◌, ◌/◌, ◌^◌, ◌≤◌, ◌<◌}
use mathlib.Core.Path.{◌≡◌, refl, ap}
use mathlib.Core.Bool.{Bool, true, false, cond}
use mathlib.Core.List.{List}
use native.Mathlib.Nat.{pow-suc}
use native.Mathlib.Numerals.{add-one}
use native.Mathlib.Decide.{dec_lt}
use native.Mathlib.Omega.{arith}
use borrow.Author.Tests.{eqb-true, eqb-false}
use lib.Dec.{eqb}
use Rattle.refusal.specs.declared.Refusal.{Refusal}
use Rattle.std.specs.Prelude.{Result, Ok}
use Rattle.refusal.specs.Reading.{and_then}
use Rattle.refusal.proofs.Laws.{ok_same, then_ok}
use Rattle.stored_value.specs.Meaning.{less}
use Rattle.lookup.specs.Reading.{EntryRead, entry_for, Halved, halving}
use Rattle.lookup.specs.Claims.{FloorLog2}

-- of those in doubt at most half stay so
half_left : (k many : ℕ) → (many ≡ 0 → ⊥) → many < 2 ^ k → (j : ℕ) × (k ≡ j + 1) × (many / 2 < 2 ^ j) × (many - many / 2 - 1 < 2 ^ j)
half_left zero many some l = absurd (some (omega arith))
half_left (suc j) many some l =
    let g = rw pow-suc at l in
    (j, omega arith, omega arith, omega arith)

module _ (t : ℕ) (literal table body : List ℕ) where
  no_more : (k low at compared : ℕ) (h : Halved) → ◌≡◌ {A = Result Halved Refusal} (Ok (record { below = low; at = at; compared = compared })) (Ok h)
      → h.compared ≤ compared + k
  no_more k low at compared h e =
      let i : compared ≡ h.compared = ap (λ (x : Halved). x.compared) (ok_same _ h e) in
      omega arith

  pub halving_few : (k steps low many at compared : ℕ) (h : Halved) → many < 2 ^ k → halving t literal table body steps low many at compared ≡ Ok h
      → h.compared ≤ compared + k
  unfolding halving
  halving_few k zero low many at compared h l e = no_more k low at compared h e
  halving_few k (suc steps) low many at compared h l e =
      go (eqb many 0) refl e (λ j low many at. halving_few j steps low many at (compared + 1) h)
    where
      More : ℕ → Type 0
      More j =
          (low many at : ℕ) → many < 2 ^ j → halving t literal table body steps low many at (compared + 1) ≡ Ok h → h.compared ≤ compared + 1 + j

      either : (j : ℕ) → More j → many / 2 < 2 ^ j → many - many / 2 - 1 < 2 ^ j → (d : EntryRead) (b : Bool)
          → cond b (halving t literal table body steps low (many / 2) at (compared + 1))
          (halving t literal table body steps (low + many / 2 + 1) (many - many / 2 - 1) d.at (compared + 1)) ≡ Ok h → h.compared ≤ compared + 1 + j
      either j more l r d true e = more low (many / 2) at l e
      either j more l r d false e = more (low + many / 2 + 1) (many - many / 2 - 1) d.at r e

      go : (b : Bool) → eqb many 0 ≡ b
          → cond b (Ok (record { below = low; at = at; compared = compared })) (and_then (entry_for t table body (low + many / 2)) (λ d.
          cond (less t literal d.first)
          (halving t literal table body steps low (many / 2) at (compared + 1))
          (halving t literal table body steps (low + many / 2 + 1) (many - many / 2 - 1) d.at (compared + 1)))) ≡ Ok h
          → ((j : ℕ) → More j) → h.compared ≤ compared + k
      go true none e more = no_more k low at compared h e
      go false some e more =
          let (j, is, lower, upper) = half_left k many (eqb-false many 0 some) l in
          let (d, found, rest) = then_ok (entry_for t table body (low + many / 2)) _ h e in
          omega (arith, either j (more j) lower upper d (less t literal d.first) rest)

-- ---- no step goes uncounted

some_power : (k : ℕ) → 1 ≤ 2 ^ k
some_power zero = omega arith
some_power (suc k) = rw pow-suc (omega (arith, some_power k))

-- of those in doubt at least so many stay so, whichever part it is
half_stays : (k many : ℕ) → (many ≡ 0 → ⊥) → 2 ^ k ≤ many + 1 → (j : ℕ) × (k ≤ j + 1) × (2 ^ j ≤ many / 2 + 1) × (2 ^ j ≤ many - many / 2 - 1 + 1)
half_stays zero many some l = (0, omega arith, omega arith, omega arith)
half_stays (suc j) many some l =
    let g = rw pow-suc at l in
    (j, omega arith, omega arith, omega (arith, some))

none_stays : (k many : ℕ) → many ≡ 0 → 2 ^ k ≤ many + 1 → k ≡ 0
none_stays zero many z l = refl
none_stays (suc j) many z l = absurd (let g = rw pow-suc at l in omega (arith, some_power j))

module _ (t : ℕ) (literal table body : List ℕ) where
  as_counted : (k low at compared : ℕ) (h : Halved) → k ≡ 0 → ◌≡◌ {A = Result Halved Refusal} (Ok (record { below = low; at = at; compared = compared })) (Ok h)
      → compared + k ≤ h.compared
  as_counted k low at compared h z e =
      let i : compared ≡ h.compared = ap (λ (x : Halved). x.compared) (ok_same _ h e) in
      omega arith

  pub halving-many : (k steps low many at compared : ℕ) (h : Halved) → 2 ^ k ≤ many + 1 → many ≤ steps → halving t literal table body steps low many at compared ≡ Ok h
      → compared + k ≤ h.compared
  unfolding halving
  halving-many k zero low many at compared h l fits e = as_counted k low at compared h (none_stays k many (omega arith) l) e
  halving-many k (suc steps) low many at compared h l fits e =
      go (eqb many 0) refl e (λ j low many at. halving-many j steps low many at (compared + 1) h)
    where
      More : ℕ → Type 0
      More j =
          (low many at : ℕ) → 2 ^ j ≤ many + 1 → many ≤ steps → halving t literal table body steps low many at (compared + 1) ≡ Ok h
          → compared + 1 + j ≤ h.compared

      either : (j : ℕ) → More j → (many ≡ 0 → ⊥) → 2 ^ j ≤ many / 2 + 1 → 2 ^ j ≤ many - many / 2 - 1 + 1 → (d : EntryRead) (b : Bool)
          → cond b (halving t literal table body steps low (many / 2) at (compared + 1))
          (halving t literal table body steps (low + many / 2 + 1) (many - many / 2 - 1) d.at (compared + 1)) ≡ Ok h → compared + 1 + j ≤ h.compared
      either j more some l r d true e = more low (many / 2) at l (omega (arith, some, fits)) e
      either j more some l r d false e = more (low + many / 2 + 1) (many - many / 2 - 1) d.at r (omega (arith, some, fits)) e

      go : (b : Bool) → eqb many 0 ≡ b
          → cond b (Ok (record { below = low; at = at; compared = compared })) (and_then (entry_for t table body (low + many / 2)) (λ d.
          cond (less t literal d.first)
          (halving t literal table body steps low (many / 2) at (compared + 1))
          (halving t literal table body steps (low + many / 2 + 1) (many - many / 2 - 1) d.at (compared + 1)))) ≡ Ok h
          → ((j : ℕ) → More j) → compared + k ≤ h.compared
      go true none e more = as_counted k low at compared h (none_stays k many (eqb-true many 0 none) l) e
      go false some e more =
          let n = eqb-false many 0 some in
          let (j, is, lower, upper) = half_stays k many n l in
          let (d, found, rest) = then_ok (entry_for t table body (low + many / 2)) _ h e in
          omega (arith, either j (more j) n lower upper d (less t literal d.first) rest)

-- ---- floor(log2 b)

twice_more : (k : ℕ) → 2 ^ (k + 1) ≡ 2 ^ k * 2
twice_more k = rw add-one (pow-suc 2 k)

pub floor_log2 : (b : ℕ) → 1 ≤ b → (k : ℕ) × FloorLog2 b k
floor_log2 zero l = absurd (omega arith)
floor_log2 (suc zero) l = (0, (omega arith, omega arith))
floor_log2 (suc (suc b)) l = go (floor_log2 (suc b) (omega arith))
  where
    go : (k : ℕ) × FloorLog2 (suc b) k → (k : ℕ) × FloorLog2 (suc (suc b)) k
    go (k, (lower, upper)) = by (dec_lt (suc (suc b)) (2 ^ (k + 1)))
      where
        by : Dec (suc (suc b) < 2 ^ (k + 1)) → (k : ℕ) × FloorLog2 (suc (suc b)) k
        by (yes h) = (k, (omega arith, h))
        by (no h) =
            let e : 2 ^ (k + 1 + 1) ≡ 2 ^ (k + 1) * 2 = twice_more (k + 1) in
            (k + 1, (omega arith, rw e (omega arith)))
