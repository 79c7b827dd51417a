-- The halving, by the code's steps: what is left in doubt gives the whole.
use Prim.Native.Nat.{ℕ, zero, suc, ◌+◌, ◌-◌, ◌/◌, ◌≤◌, ◌<◌}
use mathlib.Core.Path.{◌≡◌, refl, ◌∙◌}
use mathlib.Core.Bool.{true, false, cond}
use mathlib.Core.List.{List}
use native.Mathlib.Omega.{arith}
use lib.ListN.{take, drop, get_or}
use borrow.Author.Tests.{ne_eqb}
use Rattle.numbers.specs.Meaning.{four_bytes}
use Rattle.refusal.specs.declared.Refusal.{Refusal}
use Rattle.std.specs.Prelude.{Result, Err, Ok}
use Rattle.refusal.specs.Reading.{and_then}
use Rattle.stored_value.specs.Meaning.{less}
use Rattle.lookup.specs.declared.Listing.{Listing}
use Rattle.lookup.specs.declared.Halving.{Halving}
use Rattle.lookup.specs.Reading.{entry_read, entry_for, halving}
use Rattle.lookup.specs.Promises.{ListedAt, HalvedIs}

-- `many` blocks from `low` on are in doubt, and as many steps are left as could be needed
pub record Halves (t : ℕ) (literal table s : List ℕ) (blocks low many at compared : ℕ) : Type 0 where
  pub inside : low + many ≤ blocks
  pub fewer : many + compared ≤ blocks
  pub small : at < four_bytes
  pub whole : halving t literal table s blocks 0 blocks 0 0 ≡ halving t literal table s (blocks - compared) low many at compared

-- nothing is left in doubt, however many steps are
none_left : (t : ℕ) (literal table s : List ℕ) (steps low at compared : ℕ)
    → halving t literal table s steps low 0 at compared ≡ Ok (record { below = low; at = at; compared = compared })
unfolding halving
none_left t literal table s zero low at compared = refl
none_left t literal table s (suc steps) low at compared = refl

module _ {t : ℕ} {literal table s : List ℕ} {blocks low many at compared : ℕ} (st : Halves t literal table s blocks low many at compared) where
  pub halves_done : many ≤ 0 → HalvedIs t literal table s blocks (Ok (record { below = low; offset = at; compared = compared }))
  halves_done h =
      let z : many ≡ 0 = omega arith in
      (rw z at st.whole ∙ none_left t literal table s (blocks - compared) low at compared, omega (arith, st.fewer), st.small)

  module _ (h : 0 < many) where
    turn : halving t literal table s blocks 0 blocks 0 0 ≡ and_then (entry_read t (drop (get_or table (low + many / 2) 0) s)) (λ d.
        cond (less t literal d.first)
        (halving t literal table s (blocks - (compared + 1)) low (many / 2) at (compared + 1))
        (halving t literal table s (blocks - (compared + 1)) (low + many / 2 + 1) (many - many / 2 - 1) d.at (compared + 1)))
    unfolding halving entry_for
    turn =
        let m : blocks - compared ≡ suc (blocks - (compared + 1)) = omega (arith, st.fewer) in
        rw m at st.whole ∙ rw (ne_eqb many 0 (λ q. omega arith))

    module _ {x : Result Listing Refusal} (w : ListedAt t s (get_or table (low + many / 2) 0) x) where
      pub halves_refused : {r : Refusal} → x ≡ Err r → HalvedIs t literal table s blocks (Err r)
      unfolding and_then
      halves_refused {r} e =
          let i : entry_read t (drop (get_or table (low + many / 2) 0) s) ≡ Err r = rw e at w in
          turn ∙ rw i

      module _ {d : Listing} (g : x ≡ Ok d) where
        read : ListedAt t s (get_or table (low + many / 2) 0) (Ok d)
        read = rw g at w

        abbrev p : ℕ
        p = get_or table (low + many / 2) 0

        pub halves_below : less t literal (take (d.end.0 - p) (drop p s)) ≡ true → Halves t literal table s blocks low (many / 2) at (compared + 1)
        unfolding and_then
        halves_below l =
            record { inside = omega (arith, st.inside); fewer = omega (arith, st.fewer); small = st.small; whole = turn ∙ rw (read.0, l) }

        pub halves_above : less t literal (take (d.end.0 - p) (drop p s)) ≡ false
            → Halves t literal table s blocks (low + many / 2 + 1) (many - many / 2 - 1) d.offset (compared + 1)
        unfolding and_then
        halves_above l =
            record { inside = omega (arith, st.inside); fewer = omega (arith, st.fewer); small = read.3; whole = turn ∙ rw (read.0, l) }
