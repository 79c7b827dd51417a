-- What a turn of `enter` sees: the table finds what is listed among the literals that it passed; those that are left stand at `ps`.
use Prim.Native.Nat.{ℕ, ◌+◌, ◌-◌, ◌<◌, ◌≤◌}
use mathlib.Core.Path.{◌≡◌, refl, sym, ap, ◌∙◌}
use mathlib.Core.Bool.{Bool, true, false, ◌||◌, or-false}
use mathlib.Core.List.{List, [], ◌∷◌, ◌++◌}
use native.Mathlib.Omega.{arith}
use lib.ListN.{length, take, drop, length-append}
use Rattle.numbers.specs.Meaning.{same, four_bytes}
use Rattle.numbers.proofs.SameBytes.{same→eq}
use Rattle.std.specs.Prelude.{Ok}
use Rattle.hash_table.specs.Promises.{slot, among, Holds, Fits, Inserts}
use Rattle.hash_table.proofs.Chaining.{among-more, insert_old, insert_new}
use Rattle.stored_value.specs.declared.Place.{Place}
use Rattle.stored_value.specs.Meaning.{listed, most_literals}
use Rattle.stored_value.specs.Places.{places}
use Rattle.stored_value.specs.Promises.{Entered}
use Rattle.stored_value.specs.Reading.{literals}
use Rattle.stored_value.proofs.Laws.{literals_few}
use Rattle.stored_value.proofs.Places.{Inside, bytes_of, few, inside}

-- ---- a value is listed exactly if it is among the literals

pub listed-among : (v : List ℕ) (ls : List (List ℕ)) → listed v ls ≡ among v ls
unfolding listed among
listed-among v [] = refl
listed-among v (l ∷ ls) = ap (λ (b : Bool). same v l || b) (listed-among v ls)

-- one that is there already, and one that is new, before others
or_kept : (a b c : Bool) → (b ≡ true → a ≡ true) → (a || c) ≡ (a || (b || c))
or_kept true b c f = refl
or_kept false true c f = absurd (let z : ◌≡◌ {A = Bool} false true = f refl in cc)
or_kept false false c f = refl

or_moved : (a b c : Bool) → ((a || b) || c) ≡ (a || (b || c))
or_moved true b c = refl
or_moved false b c = refl

-- ---- the loop's state: the n values vs of the table and the literals that are left are those of ls

pub record Entering (s table : List ℕ) (n : ℕ) (ps : List Place) (ls : List (List ℕ)) : Type 0 where
  pub inside : Inside s ps
  pub vs : List (List ℕ)
  pub holds : Holds s table vs
  pub many : length vs ≡ n
  pub fewer : n + length ps ≤ most_literals
  pub lists : (v : List ℕ) → (among v vs || among v (bytes_of s ps)) ≡ among v ls

pub entering_first : (t : ℕ) (s table : List ℕ) (ls : List (List ℕ)) → literals t most_literals [] s ≡ Ok ls → Holds s table [] → Entering s table 0 (places 0 ls) ls
unfolding among
entering_first t s table ls a h =
    let x = inside t s ls a in
    let m = literals_few t s ls a in
    record { inside = x.0; vs = []; holds = h; many = refl; fewer = omega (arith, few 0 ls); lists = λ v. ap (among v) x.1 }

pub entering_done : {s table : List ℕ} {n : ℕ} {ps : List Place} {ls : List (List ℕ)} → Entering s table n ps ls → ps ≡ [] → Entered s table ls
unfolding among
entering_done {ls = ls} st e = record {
  vs = st.vs;
  holds = st.holds;
  lists = λ v. sym (or-false (among v st.vs)) ∙ rw e at (st.lists v) ∙ sym (listed-among v ls);
}

-- the next literal stands at p
module _ {s table : List ℕ} {n : ℕ} {p : Place} {ps : List Place} {ls : List (List ℕ)} (st : Entering s table n (p ∷ ps) ls) where
  pub entering_few : n < most_literals
  entering_few = omega (arith, st.fewer)

  pub entering_fits : slot most_literals ≤ length table → length s < four_bytes → Fits s table n p.start.0 p.end.0
  entering_fits r h = record {
    vs = st.vs;
    holds = st.holds;
    many = st.many;
    room = omega (arith, entering_few);
    rising = st.inside.0;
    inside = st.inside.1;
    short = h;
    few = omega (arith, entering_few);
  }

  module _ (after : List ℕ) {there : Bool} (x : Inserts s table after n p.start.0 p.end.0 there) where
    pub entering_old : there ≡ true → Entering s after n ps ls
    unfolding among
    entering_old h =
        let w : List ℕ = take (p.end.0 - p.start.0) (drop p.start.0 s) in
        let old = insert_old p.start.0 p.end.0 x st.holds st.many h in
        let again : (v : List ℕ) → same v w ≡ true → among v st.vs ≡ true = λ v y. rw (same→eq v w y) old.0 in
        record {
          inside = st.inside.2;
          vs = st.vs;
          holds = rw old.1 st.holds;
          many = st.many;
          fewer = omega (arith, st.fewer);
          lists = λ v. or_kept (among v st.vs) (same v w) (among v (bytes_of s ps)) (again v) ∙ st.lists v;
        }

    pub entering_new : there ≡ false → Entering s after (n + 1) ps ls
    unfolding among
    entering_new h =
        let w : List ℕ = take (p.end.0 - p.start.0) (drop p.start.0 s) in
        let new = insert_new p.start.0 p.end.0 x st.holds st.many h in
        record {
          inside = st.inside.2;
          vs = st.vs ++ (w ∷ []);
          holds = new.1;
          many = length-append st.vs (w ∷ []) ∙ omega (arith, st.many);
          fewer = omega (arith, st.fewer);
          lists = λ v. ap (λ (b : Bool). b || among v (bytes_of s ps)) (among-more v w st.vs)
              ∙ or_moved (among v st.vs) (same v w) (among v (bytes_of s ps)) ∙ st.lists v;
        }
