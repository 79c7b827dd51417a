-- The search for a bin by steps.
use Prim.Native.Nat.{ℕ, zero, suc, ◌+◌, ◌-◌, ◌<◌, ◌≤◌}
use mathlib.Core.Path.{◌≡◌, refl, sym, ap, ◌∙◌}
use mathlib.Core.Logic.{◌≢◌}
use mathlib.Core.List.{List, ◌∷◌}
use native.Mathlib.Omega.{arith}
use lib.ListN.{length, take, drop, length-drop}
use lib.Seq.{drop-drop}
use Rattle.std.proofs.Math.Seq.{take-length}
use Rattle.numbers.specs.Meaning.{be_at, big}
use Rattle.numbers.proofs.Laws.{number_at-drop}
use Rattle.refusal.specs.declared.Refusal.{Refusal}
use Rattle.refusal.specs.declared.Refusal.TheVariants.{NoBin}
use Rattle.std.specs.Prelude.{Option, Some, None, Result, Err, Ok}
use Rattle.std.specs.Option.{ok_or}
use Rattle.refusal.specs.Reading.{and_then}
use Rattle.refusal.proofs.Laws.{then_same}
use Rattle.deletion_file.specs.declared.bins.Bin as code
use Rattle.deletion_file.specs.Promises.{part, bin_from, BinFits, plain_of, StandsIn, BinAt}
use Rattle.deletion_file.specs.Layout.{Bin}
use Rattle.deletion_file.specs.Reading.{Next, over, bin, step_to_next_bin, bins_by, bins, bin_numbered, bin_in}

-- ---- one stage after the other

pub then_then : {A B C : Type 0} (o : Result A Refusal) (f : A → Result B Refusal) (g : B → Result C Refusal) → and_then (and_then o f) g ≡ and_then o (λ a. and_then (f a) g)
unfolding and_then
then_then (Err r) f g = refl
then_then (Ok a) f g = refl

-- what was found, as the reading has it
abbrev pub plain_found : Option code.Bin → Option Bin
plain_found None = None
plain_found (Some x) = Some (plain_of x)

-- what stands behind n bytes
pub rest_of : {A : Type 0} (n : ℕ) (s : List A) → take (length s - n) (drop n s) ≡ drop n s
rest_of n s = rw (sym (length-drop n s)) (take-length (drop n s))

-- the number that stands behind n bytes
pub number_behind : (n : ℕ) (s : List ℕ) → be_at 4 (drop n s) 0 ≡ be_at 4 s n
number_behind n s = number_at-drop big 4 s n

bin_same : {s t : List ℕ} {m n : ℕ} → s ≡ t → m ≡ n → ◌≡◌ {A = Bin} (record { bytes = s; sum = m }) (record { bytes = t; sum = n })
bin_same e f = rw (e, f)

-- what is left behind m bytes reaches to the end of the file
pub left_to-end : (file : List ℕ) (m : ℕ) {left : List ℕ} → left ≡ drop m file → m ≤ length file → left ≡ drop (length file - length left) file
left_to-end file m {left} is h =
    let e : length file - length left ≡ m = rw is (simp length-drop (omega arith)) in
    rw e is

-- ---- the place of a bin, where k bytes of the file were passed

module _ (file bytes : List ℕ) (k : ℕ) {left behind : List ℕ} (is : left ≡ drop k file) (rest : behind ≡ drop (4 + length bytes) left) where
  behind-in : behind ≡ drop (k + (4 + length bytes)) file
  behind-in = rest ∙ rw (is, drop-drop (4 + length bytes) k file)

  pub left_behind : drop 4 behind ≡ drop (k + (4 + length bytes) + 4) file
  left_behind = rw (behind-in, drop-drop 4 (k + (4 + length bytes)) file)

  module _ (own : bytes ≡ take (length bytes) (drop 4 left)) (fits : BinFits 4 (4 + length bytes) (length left)) (all : k + length left ≡ length file) where
    bytes-in : bytes ≡ part (k + 4) (k + 4 + length bytes) file
    bytes-in =
        let e : k + 4 + length bytes - (k + 4) ≡ length bytes = omega arith in
        own ∙ rw (is, drop-drop 4 k file, e)

    sum-in : be_at 4 behind 0 ≡ be_at 4 file (k + 4 + length bytes)
    sum-in =
        let e : k + (4 + length bytes) ≡ k + 4 + length bytes = omega arith in
        ap (λ (s : List ℕ). be_at 4 s 0) behind-in ∙ number_behind (k + (4 + length bytes)) file ∙ rw e

    pub stands_there : (record { bytes = bytes; sum = be_at 4 behind 0 } ≡ bin_from (k + 4) (k + 4 + length bytes) file)
        × BinFits (k + 4) (k + 4 + length bytes) (length file)
    stands_there = (bin_same bytes-in sum-in, record { magic_fits = omega arith; sum_fits = omega (arith, fits.sum_fits) })

-- what was found stands in the file
abbrev pub FoundIn : List ℕ → Option code.Bin → Type 0
FoundIn file None = Unit
FoundIn file (Some x) = StandsIn file x

-- ---- the search: what the bins that are left say of bin b, where `passed` were passed and gave `found`

-- the bin sought is among those passed, or it is none of them
abbrev Known : ℕ → ℕ → Option Bin → Type 0
Known b passed None = passed ≤ b
Known b passed (Some x) = b < passed

abbrev sought : ℕ → ℕ → Option Bin → List Bin → Result Bin Refusal
sought b passed None more = bin_numbered (b - passed) more
sought b passed (Some x) more = Ok x

-- the loop's state where these bytes are left, and steps enough
pub record WalkState (b : ℕ) (whole : Result Bin Refusal) (left : List ℕ) (passed : ℕ) (found : Option Bin) : Type 0 where
  pub steps : ℕ
  pub enough : length left < steps
  pub so : whole ≡ and_then (bins steps left) (sought b passed found)
  pub known : Known b passed found

pub walk_first : (s : List ℕ) (b : ℕ) → 1 ≤ length s → WalkState b (bin_in b s) (drop 1 s) 0 None
unfolding bin_in
walk_first s b h =
    let e : b - 0 ≡ b = omega arith in
    record { steps = length s; enough = simp length-drop (omega arith); so = then_same (bins (length s) (drop 1 s)) _ _ (λ more. rw e); known = omega arith }

-- what is found where no bin is left
abbrev pub in_the_end : Option Bin → Result Bin Refusal
in_the_end None = Err NoBin
in_the_end (Some x) = Ok x

pub found_there : (file : List ℕ) {whole : Result Bin Refusal} (found : Option code.Bin) → whole ≡ in_the_end (plain_found found) → FoundIn file found
    → BinAt whole file (ok_or found NoBin)
found_there file None e w = e
found_there file (Some x) e w = (e, w)

module _ {b : ℕ} {whole : Result Bin Refusal} {left : List ℕ} {passed : ℕ} where
  -- a step, and then the others
  turn : {found : Option Bin} (w : WalkState b whole left passed found) {o : Result Next Refusal} → step_to_next_bin left ≡ o
      → (m : ℕ) × (w.steps ≡ suc m) × (whole ≡ and_then (and_then o (bins_by (bins m))) (sought b passed found))
  unfolding bins
  turn {found} w {o} e = go w.steps w.enough w.so
    where
      go : (n : ℕ) → length left < n → whole ≡ and_then (bins n left) (sought b passed found)
          → (m : ℕ) × (n ≡ suc m) × (whole ≡ and_then (and_then o (bins_by (bins m))) (sought b passed found))
      go zero l x = absurd (omega arith)
      go (suc m) l x = (m, refl, x ∙ rw e)

  pub walk_refused : {found : Option Bin} {r : Refusal} → WalkState b whole left passed found → step_to_next_bin left ≡ Err r → whole ≡ Err r
  unfolding and_then
  walk_refused w e = (turn w e).2

  pub walk_over : (found : Option Bin) → WalkState b whole left passed found → step_to_next_bin left ≡ Ok over → whole ≡ in_the_end found
  unfolding and_then bins_by bin_numbered
  walk_over None w e = (turn w e).2
  walk_over (Some x) w e = (turn w e).2

  module _ {x : Bin} {rest : List ℕ} (e : step_to_next_bin left ≡ Ok (bin x rest)) (l : length rest < length left) where
    step : {found : Option Bin} → WalkState b whole left passed found → (found' : Option Bin)
        → ((more : List Bin) → sought b passed found (x ∷ more) ≡ sought b (passed + 1) found' more)
        → Known b (passed + 1) found' → WalkState b whole rest (passed + 1) found'
    unfolding and_then bins_by
    step w found' g k =
        let t = turn w e in
        record {
          steps = t.0;
          enough = omega (arith, w.enough, t.1, l);
          so = t.2 ∙ then_then (bins t.0 rest) _ _ ∙ then_same (bins t.0 rest) _ _ g;
          known = k;
        }

    pub walk_this : (found : Option Bin) → WalkState b whole left passed found → passed ≡ b → WalkState b whole rest (passed + 1) (Some x)
    unfolding bin_numbered
    walk_this None w p =
        let z : b - passed ≡ 0 = omega arith in
        step w (Some x) (λ more. rw z) (omega arith)
    walk_this (Some y) w p = absurd (omega (arith, w.known))

    pub walk_other : (found : Option Bin) → WalkState b whole left passed found → passed ≢ b → WalkState b whole rest (passed + 1) found
    unfolding bin_numbered
    walk_other None w n =
        let l : passed < b = omega (arith, w.known) in
        let z : b - passed ≡ suc (b - (passed + 1)) = omega arith in
        step w None (λ more. rw z) (omega arith)
    walk_other (Some y) w n = step w (Some y) (λ more. refl) (omega (arith, w.known))
