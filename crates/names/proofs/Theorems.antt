-- The claims, proved.
use Prim.Native.Nat.{ℕ, zero, suc, ◌+◌, ◌<◌, ◌≤◌, min}
use mathlib.Core.Path.{◌≡◌, refl, sym, ap, ap₂, ◌∙◌}
use mathlib.Core.Bool.{Bool, true, false}
use mathlib.Core.List.{List, [], ◌∷◌, ◌++◌}
use mathlib.Core.Logic.{◌⊎◌, inl, inr, ⊎_elim}
use native.Mathlib.Decide.{dec_lt, ℕ_discrete}
use native.Mathlib.Omega.{arith}
use lib.ListN.{length, length-append}
use borrow.Author.Tests.{le-leb, leb-true}
use Rattle.numbers.specs.Meaning.{All, Bytes, same}
use Rattle.numbers.proofs.ByteLists.{bytes-append}
use Rattle.numbers.proofs.SameBytes.{same_refl, same→eq}
use Rattle.std.specs.Prelude.{Err, Ok}
use Rattle.refusal.proofs.Laws.{ok_same}
use Rattle.names.specs.Layout.{past_plane, Scalar, standard_of, standard, modified_of, modified, name_limit, Askable, PlainPoint, in_turn}
use Rattle.names.specs.Reading.{Spelled, standard_point, modified_point, standard_points, modified_points, told, size_of_asked_name, askable, matches}
use Rattle.names.specs.Claims.{StandardIsRead, ModifiedIsRead, ReadIsStandard, ReadIsModified, ModifiedTellsApart, StandardTellsApart, OneAsked, OneStored, PlainIsTheSame, StandardIsBytes, ModifiedIsBytes, NamedIsAskable, AskableIsTested, SizeIsTheForms, NamedIsTested, PlainIsCompared, PlainIsAskable, ImproperMatchesNothing}
use Rattle.names.proofs.Bits.{clash}
use Rattle.names.proofs.StandardForm.{one_form, four_form, standard_laid, standard_back, standard-some, standard-bytes}
use Rattle.names.proofs.ModifiedForm.{modified_laid, modified_back, modified-some, modified-bytes}
use Rattle.names.proofs.Lists.{points_laid, points_back}
use Rattle.names.proofs.Steps.{as_standard, modified-zero, modified_pair}

-- ---- the two forms

pub standard_is_read : StandardIsRead
unfolding standard_points
standard_is_read cs h =
    points_laid standard_point standard_of (λ c t k s. standard_laid c t k s) (λ c. standard-some c) cs h (length (standard cs)) (omega arith)

pub modified_is_read : ModifiedIsRead
unfolding modified_points
modified_is_read cs h =
    points_laid modified_point modified_of (λ c t k s. modified_laid c t k s) (λ c. modified-some c) cs h (length (modified cs)) (omega arith)

pub read_is_standard : ReadIsStandard
unfolding standard_points
read_is_standard s cs e = points_back standard_point standard_of (λ s k good e. standard_back k good s e) (length s) s cs e

pub read_is_modified : ReadIsModified
unfolding modified_points
read_is_modified s cs e = points_back modified_point modified_of (λ s k good e. modified_back k good s e) (length s) s cs e

pub modified_tells_apart : ModifiedTellsApart
modified_tells_apart cs ds h g e = ok_same cs ds (sym (modified_is_read cs h) ∙ ap modified_points e ∙ modified_is_read ds g)

pub standard_tells_apart : StandardTellsApart
standard_tells_apart cs ds h g e = ok_same cs ds (sym (standard_is_read cs h) ∙ ap standard_points e ∙ standard_is_read ds g)

pub one_asked : OneAsked
one_asked asked asked' stored n m =
    let e = modified_tells_apart n.points m.points n.scalars m.scalars (sym n.stored_is ∙ m.stored_is) in
    n.asked_is ∙ ap standard e ∙ sym m.asked_is

pub one-stored : OneStored
one-stored asked stored stored' n m =
    let e = standard_tells_apart n.points m.points n.scalars m.scalars (sym n.asked_is ∙ m.asked_is) in
    n.stored_is ∙ ap modified e ∙ sym m.stored_is

pub plain_is_the_same : PlainIsTheSame
plain_is_the_same [] h = refl
plain_is_the_same (c ∷ cs) h = let n : c ≡ 0 → ⊥ = λ e. omega (arith, h.0.1) in rw (as_standard c n h.0.2, plain_is_the_same cs h.1)

-- ---- bytes

all-bytes : (s : List ℕ) → All (λ b. b < 256) s → Bytes s
all-bytes [] h i = omega arith
all-bytes (b ∷ s) h zero = h.0
all-bytes (b ∷ s) h (suc i) = all-bytes s h.1 i

turn_bytes : (form : ℕ → List ℕ) → ((c : ℕ) → Scalar c → All (λ b. b < 256) (form c)) → (cs : List ℕ) → All Scalar cs → Bytes (in_turn form cs)
turn_bytes form each [] h = all-bytes [] tt
turn_bytes form each (c ∷ cs) h = bytes-append (form c) (in_turn form cs) (all-bytes (form c) (each c h.0)) (turn_bytes form each cs h.1)

pub standard_is_bytes : StandardIsBytes
standard_is_bytes cs h = turn_bytes standard_of standard-bytes cs h

pub modified_is_bytes : ModifiedIsBytes
modified_is_bytes cs h = turn_bytes modified_of modified-bytes cs h

pub named_is_askable : NamedIsAskable
named_is_askable asked stored n h = record { points = n.points; scalars = n.scalars; asked_is = n.asked_is; fits = rw n.stored_is at h }

-- ---- the tests

-- either the bytes spell code points, or nothing is told of them
pub read-or : (asked : List ℕ) → ((cs : List ℕ) × All Scalar cs × (asked ≡ standard cs) × (standard_points asked ≡ Ok cs)) ⊎ (standard_points asked ≡ Err tt)
read-or asked = by (standard_points asked) refl
  where
    by : (o : Spelled (List ℕ)) → standard_points asked ≡ o
        → ((cs : List ℕ) × All Scalar cs × (asked ≡ standard cs) × (standard_points asked ≡ Ok cs)) ⊎ (standard_points asked ≡ Err tt)
    by (Err r) q = inr q
    by (Ok cs) q = let x = read_is_standard asked cs q in inl (cs, x.0, x.1, q)

pub telling : {B : Type 0} (none : B) (f : List ℕ → B) (asked cs : List ℕ) → All Scalar cs → asked ≡ standard cs → told none f (standard_points asked) ≡ f cs
unfolding told
telling none f asked cs h e = ap (λ (s : List ℕ). told none f (standard_points s)) e ∙ ap (told none f) (standard_is_read cs h)

-- the size of a name whose code points are known
pub size-told : (asked cs : List ℕ) → All Scalar cs → asked ≡ standard cs → size_of_asked_name asked ≡ min (length (modified cs)) (name_limit + 1)
unfolding size_of_asked_name
size-told asked cs h e = telling (name_limit + 1) _ asked cs h e

pub no_size : (asked : List ℕ) → standard_points asked ≡ Err tt → size_of_asked_name asked ≡ name_limit + 1
unfolding size_of_asked_name told
no_size asked e = rw e

-- a size within the limit is that of code points
pub sized_points : (asked : List ℕ) → size_of_asked_name asked ≤ name_limit → (cs : List ℕ) × All Scalar cs × (asked ≡ standard cs) × (size_of_asked_name asked ≡ length (modified cs))
sized_points asked h =
    ⊎_elim (λ x. (x.0, x.1, x.2, omega (arith, size-told asked x.0 x.1 x.2))) (λ e. absurd (omega (arith, no_size asked e))) (read-or asked)

pub askable_is_tested : AskableIsTested
unfolding askable
askable_is_tested asked = (
  λ a. le-leb (size_of_asked_name asked) name_limit (omega (arith, size-told asked a.points a.scalars a.asked_is, a.fits)),
  λ e. let h = leb-true (size_of_asked_name asked) name_limit e in let x = sized_points asked h in record { points = x.0; scalars = x.1; asked_is = x.2; fits = omega (arith, x.3) },
)

pub size_is_the_forms : SizeIsTheForms
size_is_the_forms asked = (
  λ a. omega (arith, size-told asked a.points a.scalars a.asked_is, a.fits),
  λ n. ⊎_elim (λ x. omega (arith, size-told asked x.0 x.1 x.2, too_long x n)) (λ e. no_size asked e) (read-or asked),
)
  where
    too_long : (x : (cs : List ℕ) × All Scalar cs × (asked ≡ standard cs) × (standard_points asked ≡ Ok cs)) → (Askable asked → ⊥) → name_limit < length (modified x.0)
    too_long x n =
        elim (dec_lt name_limit (length (modified x.0))) [
          | yes h ↦ h
          | no g ↦ absurd (n (record { points = x.0; scalars = x.1; asked_is = x.2; fits = omega arith }))
        ]

pub named_is_tested : NamedIsTested
unfolding matches told
named_is_tested asked stored = (
  λ n. telling false _ asked n.points n.scalars n.asked_is ∙ rw n.stored_is (same_refl (modified n.points)),
  λ e. ⊎_elim (λ x. let q = sym (telling false _ asked x.0 x.1 x.2) ∙ e in
      record { points = x.0; scalars = x.1; asked_is = x.2; stored_is = sym (same→eq (modified x.0) stored q) })
      (λ r. absurd (clash (sym e ∙ ap (told false _) r))) (read-or asked),
)

plain_scalars : (cs : List ℕ) → All PlainPoint cs → All Scalar cs
plain_scalars [] h = tt
plain_scalars (c ∷ cs) h = (h.0.0, plain_scalars cs h.1)

pub plain_is_compared : PlainIsCompared
unfolding matches
plain_is_compared asked p stored =
    let e : modified p.points ≡ asked = plain_is_the_same p.points p.plain ∙ sym p.asked_is in
    telling false _ asked p.points (plain_scalars p.points p.plain) p.asked_is ∙ ap (λ (s : List ℕ). same s stored) e

pub plain_is_askable : PlainIsAskable
plain_is_askable asked p h =
    let e : modified p.points ≡ asked = plain_is_the_same p.points p.plain ∙ sym p.asked_is in
    record { points = p.points; scalars = plain_scalars p.points p.plain; asked_is = p.asked_is; fits = rw e h }

pub improper_matches_nothing : ImproperMatchesNothing
improper_matches_nothing stored n asked = by (matches asked stored) refl
  where
    by : (b : Bool) → matches asked stored ≡ b → b ≡ false
    by true e = let m = (named_is_tested asked stored).1 e in absurd (n (record { points = m.points; scalars = m.scalars; stored_is = m.stored_is }))
    by false e = refl

-- ---- lengths: a name has no fewer bytes in modified than in standard form

form_short : (c : ℕ) → length (standard_of c) ≤ length (modified_of c)
form_short c =
    elim (ℕ_discrete c 0) [
      | yes e ↦ omega (arith, ap length (one_form c (omega arith)), ap length (modified-zero c e))
      | no n ↦
          elim (dec_lt c past_plane) [
            | yes h ↦ omega (arith, ap length (as_standard c n h))
            | no g ↦ omega (arith, ap length (four_form c (omega arith)), ap length (modified_pair c n (omega arith)))
          ]
    ]

pub standard-short : (cs : List ℕ) → length (standard cs) ≤ length (modified cs)
standard-short [] = omega arith
standard-short (c ∷ cs) =
    omega (arith, length-append (standard_of c) (standard cs), length-append (modified_of c) (modified cs), form_short c, standard-short cs)

pub askable-short : (asked : List ℕ) → Askable asked → length asked ≤ name_limit
askable-short asked a = omega (arith, ap length a.asked_is, standard-short a.points, a.fits)

form_same : (c : ℕ) → length (modified_of c) ≡ length (standard_of c) → modified_of c ≡ standard_of c
form_same c l =
    elim (ℕ_discrete c 0) [
      | yes e ↦ absurd (omega (arith, ap length (one_form c (omega arith)), ap length (modified-zero c e)))
      | no n ↦
          elim (dec_lt c past_plane) [
            | yes h ↦ as_standard c n h
            | no g ↦ absurd (omega (arith, ap length (four_form c (omega arith)), ap length (modified_pair c n (omega arith))))
          ]
    ]

-- forms of the same length are the same
same_length : (cs : List ℕ) → length (modified cs) ≡ length (standard cs) → modified cs ≡ standard cs
same_length [] l = refl
same_length (c ∷ cs) l =
    let a = length-append (standard_of c) (standard cs) in
    let b = length-append (modified_of c) (modified cs) in
    let x = form_short c in
    let y = standard-short cs in
    ap₂ (λ (s t : List ℕ). s ++ t) (form_same c (omega arith)) (same_length cs (omega arith))

-- where both forms have the same number of bytes they are the same bytes, so that an asked name is compared as it is
pub one-length : (asked stored : List ℕ) {size : ℕ} → size ≡ size_of_asked_name asked → size ≤ name_limit → length asked ≡ size → same asked stored ≡ matches asked stored
unfolding matches
one-length asked stored e h l =
    let x = sized_points asked (omega arith) in
    let e : modified x.0 ≡ asked = same_length x.0 (omega (arith, x.3, ap length x.2)) ∙ sym x.2 in
    sym (telling false _ asked x.0 x.1 x.2 ∙ ap (λ (s : List ℕ). same s stored) e)
