-- The claims, proved; and that what is found lies within the bytes.
use Prim.Native.Nat.{ℕ, ◌+◌, ◌≤◌}
use mathlib.Core.Path.{◌≡◌, refl, sym, ap, ◌∙◌, fun_ext}
use mathlib.Core.Bool.{Bool, true, false, ◌&&◌}
use mathlib.Core.List.{List}
use mathlib.Core.Logic.{◌⊎◌, inl, inr, ⊎_elim}
use native.Mathlib.Decide.{dec_le, ℕ_discrete}
use native.Mathlib.Omega.{arith}
use lib.ListN.{length}
use Rattle.numbers.specs.Meaning.{be_at, Bytes, same}
use Rattle.numbers.proofs.Booleans.{and_both}
use Rattle.refusal.specs.Meaning.{number_of, limit}
use Rattle.refusal.specs.declared.Refusal.{Refusal}
use Rattle.std.specs.Prelude.{Err, Ok, Some, None}
use Rattle.refusal.specs.Reading.{check, numbers_of}
use Rattle.refusal.proofs.Laws.{ok_same}
use Rattle.names.specs.Layout.{Askable}
use Rattle.names.specs.Reading.{askable, matches}
use Rattle.names.proofs.Theorems.{askable_is_tested, plain_is_compared, plain_is_askable}
use Rattle.index_file.specs.Layout.{magic, file_version, front_size}
use Rattle.index_file.specs.declared.Part.{Part}
use Rattle.index_file.specs.Reading.{bytes_of, within_limits, find, sought_numbers}
use Rattle.index_file.specs.Claims.{LaidOutIsFound, FoundIsLaidOut, OneBody, UnlistedIsAbsent, AbsentIsUnlisted, NumberOfFound, NumberOfAbsent, UnaskableIsLiteral, LiteralIsUnaskable, AskableIsLookedUp, PlainAsBefore, OtherVersionIsRefused, OtherVersionIsNotFound, FindCarriesNothing}
use Rattle.index_file.proofs.Laws.{file_short, file-magic, file_version_lem, find_long, find_column, find_kind, find_unaskable}
use Rattle.index_file.proofs.Laid.{part_of, laid_find, asked_file, unlisted_file}
use Rattle.index_file.proofs.Accepted.{accepted, within, unlisted}
use Rattle.index_file.proofs.FileRefusals.{find_bare, file-other}

pub laid_out_is_found : LaidOutIsFound
laid_out_is_found column kind body bytes f small = (part_of f, laid_find f small, sym f.part)

pub found_is_laid_out : FoundIsLaidOut
found_is_laid_out bytes column kind p b g = accepted bytes column kind p b g

pub found_within : (bytes column kind : List ℕ) (p : Part) → Bytes bytes → find bytes column kind ≡ Ok (Some p) → p.start.0 + p.length ≤ length bytes
found_within bytes column kind p b g = within bytes column kind p b g

pub one-body : OneBody
one-body column kind body body' bytes f g small =
    let same : part_of f ≡ part_of g = let e = ok_same _ _ (sym (laid_find f small) ∙ laid_find g small) in cc in
    f.part ∙ ap (λ (p : Part). bytes_of p bytes) same ∙ sym g.part

pub unlisted_is_absent : UnlistedIsAbsent
unlisted_is_absent bytes column kind h u a b c = asked_file bytes column kind a b c ∙ unlisted_file h u

pub absent_is_unlisted : AbsentIsUnlisted
absent_is_unlisted = unlisted

-- ---- the number of an answer: a refusal's is 1 to 14

refusal_numbers : (r : Refusal) → (1 ≤ number_of r) × (number_of r ≤ 14)
refusal_numbers Refusal.Short = (omega arith, omega arith)
refusal_numbers Refusal.Magic = (omega arith, omega arith)
refusal_numbers Refusal.Version = (omega arith, omega arith)
refusal_numbers Refusal.Head = (omega arith, omega arith)
refusal_numbers Refusal.Dict = (omega arith, omega arith)
refusal_numbers (Refusal.Bitmap entry container) = (omega arith, omega arith)
refusal_numbers (Refusal.Range entry) = (omega arith, omega arith)
refusal_numbers (Refusal.Twice entry) = (omega arith, omega arith)
refusal_numbers (Refusal.Missing row) = (omega arith, omega arith)
refusal_numbers Refusal.Room = (omega arith, omega arith)
refusal_numbers Refusal.Literal = (omega arith, omega arith)
refusal_numbers Refusal.Limit = (omega arith, omega arith)
refusal_numbers Refusal.Checksum = (omega arith, omega arith)
refusal_numbers Refusal.NoBin = (omega arith, omega arith)

pub number_of-found : NumberOfFound
unfolding numbers_of sought_numbers
number_of-found (Err r) e = absurd (omega (arith, (refusal_numbers r).0))
number_of-found (Ok None) e = absurd (omega arith)
number_of-found (Ok (Some p)) e = (p, refl)

pub number_of-absent : NumberOfAbsent
unfolding numbers_of sought_numbers
number_of-absent (Err r) e = absurd (omega (arith, (refusal_numbers r).1))
number_of-absent (Ok None) e = refl
number_of-absent (Ok (Some p)) e = absurd (omega arith)

-- ---- versions

-- both names may be asked for, or the test says no
both_tested : (column kind : List ℕ) → (askable column && askable kind ≡ false) ⊎ (Askable column × Askable kind)
both_tested column kind = by (askable column && askable kind) refl
  where
    by : (b : Bool) → askable column && askable kind ≡ b → (askable column && askable kind ≡ false) ⊎ (Askable column × Askable kind)
    by true e = let x = and_both (askable column) (askable kind) e in inr ((askable_is_tested column).1 x.0, (askable_is_tested kind).1 x.1)
    by false e = inl e

pub other_version_is_refused : OtherVersionIsRefused
other_version_is_refused bytes column kind other a b c h m =
    asked_file bytes column kind a b c ∙ file_version_lem (matches column) (matches kind) bytes h refl m refl other

-- of a file that is looked at at all
other-version-looked_at : (bytes column kind : List ℕ) → (be_at 4 bytes 8 ≡ file_version → ⊥) → length bytes ≤ limit → Askable column → Askable kind
    → (find bytes column kind ≡ Err Refusal.Short) ⊎ ((find bytes column kind ≡ Err Refusal.Magic) ⊎ (find bytes column kind ≡ Err Refusal.Version))
other-version-looked_at bytes column kind other a b c =
    let e = asked_file bytes column kind a b c in
    elim (dec_le front_size (length bytes)) [
      | no l ↦ inl (e ∙ file_short (matches column) (matches kind) bytes (omega arith))
      | yes h ↦
          elim (ℕ_discrete (be_at 8 bytes 0) magic) [
            | no n ↦ inr (inl (e ∙ file-magic (matches column) (matches kind) bytes h refl n))
            | yes m ↦ inr (inr (other_version_is_refused bytes column kind other a b c h m))
          ]
    ]

pub other_version_is_not_found : OtherVersionIsNotFound
other_version_is_not_found bytes column kind other =
    elim (dec_le (length bytes) limit) [
      | no l ↦ inl (find_long bytes column kind (omega arith))
      | yes a ↦
          elim (dec_le (length column) limit) [
            | no l ↦ inl (find_column bytes column kind a (omega arith))
            | yes b ↦
                elim (dec_le (length kind) limit) [
                  | no l ↦ inl (find_kind bytes column kind a b (omega arith))
                  | yes c ↦
                      inr
                      (⊎_elim (λ e. inl (find_unaskable bytes column kind a b c e)) (λ x. inr (other-version-looked_at bytes column kind other a x.0 x.1))
                      (both_tested column kind))
                ]
          ]
    ]

-- ---- names

pub unaskable_is_literal : UnaskableIsLiteral
unaskable_is_literal bytes column kind a b c n = ⊎_elim (λ e. find_unaskable bytes column kind a b c e) (λ x. absurd (n x)) (both_tested column kind)

-- of buffers over the limit another refusal is said
pub literal_is_unaskable : LiteralIsUnaskable
literal_is_unaskable bytes column kind e x =
    elim (dec_le (length bytes) limit) [
      | yes a ↦ file-other (matches column) (matches kind) bytes (sym (asked_file bytes column kind a x.0 x.1) ∙ e)
      | no l ↦ let q = sym (find_long bytes column kind (omega arith)) ∙ e in let z : ◌≡◌ {A = ℕ} 0 1 = cc in omega arith
    ]

pub askable_is_looked_up : AskableIsLookedUp
askable_is_looked_up = asked_file

pub plain_as_before : PlainAsBefore
unfolding find within_limits check
plain_as_before bytes column kind p q short short' =
    let a : askable column ≡ true = (askable_is_tested column).0 (plain_is_askable column p short) in
    let b : askable kind ≡ true = (askable_is_tested kind).0 (plain_is_askable kind q short') in
    let e : matches column ≡ same column = fun_ext (plain_is_compared column p) in
    let f : matches kind ≡ same kind = fun_ext (plain_is_compared kind q) in
    rw (a, b, e, f)

-- ---- where a fault is

pub find_carries_nothing : FindCarriesNothing
find_carries_nothing = find_bare
