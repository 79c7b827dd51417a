-- A body of another version than 1 and 2, audited and asked.
use Prim.Native.Nat.{ℕ, ◌<◌, ◌≤◌}
use mathlib.Core.Path.{◌≡◌, refl, ap, ◌∙◌}
use mathlib.Core.Bool.{Bool, true, false}
use mathlib.Core.List.{List, ◌∷◌}
use borrow.Author.Tests.{le-leb, lt-ltb, le-ltb}
use lib.Dec.{ltb, leb}
use lib.ListN.{length}
use Rattle.refusal.specs.Meaning.{limit}
use Rattle.refusal.specs.declared.Refusal.{Refusal}
use Rattle.refusal.specs.declared.Refusal.TheVariants.{Version, Literal, Limit}
use Rattle.std.specs.Prelude.{Result, Err, Ok}
use Rattle.refusal.specs.Reading.{check, and_then}
use Rattle.dictionary.specs.Reading.{Dictionary, dictionary}
use Rattle.stored_value.specs.Meaning.{types}
use Rattle.dictionary.proofs.Theorems.{unknown_version_is_refused, unknown_type_is_refused}
use native.Mathlib.Decide.{dec_lt}
use native.Mathlib.Omega.{arith}
use Rattle.row_field.specs.Meaning.{cleared}
use Rattle.bitmap_index.specs.declared.Question.{Question}
use Rattle.bitmap_index.specs.Reading.{room_for, prepared, audited, audit, audit_buffer, zeroed_from, well_formed, audited_answer, ask, ask_buffer, answer_buffer}
use Rattle.bitmap_index.proofs.AcceptedStages.{asked_back}

-- a test comes first, whatever follows what it guards
then_check : {A B : Type 0} (b : Bool) (r : Refusal) (o : Result A Refusal) (k : A → Result B Refusal) → and_then (check b r o) k ≡ check b r (and_then o k)
unfolding and_then check
then_check true r o k = refl
then_check false r o k = refl

untouched : (b c : Bool) (r r' r'' : Refusal) (field : List ℕ) → zeroed_from (check b r (check c r' (Err r''))) field ≡ field
unfolding zeroed_from check
untouched true true r r' r'' field = refl
untouched true false r r' r'' field = refl
untouched false c r r' r'' field = refl

module _ (t v : ℕ) (s field : List ℕ) (n : v ≡ 1 → ⊥) (n' : v ≡ 2 → ⊥) where
  version-read : dictionary t (v ∷ s) ≡ check (ltb t types) Literal (Err Version)
  unfolding check
  version-read = go (dec_lt t types)
    where
      go : Dec (t < types) → dictionary t (v ∷ s) ≡ check (ltb t types) Literal (Err Version)
      go (yes k) = rw (lt-ltb t types k) (unknown_version_is_refused t v s k n n')
      go (no k) =
          let h : types ≤ t = omega arith in
          rw (le-ltb t types h) (unknown_type_is_refused t (v ∷ s) h)

  version-prepared : prepared t (v ∷ s) field ≡ check (leb (length (v ∷ s)) limit) Limit (check (ltb t types) Literal (Err Version))
  unfolding prepared and_then
  version-prepared =
      rw (version-read, then_check (ltb t types) Literal (Err Version) (room_for field))

  pub version-audited : audit t (v ∷ s) field ≡ check (leb (length (v ∷ s)) limit) Limit (check (ltb t types) Literal (Err Version))
  unfolding audit and_then
  version-audited =
      let k : Dictionary → Result ℕ Refusal = λ d. audited d (cleared d.rows field) in
      rw (
        version-prepared,
        then_check (leb (length (v ∷ s)) limit) Limit (check (ltb t types) Literal (Err Version)) k,
        then_check (ltb t types) Literal (Err Version) k,
      )

  pub version-audited_buffer : audit_buffer t (v ∷ s) field ≡ field
  unfolding audit_buffer
  version-audited_buffer = ap (λ (x : Result Dictionary Refusal). zeroed_from x field) version-prepared ∙ untouched _ _ Limit Literal Version field

  module _ (q : Question) (literal : List ℕ) where
    -- literals that were read were asked of a body within the limit, and of a known type
    version_after : (ls : List (List ℕ)) → well_formed t q literal (v ∷ s) ≡ Ok ls → prepared t (v ∷ s) field ≡ Err Version
    unfolding check
    version_after ls e =
        let (short, short-literals, known, edition, name, read, fit) = asked_back t q literal (v ∷ s) ls e in
        version-prepared ∙ rw (le-leb (length (v ∷ s)) limit short, lt-ltb t types known)

    pub version_asked : ask t q literal (v ∷ s) field ≡ and_then (well_formed t q literal (v ∷ s)) (λ ls. Err Version)
    unfolding ask and_then
    version_asked = go (well_formed t q literal (v ∷ s)) refl
      where
        go : (o : Result (List (List ℕ)) Refusal) → well_formed t q literal (v ∷ s) ≡ o
            → and_then o (λ ls. and_then (prepared t (v ∷ s) field) (λ d. audited_answer q ls d (cleared d.rows field))) ≡ and_then o (λ ls. Err Version)
        go (Err r) e = refl
        go (Ok ls) e = rw (version_after ls e)

    pub version_asked_buffer : ask_buffer t q literal (v ∷ s) field ≡ field
    unfolding ask_buffer ask answer_buffer zeroed_from and_then
    version_asked_buffer = go (well_formed t q literal (v ∷ s)) refl
      where
        go : (o : Result (List (List ℕ)) Refusal) → well_formed t q literal (v ∷ s) ≡ o
            → answer_buffer (and_then o (λ ls. and_then (prepared t (v ∷ s) field) (λ d. audited_answer q ls d (cleared d.rows field))))
            (zeroed_from (and_then o (λ ls. prepared t (v ∷ s) field)) field) ≡ field
        go (Err r) e = refl
        go (Ok ls) e = rw (version_after ls e)
