-- The claims, proved.
use Prim.Native.Nat.{ℕ}
use mathlib.Core.Path.{◌≡◌, sym, ap, ◌∙◌}
use mathlib.Core.List.{List, ◌∷◌}
use mathlib.Core.Logic.{◌⊎◌, inl, inr, ⊎_elim}
use native.Mathlib.Decide.{ℕ_discrete}
use native.Mathlib.Omega.{arith}
use Rattle.numbers.specs.Meaning.{be_at}
use Rattle.refusal.specs.declared.Refusal.{Refusal}
use Rattle.std.specs.Prelude.{Result, Err, Ok, Option, Some, None}
use Rattle.index_file.specs.declared.Part.{Part}
use Rattle.refusal.specs.Reading.{and_then}
use Rattle.refusal.proofs.Laws.{not-ok, then_ok}
use Rattle.stored_value.specs.Meaning.{Cell}
use Rattle.index_file.specs.Layout.{file_version}
use Rattle.index_file.specs.Reading.{bytes_of, find}
use Rattle.index_file.proofs.Theorems.{laid_out_is_found, other_version_is_not_found}
use Rattle.bitmap_index.specs.declared.Question.{Question}
use Rattle.bitmap_index.specs.Reading.{Answer, ask}
use Rattle.bitmap_index.specs.Promises.{scan_answer}
use Rattle.bitmap_index.proofs.BodyAnswers.{body_column}
use Rattle.bitmap_index.proofs.Theorems.{column_is_answered, unknown_version_yields_nothing}
use Rattle.file_to_answers.proofs.Graphs.{buffer_left, drawn_from}
use Rattle.file_to_answers.specs.Layout.{ColumnFile}
use Rattle.file_to_answers.specs.Reading.{bytes_looked_at, part_of, ask_part, ask_part_buffer, file_asked, ask_file_buffer}
use Rattle.file_to_answers.specs.Claims.{FromFileToAnswers, EachFileIsAnsweredAsTheScan, FileIsAnswered, FileGivesTheGraph, OtherVersionHasNoPart, AnsweredVersions}

from_file_to_answers : (t : ℕ) (cells : List Cell) (column kind bytes : List ℕ) → ColumnFile t cells column kind bytes → FromFileToAnswers t cells column kind bytes
from_file_to_answers t cells column kind bytes f =
    let l = laid_out_is_found column kind f.body bytes f.file f.small in
    record { part = l.0; is_found = l.1; answers = λ field b room. rw (l.1, l.2) (column_is_answered t cells f.body f.laid field b room) }

pub each_file_is_answered_as_the_scan : EachFileIsAnsweredAsTheScan
each_file_is_answered_as_the_scan t cells column kind embedded file f = from_file_to_answers t cells column kind (bytes_looked_at embedded file) f

pub file_is_answered : FileIsAnswered
unfolding file_asked ask_part and_then ask_file_buffer ask_part_buffer
file_is_answered t cells column kind bytes f field b room q ls w =
    let c = from_file_to_answers t cells column kind bytes f in
    let a = rw c.is_found at (c.answers field b room) in
    rw c.is_found (rw (a.asked q ls w), a.asked_buffer q ls w)

pub file_gives_the_graph : FileGivesTheGraph
file_gives_the_graph t cells column kind bytes f field g b room room' q ls w =
    let asked = file_is_answered t cells column kind bytes f field b room q ls w in
    let small = (body_column t cells f.body f.laid).1 in
    let (counts, subtracts, drawn) = drawn_from q ls cells field g small room' in
    record {
      answer = scan_answer q ls cells field;
      asked = asked.0;
      counts = counts;
      subtracts = rw asked.1 subtracts;
      drawn = drawn;
      left = rw asked.1 (buffer_left q ls cells field g small room');
    }

pub other_version_has_no_part : OtherVersionHasNoPart
other_version_has_no_part bytes column kind other =
    let part : Result (Option Part) Refusal → List ℕ = λ o. part_of o bytes in
    ⊎_elim (λ e. ap part e) (⊎_elim (λ e. ap part e) (⊎_elim (λ e. ap part e) (⊎_elim (λ e. ap part e) (λ e. ap part e)))) (other_version_is_not_found bytes column kind other)

refused_is_no_answer : (bytes column kind : List ℕ) (t : ℕ) (q : Question) (literals field : List ℕ) (a : Answer) (r : Refusal) → find bytes column kind ≡ Err r
    → file_asked bytes column kind t q literals field ≡ Ok (Some a) → ⊥
unfolding file_asked and_then
refused_is_no_answer bytes column kind t q literals field a r e h = not-ok (rw e at h)

known-version : (bytes column kind : List ℕ) (t : ℕ) (q : Question) (literals field : List ℕ) (a : Answer) → file_asked bytes column kind t q literals field ≡ Ok (Some a)
    → Dec (be_at 4 bytes 8 ≡ file_version) → be_at 4 bytes 8 ≡ file_version
known-version bytes column kind t q literals field a h (yes e) = e
known-version bytes column kind t q literals field a h (no n) =
    let no_answer : (r : Refusal) → find bytes column kind ≡ Err r → ⊥ = λ r e. refused_is_no_answer bytes column kind t q literals field a r e h in
    absurd (⊎_elim (no_answer _) (⊎_elim (no_answer _) (⊎_elim (no_answer _) (⊎_elim (no_answer _) (no_answer _)))) (other_version_is_not_found bytes column kind n))

known-body : (t : ℕ) (q : Question) (literals field : List ℕ) (a : Answer) (v : ℕ) (s : List ℕ) → ask t q literals (v ∷ s) field ≡ Ok a → Dec (v ≡ 1) → Dec (v ≡ 2) → (v ≡ 1) ⊎ (v ≡ 2)
known-body t q literals field a v s h (yes e) d = inl e
known-body t q literals field a v s h (no n) (yes e) = inr e
known-body t q literals field a v s h (no n) (no n') = absurd ((unknown_version_yields_nothing t q v s literals field n n').1 a h)

known-part : (bytes : List ℕ) (t : ℕ) (q : Question) (literals field : List ℕ) (a : Answer) (o : Result (Option Part) Refusal) → and_then o (ask_part bytes t q literals field) ≡ Ok (Some a)
    → (v : ℕ) (s : List ℕ) → part_of o bytes ≡ v ∷ s → (v ≡ 1) ⊎ (v ≡ 2)
unfolding and_then ask_part
known-part bytes t q literals field a (Err r) h v s e = absurd (not-ok h)
known-part bytes t q literals field a (Ok None) h v s e = absurd (let z : ◌≡◌ {A = ℕ} 0 1 = cc in omega arith)
known-part bytes t q literals field a (Ok (Some p)) h v s e =
    let t-ok = then_ok (ask t q literals (bytes_of p bytes) field) _ (Some a) h in
    let asked : ask t q literals (v ∷ s) field ≡ Ok t-ok.0 = ap (λ (b : List ℕ). ask t q literals b field) (sym e) ∙ t-ok.1 in
    known-body t q literals field t-ok.0 v s asked (ℕ_discrete v 1) (ℕ_discrete v 2)

pub answered_versions : AnsweredVersions
unfolding file_asked
answered_versions bytes column kind t q literals field a h = (
  known-version bytes column kind t q literals field a h (ℕ_discrete (be_at 4 bytes 8) file_version),
  known-part bytes t q literals field a (find bytes column kind) h,
)
