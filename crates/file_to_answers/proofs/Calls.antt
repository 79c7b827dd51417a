-- The calls by what Locate answers, and what that says of a column's file.
use Rattle.std.proofs.Common.{◌≡◌, ℕ, ◌+◌, List, [], ◌∷◌, length, refl, ap, ◌∙◌, arith, Result, Err, Ok, Option, Some, None}
use Rattle.numbers.specs.Meaning.{Bytes}
use Rattle.refusal.specs.Meaning.{number_of}
use Rattle.refusal.specs.declared.Refusal.{Refusal}
use Rattle.refusal.specs.Reading.{and_then, numbers_of, fault_in}
use Rattle.subtract.specs.declared.Answer.{Answer as Said}
use Rattle.subtract.specs.Meaning.{no_record}
use Rattle.index_file.specs.declared.Part.{Part}
use Rattle.index_file.specs.Reading.{bytes_of, find, sought_numbers}
use Rattle.bitmap_index.specs.declared.Question.{Question}
use Rattle.bitmap_index.specs.Reading.{Answer, ask, answered_by, ask_out, ask_numbers, ask_fault}
use Rattle.bitmap_index.specs.Promises.{AskPromise}
use Rattle.file_to_answers.specs.Reading.{used, bytes_looked_at, ask_part, ask_part_buffer, file_asked, ask_file_buffer, file_answer_by, ask_file_out, ask_file_numbers, file_said_numbers, ask_file_fault}
use Rattle.file_to_answers.specs.Promises.{LocatePromise, AskFilePromise, FileAsScan}
use Rattle.file_to_answers.proofs.Theorems.{file_is_answered}

-- ---- the buffer that is looked at

pub used_embedded : {A : Type 0} (embedded : List ℕ) (x y : A) → (length embedded ≡ 0 → ⊥) → used embedded x y ≡ x
unfolding used
used_embedded [] x y h = absurd (h refl)
used_embedded (b ∷ embedded) x y h = refl

pub used_file : {A : Type 0} (embedded : List ℕ) (x y : A) → length embedded ≡ 0 → used embedded x y ≡ y
unfolding used
used_file [] x y h = refl
used_file (b ∷ embedded) x y h = absurd (omega arith)

pub bytes-looked_at : (embedded file : List ℕ) → Bytes embedded → Bytes file → Bytes (bytes_looked_at embedded file)
unfolding used
bytes-looked_at [] file a b = b
bytes-looked_at (x ∷ embedded) file a b = a

-- ---- Locate

module _ (bytes column kind : List ℕ) (buffer : ℕ × ℕ) where
  pub locate_found : {p : Part} → find bytes column kind ≡ Ok (Some p) → {body : List ℕ} → body ≡ bytes_of p bytes → {place : ℕ × ℕ} → place ≡ (buffer.0, p.start.0 + buffer.1)
      → LocatePromise bytes column kind buffer 0 body place
  unfolding numbers_of sought_numbers
  locate_found x e h = record { number = rw x; part = rw x e; handed_back = rw x h }

  pub locate_absent : find bytes column kind ≡ Ok None → (place : ℕ × ℕ) → LocatePromise bytes column kind buffer 255 [] place
  unfolding numbers_of sought_numbers
  locate_absent x place = record { number = rw x; part = rw x; handed_back = rw x tt }

  pub locate_refused : {r : Refusal} → find bytes column kind ≡ Err r → {n : ℕ} → n ≡ number_of r → (place : ℕ × ℕ) → LocatePromise bytes column kind buffer n [] place
  unfolding numbers_of
  locate_refused x e place = record { number = rw x e; part = rw x; handed_back = rw x tt }

-- ---- Locate, then Ask

-- Ask's answer as the one call's, its numbers and its fault
asked : (o : Result Answer Refusal) → and_then (answered_by o) (λ a. Ok (Some a)) ≡ file_answer_by (and_then o (λ a. Ok (Some a)))
unfolding file_answer_by and_then answered_by
asked (Err r) = refl
asked (Ok a) = refl

numbered : (o : Result Answer Refusal) → numbers_of no_record ask_numbers o ≡ numbers_of no_record ask_file_numbers (and_then o (λ a. Ok (Some a)))
unfolding numbers_of and_then ask_file_numbers
numbered (Err r) = refl
numbered (Ok a) = refl

at_fault : (o : Result Answer Refusal) → fault_in o ≡ fault_in (and_then o (λ a. Ok (Some a)))
unfolding fault_in and_then
at_fault (Err r) = refl
at_fault (Ok a) = refl

out_of : (y : Result Said Refusal) → ask_file_out (and_then y (λ a. Ok (Some a))) ≡ ask_out y
unfolding ask_file_out ask_out numbers_of and_then file_said_numbers
out_of (Err r) = refl
out_of (Ok a) = refl

fault_out_of : (y : Result Said Refusal) → ask_file_fault (and_then y (λ a. Ok (Some a))) ≡ ask_fault y
unfolding ask_file_fault ask_fault fault_in and_then
fault_out_of (Err r) = refl
fault_out_of (Ok a) = refl

-- for any bytes, and so for a column's file
abbrev pub Promise : (bytes column kind : List ℕ) (t : ℕ) (q : Question) (literals before after : List ℕ) → Result (Option Said) Refusal → Type 0
Promise bytes column kind t q literals before after r =
    AskFilePromise bytes column kind t q literals before after r
    × FileAsScan bytes column kind t q literals before (λ a. (r ≡ file_answer_by (Ok (Some a))) × (after ≡ a.buffer))

module _ (bytes column kind : List ℕ) (t : ℕ) (q : Question) (literals before : List ℕ) (b : Bytes before) where
  both : {after : List ℕ} {r : Result (Option Said) Refusal} → AskFilePromise bytes column kind t q literals before after r → Promise bytes column kind t q literals before after r
  both p = (
    p,
    λ cells ls f w l room.
        let s = file_is_answered t cells column kind bytes f before b room q ls w in
        (p.answer ∙ rw l (ap file_answer_by s.0), p.buffer ∙ rw l s.1),
  )

  pub asked_absent : find bytes column kind ≡ Ok None → Promise bytes column kind t q literals before before (Ok None)
  unfolding file_asked ask_part and_then ask_file_buffer ask_part_buffer file_answer_by ask_file_out file_said_numbers ask_file_numbers ask_file_fault numbers_of fault_in
  asked_absent x = both (record { answer = rw x; numbers = rw x; fault = rw x; buffer = rw x })

  pub asked_refused : {r : Refusal} → find bytes column kind ≡ Err r → Promise bytes column kind t q literals before before (Err r)
  unfolding file_asked and_then ask_file_buffer ask_part_buffer file_answer_by ask_file_out ask_file_fault numbers_of fault_in
  asked_refused x = both (record { answer = rw x; numbers = rw x; fault = rw x; buffer = rw x })

  asked_found : {p : Part} → find bytes column kind ≡ Ok (Some p) → {body : List ℕ} → body ≡ bytes_of p bytes
      → {y : Result Said Refusal} {after : List ℕ} → AskPromise t q literals body before after y → Promise bytes column kind t q literals before after (and_then y (λ a. Ok (Some a)))
  unfolding file_asked ask_part and_then ask_file_buffer ask_part_buffer
  asked_found {p} x {body} e {y} h =
      let o = ask t q literals body before in
      both (
      record {
        answer = rw (x, ← e, h.answer) (asked o);
        numbers = rw (x, ← e) (out_of y ∙ h.numbers ∙ numbered o);
        fault = rw (x, ← e) (fault_out_of y ∙ h.fault ∙ at_fault o);
        buffer = rw (x, ← e) h.buffer;
      }
      )

  module _ {p : Part} (x : find bytes column kind ≡ Ok (Some p)) {body : List ℕ} (e : body ≡ bytes_of p bytes) {after : List ℕ} where
    pub asked_answer : {y : Said} → AskPromise t q literals body before after (Ok y) → Promise bytes column kind t q literals before after (Ok (Some y))
    unfolding and_then
    asked_answer h = asked_found x e h

    pub asked_fault : {r : Refusal} → AskPromise t q literals body before after (Err r) → Promise bytes column kind t q literals before after (Err r)
    unfolding and_then
    asked_fault h = asked_found x e h
