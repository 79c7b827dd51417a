-- Of a column's file what the scan says, in numbers.
use Prim.Native.Nat.{ℕ}
use mathlib.Core.Path.{◌≡◌, ap, ◌∙◌}
use mathlib.Core.List.{List}
use Rattle.numbers.specs.Meaning.{Bytes}
use Rattle.refusal.specs.Reading.{numbers_of, fault_in}
use Rattle.subtract.specs.Meaning.{numbers_of_record, no_record}
use Rattle.bitmap_index.specs.declared.Question.{Question}
use Rattle.bitmap_index.specs.Meaning.{scan_record}
use Rattle.file_to_answers.specs.Reading.{file_asked, ask_file_buffer, ask_file_numbers}
use Rattle.file_to_answers.specs.Promises.{FileAsScan}
use Rattle.file_to_answers.proofs.Theorems.{file_is_answered}
use Rattle.poddurance.specs.Promises.{AskFile}

-- Ask of a file: what holds of any bytes says of a column's file what the scan says
pub ask_file_lem : (bytes column kind : List ℕ) (t : ℕ) (q : Question) (literals before : List ℕ) → Bytes before → {after said fault : List ℕ} {number : ℕ}
    → (number, said) ≡ numbers_of no_record ask_file_numbers (file_asked bytes column kind t q literals before)
    → fault ≡ fault_in (file_asked bytes column kind t q literals before) → after ≡ ask_file_buffer bytes column kind t q literals before
    → AskFile bytes column kind t q literals before after number said fault
    × FileAsScan bytes column kind t q literals before (λ a. (number ≡ 0) × (said ≡ numbers_of_record a.said) × (after ≡ a.buffer))
unfolding numbers_of ask_file_numbers
ask_file_lem bytes column kind t q literals before b {said = said} {number = number} n z x = (
  record { numbers = n; fault_is = z; buffer = x },
  λ cells ls f w l room.
      let s = file_is_answered t cells column kind bytes f before b room q ls w in
      let m : ◌≡◌ {A = ℕ × List ℕ} (number, said) (0, numbers_of_record (scan_record q ls cells)) = n ∙ rw l (ap (numbers_of no_record ask_file_numbers) s.0) in
      (ap (λ (x : ℕ × List ℕ). x.0) m, ap (λ (x : ℕ × List ℕ). x.1) m, x ∙ rw l s.1),
)
