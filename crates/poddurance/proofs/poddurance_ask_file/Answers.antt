-- By cases of what Ask of a file answers; and so of a column's file it is the scan's.
use Rattle.std.proofs.Common.{◌∙◌}
use Rattle.refusal.specs.Reading.{numbers_of, fault_in}
use Rattle.bitmap_index.specs.Meaning.{question}
use Rattle.bitmap_index.specs.Reading.{ask_out, ask_fault}
use Rattle.file_to_answers.specs.Reading.{bytes_looked_at, ask_file_out, file_said_numbers, ask_file_fault}
use Rattle.poddurance.proofs.Laws.{ask_file_lem}
use Rattle.poddurance.proofs.poddurance_ask_file.Goals as goal

pub returns-in-Ok-None : goal.returns-in-Ok-None
unfolding ask_file_out file_said_numbers ask_file_fault numbers_of fault_in
returns-in-Ok-None c =
    let a = c.args in
    let g = rw c.in-Ok-None.field-0-is at c.in-Ok-None.ensures.any_bytes in
    let both =
    ask_file_lem (bytes_looked_at a.embedded.now a.file.now) a.column.now a.kind.now a.t (question a.edition a.name) a.literals.now a.field.now (λ i. (c.slice_known-1.given i).fits)
    g.numbers g.fault g.buffer in
    record { any_bytes = both.0; as_the_scan = both.1 }

pub returns-in-Ok-Some : goal.returns-in-Ok-Some
unfolding ask_file_out file_said_numbers ask_file_fault numbers_of fault_in ask_out ask_fault
returns-in-Ok-Some c =
    let a = c.args in
    let g = rw c.in-Ok-Some.field-0-is at c.in-Ok-Some.ensures.any_bytes in
    let both =
    ask_file_lem (bytes_looked_at a.embedded.now a.file.now) a.column.now a.kind.now a.t (question a.edition a.name) a.literals.now a.field.now (λ i. (c.slice_known-1.given i).fits)
    (c.answered.ensures.0 ∙ g.numbers) (c.answered.ensures.1 ∙ g.fault) g.buffer in
    record { any_bytes = both.0; as_the_scan = both.1 }

pub returns-in-Err : goal.returns-in-Err
unfolding ask_file_out ask_file_fault numbers_of fault_in ask_out ask_fault
returns-in-Err c =
    let a = c.args in
    let g = c.in-Err.ensures.any_bytes in
    let both =
    ask_file_lem (bytes_looked_at a.embedded.now a.file.now) a.column.now a.kind.now a.t (question a.edition a.name) a.literals.now a.field.now (λ i. (c.slice_known-1.given i).fits)
    (c.answered-in-Err.ensures.0 ∙ g.numbers) (c.answered-in-Err.ensures.1 ∙ g.fault) g.buffer in
    record { any_bytes = both.0; as_the_scan = both.1 }
