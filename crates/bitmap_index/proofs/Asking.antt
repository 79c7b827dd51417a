-- Ask, stage by stage: the question, the audit, then the rows of the chosen entries and their count.
use Prim.Native.Nat.{ℕ, ◌<◌, ◌≤◌}
use mathlib.Core.Path.{◌≡◌, refl, ap, ◌∙◌}
use mathlib.Core.Bool.{Bool, true, false}
use mathlib.Core.List.{List, []}
use native.Mathlib.Omega.{arith}
use lib.ListN.{length, replicate, length-replicate}
use borrow.Author.Tests.{eqb-true, le-leb, lt-leb, le-ltb, lt-ltb}
use Rattle.refusal.specs.Meaning.{limit}
use Rattle.refusal.specs.declared.Refusal.{Refusal}
use Rattle.refusal.specs.declared.Refusal.TheVariants.{Literal, Limit}
use Rattle.std.specs.Borrow.{Bor}
use Rattle.std.specs.Prelude.{Result, Err, Ok, Some, None}
use Rattle.refusal.specs.Reading.{check, and_then, numbers_of, fault_in}
use Rattle.row_field.specs.Meaning.{cleared, count, size}
use Rattle.subtract.specs.declared.Answer.{Answer as Said}
use Rattle.subtract.specs.declared.Record.{Record}
use Rattle.subtract.proofs.WithRecord.{said_again}
use Rattle.subtract.specs.Meaning.{no_record, answer_of}
use Rattle.hash_table.specs.Promises.{slot}
use Rattle.hash_table.proofs.Chaining.{holds_none}
use Rattle.stored_value.specs.Promises.{counted, Enterable, Enters}
use Rattle.stored_value.specs.Meaning.{types, most_literals}
use Rattle.stored_value.specs.Reading.{literals}
use Rattle.stored_value.proofs.Laws.{listed_alone}
use Rattle.dictionary.specs.declared.Summary.{Summary}
use Rattle.dictionary.specs.Reading.{Dictionary}
use Rattle.bitmap_index.specs.declared.Question.{Question}
use Rattle.bitmap_index.specs.declared.Edition.{Edition}
use Rattle.bitmap_index.specs.declared.Edition.TheVariants.{First, Second}
use Rattle.bitmap_index.specs.declared.Name.{Name}
use Rattle.bitmap_index.specs.declared.Name.TheVariants.{Equal, NotEqual, In, NotIn, IsNull, IsNotNull}
use Rattle.bitmap_index.specs.declared.Sought.{Sought}
use Rattle.bitmap_index.specs.Names.{edition_code, name_code, question_of, DecodesEdition, DecodesName}
use Rattle.bitmap_index.specs.Meaning.{is_in, questions, is_known_edition, takes, null_question}
use Rattle.bitmap_index.specs.Reading.{prepared, zeroed_from, chosen_of, mark_entries, marked_for, matched_for, Answer, answered, audited_answer, well_formed, ask, answer_buffer, ask_buffer, answered_by, ask_out, ask_numbers, ask_fault}
use Rattle.bitmap_index.specs.Promises.{AskPromise, ForDictionary, Prepares, Asked, TypesQuestion, Holds, Lookup, AuditsField, Answers, AuditAccepts, AnswersZero}
use Rattle.bitmap_index.proofs.AcceptedStages.{asked_back}
use Rattle.row_field.proofs.Counts.{zeroed-again}

-- ---- the question

known_code : (e : Edition) → is_known_edition (edition_code e) ≡ true
unfolding is_known_edition
known_code First = refl
known_code Second = refl

name_below : (x : Name) → name_code x < questions
name_below Equal = omega arith
name_below NotEqual = omega arith
name_below In = omega arith
name_below NotIn = omega arith
name_below IsNull = omega arith
name_below IsNotNull = omega arith

not_counted : {r : Refusal} (o : Result (List (List ℕ)) Refusal) → Err r ≡ counted o → o ≡ Err r
unfolding counted
not_counted (Err r) e = cc
not_counted (Ok ls) e = absurd (let w : ◌≡◌ {A = ℕ} 0 1 = cc in omega arith)

are_counted : {n : ℕ} (o : Result (List (List ℕ)) Refusal) → Ok n ≡ counted o → (ls : List (List ℕ)) × (o ≡ Ok ls) × (n ≡ length ls)
unfolding counted
are_counted (Err r) e = absurd (let w : ◌≡◌ {A = ℕ} 0 1 = cc in omega arith)
are_counted (Ok ls) e = (ls, refl, cc)

module _ (t : ℕ) (q : Question) (s body : List ℕ) where
  pub long_body : limit < length body → well_formed t q s body ≡ Err Limit
  unfolding well_formed check
  long_body h = rw (lt-leb (length body) limit h)

  module _ (l : length body ≤ limit) where
    pub long_literals : limit < length s → well_formed t q s body ≡ Err Limit
    unfolding well_formed check
    long_literals h = rw (le-leb (length body) limit l, lt-leb (length s) limit h)

    module _ (m : length s ≤ limit) where
      pub unknown_type : types ≤ t → well_formed t q s body ≡ Err Literal
      unfolding well_formed check
      unknown_type h = rw (le-leb (length body) limit l, le-leb (length s) limit m, le-ltb t types h)

      module _ (k : t < types) where
        pub unknown_edition : {r : Refusal} → DecodesEdition q.edition (Err r) → well_formed t q s body ≡ Err r
        unfolding well_formed check
        unknown_edition w = rw (le-leb (length body) limit l, le-leb (length s) limit m, lt-ltb t types k, w.0, w.1)

        module _ (e : Edition) (d : q.edition ≡ edition_code e) where
          known : is_known_edition q.edition ≡ true
          known = rw d (known_code e)

          pub unknown_name : {r : Refusal} → DecodesName q.name (Err r) → well_formed t q s body ≡ Err r
          unfolding well_formed check
          unknown_name h = rw (le-leb (length body) limit l, le-leb (length s) limit m, lt-ltb t types k, known, le-ltb q.name questions h.0, h.1)

          module _ (x : Name) (g : q.name ≡ name_code x) where
            below : q.name < questions
            below = rw g (name_below x)

            in_literals : well_formed t q s body ≡ and_then (literals t most_literals [] s) (λ ls. check (takes q.name (length ls)) Literal (Ok ls))
            unfolding well_formed check
            in_literals = rw (le-leb (length body) limit l, le-leb (length s) limit m, lt-ltb t types k, known, lt-ltb q.name questions below)

            pub misfit : {r : Refusal} → Err r ≡ counted (literals t most_literals [] s) → well_formed t q s body ≡ Err r
            unfolding and_then
            misfit o = in_literals ∙ rw (not_counted (literals t most_literals [] s) o)

            module _ {n : ℕ} (o : Ok n ≡ counted (literals t most_literals [] s)) {b : Bool} (w : b ≡ takes (name_code x) n) where
              taken : b ≡ takes q.name n
              taken = rw g w

              pub wrong-number : b ≡ false → well_formed t q s body ≡ Err Literal
              unfolding and_then check
              wrong-number h =
                  let z = are_counted (literals t most_literals [] s) o in
                  in_literals ∙ rw (z.1, ← z.2, ← taken, h)

              right-number : (ls : List (List ℕ)) → literals t most_literals [] s ≡ Ok ls → n ≡ length ls → b ≡ true → well_formed t q s body ≡ Ok ls
              unfolding and_then check
              right-number ls y z h = in_literals ∙ rw (y, ← z, ← taken, h)

              pub fits_question : b ≡ true → TypesQuestion t q s body (Ok (record { edition = e; name = x }))
              fits_question h =
                  let z = are_counted (literals t most_literals [] s) o in
                  (rw (d, g) refl, (z.0, right-number z.0 z.1 z.2 h))

-- ---- the literals as the code looks them up

module _ (w : Sought) (body : List ℕ) (ls : List (List ℕ)) (y : well_formed w.t (question_of w.question) w.literals.now body ≡ Ok ls) where
  -- EQUAL and NOT EQUAL have one literal, which is the whole buffer
  with_table : Holds w.literals.now w.table ls → Lookup w ls
  unfolding takes
  with_table e =
      let q : Question = question_of w.question in
      let (short, short-literals, known, edition, name, is, fits) = asked_back w.t q w.literals.now body ls y in
      record {
        one = λ l v. listed_alone w.t v w.literals.now ls is (eqb-true (length ls) 1 (rw (lt-ltb q.name is_in l) at fits));
        many = record { accepted = is; held = e };
      }

  pub no_table : w.table ≡ None → Lookup w ls
  no_table e = with_table (rw e tt)

  pub in_table : {table : Bor (List ℕ)} → w.table ≡ Some table → Enters w.t w.literals.now table.now → Lookup w ls
  in_table e h =
      let (short, short-literals, known, edition, name, is, fits) = asked_back w.t (question_of w.question) w.literals.now body ls y in
      with_table (rw e (h ls is))

-- the question's literals are accepted, and a table of zeros holds nothing
pub may_enter : (t : ℕ) (q : Question) (s body : List ℕ) → Asked t q s body → Enterable t s (replicate (slot most_literals) 0)
may_enter t q s body w =
    let (short, short-literals, known, edition, name, is, fits) = asked_back t q s body w.0 w.1 in
    record { ls = w.0; accepted = is; empty = holds_none s (slot most_literals) (omega arith); room = rw length-replicate (omega arith); short = omega arith }

-- ---- the chosen entries

module _ (q : Question) (ls : List (List ℕ)) (d : Dictionary) (f : List ℕ) {after : List ℕ} (m : after ≡ mark_entries d.region (chosen_of q ls d.entries) f)
    {k nulls : ℕ} (o : k ≡ count after d.rows) (z : nulls ≡ matched_for null_question [] d f) where
  abbrev its_record : Record
  its_record = record { rows = d.rows; nulls = nulls; deleted = 0; matched = k }

  is_marked : after ≡ marked_for q ls d f
  unfolding marked_for
  is_marked = m

  is_matched : k ≡ matched_for q ls d f
  unfolding matched_for
  is_matched = o ∙ ap (λ (g : List ℕ). count g d.rows) is_marked

  pub zero_answered : Answers (Ok (answered q ls d f)) (cleared d.rows f) after (Ok (answer_of its_record))
  unfolding answered answered_by answer_buffer
  zero_answered = record { answer = rw (← is_matched, ← z) refl; buffer = is_marked }

-- ---- the whole

-- the number and the record are those of the answer, and so is the fault
pub ask_numbers_lem : (o : Result Answer Refusal) → ask_out (answered_by o) ≡ numbers_of no_record ask_numbers o
unfolding ask_out numbers_of answered_by
ask_numbers_lem (Err r) = refl
ask_numbers_lem (Ok b) = rw (said_again b.said) refl

pub ask_fault_lem : (o : Result Answer Refusal) → ask_fault (answered_by o) ≡ fault_in o
unfolding ask_fault fault_in answered_by
ask_fault_lem (Err r) = refl
ask_fault_lem (Ok b) = refl

module _ (t : ℕ) (q : Question) (s body f : List ℕ) where
  ask_says : {r : Result Said Refusal} {after : List ℕ} → r ≡ answered_by (ask t q s body f) → after ≡ ask_buffer t q s body f → AskPromise t q s body f after r
  ask_says e b = record { answer = e; buffer = b; numbers = rw e (ask_numbers_lem (ask t q s body f)); fault = rw e (ask_fault_lem (ask t q s body f)) }

  pub ask_refused : {r : Refusal} → well_formed t q s body ≡ Err r → AskPromise t q s body f f (Err r)
  unfolding ask ask_buffer zeroed_from answer_buffer answered_by and_then
  ask_refused d = ask_says (rw d) (rw d)

  module _ (y : Asked t q s body) where
    pub ask_unprepared : {r : Refusal} → prepared t body f ≡ Err r → AskPromise t q s body f f (Err r)
    unfolding ask ask_buffer zeroed_from answer_buffer answered_by and_then
    ask_unprepared d = ask_says (rw (y.1, d)) (rw (y.1, d))

    module _ {h : Summary} (d : Prepares t body f (Ok h)) {mid : List ℕ} where
      pub ask_unaudited : {r : Refusal} → ForDictionary t body h (λ d. AuditsField d f mid (Err r)) → AskPromise t q s body f mid (Err r)
      unfolding ask ask_buffer zeroed_from answer_buffer answered_by audited_answer and_then
      ask_unaudited g = let z = g d.0.entries d.0.summary in ask_says (rw (y.1, d.1, z.outcome)) (rw (y.1, d.1, z.outcome) z.buffer)

      module _ {n : ℕ} (g : ForDictionary t body h (λ d. AuditsField d f mid (Ok n))) where
        pub ask_accepts : AuditAccepts t body h mid n
        ask_accepts = record { is_read = d.0; accepts = λ es l. let z = g es l in rw z.buffer z.outcome }

        pub ask_answers : {r : Said} {after : List ℕ} → ForDictionary t body h (λ d. AnswersZero t q s body d mid after r) → AskPromise t q s body f after (Ok r)
        unfolding ask ask_buffer zeroed_from audited_answer answer_buffer and_then
        ask_answers w =
            let z = g d.0.entries d.0.summary in
            let answers = rw (z.buffer, zeroed-again (size h.rows) f) at w d.0.entries d.0.summary y.0 y.1 in
            ask_says (rw (y.1, d.1, z.outcome.0) answers.answer) (rw (y.1, d.1, z.outcome.0) answers.buffer)
