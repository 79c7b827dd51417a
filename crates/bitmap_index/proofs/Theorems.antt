-- The claims of specs/Claims, proved in their order there.
use Prim.Native.Nat.{ℕ, ◌+◌, ◌<◌, ◌≤◌}
use mathlib.Core.Path.{◌≡◌, sym, ap, ◌∙◌}
use mathlib.Core.Logic.{◌↔◌}
use mathlib.Core.List.{List, [], ◌++◌}
use native.Mathlib.Decide.{dec_lt}
use native.Mathlib.Omega.{arith}
use borrow.Author.Tests.{le-leb, lt-leb}
use lib.ListN.{length, replicate, length-replicate}
use Rattle.numbers.specs.Meaning.{joined, Bytes}
use Rattle.refusal.specs.Meaning.{limit}
use Rattle.refusal.specs.declared.Refusal.{Refusal}
use Rattle.refusal.specs.declared.Refusal.TheVariants.{Room}
use Rattle.row_field.specs.Meaning.{size, cleared}
use Rattle.row_field.proofs.Laws.{bytes-zeros}
use Rattle.row_field.proofs.Counts.{length-zeroed, bit-zeroed}
use Rattle.std.specs.Prelude.{Result, Err, Ok}
use Rattle.refusal.specs.Reading.{check, and_then}
use Rattle.stored_value.proofs.Laws.{literals_back}
use Rattle.dictionary.specs.Reading.{Dictionary}
use Rattle.bitmap_index.specs.Meaning.{WellFormed, null_question}
use Rattle.bitmap_index.specs.Layout.{version1, version2}
use Rattle.bitmap_index.specs.Reading.{room_for, prepared, audited, audit, matched_for, Answer, answered, audited_answer, ask}
use Rattle.bitmap_index.specs.Claims.{ColumnIsAnswered, AcceptedIsAColumn, OneColumn, EachRowHasOnePlace, AcceptedIsAnswered, AnsweredAsTheScan, RecordSaysItsRows, SecondIsFirstWithoutNulls, OthersStay, OthersAreAnsweredAlike, OtherEditionIsLiteral, ShortOfRoom, RefusedForRoom, RefusedIsNoColumn, AcceptedAreTheColumns, UnknownVersionIsRefused, UnknownVersionYieldsNothing, FaultIs, AuditNamesTheFault, AskNamesTheFault, OutsideIsContainer0, NothingBeforeBitmaps}
use Rattle.bitmap_index.proofs.ScanAnswers.{HasColumn}
use Rattle.bitmap_index.proofs.BodyAnswers.{answers_as_scan, body_column, all_patterns, region1, region2}
use Rattle.dictionary.specs.Layout.{body1, body2}
use Rattle.dictionary.proofs.LaidOut.{one_laid, two_laid}
use Rattle.dictionary.specs.Claims.{LaidOut, in_one, in_two}
use Rattle.dictionary.proofs.Theorems.{read_is_laid_out, one_has_each_once, two_has_each_once, region_is_bytes}
use Rattle.bitmap_index.proofs.SameColumn.{same_column}
use Rattle.bitmap_index.proofs.Editions.{is_without, same-scan, same-ask, same_buffer, no_edition}
use Rattle.refusal.proofs.Laws.{not-ok, ok_same, then_ok, check-ok}
use Rattle.bitmap_index.proofs.AcceptedStages.{prepared_back, audit_passed, asked_back, ask_stages, ask_parts, no_literals}
use Rattle.bitmap_index.proofs.Accepted.{holder, column_of, length-table, passed_body, laid_patterns, passed_once}
use Rattle.bitmap_index.proofs.CarriesNothing.{well_formed_bare, prepared_bare}
use Rattle.bitmap_index.proofs.Faults.{refused_exactly, outside-broken}
use Rattle.bitmap_index.proofs.Versions.{version-audited, version-audited_buffer, version_asked, version_asked_buffer}

-- ---- from a body to its answers

pub column_is_answered : ColumnIsAnswered
column_is_answered t cells body (version1 nulls es region c k x d n l z) field b h =
    let s : length region ≤ limit = omega (arith, region1 (length cells) nulls es region) in
    let w : HasColumn cells (nulls ++ es) region = record { placed = k.rows; once = one_has_each_once t nulls es d k.null_only; covers = k.covers; short = s } in
    answers_as_scan t cells (nulls ++ es) region (body1 (length cells) nulls es region) field z
    (one_laid t (length cells) nulls es region c.0 d k.null_only x (all_patterns region cells (nulls ++ es) s k.rows) n l) w b h
column_is_answered t cells body (version2 nulls bs region c k x r n l m z) field b h =
    let s : length region ≤ limit = omega (arith, region2 (length cells) nulls bs region) in
    let w : HasColumn cells (nulls ++ joined bs) region = record { placed = k.rows; once = two_has_each_once t nulls (joined bs) r k.null_only; covers = k.covers; short = s } in
    answers_as_scan t cells (nulls ++ joined bs) region (body2 (length cells) nulls bs region) field z
    (two_laid t (length cells) nulls bs region c.0 k.null_only x r (all_patterns region cells (nulls ++ joined bs) s k.rows) n l m z) w b h

-- ---- what Audit accepts

pub accepted_is_a_column : AcceptedIsAColumn
accepted_is_a_column t body field n b e =
    let p = audit_passed t body field n e in
    let d : Dictionary = p.read in
    (column_of d.region d.entries d.rows, passed_body t body field n b p, length-table (holder d.region d.entries) 0 d.rows ∙ p.rows)

pub each_row_has_one_place : EachRowHasOnePlace
each_row_has_one_place t body field n b e = passed_once t body field n b (audit_passed t body field n e)

pub one_column : OneColumn
one_column t cells cells' body b b' =
    let m : ℕ = size (length cells) + size (length cells') in
    let field : List ℕ = replicate m 0 in
    let l = length-replicate {A = ℕ} m 0 in
    let a = column_is_answered t cells body b field (bytes-zeros m) (omega arith) in
    let a' = column_is_answered t cells' body b' field (bytes-zeros m) (omega arith) in
    same_column t cells cells' body field a a' (body_column t cells body b).0

pub accepted_is_answered : AcceptedIsAnswered
accepted_is_answered t body field n b bf e =
    let (cells, is, rows) = accepted_is_a_column t body field n b e in
    let p = audit_passed t body field n e in
    let h : size (length cells) ≤ length field = rw (rows ∙ sym p.rows) p.filled.room in
    (cells, record { is_body = is; only = λ others o. one_column t others cells body o is }, rows, column_is_answered t cells body is field bf h)

pub answered_as_the_scan : AnsweredAsTheScan
answered_as_the_scan t q literal body field a bl b bf e =
    let (ls, n, first, whole) = ask_parts t q literal body field a e in
    let (short, short-literals, known, edition, name, read, fit) = asked_back t q literal body ls first in
    let (spelled, fits, few) = literals_back t literal ls bl read in
    let (cells, column, rows, answers) = accepted_is_answered t body field n b bf whole in
    let g : WellFormed t q ls = record { known_type = known; known_edition_lem = edition; known-name = name; few = few; form = fits; number = fit } in
    record {
      ls = ls;
      spelled = spelled;
      well_formed_lem = g;
      cells = cells;
      column = column;
      answer = ok_same a _ (sym e ∙ ap (λ (x : List ℕ). ask t q x body field) spelled ∙ answers.asked q ls g);
    }

-- ---- the record

pub record_says_its_rows : RecordSaysItsRows
unfolding answered matched_for
record_says_its_rows t q literal body field a e =
    let (ls, d, n, first, read, third, is) = ask_stages t q literal body field a e in
    record {
      matched = rw is;
      nulls = λ b f.
          let (ls', d', n', first', read', third', is') = ask_stages t null_question [] body field b f in
          let same : d' ≡ d = ok_same d' d (sym read' ∙ read) in
          rw (is, is', no_literals t body ls' first', same);
      deleted = rw is;
    }

-- ---- the editions

pub second_is_first_without_nulls : SecondIsFirstWithoutNulls
second_is_first_without_nulls name ls cells other = is_without name ls other cells

pub others_stay : OthersStay
others_stay name ls cells e n = same-scan name e n ls cells

pub others_are_answered_alike : OthersAreAnsweredAlike
others_are_answered_alike t name literal body field e n = (same-ask name e n t literal body field, same_buffer name e n t literal body field)

pub other_edition_is_literal : OtherEditionIsLiteral
other_edition_is_literal t q literal body field e short short-literals = no_edition t q literal body field e short short-literals

-- ---- what is refused

pub short_of_room : ShortOfRoom
unfolding audit prepared room_for and_then check
short_of_room t cells body field b h =
    let m : ℕ = size (length cells) in
    let l = length-replicate {A = ℕ} m 0 in
    let a = column_is_answered t cells body b (replicate m 0) (bytes-zeros m) (omega arith) in
    let p = audit_passed t body (replicate m 0) (length cells) a.audited in
    let s : length field < size p.read.rows = rw p.rows h in
    rw (le-leb (length body) limit p.short, p.is, lt-leb (size p.read.rows) (length field) s)

pub refused_for_room : RefusedForRoom
refused_for_room t cells body field r bf b e = go (dec_lt (length field) (size (length cells)))
  where
    go : Dec (length field < size (length cells)) → (r ≡ Room) × (length field < size (length cells))
    go (yes h) = let q = short_of_room t cells body field b h in (cc, h)
    go (no h) =
        absurd (not-ok (sym e ∙ (column_is_answered t cells body b field bf (omega arith)).audited))

pub refused_is_no_column : RefusedIsNoColumn
refused_is_no_column t body field r bf h e cells b =
    omega (arith, (refused_for_room t cells body field r bf b e).1, (body_column t cells body b).1)

pub accepted_are_the_columns : AcceptedAreTheColumns
accepted_are_the_columns t body field b bf h = (
  λ x. let (cells, is, rows) = accepted_is_a_column t body field x.0 b x.1 in (cells, is),
  λ x. (length x.0, (column_is_answered t x.0 body x.1 field bf (omega (arith, (body_column t x.0 body x.1).1))).audited),
)

-- ---- versions

pub unknown_version_is_refused : UnknownVersionIsRefused
unknown_version_is_refused t q v s literal field n n' =
    record {
      audited = version-audited t v s field n n';
      audited_buffer = version-audited_buffer t v s field n n';
      answered = version_asked t v s field n n' q literal;
      answered_buffer = version_asked_buffer t v s field n n' q literal;
    }

pub unknown_version_yields_nothing : UnknownVersionYieldsNothing
unknown_version_yields_nothing t q v s literal field n n' =
    let w = unknown_version_is_refused t q v s literal field n n' in (
      λ m e. not-ok (check-ok _ _ _ m (check-ok _ _ _ m (sym w.audited ∙ e)).1).1,
      λ a e. not-ok (then_ok _ _ a (sym w.answered ∙ e)).2,
    )

-- ---- which entry is broken

region_short : (t : ℕ) (s : List ℕ) (d : Dictionary) → LaidOut t s d → length d.region ≤ length s
region_short t s d (in_one rows nulls es region _ _ _ _ _ _ e c) = rw (e, c) (region1 rows nulls es region)
region_short t s d (in_two rows nulls bs region _ _ _ _ _ _ _ _ e c) = rw (e, c) (region2 rows nulls bs region)

-- a refusal that is followed by an answer is the audit's
answered_refused : (o : Result ℕ Refusal) (a : Answer) (r : Refusal) → and_then o (λ rows. Ok a) ≡ Err r → o ≡ Err r
unfolding and_then
answered_refused (Err x) a r e = let i : x ≡ r = cc in rw i
answered_refused (Ok n) a r e = absurd (not-ok (sym e))

audited_names_the_fault : (t : ℕ) (body field : List ℕ) (d : Dictionary) (r : Refusal) → Bytes body → prepared t body field ≡ Ok d
    → (audited d (cleared d.rows field) ≡ Err r) ↔ FaultIs d r
audited_names_the_fault t body field d r b e =
    let (short, is, room) = prepared_back t body field d e in
    let (known, laid) = read_is_laid_out t body d b short is in
    refused_exactly d (cleared d.rows field) (rw (length-zeroed (size d.rows) field) room) (λ i l. bit-zeroed (size d.rows) field i (omega arith))
    (region_is_bytes t body d b laid) (omega (arith, region_short t body d laid)) (laid_patterns t body d laid) r

pub audit_names_the_fault : AuditNamesTheFault
unfolding audit and_then
audit_names_the_fault t body field d r b e = rw e (audited_names_the_fault t body field d r b e)

pub ask_names_the_fault : AskNamesTheFault
unfolding ask audited_answer and_then
ask_names_the_fault t q literal body field ls d r b w e =
    let (there, back) = audited_names_the_fault t body field d r b e in
    let zero : List ℕ = cleared d.rows field in
    rw (w, e) (λ x. there (answered_refused (audited d zero) (answered q ls d zero) r x), λ f. rw (back f))

pub outside_is_container_0 : OutsideIsContainer0
outside_is_container_0 region at long extent l says o = outside-broken region at long extent l says o

pub nothing_before_bitmaps : NothingBeforeBitmaps
nothing_before_bitmaps t q literal body field = (well_formed_bare t q literal body, prepared_bare t body field)
