-- The starred table's statement: each case is computed, and the layouts of its bytes are given.
use Prim.Native.Nat.{ℕ, ◌-◌, ◌≤◌, ◌<◌}
use mathlib.Core.Path.{◌≡◌, refl}
use mathlib.Core.List.{List, [], ◌∷◌}
use mathlib.Core.Logic.{inl}
use native.Mathlib.Omega.{arith}
use borrow.Author.Tests.{le-ltb}
use Rattle.numbers.specs.Meaning.{number, signed32, same, minus_one_32}
use Rattle.numbers.proofs.ByteLists.{bytes_one}
use Rattle.refusal.specs.Meaning.{limit}
use Rattle.refusal.specs.declared.Refusal.TheVariants.{Range}
use Rattle.std.specs.Prelude.{Err}
use Rattle.refusal.specs.Reading.{check, and_then, numbers_of}
use Rattle.row_field.specs.Meaning.{bit, mark, mark_all, any_set, zeroed, up_to, rows_from}
use Rattle.subtract.specs.Meaning.{keeps}
use Rattle.roaring.specs.Layout.{Bitmap, plain-bitmap, flagged-bitmap, array, runs}
use Rattle.roaring.specs.Reading.{values_of, runs_of, do_values_rise, runs_rise, size_of_body, body_values, sound, body, offset_checked, containers, contents, read_plain, read_flagged, read}
use Rattle.stored_value.specs.Meaning.{Cell, null, value, Value, width, is_string, boolean_ok, same_cell, signed_number, less, listed}
use Rattle.stored_value.specs.Meaning as values
use Rattle.stored_value.specs.Reading.{value_size, value_of, literals}
use Rattle.dictionary.specs.Layout.{Entry}
use Rattle.dictionary.specs.Reading.{count_at_most, entries_version_one, listings, past, is_value_due, entries_version_two, behind, blocks_of, blocked, null_of, dictionary}
use Rattle.names.specs.Layout.{Scalar, standard_of, modified_of, Named}
use Rattle.names.specs.Reading.{standard_point, points_in, standard_points, told, size_of_asked_name, askable, matches}
use Rattle.index_file.specs.Layout.{ListedIndex, ListedColumn}
use Rattle.index_file.specs.Reading.{sought_numbers}
use Rattle.index_file.specs.Reading as head
use Rattle.bitmap_index.specs.Meaning.{Column, is_known_edition, chosen, takes, scan_from, scan, scan_record}
use Rattle.bitmap_index.specs.Layout.{ColumnEntries, single, ColumnBody, version1, version2}
use Rattle.bitmap_index.specs.Reading.{entry_number, next_number, entry_placed, place_entry, place_entries, room_for, prepared, audited, audit, chosen_of, rows_for, rows_at, mark_entries, marked_for, matched_for, answered, audited_answer, well_formed, ask, answered_by}
use Rattle.file_to_answers.specs.Layout.{ColumnFile}
use Rattle.file_to_answers.specs.Reading.{used, ask_part, file_asked}
use Rattle.file_to_answers.specs.Starred.{cells, one, two, file, s, bitmap, names, Holds, StarredHolds}

-- ---- the layouts of these bytes

tinyint : (b : ℕ) → b < 256 → Value 0 (b ∷ [])
unfolding is_string width boolean_ok
tinyint b h = values.number (b ∷ []) refl refl (bytes_one b h) refl

entry : Cell → ℕ → Entry
entry c r = record { cell = c; offset = minus_one_32 - r; extent = minus_one_32 }

column : Column 0 cells
column = (omega arith, (tinyint 7 (omega arith), (tinyint 9 (omega arith), tt)))

-- each row by its offset alone
kept : (region : List ℕ) → ColumnEntries cells region (entry null 2 ∷ []) (entry (value (7 ∷ [])) 0 ∷ entry (value (9 ∷ [])) 1 ∷ [])
unfolding same same_cell entry
kept region = record {
  null_only = (refl, refl);
  rows = (single 2 refl (omega arith) refl (omega arith), (single 0 refl (omega arith) refl (omega arith), (single 1 refl (omega arith) refl (omega arith), tt)));
  covers = (refl, (refl, (refl, tt)));
}

one_is_its_body : ColumnBody 0 cells one
unfolding same same_cell entry
one_is_its_body =
    version1 (entry null 2 ∷ []) (entry (value (7 ∷ [])) 0 ∷ entry (value (9 ∷ [])) 1 ∷ []) [] column (kept []) (refl, (refl, (refl, tt)))
    (tinyint 7 (omega arith), refl, (tinyint 9 (omega arith), refl, tt)) (omega arith) (omega arith) (omega arith)

two_is_its_body : ColumnBody 0 cells two
unfolding same same_cell entry less signed_number is_string width
two_is_its_body =
    version2 (entry null 2 ∷ []) ((entry (value (7 ∷ [])) 0 ∷ []) ∷ (entry (value (9 ∷ [])) 1 ∷ []) ∷ []) [] column (kept []) (omega arith, (omega arith, tt))
    (tinyint 7 (omega arith), tt, (tinyint 9 (omega arith), refl, tt)) (omega arith) (omega arith) (omega arith) (omega arith)

-- names of ASCII letters are stored as they are asked for
letter : (c : ℕ) → c < 128 → Scalar c
letter c h = inl (omega arith)

s_is_named : Named s s
unfolding standard_of modified_of
s_is_named = record { points = s; scalars = (letter _ (omega arith), tt); asked_is = refl; stored_is = refl }

bitmap_is_named : Named bitmap bitmap
unfolding standard_of modified_of
bitmap_is_named = record {
  points = bitmap;
  scalars = (letter _ (omega arith), (letter _ (omega arith), (letter _ (omega arith), (letter _ (omega arith), (letter _ (omega arith), (letter _ (omega arith), tt))))));
  asked_is = refl;
  stored_is = refl;
}

its_file : ColumnFile 0 cells s bitmap file
its_file =
    let e : ListedIndex = record { name = bitmap; start = 47; length = 24 } in
    let c : ListedColumn = record { name = s; entries = e ∷ [] } in
    record {
      body = one;
      file = record {
        head = record {
          head_length = 47;
          columns = c ∷ [];
          redundant = [];
          rest = one;
          laid = refl;
          whole = refl;
          counts = (omega arith, omega arith, omega arith);
          fit = ((omega arith, omega arith, ((omega arith, omega arith, omega arith), tt)), tt);
        };
        asked = c;
        entry = e;
        column_once = record { before = []; after = []; parts = refl; holds = s_is_named; none_before = tt; none_after = tt };
        kind_once = record { before = []; after = []; parts = refl; holds = bitmap_is_named; none_before = tt; none_after = tt };
        not_negative = (omega arith, omega arith);
        behind = omega arith;
        within = omega arith;
        part = refl;
      };
      laid = one_is_its_body;
      small = omega arith;
    }

array-bitmap : Bitmap (0 ∷ 2 ∷ 5 ∷ []) (0x3A ∷ 0x30 ∷ 0 ∷ 0 ∷ 1 ∷ 0 ∷ 0 ∷ 0 ∷ 0 ∷ 0 ∷ 2 ∷ 0 ∷ 0x10 ∷ 0 ∷ 0 ∷ 0 ∷ 0 ∷ 0 ∷ 2 ∷ 0 ∷ 5 ∷ 0 ∷ [])
array-bitmap =
    plain-bitmap (record { key = 0; body = array (0 ∷ 2 ∷ 5 ∷ []) } ∷ []) (omega arith) refl
    (omega arith, omega arith, (omega arith, omega arith, (omega arith, omega arith, (omega arith, omega arith, (omega arith, omega arith, tt)))), omega arith, tt)

run-bitmap : Bitmap (1 ∷ 2 ∷ 3 ∷ 4 ∷ []) (0x3B ∷ 0x30 ∷ 0 ∷ 0 ∷ 1 ∷ 0 ∷ 0 ∷ 3 ∷ 0 ∷ 1 ∷ 0 ∷ 1 ∷ 0 ∷ 3 ∷ 0 ∷ [])
unfolding up_to mark_all mark
run-bitmap =
    flagged-bitmap (record { key = 0; body = runs (record { start = 1; more = 3 } ∷ []) } ∷ []) (omega arith) (omega arith)
    (omega arith, omega arith, (omega arith, omega arith, (omega arith, omega arith, tt)), tt, tt)

always : (entry extent n : ℕ) (region field : List ℕ) → n ≤ limit → entry_placed entry (signed32 0x80000000) extent n region field ≡ Err (Range entry)
unfolding entry_placed check
always entry extent n region field h = rw (le-ltb 2147483647 n h)

-- an offset that names a row is laid out as this row alone
named_0 : Holds (names 0xFFFFFFFF 0)
unfolding entry_placed
named_0 = (refl, λ entry extent n region field. refl, λ c extent region h. single 0 refl (omega arith) refl h)

named_last : Holds (names 0x80000000 2147483647)
unfolding entry_placed
named_last = (refl, λ entry extent n region field. refl, λ c extent region h. single 2147483647 refl (omega arith) refl h)

pub starred : StarredHolds
unfolding number size_of_asked_name askable matches told standard_points points_in standard_point standard_of modified_of head.find head.within_limits head.file head.count head.name head.entries head.place_after_entry head.columns head.place_after_column head.placed head.head sought_numbers numbers_of used file_asked ask_part read read_plain read_flagged contents containers offset_checked body size_of_body body_values sound values_of runs_of do_values_rise runs_rise bit mark mark_all any_set zeroed up_to rows_from entry_number next_number entry_placed place_entry place_entries rows_for rows_at mark_entries check and_then value_size value_of literals width is_string boolean_ok same same_cell signed_number less listed count_at_most entries_version_one listings past is_value_due entries_version_two behind blocks_of blocked null_of dictionary is_known_edition chosen takes scan_from scan scan_record room_for prepared audited audit chosen_of marked_for matched_for answered audited_answer well_formed ask answered_by keeps
starred = (
  (refl, refl, its_file, refl),
  (
    (refl, one_is_its_body),
    (
      (refl, two_is_its_body),
      (
        (refl, refl, refl, refl, refl),
        (
          (refl, refl, refl, refl, refl),
          (
            (refl, refl, refl, refl, refl),
            (
              (refl, refl, refl, refl, refl),
              (
                (refl, refl, refl, refl, refl),
                (
                  (refl, refl, refl, refl, refl),
                  ((refl, array-bitmap), ((refl, run-bitmap), (named_0, (named_last, (always, tt))))),
                ),
              ),
            ),
          ),
        ),
      ),
    ),
  ),
)
