-- Laws of the reading of a file: the limits, and the fields in front of the columns, in their order.
use Rattle.std.proofs.lemmas.List.{take_rest}
use Prim.Native.Nat.{ℕ, ◌-◌, ◌<◌, ◌≤◌}
use mathlib.Core.Path.{◌≡◌, sym, ◌∙◌}
use mathlib.Core.Bool.{Bool, true, false, ◌&&◌}
use mathlib.Core.List.{List}
use native.Mathlib.Omega.{arith}
use lib.Dec.{leb, eqb}
use lib.ListN.{length, take, drop}
use borrow.Author.Tests.{le-leb, lt-leb, eq-eqb, ne_eqb, leb-true}
use Rattle.numbers.proofs.Booleans.{and_both}
use Rattle.numbers.specs.Meaning.{be_at, number, big}
use Rattle.numbers.proofs.Laws.{number_at_lem}
use Rattle.refusal.specs.Meaning.{limit}
use Rattle.refusal.specs.declared.Refusal.{Refusal}
use Rattle.std.specs.Prelude.{Err}
use Rattle.refusal.specs.Reading.{check}
use Rattle.names.specs.Layout.{name_limit}
use Rattle.names.specs.Reading.{size_of_asked_name, askable, matches}
use Rattle.index_file.specs.Layout.{magic, file_version, front_size, least_head}
use Rattle.index_file.specs.Promises.{HasSize}
use Rattle.index_file.specs.Reading.{count, head, file, within_limits, find}

-- ---- the fields in front of the columns

module _ (isColumn isKind : List ℕ → Bool) (bytes : List ℕ) where
  pub file_short : length bytes < front_size → file isColumn isKind bytes ≡ Err Refusal.Short
  unfolding file check
  file_short h = simp lt-leb

  module _ (h : front_size ≤ length bytes) {stored : ℕ} (e : stored ≡ be_at 8 bytes 0) where
    from-magic : file isColumn isKind bytes ≡ check (eqb stored magic) Refusal.Magic (number big 4 (Err Refusal.Short) (drop 8 bytes) (λ version s.
        check (eqb version file_version) Refusal.Version (count s (λ n s.
        check (leb least_head n) Refusal.Head (check (leb n (length bytes)) Refusal.Head (head isColumn isKind n (length bytes) (drop front_size (take n bytes))))))))
    unfolding file check
    from-magic = simp le-leb (number_at_lem big 8 (Err Refusal.Short) bytes 0 _ (omega arith) ∙ simp (← e))

    pub file-magic : (stored ≡ magic → ⊥) → file isColumn isKind bytes ≡ Err Refusal.Magic
    unfolding check
    file-magic g = from-magic ∙ simp (ne_eqb stored magic g)

    module _ (g : stored ≡ magic) {version : ℕ} (e' : version ≡ be_at 4 bytes 8) where
      from-version : file isColumn isKind bytes ≡ check (eqb version file_version) Refusal.Version (count (drop 12 bytes) (λ n s.
          check (leb least_head n) Refusal.Head (check (leb n (length bytes)) Refusal.Head (head isColumn isKind n (length bytes) (drop front_size (take n bytes))))))
      unfolding check
      from-version = from-magic ∙ simp (eq-eqb stored magic g) (number_at_lem big 4 (Err Refusal.Short) bytes 8 _ (omega arith) ∙ simp (← e'))

      pub file_version_lem : (version ≡ file_version → ⊥) → file isColumn isKind bytes ≡ Err Refusal.Version
      unfolding check
      file_version_lem f = from-version ∙ simp (ne_eqb version file_version f)

      pub from-count : version ≡ file_version → file isColumn isKind bytes ≡ count (drop 12 bytes) (λ n s.
          check (leb least_head n) Refusal.Head (check (leb n (length bytes)) Refusal.Head (head isColumn isKind n (length bytes) (drop front_size (take n bytes)))))
      unfolding check
      from-count f = from-version ∙ simp (eq-eqb version file_version f)

  -- the same, where the code takes what stands behind the first two
  pub file_counted : front_size ≤ length bytes → {stored : ℕ} → stored ≡ be_at 8 bytes 0 → stored ≡ magic → {version : ℕ} → version ≡ be_at 4 bytes 8 → version ≡ file_version
      → file isColumn isKind bytes ≡ count (take (length bytes - 12) (drop 12 bytes)) (λ n s.
      check (leb least_head n) Refusal.Head (check (leb n (length bytes)) Refusal.Head (head isColumn isKind n (length bytes) (drop front_size (take n bytes)))))
  file_counted h e g e' g' = rw take_rest (from-count h e g e' g')

module _ (bytes column kind : List ℕ) where
  pub find_long : limit < length bytes → find bytes column kind ≡ Err Refusal.Limit
  unfolding find within_limits check
  find_long h = simp lt-leb

  pub find_column : length bytes ≤ limit → limit < length column → find bytes column kind ≡ Err Refusal.Limit
  unfolding find within_limits check
  find_column a h = simp (le-leb, lt-leb)

  pub find_kind : length bytes ≤ limit → length column ≤ limit → limit < length kind → find bytes column kind ≡ Err Refusal.Limit
  unfolding find within_limits check
  find_kind a b h = simp (le-leb, lt-leb)

  module _ (a : length bytes ≤ limit) (b : length column ≤ limit) (c : length kind ≤ limit) where
    pub find_unaskable : askable column && askable kind ≡ false → find bytes column kind ≡ Err Refusal.Literal
    unfolding find within_limits check
    find_unaskable e = simp (le-leb, e)

    pub find-file : askable column && askable kind ≡ true → find bytes column kind ≡ file (matches column) (matches kind) bytes
    unfolding find within_limits check
    find-file e = simp (le-leb, e)
