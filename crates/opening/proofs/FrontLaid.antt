-- What is laid out in version 2 is read: the fields in front of the directory, and where the directory's entries start.
use Prim.Native.Nat.{ℕ, ◌+◌, ◌≤◌}
use mathlib.Core.Path.{◌≡◌, refl, sym, ap, ◌∙◌, subst}
use mathlib.Core.List.{List, [], ◌∷◌, ◌++◌, append_assoc}
use native.Mathlib.Nat.{add-zero, zero-add}
use native.Mathlib.Omega.{arith}
use borrow.Author.Tests.{le-leb}
use lib.ListN.{length, drop, get_or, length-append}
use lib.Seq.{drop_at}
use Rattle.numbers.specs.Meaning.{be, joined}
use Rattle.refusal.specs.Meaning.{limit}
use Rattle.refusal.specs.declared.Refusal.TheVariants.{Short, Dict}
use Rattle.std.specs.Prelude.{Ok}
use Rattle.refusal.specs.Reading.{check}
use Rattle.stored_value.specs.Meaning.{Cell, null, value}
use Rattle.stored_value.specs.Reading.{value_size}
use Rattle.stored_value.proofs.Laws.{value_laid}
use Rattle.dictionary.specs.Layout.{Entry, most_values2, most_blocks, Valued, NullOnly, Patterns, NoneEmpty, value_bytes, has_null_byte, first, block, blocks, directory, null2, body2}
use Rattle.dictionary.specs.Reading.{behind}
use Rattle.dictionary.proofs.LaidOut.{counted_laid, byte_laid, null_flag, null2_laid, Headed, none_exactly, behind_is}
use Rattle.opening.specs.Layout.{before_directory, directory_entry, starts_from, entry_starts}
use Rattle.opening.specs.Reading.{Front, rest_of_front, front, if_sized, starts_in}

-- ---- the body up to its directory

-- what stands behind the directory: the body offset, the blocks, the region of bitmaps
abbrev pub behind_directory : List (List Entry) → List ℕ → List ℕ
behind_directory bs region = be 4 (length (blocks bs)) ++ (blocks bs ++ region)

module _ (n : ℕ) (nulls : List Entry) (bs : List (List Entry)) (region : List ℕ) where
  abbrev from : List ℕ
  from = directory 0 bs ++ behind_directory bs region

  pub body-cut : body2 n nulls bs region ≡ before_directory n nulls bs ++ from
  body-cut = sym (ap (λ (x : List ℕ). 2 ∷ (be 4 n ++ (be 4 (length (joined bs)) ++ (has_null_byte nulls ∷ x)))) (append_assoc (null2 nulls) (be 4 (length bs)) from))

  -- the directory begins where what stands before it ends
  pub directory_at : behind (body2 n nulls bs region) from ≡ length (before_directory n nulls bs)
  directory_at = behind_is (length (before_directory n nulls bs)) (body2 n nulls bs region) from
      (ap length body-cut ∙ length-append (before_directory n nulls bs) from)

-- ---- the fields

-- what is read in front of a directory that was laid out
abbrev pub front_laid : ℕ → List Entry → List (List Entry) → List ℕ → Front
front_laid n nulls bs region = record { rows = n; values = length (joined bs); nulls = nulls; blocks = length bs; directory = directory 0 bs ++ behind_directory bs region }

pub front_laid_lem : (n : ℕ) (nulls : List Entry) (bs : List (List Entry)) (region : List ℕ) → NullOnly nulls → Patterns nulls → NoneEmpty bs → n ≤ limit
    → length (joined bs) ≤ most_values2 → length bs ≤ most_blocks → front (body2 n nulls bs region) ≡ Ok (front_laid n nulls bs region)
unfolding front rest_of_front check
front_laid_lem n nulls bs region o p ne hn hv hb =
    let m : ℕ = length (joined bs) in
    let last : List ℕ = directory 0 bs ++ behind_directory bs region in
    let more : List ℕ = null2 nulls ++ (be 4 (length bs) ++ last) in
    byte_laid 2 (be 4 n ++ (be 4 m ++ (has_null_byte nulls ∷ more))) _
    ∙ counted_laid limit n (be 4 m ++ (has_null_byte nulls ∷ more)) _ hn hn
    ∙ counted_laid most_values2 m (has_null_byte nulls ∷ more) _ hv (omega arith)
    ∙ byte_laid (has_null_byte nulls) more _
    ∙ rw (le-leb (has_null_byte nulls) 1 (null_flag nulls))
    (null2_laid nulls (be 4 (length bs) ++ last) _ o p
    ∙ counted_laid most_blocks (length bs) last _ hb (omega arith)
    ∙ rw (none_exactly bs ne))

-- ---- the table

pub starts_length : (start at : ℕ) (bs : List (List Entry)) → length (starts_from start at bs) ≡ length bs
starts_length start at [] = refl
starts_length start at (b ∷ bs) = rw (starts_length (start + length (directory_entry at b)) (at + length (block b)) bs)

size_laid : (t : ℕ) (c : Cell) (tail : List ℕ) → Valued t c → value_size Short Dict t (value_bytes c ++ tail) ≡ Ok (length (value_bytes c))
size_laid t null tail v = absurd v
size_laid t (value w) tail v = value_laid Short Dict t w tail v

-- where the entries of a directory start is read off it
pub starts_laid : (t start at : ℕ) (bs : List (List Entry)) (s : List ℕ) → Headed t bs
    → starts_in t (length bs) start (directory at bs ++ s) ≡ starts_from start at bs
unfolding starts_in if_sized
starts_laid t start at [] s h = refl
starts_laid t start at (b ∷ bs) s h =
    let v : List ℕ = value_bytes (first b) in
    let more : List ℕ = directory (at + length (block b)) bs in
    let rest : List ℕ = more ++ s in
    let m : length (directory_entry at b) ≡ length v + 4 = length-append v (be 4 at) in
    let e : (v ++ (be 4 at ++ more)) ++ s ≡ v ++ (be 4 at ++ rest) = append_assoc v (be 4 at ++ more) s in
    let d : drop (length v + 4) (v ++ (be 4 at ++ rest)) ≡ rest = rw (← append_assoc v (be 4 at) rest) (drop_at (v ++ be 4 at) rest (length v + 4) m) in
    let z : start + length (directory_entry at b) ≡ start + length v + 4 = omega arith in
    rw (e, size_laid t (first b) (be 4 at ++ rest) h.0, d, z)
    (ap (λ (x : List ℕ). start ∷ x) (starts_laid t (start + length v + 4) (at + length (block b)) bs s h.1))

-- ---- where an entry is said to start, it stands

-- the directory of blocks that are cut in two: that of those behind goes on where the blocks before end
directory-append : (at : ℕ) (xs ys : List (List Entry)) → directory at (xs ++ ys) ≡ directory at xs ++ directory (at + length (blocks xs)) ys
directory-append at [] ys = rw add-zero
directory-append at (x ∷ xs) ys =
    let mid : ℕ = at + length (block x) in
    let e : at + length (block x ++ blocks xs) ≡ mid + length (blocks xs) = omega (arith, length-append (block x) (blocks xs)) in
    rw (directory-append mid xs ys, e) (sym (append_assoc (value_bytes (first x)) (be 4 at ++ directory mid xs) (directory (mid + length (blocks xs)) ys)))

-- the word for the block b, which stands behind the blocks xs, whatever lies behind the words
start_at : (start at : ℕ) (xs : List (List Entry)) (b : List Entry) (ys : List (List Entry)) (more : List ℕ)
    → get_or (starts_from start at (xs ++ (b ∷ ys)) ++ more) (length xs) 0 ≡ start + length (directory at xs)
start_at start at [] b ys more = sym (add-zero start)
start_at start at (x ∷ xs) b ys more =
    let v : List ℕ = value_bytes (first x) in
    let rest : List ℕ = directory (at + length (block x)) xs in
    start_at (start + length (directory_entry at x)) (at + length (block x)) xs b ys more
    ∙ omega (arith, length-append v (be 4 at), length-append v (be 4 at ++ rest))

-- there its entry stands, with the rest of the directory behind it
stands_at : (before tail more : List ℕ) (xs : List (List Entry)) (b : List Entry) (ys : List (List Entry))
    → drop (get_or (starts_from (length before) 0 (xs ++ (b ∷ ys)) ++ more) (length xs) 0) (before ++ (directory 0 (xs ++ (b ∷ ys)) ++ tail))
    ≡ value_bytes (first b) ++ (be 4 (length (blocks xs)) ++ (directory (length (blocks xs) + length (block b)) ys ++ tail))
stands_at before tail more xs b ys =
    let at : ℕ = length (blocks xs) in
    let d : List ℕ = directory 0 xs in
    let here : List ℕ = directory at (b ∷ ys) in
    let cut : directory 0 (xs ++ (b ∷ ys)) ≡ d ++ here = directory-append 0 xs (b ∷ ys) ∙ ap (λ (p : ℕ). d ++ directory p (b ∷ ys)) (zero-add at) in
    rw (start_at (length before) 0 xs b ys more, cut, append_assoc d here tail, ← append_assoc before d (here ++ tail))
    (drop_at (before ++ d) (here ++ tail) (length before + length d) (length-append before d)
    ∙ append_assoc (value_bytes (first b)) (be 4 at ++ directory (at + length (block b)) ys) tail)

pub entry_stands : (n : ℕ) (nulls : List Entry) (bs : List (List Entry)) (region more : List ℕ) (xs : List (List Entry)) (b : List Entry) (ys : List (List Entry))
    → bs ≡ xs ++ (b ∷ ys)
    → drop (get_or (entry_starts n nulls bs ++ more) (length xs) 0) (body2 n nulls bs region)
    ≡ value_bytes (first b) ++ (be 4 (length (blocks xs)) ++ (directory (length (blocks xs) + length (block b)) ys ++ behind_directory bs region))
entry_stands n nulls bs region more xs b ys e =
    let tail : List ℕ = behind_directory bs region in
    let before : List ℕ = before_directory n nulls bs in
    let there : List ℕ = value_bytes (first b) ++ (be 4 (length (blocks xs)) ++ (directory (length (blocks xs) + length (block b)) ys ++ tail)) in
    ap (drop (get_or (entry_starts n nulls bs ++ more) (length xs) 0)) (body-cut n nulls bs region)
    ∙ subst (λ (zs : List (List Entry)). drop (get_or (starts_from (length before) 0 zs ++ more) (length xs) 0) (before ++ (directory 0 zs ++ tail)) ≡ there)
    (sym e) (stands_at before tail more xs b ys)
