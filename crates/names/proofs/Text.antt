-- An asked name as a text of std's: its characters are the code points that the reading finds, and what the loops over them gather.
use Rattle.std.proofs.Common.{◌≡◌, ℕ, ◌+◌, ◌-◌, ◌<◌, ◌≤◌, Bool, true, false, ◌&&◌, min, List, [], ◌∷◌, ◌++◌, length, take, drop, refl, sym, ap, ap₂, ◌∙◌, arith, Some, None, Ok, Err, IsUtf8, length-append, length-drop}
use mathlib.Core.Bool.{and_assoc}
use mathlib.Core.Logic.{⊎_elim}
use native.Mathlib.Decide.{ℕ_discrete}
use lib.Dec.{eqb}
use lib.ListN.{drop_of_length-le}
use lib.Seq.{drop-drop}
use lib.Utf8.{scalar, scalars, encode, encodes, scalar_cases}
use borrow.Author.Tests.{le-leb, lt-ltb, le-ltb, eq-eqb, ne_eqb}
use Rattle.std.specs.Str.{chars}
use Rattle.std.proofs.lemmas.Bool.{and_parts}
use Rattle.std.proofs.lemmas.Str.{chars-nil, chars_past_char, IsUtf8-past_char, encodes-chars, scalars-chars}
use Rattle.numbers.specs.Meaning.{All, same, position}
use Rattle.numbers.proofs.SameBytes.{same_refl, same-sym, same-other}
use Rattle.refusal.proofs.Laws.{not-ok}
use Rattle.names.specs.Layout.{Scalar, standard_of, standard, modified_of, modified, name_limit}
use Rattle.names.specs.Reading.{Spelled, standard_points, told, size_of_asked_name, matches}
use Rattle.names.specs.Promises.{BeginsWith, BeginsWithNone, SizeIs, form_stands_at}
use Rattle.names.proofs.Lists.{no_bytes}
use Rattle.names.proofs.Theorems.{standard_is_read, read-or, telling, size-told, no_size, standard-short}

-- ---- std's text and the standard form

same_form : (c : ℕ) → encode c ≡ standard_of c
unfolding encode standard_of
same_form c = refl

same_forms : (cs : List ℕ) → encodes cs ≡ standard cs
same_forms [] = refl
same_forms (c ∷ cs) = ap₂ (λ (x y : List ℕ). x ++ y) (same_form c) (same_forms cs)

are_scalars : (cs : List ℕ) → scalars cs ≡ true → All Scalar cs
are_scalars [] e = tt
are_scalars (c ∷ cs) e = let p = and_parts _ _ e in (scalar_cases c p.0, are_scalars cs p.1)

one_scalar : (c : ℕ) → Scalar c → scalar c ≡ true
one_scalar c s = ⊎_elim (λ h. simp (lt-ltb c 55296 h)) (λ h. let l : 55296 ≤ c = omega (arith, h.0) in simp (le-ltb c 55296 l, le-leb 57344 c h.0, lt-ltb c 1114112 h.1)) s

all_scalars : (cs : List ℕ) → All Scalar cs → scalars cs ≡ true
all_scalars [] h = refl
all_scalars (c ∷ cs) h = simp (one_scalar c h.0, all_scalars cs h.1)

module _ (asked : List ℕ) where
  module _ (text : IsUtf8 asked) where
    pub spelled : asked ≡ standard (chars asked)
    spelled = sym (sym (same_forms (chars asked)) ∙ encodes-chars asked text)

    text_told : {B : Type 0} (none : B) (f : List ℕ → B) → told none f (standard_points asked) ≡ f (chars asked)
    text_told none f = telling none f asked (chars asked) (are_scalars (chars asked) (scalars-chars asked text)) spelled

    size_of_text : size_of_asked_name asked ≡ min (length (modified (chars asked))) (name_limit + 1)
    size_of_text = size-told asked (chars asked) (are_scalars (chars asked) (scalars-chars asked text)) spelled

  other_told : {B : Type 0} (none : B) (f : List ℕ → B) → (IsUtf8 asked → ⊥) → told none f (standard_points asked) ≡ none
  unfolding told
  other_told none f n = ⊎_elim (λ x. absurd (n (x.0, (all_scalars x.0 x.1, same_forms x.0 ∙ sym x.2)))) (λ e. rw e) (read-or asked)

  -- ---- the size of an asked name

  pub size-long : name_limit < length asked → SizeIs asked None
  size-long l = ⊎_elim (λ x. omega (arith, size-told asked x.0 x.1 x.2, ap length x.2, standard-short x.0)) (λ e. no_size asked e) (read-or asked)

  pub size_other : (IsUtf8 asked → ⊥) → SizeIs asked None
  unfolding size_of_asked_name
  size_other n = other_told (name_limit + 1) _ n

-- so many bytes have the code points in front of what is left
pub record Sized (asked rest : List ℕ) (size : ℕ) : Type 0 where
  pub text : IsUtf8 rest
  pub so : size + length (modified (chars rest)) ≡ length (modified (chars asked))

pub sized_first : {asked rest : List ℕ} → IsUtf8 asked → rest ≡ asked → Sized asked rest 0
sized_first t e = rw e (record { text = t; so = omega arith })

module _ {asked rest : List ℕ} {size : ℕ} (st : Sized asked rest size) where
  pub sized_done : IsUtf8 asked → length rest ≡ 0 → size ≤ name_limit → SizeIs asked (Some size)
  sized_done t e l =
      let x : chars rest ≡ [] = ap chars (no_bytes rest e) ∙ chars-nil in
      (omega (arith, st.so, ap (λ (cs : List ℕ). length (modified cs)) x, size_of_text asked t), l)

  module _ (c : ℕ) (left : List ℕ) (e : rest ≡ encode c ++ left) {m : ℕ} (w : m ≡ length (modified_of c)) where
    pub sized_next : Sized asked left (size + m)
    sized_next = record {
      text = IsUtf8-past_char rest left c st.text e;
      so = omega (arith, st.so, ap (λ (cs : List ℕ). length (modified cs)) (chars_past_char rest left c st.text e), length-append (modified_of c) (modified (chars left)), w);
    }

    pub sized_over : IsUtf8 asked → name_limit < size + m → SizeIs asked None
    sized_over t l = omega (arith, sized_next.so, size_of_text asked t)

-- ---- what is told of bytes, by their first code point

told_none : {B : Type 0} (none : B) (f : List ℕ → B) → ((cs : List ℕ) → f cs ≡ none) → (o : Spelled (List ℕ)) → told none f o ≡ none
unfolding told
told_none none f h (Err r) = refl
told_none none f h (Ok cs) = h cs

told_same : {B : Type 0} (none : B) (f g : List ℕ → B) → ((cs : List ℕ) → f cs ≡ g cs) → (o : Spelled (List ℕ)) → told none f o ≡ told none g o
unfolding told
told_same none f g h (Err r) = refl
told_same none f g h (Ok cs) = h cs

no_text : (s : List ℕ) → standard_points s ≡ Err tt → IsUtf8 s → ⊥
no_text s e t = not-ok (sym e ∙ ap standard_points (spelled s t) ∙ standard_is_read (chars s) (are_scalars (chars s) (scalars-chars s t)))

told_first : {B : Type 0} (none : B) (f : List ℕ → B) (c : ℕ) (left : List ℕ) → Scalar c
    → told none f (standard_points (standard_of c ++ left)) ≡ told none (λ cs. f (c ∷ cs)) (standard_points left)
unfolding told
told_first none f c left sc =
    ⊎_elim
    (λ x.
    telling none f (standard_of c ++ left) (c ∷ x.0) (sc, x.1) (ap (λ (l : List ℕ). standard_of c ++ l) x.2)
    ∙ sym (telling none (λ cs. f (c ∷ cs)) left x.0 x.1 x.2))
    (λ e.
    other_told (standard_of c ++ left) none f
    (λ t. no_text left e (IsUtf8-past_char (standard_of c ++ left) left c t (ap (λ (l : List ℕ). l ++ left) (sym (same_form c)))))
    ∙ sym (ap (told none (λ cs. f (c ∷ cs))) e))
    (read-or left)

told_broken : {B : Type 0} (none : B) (f : List ℕ → B) (s : List ℕ) → 0 < length s → BeginsWithNone s → told none f (standard_points s) ≡ none
told_broken none f s h n = other_told s none f (λ t. by (chars s) (are_scalars (chars s) (scalars-chars s t)) (spelled s t))
  where
    by : (cs : List ℕ) → All Scalar cs → s ≡ standard cs → ⊥
    by [] a e = omega (arith, ap length e)
    by (c ∷ cs) a e = n c (standard cs) (a.0, e)

-- ---- whether a stored name is the asked one

-- the code points that are left are what is stored from q on
abbrev pub stored_from : List ℕ → ℕ → List ℕ → Bool
stored_from stored q cs = same (modified cs) (drop q stored)

-- what is told of the whole is told of what is left of both
pub record Matched (asked stored rest : List ℕ) (q : ℕ) : Type 0 where
  pub so : matches asked stored ≡ told false (stored_from stored q) (standard_points rest)

pub matched_first : (asked stored : List ℕ) → Matched asked stored asked 0
unfolding matches
matched_first asked stored = record { so = refl }

pub matches_longer : (asked stored : List ℕ) → length stored < length asked → false ≡ matches asked stored
unfolding matches told
matches_longer asked stored l =
    ⊎_elim
    (λ x. sym (telling false _ asked x.0 x.1 x.2 ∙ same-other (modified x.0) stored (λ e. omega (arith, e, ap length x.2, standard-short x.0))))
    (λ e. rw e) (read-or asked)

-- an asked name that is no text is no stored one. No proof here needs it: it is for those who cite these laws
pub matches_other : (asked stored : List ℕ) → (IsUtf8 asked → ⊥) → false ≡ matches asked stored
unfolding matches
matches_other asked stored n = sym (other_told asked false _ n)

front_rest : (x y l : List ℕ) → same l (x ++ y) ≡ same (take (length x) l) x && same (drop (length x) l) y
unfolding same
front_rest [] y l = refl
front_rest (b ∷ x) y [] = refl
front_rest (b ∷ x) y (a ∷ l) = rw (front_rest x y l) (sym (and_assoc (eqb a b) (same (take (length x) l) x) (same (drop (length x) l) y)))

module _ {asked stored rest : List ℕ} {q : ℕ} (st : Matched asked stored rest q) where
  pub matched_done : length rest ≡ 0 → q ≤ length stored → eqb q (length stored) ≡ matches asked stored
  matched_done h l = sym (st.so ∙ telling false (stored_from stored q) rest [] tt (no_bytes rest h) ∙ ends (ℕ_discrete q (length stored)))
    where
      ends : Dec (q ≡ length stored) → same [] (drop q stored) ≡ eqb q (length stored)
      ends (yes e) =
          let g : length stored ≤ q = omega arith in
          ap (λ (x : List ℕ). same [] x) (drop_of_length-le stored g) ∙ same_refl [] ∙ sym (eq-eqb q (length stored) e)
      ends (no n) = same-other [] (drop q stored) (λ e. n (omega (arith, length-drop q stored))) ∙ sym (ne_eqb q (length stored) n)

  pub matched_broken : 0 < length rest → BeginsWithNone rest → false ≡ matches asked stored
  matched_broken h n = sym (st.so ∙ told_broken false (stored_from stored q) rest h n)

  module _ (c : ℕ) (left : List ℕ) (b : BeginsWith c left rest) {m : ℕ} (w : m ≡ length (modified_of c)) where
    in_turn : matches asked stored ≡ told false (λ cs. stored_from stored q (c ∷ cs)) (standard_points left)
    in_turn = st.so ∙ ap (λ (l : List ℕ). told false (stored_from stored q) (standard_points l)) b.1 ∙ told_first false (stored_from stored q) c left b.0

    pub matched_short : length stored - q < m → false ≡ matches asked stored
    matched_short l = sym (in_turn ∙ told_none false _ short (standard_points left))
      where
        short : (cs : List ℕ) → stored_from stored q (c ∷ cs) ≡ false
        short cs = same-other (modified_of c ++ modified cs) (drop q stored) (λ e. omega (arith, e, length-append (modified_of c) (modified cs), length-drop q stored))

    apart : (cs : List ℕ) → stored_from stored q (c ∷ cs) ≡ form_stands_at (modified_of c) (position q) stored && same (drop (q + m) stored) (modified cs)
    apart cs =
        same-sym (modified_of c ++ modified cs) (drop q stored) ∙ front_rest (modified_of c) (modified cs) (drop q stored)
        ∙ rw (drop-drop (length (modified_of c)) q stored, w)

    module _ {t : Bool} (y : t ≡ form_stands_at (modified_of c) (position q) stored) where
      pub matched_other : t ≡ false → false ≡ matches asked stored
      matched_other z = sym (in_turn ∙ told_none false _ other (standard_points left))
        where
          other : (cs : List ℕ) → stored_from stored q (c ∷ cs) ≡ false
          other cs = apart cs ∙ simp (← y, z)

      pub matched_next : t ≡ true → Matched asked stored left (q + m)
      matched_next z = record { so = in_turn ∙ told_same false _ (stored_from stored (q + m)) next (standard_points left) }
        where
          next : (cs : List ℕ) → stored_from stored q (c ∷ cs) ≡ stored_from stored (q + m) cs
          next cs = apart cs ∙ simp (← y, z) (same-sym (drop (q + m) stored) (modified cs))
