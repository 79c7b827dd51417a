-- Which code points any bytes spell, in standard and in modified UTF-8; whether a name may be asked for, and whether a stored name is the asked one.
-- A cursor `s` is what is left of the bytes, `k` is what follows of what was read. Bytes that are not of the form are refused, and nothing more is said of them.
use Rattle.std.specs.Prelude.{ℕ, zero, suc, ◌+◌, ◌-◌, ◌*◌, min, Bool, false, ◌&&◌, ◌||◌, not, cond, List, [], ◌∷◌, eqb, leb, ltb, length, Result, Err, Ok}
use Rattle.numbers.specs.Meaning.{same}
use Rattle.refusal.specs.Reading.{check, and_then}
use Rattle.names.specs.Layout.{first_high, first_low, past_surrogates, past_plane, past_last, past_one_byte, past_two_bytes, modified, name_limit}

-- what was read, or that the bytes are not of the form
abbrev pub Spelled : Type 0 → Type 0
Spelled A = Result A (Unit {0})

-- one thing off the front of the bytes: what it is and what is left
abbrev pub Reader : Type 0 → Type 0
Reader A = List ℕ → (ℕ → List ℕ → Spelled A) → Spelled A

-- ---- the bytes of one code point

-- n continuation bytes, 80 to BF, of six bits each, behind the bits v of the bytes before
unfoldable pub continued : {A : Type 0} → ℕ → ℕ → Reader A
continued zero v s k = k v s
continued (suc n) v [] k = Err tt
continued (suc n) v (b ∷ s) k = check (leb 128 b && ltb b 192) tt (continued n (v * 64 + (b - 128)) s k)

-- whether a value is a code point that a name may have
unfoldable pub is_scalar : ℕ → Bool
is_scalar c = ltb c first_high || (leb past_surrogates c && ltb c past_last)

-- a lead byte with the bits v, and n bytes more: a value below `least` has a shorter form, and no surrogate and nothing above 10FFFF has any
unfoldable pub longer : {A : Type 0} → ℕ → ℕ → ℕ → Reader A
longer n least v s k = continued n v s (λ c s. check (leb least c && is_scalar c) tt (k c s))

-- one code point of standard UTF-8, by its lead byte: below 80 it is all; from C0, E0 and F0 on there are one, two and three bytes more. A continuation byte leads
-- nothing, nor do F8 to FF; C0, C1 and F5 to F7 lead no value that `longer` lets pass
unfoldable pub standard_point : {A : Type 0} → Reader A
standard_point [] k = Err tt
standard_point (a ∷ s) k =
    cond (ltb a 128) (k a s)
    (check (leb 192 a) tt (cond (ltb a 224) (longer 1 past_one_byte (a - 192) s k)
    (cond (ltb a 240) (longer 2 past_two_bytes (a - 224) s k) (check (ltb a 248) tt (longer 3 past_plane (a - 240) s k)))))

-- one unit of UTF-16, of 16 bits, in modified UTF-8: zero in two bytes, else 1 to FFFF in the shortest of three lengths, surrogates too
unfoldable pub modified_unit : {A : Type 0} → Reader A
modified_unit [] k = Err tt
modified_unit (a ∷ s) k =
    cond (ltb a 128) (check (leb 1 a) tt (k a s))
    (check (leb 192 a) tt (cond (ltb a 224) (continued 1 (a - 192) s (λ u s. check (eqb u 0 || leb past_one_byte u) tt (k u s)))
    (check (ltb a 240) tt (continued 2 (a - 224) s (λ u s. check (leb past_two_bytes u) tt (k u s))))))

-- the two halves of a pair of surrogates
unfoldable pub is_high : ℕ → Bool
is_high u = leb first_high u && ltb u first_low

unfoldable pub is_low : ℕ → Bool
is_low u = leb first_low u && ltb u past_surrogates

-- one code point of modified UTF-8: a pair of surrogates, or a unit that is none. No code reads stored names so: it is here for what is claimed of the form
unfoldable pub modified_point : {A : Type 0} → Reader A
modified_point s k =
    modified_unit s (λ u s.
    cond (is_high u) (modified_unit s (λ w s. check (is_low w) tt (k (past_plane + (u - first_high) * 1024 + (w - first_low)) s)))
    (check (not (is_low u)) tt (k u s)))

-- ---- all code points, each read by `point`: each takes a byte at least, so that as many turns as there are bytes are enough

unfoldable pub points_in : Reader (List ℕ) → ℕ → List ℕ → Spelled (List ℕ)
points_in point zero s = cond (eqb (length s) 0) (Ok []) (Err tt)
points_in point (suc n) s = cond (eqb (length s) 0) (Ok []) (point s (λ c s. and_then (points_in point n s) (λ cs. Ok (c ∷ cs))))

unfoldable pub standard_points : List ℕ → Spelled (List ℕ)
standard_points s = points_in standard_point (length s) s

unfoldable pub modified_points : List ℕ → Spelled (List ℕ)
modified_points s = points_in modified_point (length s) s

-- ---- names

-- what `f` says of what was read, or `none`
unfoldable pub told : {A B : Type 0} → B → (A → B) → Spelled A → B
told none f (Err r) = none
told none f (Ok a) = f a

-- the bytes of an asked name in modified form; one more than it may have stands for more, and for a name that isn't standard UTF-8
unfoldable pub size_of_asked_name : List ℕ → ℕ
size_of_asked_name asked = told (name_limit + 1) (λ points. min (length (modified points)) (name_limit + 1)) (standard_points asked)

-- "One that isn't standard UTF-8, or is over 65,535 modified bytes, is LITERAL"
unfoldable pub askable : List ℕ → Bool
askable asked = leb (size_of_asked_name asked) name_limit

-- "The caller's names are read as standard UTF-8 and compared .. in modified form", byte for byte; "Improper file names don't match"
unfoldable pub matches : List ℕ → List ℕ → Bool
matches asked stored = told false (λ points. same (modified points) stored) (standard_points asked)
