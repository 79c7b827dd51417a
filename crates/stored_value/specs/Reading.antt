-- What is read of any bytes as values: the size of one, and literals to the end.
use Rattle.std.specs.Prelude.{ℕ, zero, suc, ◌+◌, cond, List, [], ◌∷◌, ◌++◌, eqb, ltb, leb, length, take, drop, Result, Err, Ok}
use Rattle.numbers.specs.Meaning.{big, number, sign_bit}
use Rattle.refusal.specs.Reading.{check, and_then}
use Rattle.refusal.specs.declared.Refusal.{Refusal}
use Rattle.refusal.specs.declared.Refusal.TheVariants.{Literal, Limit}
use Rattle.stored_value.specs.Meaning.{types, width, is_string, longest_string, boolean_ok}

-- a string of length n, with the bytes behind that: the length is tested before them
abbrev pub string_size : Refusal → Refusal → ℕ → List ℕ → Result ℕ Refusal
string_size short broken n rest = check (ltb n sign_bit) broken (check (leb n longest_string) Limit (check (leb n (length rest)) short (Ok (4 + n))))

-- how many bytes the value of type t at the front of s takes in its stored form. An unknown type is LITERAL. `short`
-- and `broken` are SHORT and DICT in a dictionary, and LITERAL both among literals
unfoldable pub value_size : Refusal → Refusal → ℕ → List ℕ → Result ℕ Refusal
value_size short broken t s =
    check (ltb t types) Literal
    (cond (is_string t)
    (number big 4 (Err short) s (string_size short broken))
    (check (leb (width t) (length s)) short (check (boolean_ok t s) broken (Ok (width t)))))

unfoldable pub value_of : {A : Type 0} → Refusal → Refusal → ℕ → List ℕ → (List ℕ → List ℕ → Result A Refusal) → Result A Refusal
value_of short broken t s k = and_then (value_size short broken t s) (λ n. k (take n s) (drop n s))

-- ---- literals: one after another to the end. The number counts how many may still come, `most_literals` at first: a byte behind the 1,024th is LIMIT

unfoldable pub literals : ℕ → ℕ → List (List ℕ) → List ℕ → Result (List (List ℕ)) Refusal
literals t zero ls s = cond (eqb (length s) 0) (Ok ls) (Err Limit)
literals t (suc n) ls s = cond (eqb (length s) 0) (Ok ls) (value_of Literal Literal t s (λ l s. literals t n (ls ++ (l ∷ [])) s))
