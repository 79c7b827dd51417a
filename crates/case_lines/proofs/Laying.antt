-- Laws of bytes that are laid out.
use Rattle.std.proofs.Common.{◌≡◌, ℕ, zero, suc, ◌+◌, ◌*◌, ◌%◌, ◌<◌, ◌≤◌, min, List, [], ◌∷◌, ◌++◌, length, get_or, take, sym, refl, ap, ◌∙◌, append_assoc, append-nil, take_all, arith}
use Rattle.std.proofs.Math.Seq.{take-append_seam}
use Rattle.std.specs.Int.{w16, to_le_bytes}
use Rattle.case_lines.specs.Promises.{rising, digit_of, hex_bytes}

-- what is appended to what there was room for has the room that is left
pub take_again : (r : ℕ) (s more : List ℕ) → take r (take r s ++ more) ≡ take r (s ++ more)
take_again zero s more = refl
take_again (suc r) [] more = refl
take_again (suc r) (x ∷ s) more = ap (λ (l : List ℕ). x ∷ l) (take_again r s more)

-- one step: what is appended is the front of what is to come
pub appended : (r : ℕ) (s front rest whole : List ℕ) → whole ≡ front ++ rest → take r (take r (s ++ front) ++ rest) ≡ take r (s ++ whole)
appended r s front rest whole e = take_again r (s ++ front) rest ∙ rw (e, append_assoc) refl

pub appended_all : (r : ℕ) (s : List ℕ) → length s ≤ r → take r (s ++ []) ≡ s
appended_all r s h = rw append-nil (take_all r s h)

pub rising_next : (n k number step : ℕ) → n ≡ k + 1 → rising n number step ≡ to_le_bytes w16 number ++ rising k ((number + step) % 65536) step
unfolding rising
rising_next n k number step e = let f : n ≡ suc k = omega arith in rw f refl

pub rising_done : (n number step : ℕ) → n ≡ 0 → rising n number step ≡ []
unfolding rising
rising_done n number step e = rw e refl

-- the number that comes behind so many
unfoldable after : ℕ → ℕ → ℕ → ℕ
after zero number step = number
after (suc n) number step = after n ((number + step) % 65536) step

rising_more : (n k number step : ℕ) → rising (n + k) number step ≡ rising n number step ++ rising k (after n number step) step
unfolding rising after
rising_more zero k number step = let e : 0 + k ≡ k = omega arith in rw e refl
rising_more (suc n) k number step =
    let e : suc n + k ≡ suc (n + k) = omega arith in
    rw (e, rising_more n k ((number + step) % 65536) step) refl

-- eight of them, and those that are left
pub rising_eight : (n k number step : ℕ) → number < 65536 → step < 65536 → n ≡ 8 + k
    → rising n number step ≡ rising 8 number step ++ rising k ((number + step * 8 % 65536) % 65536) step
unfolding after
rising_eight n k number step h g e =
    let next : after 8 number step ≡ (number + step * 8 % 65536) % 65536 = omega arith in
    rw (e, sym next) (rising_more 8 k number step)

-- where nothing is left to append, the bytes are the whole
pub finished : (r : ℕ) (s left whole : List ℕ) → left ≡ [] → length s ≤ r → take r (s ++ left) ≡ whole → s ≡ whole
finished r s left whole e h w = let done : take r (s ++ []) ≡ whole = rw e at w in sym (appended_all r s h) ∙ done

-- where no room is left, the bytes are the whole, whatever is left
pub filled : (r : ℕ) (s left whole : List ℕ) → length s ≡ r → take r (s ++ left) ≡ whole → s ≡ whole
filled r s left whole e w = let cut : take (length s) (s ++ left) ≡ whole = rw e w in sym (take-append_seam s left) ∙ cut

pub hex_done : (s : List ℕ) → length s ≡ 0 → hex_bytes s ≡ []
unfolding hex_bytes
hex_done [] h = refl
hex_done (b ∷ s) h = absurd (omega (arith, h))

-- the digits of a byte, at most three bytes of what is left: with fewer than two there is no byte
pub hex_short : (pair rest : List ℕ) → length pair ≡ min 3 (length (pair ++ rest)) → length pair < 2 → hex_bytes (pair ++ rest) ≡ hex_bytes rest
unfolding hex_bytes
hex_short [] rest n h = refl
hex_short (a ∷ []) [] n h = refl
hex_short (a ∷ []) (x ∷ rest) n h = absurd (omega (arith, n))
hex_short (a ∷ b ∷ pair) rest n h = absurd (omega (arith, h))

pub hex_long : (pair rest : List ℕ) → length pair ≡ min 3 (length (pair ++ rest)) → 2 ≤ length pair → hex_bytes (pair ++ rest) ≡ (digit_of (get_or pair 0 0) * 16 + digit_of (get_or pair 1 0)) ∷ hex_bytes rest
unfolding hex_bytes
hex_long [] rest n h = absurd (omega (arith, h))
hex_long (a ∷ []) rest n h = absurd (omega (arith, h))
hex_long (a ∷ b ∷ []) [] n h = refl
hex_long (a ∷ b ∷ []) (x ∷ rest) n h = absurd (omega (arith, n))
hex_long (a ∷ b ∷ c ∷ []) rest n h = refl
hex_long (a ∷ b ∷ c ∷ d ∷ pair) rest n h = absurd (omega (arith, n))
