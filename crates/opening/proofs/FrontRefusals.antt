-- What the fields in front of a version 2 directory are refused with, the dictionary is refused with.
use Prim.Native.Nat.{ℕ, ◌<◌}
use mathlib.Core.Path.{◌≡◌, sym, ap, ◌∙◌}
use mathlib.Core.Bool.{Bool, true, false, cond}
use mathlib.Core.List.{List, [], ◌∷◌}
use borrow.Author.Tests.{lt-ltb, ne_eqb}
use lib.Dec.{eqb, leb}
use lib.ListN.{length, get_or}
use Rattle.numbers.specs.Meaning.{Order, big, number}
use Rattle.refusal.specs.Meaning.{limit}
use Rattle.refusal.specs.declared.Refusal.{Refusal}
use Rattle.refusal.specs.declared.Refusal.TheVariants.{Short, Version, Dict}
use Rattle.std.specs.Prelude.{Result, Err, Ok}
use Rattle.refusal.specs.Reading.{check}
use Rattle.refusal.proofs.Laws.{not-ok}
use Rattle.stored_value.specs.Meaning.{types}
use Rattle.dictionary.specs.Layout.{Entry, most_values2, most_blocks}
use Rattle.dictionary.specs.Reading.{count_at_most, null_of, blocked, dictionary}
use Rattle.dictionary.proofs.LaidOut.{byte_laid}
use Rattle.opening.specs.Reading.{rest_of_front, front}

-- what x is refused with, y is refused with
abbrev pub Follows : {A B : Type 0} → Result A Refusal → Result B Refusal → Type 0
Follows x y = (r : Refusal) → x ≡ Err r → y ≡ Err r

module _ {A B : Type 0} where
  ok_follows : (a : A) (y : Result B Refusal) → Follows (Ok a) y
  ok_follows a y r e = absurd (not-ok (sym e))

  pub refusal_follows : (q : Refusal) → Follows {A = A} {B = B} (Err q) (Err q)
  refusal_follows q r e = let i : q ≡ r = cc in ap Err i

  check_follows : (b : Bool) (q : Refusal) (x : Result A Refusal) (y : Result B Refusal) → Follows x y → Follows (check b q x) (check b q y)
  unfolding check
  check_follows true q x y f = f
  check_follows false q x y f = refusal_follows q

  cond_follows : (b : Bool) (q : Refusal) (x : Result A Refusal) (y : Result B Refusal) → Follows x y → Follows (cond b x (Err q)) (cond b y (Err q))
  cond_follows true q x y f = f
  cond_follows false q x y f = refusal_follows q

  number_follows : (o : Order) (w : ℕ) (q : Refusal) (s : List ℕ) (j : ℕ → List ℕ → Result A Refusal) (k : ℕ → List ℕ → Result B Refusal)
      → ((v : ℕ) (t : List ℕ) → Follows (j v t) (k v t)) → Follows (number o w (Err q) s j) (number o w (Err q) s k)
  unfolding number
  number_follows o w q s j k f = cond_follows (leb w (length s)) q _ _ (f _ _)

  -- a byte that is known
  byte_follows : (b : ℕ) (s : List ℕ) (j : ℕ → List ℕ → Result A Refusal) (k : ℕ → List ℕ → Result B Refusal) → Follows (j b s) (k b s)
      → Follows (number big 1 (Err Short) (b ∷ s) j) (number big 1 (Err Short) (b ∷ s) k)
  byte_follows b s j k f = rw (byte_laid b s j, byte_laid b s k) f

  count_follows : (most : ℕ) (s : List ℕ) (j : ℕ → List ℕ → Result A Refusal) (k : ℕ → List ℕ → Result B Refusal)
      → ((v : ℕ) (t : List ℕ) → Follows (j v t) (k v t)) → Follows (count_at_most most s j) (count_at_most most s k)
  unfolding count_at_most
  count_follows most s j k f = number_follows big 4 Short s _ _ (λ v t. check_follows _ _ _ _ (check_follows _ _ _ _ (f v t)))

  null_follows : (version2 has : Bool) (s : List ℕ) (j : List Entry → List ℕ → Result A Refusal) (k : List Entry → List ℕ → Result B Refusal)
      → ((es : List Entry) (t : List ℕ) → Follows (j es t) (k es t)) → Follows (null_of version2 has s j) (null_of version2 has s k)
  unfolding null_of
  null_follows version2 false s j k f = f [] s
  null_follows false true s j k f = number_follows big 4 Short s _ _ (λ v t. f _ t)
  null_follows true true s j k f = number_follows big 4 Short s _ _ (λ v t. number_follows big 4 Short t _ _ (λ w u. f _ u))

-- behind the first fields
behind_follows : (t rows n : ℕ) (has : Bool) (s : List ℕ) → Follows (rest_of_front rows n has s) (null_of true has s (λ nulls s. blocked t rows n nulls s))
unfolding rest_of_front blocked
behind_follows t rows n has s =
    null_follows true has s _ _ (λ nulls s. count_follows most_blocks s _ _ (λ b s. check_follows _ Dict _ _ (ok_follows _ _)))

module _ (t : ℕ) (k : t < types) where
  empty_follows : Follows (front []) (dictionary t [])
  unfolding front dictionary number check
  empty_follows = rw (lt-ltb t types k) (refusal_follows Short)

  two_follows : (s : List ℕ) → Follows (front (2 ∷ s)) (dictionary t (2 ∷ s))
  unfolding front dictionary check
  two_follows s =
      rw (lt-ltb t types k)
      (byte_follows 2 s _ _
      (count_follows limit s _ _ (λ rows s. count_follows most_values2 s _ _ (λ n s.
      number_follows big 1 Short s _ _ (λ h s. check_follows (leb h 1) Dict _ _ (behind_follows t rows n (eqb h 1) s))))))

  -- of bytes that begin with no other version than 2
  pub front_follows : (s : List ℕ) → get_or s 0 2 ≡ 2 → Follows (front s) (dictionary t s)
  front_follows [] e = empty_follows
  front_follows (v ∷ s) e = rw e (two_follows s)

-- a body of another version
pub front-other : (v : ℕ) (s : List ℕ) → (v ≡ 2 → ⊥) → front (v ∷ s) ≡ Err Version
unfolding front check
front-other v s n = byte_laid v s _ ∙ rw (ne_eqb v 2 n)
