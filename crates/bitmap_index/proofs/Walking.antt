-- The walk over the values' entries: those that are left stand at the cursor, and something holds of them.
use Prim.Native.Nat.{ℕ, ◌+◌, ◌<◌, ◌≤◌}
use mathlib.Core.Path.{◌≡◌, ap, subst}
use mathlib.Core.Bool.{Bool}
use mathlib.Core.List.{List, [], ◌∷◌}
use native.Mathlib.Omega.{arith}
use lib.ListN.{length}
use Rattle.dictionary.specs.declared.Summary.{Summary}
use Rattle.dictionary.specs.declared.Cursor.{Cursor}
use Rattle.dictionary.specs.declared.EntryAt.{EntryAt}
use Rattle.dictionary.specs.Promises.{is_two, EntriesAt, Summarizes, entry_at, NextAt}
use Rattle.dictionary.specs.Layout.{Entry}

-- what is left of the entries es after i of them, at a cursor
pub record Rest (t : ℕ) (s : List ℕ) (h : Summary) (P : List Entry → Type 0) (es : List Entry) (c : Cursor) (i : ℕ) : Type 0 where
  pub rest : List Entry
  pub many : i + length rest ≡ length es
  pub stand : EntriesAt t (is_two h.version) s c rest
  pub so : P rest

-- the entries that are left begin with the one that the code found, and go on behind it
pub record First (t : ℕ) (version2 : Bool) (s : List ℕ) (a : EntryAt) (rest : List Entry) : Type 0 where
  pub behind : List Entry
  pub so : rest ≡ entry_at s a ∷ behind
  pub start : a.start.0 ≤ a.end.0
  pub end : a.end.0 ≤ length s
  pub stand : EntriesAt t version2 s a.next behind

first : (t : ℕ) (version2 : Bool) (s : List ℕ) (a : EntryAt) (c : Cursor) (rest : List Entry) → EntriesAt t version2 s c rest → 1 ≤ length rest
    → NextAt t version2 s c a → First t version2 s a rest
first t version2 s a c [] st h n = absurd (omega arith)
first t version2 s a c (e ∷ es) st h n =
    let w = n.first e es st in
    record {
      behind = es;
      so = ap (λ (x : Entry). x ∷ es) w.so;
      start = w.start;
      end = w.end;
      stand = w.stand;
    }

none_left : (P : List Entry → Type 0) (rest : List Entry) → length rest ≤ 0 → P rest → P []
none_left P [] l p = p
none_left P (e ∷ es) l p = absurd (omega arith)

-- ..whichever entries the summary is true of
pub record Walk (t : ℕ) (s : List ℕ) (h : Summary) (P : List Entry → List Entry → Type 0) (c : Cursor) (i : ℕ) : Type 0 where
  pub so : (es : List Entry) → Summarizes t s h es → Rest t s h (P es) es c i

pub at_start : (t : ℕ) (s : List ℕ) (h : Summary) (P : List Entry → List Entry → Type 0) → ((es : List Entry) → Summarizes t s h es → P es es)
    → Walk t s h P h.first 0
at_start t s h P p = record { so = λ es l. record { rest = es; many = omega arith; stand = l.stand; so = p es l } }

module _ {t : ℕ} {s : List ℕ} {h : Summary} {P : List Entry → List Entry → Type 0} {c : Cursor} {i : ℕ} (g : Walk t s h P c i) where
  pub at_end : h.values ≤ i → (es : List Entry) → Summarizes t s h es → P es []
  at_end l es d = let r = g.so es d in none_left (P es) r.rest (omega (arith, r.many, d.many)) r.so

  module _ (a : EntryAt) (n : NextAt t (is_two h.version) s c a) (l : i < h.values) where
    pub here : (es : List Entry) (d : Summarizes t s h es) → First t (is_two h.version) s a (g.so es d).rest
    here es d = let r = g.so es d in first t (is_two h.version) s a c r.rest r.stand (omega (arith, r.many, d.many)) n

    -- what holds of the entry that the code found and of those behind it
    pub found : (es : List Entry) (d : Summarizes t s h es) → P es (entry_at s a ∷ (here es d).behind)
    found es d = subst (P es) (here es d).so (g.so es d).so

    pub goes_on : (Q : List Entry → List Entry → Type 0) → ((es behind : List Entry) → P es (entry_at s a ∷ behind) → Q es behind)
        → Walk t s h Q a.next (i + 1)
    goes_on Q q =
        record {
          so = λ es d.
              let r = g.so es d in
              let f = here es d in
              record { rest = f.behind; many = omega (arith, r.many, ap length f.so); stand = f.stand; so = q es f.behind (found es d) };
        }
