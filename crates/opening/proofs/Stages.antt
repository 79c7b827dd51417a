-- Open's stages, over Audit's: an accepted open taken apart, what was read put together, and a refusal of Audit's first stages, which is Open's.
use Prim.Native.Nat.{ℕ, ◌<◌, ◌≤◌}
use mathlib.Core.Path.{◌≡◌, refl, sym, ap, ◌∙◌}
use mathlib.Core.List.{List}
use native.Mathlib.Decide.{dec_lt}
use native.Mathlib.Omega.{arith}
use borrow.Author.Tests.{le-leb, lt-leb, lt-ltb, le-ltb, ltb-true, leb-true}
use lib.Dec.{leb}
use lib.ListN.{length, get_or}
use Rattle.refusal.specs.Meaning.{limit}
use Rattle.refusal.specs.declared.Refusal.{Refusal}
use Rattle.refusal.specs.declared.Refusal.TheVariants.{Room, Literal, Limit}
use Rattle.std.specs.Prelude.{Result, Err, Ok}
use Rattle.refusal.specs.Reading.{check, and_then}
use Rattle.refusal.proofs.Laws.{not-ok, ok_same, check-ok, then_ok}
use Rattle.row_field.specs.Meaning.{cleared}
use Rattle.stored_value.specs.Meaning.{types}
use Rattle.dictionary.specs.Reading.{Dictionary, dictionary}
use Rattle.dictionary.proofs.Theorems.{unknown_type_is_refused}
use Rattle.bitmap_index.specs.Reading.{prepared, audited, audit, audit_buffer}
use Rattle.bitmap_index.specs.Reading as bitmap_index
use Rattle.bitmap_index.proofs.AcceptedStages.{prepared_back, audit-joined}
use Rattle.opening.specs.Reading.{Front, front, Openable, openable, Table, filled, opened, zeroed_from, open_buffer, table_of, open_table}
use Rattle.opening.proofs.FrontRefusals.{Follows, refusal_follows, front_follows}

-- a dictionary that was read is of a known type
known_type : (t : ℕ) (body : List ℕ) (d : Dictionary) → dictionary t body ≡ Ok d → t < types
unfolding dictionary
known_type t body d e = ltb-true t types (check-ok _ _ _ d e).0

module _ (t : ℕ) (body field : List ℕ) where
  -- where the dictionary was read, so were the fields in front
  pub front_read : (d : Dictionary) → get_or body 0 2 ≡ 2 → prepared t body field ≡ Ok d → (f : Front) × (front body ≡ Ok f)
  front_read d two p = go (front body) refl
    where
      go : (x : Result Front Refusal) → front body ≡ x → (f : Front) × (front body ≡ Ok f)
      go (Err r) e =
          let (short, is, room) = prepared_back t body field d p in
          absurd (not-ok (sym (front_follows t (known_type t body d is) body two r e) ∙ is))
      go (Ok f) e = (f, e)

  module _ (table : List ℕ) where
    -- ---- accepted, taken apart

    pub openable_back : (o : Openable) → openable t body field table ≡ Ok o
        → (front body ≡ Ok o.fields) × (prepared t body field ≡ Ok o.read) × (o.fields.blocks ≤ length table)
    unfolding openable
    openable_back o e =
        let (short, more) = check-ok _ _ _ o e in
        let (known, both) = check-ok _ _ _ o more in
        let (f, first, rest) = then_ok (front body) _ o both in
        let (d, second, last) = then_ok (prepared t body field) _ o rest in
        let (fits, same) = check-ok _ _ _ o last in
        let i : record { fields = f; read = d } ≡ o = ok_same _ o same in
        (first ∙ ap (λ (x : Openable). Ok x.fields) i, second ∙ ap (λ (x : Openable). Ok x.read) i, rw (← i) (leb-true f.blocks (length table) fits))

    -- the stages behind an accepted open
    pub opened_back : (a : Table) → opened t body field table ≡ Ok a
        → (o : Openable) × (openable t body field table ≡ Ok o) × (audit t body field ≡ Ok a.rows) × (a.blocks ≡ o.fields.blocks)
        × (a.words ≡ filled t body o.fields table)
    unfolding opened
    opened_back a e =
        let (o, first, rest) = then_ok _ _ a e in
        let (n, second, last) = then_ok _ _ a rest in
        let i : record { rows = n; blocks = o.fields.blocks; words = filled t body o.fields table } ≡ a = ok_same _ a last in (
          o,
          first,
          audit-joined t body field o.read n (openable_back o first).1 second ∙ ap (λ (x : Table). Ok x.rows) i,
          sym (ap (λ (x : Table). x.blocks) i),
          sym (ap (λ (x : Table). x.words) i),
        )

    -- ---- put together

    -- where the fields in front were read: what is left is the dictionary, and ROOM for the table
    openable-front : (f : Front) → length body ≤ limit → t < types → front body ≡ Ok f
        → openable t body field table ≡ and_then (prepared t body field) (λ d. check (leb f.blocks (length table)) Room (Ok (record { fields = f; read = d })))
    unfolding openable check and_then
    openable-front f l k e = rw (le-leb (length body) limit l, lt-ltb t types k, e)

    pub openable-read : (f : Front) (d : Dictionary) → front body ≡ Ok f → prepared t body field ≡ Ok d
        → openable t body field table ≡ check (leb f.blocks (length table)) Room (Ok (record { fields = f; read = d }))
    unfolding and_then
    openable-read f d e p =
        let (short, is, room) = prepared_back t body field d p in
        openable-front f short (known_type t body d is) e ∙ rw p

    pub openable-ok : (f : Front) (d : Dictionary) → front body ≡ Ok f → prepared t body field ≡ Ok d → f.blocks ≤ length table
        → openable t body field table ≡ Ok (record { fields = f; read = d })
    unfolding check
    openable-ok f d e p h = openable-read f d e p ∙ rw (le-leb f.blocks (length table) h)

    pub opened-ok : (f : Front) (d : Dictionary) (n : ℕ) → front body ≡ Ok f → prepared t body field ≡ Ok d → f.blocks ≤ length table
        → audited d (cleared d.rows field) ≡ Ok n → opened t body field table ≡ Ok (record { rows = n; blocks = f.blocks; words = filled t body f table })
    unfolding opened and_then
    opened-ok f d n e p h a = rw (openable-ok f d e p h, a)

    -- past ROOM the field is as Audit leaves it
    pub buffer_audited : (f : Front) (d : Dictionary) → front body ≡ Ok f → prepared t body field ≡ Ok d → f.blocks ≤ length table
        → open_buffer t body field table ≡ audit_buffer t body field
    unfolding open_buffer zeroed_from audit_buffer bitmap_index.zeroed_from
    buffer_audited f d e p h = rw (openable-ok f d e p h, p)

    -- what is refused up to ROOM leaves field and table as they were
    pub refused_early : (r : Refusal) → openable t body field table ≡ Err r
        → (opened t body field table ≡ Err r) × (open_buffer t body field table ≡ field) × (open_table t body field table ≡ table)
    unfolding opened open_buffer zeroed_from open_table table_of and_then
    refused_early r e = (rw e, rw e, rw e)

    -- ---- refused as Audit is: by the limit, then the type, then the fields in front; behind them it is Audit's own stage

    over-limit : limit < length body → Follows (prepared t body field) (openable t body field table)
    unfolding prepared openable check
    over-limit l = rw (lt-leb (length body) limit l) (refusal_follows Limit)

    unknown_type : length body ≤ limit → types ≤ t → Follows (prepared t body field) (openable t body field table)
    unfolding prepared openable check and_then
    unknown_type l k = rw (le-leb (length body) limit l, unknown_type_is_refused t body k, le-ltb t types k) (refusal_follows Literal)

    front_refused : (q : Refusal) → length body ≤ limit → t < types → front body ≡ Err q → dictionary t body ≡ Err q
        → Follows (prepared t body field) (openable t body field table)
    unfolding prepared openable check and_then
    front_refused q l k e i = rw (le-leb (length body) limit l, lt-ltb t types k, e, i) (refusal_follows q)

    front_passed : (f : Front) → length body ≤ limit → t < types → front body ≡ Ok f → Follows (prepared t body field) (openable t body field table)
    unfolding and_then
    front_passed f l k e r p = openable-front f l k e ∙ rw p

    pub openable_refused : get_or body 0 2 ≡ 2 → Follows (prepared t body field) (openable t body field table)
    openable_refused two = go (dec_lt limit (length body)) (dec_lt t types) (front body) refl
      where
        go : Dec (limit < length body) → Dec (t < types) → (x : Result Front Refusal) → front body ≡ x → Follows (prepared t body field) (openable t body field table)
        go (yes l) k x e = over-limit l
        go (no l) (no k) x e = unknown_type (omega arith) (omega arith)
        go (no l) (yes k) (Err q) e = front_refused q (omega arith) k e (front_follows t k body two q e)
        go (no l) (yes k) (Ok f) e = front_passed f (omega arith) k e
