-- The reading of version 2 by the code's steps: the directory, a block's entries, the blocks.
use Prim.Native.Nat.{ℕ, ◌+◌, ◌-◌, ◌≤◌, ◌<◌}
use mathlib.Core.Path.{◌≡◌, refl, ◌∙◌}
use mathlib.Core.Bool.{Bool, true, false, ◌&&◌, cond}
use mathlib.Core.List.{List, [], ◌∷◌, ◌++◌, append_assoc, append-nil}
use native.Mathlib.Omega.{arith}
use lib.Dec.{eqb, ltb, leb}
use lib.ListN.{length, drop, length-append, length-drop}
use lib.Seq.{drop-drop}
use borrow.Author.Tests.{le-leb, lt-leb, lt-ltb, le-ltb, eq-eqb, ne_eqb}
use Rattle.numbers.specs.Meaning.{big, be_at, number, sign_bit, position}
use Rattle.numbers.proofs.Laws.{number_at-drop}
use Rattle.refusal.specs.declared.Refusal.{Refusal}
use Rattle.refusal.specs.declared.Refusal.TheVariants.{Short, Dict}
use Rattle.stored_value.specs.Meaning.{Cell, null}
use Rattle.std.specs.Prelude.{Result, Err, Ok, Option, Some}
use Rattle.refusal.specs.Reading.{check}
use Rattle.stored_value.specs.Reading.{value_size}
use Rattle.dictionary.specs.declared.Span.{Span}
use Rattle.dictionary.specs.declared.BlockEntries.{BlockEntries}
use Rattle.dictionary.specs.declared.Block.{Block}
use Rattle.dictionary.specs.declared.Blocks.{Blocks}
use Rattle.dictionary.specs.Layout.{Entry, most_blocks}
use Rattle.dictionary.specs.Reading.{Dictionary, Listing, listings, entries_version_two, behind, blocks_of, blocked}
use Rattle.dictionary.specs.Promises.{AfterBlock, AfterEntries, cursor, EntriesFrom, EndsAt, CountAt, ListingsFrom, ListingFrom, DirectoryAt, SpanIn, cell_at, BlockEntriesAt, BlockAt, BlocksAt, AllEntriesAt}
use Rattle.dictionary.proofs.Steps.{offset-behind, drop_past, word_at, word_short, stand_opening}
use Rattle.dictionary.proofs.Walks.{Walked, walk_done, walk_stand, listing, directory, in_block}

-- ---- the place of a value from p to e

abbrev pub span : ℕ → ℕ → Span
span p e = record { start = position p; end = position e }

-- ---- a directory's listings, and a block's entries, by their walks

pub directory_ends : {t n i : ℕ} (s : List ℕ) (at p : ℕ) → Walked (directory t) n tt (drop at s) i tt (drop p s) → i ≤ n → n ≤ i → p ≤ length s
    → DirectoryAt t n s at (Ok (position p))
unfolding listings
directory_ends s at p st l m h = (st.items, λ f. walk_done st m f, (walk_stand st, omega (arith, st.count)), h)

-- an entry's rule: its value is past the one before, and the one that is due
module _ {x a : Bool} (g : x ≡ a) where
  pub rule_past : (b : Bool) → x ≡ false → (a && b) ≡ false
  rule_past b f = rw (← g, f)

  module _ (p : x ≡ true) {y b : Bool} (h : y ≡ b) where
    pub rule_due : y ≡ false → (a && b) ≡ false
    rule_due f = rw (← g, p, ← h, f)

    pub rule_kept : y ≡ true → (a && b) ≡ true
    rule_kept q = rw (← g, p, ← h, q)

pub block_fails : (t n : ℕ) {r : Refusal} (s : List ℕ) (before due : Option Span) (at : ℕ)
    → ((q : List Entry × AfterBlock) → (in_block t).reads q n (cell_at s before, cell_at s due) [] (drop at s) ≡ Err r) → BlockEntriesAt t n before due s at (Err r)
block_fails t n s before due at h es f = rw append-nil at (h (es, f))

pub block_ends : {t n i : ℕ} {h : Cell} (s : List ℕ) (before due : Option Span) (at p : ℕ) (last : Option Span)
    → Walked (in_block t) n (cell_at s before, cell_at s due) (drop at s) i (cell_at s last, h) (drop p s) → i ≤ n → n ≤ i → at ≤ p → p ≤ length s → SpanIn s last
    → BlockEntriesAt t n before due s at (Ok (record { next = position p; last = last }))
unfolding entries_version_two
block_ends {n = n} {i = i} s before due at p last st l m a r e =
    let z : n - i ≡ 0 = omega arith in
    ((st.items, λ es f. rw append-nil at (walk_done st m (es, f)), omega (arith, st.count), λ more g. st.stand more (rw z g)), a, r, e)

-- ---- a block: its listing stands at q, with a value that ends at e, and the block at p

listed-first : (t : ℕ) (s : List ℕ) (k : ℕ) (d : Listing) (ds : List Listing) → value_size Short Dict t s ≡ Ok k → ListingsFrom t s (d ∷ ds)
    → (d ≡ listing k s) × ListingsFrom t (drop (k + 4) s) ds
unfolding ListingsFrom
listed-first t s k d ds e l = let q : l.0 ≡ k = cc l.1 in (rw q at l.3, rw q at l.4)

pub listed-from : (t : ℕ) (s : List ℕ) (ds : List Listing) → ListingsFrom t s ds → 0 < length ds → ListingFrom t s
unfolding ListingsFrom
listed-from t s [] l z = absurd (omega arith)
listed-from t s (d ∷ ds) l z = (l.0, l.1, l.2)

pub listed_end : (t : ℕ) (s : List ℕ) (q e : ℕ) → EndsAt t s q e → ListingFrom t (drop q s) → e + 4 ≤ length s
listed_end t s q e v l =
    let z : l.0 ≡ e - q = cc (l.1, v.0) in
    let r = rw length-drop at l.2 in
    omega arith

behind_at : (s : List ℕ) (base p : ℕ) → base ≤ p → p ≤ length s → behind (drop base s) (drop p s) ≡ p - base
unfolding behind
behind_at s base p h l = simp length-drop (omega arith)

-- the listing d of the block stands at q, before the listings ds
pub record AtBlock (t : ℕ) (s : List ℕ) (base q p e : ℕ) (before : Option Span) (d : Listing) (ds : List Listing) : Type 0 where
  pub from : base ≤ p
  pub to : p ≤ length s
  pub value : EndsAt t s q e
  pub listed : ListingsFrom t (drop q s) (d ∷ ds)

module _ {t : ℕ} {s : List ℕ} {base q p e : ℕ} {before : Option Span} {d : Listing} {ds : List Listing} (here : AtBlock t s base q p e before d ds) where
  pub block_listed : ListingsFrom t (drop (e + 4) s) ds
  block_listed =
      let h = listed-first t (drop q s) (e - q) d ds here.value.0 here.listed in
      let v = here.value in
      rw (drop_past s q e 4 (omega arith)) at h.1

  module _ (es : List Entry) (f : AfterEntries) where
    block_turn : blocks_of t (d ∷ ds) (drop base s) (cell_at s before) es (drop p s) f ≡ check (eqb (be_at 4 s e) (p - base)) Dict
        (number big 4 (Err Short) (drop p s) (λ n s'. check (leb 1 n && ltb n sign_bit) Dict
        (entries_version_two t n (cell_at s before) (cell_at s (Some (span q e))) es s' (λ before es s'. blocks_of t ds (drop base s) before es s' f))))
    unfolding blocks_of
    block_turn =
        let h = listed-first t (drop q s) (e - q) d ds here.value.0 here.listed in
        let v = here.value in
        let o = offset-behind s q e (omega arith) in
        simp (h.0, o, behind_at s base p here.from here.to)

    pub block_misplaced : {a : ℕ} → a ≡ be_at 4 s e → (a ≡ p - base → ⊥) → blocks_of t (d ∷ ds) (drop base s) (cell_at s before) es (drop p s) f ≡ Err Dict
    unfolding check
    block_misplaced g h = block_turn ∙ simp (← g, ne_eqb _ (p - base) h)

    module _ {a : ℕ} (g : a ≡ be_at 4 s e) (h : a ≡ p - base) where
      block-placed : blocks_of t (d ∷ ds) (drop base s) (cell_at s before) es (drop p s) f ≡ number big 4 (Err Short) (drop p s) (λ n s'. check (leb 1 n && ltb n sign_bit) Dict
          (entries_version_two t n (cell_at s before) (cell_at s (Some (span q e))) es s' (λ before es s'. blocks_of t ds (drop base s) before es s' f)))
      unfolding check
      block-placed = block_turn ∙ simp (← g, eq-eqb a (p - base) h)

      pub block-short : length s - p < 4 → blocks_of t (d ∷ ds) (drop base s) (cell_at s before) es (drop p s) f ≡ Err Short
      block-short c = block-placed ∙ word_short 4 s p _ c

      module _ (r : p + 4 ≤ length s) {n : ℕ} (m : n ≡ be_at 4 s p) where
        block_numbered : blocks_of t (d ∷ ds) (drop base s) (cell_at s before) es (drop p s) f ≡ check (leb 1 n && ltb n sign_bit) Dict
            (entries_version_two t n (cell_at s before) (cell_at s (Some (span q e))) es (drop (p + 4) s) (λ before es s'. blocks_of t ds (drop base s) before es s' f))
        block_numbered = block-placed ∙ rw m (word_at 4 s p _ r)

        pub block_none : n < 1 → blocks_of t (d ∷ ds) (drop base s) (cell_at s before) es (drop p s) f ≡ Err Dict
        unfolding check
        block_none c = block_numbered ∙ simp (lt-leb 1 n c)

        pub block_negative : 1 ≤ n → sign_bit ≤ n → blocks_of t (d ∷ ds) (drop base s) (cell_at s before) es (drop p s) f ≡ Err Dict
        unfolding check
        block_negative c u = block_numbered ∙ simp (le-leb 1 n c, le-ltb n sign_bit u)

        module _ (c : 1 ≤ n) (u : n < sign_bit) where
          block-sound : blocks_of t (d ∷ ds) (drop base s) (cell_at s before) es (drop p s) f
              ≡ entries_version_two t n (cell_at s before) (cell_at s (Some (span q e))) es (drop (p + 4) s) (λ before es s'. blocks_of t ds (drop base s) before es s' f)
          unfolding check
          block-sound = block_numbered ∙ simp (le-leb 1 n c, lt-ltb n sign_bit u)

          pub block_refused : {r : Refusal} → BlockEntriesAt t n before (Some (span q e)) s (p + 4) (Err r)
              → blocks_of t (d ∷ ds) (drop base s) (cell_at s before) es (drop p s) f ≡ Err r
          block_refused x = block-sound ∙ x es _

          pub block_passed : (y : BlockEntries) (x : BlockEntriesAt t n before (Some (span q e)) s (p + 4) (Ok y))
              → blocks_of t (d ∷ ds) (drop base s) (cell_at s before) es (drop p s) f ≡ blocks_of t ds (drop base s) (cell_at s y.last) (es ++ x.0.0) (drop y.next.0 s) f
          block_passed y x = block-sound ∙ x.0.1 es _

-- entries that stand behind a block's number stand where it is due
pub block_stand : (t : ℕ) (s : List ℕ) (p : ℕ) {n : ℕ} (es : List Entry) → p + 4 ≤ length s → n ≡ be_at 4 s p → 1 ≤ n → 1 ≤ length es
    → EntriesFrom t true n (drop (p + 4) s) es → EntriesFrom t true 0 (drop p s) es
block_stand t s p es h m c l st =
    let b : be_at 4 (drop p s) 0 ≡ be_at 4 s p = number_at-drop big 4 s p in
    stand_opening t true (drop p s) es (simp length-drop (omega arith)) l (rw b (omega arith)) (rw (b, ← m, drop-drop 4 p s) st)

-- ---- the blocks: i of those that the directory lists are read, with `sum` entries; the listings left stand at `dir`, and `rest` is left

pub record InBlocks (t : ℕ) (ds : List Listing) (base : List ℕ) (i : ℕ) (dir : List ℕ) (before : Cell) (sum : ℕ) (rest : List ℕ) : Type 0 where
  pub left : List Listing
  pub listed : ListingsFrom t dir left
  pub count : length left ≡ length ds - i
  pub es : List Entry
  pub so : (f : AfterEntries) → blocks_of t ds base null [] base f ≡ blocks_of t left base before es rest f
  pub total : length es ≡ sum
  pub stand : (more : List Entry) → EntriesFrom t true 0 rest more → EntriesFrom t true 0 base (es ++ more)

pub in_blocks-first : (t : ℕ) (ds : List Listing) (base dir : List ℕ) → ListingsFrom t dir ds → InBlocks t ds base 0 dir null 0 base
in_blocks-first t ds base dir l = record { left = ds; listed = l; count = omega arith; es = []; so = λ f. refl; total = refl; stand = λ more g. g }

module _ {t : ℕ} {ds : List Listing} {base : List ℕ} {i : ℕ} {dir : List ℕ} {before : Cell} {sum : ℕ} {rest : List ℕ}
    (st : InBlocks t ds base i dir before sum rest) where
  pub in_blocks_done : length ds ≤ i → (f : AfterEntries) → blocks_of t ds base null [] base f ≡ f st.es rest
  unfolding blocks_of
  in_blocks_done h f = st.so f ∙ by st.left (omega (arith, st.count))
    where
      by : (left : List Listing) → length left ≡ 0 → blocks_of t left base before st.es rest f ≡ f st.es rest
      by [] z = refl
      by (d ∷ left) z = absurd (omega arith)

  pub in_blocks_stand : EntriesFrom t true 0 base st.es
  unfolding EntriesFrom
  in_blocks_stand = rw append-nil at (st.stand [] tt)

module _ {t : ℕ} {ds : List Listing} {i sum : ℕ} (s : List ℕ) (base q p : ℕ) (before : Option Span) (st : InBlocks t ds (drop base s) i (drop q s) (cell_at s before) sum (drop p s)) (lt : i < length ds) where
  pub in_blocks_refused : {r : Refusal} → BlockAt t before s base q p (Err r)
      → (f : AfterEntries) → blocks_of t ds (drop base s) null [] (drop base s) f ≡ Err r
  in_blocks_refused {r} x f = st.so f ∙ by st.left st.listed (omega (arith, st.count))
    where
      by : (left : List Listing) → ListingsFrom t (drop q s) left → 0 < length left → blocks_of t left (drop base s) (cell_at s before) st.es (drop p s) f ≡ Err r
      by [] l z = absurd (omega arith)
      by (d ∷ left) l z = x d left l st.es f

  pub in_blocks-next : (x : Block) → BlockAt t before s base q p (Ok x)
      → InBlocks t ds (drop base s) (i + 1) (drop x.listing.0 s) (cell_at s x.entries.last) (sum + x.number) (drop x.entries.next.0 s)
  in_blocks-next b x = by st.left st.listed st.count st.so
    where
      by : (left : List Listing) → ListingsFrom t (drop q s) left → length left ≡ length ds - i
          → ((f : AfterEntries) → blocks_of t ds (drop base s) null [] (drop base s) f ≡ blocks_of t left (drop base s) (cell_at s before) st.es (drop p s) f)
          → InBlocks t ds (drop base s) (i + 1) (drop b.listing.0 s) (cell_at s b.entries.last) (sum + b.number) (drop b.entries.next.0 s)
      by [] l c so = absurd (omega arith)
      by (d ∷ left) l c so =
          let y = x.0 d left l in
          let new : List Entry = y.1.0 in
          record {
            left = left;
            listed = y.0;
            count = omega arith;
            es = st.es ++ new;
            so = λ f. so f ∙ y.1.1 st.es f;
            total = simp length-append (omega (arith, st.total, y.1.2));
            stand = λ more g. rw append_assoc (st.stand (new ++ more) (y.1.3 more g));
          }

-- ---- version 2 from the block number on, n being the value number

pub fit_none : (n b : ℕ) → n ≡ 0 → eqb b 0 ≡ cond (eqb n 0) (eqb b 0) (leb 1 b)
fit_none n b h = rw (eq-eqb n 0 h)

pub fit_some : (n b : ℕ) → (n ≡ 0 → ⊥) → leb 1 b ≡ cond (eqb n 0) (eqb b 0) (leb 1 b)
fit_some n b h = rw (ne_eqb n 0 h)

abbrev behind_blocks : (t rows n : ℕ) (ns : List Entry) (offset : ℕ) (base : List ℕ) (es : List Entry) (region : List ℕ) → Result Dictionary Refusal
behind_blocks t rows n ns offset base es region =
    check (eqb offset (behind base region)) Dict (check (eqb (length es) n) Dict (Ok (record { rows = rows; entries = ns ++ es; region = region })))

module _ (t n : ℕ) (s : List ℕ) (at : ℕ) where
  pub two-count : {r : Refusal} → CountAt most_blocks s at (Err r) → AllEntriesAt true t n s at (Err r)
  unfolding blocked
  two-count x rows ns = x _

  module _ {b : ℕ} (x : CountAt most_blocks s at (Ok b)) where
    two_counted : (rows : ℕ) (ns : List Entry) → blocked t rows n ns (drop at s) ≡ check (cond (eqb n 0) (eqb b 0) (leb 1 b)) Dict
        (listings t b [] (drop (at + 4) s) (λ ds s'. number big 4 (Err Short) s' (λ offset base. blocks_of t ds base null [] base (behind_blocks t rows n ns offset base))))
    unfolding blocked
    two_counted rows ns = x.0 _

    pub two_unfit : {y : Bool} → y ≡ cond (eqb n 0) (eqb b 0) (leb 1 b) → y ≡ false → AllEntriesAt true t n s at (Err Dict)
    unfolding check
    two_unfit g h rows ns = two_counted rows ns ∙ simp (← g, h)

    module _ {y : Bool} (g : y ≡ cond (eqb n 0) (eqb b 0) (leb 1 b)) (fit : y ≡ true) where
      two_fit : (rows : ℕ) (ns : List Entry) → blocked t rows n ns (drop at s)
          ≡ listings t b [] (drop (at + 4) s) (λ ds s'. number big 4 (Err Short) s' (λ offset base. blocks_of t ds base null [] base (behind_blocks t rows n ns offset base)))
      unfolding check
      two_fit rows ns = two_counted rows ns ∙ simp (← g, fit)

      pub two-directory : {r : Refusal} → DirectoryAt t b s (at + 4) (Err r) → AllEntriesAt true t n s at (Err r)
      two-directory d rows ns = two_fit rows ns ∙ d _

      module _ {e : ℕ} (d : DirectoryAt t b s (at + 4) (Ok (position e))) where
        pub two-short : length s - e < 4 → AllEntriesAt true t n s at (Err Short)
        two-short h rows ns = two_fit rows ns ∙ d.1 _ ∙ word_short 4 s e _ h

        module _ (r : e + 4 ≤ length s) {offset : ℕ} (o : offset ≡ be_at 4 s e) where
          two-opened : (rows : ℕ) (ns : List Entry) → blocked t rows n ns (drop at s)
              ≡ blocks_of t d.0 (drop (e + 4) s) null [] (drop (e + 4) s) (behind_blocks t rows n ns offset (drop (e + 4) s))
          two-opened rows ns = two_fit rows ns ∙ d.1 _ ∙ rw o (word_at 4 s e _ r)

          pub two-broken : {r : Refusal} → BlocksAt t b s (at + 4) (e + 4) (Err r) → AllEntriesAt true t n s at (Err r)
          two-broken z rows ns = two-opened rows ns ∙ z d.0 d.2 _

          module _ {all : Blocks} (z : BlocksAt t b s (at + 4) (e + 4) (Ok all)) where
            es : List Entry
            es = (z.0 d.0 d.2).0

            two-read : (rows : ℕ) (ns : List Entry) → blocked t rows n ns (drop at s) ≡ check (eqb offset (all.next.0 - (e + 4))) Dict (check (eqb all.sum n) Dict
                (Ok (record { rows = rows; entries = ns ++ es; region = drop all.next.0 s })))
            unfolding es
            two-read rows ns =
                two-opened rows ns ∙ (z.0 d.0 d.2).1 _
                ∙ rw (behind_at s (e + 4) all.next.0 z.1 z.2, (z.0 d.0 d.2).2)

            pub two-offset : (offset ≡ all.next.0 - (e + 4) → ⊥) → AllEntriesAt true t n s at (Err Dict)
            unfolding check
            two-offset h rows ns = two-read rows ns ∙ simp (ne_eqb offset (all.next.0 - (e + 4)) h)

            module _ (h : offset ≡ all.next.0 - (e + 4)) where
              pub two_sum : (all.sum ≡ n → ⊥) → AllEntriesAt true t n s at (Err Dict)
              unfolding check
              two_sum q rows ns = two-read rows ns ∙ simp (eq-eqb offset (all.next.0 - (e + 4)) h, ne_eqb all.sum n q)

              pub two_ends : all.sum ≡ n → AllEntriesAt true t n s at (Ok (record { first = cursor (e + 4) 0; region = all.next }))
              unfolding check es
              two_ends q = (
                es,
                λ rows ns. two-read rows ns ∙ simp (eq-eqb offset (all.next.0 - (e + 4)) h, eq-eqb all.sum n q),
                (z.0 d.0 d.2).2 ∙ q,
                (z.0 d.0 d.2).3,
                refl,
                r,
                z.2,
              )
