use Rattle.std.proofs.Common.{◌≡◌, ℕ, ◌/◌, length, sym, ap, ◌∙◌, arith}
use Rattle.hash_table.specs.Promises.{low_bits, hash_words, hash_of}
use Rattle.hash_table.proofs.Hashing.{chunks_next, chunks_done, bytes_next, bytes_done, by_chunks}
use Rattle.hash_table.proofs.hash.Goals as goal

pub loop-word-preserved : goal.loop-word-preserved
loop-word-preserved c =
    let l = c.loop-word in
    rw (c.mix-h.ensures, c.from_le_bytes.ensures) (chunks_next l.h l.word-index c.as_chunks.result.0.now (omega arith) ∙ l.invariant)

pub loop-byte-preserved : goal.loop-byte-preserved
loop-byte-preserved c =
    let l = c.loop-byte in
    rw (c.mix-h-in-loop-byte.ensures, c.from.ensures) (bytes_next l.h l.byte-index c.as_chunks.result.1.now (omega arith) ∙ l.invariant)

pub returns : goal.returns
unfolding hash_of
returns c =
    let v = c.args.v.now in
    let s = c.as_chunks in
    let words = sym (chunks_done c.loop-word.h c.loop-word.word-index s.result.0.now (omega arith)) ∙ c.loop-word.invariant in
    let bytes = sym (bytes_done c.loop-byte.h c.loop-byte.byte-index s.result.1.now (omega arith)) ∙ c.loop-byte.invariant in
    let all : c.loop-byte.h ≡ hash_words (length v / 4) 0 v =
    rw (words, s.ensures.front, s.ensures.back) at bytes ∙ sym (by_chunks (length v / 4) 0 v (omega arith)) in
    (ap (λ (h : ℕ). h / low_bits) all, omega arith)
