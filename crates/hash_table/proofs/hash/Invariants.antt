-- What is left, hashed from here, gives the whole: the words first, then the bytes behind them.
use Rattle.std.proofs.Common.{◌≡◌, drop}
use Rattle.hash_table.specs.Promises.{hash_of_bytes}
use Rattle.hash_table.proofs.Hashing.{hash_chunks}
use Rattle.hash_table.proofs.hash.Given as goal

abbrev pub invariant-loop-word : goal.invariant-loop-word
invariant-loop-word l = hash_chunks l.h (drop l.word-index l.words) ≡ hash_chunks 0 l.words

abbrev pub invariant-loop-byte : goal.invariant-loop-byte
invariant-loop-byte l = hash_of_bytes l.h (drop l.byte-index l.bytes) ≡ hash_of_bytes l.initial.h l.bytes
