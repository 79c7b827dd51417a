-- The files of a column: "A file is the column's if it keeps the head's rules and lists the asked column once, in it the asked kind once,
-- whose start and length give such a body", the body being the column's. Within the limit on buffers.
use Rattle.std.specs.Prelude.{ℕ, ◌≤◌, List, length}
use Rattle.refusal.specs.Meaning.{limit}
use Rattle.stored_value.specs.Meaning.{Cell}
use Rattle.index_file.specs.Layout.{File}
use Rattle.bitmap_index.specs.Layout.{ColumnBody}

pub record ColumnFile (t : ℕ) (cells : List Cell) (column kind bytes : List ℕ) : Type 0 where
  pub body : List ℕ
  pub file : File column kind body bytes
  pub laid : ColumnBody t cells body
  pub small : length bytes ≤ limit
