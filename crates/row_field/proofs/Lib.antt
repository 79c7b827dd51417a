-- Laws of rows and row fields.
pub mod Laws
pub mod RowLists
pub mod Marks
pub mod Loops
pub mod Counts
pub mod Fronts
pub mod LowestClear
pub mod ByteRows
pub mod RunRows
pub mod FirstClear
pub mod FullFields
