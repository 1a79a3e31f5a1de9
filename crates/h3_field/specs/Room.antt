-- What the block of a value that was read has room for.
use Rattle.std.specs.Prelude.{◌+◌, ◌<◌, ◌≤◌, ℕ, Vec, vec_len, vec_capacity}
use Rattle.std.specs.declared.alloc.Global.{Global}
use Rattle.h3_field.specs.declared.block.literal.LiteralWithNameRef as line
use Rattle.h3_field.specs.declared.stream.insertion.InsertWithNameRef as insertion

-- Behind a string that is not empty there is room for so many bytes more, in its block.
abbrev pub HasRoom : ℕ → Vec ℕ Global → Type 0
HasRoom spare bytes = 0 < vec_len bytes → vec_len bytes + spare ≤ vec_capacity bytes

-- the value of a line, with its block
abbrev pub line_value : line.LiteralWithNameRef → Vec ℕ Global
line_value (line.TheVariants.Static index value n) = value
line_value (line.TheVariants.Dynamic index value n) = value

-- the value of an insertion, with its block
abbrev pub inserted_value : insertion.InsertWithNameRef → Vec ℕ Global
inserted_value (insertion.TheVariants.Static index value) = value
inserted_value (insertion.TheVariants.Dynamic index value) = value
