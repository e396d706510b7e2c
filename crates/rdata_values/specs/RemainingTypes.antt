-- The state of an iterator over a bitmap.
use Rattle.std.specs.Prelude.{ℕ, ◌+◌, List, ◌++◌}
use Rattle.rdata_values.specs.Bitmap.{types_in, types_of}
use Rattle.rdata_values.specs.declared.bitmap.Cursor.{Cursor}

-- the types of the window from the bit on, and those of the blocks after it
abbrev pub remaining_types : Cursor → List ℕ
remaining_types c = types_in c.window c.octets.now c.place ++ types_of c.rest.now

-- the cursor at the next bit
abbrev pub moved_on : Cursor → Cursor
moved_on c = record c { place = c.place + 1 }
