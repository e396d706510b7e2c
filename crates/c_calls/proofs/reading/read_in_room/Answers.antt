use Rattle.std.proofs.Common.{◌≡◌, rules}
use Rattle.c_calls.proofs.reading.read_in_room.Goals as goal

pub returns-in-Ok : goal.returns-in-Ok
returns-in-Ok g c =
    let all : c.read_text.new.target.items ≡ c.as_slice.result.now = search rules in
    (c.as_slice.result.now, rw all at (rw c.in-Ok.is at c.read_text.ensures), c.copy_whole.ensures)
