use Rattle.std.proofs.Common.{Ok, Err, refl, subst}
use Rattle.dns_octets.specs.Room.{exactly}
use Rattle.c_calls.specs.DataText.{data_error}
use Rattle.c_calls.specs.Reasons.{ReportsDataError}
use Rattle.c_calls.proofs.reading.read_with_origin.Goals as goal

pub returns-in-Ok : goal.returns-in-Ok
returns-in-Ok c = let given = rw c.in-Ok.is at c.read_in_room.ensures in (Ok given.0, given.1.1 refl (exactly 65535), given.2)

pub returns-else-rejected : goal.returns-else-rejected
returns-else-rejected c =
    let given = rw c.in-Err.is at c.read_in_room.ensures in (
      Err (data_error c.in-Err.rejected),
      given.0.1 c.if-rejected.false (exactly 65535),
      subst (λ o. ReportsDataError (data_error c.in-Err.rejected) o c.report_rejected.result c.report_rejected.new.octets c.report_rejected.new.outcome) given.1 c.report_rejected.ensures,
    )
