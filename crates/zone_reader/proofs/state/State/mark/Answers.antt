use Rattle.std.proofs.Common.{sym, subst}
use Rattle.zone_reader.specs.Past.{IsOriginAfter, IsOwnerAfter}
use Rattle.zone_reader.proofs.state.State.mark.Goals as goal

pub returns : goal.returns
returns c = λ start past h. record {
  origin = subst (IsOriginAfter start past) (sym c.copied-origin.ensures) h.origin;
  owner = subst (IsOwnerAfter start past) (sym c.copied-owner.ensures) h.owner;
}
