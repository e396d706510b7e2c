use Rattle.std.proofs.Common.{List, ℕ, subst}
use Rattle.std.specs.Option.{option_copied}
use Rattle.std.proofs.lemmas.Result.{err_from_is_err_and}
use Rattle.dns_octets.specs.Room.{within}
use Rattle.rdata.specs.ByType.{RefusesType}
use Rattle.rdata.specs.Limits.{max_data}
use Rattle.rdata.proofs.by_type.data_of_type.Goals as goal

pub returns-in_err-read_rdata-clause-err : goal.returns-in_err-read_rdata-clause-err
returns-in_err-read_rdata-clause-err g c =
    let p = err_from_is_err_and c.from_residual.result c.from_residual.ensures.1 in
    let room = within max_data g.B.OctetsBuilder.room in
    rw (p.1, p.2) (c.read_rdata.new.target, subst (λ (old : List ℕ). RefusesType (option_copied c.args.origin) room c.args.rtype (g.S.TokenSource.end c.args.source.now).at (g.S.TokenSource.left c.args.source.now) old c.in_err-read_rdata.field-0.0 (g.S.TokenSource.left c.read_rdata.new.source) c.read_rdata.new.target) c.new-target.ensures c.in_err-read_rdata.ensures.reads)
