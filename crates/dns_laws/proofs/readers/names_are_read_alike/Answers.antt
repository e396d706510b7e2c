use Rattle.std.proofs.Common.{None, refl}
use Rattle.dns_laws.proofs.ReaderNames.{absolute_spelled, absolute_read, relative_spelled, relative_read}
use Rattle.dns_laws.proofs.readers.names_are_read_alike.Goals as goal

pub returns-clause-absolute : goal.returns-clause-absolute
returns-clause-absolute g c = λ text name. (
  λ h. let k = absolute_spelled g.row.Octets.Denot None text name h in (k.0, k.1, k.2, k.3),
  λ h. absolute_read g.row.Octets.Denot text name h.0 h.1 h.2 h.3,
)

pub returns-clause-field : goal.returns-clause-field
returns-clause-field g c = λ origin text name h.
    let k = absolute_spelled g.row.Octets.Denot origin text name h in
    (refl, record { labels = name; spelled = k.2; is_name = k.3; absolute = k.4; whole = refl })

pub returns-clause-relative : goal.returns-clause-relative
returns-clause-relative g c = λ text others form no_at n ends. (
  λ h. let k = relative_spelled g.row.Octets.Denot text others form no_at n ends h in (k.0, k.1, k.2, (refl, k.3)),
  λ h. relative_read g.row.Octets.Denot text others form no_at ends h.0 h.1 h.2 h.3.1,
)
