use Rattle.std.proofs.Common.{◌≡◌, ◌-◌, take, drop}
use Rattle.std.specs.Option.{option_copied}
use Rattle.rdata_fields.specs.Source.{next_place}
use Rattle.rdata_fields.specs.Parsing.{HasParsedFields}
use Rattle.rdata_fields.proofs.parsing.parse_fields.Given as goal

-- the fields before the index are parsed
abbrev pub invariant-loop-place : goal.invariant-loop-place
invariant-loop-place g l =
    let left = g.S.TokenSource.left in
    let octets = g.B.AsOctets.octets in
    record {
      taken : HasParsedFields (option_copied l.origin) (take l.place l.fields) (left l.fn.source) (octets l.fn.target) (left l.source) (octets l.target);
      end : g.S.TokenSource.end l.source ≡ g.S.TokenSource.end l.fn.source;
      last : l.last ≡ next_place (drop (l.place - 1) (left l.fn.source)) (g.S.TokenSource.end l.fn.source).at;
    }
