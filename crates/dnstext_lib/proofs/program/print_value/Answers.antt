use Rattle.dns_codec.specs.Base.{base16, base32hex, base64}
use Rattle.std.proofs.Common.{subst, sym}
use Rattle.dns_zone.specs.EntryCodecs.{hex_codec, base32hex_codec, base64_codec}
use Rattle.dnstext_lib.specs.Program.{LineWritten}
use Rattle.dnstext_lib.proofs.Converting.{base_stops, octets_line}
use Rattle.dnstext_lib.proofs.program.print_value.Goals as goal

pub returns-in-Hex-clause-line : goal.returns-in-Hex-clause-line
returns-in-Hex-clause-line g c = λ token others stands.
    subst (λ k. LineWritten g.S.Error.ScannerError.cause g.O.Write.write_str_gives k token c.args.out.now c.print_octets.result c.print_octets.new.out) (sym c.in-Hex.is)
    (octets_line g.S.Error.ScannerError.cause g.O.Write.write_str_gives hex_codec token _
    (λ r runs. base_stops g.S.Error.ScannerError.cause g.S.OctetsBuilder.OctetsBuilder.room base16 token c.new.result r c.new.ensures runs)
    _ _ _ (c.print_octets.ensures.line token others stands))

pub returns-in-Base32hex-clause-line : goal.returns-in-Base32hex-clause-line
returns-in-Base32hex-clause-line g c = λ token others stands.
    subst (λ k. LineWritten g.S.Error.ScannerError.cause g.O.Write.write_str_gives k token c.args.out.now c.print_octets-in-Base32hex.result
    c.print_octets-in-Base32hex.new.out) (sym c.in-Base32hex.is)
    (octets_line g.S.Error.ScannerError.cause g.O.Write.write_str_gives base32hex_codec token _
    (λ r runs. base_stops g.S.Error.ScannerError.cause g.S.OctetsBuilder.OctetsBuilder.room base32hex token c.new-in-Base32hex.result r
    c.new-in-Base32hex.ensures runs)
    _ _ _ (c.print_octets-in-Base32hex.ensures.line token others stands))

pub returns-in-Base64-clause-line : goal.returns-in-Base64-clause-line
returns-in-Base64-clause-line g c = λ token others stands.
    subst (λ k. LineWritten g.S.Error.ScannerError.cause g.O.Write.write_str_gives k token c.args.out.now c.print_octets-in-Base64.result c.print_octets-in-Base64.new.out) (sym c.in-Base64.is)
    (octets_line g.S.Error.ScannerError.cause g.O.Write.write_str_gives base64_codec token _
    (λ r runs. base_stops g.S.Error.ScannerError.cause g.S.OctetsBuilder.OctetsBuilder.room base64 token c.new-in-Base64.result r c.new-in-Base64.ensures runs)
    _ _ _ (c.print_octets-in-Base64.ensures.line token others stands))
