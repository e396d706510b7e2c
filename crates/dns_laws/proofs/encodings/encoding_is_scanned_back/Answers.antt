use Rattle.std.proofs.Common.{ℕ, List}
use Rattle.dns_scan.specs.Octets.{ReturnsWhere}
use Rattle.dns_scan.proofs.Whole.{of_first}
use Rattle.dns_codec.specs.Grammar.{IsEncodingOf}
use Rattle.dns_zone.specs.EntryCodecs.{codec_of}
use Rattle.dns_zone.proofs.EntryConverting.{base_answer}
use Rattle.dns_laws.proofs.Converted.{base_text, base_only}
use Rattle.dns_laws.proofs.GrammarOnce.{by_grammar}
use Rattle.dns_laws.proofs.Spelled.{gives_value, gives_only, base_encoding, base_same, base_needs}
use Rattle.dns_laws.proofs.encodings.encoding_is_scanned_back.Goals as goal

pub returns-clause-takes : goal.returns-clause-takes
returns-clause-takes g c = λ token others stands.
    let first = of_first g.S.Scanner.next_token g.S.Error.ScannerError.cause _ _ _ _ token others stands c.convert_token.ensures.scans in
    let answer = base_answer g.S.Error.ScannerError.cause g.S.OctetsBuilder.OctetsBuilder.room g.K.Encoding.base
    g.S.Octets.AsOctets.octets token c.new.result c.convert_token.result c.new.ensures first.0 in
    let whole : (octets : List ℕ) → IsEncodingOf g.K.Encoding.base token octets
    → ReturnsWhere g.S.Error.ScannerError.cause g.S.Octets.AsOctets.octets g.S.OctetsBuilder.OctetsBuilder.room octets c.convert_token.result =
    λ octets is. gives_value (codec_of g.K.Encoding.base) (base_same g.K.Encoding.base) (base_needs g.K.Encoding.base) g.K.Encoding.base
    (base_text g.K.Encoding.base g.met.K.Encoding.known) (base_only g.K.Encoding.base g.met.K.Encoding.known)
    g.S.Error.ScannerError.cause g.S.Octets.AsOctets.octets g.S.OctetsBuilder.OctetsBuilder.room
    token octets c.convert_token.result is answer in (
      record {
        whole = whole;
        back = λ octets all at. whole octets (rw at (base_encoding g.K.Encoding.base g.met.K.Encoding.known octets all));
        answer = by_grammar g.K.Encoding.base g.met.K.Encoding.known g.S.Error.ScannerError.cause g.S.Octets.AsOctets.octets g.S.OctetsBuilder.OctetsBuilder.room token c.convert_token.result answer;
        only = gives_only (codec_of g.K.Encoding.base) (base_same g.K.Encoding.base) (base_needs g.K.Encoding.base) g.K.Encoding.base
            (base_text g.K.Encoding.base g.met.K.Encoding.known) (base_only g.K.Encoding.base g.met.K.Encoding.known)
            g.S.Error.ScannerError.cause g.S.Octets.AsOctets.octets g.S.OctetsBuilder.OctetsBuilder.room
            token c.convert_token.result answer;
      },
      first.1,
    )
