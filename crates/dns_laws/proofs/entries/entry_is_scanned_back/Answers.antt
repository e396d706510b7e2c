use Rattle.std.proofs.Common.{ℕ, List}
use Rattle.dns_scan.specs.Join.{IsJoin}
use Rattle.dns_zone.specs.EntryCodecs.{AnswersConverted, codec_of}
use Rattle.dns_zone.proofs.EntryConverting.{base_answer}
use Rattle.dns_laws.proofs.Converted.{base_text, base_only, plain_alphabet}
use Rattle.dns_laws.proofs.EntryTexts.{entry_back, entry_only, entry_whole}
use Rattle.dns_laws.proofs.GrammarOnce.{by_grammar}
use Rattle.dns_laws.proofs.Spelled.{base_encoding, base_same, base_needs}
use Rattle.dns_laws.proofs.entries.entry_is_scanned_back.Goals as goal

pub returns-clause-takes : goal.returns-clause-takes
returns-clause-takes g c = λ tokens stands.
    let answer : (text : List ℕ) → IsJoin tokens text
    → AnswersConverted (codec_of g.K.Encoding.base) g.S.Error.ScannerError.cause g.S.Octets.AsOctets.octets g.S.OctetsBuilder.OctetsBuilder.room text
    c.entries_convert_as_their_join.result =
    λ text join. base_answer g.S.Error.ScannerError.cause g.S.OctetsBuilder.OctetsBuilder.room g.K.Encoding.base
    g.S.Octets.AsOctets.octets text c.new.result c.entries_convert_as_their_join.result c.new.ensures
    (c.entries_convert_as_their_join.ensures.join tokens text stands join) in (
      record {
        whole = λ octets all is. entry_whole (codec_of g.K.Encoding.base) (base_same g.K.Encoding.base) (base_needs g.K.Encoding.base) g.K.Encoding.base
            (base_text g.K.Encoding.base g.met.K.Encoding.known) (base_only g.K.Encoding.base g.met.K.Encoding.known)
            g.S.Error.ScannerError.cause g.S.Octets.AsOctets.octets g.S.OctetsBuilder.OctetsBuilder.room
            c.entries_convert_as_their_join.result tokens answer octets all is;
        back = λ octets all is. entry_back (codec_of g.K.Encoding.base) (base_same g.K.Encoding.base) (base_needs g.K.Encoding.base) g.K.Encoding.base
            (base_text g.K.Encoding.base g.met.K.Encoding.known) (base_only g.K.Encoding.base g.met.K.Encoding.known)
            g.S.Error.ScannerError.cause g.S.Octets.AsOctets.octets g.S.OctetsBuilder.OctetsBuilder.room
            c.entries_convert_as_their_join.result tokens answer octets
            (plain_alphabet g.K.Encoding.base g.met.K.Encoding.known) (base_encoding g.K.Encoding.base g.met.K.Encoding.known octets all) is;
        answer = λ text join. by_grammar g.K.Encoding.base g.met.K.Encoding.known g.S.Error.ScannerError.cause g.S.Octets.AsOctets.octets g.S.OctetsBuilder.OctetsBuilder.room text
            c.entries_convert_as_their_join.result (answer text join);
        only = entry_only (codec_of g.K.Encoding.base) (base_same g.K.Encoding.base) (base_needs g.K.Encoding.base) g.K.Encoding.base
            (base_text g.K.Encoding.base g.met.K.Encoding.known) (base_only g.K.Encoding.base g.met.K.Encoding.known)
            g.S.Error.ScannerError.cause g.S.Octets.AsOctets.octets g.S.OctetsBuilder.OctetsBuilder.room
            c.entries_convert_as_their_join.result tokens answer (c.entries_convert_as_their_join.ensures.symbols tokens stands);
      },
      c.entries_convert_as_their_join.ensures.rest tokens stands,
    )
