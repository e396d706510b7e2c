-- Records, digests and serials as JSON objects.
use Rattle.std.specs.Prelude.{ℕ, List, [], ◌∷◌, codes}
use Rattle.std.specs.Fmt.{decimal}
use Rattle.finding_formats.specs.Escape.{escaped}
use Rattle.finding_formats.specs.Pieces.{parts_text, number_if, text_if}
use Rattle.finding_formats.specs.declared.escape.Context.TheVariants.{Json}
use Rattle.finding_formats.specs.declared.record_json.DigestFields.{DigestFields}
use Rattle.finding_formats.specs.declared.record_json.RecordFields.{RecordFields}
use Rattle.finding_formats.specs.declared.record_json.SerialFields.{SerialFields}

abbrev pub record_object : RecordFields → List ℕ
record_object r = parts_text (
    codes "{" ∷ text_if Json (codes "\"change\":\"") r.change (codes "\",") ∷ codes "\"owner\":\"" ∷ escaped Json r.owner.now
    ∷ codes "\",\"ttl\":" ∷ decimal r.ttl ∷ codes ",\"class\":\"" ∷ escaped Json r.class.now ∷ codes "\",\"type\":\"" ∷ escaped Json r.rtype.now
    ∷ codes "\",\"data\":\"" ∷ escaped Json r.rdata.now ∷ codes "\""
    ∷ text_if Json (codes ",\"file\":\"") r.file (codes "\"") ∷ number_if (codes ",\"line\":") r.line ∷ codes "}\n" ∷ [])

abbrev pub digest_object : DigestFields → List ℕ
digest_object d = parts_text (
    codes "{\"file\":\"" ∷ escaped Json d.file.now ∷ codes "\",\"serial\":" ∷ decimal d.serial ∷ codes ",\"scheme\":" ∷ decimal d.scheme
    ∷ codes ",\"hash\":" ∷ decimal d.hash ∷ codes ",\"verdict\":\"" ∷ escaped Json d.verdict.now ∷ codes "\"}\n" ∷ [])

abbrev pub serial_object : SerialFields → List ℕ
serial_object s = parts_text (
    codes "{\"file\":\"" ∷ escaped Json s.file.now ∷ codes "\",\"zone\":\"" ∷ escaped Json s.zone.now ∷ codes "\",\"old\":" ∷ decimal s.old
    ∷ number_if (codes ",\"new\":") s.new ∷ codes "}\n" ∷ [])
