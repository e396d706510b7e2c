use Rattle.std.proofs.Common.{◌++◌}
use Rattle.custom_record.specs.FieldLaws.{may_before, may_after, texts_parts, values_parts}
use Rattle.custom_record.proofs.OnlySpelled.{scanned_only}
use Rattle.custom_record.proofs.FieldsBack.{scanned_back}
use Rattle.custom_record.specs.Values.{SomeMayLack}
use Rattle.custom_record.proofs.fields.scan_fields.Goals as goal

pub returns-clause-fields : goal.returns-clause-fields
returns-clause-fields g c =
    let next = g.S.Scanner.next_token in
    let cause = g.S.Error.ScannerError.cause in
    let room = g.S.OctetsBuilder.OctetsBuilder.room in
    let values = g.T.FieldValue.values in
    record {
      back = λ x past tokens others is texts stands.
          let read = c.scan.ensures.reads tokens stands in
          scanned_back next cause room values (values x) others read.0 _ (past ++ values x) (may_after room past (values x)) c.scan.result
          (g.met.T.Field.back x tokens others read.0 _ is texts read.1) read.2;
      before = λ x past more tokens others is texts stands.
          let read = c.scan.ensures.reads tokens stands in
          let mine = values x in
          let valid = values_parts mine more is in
          let parts = texts_parts mine more tokens others texts in
          let among = λ (h : SomeMayLack room mine). may_after room past (mine ++ more) (may_before room mine more h) in (
            parts.0,
            valid.1,
            parts.2,
            scanned_back next cause room values mine parts.0 read.0 _ (past ++ (mine ++ more)) among c.scan.result
                (g.met.T.Field.back x tokens parts.0 read.0 _ valid.0 parts.1 read.1) read.2,
          );
      only = λ tokens stands.
          let read = c.scan.ensures.reads tokens stands in
          scanned_only next cause tokens _ values g.T.Scan.scan_reads g.met.T.Field.only read.0 c.scan.result read.1 read.2;
    }
