use Rattle.std.proofs.Common.{◌≡◌, Some, Ok, Err, sym, subst}
use Rattle.zone_reader.specs.Included.{IsIncluded}
use Rattle.zone_reader.specs.declared.entry.ParsedEntry.TheVariants.{Include}
use Rattle.c_calls.specs.Records.{HasIncluded}
use Rattle.c_calls.proofs.KeptNames.{file_told}
use Rattle.c_calls.proofs.records.report_result.Goals as goal

pub returns-in-Some-Err : goal.returns-in-Some-Err
returns-in-Some-Err c =
    let is : c.args.given ≡ Some (Err c.in-Some-Err.error) = cc in
    rw is (c.report_rejected.ensures c.args.found.now)

pub returns-in-Some-Ok-Include : goal.returns-in-Some-Ok-Include
returns-in-Some-Ok-Include c =
    let at = c.in-Some-Ok-Include.at in
    let end = c.in-Some-Ok-Include.end in
    let file = c.in-Some-Ok-Include.file_name_len in
    let has_origin = c.in-Some-Ok-Include.has_origin in
    let octets = c.args.content.now in
    let is : c.args.given ≡ Some (Ok (Include at end file has_origin)) = cc in
    let read : IsIncluded file has_origin octets = subst (λ g. HasIncluded g octets) is c.requires.included in
    let told = file_told file has_origin octets c.include_parts.result.0.now c.include_parts.result.1.now read c.include_parts.ensures.file c.include_parts.ensures.origin in
    rw is (read, rw (sym told.0, sym (c.included_origin-known.ensures read.origin told.1)) (rw c.no_record-head.ensures at c.report_found.ensures))
