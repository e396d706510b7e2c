-- What the laws of parts use about records.
use Rattle.zone_record.specs.RecordLaws.{AreRecordValues}
use Rattle.zone_record.specs.declared.record.Record.{Record}
use Rattle.zone_stream.specs.ReadBack.{IsPrintedRecordRead}

-- a record has values of its fields, and is read as it is printed
pub record IsKnownRecord {N O : Type 0} (r : Record N O) : Type 0 where
  pub values : AreRecordValues r
  pub read : IsPrintedRecordRead r
