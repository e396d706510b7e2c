-- What is appended for a file to include.
use Rattle.std.specs.Prelude.{⊤, ◌≡◌, ℕ, Bool, List, ◌++◌, length, is_some, Option, Some, None, Ok}
use Rattle.dns_octets.specs.Room.{Room}
use Rattle.dns_wire.specs.Wire.{EndsInRoot, IsName}
use Rattle.zone_reader.specs.EntryReading.{origin_octets}
use Rattle.zone_reader.specs.Records.{ReadsNextEntry}
use Rattle.zone_reader.specs.declared.entry.ParsedEntry.TheVariants.{Include}
use Rattle.zone_reader.specs.declared.records.RecordReader.{RecordReader}

-- the origin is an absolute name, if there is one
abbrev pub IsAbsoluteOrigin : Option (List (List ℕ)) → Type 0
IsAbsoluteOrigin None = ⊤
IsAbsoluteOrigin (Some labels) = IsName labels × EndsInRoot labels

-- an origin, whether there is one, and its octets
pub record OriginAppended (origin : Option (List (List ℕ))) (has_origin : Bool) (octets : List ℕ) : Type 0 where
  pub has : has_origin ≡ is_some origin
  pub octets_are : octets ≡ origin_octets origin
  pub absolute : IsAbsoluteOrigin origin

-- the first octets, in this number, name the file, and those of its origin come after them
pub record IsIncluded (file : ℕ) (has_origin : Bool) (octets : List ℕ) : Type 0 where
  pub name : List ℕ
  pub origin : Option (List (List ℕ))
  pub behind : List ℕ
  pub count : file ≡ length name
  pub both : octets ≡ name ++ behind
  pub said : OriginAppended origin has_origin behind

-- A call that returns a file to include appends the octets of its name, and after them those of its origin, if the entry has one.
abbrev pub FilesAreAppended : Type 0
FilesAreAppended = (room : Room) (before after : RecordReader) (old new : List ℕ) (at end file : ℕ) (has_origin : Bool) → ReadsNextEntry room before old (Some (Ok (Include at end file has_origin))) after new
    → (octets : List ℕ) × (new ≡ old ++ octets) × IsIncluded file has_origin octets
