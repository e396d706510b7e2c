use Rattle.std.proofs.Common.{◌≡◌, ℕ, Option, Some, None, List, false, eqb, ap, ◌∙◌}
use Rattle.std.specs.Prelude.{slice_get}
use Rattle.std.specs.Cmp.Lexicographic.{pointwise}
use Rattle.std.specs.Option.{option_map, option_map_or}
use Rattle.zone_record.specs.Records.{data_of}
use Rattle.zone_record.specs.TypeData.{TypeData}
use Rattle.zone_record.specs.declared.record.Record.{Record}
use Rattle.zone_dnssec.proofs.OwnedRecords.{some_is}
use Rattle.zone_dnssec.proofs.algorithms.has_octets_at.Goals as goal

octets_in : {N O : Type 0} (octets : List ℕ) (o : Option (Record N O)) (x : TypeData) → Some x ≡ option_map data_of o
    → pointwise eqb x.octets octets ≡ option_map_or (λ r. pointwise eqb (data_of r).octets octets) o false
octets_in octets None x e = cc
octets_in octets (Some r) x e = ap (λ d. pointwise eqb d.octets octets) (some_is e)

pub returns : goal.returns
returns g c =
    c.eq.ensures ∙ ap (λ l. pointwise eqb l c.args.octets.now) c.as_slice.ensures.value
    ∙ octets_in c.args.octets.now (slice_get (g.Z.ZoneRecords.contents c.args.records.now) c.args.place) c.data_at.result c.data_at.ensures
