-- Worked examples of what is read of an entry, and of what later entries inherit from it.
use Rattle.std.specs.Prelude.{◌≡◌, false, [], ◌∷◌, Some, None, Ok, Err, codes, refl}
use Rattle.std.proofs.Common.{inl, inr, arith}
use Rattle.dns_lexer.specs.EntryTokens.{TokenSeen}
use Rattle.rdata_fields.specs.RecordErrors.{error_at}
use Rattle.rdata_values.specs.Rtype as Rtype
use Rattle.rdata_values.specs.declared.error.ErrorKind.TheVariants.{Quoted, UnknownDirective, NoOwner, NoTtl}
use Rattle.zone_reader.specs.declared.directive.Directive.TheVariants.{Origin, Ttl}
use Rattle.zone_reader.specs.declared.header.RecordHeader.{RecordHeader}
use Rattle.zone_reader.specs.EntryReading.{IsMinimum, ReadsOwner, record_with, declared_by_record, declared_by_rejected}
use Rattle.zone_reader.specs.Past.{NewOrigin, NewOwner, NewDefaultTtl, NewTtl, nothing_declared}
use Rattle.zone_reader.specs.declared.entry.ParsedEntry.TheVariants.{Record}
use Rattle.zone_reader.specs.declared.known.NameState.TheVariants.{Unset}
use Rattle.zone_reader.specs.declared.ttl.RecordTtl.TheVariants.{Explicit, Minimum}

abbrev owner : TokenSeen
owner = record { text = codes "w"; is_quoted = false; is_adjacent = false; at = 0 }

abbrev a_record : RecordHeader
a_record = record { ttl = None; class = None; rtype = Rtype.a }

-- an SOA whose data end in 0, 0, 3 and 132; another record has no minimum
minimum_row : IsMinimum Rtype.soa (1 ∷ 0 ∷ 0 ∷ 3 ∷ 132 ∷ []) (Some 900)
minimum_row = inl (refl, (Some 900, (1 ∷ [], 0 ∷ 0 ∷ 3 ∷ 132 ∷ [], refl, refl, refl), refl))

-- 2^31 is 0 as a TTL
long_minimum_row : IsMinimum Rtype.soa (1 ∷ 128 ∷ 0 ∷ 0 ∷ 0 ∷ []) (Some 0)
long_minimum_row = inl (refl, (Some 2147483648, (1 ∷ [], 128 ∷ 0 ∷ 0 ∷ 0 ∷ [], refl, refl, refl), refl))

no_minimum_row : IsMinimum Rtype.a (192 ∷ 0 ∷ 2 ∷ 1 ∷ []) None
no_minimum_row = inr (λ e. omega (arith, e), refl)

-- the class of a record without one is that where reading began
class_row : record_with (nothing_declared 1) 8 12 21 a_record (Some (Explicit 60)) ≡ Ok (Record 8 12 21 (Explicit 60) 1 Rtype.a)
class_row = refl

own_class_row : record_with (nothing_declared 1) 8 20 23 (record { ttl = None; class = Some 3; rtype = Rtype.txt }) (Some (Explicit 60)) ≡ Ok (Record 8 20 23 (Explicit 60) 3 Rtype.txt)
own_class_row = refl

-- `w A 192.0.2.1` if no TTL is known
no_ttl_row : record_with (nothing_declared 1) 0 4 13 a_record None ≡ Err (error_at 0 NoTtl)
no_ttl_row = refl

-- ` A 192.0.2.1` if no owner is known
no_owner_row : ReadsOwner (nothing_declared 1) 1 None (Err (error_at 1 NoOwner)) Unset
no_owner_row = (refl, refl, refl)

-- `w 60 "A"` has an owner and a TTL
refused_says_row : declared_by_record (Some owner) (Err (record { error = error_at 5 Quoted; ttl = Some 60; class = None })) (Err (error_at 5 Quoted))
    ≡ NewOwner (Some owner) ∷ NewTtl 60 ∷ []
refused_says_row = refl

-- an SOA that begins with a blank, and whose TTL is its minimum
minimum_says_row : declared_by_record None (Ok (record { ttl = None; class = None; rtype = Rtype.soa })) (Ok (Record 1 5 70 (Minimum 900) 1 Rtype.soa)) ≡ NewDefaultTtl 900 ∷ []
minimum_says_row = refl

-- `$ORIGIN a b`, `$TTL 1 2` and `$FOO`
refused_origin_row : declared_by_rejected (Some (Ok Origin)) ≡ NewOrigin None ∷ []
refused_origin_row = refl

refused_ttl_row : declared_by_rejected (Some (Ok Ttl)) ≡ []
refused_ttl_row = refl

unknown_directive_row : declared_by_rejected (Some (Err UnknownDirective)) ≡ []
unknown_directive_row = refl
